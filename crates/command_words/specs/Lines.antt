-- The lines that refuse words. This project's own.
use Rattle.std.specs.Prelude.{ℕ, List, codes}
use Rattle.command_words.specs.declared.command.UsageFault.{UsageFault}
use Rattle.command_words.specs.declared.command.UsageFault.TheVariants.{Words, Mode, Stop, Workers, Model}

-- the line that names the check that fails
abbrev pub usage_line : UsageFault → List ℕ
usage_line Words = codes "usage: words\n"
usage_line Mode = codes "usage: --mode\n"
usage_line Stop = codes "usage: --stop\n"
usage_line Workers = codes "usage: --workers\n"
usage_line Model = codes "usage: MODEL\n"
