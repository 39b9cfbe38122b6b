use Rattle.std.proofs.Common.{◌≡◌, drop}
use Rattle.outside_io.specs.Files.{first_named}
use Rattle.outside_io.specs.FilesInMemory.{files_of}
use Rattle.outside_io.proofs.memory_shelf.file_of.Given as goal

abbrev pub invariant-loop-file : goal.invariant-loop-file
invariant-loop-file l = first_named l.name (files_of (drop l.file-index l.files)) ≡ first_named l.name (files_of l.files)
