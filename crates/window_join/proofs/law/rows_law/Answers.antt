use Rattle.window_join.proofs.Windowed.{windowed_before, windowed_row}
use Rattle.window_join.proofs.law.rows_law.Goals as goal

pub returns : goal.returns
returns c = λ A n rows. (windowed_before A n rows, windowed_row A n rows)
