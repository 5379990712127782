use Rattle.program.specs.Rows.{row_count}
use Rattle.program.proofs.Programs.{equations, program_in_is}
use Rattle.program.proofs.laws.rows_stand_for_programs.Goals as goal

pub returns : goal.returns
returns c xs v = (λ i l. equations xs (row_count xs) i v.order l, program_in_is xs v)
