-- What the ghost fields of a valid program say, as a fact about its numbers, for this crate and those above it. Assumes nothing.
use Rattle.program.specs.Rows.{Valid}
use Rattle.program.specs.declared.valid.ValidProgram.{ValidProgram}

pub valid_of : (p : ValidProgram) → Valid p.numbers.now
valid_of p = record { shape = p.shape; order = p.order }
