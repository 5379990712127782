use Rattle.program.proofs.Programs.{depth_does_not_matter}
use Rattle.program.proofs.laws.depth_does_not_matter.Goals as goal

pub returns : goal.returns
returns c xs depth i v l h = depth_does_not_matter xs _ depth i v.order l h
