use Rattle.std.proofs.Common.{arith}
use Rattle.awk_ere.proofs.Cuts.{pieces_length}
use Rattle.awk_ere.proofs.pieces.StepLists.len.Goals as goal

pub returns : goal.returns
returns c = rw (← c.self.view_is) (omega (
  arith,
  c.len.ensures,
  c.self.inside.ends.ok,
  pieces_length 0 c.self.inside.steps.items c.self.inside.ends.items,
))
