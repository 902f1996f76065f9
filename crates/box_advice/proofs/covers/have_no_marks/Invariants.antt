use Rattle.std.proofs.Common.{◌≡◌, drop}
use Rattle.std.specs.List.{list_all}
use Rattle.box_advice.specs.Covers.{has_no_mark}
use Rattle.box_advice.proofs.covers.have_no_marks.Given as goal

abbrev pub invariant-loop-piece : goal.invariant-loop-piece
invariant-loop-piece l = list_all has_no_mark (drop l.piece-index l.components) ≡ list_all has_no_mark l.components
