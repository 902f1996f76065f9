use Rattle.std.proofs.Common.{◌≡◌, drop}
use Rattle.std.specs.List.{list_all}
use Rattle.box_advice.specs.Covers.{is_flat}
use Rattle.box_advice.proofs.covers.are_flat.Given as goal

abbrev pub invariant-loop-piece : goal.invariant-loop-piece
invariant-loop-piece l = list_all is_flat (drop l.piece-index l.components) ≡ list_all is_flat l.components
