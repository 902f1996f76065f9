use Rattle.std.proofs.Common.{◌≡◌, ◌∷◌, ◌++◌, drop}
use Rattle.box_advice.specs.Heads.{first_mark, marks_from}
use Rattle.box_advice.proofs.heads.marks_of.Given as goal

abbrev pub invariant-loop-piece : goal.invariant-loop-piece
invariant-loop-piece l = l.marks.items ++ marks_from l.mark (drop l.piece-index l.pieces)
    ≡ first_mark ∷ marks_from first_mark l.pieces
