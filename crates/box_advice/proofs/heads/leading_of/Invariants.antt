use Rattle.std.proofs.Common.{◌≡◌, ◌+◌, drop, length}
use Rattle.box_advice.specs.Heads.{first_mark, head_of, mark_of}
use Rattle.box_advice.proofs.heads.leading_of.Given as goal

-- those before stand for themselves
abbrev pub invariant-loop-piece : goal.invariant-loop-piece
invariant-loop-piece l = record {
  at : l.depth ≡ l.piece-index;
  depth : l.depth + length (head_of l.kind (drop l.piece-index l.pieces)) ≡ length (head_of l.kind l.pieces);
  mark : mark_of l.mark (head_of l.kind (drop l.piece-index l.pieces)) ≡ mark_of first_mark (head_of l.kind l.pieces);
}
