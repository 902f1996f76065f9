use Rattle.std.proofs.Common.{◌≡◌, drop}
use Rattle.box_advice.specs.Heads.{piece_mark}
use Rattle.box_advice.proofs.heads.piece_mark.Given as goal

abbrev pub invariant-loop-byte : goal.invariant-loop-byte
invariant-loop-byte l = piece_mark l.sum (drop l.byte-index l.piece) ≡ piece_mark l.mark l.piece
