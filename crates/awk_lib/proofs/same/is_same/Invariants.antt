use Rattle.std.specs.Prelude.{◌≡◌, length}
use Rattle.std.specs.Str.{bytes_eq}
use Rattle.awk_lib.proofs.same.is_same.Given as goal

abbrev pub invariant-loop-p : goal.invariant-loop-p
invariant-loop-p l = bytes_eq l.left l.right ≡ bytes_eq l.initial.left l.initial.right

abbrev pub decreases-loop-p : goal.decreases-loop-p
decreases-loop-p l = length l.left
