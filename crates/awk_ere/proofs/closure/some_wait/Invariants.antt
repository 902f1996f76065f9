use Rattle.std.proofs.Common.{◌≡◌, ◌<◌, ℕ, Some, false, length, get_or}
use Rattle.std.specs.List.{slice_get}
use Rattle.awk_ere.specs.Closure.{is_at_end}
use Rattle.awk_ere.specs.declared.program.Instruction.{Instruction}
use Rattle.awk_ere.proofs.closure.some_wait.Given as goal

abbrev pub invariant-loop-at : goal.invariant-loop-at
invariant-loop-at l = (i : ℕ) (x : Instruction) → i < l.at-index → i < length l.list
    → slice_get l.program (get_or l.list i 0) ≡ Some x → is_at_end x ≡ false
