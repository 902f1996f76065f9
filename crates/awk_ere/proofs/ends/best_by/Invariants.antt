use Rattle.std.proofs.Common.{ℕ, Bool, List}
use Rattle.awk_ere.specs.Ends.{AreFarthest}
use Rattle.awk_ere.specs.declared.program.Instruction.{Instruction}
use Rattle.awk_ere.proofs.Ending.{NoStart}
use Rattle.awk_ere.proofs.ends.best_by.Given as goal

abbrev pub invariant-loop-place : goal.invariant-loop-place
invariant-loop-place l = (sets : List (List Bool)) (program : List Instruction) (e : ℕ)
    → AreFarthest sets program l.text e l.ends → NoStart sets program l.text e l.from l.place
