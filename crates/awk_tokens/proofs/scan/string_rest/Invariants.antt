use Rattle.std.proofs.Common.{◌≡◌, ◌≤◌, length, false}
use Rattle.awk_tokens.specs.Scan.{string_rest}
use Rattle.awk_tokens.proofs.scan.string_rest.Given as goal

abbrev pub invariant-loop-z : goal.invariant-loop-z
invariant-loop-z l = (string_rest l.escaped l.z ≡ string_rest false l.initial.z) × (length l.z ≤ length l.initial.z)

abbrev pub decreases-loop-z : goal.decreases-loop-z
decreases-loop-z l = length l.z
