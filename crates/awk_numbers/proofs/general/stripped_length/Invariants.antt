use Rattle.std.proofs.Common.{◌≡◌, ◌≤◌, length, take}
use Rattle.awk_numbers.specs.General.{stripped}
use Rattle.awk_numbers.proofs.general.stripped_length.Given as goal

abbrev pub invariant-bytes : goal.invariant-bytes
invariant-bytes l = (l.length ≤ length l.text) × (stripped l.last l.text ≡ stripped l.last (take l.length l.text))

abbrev pub decreases-bytes : goal.decreases-bytes
decreases-bytes l = l.length
