-- A text within the limit is what the machine lets through.
use Rattle.std.proofs.Common.{◌≡◌, ℕ, ◌≤◌, Bool, true, false, List, length, Ok, refl, arith}
use Rattle.std.proofs.lemmas.Bool.Decides.{nat_tests}
use Rattle.std.specs.Prelude.{nat_le}
use Rattle.awk_text.specs.Limits.{most_bytes}
use Rattle.awk_machine.specs.Operators.{limited}

limited_ok_by : (b : Bool) (text : List ℕ) → nat_le (length text) most_bytes ≡ b → length text ≤ most_bytes
    → limited text ≡ Ok text
limited_ok_by true text e h = rw e refl
limited_ok_by false text e h = absurd (grind (arith, nat_tests))

pub limited_ok : (text : List ℕ) → length text ≤ most_bytes → limited text ≡ Ok text
limited_ok text h = limited_ok_by (nat_le (length text) most_bytes) text refl h
