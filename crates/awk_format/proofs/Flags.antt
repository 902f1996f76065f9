-- The flags of a conversion specification, read from the first to the last.
use Rattle.std.proofs.Common.{◌≡◌, ℕ, ◌+◌, ◌==◌, ◌<◌, Bool, true, false, ◌||◌, List, length, take, get_or, refl, sym}
use Rattle.std.proofs.Common.{◌∙◌}
use Rattle.std.proofs.lemmas.List.Folds.{list_any_more}
use Rattle.awk_format.specs.declared.directive.Flags.{Flags}
use Rattle.awk_format.specs.Directives.{flags_of, has, with_flag}

other_way : (a b : Bool) → (a || b) ≡ (b || a)
other_way true true = refl
other_way true false = refl
other_way false true = refl
other_way false false = refl

has_more : (flag : ℕ) (run : List ℕ) (i : ℕ) → i < length run → has flag (take (i + 1) run)
    ≡ (get_or run i 0 == flag || has flag (take i run))
has_more flag run i within = list_any_more (λ x. x == flag) run i 0 within ∙ other_way (has flag (take i run))
    (get_or run i 0 == flag)

one_more : (run : List ℕ) (i : ℕ) → i < length run → flags_of (take (i + 1) run) ≡ with_flag (get_or run i 0)
    (flags_of (take i run))
one_more run i within = λ j. record {
  left = has_more 0x2D run i within j;
  plus = has_more 0x2B run i within j;
  space = has_more 0x20 run i within j;
  alternate = has_more 0x23 run i within j;
  zero = has_more 0x30 run i within j;
}

pub flags_more : (f : Flags) (run : List ℕ) (i : ℕ) → i < length run → f ≡ flags_of (take i run)
    → with_flag (get_or run i 0) f ≡ flags_of (take (i + 1) run)
flags_more f run i within so_far = rw so_far (sym (one_more run i within))
