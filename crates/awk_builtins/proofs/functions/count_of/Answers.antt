use Rattle.std.proofs.Common.{◌≡◌, ◌<◌, ◌≤◌, List, [], ◌∷◌, length, get_or, drop, refl, ap, sym, arith}
use Rattle.std.specs.Prelude.{Ok, None, Some}
use Rattle.awk_format.specs.Directives.{◌>>=◌}
use Rattle.awk_text.specs.declared.value.Value.{Value}
use Rattle.awk_numbers.specs.declared.number.Numbers.{Numbers}
use Rattle.awk_text.specs.Arithmetic.{clamped}
use Rattle.awk_text.specs.Values.{number_of}
use Rattle.awk_machine.specs.Builtins.{count_of}

third : (numbers : Numbers) (vs : List Value) (d : Value) → 3 ≤ length vs → d ≡ get_or vs 2 d
    → count_of numbers (drop 2 vs) ≡ (number_of numbers d >>= λ n. Ok (Some (clamped n)))
third numbers [] d h e = absurd (omega (arith, h))
third numbers (x ∷ []) d h e = absurd (omega (arith, h))
third numbers (x ∷ y ∷ []) d h e = absurd (omega (arith, h))
third numbers (x ∷ y ∷ z ∷ vs) d h e = ap (λ u. number_of numbers u >>= λ n. Ok (Some (clamped n))) (sym e)

no_third : (numbers : Numbers) (vs : List Value) → length vs < 3 → count_of numbers (drop 2 vs) ≡ Ok None
no_third numbers [] h = refl
no_third numbers (x ∷ []) h = refl
no_third numbers (x ∷ y ∷ []) h = refl
no_third numbers (x ∷ y ∷ z ∷ vs) h = absurd (omega (arith, h))
