-- Calls.
use Rattle.std.specs.Prelude.{◌≡◌, ◌+◌, ℕ, Bool, true, false, List, [], ◌∷◌, length, map, refl}
use Rattle.std.proofs.Common.{sym, ap}
use Rattle.std.proofs.lemmas.List.{map-append}
use Rattle.awk_text.specs.declared.value.Value.TheVariants as v
use Rattle.awk_program.specs.Slots.{Text}
use Rattle.awk_machine.specs.Calls as calls
use Rattle.awk_machine.specs.State as m
use Rattle.awk_store.specs.Changes as changes
use Rattle.awk_store.specs.Laws.{Enters}
use Rattle.awk_store.specs.States.{bound_of}

missing_same : (names : List Text) (n : ℕ) (others : List Bool) → calls.missing n others ≡ map (bound_of names)
    (changes.missing n others)
missing_same names n [] = refl
missing_same names n (true ∷ others) = ap (λ bs. m.Handed (m.Made n) ∷ bs) (missing_same names (n + 1) others)
missing_same names n (false ∷ others) = ap (λ bs. m.Scalar v.Unset ∷ bs) (missing_same names n others)

arrays_same : (others : List Bool) → calls.new_arrays others ≡ changes.new_arrays others
arrays_same [] = refl
arrays_same (true ∷ others) = ap (λ as_. [] ∷ as_) (arrays_same others)
arrays_same (false ∷ others) = arrays_same others

pub enters : Enters
enters names k hidden given others =
    rw (
      missing_same names (length k.made) others,
      arrays_same others,
      sym (map-append (bound_of names) given (changes.missing (length k.made) others)),
    ) refl
