-- What is set in a store.
use Rattle.std.specs.Prelude.{◌≡◌, ℕ, List, [], get_or, slice_get, Option, None, option_map, if◌then◌else◌, Bool, true}
use Rattle.std.specs.Prelude.{false, refl}
use Rattle.std.specs.Str.{bytes_eq}
use Rattle.std.proofs.Common.{sym, ◌∙◌, ap}
use Rattle.std.proofs.lemmas.List.{map-set}
use Rattle.std.proofs.lemmas.Option.{slice_get-map}
use Rattle.std.proofs.lemmas.Slice.Eq.{bytes_eq-Decides}
use Rattle.std.proofs.Math.Path.{fun_ext}
use Rattle.awk_text.specs.declared.value.Value.{Value}
use Rattle.awk_program.specs.Slots.{Text, slot_of}
use Rattle.awk_program.specs.declared.variables.Variable.TheVariants.{Global, Parameter}
use Rattle.awk_machine.specs.State.{Array}
use Rattle.awk_machine.specs.Variables as variables
use Rattle.awk_machine.specs.Variables.{changed}
use Rattle.awk_store.specs.declared.frame.Bound.TheVariants.{Scalar}
use Rattle.awk_store.specs.declared.frame.Reference.TheVariants.{Shared, Made, Nothing}
use Rattle.awk_store.specs.Changes as changes
use Rattle.awk_store.specs.Kept as kept
use Rattle.awk_store.specs.Kept.{Kept, listed}
use Rattle.awk_store.specs.Laws.{Changes, SetsVariable, SetsOwn, SetsArrayAt, SetsArray}
use Rattle.awk_store.specs.States.{Hidden, IsOnce, arrays_of, bound_of, state}
use Rattle.awk_store.proofs.Reading.{handed_read}
use Rattle.awk_store.proofs.Slots.{set_value, set_array, values_stay, arrays_stay, not_empty}

pub global_set : (names : List Text) (k : Kept) (hidden : Hidden) (n : ℕ) (x : Value) → IsOnce names
    → variables.with_own (get_or names n []) x (state names k hidden) ≡ state names (changes.with_value (Global n) x k)
    hidden
global_set names k hidden n x once =
    ap (λ vs. record (state names k hidden) { values = vs }) (set_value names k.cells n once x)
    ∙ ap (λ as_. record (state names (changes.with_value (Global n) x k) hidden) { arrays = as_ })
    (arrays_stay names k.cells n once x)

pub variable : Changes SetsVariable
variable names k hidden sound (Global n) x = global_set names k hidden n x sound.once
variable names k hidden sound (Parameter n) x = ap (λ ls. record (state names k hidden) { locals = ls })
    (sym (map-set (bound_of names) k.frame n (Scalar x)))

pub own : Changes SetsOwn
own names k hidden sound name x = rw (sym (sound.own name)) (global_set names k hidden (slot_of name) x sound.once)

-- no array has the empty name
kept_by : {A : Type 0} (b : Bool) (a : A) (x : Option A) → x ≡ None → (if b then option_map (λ old. a) x else x) ≡ x
kept_by true a x none = rw none refl
kept_by false a x none = refl

nothing_at : (f : Text → Option Array) (a : Array) (other : Text) → f [] ≡ None → (b : Bool) → bytes_eq [] other ≡ b
    → changed f [] a other ≡ f other
nothing_at f a other none true e = rw e (kept_by true a (f other) (ap f (sym ((bytes_eq-Decides [] other).0 e)) ∙ none))
nothing_at f a other none false e = rw e refl

nothing_set : (f : Text → Option Array) (a : Array) → f [] ≡ None → changed f [] a ≡ f
nothing_set f a none = fun_ext (λ other. nothing_at f a other none (bytes_eq [] other) refl)

pub array_at : Changes SetsArrayAt
array_at names k hidden sound (Shared n) a =
    ap (λ as_. record (state names k hidden) { arrays = as_ }) (set_array names k.cells n sound.once a)
    ∙ ap (λ vs. record (state names (changes.with_array (Shared n) a k) hidden) { values = vs })
    (values_stay names k.cells n sound.once a)
array_at names k hidden sound (Made n) a = refl
array_at names k hidden sound Nothing a =
    ap (λ as_. record (state names k hidden) { arrays = as_ }) (nothing_set (arrays_of names k.cells) a
    (ap listed (not_empty names k.cells sound.once)))

pub array : Changes SetsArray
array names k hidden sound (Global n) a = array_at names k hidden sound (Shared n) a
array names k hidden sound (Parameter n) a =
    rw (slice_get-map (bound_of names) k.frame n, handed_read names (slice_get k.frame n))
    (array_at names k hidden sound (kept.bound_reference (slice_get k.frame n)) a)
