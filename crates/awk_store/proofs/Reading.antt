-- What is read of a store.
use Rattle.std.specs.Prelude.{◌≡◌, ◌≢◌, ◌<◌, ◌==◌, ◌⊎◌, ℕ, zero, suc, true, false, codes, List, [], ◌∷◌, length, map}
use Rattle.std.specs.Prelude.{get_or, slice_get, Option, Some, None, unwrap_or, option_map, refl}
use Rattle.std.proofs.Common.{sym, ◌∙◌, ap, arith, inl, inr}
use Rattle.std.specs.Str.{bytes_eq}
use Rattle.std.proofs.lemmas.Bool.Decides.{eqb_tells}
use Rattle.std.proofs.lemmas.Option.{slice_get-map, unwrap_or-slice_get}
use Rattle.awk_text.specs.declared.value.Value.TheVariants as v
use Rattle.awk_text.specs.Values.{text_of}
use Rattle.awk_program.specs.Slots.{Text, slot_of}
use Rattle.awk_program.specs.declared.variables.Own.TheVariants as own_
use Rattle.awk_program.specs.declared.variables.Variable.TheVariants.{Global, Parameter}
use Rattle.awk_machine.specs.State as m
use Rattle.awk_machine.specs.Variables as variables
use Rattle.awk_store.specs.declared.frame.Bound.{Bound}
use Rattle.awk_store.specs.declared.frame.Bound.TheVariants.{Scalar, Handed}
use Rattle.awk_store.specs.declared.frame.Reference.TheVariants.{Shared, Made, Nothing}
use Rattle.awk_store.specs.Kept as kept
use Rattle.awk_store.specs.Kept.{Kept, scalar, listed, bound_scalar}
use Rattle.awk_store.specs.Laws.{Reads, ReadsVariable, ReadsOwn, ReadsText, ReadsReference, ReadsArrayAt, ReadsArray}
use Rattle.awk_store.specs.Laws.{TellsNf}
use Rattle.awk_store.specs.States.{Sound, bound_of, reference_of}
use Rattle.awk_store.proofs.Slots.{differs, named, not_empty, same_text}

-- ---- parameters

bound_read : (names : List Text) (b : Option Bound)
    → variables.bound_value (unwrap_or (option_map (bound_of names) b) (m.Scalar v.Unset))
    ≡ unwrap_or (bound_scalar b) v.Unset
bound_read names None = refl
bound_read names (Some (Scalar x)) = refl
bound_read names (Some (Handed reference)) = refl

parameter_read : (names : List Text) (frame : List Bound) (k : ℕ) →
    variables.bound_value (get_or (map (bound_of names) frame) k (m.Scalar v.Unset))
    ≡ unwrap_or (bound_scalar (slice_get frame k)) v.Unset
parameter_read names frame k =
    rw (
      sym (unwrap_or-slice_get (map (bound_of names) frame) k (m.Scalar v.Unset)),
      slice_get-map (bound_of names) frame k,
    ) (bound_read names (slice_get frame k))

pub handed_read : (names : List Text) (b : Option Bound) → variables.bound_reference (option_map (bound_of names) b)
    ≡ reference_of names (kept.bound_reference b)
handed_read names None = refl
handed_read names (Some (Scalar x)) = refl
handed_read names (Some (Handed reference)) = refl

-- ---- the laws

pub variable : Reads ReadsVariable
variable names k hidden sound same (Global n) = ap (λ c. unwrap_or (scalar c) v.Unset)
    (named names k.cells n sound.once same)
variable names k hidden sound same (Parameter n) = parameter_read names k.frame n

pub own : Reads ReadsOwn
own names k hidden sound same x =
    rw (sym (sound.own x)) (ap (λ c. unwrap_or (scalar c) v.Unset) (named names k.cells (slot_of x) sound.once same))

pub text : Reads ReadsText
text names k hidden sound same x = ap text_of (own names k hidden sound same x)

-- the slot of a name that is not empty is one
inside : (names : List Text) (k : ℕ) (b : ℕ) (bs : Text) → get_or names k [] ≡ b ∷ bs → k < length names
inside [] k b bs e = absurd (cc)
inside (n ∷ ns) zero b bs e = omega arith
inside (n ∷ ns) (suc k) b bs e = omega (arith, inside ns k b bs e)

nf_by : (names : List Text) → Sound names → (n : ℕ) → ((n == 5 ≡ true) × (n ≡ 5)) ⊎ ((n == 5 ≡ false) × (n ≢ 5))
    → bytes_eq (get_or names n []) (codes "NF") ≡ (n == 5)
nf_by names sound n (inl (e, same)) = rw (e, same, sound.own own_.Nf) (same_text (codes "NF"))
nf_by names sound n (inr (e, other)) =
    rw e (differs (get_or names n []) (codes "NF")
    (λ is. other (sym (sound.once 5 n (inside names 5 _ _ (sound.own own_.Nf)) (sound.own own_.Nf ∙ is)))))

pub tells_nf : Reads TellsNf
tells_nf names k hidden sound same (Global n) = nf_by names sound n (eqb_tells n 5)
tells_nf names k hidden sound same (Parameter n) = refl

pub reference : Reads ReadsReference
reference names k hidden sound same (Global n) = refl
reference names k hidden sound same (Parameter n) = rw (slice_get-map (bound_of names) k.frame n)
    (handed_read names (slice_get k.frame n))

pub array_at : Reads ReadsArrayAt
array_at names k hidden sound same (Shared n) = ap (λ c. unwrap_or (listed c) [])
    (named names k.cells n sound.once same)
array_at names k hidden sound same (Made n) = sym (unwrap_or-slice_get k.made n [])
array_at names k hidden sound same Nothing = ap (λ c. unwrap_or (listed c) []) (not_empty names k.cells sound.once)

pub array : Reads ReadsArray
array names k hidden sound same x = rw (reference names k hidden sound same x) (array_at names k hidden sound same
    (kept.reference k x))
