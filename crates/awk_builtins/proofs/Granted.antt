-- What a form makes at a place, or the fault that it meets there.
use Rattle.std.proofs.Common.{◌≡◌, ◌⊎◌, inl, inr, refl, sym, ap, subst, ◌∙◌, List, ◌∷◌}
use Rattle.std.specs.Prelude.{Result, Ok, Err, IfOk, IfErr}
use Rattle.awk_text.specs.declared.fault.Fault.{Fault}
use Rattle.awk_text.specs.declared.fault.Fault.TheVariants as fault
use Rattle.awk_text.specs.declared.place.Place.{Place}
use Rattle.awk_machine.specs.Advances.{advance, held}
use Rattle.awk_machine.specs.Pieces.{Piece, Goes, granted, Faulted, ends}
use Rattle.awk_machine.specs.State.{Course, Given}
use Rattle.awk_machine.specs.Streams.{seen}
use Rattle.awk_store.specs.States.{Hidden}
use Rattle.awk_streams.specs.declared.halt.Halt.{Halt}
use Rattle.awk_streams.specs.declared.halt.Halt.TheVariants as halt
use Rattle.awk_store.specs.Wholes.{Whole, Agreeing, base}
use Rattle.awk_streams.specs.Chains.{halt_at, result_at}
use Rattle.awk_store.specs.Acts.{Acts}
use Rattle.awk_store.proofs.Acting.{at_rest, moves, done, faulted, lacking}

abbrev result_err : {X : Type 0} → Halt → Result X Halt
result_err h = Err h

module _ {X : Type 0} (g : Given) (w : Whole) (p : Piece) (place : Place) (on : X → List Piece → List Piece) where
  -- the machine goes on with what is made, or to its fault
  abbrev pub Grants : Result X Fault → Type 0
  Grants made = (k : List Piece) (hid : Hidden) (c : Course) → Agreeing g w hid c →
      advance g (p ∷ k) (seen (base g w hid) c) ≡ held g (seen (base g w hid) c)
      (granted place made (λ x k s. Goes (on x k) s) k (seen (base g w hid) c))

  pub given_so : (made : Result X Fault) → Grants made → Acts g p on w (result_at place made) w
  given_so (Ok x) e = done (moves (at_rest _ w) e)
  given_so (Err f) e = faulted refl (inr (moves (at_rest _ w) e))

  -- the code may lack memory for it
  pub given_or_lacks : (spec made : Result X Fault) → IfOk made (λ x. spec ≡ Ok x) → IfErr made (λ e. (e ≡ fault.Memory)
      ⊎ (spec ≡ Err e)) → Grants spec → Acts g p on w (result_at place made) w
  given_or_lacks spec (Ok x) ok err e = given_so (Ok x) (subst Grants ok e)
  given_or_lacks spec (Err f) ok (inl m) e = faulted refl (inl m)
  given_or_lacks spec (Err f) ok (inr m) e = given_so (Err f) (subst Grants m e)

  -- what is made already
  pub given_now : (spec : Result X Fault) (x : X) → spec ≡ Ok x → Grants spec → Acts g p on w (Ok x) w
  given_now spec x m e = given_so (Ok x) (subst Grants m e)

  pub met_now : (spec : Result X Fault) (f : Fault) → spec ≡ Err f → Grants spec
      → Acts g p on w (Err (halt_at place f)) w
  met_now spec f m e = given_so (Err f) (subst Grants m e)

  pub owned_so : (spec : Result X Fault) (x : X) (made : Result X Halt) → spec ≡ Ok x → IfOk made (λ y. y ≡ x)
      → IfErr made (λ h. h ≡ halt.Memory) → Grants spec → Acts g p on w made w
  owned_so spec x (Ok y) m ok err e = given_now spec y (m ∙ ap (λ z. Ok z) (sym ok)) e
  owned_so spec x (Err h) m ok err e = subst (λ z. Acts g p on w (Err z) w) (sym err) (lacking refl)

same_halt : {X : Type 0} (x h : Halt) → result_err {X = X} x ≡ result_err h → x ≡ h
same_halt x h e = cc

-- a fault is met, or memory is refused
pub met_so : {A X Y : Type 0} {on : A → List Piece → List Piece} (g : Given) (w : Whole) (p : Piece) (place : Place)
    (spec : Result Y Fault) (made : Result X Fault) (h : Halt) → IfErr made (λ e. (e ≡ fault.Memory) ⊎ (spec ≡ Err e)) →
    result_at place made ≡ Err h →
    ((f : Fault) → spec ≡ Err f → (k : List Piece) (hid : Hidden) (c : Course) → Agreeing g w hid c
    → advance g (p ∷ k) (seen (base g w hid) c) ≡ Goes (ends (Faulted f place)) (seen (base g w hid) c))
    → Acts g p on w (Err h) w
met_so g w p place spec (Ok x) h why is e = absurd (cc)
met_so {on = on} g w p place spec (Err f) h (inl m) is e = subst (λ z. Acts g p on w (Err z) w)
    (same_halt (halt_at place f) h is) (faulted refl (inl m))
met_so {on = on} g w p place spec (Err f) h (inr m) is e = subst (λ z. Acts g p on w (Err z) w)
    (same_halt (halt_at place f) h is) (faulted refl (inr (moves (at_rest _ w) (e f m))))

-- what is halted gives nothing, of whatever kind
pub as_halted : {A B : Type 0} {g : Given} {p : Piece} {old new : Whole} {on : A → List Piece → List Piece} {to : B
    → List Piece → List Piece} {h : Halt} → Acts g p on old (Err h) new → Acts g p to old (Err h) new
as_halted x = record { same = x.same; settles = λ k hid c a. x.settles k hid c a }

pub met_by : {A X : Type 0} {P : Fault → Type 0} {on : A → List Piece → List Piece} (g : Given) (w : Whole) (p : Piece)
    (place : Place) (made : Result X Fault) (h : Halt) → IfErr made P → result_at place made ≡ Err h →
    ((f : Fault) → P f → (k : List Piece) (hid : Hidden) (c : Course) → Agreeing g w hid c
    → advance g (p ∷ k) (seen (base g w hid) c) ≡ Goes (ends (Faulted f place)) (seen (base g w hid) c))
    → Acts g p on w (Err h) w
met_by g w p place (Ok x) h why is e = absurd (cc)
met_by {on = on} g w p place (Err f) h why is e = subst (λ z. Acts g p on w (Err z) w)
    (same_halt (halt_at place f) h is) (faulted refl (inr (moves (at_rest _ w) (e f why))))
