-- The statements that leave what is left to be done.
use Rattle.std.proofs.Common.{◌≡◌, refl, sym, ap, subst, ◌∙◌, ℕ, ◌≢◌, ℤ, List, [], ◌∷◌}
use Rattle.std.specs.Prelude.{Result, Ok, Err, Some, None, pos, unsigned_abs}
use Rattle.std.specs.Int.{int_rem_euclid}
use Rattle.awk_text.specs.declared.fault.Fault.{Fault}
use Rattle.awk_text.specs.declared.fault.Fault.TheVariants as fault
use Rattle.awk_text.specs.declared.place.Place.{Place}
use Rattle.awk_text.specs.declared.value.Value.{Value}
use Rattle.awk_format.specs.Directives.{◌>>=◌}
use Rattle.awk_program.specs.declared.jumps.Jump.TheVariants as j
use Rattle.awk_program.specs.Program as p
use Rattle.awk_program.specs.Program.{Expression}
use Rattle.awk_machine.specs.Advances.{held}
use Rattle.awk_machine.specs.Pieces.{Piece, At, Doing, Goes, Faulted, ends, granted}
use Rattle.awk_machine.specs.State.{State, Course, Given}
use Rattle.awk_machine.specs.Statements.{next, next_file, skipping, unwound, after_exit, to_records}
use Rattle.awk_machine.specs.Streams.{seen}
use Rattle.awk_store.specs.Changes as changes
use Rattle.awk_store.specs.Kept.{Kept}
use Rattle.awk_store.specs.States.{Hidden, phase_of}
use Rattle.awk_store.specs.declared.phase.Phase.{Phase}
use Rattle.awk_store.specs.declared.phase.Phase.TheVariants as phase
use Rattle.awk_store.specs.Numbers.{exit_status, whole_number}
use Rattle.awk_store.proofs.Wholly.{whole_plain}
use Rattle.awk_streams.specs.declared.halt.Halt.{Halt}
use Rattle.awk_streams.specs.declared.halt.Halt.TheVariants as halt
use Rattle.awk_streams.specs.Tables.{Table}
use Rattle.awk_store.specs.Wholes.{Agreeing, base}
use Rattle.awk_streams.specs.Chains.{halt_at}
use Rattle.awk_store.specs.Acts.{Acts, Passes}
use Rattle.awk_store.proofs.Acting.{at_rest, moves, alters, done, closed}
use Rattle.awk_store.specs.Jumps.{Jumps}

abbrev status_ok : ℕ → Result ℕ Fault
status_ok n = Ok n

abbrev status_err : Fault → Result ℕ Fault
status_err f = Err f

-- ---- next and exit

unwinds : (g : Given) (k : Kept) (t : Table) (hid : Hidden) (c : Course) → Agreeing g (k, t) hid c
    → Agreeing g (changes.unwound k, t) hid c
unwinds g k t hid c a = record { tells = a.tells; row = a.row; cells = a.cells; sound = a.sound }

module _ (g : Given) (old : Kept) (t : Table) where
  pub next_so : (place : Place) → old.phase ≡ phase.Ruling → Passes g (At (Doing (p.jump (j.Next place))) []) (
    old,
    t,
  ) to_records (changes.unwound old, t)
  next_so place is = alters refl (at_rest _ _) (λ k hid c a. (
    hid,
    unwinds g old t hid c a,
    ap (λ ph. held g (seen (base g (old, t) hid) c) (next (phase_of ph) place k (seen (base g (old, t) hid) c))) is,
  ))

  next_by : (ph : Phase) (place : Place) (k : List Piece) (s : State) → ph ≢ phase.Ruling → next (phase_of ph) place k s
      ≡ Goes (ends (Faulted fault.NextOutside place)) s
  next_by phase.Beginning place k s not = refl
  next_by phase.Ruling place k s not = absurd (not refl)
  next_by phase.Ending place k s not = refl

  pub next_not : (place : Place) → old.phase ≢ phase.Ruling → Passes g (At (Doing (p.jump (j.Next place))) []) (old, t)
      (λ k. ends (Faulted fault.NextOutside place)) (old, t)
  next_not place not = moves (at_rest _ _) (λ k hid c a. ap (held g (seen (base g (old, t) hid) c))
      (next_by old.phase place k (seen (base g (old, t) hid) c) not))

  next_file_so : (place : Place) → old.phase ≡ phase.Ruling → Passes g (At (Doing (p.jump (j.NextFile place))) []) (
    old,
    t,
  ) (λ k. skipping old.main.current (to_records k)) (changes.unwound old, t)
  next_file_so place is =
      alters refl (at_rest _ _) (λ k hid c a. (
        hid,
        unwinds g old t hid c a,
        ap (λ ph. held g (seen (base g (old, t) hid) c) (next_file (phase_of ph) place k (seen (base g (old, t) hid) c)))
            is,
      ))

  next_file_by : (ph : Phase) (place : Place) (k : List Piece) (s : State) → ph ≢ phase.Ruling
      → next_file (phase_of ph) place k s ≡ Goes (ends (Faulted fault.NextOutside place)) s
  next_file_by phase.Beginning place k s not = refl
  next_file_by phase.Ruling place k s not = absurd (not refl)
  next_file_by phase.Ending place k s not = refl

  next_file_not : (place : Place) → old.phase ≢ phase.Ruling → Passes g (At (Doing (p.jump (j.NextFile place))) [])
      (old, t) (λ k. ends (Faulted fault.NextOutside place)) (old, t)
  next_file_not place not = moves (at_rest _ _) (λ k hid c a. ap (held g (seen (base g (old, t) hid) c))
      (next_file_by old.phase place k (seen (base g (old, t) hid) c) not))

  pub exit_so : (place : Place) → Passes g (At (Doing (p.exit place None)) []) (old, t)
      (λ k. after_exit (phase_of old.phase)) (changes.unwound old, t)
  exit_so place = alters refl (at_rest _ _) (λ k hid c a. (hid, unwinds g old t hid c a, refl))

  statuses : (n : ℕ) (hid : Hidden) (c : Course) → Agreeing g (old, t) hid c
      → Agreeing g (changes.with_status n (changes.unwound old), t) hid c
  statuses n hid c a = record { tells = a.tells; row = a.row; cells = a.cells; sound = a.sound }

  exit_by : (made : Result ℤ Fault) (n : ℕ) → (made >>= λ z. Ok (unsigned_abs (int_rem_euclid z (pos 256)))) ≡ Ok n
      → (place : Place) (k : List Piece) (s : State) →
      granted place made (λ z k s. Goes (after_exit s.phase)
      (record (unwound s) { status = Some (unsigned_abs (int_rem_euclid z (pos 256))) })) k s
      ≡ Goes (after_exit s.phase) (record (unwound s) { status = Some n })
  exit_by (Ok z) n is place k s = ap (λ m. Goes (after_exit s.phase) (record (unwound s) { status = Some m }))
      (ok_inj (unsigned_abs (int_rem_euclid z (pos 256))) n is)
    where
      ok_inj : (a b : ℕ) → status_ok a ≡ status_ok b → a ≡ b
      ok_inj a b e = cc
  exit_by (Err f) n is place k s = absurd (cc)

  pub exit_with_so : (place : Place) (x : Expression) (val : Value) (n : ℕ) → exit_status old.numbers val ≡ Ok n →
      Passes g (At (Doing (p.exit place (Some x))) (val ∷ [])) (old, t) (λ k. after_exit (phase_of old.phase))
      (changes.with_status n (changes.unwound old), t)
  exit_with_so place x val n is =
      alters refl (at_rest _ _) (λ k hid c a. (
        hid,
        statuses n hid c a,
        ap (held g (seen (base g (old, t) hid) c))
            (exit_by (whole_number old.numbers val) n is place k (seen (base g (old, t) hid) c)),
      ))

  exit_met : (made : Result ℤ Fault) (f : Fault) → (made >>= λ z. Ok (unsigned_abs (int_rem_euclid z (pos 256))))
      ≡ Err f → (place : Place) (k : List Piece) (s : State) →
      granted place made (λ z k s. Goes (after_exit s.phase)
      (record (unwound s) { status = Some (unsigned_abs (int_rem_euclid z (pos 256))) })) k s
      ≡ Goes (ends (Faulted f place)) s
  exit_met (Ok z) f is place k s = absurd (cc)
  exit_met (Err e) f is place k s = ap (λ m. Goes (ends (Faulted m place)) s) (err_inj e f is)
    where
      err_inj : (a b : Fault) → status_err a ≡ status_err b → a ≡ b
      err_inj a b e = cc

  pub exit_with_not : (place : Place) (x : Expression) (val : Value) (f : Fault) → exit_status old.numbers val ≡ Err f
      → Passes g (At (Doing (p.exit place (Some x))) (val ∷ [])) (old, t) (λ k. ends (Faulted f place)) (old, t)
  exit_with_not place x val f is = moves (at_rest _ _) (λ k hid c a. ap (held g (seen (base g (old, t) hid) c))
      (exit_met (whole_number old.numbers val) f is place k (seen (base g (old, t) hid) c)))

  -- ---- as the code has them

  pub next_is : (place : Place) (ph : Phase) (new : Kept) → ph ≡ old.phase → ph ≡ phase.Ruling
      → new ≡ changes.unwound old → Passes g (At (Doing (p.jump (j.Next place))) []) (old, t) to_records (new, t)
  next_is place ph new of is same = subst (λ (n : Kept). Passes g (At (Doing (p.jump (j.Next place))) []) (
    old,
    t,
  ) to_records (n, t)) (sym same) (next_so place (sym of ∙ is))

  pub next_is_not : (place : Place) (ph : Phase) → ph ≡ old.phase → ph ≢ phase.Ruling
      → Passes g (At (Doing (p.jump (j.Next place))) []) (old, t) (λ k. ends (Faulted fault.NextOutside place)) (old, t)
  next_is_not place ph of not = next_not place (λ e. not (of ∙ e))

  pub next_file_is : (place : Place) (ph : Phase) (new : Kept) → ph ≡ old.phase → ph ≡ phase.Ruling
      → new ≡ changes.unwound old →
      Acts g (At (Doing (p.jump (j.NextFile place))) []) (λ (u : Unit {0}) k. skipping new.main.current (to_records k))
      (old, t) (Ok tt) (new, t)
  next_file_is place ph new of is same =
      subst (λ (n : Kept). Acts g (At (Doing (p.jump (j.NextFile place))) [])
      (λ (u : Unit {0}) k. skipping n.main.current (to_records k)) (old, t) (Ok tt) (n, t)) (sym same)
      (done {on = λ (u : Unit {0}) k. skipping old.main.current (to_records k)} (next_file_so place (sym of ∙ is)))

  pub next_file_is_not : (place : Place) (ph : Phase) → ph ≡ old.phase → ph ≢ phase.Ruling →
      Acts g (At (Doing (p.jump (j.NextFile place))) []) (λ (u : Unit {0}) k. skipping old.main.current (to_records k))
      (old, t) (Err (halt.Fault fault.NextOutside place)) (old, t)
  next_file_is_not place ph of not = closed (next_file_not place (λ e. not (of ∙ e)))

  pub exit_is : (place : Place) (new : Kept) → new ≡ changes.unwound old → Passes g (At (Doing (p.exit place None)) [])
      (old, t) (λ k. after_exit (phase_of new.phase)) (new, t)
  exit_is place new same = subst (λ (n : Kept). Passes g (At (Doing (p.exit place None)) []) (old, t)
      (λ k. after_exit (phase_of n.phase)) (n, t)) (sym same) (exit_so place)

  pub exit_with_is : (place : Place) (x : Expression) (val : Value) (n : ℕ) (mid new : Kept)
      → exit_status old.numbers val ≡ Ok n
      → mid ≡ changes.unwound old → new ≡ changes.with_status n mid →
      Passes g (At (Doing (p.exit place (Some x))) (val ∷ [])) (old, t) (λ k. after_exit (phase_of new.phase)) (new, t)
  exit_with_is place x val n mid new is unwinds_to same =
      subst (λ (m : Kept). Passes g (At (Doing (p.exit place (Some x))) (val ∷ [])) (old, t)
      (λ k. after_exit (phase_of m.phase)) (m, t)) (sym (same ∙ ap (changes.with_status n) unwinds_to))
      (exit_with_so place x val n is)

-- the fault of a status is that of its number
status_by : (r : Result ℤ Fault) (f : Fault) → (r >>= λ n. Ok (unsigned_abs (int_rem_euclid n (pos 256)))) ≡ Err f
    → r ≡ Err f
status_by (Ok n) f is = absurd (cc)
status_by (Err e) f is = ap (λ x. Err x) (err_inj e f is)
  where
    err_inj : (a b : Fault) → status_err a ≡ status_err b → a ≡ b
    err_inj a b e = cc

pub exit_with_is_not : (g : Given) (old : Kept) (t : Table) (place : Place) (x : Expression) (val : Value) (f : Fault)
    (h : Halt) → exit_status old.numbers val ≡ Err f → h ≡ halt_at place f →
    Jumps g (At (Doing (p.exit place (Some x))) (val ∷ [])) (old, t) h (old, t)
exit_with_is_not g old t place x val f h is same =
    let plain = whole_plain old.numbers val f (status_by (whole_number old.numbers val) f is) in
    subst (λ y. Jumps g (At (Doing (p.exit place (Some x))) (val ∷ [])) (old, t) y (old, t))
    (sym (same ∙ plain place)) (exit_with_not g old t place x val f is)
