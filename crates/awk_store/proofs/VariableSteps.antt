-- How targets are read and set.
use Rattle.std.proofs.Common.{◌≡◌, ◌⊎◌, inl, inr, refl, sym, ap, subst, ◌∙◌, ℕ, ℤ, true, false, List, ◌∷◌, length}
use Rattle.std.specs.Prelude.{Result, Ok, Err, pos, OnOk, OnErr, IfErr}
use Rattle.awk_fields.specs.Rows.{Field, Row, IsKept, HasFields, SetsCount, SetsNoCount, with_count, place_of}
use Rattle.awk_format.specs.Directives.{◌>>=◌}
use Rattle.awk_text.specs.Arithmetic.{whole_of}
use Rattle.awk_text.specs.Values.{number_of}
use Rattle.awk_text.specs.declared.fault.Fault.{Fault}
use Rattle.awk_text.specs.declared.fault.Fault.TheVariants as fault
use Rattle.awk_text.specs.declared.place.Place.{Place}
use Rattle.awk_text.specs.declared.value.Value.{Value}
use Rattle.awk_text.specs.declared.value.Value.TheVariants as v
use Rattle.awk_program.specs.View.{variable_of}
use Rattle.awk_program.specs.declared.variables.Own.TheVariants as own
use Rattle.awk_program.specs.declared.variables.Variable.{Variable}
use Rattle.awk_program.specs.declared.variables.Variable.TheVariants.{Global, Parameter}
use Rattle.awk_machine.specs.Advances.{advance}
use Rattle.awk_machine.specs.Operators.{of_count}
use Rattle.awk_machine.specs.Pieces as machine
use Rattle.awk_machine.specs.Pieces.{Piece, Do, Get, Set, Rebuild, Goes, Seeks, give, ends, Faulted}
use Rattle.awk_machine.specs.Questions.{Fields, These, these}
use Rattle.awk_machine.specs.State.{Course, Given}
use Rattle.awk_machine.specs.Streams.{seen}
use Rattle.awk_store.specs.Changes as changes
use Rattle.awk_store.specs.Kept as kept
use Rattle.awk_store.specs.Kept.{Kept}
use Rattle.awk_store.specs.Numbers.{whole_number}
use Rattle.awk_store.proofs.Wholly.{bound_twice}
use Rattle.awk_store.proofs.Cells.{change_count}
use Rattle.awk_store.specs.States.{Hidden}
use Rattle.awk_streams.specs.Tasks.{goes_on}
use Rattle.awk_streams.specs.declared.halt.Halt.{Halt}
use Rattle.awk_store.specs.Wholes.{Whole, Agreeing, base, names_in}
use Rattle.awk_streams.specs.Chains.{halt_at, result_at}
use Rattle.awk_store.specs.Acts.{Acts, Passes}
use Rattle.awk_store.proofs.Acting.{at_rest, moves, alters, keeps, finds, done, faulted}
use Rattle.awk_store.proofs.Agreeing.{nf-so, variable-so, variable-set, fields-so}
use Rattle.awk_store.proofs.Rebuilding.{agreeing_row, rebuilt, rebuild_moves, rebuild_faults}

-- ---- variables are read

module _ (g : Given) (old : Whole) (x : Variable) where
  variable_moves : kept.is_nf x ≡ false → (k : List Piece) (hid : Hidden) (c : Course) → Agreeing g old hid c →
      advance g (Do (Get (machine.Variable (variable_of (names_in g) x))) ∷ k) (seen (base g old hid) c)
      ≡ Goes (give (kept.value old.0 x) k) (seen (base g old hid) c)
  variable_moves n k hid c a = rw (nf-so g old hid c a x, n, variable-so g old hid c a x) refl

  nf_moves : kept.is_nf x ≡ true → (k : List Piece) (hid : Hidden) (c : Course) → Agreeing g old hid c →
      advance g (Do (Get (machine.Variable (variable_of (names_in g) x))) ∷ k) (seen (base g old hid) c)
      ≡ Seeks (Fields hid.row) (λ a. give (of_count (length (these a))) k) (seen (base g old hid) c)
  nf_moves y k hid c a = rw (nf-so g old hid c a x, y) refl

  pub reads_variable : kept.is_nf x ≡ false → Acts g (Do (Get (machine.Variable (variable_of (names_in g) x)))) give old
      (Ok (kept.value old.0 x)) old
  reads_variable n = done (moves (at_rest _ old) (variable_moves n))

  pub counts_fields : (row : Row) (vs : List Field) → kept.is_nf x ≡ true → IsKept old.0.row row → HasFields row vs →
      Acts g (Do (Get (machine.Variable (variable_of (names_in g) x)))) give old (Ok (v.Num (pos (length vs))))
      (changes.with_row row old.0, old.1)
  counts_fields row vs y is has =
      done (keeps refl (λ hid. refl) (agreeing_row g old row is)
      (finds (λ hid. Fields hid.row) (These vs) (at_rest _ old)
      (λ k hid c a. (nf_moves y k hid c a, fields-so g old hid c a row vs is has))))

  pub counted_nf : (new : Kept) (n : ℤ) → kept.is_nf x ≡ true → new ≡ changes.with_row new.row old.0
      → IsKept old.0.row new.row → (vs : List Field) × HasFields new.row vs × (n ≡ pos (length vs)) →
      Acts g (Do (Get (machine.Variable (variable_of (names_in g) x)))) give old (Ok (v.Num n)) (new, old.1)
  counted_nf new n y same is (vs, has, e) =
      subst (λ (k : Kept). Acts g (Do (Get (machine.Variable (variable_of (names_in g) x)))) give old (Ok (v.Num n))
      (k, old.1)) (sym same) (rw e (counts_fields new.row vs y is has))

  -- ---- variables are set

  variable_set_moves : (place : Place) (val : Value) → kept.is_nf x ≡ false
      → (k : List Piece) (hid : Hidden) (c : Course) → Agreeing g old hid c →
      advance g (Do (Set (machine.Variable (variable_of (names_in g) x)) place val) ∷ k) (seen (base g old hid) c)
      ≡ Goes k (seen (base g (changes.with_value x val old.0, old.1) hid) c)
  variable_set_moves place val n k hid c a = rw (nf-so g old hid c a x, n, variable-set g old hid c a x val) refl

  cells_stay : (x : Variable) (val : Value) → length (changes.with_value x val old.0).cells ≡ length old.0.cells
  cells_stay (Global n) val = change_count (changes.given_value val) old.0.cells n
  cells_stay (Parameter n) val = refl

  row_stays : (x : Variable) (val : Value) → (changes.with_value x val old.0).row ≡ old.0.row
  row_stays (Global n) val = refl
  row_stays (Parameter n) val = refl

  used_stays : (x : Variable) (val : Value) → (changes.with_value x val old.0).used ≡ old.0.used
  used_stays (Global n) val = refl
  used_stays (Parameter n) val = refl

  pub sets_variable : (place : Place) (val : Value) (new : Kept) → kept.is_nf x ≡ false
      → new ≡ changes.with_value x val old.0 →
      Acts g (Do (Set (machine.Variable (variable_of (names_in g) x)) place val)) goes_on old (Ok (tt {0})) (new, old.1)
  sets_variable place val new n same =
      subst (λ (k : Kept). Acts g (Do (Set (machine.Variable (variable_of (names_in g) x)) place val)) goes_on old
      (Ok (tt {0})) (k, old.1)) (sym same)
      (done (alters (used_stays x val) (at_rest _ old) (λ k hid c a. (
        hid,
        record {
          tells = a.tells;
          row = subst (λ r. IsKept hid.row r) (sym (row_stays x val)) a.row;
          cells =
              cells_stay x val ∙ a.cells;
          sound = a.sound;
        },
        variable_set_moves place val n k hid c a,
      ))))

  -- ---- NF is set

  -- the number of fields that a value stands for
  abbrev count_in : Value → Result ℕ Fault
  count_in val = number_of old.0.numbers val >>= λ y. whole_of y >>= place_of

  nf_set_faults : (place : Place) (val : Value) (e : Fault) → kept.is_nf x ≡ true → count_in val ≡ Err e
      → (k : List Piece) (hid : Hidden) (c : Course) → Agreeing g old hid c →
      advance g (Do (Set (machine.Variable (variable_of (names_in g) x)) place val) ∷ k) (seen (base g old hid) c)
      ≡ Goes (ends (Faulted e place)) (seen (base g old hid) c)
  nf_set_faults place val e y is k hid c a = rw (nf-so g old hid c a x, y, is) refl

  nf_set_moves : (place : Place) (val : Value) (n : ℕ) → kept.is_nf x ≡ true → count_in val ≡ Ok n
      → (k : List Piece) (hid : Hidden) (c : Course) → Agreeing g old hid c →
      advance g (Do (Set (machine.Variable (variable_of (names_in g) x)) place val) ∷ k) (seen (base g old hid) c)
      ≡ Seeks (Fields hid.row) (λ a. Do (Rebuild place (with_count (these a) n)) ∷ k) (seen (base g old hid) c)
  nf_set_moves place val n y is k hid c a = rw (nf-so g old hid c a x, y, is) refl

  -- ---- NF: its number, the fields, and the record

  count_so : (val : Value) → count_in val ≡ (whole_number old.0.numbers val >>= place_of)
  count_so val = bound_twice (number_of old.0.numbers val) whole_of place_of

  number_so : (val : Value) (n : ℤ) → whole_number old.0.numbers val ≡ Ok n → count_in val ≡ place_of n
  number_so val n e = count_so val ∙ ap (λ r. r >>= place_of) e

  module _ (place : Place) (val : Value) (y : kept.is_nf x ≡ true) where
    abbrev nf_task : Piece
    nf_task = Do (Set (machine.Variable (variable_of (names_in g) x)) place val)

    pub no_number : (r : Result ℤ Fault) (h : Halt) → r ≡ whole_number old.0.numbers val → result_at place r ≡ Err h
        → Acts g (Do (Set (machine.Variable (variable_of (names_in g) x)) place val)) (goes_on {A = Unit {0}}) old
        (Err h) old
    no_number (Ok n) h same e = absurd (cc)
    no_number (Err fault) h same e =
        let is : count_in val ≡ Err fault = count_so val ∙ ap (λ r. r >>= place_of) (sym same) in
        subst (λ (q : Halt). Acts g (Do (Set (machine.Variable (variable_of (names_in g) x)) place val))
        (goes_on {A = Unit {0}}) old (Err q) old) (halt_is fault h e)
        (faulted refl (inr (moves (at_rest _ old) (nf_set_faults place val fault y is))))
      where
        halt_is : (fault : Fault) (h : Halt) → result_at {A = ℤ} place (Err fault) ≡ Err h → halt_at place fault ≡ h
        halt_is fault h e = cc

    -- it is set: of the fields that there are or are added, the text is made
    pub set_nf : (new : Kept) (n : ℤ) → whole_number old.0.numbers val ≡ Ok n → new ≡ changes.with_row new.row old.0
        → SetsCount old.0.row n (kept.own_text old.0 own.Ofs) new.row →
        Acts g (Do (Set (machine.Variable (variable_of (names_in g) x)) place val)) goes_on old (Ok (tt {0})) (
          new,
          old.1,
        )
    set_nf new n e same s =
        let vs = with_count s.fields s.count in
        subst (λ (k : Kept). Acts g (Do (Set (machine.Variable (variable_of (names_in g) x)) place val)) goes_on old
        (Ok (tt {0})) (k, old.1)) (sym same)
        (done (alters refl
        (finds {then_ = λ k a. Do (Rebuild place (with_count (these a) s.count)) ∷ k} (λ hid. Fields hid.row)
        (These s.fields) (at_rest _ old)
        (λ k hid c a. (
          nf_set_moves place val s.count y (number_so val n e ∙ s.count_is) k hid c a,
          fields-so g old hid c a old.0.row s.fields (inl refl) s.before,
        )))
        (λ k hid c a. (
          record hid { row = rebuilt old vs },
          record { tells = a.tells; row = inl s.after.new_is; cells = a.cells; sound = a.sound },
          rebuild_moves g old place vs s.after.fits k hid c a,
        ))))

    -- it is not: the number is none of a field, or the text would be too long
    pub set_no_nf : (new : Kept) (n : ℤ) (met : Fault) → whole_number old.0.numbers val ≡ Ok n
        → new ≡ changes.with_row new.row old.0
        → IsKept old.0.row new.row →
        SetsNoCount old.0.row n (kept.own_text old.0 own.Ofs) met
        → Acts g (Do (Set (machine.Variable (variable_of (names_in g) x)) place val)) (goes_on {A = Unit {0}}) old
        (Err (halt_at place met)) (new, old.1)
    set_no_nf new n met e same is why =
        subst (λ (k : Kept). Acts g (Do (Set (machine.Variable (variable_of (names_in g) x)) place val))
        (goes_on {A = Unit {0}}) old (Err (halt_at place met)) (k, old.1)) (sym same)
        (faulted refl (why_so why))
      where
        at_end : Passes g nf_task old (λ k. ends (Faulted met place)) old
            → Passes g nf_task old (λ k. ends (Faulted met place)) (changes.with_row new.row old.0, old.1)
        at_end h = keeps refl (λ hid. refl) (agreeing_row g old new.row is) h

        why_so : SetsNoCount old.0.row n (kept.own_text old.0 own.Ofs) met → (met ≡ fault.Memory)
            ⊎ Passes g nf_task old (λ k. ends (Faulted met place)) (changes.with_row new.row old.0, old.1)
        why_so (inl m) = inl m
        why_so (inr (inl (f, none))) =
            inr (at_end (moves (at_rest _ old) (nf_set_faults place val met y (number_so val n e ∙ none
            ∙ ap Err (sym f)))))
        why_so (inr (inr (f, (count, vs, is_count, has, over)))) =
            inr (at_end (moves
            (finds {then_ = λ k a. Do (Rebuild place (with_count (these a) count)) ∷ k} (λ hid. Fields hid.row)
            (These vs) (at_rest _ old)
            (λ k hid c a. (
              nf_set_moves place val count y (number_so val n e ∙ is_count) k hid c a,
              fields-so g old hid c a old.0.row vs (inl refl) has,
            )))
            (λ k hid c a. rebuild_faults g old place (with_count vs count) over k hid c a
            ∙ ap (λ (x : Fault). Goes (ends (Faulted x place)) (seen (base g old hid) c)) (sym f))))

    pub nf_result : (r : Result (Unit {0}) Fault) (new : Kept) (n : ℤ) → whole_number old.0.numbers val ≡ Ok n
        → OnOk r (SetsCount old.0.row n (kept.own_text old.0 own.Ofs) new.row) → OnErr r (IsKept old.0.row new.row) →
        new ≡ changes.with_row new.row old.0 → IfErr r (λ e. SetsNoCount old.0.row n (kept.own_text old.0 own.Ofs) e) →
        Acts g (Do (Set (machine.Variable (variable_of (names_in g) x)) place val)) goes_on old (result_at place r)
        (new, old.1)
    nf_result (Ok tt) new n e ok err same why = set_nf new n e same ok
    nf_result (Err fault) new n e ok err same why = set_no_nf new n fault e same err why

pub ok_at : {A : Type 0} (place : Place) (r : Result A Fault) (x : A) → result_at place r ≡ Ok x → r ≡ Ok x
ok_at place (Ok y) x e = cc
ok_at place (Err fault) x e = absurd (cc)
