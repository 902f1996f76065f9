-- How elements of arrays are read and set.
use Rattle.std.proofs.Common.{◌≡◌, ◌⊎◌, inl, inr, refl, sym, ap, subst, ◌∙◌, List, ◌∷◌, length}
use Rattle.std.specs.Prelude.{Result, Ok, Err, Some, None, OnOk, IfErr}
use Rattle.awk_fields.specs.Rows.{IsKept}
use Rattle.awk_text.specs.declared.fault.Fault.{Fault}
use Rattle.awk_text.specs.declared.fault.Fault.TheVariants as fault
use Rattle.awk_text.specs.declared.place.Place.{Place}
use Rattle.awk_text.specs.declared.value.Value.{Value}
use Rattle.awk_text.specs.declared.value.Value.TheVariants as v
use Rattle.awk_lib.specs.Arrays.{element, put}
use Rattle.awk_program.specs.Slots.{Text}
use Rattle.awk_program.specs.View.{variable_of}
use Rattle.awk_program.specs.Program as p
use Rattle.awk_program.specs.declared.variables.Variable.{Variable}
use Rattle.awk_machine.specs.Advances.{advance, held}
use Rattle.awk_machine.specs.Pieces as machine
use Rattle.awk_machine.specs.Pieces.{Piece, Do, Get, Set, Goes, give, granted, ends, Faulted}
use Rattle.awk_machine.specs.Targets.{get_element}
use Rattle.awk_machine.specs.State.{Array, State, Course, Given, Reference, Shared, Made}
use Rattle.awk_machine.specs.Streams.{seen}
use Rattle.awk_machine.specs.Variables as variables
use Rattle.awk_store.specs.Changes as changes
use Rattle.awk_store.specs.Kept as kept
use Rattle.awk_store.specs.Kept.{Kept}
use Rattle.awk_store.specs.States.{Hidden}
use Rattle.awk_store.specs.declared.frame.Reference as code
use Rattle.awk_store.specs.declared.frame.Reference.TheVariants as r
use Rattle.awk_store.proofs.Cells.{change_count}
use Rattle.awk_store.proofs.Setting as set
use Rattle.awk_streams.specs.Tasks.{goes_on}
use Rattle.awk_streams.specs.declared.halt.Halt.{Halt}
use Rattle.awk_store.specs.Wholes.{Whole, Agreeing, base, names_in}
use Rattle.awk_streams.specs.Chains.{halt_at, result_at}
use Rattle.awk_store.specs.Acts.{Acts, Passes}
use Rattle.awk_store.proofs.Acting.{at_rest, moves, alters, done, faulted}
use Rattle.awk_store.proofs.Agreeing.{array-so}

abbrev err_of : Halt → Result (Unit {0}) Halt
err_of h = Err h

same_halt : (a b : Halt) → err_of a ≡ err_of b → a ≡ b
same_halt a b e = cc

-- ---- an array is set

seen-array-set : (s : State) (c : Course) (at : Reference) (new : Array) → variables.array_set at new (seen s c)
    ≡ seen (variables.array_set at new s) c
seen-array-set s c (Shared name) new = refl
seen-array-set s c (Made n) new = refl

seen-with-array : (s : State) (c : Course) (a : p.Variable) (new : Array) → variables.with_array a new (seen s c)
    ≡ seen (variables.with_array a new s) c
seen-with-array s c (p.global x) new = refl
seen-with-array s c (p.parameter n) new = seen-array-set s c (variables.reference s (p.parameter n)) new

cells_stay : (at : code.Reference) (new : Array) (k : Kept) → length (changes.with_array at new k).cells
    ≡ length k.cells
cells_stay (r.Shared n) new k = change_count (changes.given_array new) k.cells n
cells_stay (r.Made n) new k = refl
cells_stay r.Nothing new k = refl

row_stays : (at : code.Reference) (new : Array) (k : Kept) → (changes.with_array at new k).row ≡ k.row
row_stays (r.Shared n) new k = refl
row_stays (r.Made n) new k = refl
row_stays r.Nothing new k = refl

used_stays : (at : code.Reference) (new : Array) (k : Kept) → (changes.with_array at new k).used ≡ k.used
used_stays (r.Shared n) new k = refl
used_stays (r.Made n) new k = refl
used_stays r.Nothing new k = refl

module _ (g : Given) (old : Whole) (x : Variable) (new : Array) where
  -- what is held once the variable's array is this
  abbrev pub with_new : Whole
  with_new = (changes.with_array (kept.reference old.0 x) new old.0, old.1)

  pub array-set : (hid : Hidden) (c : Course) → Agreeing g old hid c
      → variables.with_array (variable_of (names_in g) x) new (seen (base g old hid) c) ≡ seen (base g with_new hid) c
  array-set hid c a = seen-with-array (base g old hid) c (variable_of (names_in g) x) new ∙ ap (λ s. seen s c)
      (set.array (names_in g) old.0 hid a.sound x new)

  pub array_agrees : (hid : Hidden) (c : Course) → Agreeing g old hid c → Agreeing g with_new hid c
  array_agrees hid c a = record {
    tells = a.tells;
    row = subst (λ r. IsKept hid.row r) (sym (row_stays (kept.reference old.0 x) new old.0)) a.row;
    cells = cells_stay (kept.reference old.0 x) new old.0 ∙ a.cells;
    sound = a.sound;
  }

  pub array_used : with_new.0.used ≡ old.0.used
  array_used = used_stays (kept.reference old.0 x) new old.0

-- ---- an element is read

module _ (g : Given) (old : Whole) (x : Variable) (key : Text) (place : Place) where
  abbrev reading : Piece
  reading = Do (Get (machine.Element (variable_of (names_in g) x) key place))

  there_moves : (val : Value) → element (kept.array old.0 x) key ≡ Some val
      → (k : List Piece) (hid : Hidden) (c : Course) → Agreeing g old hid c →
      advance g (Do (Get (machine.Element (variable_of (names_in g) x) key place)) ∷ k) (seen (base g old hid) c)
      ≡ Goes (give val k) (seen (base g old hid) c)
  there_moves val e k hid c a = rw (array-so g old hid c a x, e) refl

  -- one that is not there: it is put, unset
  missing_by : (made : Result Array Fault) → element (kept.array old.0 x) key ≡ None
      → put (kept.array old.0 x) key v.Unset ≡ made → (k : List Piece) (hid : Hidden) (c : Course)
      → Agreeing g old hid c →
      advance g (Do (Get (machine.Element (variable_of (names_in g) x) key place)) ∷ k) (seen (base g old hid) c)
      ≡ held g (seen (base g old hid) c)
      (granted place made (λ new k s. Goes (give v.Unset k) (variables.with_array (variable_of (names_in g) x) new
      s)) k (seen (base g old hid) c))
  missing_by made e is k hid c a =
      let s = seen (base g old hid) c in
      let va = variable_of (names_in g) x in
      ap (λ o. held g s (get_element o va key place k s)) (ap (λ arr. element arr key) (array-so g old hid c a x) ∙ e)
      ∙ ap (λ m. held g s (granted place m (λ new k s. Goes (give v.Unset k) (variables.with_array va new s)) k s))
      (ap (λ arr. put arr key v.Unset) (array-so g old hid c a x) ∙ is)

  missing_moves : (new : Array) → element (kept.array old.0 x) key ≡ None → put (kept.array old.0 x) key v.Unset
      ≡ Ok new → (k : List Piece) (hid : Hidden) (c : Course) → Agreeing g old hid c →
      advance g (Do (Get (machine.Element (variable_of (names_in g) x) key place)) ∷ k) (seen (base g old hid) c)
      ≡ Goes (give v.Unset k) (seen (base g (with_new g old x new) hid) c)
  missing_moves new e is k hid c a = missing_by (Ok new) e is k hid c a ∙ ap (λ s. Goes (give v.Unset k) s)
      (array-set g old x new hid c a)

  missing_faults : (met : Fault) → element (kept.array old.0 x) key ≡ None → put (kept.array old.0 x) key v.Unset
      ≡ Err met → (k : List Piece) (hid : Hidden) (c : Course) → Agreeing g old hid c →
      advance g (Do (Get (machine.Element (variable_of (names_in g) x) key place)) ∷ k) (seen (base g old hid) c)
      ≡ Goes (ends (Faulted met place)) (seen (base g old hid) c)
  missing_faults met e is k hid c a = missing_by (Err met) e is k hid c a

  pub reads_element : (val : Value) → element (kept.array old.0 x) key ≡ Some val
      → Acts g (Do (Get (machine.Element (variable_of (names_in g) x) key place))) give old (Ok val) old
  reads_element val e = done (moves (at_rest _ old) (there_moves val e))

  -- one that is not there is made, unless it is one too many
  pub makes_element : (new : Kept) → element (kept.array old.0 x) key ≡ None → (made : Array)
      × (put (kept.array old.0 x) key v.Unset ≡ Ok made)
      × (new ≡ changes.with_array (kept.reference old.0 x) made old.0) →
      Acts g (Do (Get (machine.Element (variable_of (names_in g) x) key place))) give old (Ok v.Unset) (new, old.1)
  makes_element new e (made, is, same) =
      subst (λ (k : Kept). Acts g reading give old (Ok v.Unset) (k, old.1)) (sym same)
      (done (alters (array_used g old x made) (at_rest _ old) (λ k hid c a. (
        hid,
        array_agrees g old x made hid c a,
        missing_moves made e is k hid c a,
      ))))

  pub makes_none : {A : Type 0} {on : A → List Piece → List Piece} (new : Kept) (met : Fault)
      → element (kept.array old.0 x) key ≡ None →
      (new ≡ old.0) × ((met ≡ fault.Memory) ⊎ (put (kept.array old.0 x) key v.Unset ≡ Err met))
      → Acts g (Do (Get (machine.Element (variable_of (names_in g) x) key place))) on old (Err (halt_at place met))
      (new, old.1)
  makes_none {on = on} new met e (same, why) =
      subst (λ (k : Kept). Acts g reading on old (Err (halt_at place met)) (k, old.1)) (sym same)
      (faulted refl (why_so why))
    where
      why_so : (met ≡ fault.Memory) ⊎ (put (kept.array old.0 x) key v.Unset ≡ Err met) → (met ≡ fault.Memory)
          ⊎ Passes g reading old (λ k. ends (Faulted met place)) old
      why_so (inl m) = inl m
      why_so (inr is) = inr (moves (at_rest _ old) (missing_faults met e is))

  pub makes_result : (result : Result (Unit {0}) Fault) (new : Kept) (u : Unit {0}) → element (kept.array old.0 x) key
      ≡ None →
      OnOk result ((made : Array) × (put (kept.array old.0 x) key v.Unset ≡ Ok made)
      × (new ≡ changes.with_array (kept.reference old.0 x) made old.0)) → result_at place result ≡ Ok u →
      Acts g (Do (Get (machine.Element (variable_of (names_in g) x) key place))) give old (Ok v.Unset) (new, old.1)
  makes_result (Ok tt) new u e ok is = makes_element new e ok
  makes_result (Err met) new u e ok is = absurd (cc)

  pub makes_no_result : (result : Result (Unit {0}) Fault) (new : Kept) (h : Halt) → element (kept.array old.0 x) key
      ≡ None →
      IfErr result (λ e. (new ≡ old.0) × ((e ≡ fault.Memory) ⊎ (put (kept.array old.0 x) key v.Unset ≡ Err e)))
      → result_at place result ≡ Err h →
      Acts g (Do (Get (machine.Element (variable_of (names_in g) x) key place))) give old (Err h) (new, old.1)
  makes_no_result (Ok tt) new h e err is = absurd (cc)
  makes_no_result (Err met) new h e err is = subst (λ (q : Halt). Acts g reading give old (Err q) (new, old.1))
      (same_halt (halt_at place met) h is) (makes_none new met e err)

-- ---- an element is set

module _ (g : Given) (old : Whole) (x : Variable) (key : Text) (at place : Place) (val : Value) where
  abbrev setting : Piece
  setting = Do (Set (machine.Element (variable_of (names_in g) x) key at) place val)

  set_moves : (new : Array) → put (kept.array old.0 x) key val ≡ Ok new → (k : List Piece) (hid : Hidden) (c : Course)
      → Agreeing g old hid c →
      advance g (Do (Set (machine.Element (variable_of (names_in g) x) key at) place val) ∷ k) (seen (base g old hid) c)
      ≡ Goes k (seen (base g (with_new g old x new) hid) c)
  set_moves new is k hid c a = rw (array-so g old hid c a x, is, array-set g old x new hid c a) refl

  set_faults : (met : Fault) → put (kept.array old.0 x) key val ≡ Err met → (k : List Piece) (hid : Hidden) (c : Course)
      → Agreeing g old hid c →
      advance g (Do (Set (machine.Element (variable_of (names_in g) x) key at) place val) ∷ k) (seen (base g old hid) c)
      ≡ Goes (ends (Faulted met at)) (seen (base g old hid) c)
  set_faults met is k hid c a = rw (array-so g old hid c a x, is) refl

  puts : (new : Kept) → (made : Array) × (put (kept.array old.0 x) key val ≡ Ok made)
      × (new ≡ changes.with_array (kept.reference old.0 x) made old.0)
      → Acts g setting goes_on old (Ok (tt {0})) (new, old.1)
  puts new (made, is, same) =
      subst (λ (k : Kept). Acts g setting goes_on old (Ok (tt {0})) (k, old.1)) (sym same)
      (done (alters (array_used g old x made) (at_rest _ old) (λ k hid c a. (
        hid,
        array_agrees g old x made hid c a,
        set_moves made is k hid c a,
      ))))

  puts_not : (new : Kept) (met : Fault) → (new ≡ old.0)
      × ((met ≡ fault.Memory) ⊎ (put (kept.array old.0 x) key val ≡ Err met))
      → Acts g setting (goes_on {A = Unit {0}}) old (Err (halt_at at met)) (new, old.1)
  puts_not new met (same, why) = subst (λ (k : Kept). Acts g setting (goes_on {A = Unit {0}}) old (Err (halt_at at met))
      (k, old.1)) (sym same) (faulted refl (why_so why))
    where
      why_so : (met ≡ fault.Memory) ⊎ (put (kept.array old.0 x) key val ≡ Err met) → (met ≡ fault.Memory)
          ⊎ Passes g setting old (λ k. ends (Faulted met at)) old
      why_so (inl m) = inl m
      why_so (inr is) = inr (moves (at_rest _ old) (set_faults met is))

  pub puts_result : (result : Result (Unit {0}) Fault) (new : Kept)
      → OnOk result ((made : Array) × (put (kept.array old.0 x) key val ≡ Ok made)
      × (new ≡ changes.with_array (kept.reference old.0 x) made old.0)) →
      IfErr result (λ e. (new ≡ old.0) × ((e ≡ fault.Memory) ⊎ (put (kept.array old.0 x) key val ≡ Err e))) →
      Acts g (Do (Set (machine.Element (variable_of (names_in g) x) key at) place val)) goes_on old
      (result_at at result) (new, old.1)
  puts_result (Ok tt) new ok err = puts new ok
  puts_result (Err met) new ok err = puts_not new met err
