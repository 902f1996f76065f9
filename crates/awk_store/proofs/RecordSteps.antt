-- How the record and its fields are read and set.
use Rattle.std.proofs.Common.{◌≡◌, ◌⊎◌, ◌<◌, ◌≤◌, inl, inr, refl, sym, ap, subst, ◌∙◌, ℕ, zero, suc, Bool, true, false}
use Rattle.std.proofs.Common.{List, ◌∷◌, length, slice_index_or, arith}
use Rattle.std.proofs.lemmas.Bool.Decides.{nat_tests}
use Rattle.std.specs.Prelude.{Result, Ok, Err, pos, nat_le, nat_lt, if◌then◌else◌, OnOk, OnErr, IfErr}
use Rattle.awk_fields.specs.Rows.{Field, Row, IsKept, HasFields, IsValueAt, SetsField, SetsNoField, with_field, blank}
use Rattle.awk_fields.specs.Rows.{place_of, field_place, behind_whole, most_fields, rebuilt as rebuilt_text}
use Rattle.awk_fields.specs.Separators.{IsEre, IsNoEre}
use Rattle.awk_fields.proofs.Alone.{kept_again, one_row}
use Rattle.awk_text.specs.Limits.{most_bytes}
use Rattle.awk_text.specs.Values.{text_of}
use Rattle.awk_text.specs.declared.fault.Fault.{Fault}
use Rattle.awk_text.specs.declared.fault.Fault.TheVariants as fault
use Rattle.awk_text.specs.declared.place.Place.{Place}
use Rattle.awk_text.specs.declared.value.Value.{Value}
use Rattle.awk_text.specs.declared.value.Value.TheVariants as v
use Rattle.awk_program.specs.Slots.{Text}
use Rattle.awk_program.specs.declared.variables.Own.TheVariants as own
use Rattle.awk_machine.specs.Pieces as machine
use Rattle.awk_machine.specs.Pieces.{Piece, Do, Get, Set, Whole as SetWhole, Check, Rebuild, Goes, Seeks, give, ends}
use Rattle.awk_machine.specs.Pieces.{Faulted, granted}
use Rattle.awk_machine.specs.Questions.{Fields, Spells, Is, These, these, yes}
use Rattle.awk_machine.specs.Advances.{advance, held}
use Rattle.awk_machine.specs.State.{Course, Given}
use Rattle.awk_machine.specs.Streams.{seen}
use Rattle.awk_machine.specs.Targets.{check_separator, set_shown}
use Rattle.awk_store.specs.Changes as changes
use Rattle.awk_store.specs.Changes.{row_of}
use Rattle.awk_store.specs.Kept as kept
use Rattle.awk_store.specs.Kept.{Kept}
use Rattle.awk_store.specs.States.{Hidden}
use Rattle.awk_store.proofs.Limited.{limited_ok}
use Rattle.awk_streams.specs.Tasks.{goes_on}
use Rattle.awk_streams.specs.declared.halt.Halt.{Halt}
use Rattle.awk_store.specs.Wholes.{Agreeing, Whole, base}
use Rattle.awk_streams.specs.Chains.{halt_at, result_at}
use Rattle.awk_store.specs.Acts.{Acts, Passes}
use Rattle.awk_store.proofs.Acting.{at_rest, moves, alters, keeps, finds, reworded, done, faulted}
use Rattle.awk_store.proofs.Agreeing.{own-text-so, fields-so, whole_kept}
use Rattle.awk_store.proofs.Convfmt.{convfmt-so}
use Rattle.awk_store.proofs.Rebuilding.{limited_err, agreeing_row, rebuilt, rebuild_moves, rebuild_faults}

-- ---- numbers of fields

-- a number of 16 bits is one of a field
small_by : (b : Bool) (n : ℕ) → nat_le n most_fields ≡ b → n ≤ 65535 → place_of (pos n) ≡ Ok n
small_by true n e h = rw e refl
small_by false n e h = absurd (grind (arith, nat_tests))

pub small : (n : ℕ) → n ≤ 65535 → place_of (pos n) ≡ Ok n
small n h = small_by (nat_le n most_fields) n refl h

abbrev placed : ℕ → Result ℕ Fault
placed n = Ok n

the_place : (a b : ℕ) → placed a ≡ placed b → a ≡ b
the_place a b e = cc

-- a field has one value
pub one_value : (row : Row) (n : ℕ) (a b : Value) → IsValueAt row n a → IsValueAt row n b → a ≡ b
one_value row zero a b h g = h ∙ sym g
one_value row (suc k) a b (fs, has, e) (gs, got, d) = e ∙ ap (λ xs. (slice_index_or xs k blank).value)
    (one_row row fs gs has got) ∙ sym d

-- ---- a field is read

module _ (g : Given) (old : Whole) where
  reads_at : (n : ℕ) (row : Row) (val : Value) → IsKept old.0.row row → IsValueAt row n val
      → Acts g (Do (Get (machine.Field n))) give old (Ok val) (changes.with_row row old.0, old.1)
  reads_at zero row val is at =
      done (keeps refl (λ hid. refl) (agreeing_row g old row is)
      (moves (at_rest _ old) (λ k hid c a. ap (λ w. Goes (give (v.Input w) k) (seen (base g old hid) c))
      (sym (whole_kept hid.row row (kept_again hid.row old.0.row row a.row is)))
      ∙ ap (λ x. Goes (give x k) (seen (base g old hid) c)) (sym at))))
  reads_at (suc n) row val is (vs, has, e) =
      subst (λ x. Acts g (Do (Get (machine.Field (suc n)))) give old (Ok x) (changes.with_row row old.0, old.1)) (sym e)
      (done (keeps refl (λ hid. refl) (agreeing_row g old row is)
      (finds {then_ = λ k a. give (slice_index_or (these a) n blank).value k} (λ hid. Fields hid.row) (These vs)
      (at_rest _ old) (λ k hid c a. (refl, fields-so g old hid c a row vs is has)))))

  pub reads_field : (n : ℕ) (new : Kept) (val : Value) → n ≤ 65535 → new ≡ changes.with_row new.row old.0
      → IsKept old.0.row new.row → (k : ℕ) × (place_of (pos n) ≡ Ok k) × IsValueAt new.row k val →
      Acts g (Do (Get (machine.Field n))) give old (Ok val) (new, old.1)
  reads_field n new val fits same is (k, place, at) =
      let here = the_place n k (sym (small n fits) ∙ place) in
      subst (λ (x : Kept). Acts g (Do (Get (machine.Field n))) give old (Ok val) (x, old.1)) (sym same)
      (reads_at n new.row val is (subst (λ m. IsValueAt new.row m val) (sym here) at))

-- ---- CONVFMT is looked at first

module _ (g : Given) (old : Whole) (place : Place) (n : ℕ) (val : Value) where
  pub showing : (shown : Value) → kept.by_convfmt old.0 val ≡ Ok shown → (k : List Piece) (hid : Hidden) (c : Course)
      → Agreeing g old hid c → advance g (Do (Set (machine.Field n) place val) ∷ k) (seen (base g old hid) c)
      ≡ held g (seen (base g old hid) c) (set_shown n place val shown k (seen (base g old hid) c))
  showing shown is k hid c a =
      ap (λ made. held g (seen (base g old hid) c)
      (granted place made (set_shown n place val) k (seen (base g old hid) c)))
      (convfmt-so g old hid c a val ∙ is)

  -- no text was made
  pub no_text : {A : Type 0} (r : Result A Fault)
      → IfErr r (λ met. (met ≡ fault.Memory) ⊎ (kept.by_convfmt old.0 val ≡ Err met)) → (h : Halt)
      → result_at place r ≡ Err h → Acts g (Do (Set (machine.Field n) place val)) (goes_on {A = Unit {0}}) old (Err h)
      old
  no_text (Ok x) why h e = absurd (cc)
  no_text {A} (Err met) why h e =
      subst (λ (q : Halt). Acts g (Do (Set (machine.Field n) place val)) (goes_on {A = Unit {0}}) old (Err q) old)
      (halt_is e) (faulted refl (why_so why))
    where
      halt_is : result_at {A = A} place (Err met) ≡ Err h → halt_at place met ≡ h
      halt_is e = cc

      why_so : (met ≡ fault.Memory) ⊎ (kept.by_convfmt old.0 val ≡ Err met) → (met ≡ fault.Memory)
          ⊎ Passes g (Do (Set (machine.Field n) place val)) old (λ k. ends (Faulted met place)) old
      why_so (inl m) = inl m
      why_so (inr is) = inr (moves (at_rest _ old)
          (λ k hid c a. ap (λ made. held g (seen (base g old hid) c)
          (granted place made (set_shown n place val) k (seen (base g old hid) c)))
          (convfmt-so g old hid c a val ∙ is)))

-- ---- the whole record is set

is_less : (b : Bool) (n : ℕ) → nat_lt 1 n ≡ b → b ≡ true → 1 < n
is_less true n e t = grind (arith, nat_tests)
is_less false n e t = absurd (cc)

is_more : (n : ℕ) → 1 < n → (b : Bool) → nat_lt 1 n ≡ b → nat_lt 1 n ≡ true
is_more n h true e = e
is_more n h false e = absurd (grind (arith, nat_tests))

module _ (g : Given) (old : Whole) (place : Place) (val shown : Value) (is : kept.by_convfmt old.0 val ≡ Ok shown) where
  abbrev whole_task : Piece
  whole_task = Do (Set (machine.Field 0) place val)

  abbrev fs : Text
  fs = kept.own_text old.0 own.Fs

  first : Passes g (Do (Set (machine.Field 0) place val)) old (λ k. check_separator place (kept.own_text old.0 own.Fs)
      (Do (SetWhole place (text_of shown)) ∷ k)) old
  first = moves (at_rest _ old)
      (λ k hid c a. showing g old place 0 val shown is k hid c a
      ∙ ap (λ by. Goes (check_separator place by (Do (SetWhole place (text_of shown)) ∷ k))
      (seen (base g old hid) c)) (own-text-so g old hid c a own.Fs))

  checked : (a : Bool) → nat_lt 1 (length (kept.own_text old.0 own.Fs)) ≡ true →
      (Passes g (Do (Set (machine.Field 0) place val)) old (λ k. Do (Check place (kept.own_text old.0 own.Fs)) ∷ Do
      (SetWhole place (text_of shown)) ∷ k) old)
  checked a e = reworded first (λ k. rw e refl)

  to_whole : (b : Bool) → nat_lt 1 (length (kept.own_text old.0 own.Fs)) ≡ b → (1 < length (kept.own_text old.0 own.Fs)
      → IsEre (kept.own_text old.0 own.Fs)) →
      Passes g (Do (Set (machine.Field 0) place val)) old (λ k. Do (SetWhole place (text_of shown)) ∷ k) old
  to_whole true e ere = finds {then_ = λ k a. if yes a then Do (SetWhole place (text_of shown)) ∷ k else ends
      (Faulted fault.Pattern place)} (λ hid. Spells fs) (Is true) (checked true e)
      (λ k hid c a. (refl, ere (is_less true (length fs) e refl)))
  to_whole false e ere = reworded first (λ k. rw e refl)

  pub sets_whole : (text : Text) (new : Kept) → text ≡ text_of shown → length text ≤ most_bytes
      → (1 < length (kept.own_text old.0 own.Fs) → IsEre (kept.own_text old.0 own.Fs)) →
      new ≡ changes.with_row (row_of old.0 text) old.0 → Acts g (Do (Set (machine.Field 0) place val)) goes_on old
      (Ok (tt {0})) (new, old.1)
  sets_whole text new e fits ere same =
      subst (λ (x : Kept). Acts g whole_task goes_on old (Ok (tt {0})) (x, old.1))
      (sym (same ∙ ap (λ t. changes.with_row (row_of old.0 t) old.0) e))
      (done (alters refl (to_whole (nat_lt 1 (length fs)) refl ere) (λ k hid c a. (
        record hid { row = row_of old.0 (text_of shown) },
        record { tells = a.tells; row = inl refl; cells = a.cells; sound = a.sound },
        rw (
          limited_ok (text_of shown) (subst (λ t. length t ≤ most_bytes) e fits),
          own-text-so g old hid c a own.Fs,
          own-text-so g old hid c a own.Rs,
        ) refl,
      ))))

  pub sets_no_whole : (text : Text) (new : Kept) (met : Fault) → text ≡ text_of shown → new ≡ old.0 →
      (met ≡ fault.Memory) ⊎ ((met ≡ fault.Pattern) × (1 < length (kept.own_text old.0 own.Fs))
      × IsNoEre (kept.own_text old.0 own.Fs))
      ⊎ ((met ≡ fault.TextTooLong) × (1 < length (kept.own_text old.0 own.Fs) → IsEre (kept.own_text old.0 own.Fs))
      × (most_bytes < length text)) →
      Acts g (Do (Set (machine.Field 0) place val)) (goes_on {A = Unit {0}}) old (Err (halt_at place met)) (new, old.1)
  sets_no_whole text new met e same why =
      subst (λ (x : Kept). Acts g whole_task (goes_on {A = Unit {0}}) old (Err (halt_at place met)) (x, old.1))
      (sym same) (faulted refl (why_so why))
    where
      why_so : (met ≡ fault.Memory) ⊎ ((met ≡ fault.Pattern) × (1 < length (kept.own_text old.0 own.Fs))
          × IsNoEre (kept.own_text old.0 own.Fs))
          ⊎ ((met ≡ fault.TextTooLong) × (1 < length (kept.own_text old.0 own.Fs) → IsEre (kept.own_text old.0 own.Fs))
          × (most_bytes < length text)) →
          (met ≡ fault.Memory) ⊎ Passes g whole_task old (λ k. ends (Faulted met place)) old
      why_so (inl m) = inl m
      why_so (inr (inl (m, more, none))) =
          inr (reworded {to = λ k. ends (Faulted fault.Pattern place)}
          (finds {then_ = λ k a. if yes a then Do (SetWhole place (text_of shown)) ∷ k else ends
          (Faulted fault.Pattern place)} (λ hid. Spells fs) (Is false)
          (checked true (is_more (length fs) more (nat_lt 1 (length fs)) refl)) (λ k hid c a. (refl, none)))
          (λ k. ap (λ x. ends (Faulted x place)) (sym m)))
      why_so (inr (inr (m, ere, over))) =
          inr (reworded {to = λ k. ends (Faulted fault.TextTooLong place)}
          (moves (to_whole (nat_lt 1 (length fs)) refl ere)
          (λ k hid c a. rw (limited_err (text_of shown) (subst (λ t. most_bytes < length t) e over)) refl))
          (λ k. ap (λ x. ends (Faulted x place)) (sym m)))

  pub whole_result : (r : Result (Unit {0}) Fault) (text : Text) (new : Kept) → text ≡ text_of shown
      → OnOk r (new ≡ changes.with_row (row_of old.0 text) old.0) → OnOk r (length text ≤ most_bytes) →
      OnOk r (1 < length (kept.own_text old.0 own.Fs) → IsEre (kept.own_text old.0 own.Fs)) → OnErr r (new ≡ old.0) →
      IfErr r (λ met. (met ≡ fault.Memory) ⊎ ((met ≡ fault.Pattern) × (1 < length (kept.own_text old.0 own.Fs))
      × IsNoEre (kept.own_text old.0 own.Fs))
      ⊎ ((met ≡ fault.TextTooLong) × (1 < length (kept.own_text old.0 own.Fs) → IsEre (kept.own_text old.0 own.Fs))
      × (most_bytes < length text))) →
      Acts g (Do (Set (machine.Field 0) place val)) goes_on old (result_at place r) (new, old.1)
  whole_result (Ok tt) text new e ok fits ere err why = sets_whole text new e fits ere ok
  whole_result (Err met) text new e ok fits ere err why = sets_no_whole text new met e err why

-- ---- a field is set

-- the value, and what stands for it in the record's text
abbrev pub field : (val shown : Value) → Field
field val shown = record { value = val; shown = shown }

module _ (g : Given) (old : Whole) (place : Place) (val shown : Value) (is : kept.by_convfmt old.0 val ≡ Ok shown)
    (m : ℕ) (fits : suc m ≤ 65535) where
  abbrev field_task : Piece
  field_task = Do (Set (machine.Field (suc m)) place val)

  place_so : field_place (pos (suc m)) ≡ Ok m
  place_so = ap behind_whole (small (suc m) fits)

  asked : (vs : List Field) → HasFields old.0.row vs → Passes g (Do (Set (machine.Field (suc m)) place val)) old
      (λ k. Do (Rebuild place (with_field vs m (field val shown))) ∷ k) old
  asked vs has =
      finds {then_ = λ k a. Do (Rebuild place (with_field (these a) m (field val shown))) ∷ k} (λ hid. Fields hid.row)
      (These vs) (at_rest _ old) (λ k hid c a. (
        showing g old place (suc m) val shown is k hid c a,
        fields-so g old hid c a old.0.row vs (inl refl) has,
      ))

  sets_field : (new : Kept) → new ≡ changes.with_row new.row old.0
      → SetsField old.0.row (pos (suc m)) (field val shown) (kept.own_text old.0 own.Ofs) new.row
      → Acts g (Do (Set (machine.Field (suc m)) place val)) goes_on old (Ok (tt {0})) (new, old.1)
  sets_field new same s =
      let here : s.place ≡ m = the_place s.place m (sym s.place_is ∙ place_so) in
      let vs = with_field s.fields m (field val shown) in
      let fits' : length (rebuilt_text (kept.own_text old.0 own.Ofs) vs) ≤ most_bytes =
      subst (λ n. length (rebuilt_text (kept.own_text old.0 own.Ofs) (with_field s.fields n (field val shown)))
      ≤ most_bytes) here
      s.after.fits in
      let new_is : new.row ≡ rebuilt old vs =
      subst (λ n. new.row ≡ rebuilt old (with_field s.fields n (field val shown))) here
      s.after.new_is in
      subst (λ (x : Kept). Acts g field_task goes_on old (Ok (tt {0})) (x, old.1)) (sym same)
      (done (alters refl (asked s.fields s.before) (λ k hid c a. (
        record hid { row = rebuilt old vs },
        record { tells = a.tells; row = inl new_is; cells = a.cells; sound = a.sound },
        rebuild_moves g old place vs fits' k hid c a,
      ))))

  sets_no_field : (new : Kept) (met : Fault) → new ≡ changes.with_row new.row old.0 → IsKept old.0.row new.row
      → SetsNoField old.0.row (pos (suc m)) (field val shown) (kept.own_text old.0 own.Ofs) met →
      Acts g (Do (Set (machine.Field (suc m)) place val)) (goes_on {A = Unit {0}}) old (Err (halt_at place met)) (
        new,
        old.1,
      )
  sets_no_field new met same kept_row why =
      subst (λ (x : Kept). Acts g field_task (goes_on {A = Unit {0}}) old (Err (halt_at place met)) (x, old.1))
      (sym same) (faulted refl (why_so why))
    where
      why_so : SetsNoField old.0.row (pos (suc m)) (field val shown) (kept.own_text old.0 own.Ofs) met
          → (met ≡ fault.Memory)
          ⊎ Passes g field_task old (λ k. ends (Faulted met place)) (changes.with_row new.row old.0, old.1)
      why_so (inl x) = inl x
      why_so (inr (inl (x, none))) = absurd (not_both (sym place_so ∙ none))
        where
          not_both : {a : ℕ} {f : Fault} → placed a ≡ Err f → ⊥
          not_both e = cc
      why_so (inr (inr (x, (n, vs, is_place, has, over)))) =
          let here : n ≡ m = the_place n m (sym is_place ∙ place_so) in
          let over' : most_bytes < length (rebuilt_text (kept.own_text old.0 own.Ofs)
          (with_field vs m (field val shown))) =
          subst (λ j. most_bytes < length (rebuilt_text (kept.own_text old.0 own.Ofs)
          (with_field vs j (field val shown)))) here over in
          inr (keeps refl (λ hid. refl) (agreeing_row g old new.row kept_row)
          (reworded {to = λ k. ends (Faulted fault.TextTooLong place)}
          (moves (asked vs has) (rebuild_faults g old place (with_field vs m (field val shown)) over'))
          (λ k. ap (λ y. ends (Faulted y place)) (sym x))))

  pub field_result : (r : Result (Unit {0}) Fault) (new : Kept)
      → OnOk r (SetsField old.0.row (pos (suc m)) (field val shown) (kept.own_text old.0 own.Ofs) new.row)
      → OnErr r (IsKept old.0.row new.row) →
      new ≡ changes.with_row new.row old.0
      → IfErr r (λ met. SetsNoField old.0.row (pos (suc m)) (field val shown) (kept.own_text old.0 own.Ofs) met) →
      Acts g (Do (Set (machine.Field (suc m)) place val)) goes_on old (result_at place r) (new, old.1)
  field_result (Ok tt) new ok err same why = sets_field new same ok
  field_result (Err met) new ok err same why = sets_no_field new met same err why

pub number_result : (g : Given) (old : Whole) (place : Place) (val shown : Value) → kept.by_convfmt old.0 val ≡ Ok shown
    → (n : ℕ) → n ≤ 65535 → (n ≡ 0 → ⊥) → (r : Result (Unit {0}) Fault) (new : Kept) →
    OnOk r (SetsField old.0.row (pos n) (field val shown) (kept.own_text old.0 own.Ofs) new.row)
    → OnErr r (IsKept old.0.row new.row) → new ≡ changes.with_row new.row old.0 →
    IfErr r (λ met. SetsNoField old.0.row (pos n) (field val shown) (kept.own_text old.0 own.Ofs) met)
    → Acts g (Do (Set (machine.Field n) place val)) goes_on old (result_at place r) (new, old.1)
number_result g old place val shown is zero fits some r new ok err same why = absurd (some refl)
number_result g old place val shown is (suc m) fits some r new ok err same why =
    field_result g old place val shown is m fits r new ok err same why
