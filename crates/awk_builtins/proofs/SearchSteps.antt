-- How patterns are checked and matched, and what is searched for them.
use Rattle.std.proofs.Common.{◌≡◌, ◌⊎◌, inl, inr, refl, sym, ap, subst, ◌∙◌, ℕ, ℤ, Bool, true, false, List, [], ◌∷◌}
use Rattle.std.proofs.Common.{length}
use Rattle.std.specs.Prelude.{Result, Ok, Err, Option, Some, None, pos, if◌then◌else◌, IfOk, IfErr}
use Rattle.awk_ere.specs.Spelled.{HasMatch}
use Rattle.awk_fields.specs.Separators.{IsEre, IsNoEre}
use Rattle.awk_lib.specs.Replacing.{Found, replaced}
use Rattle.awk_text.specs.declared.fault.Fault.{Fault}
use Rattle.awk_text.specs.declared.fault.Fault.TheVariants as fault
use Rattle.awk_text.specs.declared.place.Place.{Place}
use Rattle.awk_text.specs.declared.value.Value.TheVariants as v
use Rattle.awk_program.specs.Program as program
use Rattle.awk_program.specs.Slots.{Text, name_of}
use Rattle.awk_program.specs.declared.variables.Own.TheVariants as own
use Rattle.awk_machine.specs.Operators.{of_truth, limited}
use Rattle.awk_machine.specs.Pieces.{Piece, Target, At, Do, Check, Match, Locate, Located, Substitute, Replace, Give}
use Rattle.awk_machine.specs.Pieces.{Pattern_of, Value_of, Goes, give, ends, Faulted}
use Rattle.awk_machine.specs.Questions.{Spells, Matches, Finds, Is, Places, yes, places}
use Rattle.awk_machine.specs.State.{Course, Given}
use Rattle.awk_machine.specs.Streams.{seen}
use Rattle.awk_machine.specs.Variables as variables
use Rattle.awk_store.specs.Changes as changes
use Rattle.awk_store.specs.Kept.{Kept}
use Rattle.awk_store.specs.States.{Hidden}
use Rattle.awk_builtins.specs.Searches.{location, substituted}
use Rattle.awk_builtins.specs.declared.searches.Location.{Location}
use Rattle.awk_streams.specs.Tasks.{goes_on}
use Rattle.awk_store.specs.Wholes.{Whole, Agreeing, base}
use Rattle.awk_streams.specs.Chains.{halt_at, result_at}
use Rattle.awk_store.specs.Acts.{Acts, Passes}
use Rattle.awk_builtins.specs.Checks.{gives_text}
use Rattle.awk_builtins.specs.Searching.{then_set}
use Rattle.awk_store.proofs.Agreeing.{whole_kept}
use Rattle.awk_store.proofs.OwnSteps.{own-set, own_agrees}
use Rattle.awk_store.proofs.Acting.{at_rest, moves, alters, finds, reworded, done, faulted}

-- ---- a text is an ERE, or it is none

module _ (g : Given) (w : Whole) (place : Place) (source : Text) where
  abbrev checking : List Piece → List Piece
  checking k = Do (Check place source) ∷ k

  module _ {p : Piece} (to : List Piece → List Piece) (h : Passes g p w (λ k. Do (Check place source) ∷ to k) w) where
    is_ere : IsEre source → Passes g p w to w
    is_ere is = finds {then_ = λ k a. if yes a then to k else ends (Faulted fault.Pattern place)} (λ hid. Spells source)
        (Is true) h (λ k hid c a. (refl, is))

    is_none : IsNoEre source → Passes g p w (λ k. ends (Faulted fault.Pattern place)) w
    is_none is = finds {then_ = λ k a. if yes a then to k else ends (Faulted fault.Pattern place)}
        (λ hid. Spells source) (Is false) h (λ k hid c a. (refl, is))

    check_faults : {A : Type 0} {on : A → List Piece → List Piece} (met : Fault) → (met ≡ fault.Memory)
        ⊎ ((met ≡ fault.Pattern) × IsNoEre source) → Acts g p on w (Err (halt_at place met)) w
    check_faults met (inl m) = faulted refl (inl m)
    check_faults met (inr (m, is)) =
        faulted refl (inr (reworded {to = λ k. ends (Faulted fault.Pattern place)} (is_none is)
        (λ k. ap (λ x. ends (Faulted x place)) (sym m))))

  pub checks : {A : Type 0} (P : A → Type 0) (r : Result A Fault) → IfOk r (λ e. P e × IsEre source)
      → IfErr r (λ e. (e ≡ fault.Memory) ⊎ ((e ≡ fault.Pattern) × IsNoEre source)) →
      Acts g (Do (Check place source)) goes_on w (result_at place r) w
  checks P (Ok e) ok err = done (is_ere (λ k. k) (at_rest _ w) ok.1)
  checks P (Err met) ok err = check_faults (λ k. k) (at_rest _ w) met err

  pub checks_constant : {A : Type 0} (P : A → Type 0) (r : Result A Fault) → IfOk r (λ e. P e × IsEre source)
      → IfErr r (λ e. (e ≡ fault.Memory) ⊎ ((e ≡ fault.Pattern) × IsNoEre source)) →
      Acts g (At (Pattern_of (program.constant place source)) []) (gives_text source) w (result_at place r) w
  checks_constant P (Ok e) ok err =
      done (moves (is_ere (λ k. Do (Give (v.Text source)) ∷ k) (moves (at_rest _ w) (λ k hid c a. refl)) ok.1)
      (λ k hid c a. refl))
  checks_constant P (Err met) ok err = check_faults (λ k. Do (Give (v.Text source)) ∷ k)
      (moves (at_rest _ w) (λ k hid c a. refl)) met err

-- ---- it matches somewhere

pub matches_so : (g : Given) (w : Whole) (source text : Text) (b : Bool) → HasMatch source text b
    → Acts g (Do (Match source text)) (λ b. give (of_truth b)) w (Ok b) w
matches_so g w source text b has = done (finds {then_ = λ k a. give (of_truth (yes a)) k} (λ hid. Matches source text)
    (Is b) (at_rest _ w) (λ k hid c a. (refl, has)))

pub record_first : (g : Given) (w : Whole) (place : Place) (source : Text) →
    Passes g (At (Value_of (program.pattern place source)) []) w
    (λ k. Do (Check place source) ∷ Do (Match source w.0.row.whole) ∷ k) w
record_first g w place source =
    moves (at_rest _ w) (λ k hid c a. ap (λ t. Goes (Do (Check place source) ∷ Do (Match source t) ∷ k)
    (seen (base g w hid) c)) (sym (whole_kept hid.row w.0.row a.row)))

-- ---- match

module _ (g : Given) (old : Whole) (source text : Text) where
  abbrev at_last : Location → Kept
  at_last r = changes.with_own own.Rlength (v.Num r.length) (changes.with_own own.Rstart (v.Num r.start) old.0)

  locates : (ms : List (ℕ × ℕ)) → Found source text false ms
      → Acts g (Do (Locate source text)) (λ n. give (v.Num n)) old (Ok (location ms).start) (
        at_last (location ms),
        old.1,
      )
  locates ms found =
      done (alters refl (finds {then_ = λ k a. Do (Located (places a)) ∷ k} (λ hid. Finds source text false) (Places ms)
      (at_rest _ old) (λ k hid c a. (refl, found)))
      (λ k hid c a. (
        hid,
        own_agrees g (changes.with_own own.Rstart (v.Num (location ms).start) old.0, old.1) hid c
            (own_agrees g old hid c a own.Rstart (v.Num (location ms).start)) own.Rlength (v.Num (location ms).length),
        set_both ms k hid c a,
      )))
    where
      set_both : (ms : List (ℕ × ℕ)) (k : List Piece) (hid : Hidden) (c : Course) → Agreeing g old hid c →
          Rattle.awk_machine.specs.Advances.advance g (Do (Located ms) ∷ k) (seen (base g old hid) c)
          ≡ Goes (give (v.Num (location ms).start) k) (seen (base g (at_last (location ms), old.1) hid) c)
      set_both [] k hid c a =
          ap (λ s. Goes (give (v.Num (pos 0)) k) (variables.with_own (name_of own.Rlength) (v.Num (location []).length)
          s)) (own-set g old hid c a own.Rstart (v.Num (pos 0)))
          ∙ ap (λ s. Goes (give (v.Num (pos 0)) k) s) (own-set g (
            changes.with_own own.Rstart (v.Num (pos 0)) old.0,
            old.1,
          ) hid c (own_agrees g old hid c a own.Rstart (v.Num (pos 0))) own.Rlength
          (v.Num (location []).length))
      set_both (m ∷ ms) k hid c a =
          ap (λ s. Goes (give (v.Num (location (m ∷ ms)).start) k) (variables.with_own (name_of own.Rlength)
          (v.Num (location (m ∷ ms)).length) s))
          (own-set g old hid c a own.Rstart (v.Num (location (m ∷ ms)).start))
          ∙ ap (λ s. Goes (give (v.Num (location (m ∷ ms)).start) k) s)
          (own-set g (changes.with_own own.Rstart (v.Num (location (m ∷ ms)).start) old.0, old.1) hid c
          (own_agrees g old hid c a own.Rstart (v.Num (location (m ∷ ms)).start)) own.Rlength
          (v.Num (location (m ∷ ms)).length))

  pub locates_so : (r : Location) (mid new : Kept) → (ms : List (ℕ × ℕ)) × Found source text false ms
      × (r ≡ location ms) → mid ≡ changes.with_own own.Rstart (v.Num r.start) old.0 →
      new ≡ changes.with_own own.Rlength (v.Num r.length) mid
      → Acts g (Do (Locate source text)) (λ n. give (v.Num n)) old (Ok r.start) (new, old.1)
  locates_so r mid new (ms, found, is) e f =
      rw (f, e, is) (locates ms found)

-- ---- sub and gsub

abbrev ok_so : Option (Text × ℤ) → Result (Option (Text × ℤ)) Fault
ok_so r = Ok r

abbrev err_so : Fault → Result (Option (Text × ℤ)) Fault
err_so e = Err e

module _ (g : Given) (w : Whole) (place : Place) (to : Target) (source new old : Text) (all : Bool) where
  abbrev substituting : Piece
  substituting = Do (Substitute place to source new old all)

  found_so : (ms : List (ℕ × ℕ)) → Found source old all ms → Passes g (Do (Substitute place to source new old all)) w
      (λ k. Do (Replace place to new old ms) ∷ k) w
  found_so ms found = finds {then_ = λ k a. Do (Replace place to new old (places a)) ∷ k} (λ hid. Finds source old all)
      (Places ms) (at_rest _ w) (λ k hid c a. (refl, found))

  made_by : (m : ℕ × ℕ) (ms : List (ℕ × ℕ)) (made : Result Text Fault) → limited (replaced new old 0 (m ∷ ms)) ≡ made
      → (r : Option (Text × ℤ)) → substituted new old (m ∷ ms) ≡ Ok r → Found source old all (m ∷ ms) →
      Acts g (Do (Substitute place to source new old all)) (then_set place to) w (Ok r) w
  made_by m ms (Ok text) e r is found =
      subst (λ q. Acts g substituting (then_set place to) w (Ok q) w) (the_one text r (rw e at is))
      (done (moves (found_so (m ∷ ms) found) (λ k hid c a. rw e refl)))
    where
      the_one : (text : Text) (r : Option (Text × ℤ)) → ok_so (Some (text, pos (length (m ∷ ms)))) ≡ ok_so r
          → Some (text, pos (length (m ∷ ms))) ≡ r
      the_one text r e = cc
  made_by m ms (Err met) e r is found = absurd (let x = rw e at is in cc)

  pub replaces : (ms : List (ℕ × ℕ)) (r : Option (Text × ℤ)) → Found source old all ms → substituted new old ms ≡ Ok r
      → Acts g (Do (Substitute place to source new old all)) (then_set place to) w (Ok r) w
  replaces [] r found is = subst (λ q. Acts g substituting (then_set place to) w (Ok q) w) (none_is r is)
      (done (moves (found_so [] found) (λ k hid c a. refl)))
    where
      none_is : (r : Option (Text × ℤ)) → substituted new old [] ≡ Ok r → None ≡ r
      none_is r e = cc
  replaces (m ∷ ms) r found is = made_by m ms (limited (replaced new old 0 (m ∷ ms))) refl r is found

  too_long_by : (m : ℕ × ℕ) (ms : List (ℕ × ℕ)) (made : Result Text Fault) → limited (replaced new old 0 (m ∷ ms))
      ≡ made → (met : Fault) → substituted new old (m ∷ ms) ≡ Err met → Found source old all (m ∷ ms) →
      Passes g (Do (Substitute place to source new old all)) w (λ k. ends (Faulted met place)) w
  too_long_by m ms (Ok text) e met is found = absurd (let x = rw e at is in cc)
  too_long_by m ms (Err f) e met is found = moves (found_so (m ∷ ms) found)
      (λ k hid c a. rw e (ap (λ x. Goes (ends (Faulted x place)) (seen (base g w hid) c)) (the_one f met (rw e at is))))
    where
      the_one : (f met : Fault) → err_so f ≡ err_so met → f ≡ met
      the_one f met e = cc

  too_long : (ms : List (ℕ × ℕ)) (met : Fault) → Found source old all ms → substituted new old ms ≡ Err met
      → Passes g (Do (Substitute place to source new old all)) w (λ k. ends (Faulted met place)) w
  too_long [] met found is = absurd (cc)
  too_long (m ∷ ms) met found is = too_long_by m ms (limited (replaced new old 0 (m ∷ ms))) refl met is found

  pub replaces_result : (r : Result (Option (Text × ℤ)) Fault)
      → IfOk r (λ x. (ms : List (ℕ × ℕ)) × Found source old all ms × (substituted new old ms ≡ Ok x)) →
      IfErr r (λ e. (e ≡ fault.Memory) ⊎ ((ms : List (ℕ × ℕ)) × Found source old all ms
      × (substituted new old ms ≡ Err e))) →
      Acts g (Do (Substitute place to source new old all)) (then_set place to) w (result_at place r) w
  replaces_result (Ok x) (ms, found, is) err = replaces ms x found is
  replaces_result (Err met) ok (inl m) = faulted refl (inl m)
  replaces_result (Err met) ok (inr (ms, found, is)) = faulted refl (inr (too_long ms met found is))
