-- How the machine goes on from operand to operand.
use Rattle.std.proofs.Common.{◌≡◌, refl, sym, ap, subst, ◌∙◌, ◌+◌, ◌<◌, ◌≤◌, ◌-◌, ℕ, ℤ, suc, ◌==◌, Bool, true, false}
use Rattle.std.proofs.Common.{true≢false, ◌||◌, ◌&&◌, cond, not, List, [], ◌∷◌, length, length-drop, take, drop, arith}
use Rattle.awk_streams.specs.declared.halt.Halt.{Halt}
use Rattle.awk_store.specs.Steps.{Steps}
use Rattle.std.specs.Prelude.{Result, Ok, Err, Some, pos, int_lt, codes, if◌then◌else◌}
use Rattle.std.specs.Fmt.{decimal}
use Rattle.std.specs.List.{after_first, before_first, list_any, position_or_len}
use Rattle.awk_lib.specs.Arrays.{element}
use Rattle.box_world.specs.Events.{Standard}
use Rattle.awk_program.specs.Slots.{Text}
use Rattle.awk_program.specs.declared.variables.Own.TheVariants as own
use Rattle.awk_machine.specs.Advances.{held}
use Rattle.awk_machine.specs.MainInput as m
use Rattle.awk_machine.specs.MainInput.{assignment, file, is_assignment, is_equals, operand_of, text_in}
use Rattle.awk_machine.specs.Pieces.{Piece, Do, Goes, Look, Operand, Step}
use Rattle.awk_machine.specs.State as state
use Rattle.awk_machine.specs.State.{State, Course, Given}
use Rattle.awk_machine.specs.Streams.{seen}
use Rattle.awk_machine.specs.Variables.{array_at}
use Rattle.awk_store.specs.Changes.{with_main}
use Rattle.awk_store.specs.Kept as kept
use Rattle.awk_store.specs.Kept.{Kept}
use Rattle.awk_store.specs.States.{Hidden}
use Rattle.awk_store.specs.Acts.{Passes}
use Rattle.awk_store.specs.Wholes.{Whole, Agreeing, base}
use Rattle.awk_store.proofs.Acting.{at_rest, moves}
use Rattle.awk_store.proofs.Agreeing.{array-so}
use Rattle.awk_input.specs.Hosts.{Hosted, IsHost, can_set}
use Rattle.awk_input.specs.Operands.{Moves, argv, is_assigning, operand_count}
use Rattle.awk_input.proofs.MainSteps.{main_agrees, operand_by}
use Rattle.awk_input.proofs.Opening.{number_is}

-- ---- the sign of an assignment

pub sign_found : (p : ℕ → Bool) (xs : List ℕ) → position_or_len p xs < length xs → list_any p xs ≡ true
sign_found p [] h = absurd (omega (arith, h))
sign_found p (x ∷ xs) h = by (p x) h (sign_found p xs)
  where
    by : (b : Bool) → cond (not b) (1 + position_or_len p xs) 0 < suc (length xs) → (position_or_len p xs < length xs
        → list_any p xs ≡ true) → (b || list_any p xs) ≡ true
    by true below rest = refl
    by false below rest = rest (omega (arith, below))

pub sign_missing : (p : ℕ → Bool) (xs : List ℕ) → length xs ≤ position_or_len p xs → list_any p xs ≡ false
sign_missing p [] h = refl
sign_missing p (x ∷ xs) h = by (p x) h (sign_missing p xs)
  where
    by : (b : Bool) → suc (length xs) ≤ cond (not b) (1 + position_or_len p xs) 0 → (length xs ≤ position_or_len p xs
        → list_any p xs ≡ false) → (b || list_any p xs) ≡ false
    by true above rest = absurd (omega (arith, above))
    by false above rest = rest (omega (arith, above))

pub assigns_so : (h : Hosted) (g : Given) → IsHost h g → (text : Text) → is_assignment g text ≡ is_assigning h text
assigns_so h g is text = ap (λ b. list_any is_equals text && b) (is.can_assign (before_first is_equals text))

-- ---- what an operand is

pub operand_empty : (g : Given) (text : Text) (k : List Piece) (s : State) → text ≡ []
    → operand_of g text k s ≡ Goes k s
operand_empty g text k s e = ap (λ t. operand_of g t k s) e

pub operand_assigns : (g : Given) (text : Text) (k : List Piece) (s : State) → (text ≡ [] → ⊥)
    → is_assignment g text ≡ true → operand_of g text k s ≡ assignment g text (before_first is_equals text)
    (after_first is_equals text) k s
operand_assigns g [] k s full e = absurd (full refl)
operand_assigns g (b ∷ bs) k s full e =
    ap (λ z. if z then assignment g (b ∷ bs) (before_first is_equals (b ∷ bs)) (after_first is_equals (b ∷ bs)) k s else
    file g (b ∷ bs) k (m.with_main (record s.main { named = true }) s)) e

take_all : (xs : List ℕ) → take (length xs) xs ≡ xs
take_all [] = refl
take_all (x ∷ xs) = ap (λ ys. x ∷ ys) (take_all xs)

rest_so : (m : ℕ) (xs : List ℕ) → take (length xs - m) (drop m xs) ≡ drop m xs
rest_so m xs =
    let l = length-drop m xs in
    let e : length (drop m xs) ≡ length xs - m = omega (arith, l) in
    subst (λ (z : ℕ). take z (drop m xs) ≡ drop m xs) e (take_all (drop m xs))

pub operand_sign : (g : Given) (text : Text) (n : ℕ) (k : List Piece) (s : State) → (text ≡ [] → ⊥)
    → n ≡ position_or_len is_equals text → is_assignment g text ≡ true →
    operand_of g text k s ≡ assignment g text (take n text) (take (length text - (n + 1)) (drop (n + 1) text)) k s
operand_sign g text n k s full is e =
    operand_assigns g text k s full e ∙ ap (λ (z : ℕ). assignment g text (take z text) (drop (z + 1) text) k s) (sym is)
    ∙ ap (λ z. assignment g text (take n text) z k s) (sym (rest_so (n + 1) text))

operand_names : (g : Given) (text : Text) (k : List Piece) (s : State) → (text ≡ [] → ⊥) → is_assignment g text ≡ false
    → operand_of g text k s ≡ file g text k (m.with_main (record s.main { named = true }) s)
operand_names g [] k s full e = absurd (full refl)
operand_names g (b ∷ bs) k s full e =
    ap (λ z. if z then assignment g (b ∷ bs) (before_first is_equals (b ∷ bs)) (after_first is_equals (b ∷ bs)) k s else
    file g (b ∷ bs) k (m.with_main (record s.main { named = true }) s)) e

-- it names an input
pub names_input : (g : Given) (text : Text) (p : Piece) (old mid : Whole) (new : Kept)
    → Moves g p old (operand_of g text) mid → (text ≡ [] → ⊥) → is_assignment g text ≡ false
    → new ≡ with_main (record mid.0.main { named = true }) mid.0 →
    Moves g p old (file g text) (new, mid.1)
names_input g text p old mid new h full e same =
    subst (λ (z : Kept). Moves g p old (file g text) (z, mid.1)) (sym same)
    (record {
      same = h.same;
      agrees = λ hid c a. main_agrees g mid (record mid.0.main { named = true }) hid c (h.agrees hid c a);
      moves = λ k hid c a. h.moves k hid c a ∙ operand_names g text k (seen (base g mid hid) c) full e;
    })

-- ---- the next one

module _ (g : Given) (old : Whole) where
  argv_at : (hid : Hidden) (c : Course) → Agreeing g old hid c
      → array_at (seen (base g old hid) c) (state.Shared (codes "ARGV")) ≡ kept.array old.0 argv
  argv_at hid c a = ap (λ n. array_at (seen (base g old hid) c) (state.Shared n)) (sym (a.sound.own own.Argv))
      ∙ array-so g old hid c a argv

  pub looks : (text : Text) (next : ℕ) (new : Kept)
      → text ≡ text_in (element (kept.array old.0 argv) (decimal old.0.main.position)) → next ≡ old.0.main.position + 1
      → new ≡ with_main (record old.0.main { position = next }) old.0 →
      Moves g (Do Look) old (operand_of g text) (new, old.1)
  looks text next new is e same =
      subst (λ (z : Kept). Moves g (Do Look) old (operand_of g text) (z, old.1))
      (sym (same ∙ ap (λ n. with_main (record old.0.main { position = n }) old.0) e))
      (record {
        same = refl;
        agrees = λ hid c a. main_agrees g old (record old.0.main { position = old.0.main.position + 1 }) hid c a;
        moves = λ k hid c a.
            ap (λ t. operand_of g t k
            (seen (base g (with_main (record old.0.main { position = old.0.main.position + 1 }) old.0, old.1) hid)
            c))
            (ap (λ es. text_in (element es (decimal old.0.main.position))) (argv_at hid c a) ∙ sym is);
      })

  pub to_next : (n : ℤ) → operand_count old.0 ≡ Ok n → int_lt (pos old.0.main.position) n ≡ true
      → Passes g (Do Operand) old (λ k. Do Step ∷ Do Look ∷ k) old
  to_next n is left = moves (at_rest _ old) (λ k hid c a.
      operand_by g old (Ok n) is k hid c a
      ∙ ap (λ b. held g (seen (base g old hid) c) (if b then Goes (Do Step ∷ Do Look ∷ k) (seen (base g old hid) c)
      else (if old.0.main.named then Goes k (m.with_main (record old.0.main { ended = true }) (seen (base g old hid) c))
      else Goes k (m.with_main (record old.0.main { current = Some (Standard 0) }) (seen (base g old hid) c)))))
      left)

-- a step does not move the main input on
pub stays_at : (bound : ℕ) (old : Whole) (r : Result (Unit {0}) Halt) (new : Whole) (position : ℕ)
    → position ≡ old.0.main.position → Steps bound old r new → position + 1 ≡ new.0.main.position + 1
stays_at bound old (Ok u) new position is h = ap (λ n. n + 1) (is ∙ sym (ap (λ (w : Whole). w.0.main.position) h.1))
stays_at bound old (Err e) new position is h = ap (λ n. n + 1) (is ∙ sym (ap (λ (w : Whole). w.0.main.position) h.2))

pub empty_is : (xs : List ℕ) → (length xs == 0) ≡ true → xs ≡ []
empty_is [] e = refl
empty_is (x ∷ xs) e = let n = number_is (length (x ∷ xs)) 0 e in absurd (omega (arith, n))

pub full_is : (xs : List ℕ) → (length xs == 0) ≡ false → xs ≡ [] → ⊥
full_is [] e f = true≢false e
full_is (x ∷ xs) e f = absurd (cc)

and_false : (b : Bool) → (b && false) ≡ false
and_false true = refl
and_false false = refl

module _ (h : Hosted) (text : Text) (n : ℕ) (is : n ≡ position_or_len is_equals text) where
  pub assigning : n < length text → can_set h (take n text) ≡ true → is_assigning h text ≡ true
  assigning below can =
      ap (λ b. b && can_set h (before_first is_equals text))
      (sign_found is_equals text (subst (λ (z : ℕ). z < length text) is below))
      ∙ subst (λ (z : ℕ). can_set h (take z text) ≡ true) is can

  pub not_assigning : can_set h (take n text) ≡ false → is_assigning h text ≡ false
  not_assigning can = ap (λ b. list_any is_equals text && b) (subst (λ (z : ℕ). can_set h (take z text) ≡ false) is can)
      ∙ and_false (list_any is_equals text)

  pub no_sign : length text ≤ n → is_assigning h text ≡ false
  no_sign above = ap (λ b. b && can_set h (before_first is_equals text))
      (sign_missing is_equals text (subst (λ (z : ℕ). length text ≤ z) is above))

-- what stands before the sign is what the host may set
pub free_name : (h : Hosted) (text : Text) (n : ℕ) → n ≡ position_or_len is_equals text → is_assigning h text ≡ true
    → can_set h (take n text) ≡ true
free_name h text n is e = subst (λ (z : ℕ). can_set h (take z text) ≡ true) (sym is) (by (list_any is_equals text) e)
  where
    by : (b : Bool) → (b && can_set h (before_first is_equals text)) ≡ true → can_set h (before_first is_equals text)
        ≡ true
    by true f = f
    by false f = absurd (true≢false (sym f))

pub full_as : (a b : Text) → a ≡ b → (a ≡ [] → ⊥) → b ≡ [] → ⊥
full_as a b e full f = full (e ∙ f)
