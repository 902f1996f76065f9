-- How one of awk's own variables is set, and its counters go up.
use Rattle.std.proofs.Common.{◌≡◌, inr, refl, sym, ap, subst, ◌∙◌, ℕ, ℤ, List, ◌∷◌}
use Rattle.std.specs.Prelude.{pos, Result, Ok, Err, OnOk, IfErr}
use Rattle.awk_numbers.specs.declared.number.Number.{Number}
use Rattle.awk_numbers.specs.declared.number.Number.TheVariants as number
use Rattle.awk_text.specs.Arithmetic.{add}
use Rattle.awk_text.specs.declared.fault.Fault.{Fault}
use Rattle.awk_text.specs.declared.place.Place.{Place}
use Rattle.awk_text.specs.declared.value.Value.{Value}
use Rattle.awk_text.specs.declared.value.Value.TheVariants as v
use Rattle.awk_text.specs.Values.{of_number}
use Rattle.awk_program.specs.Slots.{name_of, slot_of}
use Rattle.awk_program.specs.declared.variables.Own.{Own}
use Rattle.awk_machine.specs.Advances.{advance, held}
use Rattle.awk_machine.specs.Pieces.{Piece, Do, Count, Goes, granted}
use Rattle.awk_machine.specs.State.{Course, Given}
use Rattle.awk_machine.specs.Streams.{seen}
use Rattle.awk_machine.specs.Variables as variables
use Rattle.awk_store.specs.declared.cell.Cell.{Cell}
use Rattle.awk_store.specs.Changes as changes
use Rattle.awk_store.specs.Changes.{counted}
use Rattle.awk_store.specs.Kept as kept
use Rattle.awk_store.specs.Kept.{Kept}
use Rattle.awk_store.specs.States.{Hidden}
use Rattle.awk_store.proofs.Reading as law
use Rattle.awk_streams.specs.Tasks.{goes_on}
use Rattle.awk_store.specs.Wholes.{Whole, Agreeing, base, names_in}
use Rattle.awk_streams.specs.Chains.{halt_at, result_at}
use Rattle.awk_store.specs.Acts.{Acts}
use Rattle.awk_store.proofs.Acting.{at_rest, moves, alters, done, faulted}
use Rattle.awk_store.proofs.Cells.{change_count}
use Rattle.awk_store.proofs.Setting as set

module _ (g : Given) (old : Whole) where
  -- one of awk's own variables is set
  pub own-set : (hid : Hidden) (c : Course) → Agreeing g old hid c → (x : Own) (val : Value)
      → variables.with_own (name_of x) val (seen (base g old hid) c)
      ≡ seen (base g (changes.with_own x val old.0, old.1) hid) c
  own-set hid c a x val = ap (λ s. seen s c) (set.own (names_in g) old.0 hid a.sound x val)

  pub own_agrees : (hid : Hidden) (c : Course) → Agreeing g old hid c → (x : Own) (val : Value)
      → Agreeing g (changes.with_own x val old.0, old.1) hid c
  own_agrees hid c a x val = record {
    tells = a.tells;
    row = a.row;
    cells =
        change_count (changes.given_value val) old.0.cells (slot_of x) ∙ a.cells;
    sound =
        a.sound;
  }

-- ---- counters

-- a whole number that a counter held, and 1 more
pub counts_whole : (k : Kept) (slot : ℕ) (x : Own) (cells : List Cell) (n m : ℤ) → slot ≡ slot_of x
    → kept.value_at k.cells slot ≡ v.Num n → add k.numbers (number.Whole n) (number.Whole (pos 1)) ≡ Ok (number.Whole m)
    → cells ≡ changes.change_at (changes.given_value (v.Num m)) k.cells slot →
    (made : Number) × (counted k.numbers (kept.own_value k x) ≡ Ok made)
    × (record k { cells = cells } ≡ changes.with_own x (of_number made) k)
counts_whole k slot x cells n m at held sum same = (
  number.Whole m,
  ap (counted k.numbers) (ap (kept.value_at k.cells) (sym at) ∙ held) ∙ sum,
  ap (λ (cs : List Cell). record k { cells = cs }) (same
      ∙ ap (changes.change_at (changes.given_value (v.Num m)) k.cells) at),
)

module _ (g : Given) (old : Whole) (place : Place) (x : Own) where
  abbrev counting : Piece
  counting = Do (Count place (name_of x))

  counts_by : (made : Result Number Fault) → counted old.0.numbers (kept.own_value old.0 x) ≡ made
      → (k : List Piece) (hid : Hidden) (c : Course) → Agreeing g old hid c →
      advance g (Do (Count place (name_of x)) ∷ k) (seen (base g old hid) c) ≡ held g (seen (base g old hid) c)
      (granted place made (λ n k s. Goes k (variables.with_own (name_of x) (of_number n) s)) k
      (seen (base g old hid) c))
  counts_by made is k hid c a =
      let s = seen (base g old hid) c in
      ap (λ m. held g s (granted place m (λ n k s. Goes k (variables.with_own (name_of x) (of_number n) s)) k s))
      (ap (counted old.0.numbers) (law.own (names_in g) old.0 hid a.sound a.cells x) ∙ is)

  counts : (n : Number) (new : Kept) → counted old.0.numbers (kept.own_value old.0 x) ≡ Ok n
      → new ≡ changes.with_own x (of_number n) old.0
      → Acts g (Do (Count place (name_of x))) goes_on old (Ok (tt {0})) (new, old.1)
  counts n new is same =
      subst (λ (k : Kept). Acts g counting goes_on old (Ok (tt {0})) (k, old.1)) (sym same)
      (done (alters refl (at_rest _ old) (λ k hid c a. (
        hid,
        own_agrees g old hid c a x (of_number n),
        counts_by (Ok n) is k hid c a ∙ ap (λ s. Goes k s) (own-set g old hid c a x (of_number n)),
      ))))

  counts_not : (met : Fault) (new : Kept) → counted old.0.numbers (kept.own_value old.0 x) ≡ Err met → new ≡ old.0
      → Acts g (Do (Count place (name_of x))) (goes_on {A = Unit {0}}) old (Err (halt_at place met)) (new, old.1)
  counts_not met new is same =
      subst (λ (k : Kept). Acts g counting (goes_on {A = Unit {0}}) old (Err (halt_at place met)) (k, old.1)) (sym same)
      (faulted refl (inr (moves (at_rest _ old) (counts_by (Err met) is))))

  pub counts_result : (r : Result (Unit {0}) Fault) (new : Kept)
      → OnOk r ((n : Number) × (counted old.0.numbers (kept.own_value old.0 x) ≡ Ok n)
      × (new ≡ changes.with_own x (of_number n) old.0)) →
      IfErr r (λ e. (counted old.0.numbers (kept.own_value old.0 x) ≡ Err e) × (new ≡ old.0))
      → Acts g (Do (Count place (name_of x))) goes_on old (result_at place r) (new, old.1)
  counts_result (Ok tt) new (n, is, same) err = counts n new is same
  counts_result (Err met) new ok (is, same) = counts_not met new is same
