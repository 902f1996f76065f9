-- Several subscripts that are there, and the key that they are.
use Rattle.std.proofs.Common.{◌≡◌, refl, sym, ap, ◌∙◌, ℕ, List, [], ◌∷◌, ◌++◌, length, map, reverse, drop}
use Rattle.std.specs.Prelude.{Ok, Some, slice_get}
use Rattle.awk_text.specs.declared.place.Place.{Place}
use Rattle.awk_text.specs.declared.value.Value.{Value}
use Rattle.awk_text.specs.declared.value.Value.TheVariants as v
use Rattle.awk_fields.specs.Rows.{joined}
use Rattle.awk_program.specs.Program as p
use Rattle.awk_program.specs.Program.{Expression, Expressions, expressions_of}
use Rattle.awk_program.specs.Slots.{Text}
use Rattle.awk_program.specs.View.{variable_of, view}
use Rattle.awk_program.specs.declared.expressions.Expr.{Expr}
use Rattle.awk_program.specs.declared.variables.Own.TheVariants as own
use Rattle.awk_program.specs.declared.variables.Variable.{Variable}
use Rattle.awk_lib.specs.Arrays.{without}
use Rattle.awk_machine.specs.Advances.{held}
use Rattle.awk_machine.specs.Forms.{keyed, listed, spot, value}
use Rattle.awk_machine.specs.Operators.{limited}
use Rattle.awk_machine.specs.Pieces.{Piece, Part, At, Doing, Goes, Target_of, give, granted}
use Rattle.awk_machine.specs.State.{Given}
use Rattle.awk_machine.specs.Streams.{seen}
use Rattle.awk_streams.specs.Tables.{Table}
use Rattle.awk_store.specs.Acts.{Passes}
use Rattle.awk_store.specs.Changes.{with_array}
use Rattle.awk_store.specs.Kept.{Kept, array, own_text, reference}
use Rattle.awk_store.specs.Wholes.{base, names_in}
use Rattle.awk_store.proofs.Acting.{at_rest, doing, moves, reworded}
use Rattle.awk_builtins.specs.AtHand.{AreThere, IsKey, MakesKey}
use Rattle.awk_builtins.proofs.AtHand.{nil_right, on}
use Rattle.awk_builtins.proofs.Listed.{all_there, keyed_so, removes_so}
use Rattle.awk_builtins.proofs.Printed.{drop_next, got_at, reverse_onto, there_count}
use Rattle.awk_builtins.proofs.Rests.{listed-of}

-- the expression at a place of a list
listed_at : (f : Expr → Expression) (all : List Expr) (n : ℕ) (x : Expr) (xs : List Expr) → drop n all ≡ x ∷ xs
    → slice_get (listed (expressions_of (map f all))) n ≡ Some (f x)
listed_at f all n x xs e = ap (λ l. slice_get l n) (listed-of (map f all) ∙ sym (nil_right (map f all)))
    ∙ got_at f [] all n x xs e

module _ (g : Given) (kept : Kept) (t : Table) (place : Place) (of_ : p.Variable) where
  abbrev subscripts : List Expr → Expressions
  subscripts xs = expressions_of (map (view (names_in g)) xs)

  abbrev keying : List Expr → Part
  keying xs = Target_of (p.element place of_ (subscripts xs))

  subscripts_there : {from : Piece} (all xs : List Expr) (vals vs : List Value) → drop (length vs) all ≡ xs
      → AreThere kept xs vals →
      Passes g from (kept, t) (λ k. At (keying all) vs ∷ k) (kept, t)
      → Passes g from (kept, t) (λ k. At (keying all) (reverse vals ++ vs) ∷ k) (kept, t)
  subscripts_there all [] [] vs e hs from = from
  subscripts_there all [] (u ∷ us) vs e hs from = absurd hs
  subscripts_there all (x ∷ xs) [] vs e hs from = absurd hs
  subscripts_there all (x ∷ xs) (val ∷ vals) vs e hs from =
      reworded (subscripts_there all xs vals (val ∷ vs) (drop_next all (length vs) x xs e) hs.1
      (on (moves {then_ = λ k. value (view (names_in g) x) ∷ At (keying all) vs ∷ k} from
      (λ k hid d a. rw (listed_at (view (names_in g)) all (length vs) x xs e) refl)) (hs.0 g t)))
      (λ k. ap (λ us. At (keying all) us ∷ k) (reverse_onto val vals vs))

  all_at : (xs : List Expr) (vals : List Value) → AreThere kept xs vals
      → Passes g (spot (p.element place of_ (subscripts xs))) (kept, t) (λ k. At (keying xs) (reverse vals) ∷ k) (
        kept,
        t,
      )
  all_at xs vals hs = reworded (subscripts_there xs xs vals [] refl hs (at_rest (At (keying xs) []) (kept, t)))
      (λ k. ap (λ us. At (keying xs) us ∷ k) (nil_right (reverse vals)))

  pub key_there : (xs : List Expr) (vals : List Value) (key : Text) → AreThere kept xs vals
      → limited (joined (own_text kept own.Subsep) vals) ≡ Ok key →
      Passes g (spot (p.element place of_ (subscripts xs))) (kept, t) (give (v.Text key)) (kept, t)
  key_there xs vals key hs is =
      moves (all_at xs vals hs)
      (λ k hid d a.
      ap (held g (seen (base g (kept, t) hid) d))
      (all_there (listed (subscripts xs)) (keying xs) (λ us. keyed place us (λ text k s. Goes (give (v.Text text) k) s))
      vals k (seen (base g (kept, t) hid) d) (ap length (listed-of (map (view (names_in g)) xs)) ∙ there_count kept
      (names_in g) xs vals hs)
      ∙ keyed_so g (kept, t) hid d a place vals (λ text k s. Goes (give (v.Text text) k) s) k
      ∙ ap (λ m. granted place m (λ text k s. Goes (give (v.Text text) k) s) k (seen (base g (kept, t) hid) d)) is))

-- what makes a key is that key as a subscript of whichever array
pub is_key : {keys : List Expr} {kept : Kept} {key : Text} → MakesKey keys kept key → IsKey keys kept key
is_key {keys} {kept} {key} h g t place of_ = key_there g kept t place of_ keys h.vals key h.there h.is

-- ---- delete

module _ (g : Given) (kept : Kept) (t : Table) (place : Place) (a : Variable) where
  abbrev deleting : List Expr → Part
  deleting xs = Doing (p.delete place (variable_of (names_in g) a) (map (view (names_in g)) xs))

  keys_there : {from : Piece} (all xs : List Expr) (vals vs : List Value) → drop (length vs) all ≡ xs
      → AreThere kept xs vals →
      Passes g from (kept, t) (λ k. At (deleting all) vs ∷ k) (kept, t)
      → Passes g from (kept, t) (λ k. At (deleting all) (reverse vals ++ vs) ∷ k) (kept, t)
  keys_there all [] [] vs e hs from = from
  keys_there all [] (u ∷ us) vs e hs from = absurd hs
  keys_there all (x ∷ xs) [] vs e hs from = absurd hs
  keys_there all (x ∷ xs) (val ∷ vals) vs e hs from =
      reworded (keys_there all xs vals (val ∷ vs) (drop_next all (length vs) x xs e) hs.1
      (on (moves {then_ = λ k. value (view (names_in g) x) ∷ At (deleting all) vs ∷ k} from
      (λ k hid d a. rw (ap (λ l. slice_get l (length vs)) (sym (nil_right (map (view (names_in g)) all)))
      ∙ got_at (view (names_in g)) [] all (length vs) x xs e) refl)) (hs.0 g t)))
      (λ k. ap (λ us. At (deleting all) us ∷ k) (reverse_onto val vals vs))

  pub deletes_there : (xs : List Expr) (vals : List Value) (key : Text) (new : Kept) → AreThere kept xs vals
      → limited (joined (own_text kept own.Subsep) vals) ≡ Ok key
      → new ≡ with_array (reference kept a) (without (array kept a) key) kept
      → Passes g (At (deleting xs) []) (kept, t) (λ k. k) (new, t)
  deletes_there xs vals key new hs is same =
      doing (tt {0})
      (reworded (keys_there xs xs vals [] refl hs (at_rest (At (deleting xs) []) (kept, t)))
      (λ k. ap (λ us. At (deleting xs) us ∷ k) (nil_right (reverse vals))))
      (removes_so g (kept, t) place a (map (view (names_in g)) xs) vals (there_count kept (names_in g) xs vals hs) key
      new is same) refl
