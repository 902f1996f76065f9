-- The items of a print that are there, and what it makes of them.
use Rattle.std.proofs.Common.{◌≡◌, refl, sym, ap, ◌∙◌, ◌≤◌, ◌-◌, ℕ, zero, suc, List, [], ◌∷◌, ◌++◌, length, map}
use Rattle.std.proofs.Common.{reverse, take, drop, get_or, append_assoc, arith}
use Rattle.std.proofs.lemmas.List.{length-reverse, reverse-append, take_rest}
use Rattle.std.specs.Prelude.{IfSome, Ok, Option, Some, None, slice_get}
use Rattle.awk_text.specs.declared.place.Place.{Place}
use Rattle.awk_text.specs.declared.value.Value.{Value}
use Rattle.awk_program.specs.Program as p
use Rattle.awk_program.specs.Program.{Expression}
use Rattle.awk_program.specs.Slots.{Text}
use Rattle.awk_program.specs.declared.statements.Redirection.{Redirection}
use Rattle.awk_program.specs.View.{view}
use Rattle.awk_program.specs.declared.expressions.Expr.{Expr}
use Rattle.awk_machine.specs.Advances.{held}
use Rattle.awk_machine.specs.Forms.{value}
use Rattle.awk_machine.specs.Pieces.{Piece, Part, At, Doing, Goes, granted}
use Rattle.awk_machine.specs.Printing as machine
use Rattle.awk_machine.specs.State.{Given}
use Rattle.awk_machine.specs.Streams.{seen}
use Rattle.awk_streams.specs.Tables.{Table}
use Rattle.awk_store.specs.Kept.{Kept}
use Rattle.awk_store.specs.Acts.{Passes}
use Rattle.awk_builtins.specs.Printed as spec
use Rattle.awk_store.specs.Wholes.{base, names_in}
use Rattle.awk_store.proofs.Acting.{at_rest, moves, reworded}
use Rattle.awk_builtins.proofs.PrintSteps.{printed-so}
use Rattle.awk_builtins.specs.AtHand.{AreThere, IsThere}
use Rattle.awk_builtins.specs.Outputs.{to_standard, to_stream}
use Rattle.awk_builtins.proofs.AtHand.{nil_right, on}
use Rattle.awk_builtins.proofs.Listed.{printed_none, printed_some}

pub there_more : (kept : Kept) (xs : List Expr) (vals : List Value) (x : Expr) (val : Value) → AreThere kept xs vals
    → IsThere (λ names. view names x) kept val → AreThere kept (xs ++ x ∷ []) (vals ++ val ∷ [])
there_more kept [] [] x val hs h = (h, tt)
there_more kept [] (u ∷ us) x val hs h = absurd hs
there_more kept (y ∷ ys) [] x val hs h = absurd hs
there_more kept (y ∷ ys) (u ∷ us) x val hs h = (hs.0, there_more kept ys us x val hs.1 h)

pub there_count : (kept : Kept) (names : _) (xs : List Expr) (vals : List Value) → AreThere kept xs vals
    → length (map (view names) xs) ≡ length vals
there_count kept names [] [] hs = refl
there_count kept names [] (u ∷ us) hs = absurd hs
there_count kept names (y ∷ ys) [] hs = absurd hs
there_count kept names (y ∷ ys) (u ∷ us) hs = ap suc (there_count kept names ys us hs.1)

pub got_at : {X Y : Type 0} (f : X → Y) (more : List Y) (all : List X) (n : ℕ) (x : X) (xs : List X)
    → drop n all ≡ x ∷ xs → slice_get (map f all ++ more) n ≡ Some (f x)
got_at f more [] zero x xs e = absurd (cc)
got_at f more [] (suc n) x xs e = absurd (cc)
got_at f more (y ∷ ys) zero x xs e = let h : y ≡ x = cc in ap (λ z. Some (f z)) h
got_at f more (y ∷ ys) (suc n) x xs e = got_at f more ys n x xs e

got_last : {X : Type 0} (all : List X) (n : ℕ) (x : X) → length all ≡ n → slice_get (all ++ x ∷ []) n ≡ Some x
got_last [] zero x e = refl
got_last [] (suc n) x e = absurd (omega (arith, e))
got_last (y ∷ ys) zero x e = absurd (omega (arith, e))
got_last (y ∷ ys) (suc n) x e = got_last ys n x (omega (arith, e))

pub drop_next : {X : Type 0} (all : List X) (n : ℕ) (x : X) (xs : List X) → drop n all ≡ x ∷ xs → drop (suc n) all ≡ xs
drop_next [] zero x xs e = absurd (cc)
drop_next [] (suc n) x xs e = absurd (cc)
drop_next (y ∷ ys) zero x xs e = let h : ys ≡ xs = cc in h
drop_next (y ∷ ys) (suc n) x xs e = drop_next ys n x xs e

pub reverse_onto : (val : Value) (vals vs : List Value) → reverse vals ++ (val ∷ vs) ≡ reverse (val ∷ vals) ++ vs
reverse_onto val vals vs = sym (append_assoc (reverse vals) (val ∷ []) vs) ∙ ap (λ us. us ++ vs)
    (sym (reverse-append (val ∷ []) vals))

pub first_expr : (xs : List Expr) (x : Expr) → 1 ≤ length xs → x ≡ get_or xs 0 x
    → xs ≡ x ∷ take (length xs - 1) (drop 1 xs)
first_expr [] x some is = absurd (omega (arith, some))
first_expr (y ∷ ys) x some is =
    let all : take (length (y ∷ ys) - 1) ys ≡ ys = grind (arith, take_rest ys 0) in
    ap (λ z. z ∷ ys) (sym is) ∙ ap (λ l. x ∷ l) (sym all)

module _ (g : Given) (kept : Kept) (t : Table) (place : Place) where
  abbrev printing : Option (Redirection Expression) → List Expr → Part
  printing to xs = Doing (p.print place (map (view (names_in g)) xs) to)

  items_there : {from : Piece} (to : Option (Redirection Expression)) (all xs : List Expr) (vals vs : List Value)
      → drop (length vs) all ≡ xs → AreThere kept xs vals →
      Passes g from (kept, t) (λ k. At (printing to all) vs ∷ k) (kept, t)
      → Passes g from (kept, t) (λ k. At (printing to all) (reverse vals ++ vs) ∷ k) (kept, t)
  items_there to all [] [] vs e hs from = from
  items_there to all [] (u ∷ us) vs e hs from = absurd hs
  items_there to all (x ∷ xs) [] vs e hs from = absurd hs
  items_there to all (x ∷ xs) (val ∷ vals) vs e hs from =
      reworded (items_there to all xs vals (val ∷ vs) (drop_next all (length vs) x xs e) hs.1
      (on (moves {then_ = λ k. value (view (names_in g) x) ∷ At (printing to all) vs ∷ k} from
      (λ k hid d a. rw (got_at (view (names_in g)) (machine.target_of to) all (length vs) x xs e) refl))
      (hs.0 g t)))
      (λ k. ap (λ us. At (printing to all) us ∷ k) (reverse_onto val vals vs))

  all_there : (to : Option (Redirection Expression)) (xs : List Expr) (vals : List Value) → AreThere kept xs vals
      → Passes g (At (printing to xs) []) (kept, t) (λ k. At (printing to xs) (reverse vals) ∷ k) (kept, t)
  all_there to xs vals hs = reworded (items_there to xs xs vals [] refl hs (at_rest (At (printing to xs) []) (kept, t)))
      (λ k. ap (λ us. At (printing to xs) us ∷ k) (nil_right (reverse vals)))

  pub print_there : (xs : List Expr) (vals : List Value) (text : Text) → AreThere kept xs vals
      → spec.printed kept vals ≡ Ok text →
      Passes g (At (Doing (p.print place (map (view (names_in g)) xs) None)) []) (kept, t) (to_standard place text)
      (kept, t)
  print_there xs vals text hs is =
      moves (all_there None xs vals hs)
      (λ k hid d a.
      ap (held g (seen (base g (kept, t) hid) d)) (printed_none machine.printed place (map (view (names_in g)) xs)
      (printing None xs) vals k (seen (base g (kept, t) hid) d) (there_count kept (names_in g) xs vals hs))
      ∙ ap (λ m. held g (seen (base g (kept, t) hid) d) (granted place m (λ x k s. Goes (to_standard place x k) s) k
      (seen (base g (kept, t) hid) d))) (printed-so g (kept, t) hid d a vals ∙ is))

  pub redirect_there : (xs : List Expr) (vals : List Value) (text : Text) (r : Redirection Expression) (x : Expr)
      (name : Value) → r.target ≡ view (names_in g) x → AreThere kept xs vals
      → IsThere (λ names. view names x) kept name → spec.printed kept vals ≡ Ok text →
      Passes g (At (Doing (p.print place (map (view (names_in g)) xs) (Some r))) []) (kept, t) (to_stream r name text)
      (kept, t)
  redirect_there xs vals text r x name of hs h is =
      let count = there_count kept (names_in g) xs vals hs in
      let part = printing (Some r) xs in
      moves (on (moves {then_ = λ k. value (view (names_in g) x) ∷ At part (reverse vals) ∷ k}
      (all_there (Some r) xs vals hs)
      (λ k hid d a. rw (
        got_last (map (view (names_in g)) xs) (length (reverse vals)) r.target
            (count ∙ sym (length-reverse vals)),
        of,
      ) refl)) (h g t))
      (λ k hid d a.
      ap (held g (seen (base g (kept, t) hid) d)) (printed_some machine.printed place (map (view (names_in g)) xs) part
      r name vals k (seen (base g (kept, t) hid) d) count)
      ∙ ap (λ m. held g (seen (base g (kept, t) hid) d) (granted place m (λ y k s. Goes (to_stream r name y k) s) k
      (seen (base g (kept, t) hid) d))) (printed-so g (kept, t) hid d a vals ∙ is))

pub if_some : {X : Type 0} {P Q : X → Type 0} (o : Option X) → ((x : X) → P x → Q x) → IfSome o P → IfSome o Q
if_some None f h = tt
if_some (Some x) f h = f x h
