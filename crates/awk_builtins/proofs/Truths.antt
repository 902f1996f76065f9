-- Tests whose parts are there: `!`, `in`, and chains of `&&` and `||`.
use Rattle.std.proofs.Common.{◌≡◌, refl, sym, ap, ◌∙◌, ◌+◌, ◌≤◌, ◌<◌, ℕ, List, [], ◌∷◌, length, map, drop, get_or}
use Rattle.std.proofs.Common.{arith}
use Rattle.std.proofs.lemmas.List.{drop_more}
use Rattle.std.specs.Prelude.{true, false, not}
use Rattle.awk_text.specs.Values.{text_of, truth}
use Rattle.awk_text.specs.declared.value.Value.{Value}
use Rattle.awk_lib.specs.Arrays.{has}
use Rattle.awk_program.specs.Program as p
use Rattle.awk_program.specs.Program.{Expression, Expressions, expressions_of}
use Rattle.awk_program.specs.View.{variable_of, view}
use Rattle.awk_program.specs.declared.expressions.Expr.{Expr}
use Rattle.awk_program.specs.declared.variables.Variable.{Variable}
use Rattle.awk_machine.specs.Forms.{value}
use Rattle.awk_machine.specs.Operators.{of_truth}
use Rattle.awk_machine.specs.Pieces.{Piece, Part, At, Ands_of, Goes, Members_of, Ors_of, Value_of, give}
use Rattle.awk_machine.specs.State.{Given}
use Rattle.awk_machine.specs.Streams.{seen}
use Rattle.awk_store.specs.Acts.{Passes}
use Rattle.awk_store.specs.Kept as kept
use Rattle.awk_store.specs.Wholes.{Whole, base, names_in}
use Rattle.awk_store.proofs.Acting.{at_rest, moves, reworded}
use Rattle.awk_store.proofs.Agreeing.{array-so}
use Rattle.awk_builtins.proofs.Rests.{drop_all}
use Rattle.awk_builtins.proofs.AtHand.{on}

there_of : {X : Type 0} (xs : List X) (i : ℕ) (x : X) → i < length xs → x ≡ get_or xs i x
    → drop i xs ≡ x ∷ drop (i + 1) xs
there_of xs i x inside is = drop_more xs i x inside ∙ ap (λ y. y ∷ drop (i + 1) xs) (sym is)

module _ (g : Given) (w : Whole) where
  pub not_there : (x : Expression) (a : Value) → Passes g (value x) w (give a) w
      → Passes g (value (p.not x)) w (give (of_truth (not (truth w.0.numbers a)))) w
  not_there x a h =
      let part : Part = Value_of (p.not x) in
      moves (on (moves {then_ = λ k. value x ∷ At part [] ∷ k} (at_rest _ w) (λ k hid d a. refl)) h) (λ k hid d a. refl)

  pub member_there : (x : Expression) (array : Variable) (key : Value) → Passes g (value x) w (give key) w →
      Passes g (value (p.member x (variable_of (names_in g) array ∷ []))) w
      (give (of_truth (has (kept.array w.0 array) (text_of key)))) w
  member_there x array key h =
      moves (moves {then_ = λ k. At (Members_of []) (of_truth (has (kept.array w.0 array) (text_of key)) ∷ []) ∷ k}
      (on (moves {then_ = λ k. value x ∷ At (Members_of (variable_of (names_in g) array ∷ [])) [] ∷ k} (at_rest _ w)
      (λ k hid d a. refl)) h)
      (λ k hid d a. ap (λ xs. Goes (At (Members_of []) (of_truth (has xs (text_of key)) ∷ []) ∷ k)
      (seen (base g w hid) d)) (array-so g w hid d a array)))
      (λ k hid d a. refl)

  pub member_of_one : (x : Expression) (arrays : List Variable) (other : Variable) (key : Value) → 1 ≤ length arrays
      → length arrays < 2 → Passes g (value x) w (give key) w →
      Passes g (value (p.member x (map (variable_of (names_in g)) arrays))) w
      (give (of_truth (has (kept.array w.0 (get_or arrays 0 other)) (text_of key)))) w
  member_of_one x [] other key some few h = absurd (omega (arith, some))
  member_of_one x (a ∷ []) other key some few h = member_there x a key h
  member_of_one x (a ∷ b ∷ more) other key some few h = absurd (omega (arith, few))

  -- ---- chains of `&&`

  -- the parts from a place on wait behind a value
  abbrev pub ands : List Expr → ℕ → Value → List Piece → List Piece
  ands xs n a k = At (Ands_of (expressions_of (map (view (names_in g)) (drop n xs)))) (a ∷ []) ∷ k

  pub and_first : (x : Expression) (xs : Expressions) (a : Value) → Passes g (value x) w (give a) w
      → Passes g (value (p.and x xs)) w (λ k. At (Ands_of xs) (a ∷ []) ∷ k) w
  and_first x xs a h = on (moves {then_ = λ k. value x ∷ At (Ands_of xs) [] ∷ k} (at_rest _ w) (λ k hid d a. refl)) h

  pub and_next : {from : Piece} (xs : List Expr) (i : ℕ) (x : Expr) (a b : Value) → i < length xs → x ≡ get_or xs i x
      → truth w.0.numbers a ≡ true → Passes g (value (view (names_in g) x)) w (give b) w →
      Passes g from w (ands xs i a) w → Passes g from w (ands xs (i + 1) b) w
  and_next xs i x a b inside is held h from =
      on (moves {then_ = λ k. value (view (names_in g) x) ∷ At
      (Ands_of (expressions_of (map (view (names_in g)) (drop (i + 1) xs)))) [] ∷ k}
      (reworded from (λ k. ap (λ ys. At (Ands_of (expressions_of (map (view (names_in g)) ys))) (a ∷ []) ∷ k)
      (there_of xs i x inside is))) (λ k hid d ag. rw held refl)) h

  pub and_ends : {from : Piece} (xs : List Expr) (i : ℕ) (x : Expr) (a : Value) → i < length xs → x ≡ get_or xs i x
      → truth w.0.numbers a ≡ false → Passes g from w (ands xs i a) w → Passes g from w (give (of_truth false)) w
  and_ends xs i x a inside is failed from =
      moves (reworded from (λ k. ap (λ ys. At (Ands_of (expressions_of (map (view (names_in g)) ys))) (a ∷ []) ∷ k)
      (there_of xs i x inside is))) (λ k hid d ag. rw failed refl)

  pub and_done : {from : Piece} (xs : List Expr) (i : ℕ) (a : Value) → length xs ≤ i → Passes g from w (ands xs i a) w
      → Passes g from w (give (of_truth (truth w.0.numbers a))) w
  and_done xs i a past from =
      moves (reworded {then_ = λ k. At (Ands_of p.none) (a ∷ []) ∷ k} from
      (λ k. ap (λ ys. At (Ands_of (expressions_of (map (view (names_in g)) ys))) (a ∷ []) ∷ k)
      (drop_all xs i past))) (λ k hid d ag. refl)

  -- ---- chains of `||`

  abbrev pub ors : List Expr → ℕ → Value → List Piece → List Piece
  ors xs n a k = At (Ors_of (expressions_of (map (view (names_in g)) (drop n xs)))) (a ∷ []) ∷ k

  pub or_first : (x : Expression) (xs : Expressions) (a : Value) → Passes g (value x) w (give a) w
      → Passes g (value (p.or x xs)) w (λ k. At (Ors_of xs) (a ∷ []) ∷ k) w
  or_first x xs a h = on (moves {then_ = λ k. value x ∷ At (Ors_of xs) [] ∷ k} (at_rest _ w) (λ k hid d a. refl)) h

  pub or_next : {from : Piece} (xs : List Expr) (i : ℕ) (x : Expr) (a b : Value) → i < length xs → x ≡ get_or xs i x
      → truth w.0.numbers a ≡ false → Passes g (value (view (names_in g) x)) w (give b) w →
      Passes g from w (ors xs i a) w → Passes g from w (ors xs (i + 1) b) w
  or_next xs i x a b inside is failed h from =
      on (moves {then_ = λ k. value (view (names_in g) x) ∷ At
      (Ors_of (expressions_of (map (view (names_in g)) (drop (i + 1) xs)))) [] ∷ k}
      (reworded from (λ k. ap (λ ys. At (Ors_of (expressions_of (map (view (names_in g)) ys))) (a ∷ []) ∷ k)
      (there_of xs i x inside is))) (λ k hid d ag. rw failed refl)) h

  pub or_ends : {from : Piece} (xs : List Expr) (i : ℕ) (x : Expr) (a : Value) → i < length xs → x ≡ get_or xs i x
      → truth w.0.numbers a ≡ true → Passes g from w (ors xs i a) w → Passes g from w (give (of_truth true)) w
  or_ends xs i x a inside is held from =
      moves (reworded from (λ k. ap (λ ys. At (Ors_of (expressions_of (map (view (names_in g)) ys))) (a ∷ []) ∷ k)
      (there_of xs i x inside is))) (λ k hid d ag. rw held refl)

  pub or_done : {from : Piece} (xs : List Expr) (i : ℕ) (a : Value) → length xs ≤ i → Passes g from w (ors xs i a) w
      → Passes g from w (give (of_truth (truth w.0.numbers a))) w
  or_done xs i a past from =
      moves (reworded {then_ = λ k. At (Ors_of p.none) (a ∷ []) ∷ k} from
      (λ k. ap (λ ys. At (Ors_of (expressions_of (map (view (names_in g)) ys))) (a ∷ []) ∷ k) (drop_all xs i past)))
      (λ k hid d ag. refl)
