-- What is there without a move, and what a chain makes of it.
use Rattle.std.proofs.Common.{◌≡◌, refl, sym, ap, subst, ◌∙◌, inl, ◌+◌, ◌≤◌, ◌<◌, ◌^◌, ℕ, true, false, List, [], ◌∷◌}
use Rattle.std.proofs.Common.{◌++◌, length, map, drop, get_or, arith}
use Rattle.std.proofs.lemmas.List.{drop_more}
use Rattle.std.proofs.lemmas.Fmt.{length-decimal-le}
use Rattle.std.specs.Fmt.{decimal}
use Rattle.std.specs.Int.{FitsUnsignedBits}
use Rattle.std.specs.Prelude.{Bool, ℤ, pos, negsuc, nat_abs, Option, Some, Result, Ok}
use Rattle.awk_numbers.specs.declared.number.Number.{Number}
use Rattle.awk_numbers.specs.declared.number.Number.TheVariants as number
use Rattle.awk_numbers.specs.declared.number.Numbers.{Numbers}
use Rattle.awk_text.specs.Limits.{most_bytes}
use Rattle.awk_text.specs.Values.{number_of, numeric, of_number, text_of, truth}
use Rattle.awk_text.specs.declared.place.Place.{Place}
use Rattle.awk_text.specs.declared.value.Value.{Value}
use Rattle.awk_text.specs.declared.value.Value.TheVariants as v
use Rattle.awk_fields.specs.Rows.{Field, HasFields, IsKept, IsValueAt}
use Rattle.awk_format.specs.Formatted.{within}
use Rattle.awk_lib.specs.Arrays.{element}
use Rattle.awk_lib.specs.Written.{written}
use Rattle.awk_program.specs.Program as p
use Rattle.awk_program.specs.Program.{Expression, Terms, terms_of}
use Rattle.awk_program.specs.Slots.{Text}
use Rattle.awk_program.specs.View.{variable_of, view, view_term}
use Rattle.awk_program.specs.declared.expressions.Expr.{Expr}
use Rattle.awk_program.specs.declared.expressions.Term.{Term}
use Rattle.awk_program.specs.declared.operators.Comparison.{Comparison}
use Rattle.awk_program.specs.declared.operators.Operator.{Operator}
use Rattle.awk_program.specs.declared.variables.Variable.{Variable}
use Rattle.awk_machine.specs.Forms.{value, spot}
use Rattle.awk_machine.specs.Operators.{limited, operation, compared, of_truth}
use Rattle.awk_machine.specs.Pieces.{Piece, Part, At, Do, Get, Match, Pattern_of, Value_of, Target_of, Terms_of, give}
use Rattle.awk_machine.specs.State.{Given}
use Rattle.awk_machine.specs.Targets.{target}
use Rattle.awk_streams.specs.declared.halt.Halt.{Halt}
use Rattle.awk_streams.specs.declared.halt.Halt.{Halt}
use Rattle.awk_streams.specs.Tables.{Table}
use Rattle.awk_store.specs.Changes.{with_row}
use Rattle.awk_store.specs.Kept as kept
use Rattle.awk_store.specs.Acts.{Acts, Passes}
use Rattle.awk_store.specs.Wholes.{Whole, names_in}
use Rattle.awk_store.proofs.Acting.{at_rest, moves, keeps, reworded, doing, done}
use Rattle.awk_store.proofs.ArraySteps.{reads_element}
use Rattle.awk_store.proofs.Rebuilding.{agreeing_row}
use Rattle.awk_store.proofs.RecordSteps.{reads_field, small}
use Rattle.awk_store.proofs.VariableSteps.{reads_variable, counted_nf}
use Rattle.awk_builtins.proofs.Lines.{within_held, written_held}
use Rattle.awk_store.proofs.Limited.{limited_ok}
use Rattle.awk_builtins.proofs.Rests.{drop_all}

pub nil_right : {X : Type 0} (xs : List X) → xs ++ [] ≡ xs
nil_right [] = refl
nil_right (x ∷ xs) = ap (λ ys. x ∷ ys) (nil_right xs)

-- a piece passes to another one, and that on
pub on : {g : Given} {p q : Piece} {old mid new : Whole} {to then_ : List Piece → List Piece}
    → Passes g p old (λ k. q ∷ to k) mid → Passes g q mid then_ new → Passes g p old (λ k. then_ (to k)) new
on {then_ = then_} h m = doing (tt {0}) h (done {on = λ (u : Unit {0}). then_} m) refl

module _ (g : Given) (w : Whole) where
  -- ---- what is read or set

  pub variable_spot : (x : Variable) → Passes g (spot (p.variable (variable_of (names_in g) x))) w (give v.Unset) w
  variable_spot x = moves (at_rest _ w) (λ k hid d a. refl)

  pub element_spot : (place : Place) (x : p.Variable) (e : Expression) (sub : Value) (key : Text)
      → Passes g (value e) w (give sub) w → limited (text_of sub) ≡ Ok key →
      Passes g (spot (p.element place x (p.more e p.none))) w (give (v.Text key)) w
  element_spot place x e sub key h is =
      moves (on (moves {then_ = λ k. value e ∷ At (Target_of (p.element place x (p.more e p.none))) [] ∷ k}
      (at_rest _ w) (λ k hid d a. refl)) h) (λ k hid d a. rw (ap limited (nil_right (text_of sub)) ∙ is) refl)

  pub field_spot : (place : Place) (e : Expression) (sub : Value) (n : ℕ) → Passes g (value e) w (give sub) w
      → number_of w.0.numbers sub ≡ Ok (number.Whole (pos n)) → n ≤ 65535 →
      Passes g (spot (p.field place e)) w (give (v.Num (pos n))) w
  field_spot place e sub n h is fits =
      moves (on (moves {then_ = λ k. value e ∷ At (Target_of (p.field place e)) [] ∷ k} (at_rest _ w)
      (λ k hid d a. refl)) h) (λ k hid d a. rw (is, small n fits) refl)

  -- it is read
  pub reads : (r : p.Reference) (at val : Value) → Passes g (spot r) w (give at) w
      → Acts g (Do (Get (target r at))) give w (Ok val) w → Passes g (value (p.read r)) w (give val) w
  reads r at val h get =
      let part : Part = Value_of (p.read r) in
      doing val (moves {then_ = λ k. Do (Get (target r at)) ∷ k}
      (on (moves {then_ = λ k. spot r ∷ At part [] ∷ k} (at_rest _ w) (λ k hid d a. refl)) h) (λ k hid d a. refl))
      get refl

  -- ---- what is there

  pub number_there : (n : Number) → Passes g (value (p.number n)) w (give (of_number n)) w
  number_there n = moves (at_rest _ w) (λ k hid d a. refl)

  pub text_there : (x : Text) → Passes g (value (p.text x)) w (give (v.Text x)) w
  text_there x = moves (at_rest _ w) (λ k hid d a. refl)

  pub variable_there : (x : Variable) → kept.is_nf x ≡ false
      → Passes g (value (p.read (p.variable (variable_of (names_in g) x)))) w (give (kept.value w.0 x)) w
  variable_there x n = reads (p.variable (variable_of (names_in g) x)) v.Unset (kept.value w.0 x) (variable_spot x)
      (reads_variable g w x n)

  pub nf_there : (x : Variable) (n : ℤ) → kept.is_nf x ≡ true → (vs : List Field) × HasFields w.0.row vs
      × (n ≡ pos (length vs)) → Passes g (value (p.read (p.variable (variable_of (names_in g) x)))) w (give (v.Num n)) w
  nf_there x n y h = reads (p.variable (variable_of (names_in g) x)) v.Unset (v.Num n) (variable_spot x)
      (counted_nf g w x w.0 n y refl (inl refl) h)

  pub element_there : (place : Place) (x : Variable) (e : Expression) (sub : Value) (key : Text) (val : Value)
      → Passes g (value e) w (give sub) w → text_of sub ≡ key → length key ≤ most_bytes →
      element (kept.array w.0 x) key ≡ Some val
      → Passes g (value (p.read (p.element place (variable_of (names_in g) x) (p.more e p.none)))) w (give val) w
  element_there place x e sub key val h is fits has =
      reads (p.element place (variable_of (names_in g) x) (p.more e p.none)) (v.Text key) val
      (element_spot place (variable_of (names_in g) x) e sub key h (ap limited is ∙ limited_ok key fits))
      (reads_element g w x key place val has)

  pub field_there : (place : Place) (e : Expression) (sub : Value) (n : ℕ) (val : Value)
      → Passes g (value e) w (give sub) w → number_of w.0.numbers sub ≡ Ok (number.Whole (pos n)) → n ≤ 65535 →
      IsValueAt w.0.row n val → Passes g (value (p.read (p.field place e))) w (give val) w
  field_there place e sub n val h is fits at =
      reads (p.field place e) (v.Num (pos n)) val (field_spot place e sub n h is fits)
      (reads_field g w n w.0 val fits refl (inl refl) (n, small n fits, at))

  -- ---- chains

  pub chain_first : (x : Expression) (xs : Terms) (val : Value) → Passes g (value x) w (give val) w
      → Passes g (value (p.chain x xs)) w (λ k. At (Terms_of xs) (val ∷ []) ∷ k) w
  chain_first x xs val h = on (moves {then_ = λ k. value x ∷ At (Terms_of xs) [] ∷ k} (at_rest _ w) (λ k hid d a. refl))
      h

  terms_next : {from : Piece} (how : Operator) (place : Place) (y : Expression) (xs : Terms) (val z : Value) (a b c : ℤ)
      → number_of w.0.numbers val ≡ Ok (number.Whole a) → number_of w.0.numbers z ≡ Ok (number.Whole b)
      → operation w.0.numbers how (number.Whole a) (number.Whole b) ≡ Ok (number.Whole c) →
      Passes g (value y) w (give z) w → Passes g from w (λ k. At (Terms_of (p.term how place y xs)) (val ∷ []) ∷ k) w
      → Passes g from w (λ k. At (Terms_of xs) (v.Num c ∷ []) ∷ k) w
  terms_next how place y xs val z a b c first second made h from =
      moves (on (moves {then_ = λ k. value y ∷ At (Terms_of (p.term how place y xs)) (val ∷ []) ∷ k} from
      (λ k hid d a. refl)) h) (λ k hid d a. rw (first, second, made) refl)

  -- the terms from a place on wait behind a value
  abbrev pub waiting : List (Term Expr) → ℕ → Value → List Piece → List Piece
  waiting xs n val k = At (Terms_of (terms_of (map (view_term (names_in g)) (drop n xs)))) (val ∷ []) ∷ k

  pub terms_at : {from : Piece} (xs : List (Term Expr)) (i : ℕ) (x : Term Expr) (val z : Value) (a b c : ℤ)
      → i < length xs → x ≡ get_or xs i x → number_of w.0.numbers val ≡ Ok (number.Whole a)
      → number_of w.0.numbers z ≡ Ok (number.Whole b)
      → operation w.0.numbers x.operator (number.Whole a) (number.Whole b) ≡ Ok (number.Whole c) →
      Passes g (value (view (names_in g) x.operand)) w (give z) w → Passes g from w (waiting xs i val) w
      → Passes g from w (waiting xs (i + 1) (v.Num c)) w
  terms_at xs i x val z a b c inside is first second made h from =
      let there : drop i xs ≡ x ∷ drop (i + 1) xs = drop_more xs i x inside ∙ ap (λ y. y ∷ drop (i + 1) xs) (sym is) in
      terms_next x.operator x.place (view (names_in g) x.operand)
      (terms_of (map (view_term (names_in g)) (drop (i + 1) xs))) val z a b c first second made h
      (reworded from (λ k. ap (λ ys. At (Terms_of (terms_of (map (view_term (names_in g)) ys))) (val ∷ []) ∷ k) there))

  pub terms_done : {from : Piece} (xs : List (Term Expr)) (i : ℕ) (val : Value) → length xs ≤ i
      → Passes g from w (waiting xs i val) w → Passes g from w (give val) w
  terms_done xs i val past from =
      moves (reworded {then_ = λ k. At (Terms_of p.no_terms) (val ∷ []) ∷ k} from
      (λ k. ap (λ ys. At (Terms_of (terms_of (map (view_term (names_in g)) ys))) (val ∷ []) ∷ k)
      (drop_all xs i past))) (λ k hid d a. refl)

  -- ---- a constant pattern

  pub matches_there : (place at : Place) (x : Expression) (by : Text) (val : Value) (b : Bool) (r : Result Bool Halt)
      → Passes g (value x) w (give val) w → Passes g (At (Pattern_of (p.constant at by)) []) w (give (v.Text by)) w →
      Acts g (Do (Match by (text_of val))) (λ b. give (of_truth b)) w r w → r ≡ Ok b
      → Passes g (value (p.matched place x (p.constant at by))) w (give (of_truth b)) w
  matches_there place at x by val b r h check match is =
      let part : Part = Value_of (p.matched place x (p.constant at by)) in
      doing b (moves {then_ = λ k. Do (Match by (text_of val)) ∷ k}
      (on (moves {then_ = λ k. At (Pattern_of (p.constant at by)) [] ∷ At part (val ∷ []) ∷ k}
      (on (moves {then_ = λ k. value x ∷ At part [] ∷ k} (at_rest _ w) (λ k hid d a. refl)) h) (λ k hid d a. refl))
      check)
      (λ k hid d a. refl)) match is

-- the record is split, and the machine has not moved
pub splits : (g : Given) (t : Table) (old new : kept.Kept) (q : Piece) → new ≡ with_row new.row old
    → IsKept old.row new.row → Passes g q (old, t) (λ k. q ∷ k) (new, t)
splits g t old new q same is =
    subst (λ (k : kept.Kept). Passes g q (old, t) (λ l. q ∷ l) (k, t)) (sym same)
    (keeps refl (λ hid. refl) (agreeing_row g (old, t) new.row is) (at_rest q (old, t)))

-- a number that is one of a field
pub field_number_is : (z : ℤ) (n : ℕ) → FitsUnsignedBits 16 z → n ≡ nat_abs z → (z ≡ pos n) × (n ≤ 65535)
field_number_is (pos m) n fits is = (ap pos (sym is), omega (arith, fits, is))
field_number_is (negsuc m) n fits is = absurd fits

-- ---- the digits of a number that is not negative

pub place_is : (k : ℕ) (z : ℤ) (n : ℕ) → FitsUnsignedBits k z → n ≡ nat_abs z → text_of (v.Num z) ≡ decimal n
place_is k (pos m) n fits is = ap decimal (sym is)
place_is k (negsuc m) n fits is = absurd fits

pub few_digits : (n : ℕ) → n < 2 ^ 64 → length (decimal n) ≤ most_bytes
few_digits n l = omega (arith, length-decimal-le 20 n (omega arith) (omega (arith, l)) l)

-- ---- what was written into an empty line

pub line_told : (line : Option Text) (text key : Text) → line ≡ written (Some []) text → within line ≡ Ok key
    → limited text ≡ Ok key
line_told line text key is told = sym (within_held text) ∙ ap within (sym (written_held [] text)) ∙ ap within (sym is)
    ∙ told

pub truth_back : (numbers : Numbers) (b : Bool) → truth numbers (of_truth b) ≡ b
truth_back numbers true = refl
truth_back numbers false = refl
