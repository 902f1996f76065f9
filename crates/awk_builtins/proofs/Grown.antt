-- A text that grows in its place: what is read is there, each operand is joined to the text, and the whole is stored.
use Rattle.std.proofs.Common.{◌≡◌, refl, sym, ap, ◌∙◌, ◌+◌, ◌≤◌, ◌<◌, ℕ, false, List, [], ◌∷◌, ◌++◌, length, map, drop}
use Rattle.std.proofs.Common.{get_or, arith, append_assoc}
use Rattle.std.proofs.lemmas.Bool.Decides.{nat_tests}
use Rattle.std.proofs.lemmas.List.{length-append, drop_more}
use Rattle.std.specs.Prelude.{Bool, true, nat_le, Result, Ok}
use Rattle.awk_text.specs.Limits.{most_bytes}
use Rattle.awk_text.specs.Values.{text_of}
use Rattle.awk_text.specs.declared.fault.Fault.{Fault}
use Rattle.awk_text.specs.declared.place.Place.{Place}
use Rattle.awk_text.specs.declared.value.Value.{Value}
use Rattle.awk_text.specs.declared.value.Value.TheVariants as v
use Rattle.awk_program.specs.Program as p
use Rattle.awk_program.specs.Program.{Expression, Joins, joins_of}
use Rattle.awk_program.specs.Slots.{Text}
use Rattle.awk_program.specs.View.{variable_of, view, view_joined}
use Rattle.awk_program.specs.declared.expressions.Expr.{Expr}
use Rattle.awk_program.specs.declared.expressions.Joined.{Joined}
use Rattle.awk_program.specs.declared.variables.Variable.{Variable}
use Rattle.awk_machine.specs.Forms.{value}
use Rattle.awk_machine.specs.Operators.{limited}
use Rattle.awk_machine.specs.Pieces as machine
use Rattle.awk_machine.specs.Pieces.{Piece, Part, At, Do, Get, Set, Give, Goes, Value_of, Target_of, Texts_of, give}
use Rattle.awk_machine.specs.State.{Given}
use Rattle.awk_store.specs.Changes.{with_value}
use Rattle.awk_store.specs.Kept as kept
use Rattle.awk_store.specs.Kept.{Kept}
use Rattle.awk_store.specs.Acts.{Passes}
use Rattle.awk_store.specs.Wholes.{Whole, names_in}
use Rattle.awk_store.proofs.Acting.{at_rest, moves, reworded, doing}
use Rattle.awk_store.proofs.Agreeing.{nf-so}
use Rattle.awk_store.proofs.VariableSteps.{sets_variable}
use Rattle.awk_store.proofs.Limited.{limited_ok}
use Rattle.awk_builtins.proofs.AtHand.{nil_right, on, variable_there}
use Rattle.awk_builtins.proofs.Rests.{drop_all}
use Rattle.awk_builtins.specs.Growing.{Follows, Lends}

-- the operands from a place on wait behind a text, and what was added to it
abbrev pub so_far : Given → List (Joined Expr) → Text → ℕ → Text → List Piece → List Piece
so_far g rest text n more k = At (Texts_of (joins_of (map (view_joined (names_in g)) (drop n rest))))
    (v.Text (text ++ more) ∷ []) ∷ k

-- the operands from a place on wait behind a value
abbrev pub behind : Given → List (Joined Expr) → ℕ → Value → List Piece → List Piece
behind g rest n val k = At (Texts_of (joins_of (map (view_joined (names_in g)) (drop n rest)))) (val ∷ []) ∷ k

abbrev ok_of : Text → Result Text Fault
ok_of text = Ok text

-- a text that was granted is within the limit
fits_by : (b : Bool) (text key : Text) → nat_le (length text) most_bytes ≡ b → limited text ≡ Ok key
    → length text ≤ most_bytes
fits_by true text key e h = grind (arith, nat_tests)
fits_by false text key e h = absurd (grind (arith, nat_tests))

pub limited_fits : (text key : Text) → limited text ≡ Ok key → length text ≤ most_bytes
limited_fits text key h = fits_by (nat_le (length text) most_bytes) text key refl h

-- and is that text
pub limited_is : (text key : Text) → limited text ≡ Ok key → text ≡ key
limited_is text key h =
    let both : ok_of text ≡ ok_of key = sym (limited_ok text (limited_fits text key h)) ∙ h in
    cc

module _ (g : Given) (w : Whole) where
  -- ---- operands are joined

  -- one more operand behind a value's text
  pub joins_value : {from : Piece} {old : Whole} (place : Place) (e : Expression) (xs : Joins) (val z : Value)
      → Passes g (value e) w (give z) w → length (text_of val ++ text_of z) ≤ most_bytes →
      Passes g from old (λ k. At (Texts_of (p.join place e xs)) (val ∷ []) ∷ k) w
      → Passes g from old (λ k. At (Texts_of xs) (v.Text (text_of val ++ text_of z) ∷ []) ∷ k) w
  joins_value place e xs val z there fits h =
      moves (on (moves {then_ = λ k. value e ∷ At (Texts_of (p.join place e xs)) (val ∷ []) ∷ k} h (λ k hid d a. refl))
      there)
      (λ k hid d a. rw (limited_ok (text_of val ++ text_of z) fits) refl)

  pub joins_next : {from : Piece} {old : Whole} (place : Place) (e : Expression) (xs : Joins) (text more : Text)
      → Lends g w e more → length (text ++ more) ≤ most_bytes →
      Passes g from old (λ k. At (Texts_of (p.join place e xs)) (v.Text text ∷ []) ∷ k) w
      → Passes g from old (λ k. At (Texts_of xs) (v.Text (text ++ more) ∷ []) ∷ k) w
  joins_next place e xs text more l fits h =
      rw l.is at (joins_value place e xs (v.Text text) l.val l.passes (rw l.is fits) h)

  pub joins_end : {from : Piece} {old : Whole} (text : Text)
      → Passes g from old (λ k. At (Texts_of p.no_joins) (v.Text text ∷ []) ∷ k) w
      → Passes g from old (give (v.Text text)) w
  joins_end text h = moves h (λ k hid d a. refl)

  -- the only operand
  pub joins_only : (place : Place) (e : Expression) (room : ℕ) (more : Text) → Lends g w e more → length more ≤ room
      → Follows g w (p.join place e p.no_joins) room more
  joins_only place e room more l within text fits =
      joins_end (text ++ more) (joins_next place e p.no_joins text more l
      (rw (length-append text more) (omega (arith, within, fits))) (at_rest _ w))

  pub joins_first : (xs : Joins) (text more : Text) → more ≡ [] → Passes g (At (Texts_of xs) (v.Text text ∷ [])) w
      (λ k. At (Texts_of xs) (v.Text (text ++ more) ∷ []) ∷ k) w
  joins_first xs text more none = reworded (at_rest _ w) (λ k. ap (λ t. At (Texts_of xs) (v.Text t ∷ []) ∷ k)
      (sym (ap (λ m. text ++ m) none ∙ nil_right text)))

  -- the operand at a place among the others
  module _ {from : Piece} {old : Whole} (rest : List (Joined Expr)) (i : ℕ) (text : Text) where
    pub joins_at : (x : Joined Expr) (room : ℕ) (before more after : Text) → i < length rest → x ≡ get_or rest i x
        → after ≡ before ++ more → length text + room ≤ most_bytes → length after ≤ room
        → Lends g w (view (names_in g) x.operand) more →
        Passes g from old (so_far g rest text i before) w → Passes g from old (so_far g rest text (i + 1) after) w
    joins_at x room before more after inside is e fits within l h =
        let short : length ((text ++ before) ++ more) ≤ most_bytes = rw (append_assoc text before more, sym e)
        (rw (length-append text after) (omega arith)) in
        let there : drop i rest ≡ x ∷ drop (i + 1) rest = drop_more rest i x inside ∙ ap (λ y. y ∷ drop (i + 1) rest)
        (sym is) in
        reworded (joins_next x.place (view (names_in g) x.operand)
        (joins_of (map (view_joined (names_in g)) (drop (i + 1) rest))) (text ++ before) more l short
        (reworded h (λ k. ap (λ xs. At (Texts_of (joins_of (map (view_joined (names_in g)) xs)))
        (v.Text (text ++ before) ∷ []) ∷ k) there)))
        (λ k. ap (λ t. At (Texts_of (joins_of (map (view_joined (names_in g)) (drop (i + 1) rest)))) (v.Text t ∷ []) ∷
        k) (append_assoc text before more ∙ ap (λ m. text ++ m) (sym e)))

    pub joins_done : (more : Text) → length rest ≤ i → Passes g from old (so_far g rest text i more) w
        → Passes g from old (give (v.Text (text ++ more))) w
    joins_done more past h =
        joins_end (text ++ more)
        (reworded h (λ k. ap (λ xs. At (Texts_of (joins_of (map (view_joined (names_in g)) xs)))
        (v.Text (text ++ more) ∷ []) ∷ k) (drop_all rest i past)))

  -- the same, whatever value comes first
  module _ {from : Piece} {old : Whole} (rest : List (Joined Expr)) (i : ℕ) (val : Value) where
    pub operands_at : (x : Joined Expr) (z : Value) → i < length rest → x ≡ get_or rest i x
        → length (text_of val ++ text_of z) ≤ most_bytes → Passes g (value (view (names_in g) x.operand)) w (give z) w →
        Passes g from old (behind g rest i val) w
        → Passes g from old (behind g rest (i + 1) (v.Text (text_of val ++ text_of z))) w
    operands_at x z inside is fits there h =
        let rest_is : drop i rest ≡ x ∷ drop (i + 1) rest = drop_more rest i x inside ∙ ap (λ y. y ∷ drop (i + 1) rest)
        (sym is) in
        joins_value x.place (view (names_in g) x.operand)
        (joins_of (map (view_joined (names_in g)) (drop (i + 1) rest))) val z there fits
        (reworded h (λ k. ap (λ xs. At (Texts_of (joins_of (map (view_joined (names_in g)) xs))) (val ∷ []) ∷ k)
        rest_is))

    pub operands_done : length rest ≤ i → Passes g from old (behind g rest i val) w → Passes g from old (give val) w
    operands_done past h =
        moves (reworded {then_ = λ k. At (Texts_of p.no_joins) (val ∷ []) ∷ k} h
        (λ k. ap (λ xs. At (Texts_of (joins_of (map (view_joined (names_in g)) xs))) (val ∷ []) ∷ k)
        (drop_all rest i past))) (λ k hid d a. refl)

  pub operands_first : (x : Expression) (xs : Joins) (val : Value) → Passes g (value x) w (give val) w
      → Passes g (value (p.concat x xs)) w (λ k. At (Texts_of xs) (val ∷ []) ∷ k) w
  operands_first x xs val h = on (moves {then_ = λ k. value x ∷ At (Texts_of xs) [] ∷ k} (at_rest _ w)
      (λ k hid d a. refl)) h

-- ---- the first operand

-- what reads a variable, where that holds a text
pub holds_text : (g : Given) (w : Whole) (x : Variable) (first : Expression) (old : Text) → kept.is_nf x ≡ false
    → first ≡ p.read (p.variable (variable_of (names_in g) x)) → kept.value w.0 x ≡ v.Text old
    → Passes g (value first) w (give (v.Text old)) w
holds_text g w x first old n reads holds = rw (reads, sym holds) (variable_there g w x n)

-- ---- the whole assignment

module _ (g : Given) (w : Whole) (place : Place) (x : Variable) (n : kept.is_nf x ≡ false) (first : Expression)
    (xs : Joins) (old more : Text) where
  abbrev assigned : Expression
  assigned = p.assign place (p.variable (variable_of (names_in g) x)) (p.concat first xs)

  waits : Passes g (value assigned) w (λ k. value first ∷ At (Texts_of xs) [] ∷ At (Value_of assigned) (v.Unset ∷ []) ∷
      k) w
  waits =
      moves {to = λ k. value (p.concat first xs) ∷ At (Value_of assigned) (v.Unset ∷ []) ∷ k}
      (moves {to = λ k. At (Value_of assigned) (v.Unset ∷ []) ∷ k}
      (moves {to = λ k. At (Target_of (p.variable (variable_of (names_in g) x))) [] ∷ At (Value_of assigned) [] ∷ k}
      (moves (at_rest _ w) (λ k hid d a. refl)) (λ k hid d a. refl)) (λ k hid d a. refl)) (λ k hid d a. refl)

  pub assigns : (room : ℕ) (new : Kept) → Passes g (value first) w (give (v.Text old)) w
      → length old + room ≤ most_bytes → Follows g w xs room more →
      new ≡ with_value x (v.Text (old ++ more)) w.0 → Passes g (value assigned) w (give (v.Text (old ++ more))) (
        new,
        w.1,
      )
  assigns room new read fits follows same =
      let text : Passes g (value assigned) w (λ k. At (Value_of assigned) (v.Text (old ++ more) ∷ v.Unset ∷ []) ∷ k) w =
      on (on waits read) (follows old fits) in
      moves (doing (tt {0})
      (moves {then_ = λ k. Do (Set (machine.Variable (variable_of (names_in g) x)) place (v.Text (old ++ more))) ∷
      Do (Give (v.Text (old ++ more))) ∷ k} text
      (λ k hid d a. rw (nf-so g w hid d a x, n) refl)) (sets_variable g w x place (v.Text (old ++ more)) new n same)
      refl) (λ k hid d a. refl)
