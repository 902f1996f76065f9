-- How forms come to the use of their pattern.
use Rattle.std.proofs.Common.{◌≡◌, ◌⊎◌, ◌<◌, ◌≤◌, ◌∙◌, inl, inr, refl, ap, Bool, true, false, List, [], ◌∷◌, ◌++◌}
use Rattle.std.proofs.Common.{arith, length}
use Rattle.std.proofs.lemmas.Bool.Decides.{nat_tests}
use Rattle.std.specs.Prelude.{ℤ, pos, Option, Some, None, Result, Ok, Err, nat_lt, IfOk, IfErr}
use Rattle.awk_fields.specs.Separators.{Separator, separator, ere, IsNoEre}
use Rattle.awk_text.specs.Values.{text_of}
use Rattle.awk_text.specs.declared.fault.Fault.{Fault}
use Rattle.awk_text.specs.declared.fault.Fault.TheVariants as fault
use Rattle.awk_text.specs.declared.place.Place.{Place}
use Rattle.awk_text.specs.declared.value.Value.{Value}
use Rattle.awk_text.specs.declared.value.Value.TheVariants as v
use Rattle.awk_program.specs.Program as p
use Rattle.awk_program.specs.Program.{Expression, Reference}
use Rattle.awk_program.specs.declared.operators.Extent.{Extent}
use Rattle.awk_program.specs.Slots.{Text}
use Rattle.awk_machine.specs.Advances.{held}
use Rattle.awk_machine.specs.Builtins.{split_by, is_all}
use Rattle.awk_machine.specs.Forms.{checked}
use Rattle.awk_machine.specs.Pieces.{Piece, Target, At, Do, Get, Check, Split, Set, Give, Goes, Substitute, Value_of}
use Rattle.awk_machine.specs.Pieces.{give, granted}
use Rattle.awk_machine.specs.State.{Given}
use Rattle.awk_machine.specs.Streams.{seen}
use Rattle.awk_machine.specs.Targets.{check_separator, target}
use Rattle.awk_streams.specs.Tasks.{goes_on}
use Rattle.awk_streams.specs.declared.halt.Halt.{Halt}
use Rattle.awk_store.specs.Kept.{by_convfmt}
use Rattle.awk_store.specs.Wholes.{Whole, base}
use Rattle.awk_streams.specs.Chains.{result_at}
use Rattle.awk_store.specs.Acts.{Acts, Passes}
use Rattle.awk_builtins.specs.Searching.{then_set}
use Rattle.awk_store.proofs.Acting.{at_rest, moves, reworded, doing, done, stop, faulted}
use Rattle.awk_store.proofs.Convfmt.{convfmt-so}
use Rattle.awk_builtins.proofs.Granted.{met_so}
use Rattle.awk_builtins.specs.Patterns.{source_value, IsSourceOf, reading}
use Rattle.awk_builtins.specs.declared.patterns.PatternValue.{PatternValue}
use Rattle.awk_builtins.specs.declared.patterns.PatternValue.TheVariants as s

-- ---- a task of the same piece is done, or halted

module _ {A : Type 0} {g : Given} {from : Piece} {on : A → List Piece → List Piece} {old new : Whole}
    {r : Result A Halt} where
  pub then_so : (x : A) → Acts g from on old r new → r ≡ Ok x → Passes g from old (on x) new
  then_so x m e = doing x (at_rest from old) m e

  pub else_so : {B : Type 0} {last : B → List Piece → List Piece} (h : Halt) → Acts g from on old r new → r ≡ Err h
      → Acts g from last old (Err h) new
  else_so h m e = stop h (at_rest from old) m e

-- ---- the pattern of a form

abbrev pub IsConstant : PatternValue → Type 0
IsConstant (s.Constant d) = Unit {0}
IsConstant (s.Computed x) = ⊥

module _ {A : Type 0} (g : Given) (w : Whole) (place : Place) (from : Piece) where
  -- a constant is not checked again
  pub passed_constant : (y : p.Ere) (source : PatternValue) (to : List Piece → List Piece) (x : A) → IsConstant source
      → IsSourceOf y source →
      Passes g from w (λ k. checked y place (text_of (source_value source)) (to k)) w
      → Acts g from (λ (e : A). to) w (Ok x) w
  passed_constant (p.constant q x) source to e so is h = done h
  passed_constant (p.computed x) (s.Constant d) to e so is h = absurd is
  passed_constant (p.computed x) (s.Computed val) to e so is h = absurd so

  -- what was computed is checked
  pub passed_computed : (y : p.Ere) (val : Value) (to : List Piece → List Piece) (r : Result A Halt)
      → IsSourceOf y (s.Computed val) → Passes g from w (λ k. checked y place (text_of val) (to k)) w →
      Acts g (Do (Check place (text_of val))) goes_on w r w → Acts g from (λ (e : A). to) w r w
  passed_computed (p.constant q x) val to r is h m = absurd is
  passed_computed (p.computed x) val to (Ok e) is h m = done (doing e h m refl)
  passed_computed (p.computed x) val to (Err e) is h m = stop e h m refl

-- ---- what separates

module _ (g : Given) (w : Whole) (place : Place) (from : Piece) (at : Place) (a : p.Variable) (text : Text) where
  abbrev pub Splits : Result Separator Halt → Type 0
  Splits r = Acts g from (λ s k. Do (Split at a s text) ∷ k) w r w

  -- a constant is an ERE
  pub split_constant : (y : p.Ere) (source : PatternValue) → IsConstant source → IsSourceOf y source
      → Passes g from w (split_by y place at a text (text_of (source_value source))) w →
      Splits (Ok (ere (text_of (source_value source)) false))
  split_constant (p.constant q x) source so is h = done h
  split_constant (p.computed x) (s.Constant d) so is h = absurd is
  split_constant (p.computed x) (s.Computed val) so is h = absurd so

  -- what was computed may be one
  pub split_computed : (y : p.Ere) (val : Value) → IsSourceOf y (s.Computed val)
      → Passes g from w (split_by y place at a text (text_of val)) w →
      Passes g from w (λ k. check_separator place (text_of val) (Do (Split at a (separator (text_of val) false) text) ∷
      k)) w
  split_computed (p.constant q x) val is h = absurd is
  split_computed (p.computed x) val is h = h

  -- it is one where it has two bytes or more
  long_by : (b : Bool) (by : Text) → nat_lt 1 (length by) ≡ b → 1 < length by
      → Passes g from w (λ k. check_separator place by (Do (Split at a (separator by false) text) ∷ k)) w →
      Passes g from w (λ k. Do (Check place by) ∷ Do (Split at a (ere by false) text) ∷ k) w
  long_by true [] e long h = absurd (omega (arith, long))
  long_by true (c ∷ []) e long h = absurd (omega (arith, long))
  long_by true (c ∷ d ∷ by) e long h = reworded h (λ k. rw e refl)
  long_by false by e long h = absurd (grind (arith, nat_tests))

  pub long_first : (by : Text) → 1 < length by
      → Passes g from w (λ k. check_separator place by (Do (Split at a (separator by false) text) ∷ k)) w →
      Passes g from w (λ k. Do (Check place by) ∷ Do (Split at a (ere by false) text) ∷ k) w
  long_first by long h = long_by (nat_lt 1 (length by)) by refl long h

  -- and else it is not checked
  short_by : (b : Bool) (by : Text) → nat_lt 1 (length by) ≡ b → length by ≤ 1 → nat_lt 1 (length by) ≡ false
  short_by true by e short = absurd (grind (arith, nat_tests))
  short_by false by e short = e

  pub short_so : (by : Text) (r : Result Separator Fault) → IfOk r (λ x. x ≡ separator by false)
      → IfErr r (λ f. (f ≡ fault.Memory) ⊎ ((f ≡ fault.Pattern) × (1 < length by) × IsNoEre by)) → length by ≤ 1 →
      Passes g from w (λ k. check_separator place by (Do (Split at a (separator by false) text) ∷ k)) w
      → Splits (result_at place r)
  short_so by (Ok x) ok err short h =
      rw ok (done (reworded h (λ k. rw (short_by (nat_lt 1 (length by)) by refl short) refl)))
  short_so by (Err f) ok (inl m) short h = faulted refl (inl m)
  short_so by (Err f) ok (inr (m, long, is)) short h = absurd (omega (arith, long, short))

-- ---- sub and gsub

module _ (place : Place) (how : Extent) (x : p.Ere) (y : Expression) (r : Reference) (pattern new at : Value) where
  -- the form, with these values beside those of its parts
  abbrev pub waiting : List Value → List Piece → List Piece
  waiting vs k = At (Value_of (p.substitute place how x y r)) (vs ++ at ∷ new ∷ pattern ∷ []) ∷ k

  abbrev substituting : Text → Piece
  substituting text = Do (Substitute place (target r at) (text_of pattern) (text_of new) text (is_all how))

  -- the old value has no text by CONVFMT
  pub no_text : {A X : Type 0} {on : A → List Piece → List Piece} {g : Given} {mid : Whole} (val : Value)
      (made : Result X Fault) (h : Halt) → IfErr made (λ m. (m ≡ fault.Memory) ⊎ (by_convfmt mid.0 val ≡ Err m))
      → result_at place made ≡ Err h
      → Acts g (At (Value_of (p.substitute place how x y r)) (val ∷ at ∷ new ∷ pattern ∷ [])) on mid (Err h) mid
  no_text {g = g} {mid = mid} val made h why was =
      met_so g mid (At (Value_of (p.substitute place how x y r)) (val ∷ at ∷ new ∷ pattern ∷ [])) place
      (by_convfmt mid.0 val) made h why was
      (λ f is k hid d a. ap (λ m. held g (seen (base g mid hid) d)
      (granted place m (λ z k s. Goes (substituting (text_of z) ∷ k) s) k (seen (base g mid hid) d)))
      (convfmt-so g mid hid d a val ∙ is))

  module _ {g : Given} {from : Piece} {old : Whole} (to : Target) (e : target r at ≡ to) where
    -- the old text is read of what is meant
    pub reads_old : Passes g from old (reading place how x y r at new pattern) old
        → Passes g from old (λ k. Do (Get to) ∷ waiting [] k) old
    reads_old h = reworded h (λ k. ap (λ t. Do (Get t) ∷ waiting [] k) e)

    -- and then the matches in it are replaced
    pub replaces_in : {mid : Whole} (val shown : Value) (source text : Text) → by_convfmt mid.0 val ≡ Ok shown
        → text_of pattern ≡ source → text_of shown ≡ text → Passes g from old (waiting (val ∷ [])) mid →
        Passes g from old (λ k. Do (Substitute place to source (text_of new) text (is_all how)) ∷ k) mid
    replaces_in {mid} val shown source text made f is h =
        reworded {to = λ k. substituting (text_of shown) ∷ k} (moves h
        (λ k hid d a. ap (λ m. held g (seen (base g mid hid) d)
        (granted place m (λ z k s. Goes (substituting (text_of z) ∷ k) s) k (seen (base g mid hid) d)))
        (convfmt-so g mid hid d a val ∙ made))) (λ k. rw (e, f, is) refl)

    -- a text that is lent
    pub replaces_lent : (source text : Text) → text_of pattern ≡ source → (val : Value)
        × (by_convfmt old.0 val ≡ Ok val) × (text_of val ≡ text) × Passes g (Do (Get to)) old (give val) old
        → Passes g from old (reading place how x y r at new pattern) old →
        Passes g from old (λ k. Do (Substitute place to source (text_of new) text (is_all how)) ∷ k) old
    replaces_lent source text f (val, stays, is, lends) h = replaces_in {mid = old} val val source text stays f is
        (doing (tt {0}) (reads_old h) (done {on = λ (u : Unit {0}). give val} lends) refl)

module _ {g : Given} {from : Piece} {old mid : Whole} (place : Place) (to : Target) (made : Option (Text × ℤ))
    (h : Passes g from old (then_set place to made) mid) where
  pub made_none : made ≡ None → Passes g from old (give (v.Num (pos 0))) mid
  made_none e = reworded h (λ k. ap (λ m. then_set place to m k) e)

  pub made_some : (text : Text) (count : ℤ) → made ≡ Some (text, count)
      → Passes g from old (λ k. Do (Set to place (v.Text text)) ∷ Do (Give (v.Num count)) ∷ k) mid
  made_some text count e = reworded h (λ k. ap (λ m. then_set place to m k) e)
