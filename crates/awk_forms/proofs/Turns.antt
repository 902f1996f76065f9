-- The turns of the loops that evaluate lists.
use Rattle.std.proofs.Common.{◌≡◌, refl, sym, ap, subst, ◌∙◌, ℕ, ◌+◌, ◌<◌, Bool, List, [], ◌∷◌, ◌++◌, length, reverse}
use Rattle.std.proofs.Common.{drop, map, arith}
use Rattle.std.specs.Prelude.{true, false, if◌then◌else◌, IfOk, IfErr, Result, Ok, Err, Option, Some, slice_get}
use Rattle.std.specs.Prelude.{option_map, get_or}
use Rattle.std.proofs.lemmas.List.{length-reverse, length-append, length-map, drop_more}
use Rattle.std.proofs.lemmas.Option.{slice_get-map, slice_get-get_or}
use Rattle.awk_text.specs.declared.value.Value.{Value}
use Rattle.awk_text.specs.declared.value.Value.TheVariants as v
use Rattle.awk_program.specs.Program as p
use Rattle.awk_program.specs.Program.{Expression, Expressions, expressions_of}
use Rattle.awk_machine.specs.Advances.{advance, held}
use Rattle.awk_machine.specs.Forms.{value, each_of, each_by, listed}
use Rattle.awk_machine.specs.Moves.{move}
use Rattle.awk_machine.specs.Pieces.{Part, Piece, At, Value_of, Ands_of, Ors_of, Goes, Then, give}
use Rattle.awk_machine.specs.State.{State, Given}
use Rattle.awk_machine.specs.Statements.{to_records}
use Rattle.awk_streams.specs.declared.halt.Halt.{Halt}
use Rattle.awk_streams.specs.Chains.{Leads, Meets}
use Rattle.awk_streams.proofs.Chain as chain
use Rattle.awk_streams.specs.declared.halt.Halt.TheVariants as halt
use Rattle.awk_text.specs.Values.{truth}
use Rattle.box_world.specs.declared.world.World.{Ghosts}
use Rattle.awk_machine.specs.Operators.{of_truth}
use Rattle.awk_store.specs.Acts.{Acts}
use Rattle.awk_store.proofs.Acting as acting
use Rattle.awk_builtins.proofs.Rests.{listed-of}
use Rattle.awk_store.specs.Wholes.{Whole, Agreeing, base, used}
use Rattle.awk_store.proofs.Framing.{reverse_last}
use Rattle.awk_forms.specs.Along.{Filling}
use Rattle.awk_forms.specs.Runs.{IsGiven, Does, Fills, Waits}
use Rattle.awk_forms.specs.declared.context.Context.{Context}
use Rattle.awk_forms.proofs.Leading.{quietly}

abbrev some_of : {X : Type 0} → X → Option X
some_of x = Some x

one_more : {X : Type 0} (xs ys : List X) (x : X) (n m : ℕ) → length xs ≡ n + m → length (xs ++ x ∷ []) ≡ n + (m + 1)
one_more xs ys x n m e = let a = length-append xs (x ∷ []) in omega (arith, a, e)

-- ---- a part that goes by a list

-- it waits for the parts of the list from the n-th one on
pub waits_each : (g : Given) (part : Part) (all xs : List Expression) (n : ℕ) (f : List Value → Then) →
    ((vs : List Value) (k : List Piece) (s : State) → move g (At part vs ∷ k) s ≡ each_of all part f vs k s) →
    ((m : ℕ) (x : Expression) → slice_get xs m ≡ Some x → slice_get all (n + m) ≡ Some x)
    → ((vs : List Value) (k : List Piece) → to_records (At part vs ∷ k) ≡ to_records k) → Waits g part n xs
waits_each g part all xs n f is within passed = record {
  next = λ m x got vs count k s. ap (held g s) (is vs k s ∙ ap (λ o. each_by o part f vs k s) (ap (slice_get all) count
      ∙ within m x got));
  passed = passed;
}

module _ {W : Type 0} {ghosts : Ghosts W} {cx : Context} {old : Whole} {w : W} {mid : Whole} {w' : W} {new : Whole}
    {w'' : W} {r : Result Value Halt} where
  -- one part more is evaluated
  pub fill_turn : {xs : Given → List Expression} {had has : List Value} {n : ℕ} (x : Given → Expression) (val : Value)
      → Filling ghosts cx xs had has n old w mid w' →
      ((g : Given) → slice_get (xs g) n ≡ Some (x g)) → Does ghosts cx (λ g. value (x g)) (λ g. give) mid w' r new w''
      → r ≡ Ok val →
      Filling ghosts cx xs had (has ++ val ∷ []) (n + 1) old w new w''
  fill_turn {had = had} {has = has} {n = n} x val h got does is = record {
    leads = λ g given part waits.
        subst (λ vs. Leads ghosts (base g) (Agreeing g) used g (At part (reverse had)) old w (λ k. At part vs ∷ k) new
        w'') (reverse_last has val)
        (chain.part val (quietly (h.leads g given part waits) (λ k hid d a. waits.next n (x g) (got g) (reverse has)
        (length-reverse has ∙ h.count) k _)) (does.plays g given) is);
    owns = does.owns;
    count = one_more has has val (length had) n h.count;
  }

  pub fill_stop : {xs : Given → List Expression} {had has : List Value} {n : ℕ} (x : Given → Expression) (e : Halt)
      (now : List Value) → Filling ghosts cx xs had has n old w mid w' →
      ((g : Given) → slice_get (xs g) n ≡ Some (x g)) → Does ghosts cx (λ g. value (x g)) (λ g. give) mid w' r new w''
      → r ≡ Err e →
      (g : Given) → IsGiven cx g → (part : Part) → Waits g part (length had) (xs g) →
      Meets ghosts (base g) (Agreeing g) used g (At part (reverse had)) (λ (u : Unit {0}) k. At part (reverse now) ∷ k)
      old w (Err e) new w''
  fill_stop {has = has} {n = n} x e now h got does is g given part waits =
      chain.stop e (λ k. waits.passed (reverse has) k) (quietly (h.leads g given part waits)
      (λ k hid d a. waits.next n (x g) (got g) (reverse has) (length-reverse has ∙ h.count) k _))
      (does.plays g given) is

-- the next of what is left, and the end of it
pub next_of : {X : Type 0} (xs : List X) (i : ℕ) (x : X) → x ≡ get_or xs i x → i < length xs
    → drop i xs ≡ x ∷ drop (i + 1) xs
next_of xs i x is below = drop_more xs i x below ∙ ap (λ y. y ∷ drop (i + 1) xs) (sym is)

pub got_of : {X Y : Type 0} (f : X → Y) (xs : List X) (i : ℕ) (x : X) → x ≡ get_or xs i x → i < length xs
    → slice_get (map f xs) i ≡ Some (f x)
got_of f xs i x is below = slice_get-map f xs i ∙ ap (option_map f) (slice_get-get_or xs i x below ∙ ap (λ y. some_of y)
    (sym is))

-- ---- lists that stand in forms

pub waits_listed : (g : Given) (part : Part) (ks : List Expression) (f : List Value → Then)
    → ((vs : List Value) (k : List Piece) (s : State) → move g (At part vs ∷ k) s ≡ each_of (listed (expressions_of ks))
    part f vs k s) →
    ((vs : List Value) (k : List Piece) → to_records (At part vs ∷ k) ≡ to_records k) → Waits g part 0 ks
waits_listed g part ks f is passed = waits_each g part (listed (expressions_of ks)) ks 0 f is
    (λ m x got. ap (λ n. slice_get (listed (expressions_of ks)) n) (none_plus m) ∙ ap (λ xs. slice_get xs m)
    (listed-of ks) ∙ got) passed
  where
    none_plus : (m : ℕ) → 0 + m ≡ m
    none_plus m = omega (arith)

pub count_listed : {X : Type 0} (f : X → Expression) (xs : List X) (had has : List Value) → had ≡ []
    → length has ≡ length had + length xs → length (listed (expressions_of (map f xs))) ≡ length has
count_listed f xs had has none e =
    let a = ap length (listed-of (map f xs)) ∙ length-map xs f in let b = rw none at e in omega (arith, a, b)

module _ {W A : Type 0} {ghosts : Ghosts W} {cx : Context} {xs : Given → List Expression} {has : List Value}
    {old : Whole} {w : W} {r : Result A Halt} {new : Whole} {w' : W} where
  pub filled_from : (had hs : List Value) → had ≡ hs → Fills ghosts cx xs had has old w r new w' → (g : Given)
      → IsGiven cx g → (part : Part) → Waits g part (length hs) (xs g) →
      Meets ghosts (base g) (Agreeing g) used g (At part (reverse hs)) (λ (x : A) k. At part (reverse has) ∷ k) old w r
      new w'
  filled_from had hs e f g is part waits = subst (λ zs. Waits g part (length zs) (xs g)
      → Meets ghosts (base g) (Agreeing g) used g (At part (reverse zs)) (λ (x : A) k. At part (reverse has) ∷ k) old w
      r new w') e (f.plays g is part) waits

-- ---- what depends on a truth

pub and_on : (g : Given) (y : Expression) (ys : Expressions) (x : Value) (k : List Piece) (s : State)
    → truth s.numbers x ≡ true
    → advance g (At (Ands_of (p.more y ys)) (x ∷ []) ∷ k) s ≡ Goes (value y ∷ At (Ands_of ys) [] ∷ k) s
and_on g y ys x k s e =
    ap (λ b. held g s (if b then Goes (value y ∷ At (Ands_of ys) [] ∷ k) s else Goes (give (of_truth false) k) s)) e

pub and_off : (g : Given) (y : Expression) (ys : Expressions) (x : Value) (k : List Piece) (s : State)
    → truth s.numbers x ≡ false
    → advance g (At (Ands_of (p.more y ys)) (x ∷ []) ∷ k) s ≡ Goes (give (of_truth false) k) s
and_off g y ys x k s e =
    ap (λ b. held g s (if b then Goes (value y ∷ At (Ands_of ys) [] ∷ k) s else Goes (give (of_truth false) k) s)) e

pub or_on : (g : Given) (y : Expression) (ys : Expressions) (x : Value) (k : List Piece) (s : State)
    → truth s.numbers x ≡ false
    → advance g (At (Ors_of (p.more y ys)) (x ∷ []) ∷ k) s ≡ Goes (value y ∷ At (Ors_of ys) [] ∷ k) s
or_on g y ys x k s e =
    ap (λ b. held g s (if b then Goes (give (of_truth true) k) s else Goes (value y ∷ At (Ors_of ys) [] ∷ k) s)) e

pub or_off : (g : Given) (y : Expression) (ys : Expressions) (x : Value) (k : List Piece) (s : State)
    → truth s.numbers x ≡ true
    → advance g (At (Ors_of (p.more y ys)) (x ∷ []) ∷ k) s ≡ Goes (give (of_truth true) k) s
or_off g y ys x k s e =
    ap (λ b. held g s (if b then Goes (give (of_truth true) k) s else Goes (value y ∷ At (Ors_of ys) [] ∷ k) s)) e

pub choose_so : (g : Given) (x y z : Expression) (u : Value) (b : Bool) (k : List Piece) (s : State)
    → truth s.numbers u ≡ b
    → advance g (At (Value_of (p.choose x y z)) (u ∷ []) ∷ k) s ≡ held g s (if b then Goes (value y ∷ k) s else Goes
    (value z ∷ k) s)
choose_so g x y z u b k s e = ap (λ c. held g s (if c then Goes (value y ∷ k) s else Goes (value z ∷ k) s)) e

-- ---- constants

pub text_given : (g : Given) (w : Whole) (text : List ℕ) (made : Result Value Halt) → IfOk made (λ x. x ≡ v.Text text)
    → IfErr made (λ h. h ≡ halt.Memory) → Acts g (value (p.text text)) give w made w
text_given g w text (Ok x) ok err = subst (λ y. Acts g (value (p.text text)) give w (Ok y) w) (sym ok)
    (acting.done (acting.moves (acting.at_rest _ w) (λ k hid c a. refl)))
text_given g w text (Err h) ok err = subst (λ y. Acts g (value (p.text text)) give w (Err y) w) (sym err)
    (acting.lacking refl)
