-- Statements and loops: what the machine does first, and what it goes on with behind them.
use Rattle.std.proofs.Common.{◌≡◌, refl, sym, ap, ◌∙◌, Bool, true, false, List, [], ◌∷◌}
use Rattle.std.specs.Prelude.{if◌then◌else◌, Option, Some, None}
use Rattle.awk_text.specs.declared.place.Place.{Place}
use Rattle.awk_text.specs.declared.value.Value.{Value}
use Rattle.awk_text.specs.Values.{truth}
use Rattle.awk_program.specs.Slots.{Text}
use Rattle.awk_program.specs.Program as p
use Rattle.awk_program.specs.Program.{Expression, Statement, Statements, statements_of}
use Rattle.awk_machine.specs.Advances.{advance, held}
use Rattle.awk_machine.specs.Forms.{value}
use Rattle.awk_machine.specs.Pieces.{Loop, Piece, At, Do, Doing, Each, Keys, Start, Step, Test, Turn, Goes}
use Rattle.awk_lib.specs.Arrays.{keys}
use Rattle.awk_machine.specs.State.{Array, State, Given}
use Rattle.awk_machine.specs.Statements.{body, in_order, stepping, test, then_test}
use Rattle.awk_machine.specs.Variables.{array}
use Rattle.awk_streams.specs.Flows.{flows}
use Rattle.awk_streams.specs.declared.flow.Flow.{Flow}
use Rattle.awk_streams.specs.declared.flow.Flow.TheVariants as flow
use Rattle.awk_streams.specs.Ends.{is_on, end_of}
use Rattle.awk_eval.specs.Loops.{tested}

-- ---- behind a statement

pub each_by : Bool → Flow → List Statement → List Piece → List Piece
each_by true f xs k = Do (Each xs) ∷ k
each_by false f xs k = flows f k

-- the statements that follow are done, or left
pub each_ends : (f : Flow) (xs : List Statement) (k : List Piece)
    → flows f (Do (Each xs) ∷ k) ≡ each_by (is_on f) f xs k
unfolding each_by
each_ends flow.On xs k = refl
each_ends flow.Break xs k = refl
each_ends flow.Continue xs k = refl
each_ends flow.Return xs k = refl
each_ends (flow.ReturnNumber n) xs k = refl
each_ends (flow.ReturnValue v) xs k = refl

pub each_on : (f : Flow) (xs : List Statement) (k : List Piece) → is_on f ≡ true
    → flows f (Do (Each xs) ∷ k) ≡ Do (Each xs) ∷ k
unfolding each_by
each_on f xs k e = each_ends f xs k ∙ ap (λ b. each_by b f xs k) e

pub each_off : (f : Flow) (xs : List Statement) (k : List Piece) → is_on f ≡ false
    → flows f (Do (Each xs) ∷ k) ≡ flows f k
unfolding each_by
each_off f xs k e = each_ends f xs k ∙ ap (λ b. each_by b f xs k) e

loop_by : Option Flow → Piece → List Piece → List Piece
loop_by None piece k = piece ∷ k
loop_by (Some e) piece k = flows e k

-- behind a turn the loop goes on, or ends
turn_ends : (f : Flow) (x : Loop) (k : List Piece) → flows f (At (Turn x) [] ∷ k) ≡ loop_by (end_of f) (At (Turn x) [])
    k
unfolding loop_by
turn_ends flow.On x k = refl
turn_ends flow.Break x k = refl
turn_ends flow.Continue x k = refl
turn_ends flow.Return x k = refl
turn_ends (flow.ReturnNumber n) x k = refl
turn_ends (flow.ReturnValue v) x k = refl

pub turn_on : (f : Flow) (x : Loop) (k : List Piece) → end_of f ≡ None → flows f (At (Turn x) [] ∷ k)
    ≡ At (Turn x) [] ∷ k
unfolding loop_by
turn_on f x k e = turn_ends f x k ∙ ap (λ o. loop_by o (At (Turn x) []) k) e

pub turn_off : (f e : Flow) (x : Loop) (k : List Piece) → end_of f ≡ Some e → flows f (At (Turn x) [] ∷ k) ≡ flows e k
unfolding loop_by
turn_off f e x k is = turn_ends f x k ∙ ap (λ o. loop_by o (At (Turn x) []) k) is

keys_end : (f : Flow) (place : Place) (a : p.Variable) (x : Statement) (rest : List Text) (k : List Piece)
    → flows f (Do (Keys place a x rest) ∷ k) ≡ loop_by (end_of f) (Do (Keys place a x rest)) k
unfolding loop_by
keys_end flow.On place a x rest k = refl
keys_end flow.Break place a x rest k = refl
keys_end flow.Continue place a x rest k = refl
keys_end flow.Return place a x rest k = refl
keys_end (flow.ReturnNumber n) place a x rest k = refl
keys_end (flow.ReturnValue v) place a x rest k = refl

pub keys_on : (f : Flow) (place : Place) (a : p.Variable) (x : Statement) (rest : List Text) (k : List Piece)
    → end_of f ≡ None → flows f (Do (Keys place a x rest) ∷ k) ≡ Do (Keys place a x rest) ∷ k
unfolding loop_by
keys_on f place a x rest k e = keys_end f place a x rest k ∙ ap (λ o. loop_by o (Do (Keys place a x rest)) k) e

pub keys_off : (f e : Flow) (place : Place) (a : p.Variable) (x : Statement) (rest : List Text) (k : List Piece)
    → end_of f ≡ Some e → flows f (Do (Keys place a x rest) ∷ k) ≡ flows e k
unfolding loop_by
keys_off f e place a x rest k is = keys_end f place a x rest k ∙ ap (λ o. loop_by o (Do (Keys place a x rest)) k) is

-- ---- before a statement

pub starts_stepped : (g : Given) (x : Statement) (b : Bool)
    → ((k : List Piece) → stepping x k ≡ (if b then Do Step ∷ k else k)) → b ≡ true → (k : List Piece) (s : State) →
    advance g (Do (Start x) ∷ k) s ≡ Goes (Do Step ∷ At (Doing x) [] ∷ k) s
starts_stepped g x b is e k s = ap (λ l. held g s (Goes l s)) (is (At (Doing x) [] ∷ k)
    ∙ ap (λ c. if c then Do Step ∷ At (Doing x) [] ∷ k else At (Doing x) [] ∷ k) e)

pub starts_at_once : (g : Given) (x : Statement) (b : Bool)
    → ((k : List Piece) → stepping x k ≡ (if b then Do Step ∷ k else k)) → b ≡ false → (k : List Piece) (s : State) →
    advance g (Do (Start x) ∷ k) s ≡ Goes (At (Doing x) [] ∷ k) s
starts_at_once g x b is e k s = ap (λ l. held g s (Goes l s)) (is (At (Doing x) [] ∷ k)
    ∙ ap (λ c. if c then Do Step ∷ At (Doing x) [] ∷ k else At (Doing x) [] ∷ k) e)

ordered : (xs : List Statement) → in_order (statements_of xs) ≡ xs
ordered [] = refl
ordered (x ∷ xs) = ap (λ ys. x ∷ ys) (ordered xs)

pub block_first : (g : Given) (xs : List Statement) (k : List Piece) (s : State)
    → advance g (At (Doing (p.block (statements_of xs))) [] ∷ k) s ≡ Goes (Do (Each xs) ∷ k) s
block_first g xs k s = ap (λ ys. held g s (Goes (Do (Each ys) ∷ k) s)) (ordered xs)

-- ---- what depends on a test

pub if_on : (g : Given) (x : Expression) (y : Statement) (v : Value) (k : List Piece) (s : State)
    → truth s.numbers v ≡ true → advance g (At (Doing (p.if_then x y)) (v ∷ []) ∷ k) s ≡ Goes (Do (Start y) ∷ k) s
if_on g x y v k s e = ap (λ b. held g s (if b then Goes (Do (Start y) ∷ k) s else Goes k s)) e

pub if_off : (g : Given) (x : Expression) (y : Statement) (v : Value) (k : List Piece) (s : State)
    → truth s.numbers v ≡ false → advance g (At (Doing (p.if_then x y)) (v ∷ []) ∷ k) s ≡ Goes k s
if_off g x y v k s e = ap (λ b. held g s (if b then Goes (Do (Start y) ∷ k) s else Goes k s)) e

pub either_on : (g : Given) (x : Expression) (y z : Statement) (v : Value) (k : List Piece) (s : State)
    → truth s.numbers v ≡ true →
    advance g (At (Doing (p.if_else x y z)) (v ∷ []) ∷ k) s ≡ Goes (Do (Start y) ∷ k) s
either_on g x y z v k s e = ap (λ b. held g s (if b then Goes (Do (Start y) ∷ k) s else Goes (Do (Start z) ∷ k) s)) e

pub either_off : (g : Given) (x : Expression) (y z : Statement) (v : Value) (k : List Piece) (s : State)
    → truth s.numbers v ≡ false →
    advance g (At (Doing (p.if_else x y z)) (v ∷ []) ∷ k) s ≡ Goes (Do (Start z) ∷ k) s
either_off g x y z v k s e = ap (λ b. held g s (if b then Goes (Do (Start y) ∷ k) s else Goes (Do (Start z) ∷ k) s)) e

-- ---- loops

by_truth : (g : Given) (x : Loop) (b : Bool) (k : List Piece) (s : State)
    → held g s (if b then Goes (body x k) s else Goes k s) ≡ Goes (tested x b k) s
by_truth g x true k s = refl
by_truth g x false k s = refl

pub test_none : (g : Given) (x : Loop) (k : List Piece) (s : State) → x.test ≡ None → advance g (At (Test x) [] ∷ k) s
    ≡ Goes (tested x true k) s
test_none g x k s e = ap (λ o. held g s (test o x [] k s)) e

pub test_first : (g : Given) (x : Loop) (y : Expression) (k : List Piece) (s : State) → x.test ≡ Some y
    → advance g (At (Test x) [] ∷ k) s ≡ Goes (value y ∷ At (Test x) [] ∷ k) s
test_first g x y k s e = ap (λ o. held g s (test o x [] k s)) e

pub test_then : (g : Given) (x : Loop) (y : Expression) (v : Value) (k : List Piece) (s : State) → x.test ≡ Some y
    → advance g (At (Test x) (v ∷ []) ∷ k) s ≡ Goes (tested x (truth s.numbers v) k) s
test_then g x y v k s e = ap (λ o. held g s (test o x (v ∷ []) k s)) e ∙ by_truth g x (truth s.numbers v) k s

pub turn_none : (g : Given) (x : Loop) (k : List Piece) (s : State) → x.step ≡ None → advance g (At (Turn x) [] ∷ k) s
    ≡ Goes (At (Test x) [] ∷ k) s
turn_none g x k s e = ap (λ o. held g s (then_test o x (Turn x) [] k s)) e

pub turn_first : (g : Given) (x : Loop) (y : Expression) (k : List Piece) (s : State) → x.step ≡ Some y
    → advance g (At (Turn x) [] ∷ k) s ≡ Goes (value y ∷ At (Turn x) [] ∷ k) s
turn_first g x y k s e = ap (λ o. held g s (then_test o x (Turn x) [] k s)) e

pub turn_then : (g : Given) (x : Loop) (y : Expression) (v : Value) (k : List Piece) (s : State) → x.step ≡ Some y
    → advance g (At (Turn x) (v ∷ []) ∷ k) s ≡ Goes (At (Test x) [] ∷ k) s
turn_then g x y v k s e = ap (λ o. held g s (then_test o x (Turn x) (v ∷ []) k s)) e

pub keys_first : (g : Given) (place : Place) (key a : p.Variable) (x : Statement) (xs : Array) (found : List Text)
    (k : List Piece) (s : State) → array s a ≡ xs → found ≡ keys xs →
    advance g (At (Doing (p.for_each place key a x)) [] ∷ k) s ≡ Goes (Do (Keys place key x found) ∷ k) s
keys_first g place key a x xs found k s is has = ap (λ ys. held g s (Goes (Do (Keys place key x (keys ys)) ∷ k) s)) is
    ∙ ap (λ ys. Goes (Do (Keys place key x ys) ∷ k) s) (sym has)
