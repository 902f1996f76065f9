-- Rules: which of them are done, and what the machine goes on with behind them.
use Rattle.std.proofs.Common.{◌≡◌, refl, sym, ap, ◌∙◌, ℕ, Bool, true, false, List, [], ◌∷◌, map}
use Rattle.std.specs.Prelude.{if◌then◌else◌, get_or, Result, Ok, Err, MatchResult}
use Rattle.awk_text.specs.Values.{truth}
use Rattle.awk_text.specs.declared.value.Value.{Value}
use Rattle.box_world.specs.declared.world.World.{Ghosts}
use Rattle.awk_program.specs.Program as p
use Rattle.awk_program.specs.Program.{Expression, Rule, Statement}
use Rattle.awk_program.specs.View.{Names, view, view_rule}
use Rattle.awk_program.specs.declared.expressions.Expr.{Expr}
use Rattle.awk_machine.specs.Advances.{advance, held}
use Rattle.awk_machine.specs.Forms.{unary, value}
use Rattle.awk_machine.specs.Pieces as machine
use Rattle.awk_machine.specs.Pieces.{Piece, At, Do, Choosing, Goes}
use Rattle.awk_machine.specs.Rules.{action, with_on}
use Rattle.awk_machine.specs.State.{State, Course, Given}
use Rattle.awk_machine.specs.Streams.{seen}
use Rattle.awk_forms.specs.Runs.{Does, IsGiven}
use Rattle.awk_forms.specs.declared.context.Context.{Context}
use Rattle.awk_streams.specs.declared.halt.Halt.{Halt}
use Rattle.awk_streams.specs.declared.halt.Halt.TheVariants as halt
use Rattle.awk_streams.specs.Chains.{Comes, Halted}
use Rattle.awk_streams.specs.Flows.{flows}
use Rattle.awk_streams.specs.declared.flow.Flow.{Flow}
use Rattle.awk_streams.specs.declared.flow.Flow.TheVariants as flow
use Rattle.awk_store.specs.States.{Hidden}
use Rattle.awk_store.specs.Wholes.{Whole, Agreeing, base, names_in, used}
use Rattle.awk_input.specs.Inputs.{at_records, more}
use Rattle.awk_input.specs.Performs.{LeadsWhole, MeetsWhole, MeetsIn}
use Rattle.awk_machine.specs.Statements.{to_records}
use Rattle.awk_streams.proofs.Chain.{halted-after}
use Rattle.awk_run.specs.Rules.{come_back, rule_of}
use Rattle.awk_run.specs.Runs.{DoesIn}

-- ---- the rule of an expression

pub holds_on : (g : Given) (n : ℕ) (y : Expression) (xs : List Statement) (v : Value) (k : List Piece) (s : State)
    → truth s.numbers v ≡ true →
    advance g (At (Choosing n (rule_of (p.holds y) xs)) (v ∷ []) ∷ k) s ≡ Goes (action (rule_of (p.holds y) xs) k) s
holds_on g n y xs v k s e = ap (λ b. held g s (if b then Goes (action (rule_of (p.holds y) xs) k) s else Goes k s)) e

pub holds_off : (g : Given) (n : ℕ) (y : Expression) (xs : List Statement) (v : Value) (k : List Piece) (s : State)
    → truth s.numbers v ≡ false →
    advance g (At (Choosing n (rule_of (p.holds y) xs)) (v ∷ []) ∷ k) s ≡ Goes k s
holds_off g n y xs v k s e = ap (λ b. held g s (if b then Goes (action (rule_of (p.holds y) xs) k) s else Goes k s)) e

-- ---- the rule of a range: which pattern is met next

pattern_by : (g : Given) (n : ℕ) (y z : Expression) (xs : List Statement) (b : Bool) (k : List Piece) (s : State)
    → s.on n ≡ b →
    advance g (At (Choosing n (rule_of (p.range y z) xs)) [] ∷ k) s
    ≡ Goes (value (if b then z else y) ∷ At (Choosing n (rule_of (p.range y z) xs)) [] ∷ k) s
pattern_by g n y z xs true k s e =
    ap (λ b. held g s (if b then unary (value z) (Choosing n (rule_of (p.range y z) xs))
    (λ v k s. Goes (action (rule_of (p.range y z) xs) k) (if truth s.numbers v then with_on n false s else s)) [] k s
    else unary (value y) (Choosing n (rule_of (p.range y z) xs))
    (λ v k s. if truth s.numbers v then Goes (At (Choosing n (rule_of (p.range y z) xs)) [] ∷ k) (with_on n true s)
    else Goes k s) [] k s)) e
pattern_by g n y z xs false k s e =
    ap (λ b. held g s (if b then unary (value z) (Choosing n (rule_of (p.range y z) xs))
    (λ v k s. Goes (action (rule_of (p.range y z) xs) k) (if truth s.numbers v then with_on n false s else s)) [] k s
    else unary (value y) (Choosing n (rule_of (p.range y z) xs))
    (λ v k s. if truth s.numbers v then Goes (At (Choosing n (rule_of (p.range y z) xs)) [] ∷ k) (with_on n true s)
    else Goes k s) [] k s)) e

view_by : (names : Names) (b : Bool) (first last : Expr) → view names (if b then last else first)
    ≡ (if b then view names last else view names first)
view_by names true first last = refl
view_by names false first last = refl

pub pattern_first : (g : Given) (old : Whole) (hid : Hidden) (c : Course) (n : ℕ) (first last pattern : Expr)
    (xs : List Statement) (b : Bool) → b ≡ get_or old.0.on n false → pattern ≡ (if b then last else first)
    → (k : List Piece) →
    advance g (At (Choosing n (rule_of (p.range (view (names_in g) first) (view (names_in g) last)) xs)) [] ∷ k)
    (seen (base g old hid) c)
    ≡ Goes (value (view (names_in g) pattern) ∷ At
    (Choosing n (rule_of (p.range (view (names_in g) first) (view (names_in g) last)) xs)) [] ∷ k)
    (seen (base g old hid) c)
pattern_first g old hid c n first last pattern xs b on is k =
    let y = view (names_in g) first in
    let z = view (names_in g) last in
    pattern_by g n y z xs b k (seen (base g old hid) c) (sym on)
    ∙ ap (λ x. Goes (value x ∷ At (Choosing n (rule_of (p.range y z) xs)) [] ∷ k) (seen (base g old hid) c))
    (sym (view_by (names_in g) b first last) ∙ ap (view (names_in g)) (sym is))

-- ---- one rule after the other

pub rules_so : (g : Given) (cx : Context) → IsGiven cx g
    → g.program.rules ≡ map (view_rule (names_in g)) cx.program.now.rules
rules_so g cx is = ap (λ q. q.rules) is.program ∙ ap (λ names. map (view_rule names) cx.program.now.rules)
    (sym (ap (λ q. map (λ n. n.text) q.variables) is.program))

-- what stands behind the action of a rule is done whatever ended it
pub flows_on : (f : Flow) (n : ℕ) (xs : List Rule) (k : List Piece) → flows f (Do (machine.Rules n xs) ∷ k)
    ≡ Do (machine.Rules n xs) ∷ k
flows_on flow.On n xs k = refl
flows_on flow.Break n xs k = refl
flows_on flow.Continue n xs k = refl
flows_on flow.Return n xs k = refl
flows_on (flow.ReturnNumber m) n xs k = refl
flows_on (flow.ReturnValue v) n xs k = refl

-- ---- `next`

module _ {W : Type 0} (ghosts : Ghosts W) (cx : Context) (old new : Whole) (w w' : W) where
  back_by : (r : Result Bool Halt) (g : Given) (first : W) (from : List Piece) (s : State) (c : Course) (k : List Piece)
      →
      MatchResult r (λ x. Comes ghosts (base g) (Agreeing g) used g first from s c (more x k) new w')
      (λ h. Halted ghosts (base g) (Agreeing g) used g first from s c (at_records k) new w' h) →
      MatchResult (come_back r) (λ x. Comes ghosts (base g) (Agreeing g) used g first from s c (more x k) new w')
      (λ h. Halted ghosts (base g) (Agreeing g) used g first from s c k new w' h)
  back_by (Ok b) g first from s c k x = x
  back_by (Err (halt.Fault fault place)) g first from s c k x = x
  back_by (Err halt.Cut) g first from s c k x = x
  back_by (Err halt.Next) g first from s c k x = x
  back_by (Err halt.Exit) g first from s c k x = x
  back_by (Err halt.Memory) g first from s c k x = x
  back_by (Err (halt.Log place)) g first from s c k x = x

  pub comes_back : (r : Result Bool Halt) → DoesIn ghosts cx (λ g. At machine.Records []) (λ g. more) at_records old w r
      new w' →
      Does ghosts cx (λ g. At machine.Records []) (λ g. more) old w (come_back r) new w'
  comes_back r x = record {
    plays = λ g is. record {
      plays = λ first k hid c a. back_by r g first (At machine.Records [] ∷ k)
          (seen (base g old hid) c) c k ((x.plays g is).plays first k hid c a);
    };
    owns = x.owns;
  }

-- ---- in the midst of records

module _ {W : Type 0} {ghosts : Ghosts W} {g : Given} {p : Piece} {rest : List Piece → List Piece} {old new : Whole}
    {w w' : W} where
  -- a part that begins in the midst of records
  pub begun : {A : Type 0} {to : A → List Piece → List Piece} {r : Result A Halt} (x : A)
      → MeetsIn ghosts g p to rest old w r new w' → r ≡ Ok x → LeadsWhole ghosts g p old w (to x) new w'
  begun {to = to} x m e = record {
    plays = λ first k hid c a.
        let z : Comes ghosts (base g) (Agreeing g) used g first (p ∷ k) (seen (base g old hid) c) c (to x k) new w' =
        rw e at (m.plays first k hid c a) in
        z;
  }

  -- and is halted
  pub in_midst : {A B : Type 0} {to : A → List Piece → List Piece} {on : B → List Piece
      → List Piece} {r : Result A Halt} (h : Halt) → MeetsIn ghosts g p to rest old w r new w' → r ≡ Err h
      → MeetsIn ghosts g p on rest old w (Err h) new w'
  in_midst h m e = record {
    plays = λ first k hid c a.
        let z : Halted ghosts (base g) (Agreeing g) used g first (p ∷ k) (seen (base g old hid) c) c (rest k) new w' h =
        rw e at (m.plays first k hid c a) in
        z;
  }

  -- a part of what is left to be done before the records is halted
  pub stop_before : {A B : Type 0} {to : A → List Piece → List Piece} {on : B → List Piece → List Piece} {q : Piece}
      {behind : List Piece → List Piece} {mid : Whole} {u : W} {r : Result B Halt} (h : Halt)
      → ((k : List Piece) → to_records (behind k) ≡ to_records (rest k)) →
      LeadsWhole ghosts g p old w (λ k. q ∷ behind k) mid u → MeetsWhole ghosts g q on mid u r new w' → r ≡ Err h
      → MeetsIn ghosts g p to rest old w (Err h) new w'
  stop_before {q = q} {behind = behind} {mid = mid} h passed x m e = record {
    plays = λ first k hid c a. let y = x.plays first k hid c a in
        let z : Halted ghosts (base g) (Agreeing g) used g first (q ∷ behind k) (seen (base g mid y.hidden) y.course)
        y.course (behind k) new w' h = rw e at (m.plays first (behind k) y.hidden y.course y.knows) in
        halted-after ghosts (base g) (Agreeing g) used g h first (p ∷ k) (q ∷ behind k) (rest k) (behind k)
        (seen (base g old hid) c) (seen (base g mid y.hidden) y.course) c y.course new w' y.chain (passed k) z;
  }
