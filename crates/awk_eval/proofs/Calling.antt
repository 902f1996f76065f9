-- Calls: how their arguments are evaluated, and what they begin and end with.
use Rattle.std.proofs.Common.{◌≡◌, refl, sym, ap, subst, ◌∙◌, ℕ, ◌+◌, zero, suc, List, [], ◌∷◌, ◌++◌, length, reverse}
use Rattle.std.proofs.Common.{map, arith}
use Rattle.std.specs.Prelude.{Result, Ok, Err, Option, Some, None, slice_get}
use Rattle.std.proofs.lemmas.List.{reverse-reverse, length-reverse, length-map}
use Rattle.awk_text.specs.declared.place.Place.{Place}
use Rattle.awk_text.specs.declared.value.Value.{Value}
use Rattle.awk_text.specs.declared.value.Value.TheVariants as v
use Rattle.box_world.specs.declared.world.World.{Ghosts}
use Rattle.awk_program.specs.Program as p
use Rattle.awk_program.specs.Program.{Expression, Arguments}
use Rattle.awk_program.specs.View.{Names, names_of, view, view_arguments, view_program, view_statement}
use Rattle.awk_program.specs.declared.statements.Statement as code_statement
use Rattle.awk_program.specs.declared.expressions.Argument as code
use Rattle.awk_program.specs.declared.expressions.Argument.TheVariants as argument
use Rattle.awk_program.specs.declared.expressions.Expr.{Expr}
use Rattle.awk_machine.specs.Advances.{advance, held}
use Rattle.awk_machine.specs.Calls.{Argument, function, arguments, by_value, by_name, by_nothing, next_argument}
use Rattle.awk_machine.specs.Forms.{value}
use Rattle.awk_machine.specs.Pieces.{Piece, At, Do, Call, Step, Value_of, Goes, give}
use Rattle.awk_machine.specs.State.{State, Given}
use Rattle.awk_streams.specs.declared.halt.Halt.{Halt}
use Rattle.awk_streams.specs.Chains.{Leads, Meets}
use Rattle.awk_streams.proofs.Chain as chain
use Rattle.awk_streams.specs.Tables.{Table}
use Rattle.awk_streams.specs.Tasks.{Owns}
use Rattle.awk_store.specs.Kept.{Kept}
use Rattle.awk_store.proofs.Acting.{acted, done as there}
use Rattle.awk_forms.proofs.Leading.{hands_on, quietly}
use Rattle.awk_store.specs.Wholes.{Whole, Agreeing, base, names_in, used}
use Rattle.awk_store.specs.Calls.{argument_of}
use Rattle.awk_store.proofs.Framing.{one_longer, reverse_last}
use Rattle.awk_forms.specs.Along.{Arguing}
use Rattle.awk_eval.specs.Calls.{Argued, IsPassed}
use Rattle.awk_forms.specs.Runs.{IsGiven}
use Rattle.awk_forms.specs.declared.context.Context.{Context}

-- ---- the arguments of the code are those of the machine

pub arguments_so : (names : Names) (xs : List (code.Argument Expr)) → arguments (view_arguments names xs)
    ≡ map (argument_of names) xs
arguments_so names [] = refl
arguments_so names (argument.Value x ∷ xs) = ap (λ ys. by_value (view names x) ∷ ys) (arguments_so names xs)
arguments_so names (argument.Array a ∷ xs) = ap (λ ys. argument_of names (argument.Array a) ∷ ys)
    (arguments_so names xs)
arguments_so names (argument.Nothing ∷ xs) = ap (λ ys. by_nothing ∷ ys) (arguments_so names xs)

abbrev pub some_of : {X : Type 0} → X → Option X
some_of x = Some x

-- ---- one argument after the other

-- the n-th argument decides
argued : (g : Given) (place : Place) (f : ℕ) (xs : Arguments) (vs : List Value) (o : Option Argument)
    → slice_get (arguments xs) (length vs) ≡ o → (k : List Piece) (s : State) →
    advance g (At (Value_of (p.call place f xs)) vs ∷ k) s ≡ held g s (next_argument place f xs o vs k s)
argued g place f xs vs o is k s = ap (λ a. held g s (next_argument place f xs a vs k s)) is

pub argue_value : (g : Given) (place : Place) (f : ℕ) (xs : Arguments) (vs : List Value) (x : Expression)
    → slice_get (arguments xs) (length vs) ≡ Some (by_value x) → (k : List Piece) (s : State) →
    advance g (At (Value_of (p.call place f xs)) vs ∷ k) s ≡ Goes (value x ∷ At (Value_of (p.call place f xs)) vs ∷ k) s
argue_value g place f xs vs x is k s = argued g place f xs vs (Some (by_value x)) is k s

pub argue_name : (g : Given) (place : Place) (f : ℕ) (xs : Arguments) (vs : List Value) (a : p.Variable)
    → slice_get (arguments xs) (length vs) ≡ Some (by_name a) → (k : List Piece) (s : State) →
    advance g (At (Value_of (p.call place f xs)) vs ∷ k) s ≡ Goes (At (Value_of (p.call place f xs)) (v.Unset ∷ vs) ∷ k)
    s
argue_name g place f xs vs a is k s = argued g place f xs vs (Some (by_name a)) is k s

pub argue_nothing : (g : Given) (place : Place) (f : ℕ) (xs : Arguments) (vs : List Value)
    → slice_get (arguments xs) (length vs) ≡ Some by_nothing → (k : List Piece) (s : State) →
    advance g (At (Value_of (p.call place f xs)) vs ∷ k) s ≡ Goes (At (Value_of (p.call place f xs)) (v.Unset ∷ vs) ∷ k)
    s
argue_nothing g place f xs vs is k s = argued g place f xs vs (Some by_nothing) is k s

placed : (xs : Arguments) (has : List Value) (n : ℕ) (x : Argument) → length has ≡ n
    → slice_get (arguments xs) n ≡ Some x → slice_get (arguments xs) (length (reverse has)) ≡ Some x
placed xs has n x count got = ap (slice_get (arguments xs)) (length-reverse has ∙ count) ∙ got

module _ {W : Type 0} {ghosts : Ghosts W} {cx : Context} {xs : Given → Arguments} {has : List Value} {n : ℕ}
    {old : Whole} {w : W} {mid : Whole} {w' : W} {r : Result Value Halt} {new : Whole} {w'' : W} where
  pub argue_turn : (x : Given → Argument) (val : Value) → Arguing ghosts cx xs has n old w mid w'
      → ((g : Given) → slice_get (arguments (xs g)) n ≡ Some (x g)) →
      Argued ghosts cx x mid w' r new w'' → r ≡ Ok val → Arguing ghosts cx xs (has ++ val ∷ []) (n + 1) old w new w''
  argue_turn x val h got does is = record {
    leads = λ g given place f.
        subst (λ vs. Leads ghosts (base g) (Agreeing g) used g (value (p.call place f (xs g))) old w
        (λ k. At (Value_of (p.call place f (xs g))) vs ∷ k) new w'') (reverse_last has val)
        (chain.part val (h.leads g given place f) (does.plays g given place f (xs g) (reverse has)
        (placed (xs g) has n (x g) h.count (got g))) is);
    owns = does.owns;
    count = one_longer has (has ++ val ∷ []) val n refl h.count;
  }

  pub argue_stop : {A : Type 0} {to : A → List Piece → List Piece} (x : Given → Argument) (e : Halt)
      → Arguing ghosts cx xs has n old w mid w' → ((g : Given) → slice_get (arguments (xs g)) n ≡ Some (x g)) →
      Argued ghosts cx x mid w' r new w'' → r ≡ Err e →
      (g : Given) → IsGiven cx g → (place : Place) (f : ℕ)
      → Meets ghosts (base g) (Agreeing g) used g (value (p.call place f (xs g))) to old w (Err e) new w''
  argue_stop x e h got does is g given place f =
      chain.stop e (λ k. refl) (h.leads g given place f) (does.plays g given place f (xs g) (reverse has)
      (placed (xs g) has n (x g) h.count (got g))) is

-- once all are evaluated a step is taken, and the call begins
pub called : (g : Given) (place : Place) (f : ℕ) (xs : Arguments) (vs : List Value) → length vs ≡ length (arguments xs)
    → (k : List Piece) (s : State) →
    advance g (At (Value_of (p.call place f xs)) (reverse vs) ∷ k) s ≡ Goes (Do Step ∷ Do (Call place f xs vs) ∷ k) s
called g place f xs vs count k s =
    argued g place f xs (reverse vs) None (past (arguments xs) (length (reverse vs)) (length-reverse vs ∙ count)) k s
    ∙ ap (λ ws. held g s (Goes (Do Step ∷ Do (Call place f xs ws) ∷ k) s)) (reverse-reverse vs)
  where
    past : {X : Type 0} (ys : List X) (m : ℕ) → m ≡ length ys → slice_get ys m ≡ None
    past [] m e = refl
    past (y ∷ ys) zero e = absurd (cc)
    past (y ∷ ys) (suc m) e = past ys m (let h = e in omega (arith, h))

pub counted : (names : Names) (xs : List (code.Argument Expr)) (vs : List Value) → length vs ≡ length xs
    → length vs ≡ length (arguments (view_arguments names xs))
counted names xs vs e = e ∙ sym (ap length (arguments_so names xs) ∙ length-map xs (argument_of names))

-- the body of the function that is called, as the code has it
pub body_so : (g : Given) (cx : Context) → IsGiven cx g → (f : ℕ) (xs : List code_statement.Statement)
    → map (view_statement (names_of cx.program.now)) xs ≡ (function (view_program cx.program.now) f).body →
    (function g.program f).body ≡ map (view_statement (names_in g)) xs
body_so g cx is f xs e = ap (λ q. (function q f).body) is.program ∙ sym e ∙ ap (λ names. map (view_statement names) xs)
    (sym (ap (λ q. map (λ n. n.text) q.variables) is.program))

-- an argument whose value is there is evaluated at once
pub argued_there : {W : Type 0} {ghosts : Ghosts W} {cx : Context}
    (x : code.Argument Expr) (val : Value) (kept : Kept) (t : Table) (w : W) → Owns (ghosts.open_numbers w) t
    → IsPassed x kept val →
    Argued ghosts cx (λ m. argument_of (names_in m) x) (kept, t) w (Ok val) (kept, t) w
argued_there (argument.Value e) val kept t w owns h = record {
  plays = λ m is q n ys ws got. hands_on (λ k. refl)
      (quietly {then_ = λ k. value (view (names_in m) e) ∷ At (Value_of (p.call q n ys)) ws ∷ k} (chain.at_once _ _ _)
      (λ k hid d a. argue_value m q n ys ws _ got k _)) (acted (there {on = give} {x = val} (h m t)));
  owns = owns;
}
argued_there (argument.Array a) val kept t w owns h = absurd h
argued_there argument.Nothing val kept t w owns h = absurd h
