-- How the views of a program meet each variant.
use Rattle.std.proofs.Common.{◌≡◌, ℕ, List, [], ◌∷◌, map, Option, option_map, ap, sym, ◌∙◌, refl}
use Rattle.awk_numbers.specs.declared.number.Number.{Number}
use Rattle.awk_text.specs.declared.place.Place.{Place}
use Rattle.awk_program.specs.declared.variables.Variable as code
use Rattle.awk_program.specs.declared.builtins.Builtin.{Builtin}
use Rattle.awk_program.specs.declared.jumps.Jump.{Jump}
use Rattle.awk_program.specs.declared.operators.Comparison.{Comparison}
use Rattle.awk_program.specs.declared.operators.Extent.{Extent}
use Rattle.awk_program.specs.declared.operators.Operator.{Operator}
use Rattle.awk_program.specs.declared.operators.Sign.{Sign}
use Rattle.awk_program.specs.declared.operators.Step.{Step}
use Rattle.awk_program.specs.declared.operators.StepValue.{StepValue}
use Rattle.awk_program.specs.declared.expressions.Term.{Term}
use Rattle.awk_program.specs.declared.expressions.Joined.{Joined}
use Rattle.awk_program.specs.declared.expressions.Piped.{Piped}
use Rattle.awk_program.specs.declared.expressions.Argument.{Argument}
use Rattle.awk_program.specs.declared.expressions.Argument.TheVariants as argument
use Rattle.awk_program.specs.declared.expressions.Target.{Target}
use Rattle.awk_program.specs.declared.expressions.Target.TheVariants as target
use Rattle.awk_program.specs.declared.expressions.Pattern.{Pattern}
use Rattle.awk_program.specs.declared.expressions.Pattern.TheVariants as ere
use Rattle.awk_program.specs.declared.expressions.Expr.{Expr}
use Rattle.awk_program.specs.declared.expressions.Expr.TheFolds.{fold-roll-Expr, map-Expr}
use Rattle.awk_program.specs.declared.expressions.Expr.TheViews.{roll-Expr}
use Rattle.awk_program.specs.declared.expressions.Expr.TheVariants as e
use Rattle.awk_program.specs.declared.expressions.Expr.TheOpen.{Expr-F}
use Rattle.awk_program.specs.declared.expressions.Expr.TheShapes.{former-Expr-Call-2-at-2 as argument_shape}
use Rattle.awk_program.specs.declared.expressions.Expr.TheShapes.{former-Expr-Pipe-1-at-10 as piped_shape}
use Rattle.awk_program.specs.declared.statements.Redirection.{Redirection}
use Rattle.awk_program.specs.declared.statements.Statement as code_statement
use Rattle.awk_program.specs.declared.statements.Statement.TheFolds.{fold-roll-Statement, map-Statement}
use Rattle.awk_program.specs.declared.statements.Statement.TheViews.{roll-Statement}
use Rattle.awk_program.specs.declared.statements.Statement.TheVariants as s
use Rattle.awk_program.specs.declared.statements.Statement.TheOpen.{Statement-F}
use Rattle.awk_program.specs.Slots.{Text}
use Rattle.awk_program.specs.Program as p
use Rattle.awk_program.specs.Program.{Expression, Reference, Statement, expressions_of, terms_of, joins_of}
use Rattle.awk_program.specs.Program.{statements_of}
use Rattle.awk_program.specs.View.{Names, variable_of, reference_of, pipes_of, arguments_of, view_step, view}
use Rattle.awk_program.specs.View.{view_target, view_ere, view_term, view_joined, view_pipes, view_arguments}
use Rattle.awk_program.specs.View.{view_redirection, statement_step, view_statement}

-- ---- expressions

layer : Names → Expr-F Expr → Expression
layer t d = view_step t (map-Expr Expr Expression (view t) d)

opened : (t : Names) (d : Expr-F Expr) (x : Expr) → roll-Expr d ≡ x → view t x ≡ layer t d
unfolding view layer
opened t d x rolls = ap (view t) (sym rolls) ∙ fold-roll-Expr Expression (view_step t) d

arguments_layer : (t : Names) (xs : List (Argument Expr))
    → arguments_of t (map (argument_shape.map Expr Expression (view t)) xs) ≡ view_arguments t xs
arguments_layer t [] = refl
arguments_layer t (argument.Value x ∷ xs) = ap (λ ys. p.by_value (view t x) ys) (arguments_layer t xs)
arguments_layer t (argument.Array v ∷ xs) = ap (λ ys. p.by_name (variable_of t v) ys) (arguments_layer t xs)
arguments_layer t (argument.Nothing ∷ xs) = ap (λ ys. p.by_nothing ys) (arguments_layer t xs)

piped_target : Names → Piped Expression → Reference
piped_target t x = reference_of t x.target

one_piped : (t : Names) (q : Place) (r : Target Expr)
    → piped_target t (piped_shape.map Expr Expression (view t) (record { place = q; target = r })) ≡ view_target t r
unfolding piped_target
one_piped t q (target.Variable v) = refl
one_piped t q (target.Element w v xs) = refl
one_piped t q (target.Field w x) = refl

pipes_layer : (t : Names) (xs : List (Piped Expr)) → pipes_of t (map (piped_shape.map Expr Expression (view t)) xs)
    ≡ view_pipes t xs
unfolding piped_target
pipes_layer t [] = refl
pipes_layer t (x ∷ xs) = rw (one_piped t x.place x.target, pipes_layer t xs) refl

pub view-Number : (t : Names) (n : Number) → view t (e.Number n) ≡ p.number n
unfolding layer
view-Number t n = opened t _ _ (e.rolls-Number n)

pub view-Text : (t : Names) (x : Text) → view t (e.Text x) ≡ p.text x
unfolding layer
view-Text t x = opened t _ _ (e.rolls-Text x)

pub view-Pattern : (t : Names) (q : Place) (x : Text) → view t (e.Pattern q x) ≡ p.pattern q x
unfolding layer
view-Pattern t q x = opened t _ _ (e.rolls-Pattern q x)

pub view-Read : (t : Names) (r : Target Expr) → view t (e.Read r) ≡ p.read (view_target t r)
unfolding layer
view-Read t (target.Variable v0) = opened t _ _ (e.rolls-Read (target.Variable v0))
view-Read t (target.Element w0 v0 xs0) = opened t _ _ (e.rolls-Read (target.Element w0 v0 xs0))
view-Read t (target.Field w0 x0) = opened t _ _ (e.rolls-Read (target.Field w0 x0))

pub view-Assign : (t : Names) (q : Place) (r : Target Expr) (x : Expr)
    → view t (e.Assign q r x) ≡ p.assign q (view_target t r) (view t x)
unfolding layer
view-Assign t q (target.Variable v0) x = opened t _ _ (e.rolls-Assign q (target.Variable v0) x)
view-Assign t q (target.Element w0 v0 xs0) x = opened t _ _ (e.rolls-Assign q (target.Element w0 v0 xs0) x)
view-Assign t q (target.Field w0 x0) x = opened t _ _ (e.rolls-Assign q (target.Field w0 x0) x)

pub view-Change : (t : Names) (q : Place) (how : Operator) (r : Target Expr) (x : Expr) → view t (e.Change q how r x)
    ≡ p.change q how (view_target t r) (view t x)
unfolding layer
view-Change t q how (target.Variable v0) x = opened t _ _ (e.rolls-Change q how (target.Variable v0) x)
view-Change t q how (target.Element w0 v0 xs0) x = opened t _ _ (e.rolls-Change q how (target.Element w0 v0 xs0) x)
view-Change t q how (target.Field w0 x0) x = opened t _ _ (e.rolls-Change q how (target.Field w0 x0) x)

pub view-Step : (t : Names) (q : Place) (how : Step) (taken : StepValue) (r : Target Expr)
    → view t (e.Step q how taken r) ≡ p.step q how taken (view_target t r)
unfolding layer
view-Step t q how taken (target.Variable v0) = opened t _ _ (e.rolls-Step q how taken (target.Variable v0))
view-Step t q how taken (target.Element w0 v0 xs0) = opened t _ _ (e.rolls-Step q how taken (target.Element w0 v0 xs0))
view-Step t q how taken (target.Field w0 x0) = opened t _ _ (e.rolls-Step q how taken (target.Field w0 x0))

pub view-Not : (t : Names) (x : Expr) → view t (e.Not x) ≡ p.not (view t x)
unfolding layer
view-Not t x = opened t _ _ (e.rolls-Not x)

pub view-Signed : (t : Names) (q : Place) (how : Sign) (x : Expr) → view t (e.Signed q how x) ≡ p.signed q how
    (view t x)
unfolding layer
view-Signed t q how x = opened t _ _ (e.rolls-Signed q how x)

pub view-AsText : (t : Names) (q : Place) (x : Expr) → view t (e.AsText q x) ≡ p.as_text q (view t x)
unfolding layer
view-AsText t q x = opened t _ _ (e.rolls-AsText q x)

pub view-Chain : (t : Names) (x : Expr) (xs : List (Term Expr)) → view t (e.Chain x xs) ≡ p.chain (view t x)
    (terms_of (map (view_term t) xs))
unfolding layer
view-Chain t x xs = opened t _ _ (e.rolls-Chain x xs)

pub view-Concat : (t : Names) (x : Expr) (xs : List (Joined Expr)) → view t (e.Concat x xs) ≡ p.concat (view t x)
    (joins_of (map (view_joined t) xs))
unfolding layer
view-Concat t x xs = opened t _ _ (e.rolls-Concat x xs)

pub view-Compare : (t : Names) (q : Place) (how : Comparison) (x : Expr) (y : Expr) → view t (e.Compare q how x y)
    ≡ p.compare q how (view t x) (view t y)
unfolding layer
view-Compare t q how x y = opened t _ _ (e.rolls-Compare q how x y)

pub view-Match : (t : Names) (q : Place) (x : Expr) (y : Pattern Expr) → view t (e.Match q x y) ≡ p.matched q (view t x)
    (view_ere t y)
unfolding layer
view-Match t q x (ere.Constant w1 x1) = opened t _ _ (e.rolls-Match q x (ere.Constant w1 x1))
view-Match t q x (ere.Computed x1) = opened t _ _ (e.rolls-Match q x (ere.Computed x1))

pub view-In : (t : Names) (x : Expr) (vs : List code.Variable)
    → view t (e.In x vs) ≡ p.member (view t x) (map (variable_of t) vs)
unfolding layer
view-In t x vs = opened t _ _ (e.rolls-In x vs)

pub view-Group : (t : Names) (q : Place) (xs : List Expr) (vs : List code.Variable)
    → view t (e.Group q xs vs) ≡ p.group q (expressions_of (map (view t) xs)) (map (variable_of t) vs)
unfolding layer
view-Group t q xs vs = opened t _ _ (e.rolls-Group q xs vs)

pub view-And : (t : Names) (x : Expr) (xs : List Expr)
    → view t (e.And x xs) ≡ p.and (view t x) (expressions_of (map (view t) xs))
unfolding layer
view-And t x xs = opened t _ _ (e.rolls-And x xs)

pub view-Or : (t : Names) (x : Expr) (xs : List Expr)
    → view t (e.Or x xs) ≡ p.or (view t x) (expressions_of (map (view t) xs))
unfolding layer
view-Or t x xs = opened t _ _ (e.rolls-Or x xs)

pub view-Choice : (t : Names) (x : Expr) (y : Expr) (z : Expr) → view t (e.Choice x y z) ≡ p.choose (view t x)
    (view t y) (view t z)
unfolding layer
view-Choice t x y z = opened t _ _ (e.rolls-Choice x y z)

pub view-Call : (t : Names) (q : Place) (f : ℕ) (xs : List (Argument Expr))
    → view t (e.Call q f xs) ≡ p.call q f (view_arguments t xs)
unfolding layer
view-Call t q f xs = opened t _ _ (e.rolls-Call q f xs) ∙ ap (λ ys. p.call q f ys) (arguments_layer t xs)

pub view-Getline : (t : Names) (q : Place) (r : Target Expr) → view t (e.Getline q r) ≡ p.getline q (view_target t r)
unfolding layer
view-Getline t q (target.Variable v0) = opened t _ _ (e.rolls-Getline q (target.Variable v0))
view-Getline t q (target.Element w0 v0 xs0) = opened t _ _ (e.rolls-Getline q (target.Element w0 v0 xs0))
view-Getline t q (target.Field w0 x0) = opened t _ _ (e.rolls-Getline q (target.Field w0 x0))

pub view-GetlineFile : (t : Names) (q : Place) (r : Target Expr) (x : Expr) → view t (e.GetlineFile q r x)
    ≡ p.getline_file q (view_target t r) (view t x)
unfolding layer
view-GetlineFile t q (target.Variable v0) x = opened t _ _ (e.rolls-GetlineFile q (target.Variable v0) x)
view-GetlineFile t q (target.Element w0 v0 xs0) x = opened t _ _ (e.rolls-GetlineFile q (target.Element w0 v0 xs0) x)
view-GetlineFile t q (target.Field w0 x0) x = opened t _ _ (e.rolls-GetlineFile q (target.Field w0 x0) x)

pub view-Pipe : (t : Names) (x : Expr) (xs : List (Piped Expr))
    → view t (e.Pipe x xs) ≡ p.pipe (view t x) (view_pipes t xs)
unfolding layer
view-Pipe t x xs = opened t _ _ (e.rolls-Pipe x xs) ∙ ap (λ ys. p.pipe (view t x) ys) (pipes_layer t xs)

pub view-Builtin : (t : Names) (q : Place) (which : Builtin) (xs : List Expr) → view t (e.Builtin q which xs)
    ≡ p.builtin q which (expressions_of (map (view t) xs))
unfolding layer
view-Builtin t q which xs = opened t _ _ (e.rolls-Builtin q which xs)

pub view-Count : (t : Names) (v : code.Variable) → view t (e.Count v) ≡ p.count (variable_of t v)
unfolding layer
view-Count t v = opened t _ _ (e.rolls-Count v)

pub view-Locate : (t : Names) (q : Place) (x : Expr) (y : Pattern Expr)
    → view t (e.Locate q x y) ≡ p.locate q (view t x) (view_ere t y)
unfolding layer
view-Locate t q x (ere.Constant w1 x1) = opened t _ _ (e.rolls-Locate q x (ere.Constant w1 x1))
view-Locate t q x (ere.Computed x1) = opened t _ _ (e.rolls-Locate q x (ere.Computed x1))

pub view-Split : (t : Names) (q : Place) (x : Expr) (at : Place) (v : code.Variable) (y : Pattern Expr)
    → view t (e.Split q x at v y) ≡ p.split q (view t x) at (variable_of t v) (view_ere t y)
unfolding layer
view-Split t q x at v (ere.Constant w1 x1) = opened t _ _ (e.rolls-Split q x at v (ere.Constant w1 x1))
view-Split t q x at v (ere.Computed x1) = opened t _ _ (e.rolls-Split q x at v (ere.Computed x1))

pub view-Substitute : (t : Names) (q : Place) (all : Extent) (x : Pattern Expr) (y : Expr) (r : Target Expr)
    → view t (e.Substitute q all x y r) ≡ p.substitute q all (view_ere t x) (view t y) (view_target t r)
unfolding layer
view-Substitute t q all (ere.Constant w1 x1) y (target.Variable v0) =
    opened t _ _ (e.rolls-Substitute q all (ere.Constant w1 x1) y (target.Variable v0))
view-Substitute t q all (ere.Constant w1 x1) y (target.Element w0 v0 xs0) =
    opened t _ _ (e.rolls-Substitute q all (ere.Constant w1 x1) y (target.Element w0 v0 xs0))
view-Substitute t q all (ere.Constant w1 x1) y (target.Field w0 x0) =
    opened t _ _ (e.rolls-Substitute q all (ere.Constant w1 x1) y (target.Field w0 x0))
view-Substitute t q all (ere.Computed x1) y (target.Variable v0) =
    opened t _ _ (e.rolls-Substitute q all (ere.Computed x1) y (target.Variable v0))
view-Substitute t q all (ere.Computed x1) y (target.Element w0 v0 xs0) =
    opened t _ _ (e.rolls-Substitute q all (ere.Computed x1) y (target.Element w0 v0 xs0))
view-Substitute t q all (ere.Computed x1) y (target.Field w0 x0) =
    opened t _ _ (e.rolls-Substitute q all (ere.Computed x1) y (target.Field w0 x0))

-- ---- statements

statement_layer : Names → Statement-F code_statement.Statement → Statement
statement_layer t d = statement_step t (map-Statement code_statement.Statement Statement (view_statement t) d)

opened_statement : (t : Names) (d : Statement-F code_statement.Statement) (x : code_statement.Statement)
    → roll-Statement d ≡ x → view_statement t x ≡ statement_layer t d
unfolding view_statement statement_layer
opened_statement t d x rolls = ap (view_statement t) (sym rolls) ∙ fold-roll-Statement Statement (statement_step t) d

pub statement-Expr : (t : Names) (x : Expr) → view_statement t (s.Expr x) ≡ p.plain (view t x)
unfolding statement_layer
statement-Expr t x = opened_statement t _ _ (s.rolls-Expr x)

pub statement-Print : (t : Names) (q : Place) (xs : List Expr) (r : Option (Redirection Expr))
    → view_statement t (s.Print q xs r) ≡ p.print q (map (view t) xs) (option_map (view_redirection t) r)
unfolding statement_layer
statement-Print t q xs r = opened_statement t _ _ (s.rolls-Print q xs r)

pub statement-Printf : (t : Names) (q : Place) (x : Expr) (xs : List Expr) (r : Option (Redirection Expr))
    → view_statement t (s.Printf q x xs r) ≡ p.printf q (view t x) (map (view t) xs) (option_map (view_redirection t) r)
unfolding statement_layer
statement-Printf t q x xs r = opened_statement t _ _ (s.rolls-Printf q x xs r)

pub statement-Delete : (t : Names) (q : Place) (v : code.Variable) (xs : List Expr) → view_statement t (s.Delete q v xs)
    ≡ p.delete q (variable_of t v) (map (view t) xs)
unfolding statement_layer
statement-Delete t q v xs = opened_statement t _ _ (s.rolls-Delete q v xs)

pub statement-DeleteAll : (t : Names) (v : code.Variable) → view_statement t (s.DeleteAll v) ≡ p.delete_all
    (variable_of t v)
unfolding statement_layer
statement-DeleteAll t v = opened_statement t _ _ (s.rolls-DeleteAll v)

pub statement-Jump : (t : Names) (which : Jump) → view_statement t (s.Jump which) ≡ p.jump which
unfolding statement_layer
statement-Jump t which = opened_statement t _ _ (s.rolls-Jump which)

pub statement-Exit : (t : Names) (q : Place) (x : Option Expr) → view_statement t (s.Exit q x)
    ≡ p.exit q (option_map (view t) x)
unfolding statement_layer
statement-Exit t q x = opened_statement t _ _ (s.rolls-Exit q x)

pub statement-Return : (t : Names) (x : Option Expr) → view_statement t (s.Return x) ≡ p.return (option_map (view t) x)
unfolding statement_layer
statement-Return t x = opened_statement t _ _ (s.rolls-Return x)

pub statement-Block : (t : Names) (xs : List code_statement.Statement) → view_statement t (s.Block xs)
    ≡ p.block (statements_of (map (view_statement t) xs))
unfolding statement_layer
statement-Block t xs = opened_statement t _ _ (s.rolls-Block xs)

pub statement-If : (t : Names) (x : Expr) (y : code_statement.Statement) → view_statement t (s.If x y)
    ≡ p.if_then (view t x) (view_statement t y)
unfolding statement_layer
statement-If t x y = opened_statement t _ _ (s.rolls-If x y)

pub statement-IfElse : (t : Names) (x : Expr) (y : code_statement.Statement) (z : code_statement.Statement)
    → view_statement t (s.IfElse x y z) ≡ p.if_else (view t x) (view_statement t y) (view_statement t z)
unfolding statement_layer
statement-IfElse t x y z = opened_statement t _ _ (s.rolls-IfElse x y z)

pub statement-While : (t : Names) (x : Expr) (y : code_statement.Statement) → view_statement t (s.While x y)
    ≡ p.while_do (view t x) (view_statement t y)
unfolding statement_layer
statement-While t x y = opened_statement t _ _ (s.rolls-While x y)

pub statement-Do : (t : Names) (y : code_statement.Statement) (x : Expr) → view_statement t (s.Do y x)
    ≡ p.do_while (view_statement t y) (view t x)
unfolding statement_layer
statement-Do t y x = opened_statement t _ _ (s.rolls-Do y x)

pub statement-For : (t : Names) (x : Option Expr) (y : Option Expr) (z : Option Expr) (u : code_statement.Statement)
    → view_statement t (s.For x y z u) ≡ p.for_loop (option_map (view t) x) (option_map (view t) y)
    (option_map (view t) z) (view_statement t u)
unfolding statement_layer
statement-For t x y z u = opened_statement t _ _ (s.rolls-For x y z u)

pub statement-ForIn : (t : Names) (q : Place) (k : code.Variable) (a : code.Variable) (y : code_statement.Statement)
    → view_statement t (s.ForIn q k a y) ≡ p.for_each q (variable_of t k) (variable_of t a) (view_statement t y)
unfolding statement_layer
statement-ForIn t q k a y = opened_statement t _ _ (s.rolls-ForIn q k a y)

pub ruleset views = (
  view-Number,
  view-Text,
  view-Pattern,
  view-Read,
  view-Assign,
  view-Change,
  view-Step,
  view-Not,
  view-Signed,
  view-AsText,
  view-Chain,
  view-Concat,
  view-Compare,
  view-Match,
  view-In,
  view-Group,
  view-And,
  view-Or,
  view-Choice,
  view-Call,
  view-Getline,
  view-GetlineFile,
  view-Pipe,
  view-Builtin,
  view-Count,
  view-Locate,
  view-Split,
  view-Substitute,
)

pub ruleset statement_views = (
  statement-Expr,
  statement-Print,
  statement-Printf,
  statement-Delete,
  statement-DeleteAll,
  statement-Jump,
  statement-Exit,
  statement-Return,
  statement-Block,
  statement-If,
  statement-IfElse,
  statement-While,
  statement-Do,
  statement-For,
  statement-ForIn,
)
