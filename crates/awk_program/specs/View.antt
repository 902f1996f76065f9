-- The plain program that the types of the code stand for, by the names of its variables.
use Rattle.std.specs.Prelude.{List, [], ◌∷◌, map, option_map, get_or}
use Rattle.awk_program.specs.declared.variables.Variable as code
use Rattle.awk_program.specs.declared.variables.Variable.TheVariants as kept
use Rattle.awk_program.specs.declared.expressions.Expr.{Expr}
use Rattle.awk_program.specs.declared.expressions.Expr.TheFolds.{fold-Expr}
use Rattle.awk_program.specs.declared.expressions.Expr.TheOpen.{Expr-F}
use Rattle.awk_program.specs.declared.expressions.Target.{Target}
use Rattle.awk_program.specs.declared.expressions.Target.TheVariants as target
use Rattle.awk_program.specs.declared.expressions.Pattern.{Pattern}
use Rattle.awk_program.specs.declared.expressions.Pattern.TheVariants as pattern
use Rattle.awk_program.specs.declared.expressions.Term.{Term}
use Rattle.awk_program.specs.declared.expressions.Joined.{Joined}
use Rattle.awk_program.specs.declared.expressions.Piped.{Piped}
use Rattle.awk_program.specs.declared.expressions.Argument.{Argument}
use Rattle.awk_program.specs.declared.expressions.Argument.TheVariants as argument
use Rattle.awk_program.specs.declared.statements.Redirection.{Redirection}
use Rattle.awk_program.specs.declared.statements.Statement as code_statement
use Rattle.awk_program.specs.declared.statements.Statement.TheFolds.{fold-Statement}
use Rattle.awk_program.specs.declared.statements.Statement.TheOpen.{Statement-F}
use Rattle.awk_program.specs.declared.program.When as code_when
use Rattle.awk_program.specs.declared.program.When.TheVariants as when
use Rattle.awk_program.specs.declared.program.Rule as code_rule
use Rattle.awk_program.specs.declared.program.Function as code_function
use Rattle.awk_program.specs.declared.program.Program as code_program
use Rattle.awk_program.specs.Slots.{Text}
use Rattle.awk_program.specs.Program as p
use Rattle.awk_program.specs.Program.{Expression, Reference, Ere, Pipes, Arguments, Statement, When, Rule, Function}
use Rattle.awk_program.specs.Program.{Program, expressions_of, terms_of, joins_of, statements_of}

-- the names of the variables, by their slots
abbrev pub Names : Type 0
Names = List Text

-- No name is empty: so a slot that is none is a variable that no script has.
abbrev pub variable_of : Names → code.Variable → p.Variable
variable_of t (kept.Global n) = p.global (get_or t n [])
variable_of t (kept.Parameter n) = p.parameter n

-- ---- expressions, whose parts are viewed already

abbrev pub reference_of : Names → Target Expression → Reference
reference_of t (target.Variable v) = p.variable (variable_of t v)
reference_of t (target.Element place v xs) = p.element place (variable_of t v) (expressions_of xs)
reference_of t (target.Field place x) = p.field place x

abbrev pub ere_of : Pattern Expression → Ere
ere_of (pattern.Constant place x) = p.constant place x
ere_of (pattern.Computed x) = p.computed x

abbrev pub pipes_of : Names → List (Piped Expression) → Pipes
pipes_of t [] = p.no_pipes
pipes_of t (x ∷ xs) = p.piped x.place (reference_of t x.target) (pipes_of t xs)

abbrev pub arguments_of : Names → List (Argument Expression) → Arguments
arguments_of t [] = p.no_arguments
arguments_of t (argument.Value x ∷ xs) = p.by_value x (arguments_of t xs)
arguments_of t (argument.Array v ∷ xs) = p.by_name (variable_of t v) (arguments_of t xs)
arguments_of t (argument.Nothing ∷ xs) = p.by_nothing (arguments_of t xs)

abbrev pub view_step : Names → Expr-F Expression → Expression
view_step t (Expr-F.Number n) = p.number n
view_step t (Expr-F.Text x) = p.text x
view_step t (Expr-F.Pattern place x) = p.pattern place x
view_step t (Expr-F.Read r) = p.read (reference_of t r)
view_step t (Expr-F.Assign place r x) = p.assign place (reference_of t r) x
view_step t (Expr-F.Change place how r x) = p.change place how (reference_of t r) x
view_step t (Expr-F.Step place how taken r) = p.step place how taken (reference_of t r)
view_step t (Expr-F.Not x) = p.not x
view_step t (Expr-F.Signed place how x) = p.signed place how x
view_step t (Expr-F.AsText place x) = p.as_text place x
view_step t (Expr-F.Chain x xs) = p.chain x (terms_of xs)
view_step t (Expr-F.Concat x xs) = p.concat x (joins_of xs)
view_step t (Expr-F.Compare place how x y) = p.compare place how x y
view_step t (Expr-F.Match place x y) = p.matched place x (ere_of y)
view_step t (Expr-F.In x vs) = p.member x (map (variable_of t) vs)
view_step t (Expr-F.Group place xs vs) = p.group place (expressions_of xs) (map (variable_of t) vs)
view_step t (Expr-F.And x xs) = p.and x (expressions_of xs)
view_step t (Expr-F.Or x xs) = p.or x (expressions_of xs)
view_step t (Expr-F.Choice x y z) = p.choose x y z
view_step t (Expr-F.Call place f xs) = p.call place f (arguments_of t xs)
view_step t (Expr-F.Getline place r) = p.getline place (reference_of t r)
view_step t (Expr-F.GetlineFile place r x) = p.getline_file place (reference_of t r) x
view_step t (Expr-F.Pipe x xs) = p.pipe x (pipes_of t xs)
view_step t (Expr-F.Builtin place which xs) = p.builtin place which (expressions_of xs)
view_step t (Expr-F.Count v) = p.count (variable_of t v)
view_step t (Expr-F.Locate place x y) = p.locate place x (ere_of y)
view_step t (Expr-F.Split place x at v y) = p.split place x at (variable_of t v) (ere_of y)
view_step t (Expr-F.Substitute place all x y r) = p.substitute place all (ere_of x) y (reference_of t r)

unfoldable pub view : Names → Expr → Expression
view t = fold-Expr Expression (view_step t)

-- ---- parts of expressions

abbrev pub view_target : Names → Target Expr → Reference
view_target t (target.Variable v) = p.variable (variable_of t v)
view_target t (target.Element place v xs) = p.element place (variable_of t v) (expressions_of (map (view t) xs))
view_target t (target.Field place x) = p.field place (view t x)

abbrev pub view_ere : Names → Pattern Expr → Ere
view_ere t (pattern.Constant place x) = p.constant place x
view_ere t (pattern.Computed x) = p.computed (view t x)

abbrev pub view_term : Names → Term Expr → Term Expression
view_term t x = record { operator = x.operator; place = x.place; operand = view t x.operand }

abbrev pub view_joined : Names → Joined Expr → Joined Expression
view_joined t x = record { place = x.place; operand = view t x.operand }

abbrev pub view_pipes : Names → List (Piped Expr) → Pipes
view_pipes t [] = p.no_pipes
view_pipes t (x ∷ xs) = p.piped x.place (view_target t x.target) (view_pipes t xs)

abbrev pub view_arguments : Names → List (Argument Expr) → Arguments
view_arguments t [] = p.no_arguments
view_arguments t (argument.Value x ∷ xs) = p.by_value (view t x) (view_arguments t xs)
view_arguments t (argument.Array v ∷ xs) = p.by_name (variable_of t v) (view_arguments t xs)
view_arguments t (argument.Nothing ∷ xs) = p.by_nothing (view_arguments t xs)

abbrev pub view_redirection : Names → Redirection Expr → Redirection Expression
view_redirection t x = record { how = x.how; place = x.place; target = view t x.target }

-- ---- statements

abbrev pub statement_step : Names → Statement-F Statement → Statement
statement_step t (Statement-F.Expr x) = p.plain (view t x)
statement_step t (Statement-F.Print place xs r) = p.print place (map (view t) xs) (option_map (view_redirection t) r)
statement_step t (Statement-F.Printf place x xs r) =
    p.printf place (view t x) (map (view t) xs) (option_map (view_redirection t) r)
statement_step t (Statement-F.Delete place v xs) = p.delete place (variable_of t v) (map (view t) xs)
statement_step t (Statement-F.DeleteAll v) = p.delete_all (variable_of t v)
statement_step t (Statement-F.Jump which) = p.jump which
statement_step t (Statement-F.Exit place x) = p.exit place (option_map (view t) x)
statement_step t (Statement-F.Return x) = p.return (option_map (view t) x)
statement_step t (Statement-F.Block xs) = p.block (statements_of xs)
statement_step t (Statement-F.If x y) = p.if_then (view t x) y
statement_step t (Statement-F.IfElse x y z) = p.if_else (view t x) y z
statement_step t (Statement-F.While x y) = p.while_do (view t x) y
statement_step t (Statement-F.Do y x) = p.do_while y (view t x)
statement_step t (Statement-F.For x y z u) =
    p.for_loop (option_map (view t) x) (option_map (view t) y) (option_map (view t) z) u
statement_step t (Statement-F.ForIn place k a y) = p.for_each place (variable_of t k) (variable_of t a) y

unfoldable pub view_statement : Names → code_statement.Statement → Statement
view_statement t = fold-Statement Statement (statement_step t)

-- ---- programs

abbrev pub view_when : Names → code_when.When → When
view_when t when.Always = p.always
view_when t (when.Holds x) = p.holds (view t x)
view_when t (when.Range x y) = p.range (view t x) (view t y)

abbrev pub view_rule : Names → code_rule.Rule → Rule
view_rule t x = record { when = view_when t x.when; action = map (view_statement t) x.action }

abbrev pub view_function : Names → code_function.Function → Function
view_function t x = record { name = x.name; parameters = x.parameters; body = map (view_statement t) x.body }

abbrev pub names_of : code_program.Program → Names
names_of x = map (λ n. n.text) x.variables

abbrev pub view_by : Names → code_program.Program → Program
view_by t x = record {
  variables = x.variables;
  functions = map (view_function t) x.functions;
  begin = map (map (view_statement t)) x.begin;
  rules = map (view_rule t) x.rules;
  end = map (map (view_statement t)) x.end;
}

abbrev pub view_program : code_program.Program → Program
view_program x = view_by (names_of x) x
