-- What a part is made as.
use Rattle.std.specs.Prelude.{◌≡◌, List, map, Option, Some, None, option_map, Result, IfOk}
use Rattle.awk_text.specs.declared.place.Place.{Place}
use Rattle.awk_program.specs.declared.expressions.Expr.{Expr}
use Rattle.awk_program.specs.declared.expressions.Term.{Term}
use Rattle.awk_program.specs.declared.expressions.Joined.{Joined}
use Rattle.awk_program.specs.declared.expressions.Piped.{Piped}
use Rattle.awk_program.specs.declared.expressions.Argument.{Argument}
use Rattle.awk_program.specs.declared.expressions.Argument.TheVariants as argument
use Rattle.awk_program.specs.declared.expressions.Target.{Target}
use Rattle.awk_program.specs.declared.expressions.Pattern.{Pattern}
use Rattle.awk_program.specs.declared.statements.Redirection.{Redirection}
use Rattle.awk_program.specs.declared.variables.Variable as code
use Rattle.awk_program.specs.declared.statements.Statement as code_statement
use Rattle.awk_program.specs.Program as p
use Rattle.awk_program.specs.Program.{Variable, Expression, Reference, Ere, Arguments, Statement}
use Rattle.awk_program.specs.View.{Names, variable_of, view, view_target, view_ere, view_term, view_joined, view_pipes}
use Rattle.awk_program.specs.View.{view_arguments, view_redirection, view_statement}
use Rattle.awk_lowering.specs.Scopes.{Scope}
use Rattle.awk_lowering.specs.declared.names.Lowering.{Lowering}

-- the names of the variables, by their slots
abbrev pub names_in : Lowering → Names
names_in n = n.variables.now

abbrev pub scope_in : Lowering → Scope
scope_in n = record {
  numbers = n.numbers;
  parameters = n.parameters.now;
  functions = n.functions.now;
  arrays = n.arrays.now;
  own_arrays = n.own_arrays.now;
  variables = n.variables.now;
  script_arrays = n.script_arrays.now;
}

-- what was made is this, unless memory was refused
abbrev pub Is : {E : Type 0} → Names → Result Expr E → Expression → Type 0
Is t made x = IfOk made (λ e. view t e ≡ x)

abbrev pub IsPerhaps : {E : Type 0} → Names → Result (Option Expr) E → Option Expression → Type 0
IsPerhaps t made x = IfOk made (λ e. option_map (view t) e ≡ x)

abbrev pub AreAll : {E : Type 0} → Names → Result (List Expr) E → List Expression → Type 0
AreAll t made xs = IfOk made (λ es. map (view t) es ≡ xs)

abbrev pub AreTerms : {E : Type 0} → Names → Result (List (Term Expr)) E → List (Term Expression) → Type 0
AreTerms t made xs = IfOk made (λ es. map (view_term t) es ≡ xs)

abbrev pub AreJoins : {E : Type 0} → Names → Result (List (Joined Expr)) E → List (Joined Expression) → Type 0
AreJoins t made xs = IfOk made (λ es. map (view_joined t) es ≡ xs)

abbrev pub ArePipes : {E : Type 0} → Names → Result (List (Piped Expr)) E → p.Pipes → Type 0
ArePipes t made xs = IfOk made (λ es. view_pipes t es ≡ xs)

abbrev pub AreArguments : {E : Type 0} → Names → Result (List (Argument Expr)) E → Arguments → Type 0
AreArguments t made xs = IfOk made (λ es. view_arguments t es ≡ xs)

-- an argument in front of others
abbrev pub with_argument : Names → Argument Expr → Arguments → Arguments
with_argument t (argument.Value x) rest = p.by_value (view t x) rest
with_argument t (argument.Array v) rest = p.by_name (variable_of t v) rest
with_argument t argument.Nothing rest = p.by_nothing rest

-- a name that is handed on by itself, or else the value
abbrev pub or_value : Names → Option (Argument Expr) → Expression → Arguments → Arguments
or_value t None x rest = p.by_value x rest
or_value t (Some found) x rest = with_argument t found rest

abbrev pub IsArgument : {E : Type 0} → Names → Result (Argument Expr) E → (Arguments → Arguments) → Type 0
IsArgument t made in_front = IfOk made (λ x. (rest : Arguments) → with_argument t x rest ≡ in_front rest)

abbrev pub IsPiped : {E : Type 0} → Names → Result (Piped Expr) E → Place → Reference → Type 0
IsPiped t made q r = IfOk made (λ x. (x.place ≡ q) × (view_target t x.target ≡ r))

abbrev pub IsTarget : {E : Type 0} → Names → Result (Target Expr) E → Reference → Type 0
IsTarget t made x = IfOk made (λ e. view_target t e ≡ x)

abbrev pub IsEre : {E : Type 0} → Names → Result (Pattern Expr) E → Ere → Type 0
IsEre t made x = IfOk made (λ e. view_ere t e ≡ x)

abbrev pub IsVariable : {E : Type 0} → Names → Result code.Variable E → Variable → Type 0
IsVariable t made x = IfOk made (λ v. variable_of t v ≡ x)

abbrev pub AreVariables : {E : Type 0} → Names → Result (List code.Variable) E → List Variable → Type 0
AreVariables t made xs = IfOk made (λ vs. map (variable_of t) vs ≡ xs)

abbrev pub IsStatement : {E : Type 0} → Names → Result code_statement.Statement E → Statement → Type 0
IsStatement t made x = IfOk made (λ s. view_statement t s ≡ x)

abbrev pub AreStatements : {E : Type 0} → Names → Result (List code_statement.Statement) E → List Statement → Type 0
AreStatements t made xs = IfOk made (λ ss. map (view_statement t) ss ≡ xs)

abbrev pub AreRedirected : {E : Type 0} → Names → Result (Option (Redirection Expr)) E →
    Option (Redirection Expression) → Type 0
AreRedirected t made x = IfOk made (λ r. option_map (view_redirection t) r ≡ x)
