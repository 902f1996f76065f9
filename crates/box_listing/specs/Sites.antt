-- What a program may ask of the world, form by form (POSIX.1-2017 XCU awk, "Output Statements", "Input/Output and
-- General Functions", "OPERANDS"): each redirection of print and printf, each `system`, each getline with a file or a
-- command, and the main input.
use Rattle.std.specs.Prelude.{Bool, false, if◌then◌else◌, codes, List, [], ◌∷◌, ◌++◌, Option, Some, None}
use Rattle.std.specs.Str.{bytes_eq}
use Rattle.awk_text.specs.declared.place.Place.{Place}
use Rattle.awk_program.specs.Slots.{Text}
use Rattle.awk_program.specs.Program as p
use Rattle.awk_program.specs.Program.{Expression, Reference, Ere, Expressions, Terms, Joins, Pipes, Arguments}
use Rattle.awk_program.specs.Program.{Statement, Statements, When, Rule, Function, Program, expressions_of}
use Rattle.awk_program.specs.Program.{statements_of}
use Rattle.awk_program.specs.declared.builtins.Builtin.{Builtin}
use Rattle.awk_program.specs.declared.builtins.Builtin.TheVariants as b
use Rattle.awk_program.specs.declared.operators.Redirect.{Redirect}
use Rattle.awk_program.specs.declared.operators.Redirect.TheVariants as to
use Rattle.awk_program.specs.declared.statements.Redirection.{Redirection}
use Rattle.box_policy.specs.declared.policy.Kind.{Kind}
use Rattle.box_policy.specs.declared.policy.Kind.TheVariants.{Read, Write, Append, Run}
use Rattle.box_listing.specs.declared.site.Sort.{Sort}
use Rattle.box_listing.specs.declared.site.Sort.TheVariants as sort
use Rattle.box_listing.specs.declared.site.Found.{Found}
use Rattle.box_listing.specs.declared.site.Found.TheVariants.{MainInput, At}

-- ---- sites

-- the text that is known before a run: that of a string constant
abbrev pub constant : Expression → Option Text
constant (p.text x) = Some x
constant other = None

abbrev pub site : Place → Kind → Option Text → List Found
site place kind text = At (record { place = place; kind = kind; text = text }) ∷ []

-- a file that is read; the constant `-` is the standard input, which is not opened
abbrev pub is_standard_input : Option Text → Bool
is_standard_input None = false
is_standard_input (Some x) = bytes_eq x (codes "-")

abbrev pub reading : Place → Option Text → List Found
reading place text = if is_standard_input text then [] else site place Read text

-- what a built-in function asks for beside its arguments: system for the command
abbrev pub first_constant : Expressions → Option Text
first_constant p.none = None
first_constant (p.more x xs) = constant x

abbrev pub asked : Place → Builtin → Expressions → List Found
asked place b.System xs = site place Run (first_constant xs)
asked place which xs = []

abbrev pub kind_of : Redirect → Kind
kind_of to.Write = Write
kind_of to.Append = Append
kind_of to.Command = Run

-- ---- expressions

abbrev mutual
  pub value : Expression → List Found
  value (p.number n) = []
  value (p.text x) = []
  value (p.pattern place x) = []
  value (p.read r) = target r
  value (p.assign place r x) = target r ++ value x
  value (p.change place how r x) = target r ++ value x
  value (p.step place how taken r) = target r
  value (p.not x) = value x
  value (p.signed place how x) = value x
  value (p.as_text place x) = value x
  value (p.chain x xs) = value x ++ terms xs
  value (p.concat x xs) = value x ++ joins xs
  value (p.compare place how x y) = value x ++ value y
  value (p.matched place x y) = value x ++ ere y
  value (p.member x arrays) = value x
  value (p.group place xs arrays) = each xs
  value (p.and x xs) = value x ++ each xs
  value (p.or x xs) = value x ++ each xs
  value (p.choose x y z) = value x ++ (value y ++ value z)
  value (p.call place f xs) = arguments xs
  value (p.getline place r) = MainInput ∷ target r
  value (p.getline_file place r x) = reading place (constant x) ++ (target r ++ value x)
  value (p.pipe x xs) = value x ++ pipes (constant x) xs
  value (p.builtin place which xs) = asked place which xs ++ each xs
  value (p.count array) = []
  value (p.locate place x y) = value x ++ ere y
  value (p.split place x at array y) = value x ++ ere y
  value (p.substitute place how x y r) = ere x ++ (value y ++ target r)

  pub target : Reference → List Found
  target (p.variable a) = []
  target (p.element place a xs) = each xs
  target (p.field place x) = value x

  pub ere : Ere → List Found
  ere (p.constant place x) = []
  ere (p.computed x) = value x

  pub each : Expressions → List Found
  each p.none = []
  each (p.more x xs) = value x ++ each xs

  pub terms : Terms → List Found
  terms p.no_terms = []
  terms (p.term how place x xs) = value x ++ terms xs

  pub joins : Joins → List Found
  joins p.no_joins = []
  joins (p.join place x xs) = value x ++ joins xs

  -- a chain of `| getline`: the command of the first is known where it is a constant; that of a later one is what the
  -- one before it gave
  pub pipes : Option Text → Pipes → List Found
  pipes text p.no_pipes = []
  pipes text (p.piped place r xs) = site place Run text ++ (target r ++ pipes None xs)

  pub arguments : Arguments → List Found
  arguments p.no_arguments = []
  arguments (p.by_value x xs) = value x ++ arguments xs
  arguments (p.by_name a xs) = arguments xs
  arguments (p.by_nothing xs) = arguments xs

-- ---- statements

abbrev pub all : List Expression → List Found
all xs = each (expressions_of xs)

abbrev pub optional : Option Expression → List Found
optional None = []
optional (Some x) = value x

abbrev pub redirected : Redirection Expression → List Found
redirected r = site r.place (kind_of r.how) (constant r.target) ++ value r.target

abbrev pub redirection : Option (Redirection Expression) → List Found
redirection None = []
redirection (Some r) = redirected r

abbrev mutual
  pub done : Statement → List Found
  done (p.plain x) = value x
  done (p.print place xs r) = all xs ++ redirection r
  done (p.printf place x xs r) = value x ++ (all xs ++ redirection r)
  done (p.delete place a xs) = all xs
  done (p.delete_all a) = []
  done (p.jump which) = []
  done (p.exit place x) = optional x
  done (p.return x) = optional x
  done (p.block xs) = each_done xs
  done (p.if_then x y) = value x ++ done y
  done (p.if_else x y z) = value x ++ (done y ++ done z)
  done (p.while_do x y) = value x ++ done y
  done (p.do_while y x) = done y ++ value x
  done (p.for_loop x y z u) = (optional x ++ (optional y ++ optional z)) ++ done u
  done (p.for_each place key array y) = done y

  pub each_done : Statements → List Found
  each_done p.no_more = []
  each_done (p.then_also x xs) = done x ++ each_done xs

abbrev pub all_done : List Statement → List Found
all_done xs = each_done (statements_of xs)

-- ---- programs

abbrev pub actions : List (List Statement) → List Found
actions [] = []
actions (xs ∷ more) = all_done xs ++ actions more

abbrev pub when : When → List Found
when p.always = []
when (p.holds x) = value x
when (p.range x y) = value x ++ value y

abbrev pub rule : Rule → List Found
rule x = when x.when ++ all_done x.action

abbrev pub rules : List Rule → List Found
rules [] = []
rules (x ∷ xs) = rule x ++ rules xs

abbrev pub functions : List Function → List Found
functions [] = []
functions (f ∷ fs) = all_done f.body ++ functions fs

-- the main input is read where there is a rule or an END
abbrev pub records : List Rule → List (List Statement) → List Found
records [] [] = []
records rules end = MainInput ∷ []

-- The items in the order of these sorts, each the next one of its sort, and then the others.
abbrev pub items : List Sort → List (List Statement) → List Rule → List (List Statement) → List Function → List Found
items [] begin rs end fs = actions begin ++ (rules rs ++ (actions end ++ functions fs))
items (sort.Begin ∷ more) [] rs end fs = items more [] rs end fs
items (sort.Begin ∷ more) (x ∷ begin) rs end fs = all_done x ++ items more begin rs end fs
items (sort.Rule ∷ more) begin [] end fs = items more begin [] end fs
items (sort.Rule ∷ more) begin (x ∷ rs) end fs = rule x ++ items more begin rs end fs
items (sort.End ∷ more) begin rs [] fs = items more begin rs [] fs
items (sort.End ∷ more) begin rs (x ∷ end) fs = all_done x ++ items more begin rs end fs
items (sort.Function ∷ more) begin rs end [] = items more begin rs end []
items (sort.Function ∷ more) begin rs end (f ∷ fs) = all_done f.body ++ items more begin rs end fs

-- by the order of the items in the script
abbrev pub found : List Sort → Program → List Found
found order x = records x.rules x.end ++ items order x.begin x.rules x.end x.functions
