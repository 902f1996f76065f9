-- What the parts of a script say of names, places and the main input
-- (POSIX.1-2017 XCU awk, "Expressions in awk", "Actions" and "User-Defined Functions").
use Rattle.std.specs.Prelude.{Bool, true, false, List, [], ◌∷◌, ◌++◌, Option, Some, None}
use Rattle.awk_text.specs.declared.place.Place.{Place}
use Rattle.awk_tree.specs.declared.names.Name.{Name}
use Rattle.awk_tree.specs.declared.names.Member.{Member}
use Rattle.awk_tree.specs.declared.statements.Redirection.{Redirection}
use Rattle.awk_tree.specs.Tree as t
use Rattle.awk_tree.specs.Tree.{Tree, Trees, Perhaps, Terms, Pipes, Statement, Statements, Condition, Entry, trees_of}
use Rattle.awk_tree.specs.Tree.{perhaps_of, statements_of}
use Rattle.awk_tokens.specs.declared.words.Builtin.{Builtin}
use Rattle.awk_tokens.specs.declared.words.Builtin.TheVariants as b
use Rattle.awk_tokens.specs.declared.words.Jump.{Jump}
use Rattle.awk_tokens.specs.declared.words.Jump.TheVariants as j
use Rattle.awk_resolve.specs.declared.mention.Mention.{Mention}
use Rattle.awk_resolve.specs.declared.mention.Mention.TheVariants.{Scalar, Array, Measured, Call, MainInput, Next}
use Rattle.awk_resolve.specs.declared.mention.Mention.TheVariants.{Return, Stray}
use Rattle.awk_resolve.specs.declared.mention.Role.TheVariants as role
use Rattle.awk_resolve.specs.declared.mention.Section.{Section}

-- ---- expressions

-- the name that an expression is, where it is a name by itself
abbrev pub bare : Tree → Option Name
bare (t.name n) = Some n
bare x = None

abbrev pub bares : Trees → List (Option Name)
bares t.none = []
bares (t.more x xs) = bare x ∷ bares xs

-- the right sides of `in` are arrays
abbrev pub members : List Member → List Mention
members [] = []
members (m ∷ ms) = Array m.array ∷ members ms

-- a `getline` without a file
abbrev pub source : Perhaps → List Mention
source t.absent = MainInput ∷ []
source (t.present x) = []

-- what is said in an argument. Of one that is a name by itself, the call has said all.
abbrev pub argument : Option Name → List Mention → List Mention
argument None said = said
argument (Some n) said = []

-- the name that a list is, where it is one name by itself
abbrev pub alone : Trees → Option Name
alone (t.more x t.none) = bare x
alone xs = None

-- the name whose length is asked
abbrev pub measured : Builtin → Trees → Option Name
measured b.Length xs = alone xs
measured which xs = None

-- what is said in the arguments of a built-in function
abbrev pub built : Option Name → List Mention → List Mention
built None said = said
built (Some n) said = Measured n ∷ []

abbrev mutual
  pub mentions : Tree → List Mention
  mentions (t.number p x) = []
  mentions (t.quoted p x) = []
  mentions (t.pattern p x) = []
  mentions (t.name n) = Scalar n ∷ []
  mentions (t.element n xs) = Array n ∷ each xs
  mentions (t.field p x) = mentions x
  mentions (t.paren p x) = mentions x
  mentions (t.call f xs) = Call f (bares xs) ∷ arguments xs
  mentions (t.builtin p which xs) = built (measured which xs) (each xs)
  mentions (t.bare_length p) = []
  mentions (t.split p x n y) = mentions x ++ Array n ∷ perhaps y
  mentions (t.substitute p all x y z) = mentions x ++ (mentions y ++ perhaps z)
  mentions (t.getline p x y) = source y ++ (perhaps x ++ perhaps y)
  mentions (t.before p s x) = mentions x
  mentions (t.after x p s) = mentions x
  mentions (t.signed p s x) = mentions x
  mentions (t.power x p y) = mentions x ++ mentions y
  mentions (t.product x ts) = mentions x ++ terms ts
  mentions (t.sum x ts) = mentions x ++ terms ts
  mentions (t.concat x xs) = mentions x ++ each xs
  mentions (t.pipe x ps) = mentions x ++ pipes ps
  mentions (t.compare x p c y) = mentions x ++ mentions y
  mentions (t.matched x p unlike y) = mentions x ++ mentions y
  mentions (t.group p xs ms) = each xs ++ members ms
  mentions (t.member x ms) = mentions x ++ members ms
  mentions (t.and x xs) = mentions x ++ each xs
  mentions (t.or x xs) = mentions x ++ each xs
  mentions (t.choose x y z) = mentions x ++ (mentions y ++ mentions z)
  mentions (t.assign x p a y) = mentions x ++ mentions y

  pub each : Trees → List Mention
  each t.none = []
  each (t.more x xs) = mentions x ++ each xs

  pub arguments : Trees → List Mention
  arguments t.none = []
  arguments (t.more x xs) = argument (bare x) (mentions x) ++ arguments xs

  pub perhaps : Perhaps → List Mention
  perhaps t.absent = []
  perhaps (t.present x) = mentions x

  pub terms : Terms → List Mention
  terms t.no_terms = []
  terms (t.term a p x ts) = mentions x ++ terms ts

  pub pipes : Pipes → List Mention
  pipes t.no_pipes = []
  pipes (t.piped p x ps) = perhaps x ++ pipes ps

-- ---- statements

-- of several expressions
abbrev pub all : List Tree → List Mention
all xs = each (trees_of xs)

abbrev pub optional : Option Tree → List Mention
optional x = perhaps (perhaps_of x)

abbrev pub target : Option (Redirection Tree) → List Mention
target None = []
target (Some r) = mentions r.target

-- `break` and `continue`, by whether they stand in a loop
abbrev pub leaving : Bool → Place → List Mention
leaving true place = []
leaving false place = Stray place ∷ []

-- a word alone
abbrev pub jumped : Bool → Place → Jump → List Mention
jumped inside place j.Break = leaving inside place
jumped inside place j.Continue = leaving inside place
jumped inside place j.Next = Next place ∷ []
jumped inside place j.NextFile = Next place ∷ []

-- what a statement says that stands in a loop, or, at false, in none
abbrev mutual
  pub said : Bool → Statement → List Mention
  said inside t.empty = []
  said inside (t.plain x) = mentions x
  said inside (t.print p x r) = all x.items ++ target r
  said inside (t.printf p x r) = all x.items ++ target r
  said inside (t.delete n xs) = Array n ∷ all xs
  said inside (t.delete_all n) = Array n ∷ []
  said inside (t.jump p which) = jumped inside p which
  said inside (t.exit p x) = optional x
  said inside (t.return p x) = Return p ∷ optional x
  said inside (t.block xs) = each_said inside xs
  said inside (t.if_then x s) = mentions x ++ said inside s
  said inside (t.if_else x s u) = mentions x ++ (said inside s ++ said inside u)
  said inside (t.while_do x s) = mentions x ++ said true s
  said inside (t.do_while s x) = said true s ++ mentions x
  said inside (t.for_each p k a s) = Scalar k ∷ (Array a ∷ said true s)
  said inside (t.for_loop x y z s) = optional x ++ (optional y ++ (optional z ++ said true s))

  pub each_said : Bool → Statements → List Mention
  each_said inside t.no_more = []
  each_said inside (t.then_also x xs) = said inside x ++ each_said inside xs

-- what the statements of an item say, which stand in no loop
abbrev pub all_said : List Statement → List Mention
all_said xs = each_said false (statements_of xs)

-- ---- items

abbrev pub conditions : Condition → List Mention
conditions (t.single x) = mentions x
conditions (t.range x y) = mentions x ++ mentions y

-- an item of a script, as its role and what it says
abbrev pub part : Entry → Section
part (t.at_begin xs) = record { role = role.Begin; mentions = all_said xs }
part (t.at_end xs) = record { role = role.End; mentions = all_said xs }
part (t.always xs) = record { role = role.Rule; mentions = all_said xs }
part (t.shown c) = record { role = role.Rule; mentions = conditions c }
part (t.rule c xs) = record { role = role.Rule; mentions = conditions c ++ all_said xs }
part (t.function f ps xs) = record { role = role.Function f ps; mentions = all_said xs }
