-- The program that the expressions of a script stand for: names for what they stand for, constants made,
-- parentheses gone, and one form for each thing that can be said (POSIX.1-2017 XCU awk, "Expressions in awk"):
--
--   ( x )                          x                       x !~ y                        ! (x ~ y)
--   an ERE by itself               $0 ~ that ERE           length, without parentheses   length($0)
--   getline, without a target      getline $0              sub(x, y), gsub(x, y)         sub(x, y, $0), gsub(x, y, $0)
--   split(x, a)                    split(x, a, FS)         x + y - z                     one chain, and so are * / %,
--   && and ||
--   fflush()                       0                       length(a)                     the count of the array a
--   length()                       length($0)
--
-- Where a text is wanted of an operand, Texts says how it is marked.
use Rattle.std.specs.Prelude.{Bool, true, false, if◌then◌else◌, List, [], ◌∷◌, map, get_or, codes, Option, Some}
use Rattle.std.specs.Prelude.{None}
use Rattle.awk_text.specs.Escapes.{unescaped}
use Rattle.awk_text.specs.declared.place.Place.{Place}
use Rattle.awk_tree.specs.Tree as t
use Rattle.awk_tree.specs.Tree.{Text, Tree, Trees, Perhaps}
use Rattle.awk_tree.specs.declared.names.Name.{Name}
use Rattle.awk_tree.specs.declared.names.Member.{Member}
use Rattle.awk_tokens.specs.declared.words.Builtin.{Builtin}
use Rattle.awk_tokens.specs.declared.words.Builtin.TheVariants as b
use Rattle.awk_resolve.specs.Mentions.{bare, alone}
use Rattle.awk_program.specs.declared.builtins.Builtin as running
use Rattle.awk_program.specs.declared.builtins.Builtin.TheVariants as f
use Rattle.awk_program.specs.declared.operators.Operator.TheVariants as o
use Rattle.awk_program.specs.declared.operators.StepValue.TheVariants as taken
use Rattle.awk_program.specs.Program as p
use Rattle.awk_program.specs.Program.{Variable, Expression, Reference, Ere, Expressions, Joins, Arguments}
use Rattle.awk_lowering.specs.Forms.{number_of, whole_record, unwritten, unwritten_target, operator_of, comparison_of}
use Rattle.awk_lowering.specs.Forms.{step_of, extent_of, signed_of, assigned, negated, plain_builtin, without_arguments}
use Rattle.awk_lowering.specs.Forms.{called}
use Rattle.awk_lowering.specs.Scopes.{Scope, variable, function, arrays_of, is_array}
use Rattle.awk_lowering.specs.Starts.{start}
use Rattle.awk_lowering.specs.Texts.{textual, textuals, first_textuals, texts_wanted}

-- the arrays behind `in`
abbrev pub array_in : Scope → Member → Variable
array_in c x = variable c x.array.text

abbrev pub arrays_in : Scope → List Member → List Variable
arrays_in c xs = map (array_in c) xs

-- the place of the first `in`
abbrev pub first_in : Place → List Member → Place
first_in q [] = q
first_in q (x ∷ xs) = x.place

-- an ERE by itself
abbrev pub constant : Tree → Option (Place × Text)
constant (t.pattern q x) = Some (q, x)
constant x = None

-- what stands where a pattern is wanted: an ERE by itself is the pattern, anything else the text of one
abbrev pub ere_of : Option (Place × Text) → Expression → Ere
ere_of (Some e) x = p.constant e.0 e.1
ere_of None x = p.computed x

-- What is handed to a function: to a parameter that is an array the array of that name, to any other a value. An
-- array that is handed to another one passes nothing: its function never reads it.
abbrev pub value_unless : Bool → Expression → Arguments → Arguments
value_unless false x rest = p.by_value x rest
value_unless true x rest = p.by_nothing rest

abbrev pub argument : Scope → Bool → Option Name → Expression → Arguments → Arguments
argument c takes_array None x rest = p.by_value x rest
argument c true (Some n) x rest = p.by_name (variable c n.text) rest
argument c false (Some n) x rest = value_unless (is_array c n.text) x rest

-- whether the next parameter is an array, and the parameters behind it
abbrev pub takes_array : List Bool → Bool
takes_array are = get_or are 0 false

abbrev pub later : List Bool → List Bool
later [] = []
later (b ∷ bs) = bs

-- ---- built-in functions, of arguments whose programs are there

-- `match ( text , pattern )`
abbrev pub located : Place → Trees → Expressions → Expression
located q (t.more x (t.more y t.none)) (p.more u (p.more v p.none)) = p.locate q u (ere_of (constant y) v)
located q xs us = unwritten

-- the array that a name is
abbrev pub array_among : Scope → Option Name → Option Name
array_among c None = None
array_among c (Some n) = if is_array c n.text then Some n else None

-- the array whose elements `length ( array )` counts
abbrev pub counted : Scope → running.Builtin → Trees → Option Name
counted c f.Length xs = array_among c (alone xs)
counted c which xs = None

abbrev pub count_or : Scope → Option Name → Expression → Expression
count_or c None x = x
count_or c (Some n) x = p.count (variable c n.text)

abbrev pub plain : Scope → Place → Option running.Builtin → Trees → Expressions → Expression
plain c q (Some which) xs us = count_or c (counted c which xs)
    (called q which (first_textuals c.numbers q (texts_wanted which) us))
-- sub, gsub and split have forms of their own
plain c q None xs us = unwritten

abbrev pub built : Scope → Place → Builtin → Trees → Expressions → Expression
built c q b.Match xs us = located q xs (textuals c.numbers q us)
built c q which xs us = plain c q (plain_builtin which) xs us

-- a getline of the main input, or of a file
abbrev pub got_by : Place → Reference → Option Expression → Expression
got_by q r None = p.getline q r
got_by q r (Some x) = p.getline_file q r x

-- `NAME [ list ]`
abbrev pub element_by : Scope → Name → Expressions → Reference
element_by c n xs = p.element n.place (variable c n.text) (textuals c.numbers n.place xs)

-- ---- expressions

abbrev mutual
  pub lowered : Scope → Tree → Expression
  lowered c (t.number q x) = p.number (number_of c.numbers x)
  lowered c (t.quoted q x) = p.text (unescaped x)
  lowered c (t.pattern q x) = p.pattern q x
  lowered c (t.name n) = p.read (p.variable (variable c n.text))
  lowered c (t.element n xs) = p.read (element_by c n (lowered_list c xs))
  lowered c (t.field q x) = p.read (p.field q (lowered c x))
  lowered c (t.paren q x) = lowered c x
  lowered c (t.call n xs) = p.call n.place (function c n.text) (arguments c (arrays_of c n.text) xs)
  lowered c (t.builtin q which xs) = built c q which xs (lowered_list c xs)
  lowered c (t.bare_length q) = without_arguments q f.Length
  lowered c (t.split q x n y) =
      p.split q (textual c.numbers q (lowered c x)) n.place (variable c n.text) (separator c q y)
  lowered c (t.substitute q all x y z) =
      p.substitute q (extent_of all) (ere_of (constant x) (textual c.numbers q (lowered c x)))
      (textual c.numbers q (lowered c y)) (target_or_record c q z)
  lowered c (t.getline q x y) = got_by q (target_or_record c q x) (file c q y)
  lowered c (t.before q how x) = p.step q (step_of how) taken.Behind (target c x)
  lowered c (t.after x q how) = p.step q (step_of how) taken.Before (target c x)
  lowered c (t.signed q how x) = signed_of q how (lowered c x)
  lowered c (t.power x q y) = p.chain (lowered c x) (p.term o.Power q (lowered c y) p.no_terms)
  lowered c (t.product x xs) = p.chain (lowered c x) (lowered_terms c xs)
  lowered c (t.sum x xs) = p.chain (lowered c x) (lowered_terms c xs)
  lowered c (t.concat x xs) = p.concat (textual c.numbers (start x) (lowered c x)) (lowered_joins c xs)
  lowered c (t.pipe x xs) = p.pipe (textual c.numbers (start x) (lowered c x)) (lowered_pipes c xs)
  lowered c (t.compare x q how y) = p.compare q (comparison_of how) (lowered c x) (lowered c y)
  lowered c (t.matched x q unlike y) = negated unlike
      (p.matched q (textual c.numbers q (lowered c x)) (ere_of (constant y) (textual c.numbers q (lowered c y))))
  lowered c (t.group q xs ms) =
      p.group (first_in q ms) (textuals c.numbers (first_in q ms) (lowered_list c xs)) (arrays_in c ms)
  lowered c (t.member x ms) = p.member (textual c.numbers (first_in (start x) ms) (lowered c x)) (arrays_in c ms)
  lowered c (t.and x xs) = p.and (lowered c x) (lowered_list c xs)
  lowered c (t.or x xs) = p.or (lowered c x) (lowered_list c xs)
  lowered c (t.choose x y z) = p.choose (lowered c x) (lowered c y) (lowered c z)
  lowered c (t.assign x q how y) = assigned q how (target c x) (lowered c y)

  -- what is set: the grammar puts nothing but these three before `=` and beside `++`
  pub target : Scope → Tree → Reference
  target c (t.name n) = p.variable (variable c n.text)
  target c (t.element n xs) = element_by c n (lowered_list c xs)
  target c (t.field q x) = p.field q (lowered c x)
  target c x = unwritten_target

  -- what is set, or the whole record where nothing is named
  pub target_or_record : Scope → Place → Perhaps → Reference
  target_or_record c q t.absent = whole_record q
  target_or_record c q (t.present x) = target c x

  -- split by FS where no separator is named
  pub separator : Scope → Place → Perhaps → Ere
  separator c q t.absent = p.computed (p.read (p.variable (p.global (codes "FS"))))
  separator c q (t.present x) = ere_of (constant x) (textual c.numbers q (lowered c x))

  pub file : Scope → Place → Perhaps → Option Expression
  file c q t.absent = None
  file c q (t.present x) = Some (textual c.numbers q (lowered c x))

  pub lowered_list : Scope → Trees → Expressions
  lowered_list c t.none = p.none
  lowered_list c (t.more x xs) = p.more (lowered c x) (lowered_list c xs)

  pub lowered_terms : Scope → t.Terms → p.Terms
  lowered_terms c t.no_terms = p.no_terms
  lowered_terms c (t.term how q x xs) = p.term (operator_of how) q (lowered c x) (lowered_terms c xs)

  pub lowered_joins : Scope → Trees → Joins
  lowered_joins c t.none = p.no_joins
  lowered_joins c (t.more x xs) = p.join (start x) (textual c.numbers (start x) (lowered c x)) (lowered_joins c xs)

  pub lowered_pipes : Scope → t.Pipes → p.Pipes
  lowered_pipes c t.no_pipes = p.no_pipes
  lowered_pipes c (t.piped q x xs) = p.piped q (target_or_record c q x) (lowered_pipes c xs)

  -- the arguments for parameters of which these are arrays
  pub arguments : Scope → List Bool → Trees → Arguments
  arguments c are t.none = p.no_arguments
  arguments c are (t.more x xs) = argument c (takes_array are) (bare x) (lowered c x) (arguments c (later are) xs)

-- ---- the same in parts

-- an expression whose text the form at this place wants
abbrev pub lowered_text : Scope → Place → Tree → Expression
lowered_text c q x = textual c.numbers q (lowered c x)

abbrev pub ere : Scope → Place → Tree → Ere
ere c q x = ere_of (constant x) (lowered_text c q x)

abbrev pub element : Scope → Name → Trees → Reference
element c n xs = element_by c n (lowered_list c xs)

abbrev pub call : Scope → Name → Trees → Expression
call c n xs = p.call n.place (function c n.text) (arguments c (arrays_of c n.text) xs)

abbrev pub divided : Scope → Place → Tree → Name → Perhaps → Expression
divided c q x n y = p.split q (lowered_text c q x) n.place (variable c n.text) (separator c q y)

abbrev pub got : Scope → Place → Perhaps → Perhaps → Expression
got c q x y = got_by q (target_or_record c q x) (file c q y)
