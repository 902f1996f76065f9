-- The canonical spelling of a tree, and the tree without places.
use Rattle.std.specs.Prelude.{Bool, true, false, if◌then◌else◌, List, [], ◌∷◌, ◌++◌, map, Option, Some, None}
use Rattle.std.specs.Prelude.{option_map, codes}
use Rattle.std.specs.List.{flat_map}
use Rattle.awk_tokens.specs.Words.{builtin_text, jump_text}
use Rattle.awk_tokens.specs.declared.token.Token.{Token}
use Rattle.awk_tokens.specs.declared.kinds.TokenKind.TheVariants as kind
use Rattle.awk_tokens.specs.declared.words.Builtin.TheVariants as b
use Rattle.awk_tree.specs.declared.names.Name.{Name}
use Rattle.awk_tree.specs.declared.names.Member.{Member}
use Rattle.awk_tree.specs.declared.operators.Arithmetic.{Arithmetic}
use Rattle.awk_tree.specs.declared.operators.Arithmetic.TheVariants as arithmetic
use Rattle.awk_tree.specs.declared.operators.Comparison.{Comparison}
use Rattle.awk_tree.specs.declared.operators.Comparison.TheVariants as c
use Rattle.awk_tree.specs.declared.operators.Redirect.{Redirect}
use Rattle.awk_tree.specs.declared.operators.Redirect.TheVariants as to
use Rattle.awk_tree.specs.declared.operators.Sign.{Sign}
use Rattle.awk_tree.specs.declared.operators.Sign.TheVariants as prefix
use Rattle.awk_tree.specs.declared.statements.Printed.{Printed}
use Rattle.awk_tree.specs.declared.statements.Redirection.{Redirection}
use Rattle.awk_tree.specs.Tree as t
use Rattle.awk_tree.specs.Tree.{Text, Tree, Trees, none, more, Perhaps, absent, present, Terms, no_terms, term, Pipes}
use Rattle.awk_tree.specs.Tree.{no_pipes, piped, Statement, Statements, no_more, then_also, Condition, Entry}
use Rattle.awk_tree.specs.Terminals.{assignment_text, step_text, substituting, nowhere, token, sign, keyword}

-- ---- how operators are spelled

abbrev pub arithmetic_text : Arithmetic → Text
arithmetic_text arithmetic.Add = codes "+"
arithmetic_text arithmetic.Subtract = codes "-"
arithmetic_text arithmetic.Multiply = codes "*"
arithmetic_text arithmetic.Divide = codes "/"
arithmetic_text arithmetic.Remainder = codes "%"

abbrev pub prefix_text : Sign → Text
prefix_text prefix.Not = codes "!"
prefix_text prefix.Plus = codes "+"
prefix_text prefix.Minus = codes "-"

abbrev pub comparison_text : Comparison → Text
comparison_text c.Less = codes "<"
comparison_text c.LessOrEqual = codes "<="
comparison_text c.Equal = codes "=="
comparison_text c.NotEqual = codes "!="
comparison_text c.Greater = codes ">"
comparison_text c.GreaterOrEqual = codes ">="

abbrev pub match_text : Bool → Text
match_text unlike = if unlike then codes "!~" else codes "~"

abbrev pub redirect_text : Redirect → Text
redirect_text to.Write = codes ">"
redirect_text to.Append = codes ">>"
redirect_text to.Command = codes "|"

abbrev pub word : Name → Token
word n = token kind.Name n.text

abbrev pub builtin_word : Text → Token
builtin_word text = token kind.Builtin text

-- { in NAME }
abbrev pub canon_members : List Member → List Token
canon_members [] = []
canon_members (m ∷ ms) = keyword (codes "in") ∷ word m.array ∷ canon_members ms

-- ---- expressions

abbrev mutual
  pub canon : Tree → List Token
  canon (t.number p x) = token kind.Number x ∷ []
  canon (t.quoted p x) = token kind.Quoted x ∷ []
  canon (t.pattern p x) = token kind.Pattern x ∷ []
  canon (t.name n) = word n ∷ []
  canon (t.element n xs) = word n ∷ sign (codes "[") ∷ canon_list xs ++ sign (codes "]") ∷ []
  canon (t.field p x) = sign (codes "$") ∷ canon x
  canon (t.paren p x) = sign (codes "(") ∷ canon x ++ sign (codes ")") ∷ []
  canon (t.call n xs) = token kind.CallName n.text ∷ sign (codes "(") ∷ canon_list xs ++ sign (codes ")") ∷ []
  canon (t.builtin p which xs) =
      builtin_word (builtin_text which) ∷ sign (codes "(") ∷ canon_list xs ++ sign (codes ")") ∷ []
  canon (t.bare_length p) = builtin_word (builtin_text b.Length) ∷ []
  canon (t.split p x n y) = builtin_word (builtin_text b.Split) ∷ sign (codes "(") ∷ canon x ++ sign (codes ",")
      ∷ word n ∷ canon_comma y ++ sign (codes ")") ∷ []
  canon (t.substitute p all x y z) = builtin_word (builtin_text (substituting all)) ∷ sign (codes "(") ∷ canon x
      ++ sign (codes ",") ∷ canon y ++ canon_comma z ++ sign (codes ")") ∷ []
  canon (t.getline p x y) = keyword (codes "getline") ∷ canon_target x ++ canon_file y
  canon (t.before p which x) = sign (step_text which) ∷ canon x
  canon (t.after x p which) = canon x ++ sign (step_text which) ∷ []
  canon (t.signed p which x) = sign (prefix_text which) ∷ canon x
  canon (t.power x p y) = canon x ++ sign (codes "^") ∷ canon y
  canon (t.product x xs) = canon x ++ canon_terms xs
  canon (t.sum x xs) = canon x ++ canon_terms xs
  canon (t.concat x xs) = canon x ++ canon_parts xs
  canon (t.pipe x xs) = canon x ++ canon_pipes xs
  canon (t.compare x p how y) = canon x ++ sign (comparison_text how) ∷ canon y
  canon (t.matched x p unlike y) = canon x ++ sign (match_text unlike) ∷ canon y
  canon (t.group p xs ms) = sign (codes "(") ∷ canon_list xs ++ sign (codes ")") ∷ canon_members ms
  canon (t.member x ms) = canon x ++ canon_members ms
  canon (t.and x xs) = canon x ++ canon_ands xs
  canon (t.or x xs) = canon x ++ canon_ors xs
  canon (t.choose x y z) = canon x ++ sign (codes "?") ∷ canon y ++ sign (codes ":") ∷ canon z
  canon (t.assign x p how y) = canon x ++ sign (assignment_text how) ∷ canon y

  -- with commas between
  pub canon_list : Trees → List Token
  canon_list none = []
  canon_list (more x xs) = canon x ++ canon_commas xs

  -- with a comma before each
  pub canon_commas : Trees → List Token
  canon_commas none = []
  canon_commas (more x xs) = sign (codes ",") ∷ canon x ++ canon_commas xs

  pub canon_comma : Perhaps → List Token
  canon_comma absent = []
  canon_comma (present x) = sign (codes ",") ∷ canon x

  pub canon_target : Perhaps → List Token
  canon_target absent = []
  canon_target (present x) = canon x

  pub canon_file : Perhaps → List Token
  canon_file absent = []
  canon_file (present x) = sign (codes "<") ∷ canon x

  pub canon_parts : Trees → List Token
  canon_parts none = []
  canon_parts (more x xs) = canon x ++ canon_parts xs

  pub canon_ands : Trees → List Token
  canon_ands none = []
  canon_ands (more x xs) = sign (codes "&&") ∷ canon x ++ canon_ands xs

  pub canon_ors : Trees → List Token
  canon_ors none = []
  canon_ors (more x xs) = sign (codes "||") ∷ canon x ++ canon_ors xs

  pub canon_terms : Terms → List Token
  canon_terms no_terms = []
  canon_terms (term how p x xs) = sign (arithmetic_text how) ∷ canon x ++ canon_terms xs

  pub canon_pipes : Pipes → List Token
  canon_pipes no_pipes = []
  canon_pipes (piped p x xs) = sign (codes "|") ∷ keyword (codes "getline") ∷ canon_target x ++ canon_pipes xs

-- ---- statements

abbrev pub canon_items : List Tree → List Token
canon_items xs = canon_list (t.trees_of xs)

abbrev pub canon_perhaps : Option Tree → List Token
canon_perhaps x = canon_target (t.perhaps_of x)

abbrev pub canon_printed : Printed Tree → List Token
canon_printed x =
    if x.is_grouped then sign (codes "(") ∷ canon_items x.items ++ sign (codes ")") ∷ [] else canon_items x.items

abbrev pub canon_redirection : Option (Redirection Tree) → List Token
canon_redirection None = []
canon_redirection (Some r) = sign (redirect_text r.how) ∷ canon r.target

abbrev pub end : List Token
end = sign (codes ";") ∷ []

-- word ( expr )
abbrev pub canon_test : Text → Tree → List Token
canon_test text x = keyword text ∷ sign (codes "(") ∷ canon x ++ sign (codes ")") ∷ []

abbrev mutual
  pub canon_statement : Statement → List Token
  canon_statement t.empty = end
  canon_statement (t.plain x) = canon x ++ end
  canon_statement (t.print p xs r) = keyword (codes "print") ∷ canon_printed xs ++ canon_redirection r ++ end
  canon_statement (t.printf p xs r) = keyword (codes "printf") ∷ canon_printed xs ++ canon_redirection r ++ end
  canon_statement (t.delete n xs) =
      keyword (codes "delete") ∷ word n ∷ sign (codes "[") ∷ canon_items xs ++ sign (codes "]") ∷ end
  canon_statement (t.delete_all n) = keyword (codes "delete") ∷ word n ∷ end
  canon_statement (t.jump p which) = keyword (jump_text which) ∷ end
  canon_statement (t.exit p x) = keyword (codes "exit") ∷ canon_perhaps x ++ end
  canon_statement (t.return p x) = keyword (codes "return") ∷ canon_perhaps x ++ end
  canon_statement (t.block xs) = sign (codes "{") ∷ canon_statements xs ++ sign (codes "}") ∷ []
  canon_statement (t.if_then x s) = canon_test (codes "if") x ++ canon_statement s
  canon_statement (t.if_else x s u) =
      canon_test (codes "if") x ++ canon_statement s ++ keyword (codes "else") ∷ canon_statement u
  canon_statement (t.while_do x s) = canon_test (codes "while") x ++ canon_statement s
  canon_statement (t.do_while s x) = keyword (codes "do") ∷ canon_statement s ++ canon_test (codes "while") x ++ end
  canon_statement (t.for_each p key array s) = keyword (codes "for") ∷ sign (codes "(") ∷ word key
      ∷ keyword (codes "in") ∷ word array ∷ sign (codes ")") ∷ canon_statement s
  canon_statement (t.for_loop x y z s) = keyword (codes "for") ∷ sign (codes "(") ∷ canon_perhaps x ++ end
      ++ canon_perhaps y ++ end ++ canon_perhaps z ++ sign (codes ")") ∷ canon_statement s

  pub canon_statements : Statements → List Token
  canon_statements no_more = []
  canon_statements (then_also x xs) = canon_statement x ++ canon_statements xs

-- ---- items

abbrev pub canon_action : List Statement → List Token
canon_action xs = sign (codes "{") ∷ canon_statements (t.statements_of xs) ++ sign (codes "}") ∷ []

abbrev pub canon_condition : Condition → List Token
canon_condition (t.single x) = canon x
canon_condition (t.range x y) = canon x ++ sign (codes ",") ∷ canon y

abbrev pub canon_names : List Name → List Token
canon_names [] = []
canon_names (n ∷ ns) = sign (codes ",") ∷ word n ∷ canon_names ns

abbrev pub canon_params : List Name → List Token
canon_params [] = []
canon_params (n ∷ ns) = word n ∷ canon_names ns

abbrev pub line_end : List Token
line_end = sign (10 ∷ []) ∷ []

abbrev pub canon_entry : Entry → List Token
canon_entry (t.at_begin xs) = keyword (codes "BEGIN") ∷ canon_action xs ++ line_end
canon_entry (t.at_end xs) = keyword (codes "END") ∷ canon_action xs ++ line_end
canon_entry (t.always xs) = canon_action xs ++ line_end
canon_entry (t.shown c) = canon_condition c ++ line_end
canon_entry (t.rule c xs) = canon_condition c ++ canon_action xs ++ line_end
canon_entry (t.function f ps xs) = keyword (codes "function") ∷ word f ∷ sign (codes "(") ∷ canon_params ps
    ++ sign (codes ")") ∷ canon_action xs ++ line_end

-- a whole script
unfoldable pub canon_script : List Entry → List Token
canon_script items = flat_map canon_entry items

-- ---- trees without places

abbrev pub bare_name : Name → Name
bare_name n = record n { place = nowhere }

abbrev pub bare_member : Member → Member
bare_member m = record { place = nowhere; array = bare_name m.array }

abbrev mutual
  pub bare : Tree → Tree
  bare (t.number p x) = t.number nowhere x
  bare (t.quoted p x) = t.quoted nowhere x
  bare (t.pattern p x) = t.pattern nowhere x
  bare (t.name n) = t.name (bare_name n)
  bare (t.element n xs) = t.element (bare_name n) (bare_all xs)
  bare (t.field p x) = t.field nowhere (bare x)
  bare (t.paren p x) = t.paren nowhere (bare x)
  bare (t.call n xs) = t.call (bare_name n) (bare_all xs)
  bare (t.builtin p which xs) = t.builtin nowhere which (bare_all xs)
  bare (t.bare_length p) = t.bare_length nowhere
  bare (t.split p x n y) = t.split nowhere (bare x) (bare_name n) (bare_perhaps y)
  bare (t.substitute p all x y z) = t.substitute nowhere all (bare x) (bare y) (bare_perhaps z)
  bare (t.getline p x y) = t.getline nowhere (bare_perhaps x) (bare_perhaps y)
  bare (t.before p which x) = t.before nowhere which (bare x)
  bare (t.after x p which) = t.after (bare x) nowhere which
  bare (t.signed p which x) = t.signed nowhere which (bare x)
  bare (t.power x p y) = t.power (bare x) nowhere (bare y)
  bare (t.product x xs) = t.product (bare x) (bare_terms xs)
  bare (t.sum x xs) = t.sum (bare x) (bare_terms xs)
  bare (t.concat x xs) = t.concat (bare x) (bare_all xs)
  bare (t.pipe x xs) = t.pipe (bare x) (bare_pipes xs)
  bare (t.compare x p how y) = t.compare (bare x) nowhere how (bare y)
  bare (t.matched x p unlike y) = t.matched (bare x) nowhere unlike (bare y)
  bare (t.group p xs ms) = t.group nowhere (bare_all xs) (map bare_member ms)
  bare (t.member x ms) = t.member (bare x) (map bare_member ms)
  bare (t.and x xs) = t.and (bare x) (bare_all xs)
  bare (t.or x xs) = t.or (bare x) (bare_all xs)
  bare (t.choose x y z) = t.choose (bare x) (bare y) (bare z)
  bare (t.assign x p how y) = t.assign (bare x) nowhere how (bare y)

  pub bare_all : Trees → Trees
  bare_all none = none
  bare_all (more x xs) = more (bare x) (bare_all xs)

  pub bare_perhaps : Perhaps → Perhaps
  bare_perhaps absent = absent
  bare_perhaps (present x) = present (bare x)

  pub bare_terms : Terms → Terms
  bare_terms no_terms = no_terms
  bare_terms (term how p x xs) = term how nowhere (bare x) (bare_terms xs)

  pub bare_pipes : Pipes → Pipes
  bare_pipes no_pipes = no_pipes
  bare_pipes (piped p x xs) = piped nowhere (bare_perhaps x) (bare_pipes xs)

abbrev pub bare_printed : Printed Tree → Printed Tree
bare_printed x = record x { items = map bare x.items }

abbrev pub bare_redirection : Redirection Tree → Redirection Tree
bare_redirection r = record r { place = nowhere; target = bare r.target }

abbrev mutual
  pub bare_statement : Statement → Statement
  bare_statement t.empty = t.empty
  bare_statement (t.plain x) = t.plain (bare x)
  bare_statement (t.print p xs r) = t.print nowhere (bare_printed xs) (option_map bare_redirection r)
  bare_statement (t.printf p xs r) = t.printf nowhere (bare_printed xs) (option_map bare_redirection r)
  bare_statement (t.delete n xs) = t.delete (bare_name n) (map bare xs)
  bare_statement (t.delete_all n) = t.delete_all (bare_name n)
  bare_statement (t.jump p which) = t.jump nowhere which
  bare_statement (t.exit p x) = t.exit nowhere (option_map bare x)
  bare_statement (t.return p x) = t.return nowhere (option_map bare x)
  bare_statement (t.block xs) = t.block (bare_statements xs)
  bare_statement (t.if_then x s) = t.if_then (bare x) (bare_statement s)
  bare_statement (t.if_else x s u) = t.if_else (bare x) (bare_statement s) (bare_statement u)
  bare_statement (t.while_do x s) = t.while_do (bare x) (bare_statement s)
  bare_statement (t.do_while s x) = t.do_while (bare_statement s) (bare x)
  bare_statement (t.for_each p key array s) = t.for_each nowhere (bare_name key) (bare_name array) (bare_statement s)
  bare_statement (t.for_loop x y z s) =
      t.for_loop (option_map bare x) (option_map bare y) (option_map bare z) (bare_statement s)

  pub bare_statements : Statements → Statements
  bare_statements no_more = no_more
  bare_statements (then_also x xs) = then_also (bare_statement x) (bare_statements xs)

abbrev pub bare_condition : Condition → Condition
bare_condition (t.single x) = t.single (bare x)
bare_condition (t.range x y) = t.range (bare x) (bare y)

abbrev pub bare_entry : Entry → Entry
bare_entry (t.at_begin xs) = t.at_begin (map bare_statement xs)
bare_entry (t.at_end xs) = t.at_end (map bare_statement xs)
bare_entry (t.always xs) = t.always (map bare_statement xs)
bare_entry (t.shown c) = t.shown (bare_condition c)
bare_entry (t.rule c xs) = t.rule (bare_condition c) (map bare_statement xs)
bare_entry (t.function f ps xs) = t.function (bare_name f) (map bare_name ps) (map bare_statement xs)
