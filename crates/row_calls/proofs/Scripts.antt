-- For the rows of the definition: scripts as texts, read and parsed by computing.
use Rattle.std.specs.Prelude.{Bool, true, false, ◌&&◌, map, ℕ, zero, suc, List, [], ◌∷◌, ◌++◌, take, drop, length}
use Rattle.std.specs.Prelude.{Option, Some, None, Result, Ok, Err}
use Rattle.std.specs.List.{filter, list_any}
use Rattle.std.specs.Str.{bytes_eq}
use Rattle.awk_numbers.specs.declared.number.Numbers.TheVariants.{Whole}
use Rattle.awk_tokens.specs.declared.token.Token.{Token}
use Rattle.awk_tokens.specs.Reads.{operand_after, token_of}
use Rattle.std.specs.Fmt as fmt
use Rattle.awk_text.specs.Escapes as escapes
use Rattle.awk_text.specs.Quoted as quoted
use Rattle.awk_tokens.specs.Scan as scan
use Rattle.awk_tokens.specs.Signs as signs
use Rattle.awk_ere.specs.Token as ere_token
use Rattle.awk_ere.specs.Bracket as bracket
use Rattle.awk_ere.specs.Escape as escape
use Rattle.awk_tokens.specs.Scan.{Scanned}
use Rattle.awk_tree.specs.Input as input
use Rattle.awk_tree.specs.Terminals as word
use Rattle.awk_tree.specs.Expressions as ex
use Rattle.awk_tree.specs.Statements as st
use Rattle.awk_tree.specs.Tree as t
use Rattle.awk_tree.specs.Tree.{Text, Entry}
use Rattle.awk_resolve.specs.Kinds as kinds
use Rattle.awk_program.specs.Program.{Program}
use Rattle.awk_lowering.specs.Programs.{program}
use Rattle.awk_resolve.specs.Tables.{Tables}

-- ---- tokens

abbrev pub Reading : Type 0
Reading = Text → Text → List Token → Option (List Token)

abbrev pub taken : Reading → Text → Text → List Token → Scanned → Option (List Token)
taken go front rest ts (Err code) = None
taken go front rest ts (Ok found) = go (front ++ take found.1 rest) (drop found.1 rest)
    (ts ++ token_of front found.0 (take found.1 rest) ∷ [])

abbrev pub by_gap : Reading → ℕ → Text → Text → List Token → Option (List Token)
by_gap go zero front rest ts = taken go front rest ts (scan.first_token Whole (operand_after ts) rest)
by_gap go (suc n) front rest ts = go (front ++ take (suc n) rest) (drop (suc n) rest) ts

abbrev pub read : ℕ → Reading
read n front [] ts = Some ts
read zero front (b ∷ rest) ts = None
read (suc n) front (b ∷ rest) ts = by_gap (read n) (scan.gap_len (b ∷ rest)) front (b ∷ rest) ts

-- ---- items

-- a line `unfolding rules` opens the readers and the rules of the grammar
unfoldable pub rules : ℕ
unfolding fmt.digits escapes.escaped_byte escapes.one_byte escapes.escape_of quoted.quoted_byte signs.sign_len
    ere_token.sign ere_token.lead bracket.class_ranges bracket.class bracket.point bracket.range_from escape.escape
    scan.gap_len scan.class_len scan.begins_number scan.number scan.word scan.sign scan.first_token input.any input.one
    input.exactly input.many_from word.terminal_of ex.in_name ex.in_names ex.in_rest ex.next_in_list ex.commas ex.list
    ex.perhaps_next ex.list_or_none ex.arguments ex.named ex.field_of ex.lvalue ex.target ex.source ex.getline
    ex.of_none ex.one_argument ex.of_one ex.of_two ex.last_next ex.of_two_or_three ex.of_list ex.one_or_none
    ex.of_one_or_none ex.length_of ex.split_of ex.perhaps_lvalue ex.last_lvalue ex.substitute_of ex.builtin ex.in_paren
    ex.call_of ex.prim
    ex.step_before ex.signed_by ex.operand ex.step_after ex.inc ex.power_rest ex.unary ex.factor ex.factors
    ex.product_rest ex.addend ex.addends ex.sum_rest ex.part ex.parts ex.concat_rest ex.cat ex.one_pipe ex.pipes
    ex.pipe_rest ex.pipe ex.compare_rest ex.cmp ex.match_rest ex.unary_rest ex.from_paren ex.isin ex.assigned
    ex.conjunct ex.next_conjunct ex.conjuncts ex.and_rest ex.next_disjunct ex.disjuncts ex.or_rest ex.then_branch
    ex.choose_rest ex.expr_rest ex.expression ex.expr st.until_from st.ended st.perhaps_here st.next_printed
    st.more_printed st.printed_rest st.printed_from st.printed_paren st.printed st.printed_or_none st.redirection
    st.print st.printf st.delete st.simple st.condition st.perhaps_until st.else_rest st.if_of st.while_of st.do_of
    st.loop_rest st.each_rest st.for_rest st.for_of st.statement_here st.statements st.braces st.statement st.action
    st.whole_expr st.pattern st.shown st.rule_of st.next_param st.more_params st.params st.function_name st.function_of
    st.item st.script
rules = 0

abbrev pub parsed : {E : Type 0} → Result (List Entry × List Token) E → List Entry
parsed (Ok p) = p.0
parsed (Err fault) = []

abbrev pub items_of : Option (List Token) → List Entry
items_of None = []
items_of (Some ts) = parsed (st.script ts)

-- ---- programs. Each word is taken for a variable and for an array, since no row is of what has none. As what `length`
-- measures it is a variable, unless a row says that it is an array.

-- arrays by the function that they are parameters of; those of the whole script have none
abbrev Arrays : Type 0
Arrays = List (Text × Text)

abbrev of_script : Arrays → List Text
of_script pairs = map (λ p. p.1) (filter (λ p. bytes_eq p.0 []) pairs)

abbrev pub tokens_of : Option (List Token) → List Token
tokens_of None = []
tokens_of (Some ts) = ts

abbrev words : List Token → List Text
words ts = kinds.scalars ++ kinds.arrays ++ map (λ t. t.text) ts

-- the functions, and of each parameter whether it is an array
abbrev functions : List Entry → List Text
functions [] = []
functions (t.function f ps xs ∷ es) = f.text ∷ functions es
functions (e ∷ es) = functions es

abbrev flags : Arrays → List Entry → List (List Bool)
flags pairs [] = []
flags pairs (t.function f ps xs ∷ es) = map (λ q. list_any (λ p. bytes_eq p.0 f.text && bytes_eq p.1 q.text) pairs) ps ∷
    flags pairs es
flags pairs (e ∷ es) = flags pairs es

abbrev tables : Arrays → List Token → List Entry → Tables
tables pairs ts es = record {
  variables = of_script pairs ++ words ts ++ words ts;
  script_arrays = map (λ x. true) (of_script pairs) ++ map (λ x. false) (words ts) ++ map (λ x. true) (words ts);
  functions = functions es;
  arrays = flags pairs es;
}

abbrev program_by : Arrays → List Token → List Entry → Program
program_by pairs ts es = program Whole (tables pairs ts es) es

abbrev pub program_of : Arrays → Text → Program
program_of pairs source = let ts = read (length source) [] source [] in program_by pairs (tokens_of ts) (items_of ts)
