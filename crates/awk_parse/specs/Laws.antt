-- The laws that the functions of this crate state.
use Rattle.std.specs.Prelude.{◌≡◌, ℕ, Bool, List, [], ◌++◌, map, Ok}
use Rattle.awk_numbers.specs.declared.number.Numbers.TheVariants.{Whole, Double}
use Rattle.awk_tokens.specs.Reads.{Reads}
use Rattle.awk_tokens.specs.declared.token.Token.{Token}
use Rattle.awk_tokens.specs.declared.terminals.Terminal.TheVariants as w
use Rattle.awk_tree.specs.Terminals.{ahead}
use Rattle.awk_tree.specs.Tree.{Tree, Statement, Entry}
use Rattle.awk_tree.specs.Expressions.{expression, expr}
use Rattle.awk_tree.specs.Statements.{simple, script}
use Rattle.awk_tree.specs.Canon.{canon, bare, canon_statement, bare_statement, end, canon_script, bare_entry}
use Rattle.awk_parse.specs.Rules as rule
use Rattle.awk_parse.specs.Spells.{Spells}
use Rattle.awk_parse.specs.SpellsScripts.{Simple, SpellsScript}

-- what is read as an expression is spelled so
abbrev pub ExpressionsAreSpelled : Type 0
ExpressionsAreSpelled = (in_print : Bool) (ts : List Token) (x : Tree) → expression 200 (expr 200) in_print ts
    ≡ Ok (x, []) → Spells 0 (rule.expr in_print) ts x []

-- and its canonical spelling is read as the same tree, places aside
abbrev pub ExpressionsAreReadAgain : Type 0
ExpressionsAreReadAgain = (in_print : Bool) (ts : List Token) (x : Tree) → expression 200 (expr 200) in_print ts
    ≡ Ok (x, []) → expression 200 (expr 200) in_print (canon x) ≡ Ok (bare x, [])

-- what is read as a simple statement is spelled so
abbrev pub SimpleStatementsAreSpelled : Type 0
SimpleStatementsAreSpelled = (ts r : List Token) (s : Statement) → simple 200 (expr 200) ts ≡ Ok (s, r) →
    (used : List Token) × (ts ≡ used ++ r) × Simple 0 used s r

-- and where the statement ends there, its canonical spelling is read as the same tree, places aside, up to the `;`
abbrev pub SimpleStatementsAreReadAgain : Type 0
SimpleStatementsAreReadAgain = (ts r : List Token) (s : Statement) → simple 200 (expr 200) ts ≡ Ok (s, r) → ahead r
    ≡ w.End → simple 200 (expr 200) (canon_statement s) ≡ Ok (bare_statement s, end)

-- the tree of a script: some tokens spell it
abbrev pub IsScript : List Entry → Type 0
IsScript items = (ts : List Token) × SpellsScript ts items

-- a script is read to its end
abbrev pub ScriptsAreWhole : Type 0
ScriptsAreWhole = (ts rest : List Token) (items : List Entry) → script ts ≡ Ok (items, rest) → rest ≡ []

-- what is read as a script is spelled so
abbrev pub ScriptsAreSpelled : Type 0
ScriptsAreSpelled = (ts : List Token) (items : List Entry) → script ts ≡ Ok (items, []) → SpellsScript ts items

-- and its canonical spelling is read as the same tree, places aside
abbrev pub ScriptsAreReadAgain : Type 0
ScriptsAreReadAgain =
    (items : List Entry) → IsScript items → script (canon_script items) ≡ Ok (map bare_entry items, [])

-- ---- the other way round

-- what is spelled as an expression is read so
abbrev pub ExpressionsAreRead : Type 0
ExpressionsAreRead = (in_print : Bool) (ts : List Token) (x : Tree) → Spells 0 (rule.expr in_print) ts x [] →
    expression 200 (expr 200) in_print ts ≡ Ok (x, [])

-- what is spelled as a simple statement is read so, where the statement ends there
abbrev pub SimpleStatementsAreRead : Type 0
SimpleStatementsAreRead = (us r : List Token) (s : Statement) → Simple 0 us s r → ahead r ≡ w.End →
    simple 200 (expr 200) (us ++ r) ≡ Ok (s, r)

-- what is spelled as a script is read so
abbrev pub ScriptsAreRead : Type 0
ScriptsAreRead = (ts : List Token) (items : List Entry) → SpellsScript ts items → script ts ≡ Ok (items, [])

-- so tokens spell one tree at most, as an expression
abbrev pub ExpressionsHaveOneTree : Type 0
ExpressionsHaveOneTree = (in_print : Bool) (ts : List Token) (x y : Tree) → Spells 0 (rule.expr in_print) ts x [] →
    Spells 0 (rule.expr in_print) ts y [] → x ≡ y

-- and as a script
abbrev pub ScriptsHaveOneTree : Type 0
ScriptsHaveOneTree =
    (ts : List Token) (items others : List Entry) → SpellsScript ts items → SpellsScript ts others → items ≡ others

-- ---- the two profiles of numbers

-- a text that profile whole reads as a script is read as the same tokens in profile double, so as the same items
abbrev pub ScriptsOfWholeAreRead : Type 0
ScriptsOfWholeAreRead = (text : List ℕ) (ts : List Token) (items : List Entry) → Reads Whole text ts →
    SpellsScript ts items → Reads Double text ts
