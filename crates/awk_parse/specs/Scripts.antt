-- What an accepted script is, and why others are refused.
use Rattle.std.specs.Prelude.{◌≡◌, List, map, Result, Ok, Err}
use Rattle.awk_tokens.specs.declared.token.Token.{Token}
use Rattle.awk_tokens.specs.declared.syntax_error.SyntaxError.{SyntaxError}
use Rattle.awk_tree.specs.declared.fault.ParseError.{ParseError}
use Rattle.awk_tree.specs.Tree.{Entry}
use Rattle.awk_tree.specs.View.{view_item}
use Rattle.awk_tree.specs.Statements as grammar
use Rattle.awk_tree.specs.Canon.{bare_entry}
use Rattle.awk_parse.specs.SpellsScripts.{SpellsScript}
use Rattle.awk_statements.specs.Places as places
use Rattle.awk_resolve.specs.Mentions.{part}
use Rattle.awk_resolve.specs.Faults as names
use Rattle.awk_resolve.specs.Faultless.{Faultless}
use Rattle.awk_resolve.specs.Marks.{AreKinds}
use Rattle.awk_program.specs.View.{view_program, names_of}
use Rattle.awk_lowering.specs.Programs.{program}
use Rattle.awk_resolve.specs.Tables.{tables}
use Rattle.awk_resolve.specs.Sound.{Sound}
use Rattle.awk_parse.specs.Flaws as flaws
use Rattle.awk_parse.specs.Flaws.{Flawed}
use Rattle.awk_parse.specs.declared.flaw.Flaw.{Flaw}
use Rattle.awk_parse.specs.declared.script.Script.{Script}

-- the items of a script, as its tree shows them
abbrev pub tree : Script → List Entry
tree s = map view_item s.tree.items

-- A script of these items: no word and no name of them stands where it cannot, no name is of two
-- kinds, its tree is these items, and its program is what they stand for.
pub record IsScriptOf (items : List Entry) (s : Script) : Type 0 where
  pub faultless : Faultless (map part items)
  pub kinds : AreKinds (map part items) s.kinds
  pub tree_is : tree s ≡ items
  -- the program that the items stand for, by the tables of their names, with the constants of the script's profile
  pub program : view_program s.program ≡ program s.numbers (tables s.kinds (map part items)) items
  -- whose variables are told apart by their names, and awk's own have their slots
  pub sound : Sound (names_of s.program)
  pub environ : s.names_environ ≡ names.names_environ (map part items)
  pub main : s.reads_main ≡ names.reads_main (map part items)

-- The tokens spell the items that the script is of (POSIX.1-2017 XCU awk, "Grammar").
abbrev pub IsSpelled : List Token → Script → Type 0
IsSpelled tokens s = (items : List Entry) × SpellsScript tokens items × IsScriptOf items s

-- some tokens spell it
abbrev pub IsScript : Script → Type 0
IsScript s = (tokens : List Token) × IsSpelled tokens s

-- with at most 200 levels, the tokens spell no script
abbrev pub SpellNone : List Token → Type 0
SpellNone tokens = (items : List Entry) → SpellsScript tokens items → ⊥

-- The tokens spell no script, and the place is where the rules of the grammar go no further: a token that cannot
-- stand there, or a level too much. Or else the items have a flaw.
pub data IsRefused (tokens : List Token) : SyntaxError → Type 0 where
  by_grammar : (fault : ParseError) → SpellNone tokens → grammar.script tokens ≡ Err fault →
      IsRefused tokens (places.refusal tokens fault)
  by_flaw : (items : List Entry) (flaw : Flaw) → SpellsScript tokens items → Flawed (map part items) flaw →
      IsRefused tokens (flaws.refusal flaw)
  by_memory : IsRefused tokens (record { code = 9; place = record { line = 0; column = 0 } })

-- the same tree, places aside, or want of memory
abbrev pub IsAgain : Script → Result Script SyntaxError → Type 0
IsAgain s (Ok r) = map bare_entry (tree r) ≡ map bare_entry (tree s)
IsAgain s (Err e) = e.code ≡ 9
