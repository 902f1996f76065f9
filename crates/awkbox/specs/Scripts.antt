-- Which script a text spells, and why others are refused.
use Rattle.std.specs.Prelude.{◌≢◌, ℕ, List, ◌⊎◌}
use Rattle.awk_numbers.specs.declared.number.Numbers.{Numbers}
use Rattle.awk_parse.specs.SpellsScripts.{SpellsScript}
use Rattle.awk_parse.specs.Scripts.{IsScriptOf, IsRefused}
use Rattle.awk_parse.specs.declared.script.Script.{Script}
use Rattle.awk_tokens.specs.Reads.{Reads, Refuses}
use Rattle.awk_tokens.specs.declared.syntax_error.SyntaxError.{SyntaxError}
use Rattle.awk_tokens.specs.declared.token.Token.{Token}
use Rattle.awk_tree.specs.Tree.{Entry}

-- the text is read, by the script's profile, as tokens that spell these items of it
pub record Spells (text : List ℕ) (items : List Entry) (script : Script) : Type 0 where
  pub tokens : List Token
  pub reads : Reads script.numbers text tokens
  pub spells : SpellsScript tokens items
  pub of : IsScriptOf items script

-- S1 to S3 stand in the text where they say, and else the tokens of the text are refused so; S9 is want of memory
abbrev pub IsScriptRefused : Numbers → List ℕ → SyntaxError → Type 0
IsScriptRefused numbers text e =
    e.code ≢ 9 → Refuses numbers text e.code e.place ⊎
    ((tokens : List Token) × Reads numbers text tokens × IsRefused tokens e)
