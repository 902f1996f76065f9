-- What a text says is one thing: it writes one policy, and it spells scripts of one program.
use Rattle.std.specs.Prelude.{◌≡◌, ℕ, List}
use Rattle.awk_parse.specs.Scripts.{IsSpelled}
use Rattle.awk_parse.specs.declared.script.Script.{Script}
use Rattle.awk_program.specs.View.{view_program}
use Rattle.awk_resolve.specs.Assigns.{can_assign}
use Rattle.awk_tokens.specs.Reads.{Reads}
use Rattle.awk_tokens.specs.declared.token.Token.{Token}
use Rattle.box_policy.specs.Rulebook.{Rulebook}
use Rattle.box_policy.specs.Written.{Written}

-- the policies that one text writes are one
abbrev pub OnePolicy : Type 0
OnePolicy = (text : List ℕ) (book other : Rulebook) → Written text book → Written text other → book ≡ other

-- they have one program, and say the same of each name whether a host may set it, of ENVIRON and of the main input
pub record SameScript (s r : Script) : Type 0 where
  pub program : view_program s.program ≡ view_program r.program
  pub assigns : (name : List ℕ) → can_assign s.kinds name ≡ can_assign r.kinds name
  pub environ : s.names_environ ≡ r.names_environ
  pub main : s.reads_main ≡ r.reads_main

-- so it is of the scripts that one text spells by one profile
abbrev pub OneProgram : Type 0
OneProgram =
    (text : List ℕ) (tokens others : List Token) (s r : Script) → s.numbers ≡ r.numbers →
    Reads s.numbers text tokens → IsSpelled tokens s → Reads r.numbers text others → IsSpelled others r → SameScript s r
