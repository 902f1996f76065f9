-- What a script is made of.
use Rattle.std.proofs.Common.{◌≡◌, ap, List, [], map, Ok}
use Rattle.awk_tokens.specs.declared.token.Token.{Token}
use Rattle.awk_tree.specs.Statements as grammar
use Rattle.awk_tree.specs.Tree.{Entry}
use Rattle.awk_tree.specs.View.{view_item}
use Rattle.awk_tree.specs.declared.items.Item.{Item}
use Rattle.awk_resolve.specs.Mentions.{part}
use Rattle.awk_resolve.specs.Faults as names
use Rattle.awk_resolve.specs.Faultless.{Faultless}
use Rattle.awk_resolve.specs.declared.mention.Section.{Section}
use Rattle.awk_resolve.specs.Marks.{AreKinds}
use Rattle.awk_program.specs.View.{view_program, names_of}
use Rattle.awk_lowering.specs.Programs.{program}
use Rattle.awk_resolve.specs.Tables.{tables}
use Rattle.awk_resolve.specs.Sound.{Sound}
use Rattle.awk_parse.specs.declared.script.Script.{Script}
use Rattle.awk_parse.proofs.Laws.{scripts_are_spelled}
use Rattle.awk_parse.specs.Scripts.{IsScriptOf, IsSpelled}

pub made : (xs : List Item) (parts : List Section) (s : Script) → parts ≡ map part (map view_item xs)
    → Faultless parts → AreKinds parts s.kinds → s.tree.items ≡ xs
    → view_program s.program ≡ program s.numbers (tables s.kinds parts) (map view_item xs) → Sound (names_of s.program)
    → s.names_environ ≡ names.names_environ parts → s.reads_main ≡ names.reads_main parts
    → IsScriptOf (map view_item xs) s
made xs parts s of faultless kinds same is_program sound environ main =
    record {
      faultless = rw of at faultless;
      kinds = rw of at kinds;
      tree_is = ap (map view_item) same;
      program = rw of at is_program;
      sound = sound;
      environ = rw of at environ;
      main = rw of at main;
    }

-- what is read is spelled
pub spelled : (tokens : List Token) (items : List Entry) (s : Script) → grammar.script tokens ≡ Ok (items, [])
    → IsScriptOf items s → IsSpelled tokens s
spelled tokens items s read of = (items, scripts_are_spelled tokens items read, of)
