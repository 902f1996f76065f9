-- What a run is given.
use Rattle.std.proofs.Common.{◌≡◌, ◌∙◌, Bool, List, map, sym, subst}
use Rattle.awk_tree.specs.Tree.{Entry}
use Rattle.awk_resolve.specs.Faults.{names_environ}
use Rattle.awk_resolve.specs.Mentions.{part}
use Rattle.awk_resolve.specs.Sound as tables
use Rattle.awk_program.specs.declared.program.Program.{Program}
use Rattle.awk_program.specs.View.{names_of}
use Rattle.awk_store.specs.States.{Sound}
use Rattle.awk_parse.specs.Scripts.{IsScript, IsScriptOf}
use Rattle.awk_parse.specs.declared.script.Script.{Script}

-- a script's run is told whether it names ENVIRON
pub environ_so : (s : Script) (b : Bool) → IsScript s → ((items : List Entry) → IsScriptOf items s
    → b ≡ names_environ (map part items)) → s.names_environ ≡ b
environ_so s b (tokens, (items, read, of)) says = of.environ ∙ sym (says items of)

-- the names of a script's program are told apart
pub sound_so : (s : Script) (p : Program) → IsScript s → p ≡ s.program → Sound (names_of p)
sound_so s p (tokens, (items, read, of)) is =
    let sound : tables.Sound (names_of p) = subst (λ (q : Program). tables.Sound (names_of q)) (sym is) of.sound in
    record { once = sound.once; own = sound.own }
