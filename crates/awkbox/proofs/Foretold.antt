-- What is said of the script that a text spells is said of all that it spells.
use Rattle.std.proofs.Common.{◌≡◌, ℕ, List, Option, refl, sym, subst}
use Rattle.awk_machine.specs.Plays.{Plays}
use Rattle.awk_parse.specs.declared.script.Script.{Script}
use Rattle.awk_run.specs.Givens.{given_of}
use Rattle.awk_run.specs.SetupParts.{SetupParts}
use Rattle.awk_tree.specs.Tree.{Entry}
use Rattle.box_listing.specs.Scripts.{IsVerdictOf}
use Rattle.box_policy.proofs.RebasedLemmas.{one_under}
use Rattle.box_listing.specs.declared.verdict.Verdict.TheVariants.{Clean, Refused}
use Rattle.listing_laws.specs.Foretold.{IsOf, ScriptCovered, ScriptAllowed, ScriptDenied}
use Rattle.listing_laws.specs.OneText.{OnePolicy, OneProgram, SameScript}
use Rattle.awkbox.specs.Accepted.{ReadsScript}
use Rattle.awkbox.specs.Foretold.{TextCovered, TextAllowed, TextDenied}
use Rattle.awkbox.specs.Scripts.{Spells}

-- a run of one is a run of the other
same_run : (one : OneProgram) (text : List ℕ) (items : List Entry) (s r : Script) → Spells text items s →
    ReadsScript text r → s.numbers ≡ r.numbers → (setup : SetupParts) (steps : ℕ) →
    IsOf s (given_of r setup steps)
same_run one text items s r x y e setup steps =
    let same = one text y.tokens x.tokens r s (sym e) y.reads y.spelled x.reads (items, x.spells, x.of) in
    record { program = same.program; environ = same.environ }

pub text_covered : OneProgram → ScriptCovered → TextCovered
text_covered one law text s sites listed reads setup steps events o used last plays =
    law listed.1 listed.0 sites listed.2.of listed.3 (given_of s setup steps) events o used last
    (same_run one text listed.1 listed.0 s listed.2 reads listed.4 setup steps) plays

pub text_allowed : OnePolicy → OneProgram → ScriptAllowed → TextAllowed
text_allowed policies one law base policy text book s judged written reads setup steps events o used last plays =
    let found = judged.2 in
    let clean : IsVerdictOf found.0 found.1 book Clean = subst (λ b. IsVerdictOf found.0 found.1 b Clean)
    (one_under policies base policy judged.0 book judged.1 written) found.3 in
    law found.1 found.0 book found.2.of clean (given_of s setup steps) events o used last
    (same_run one text found.1 found.0 s found.2 reads found.4 setup steps) plays

pub text_denied : OnePolicy → ScriptDenied → TextDenied
text_denied policies law numbers base policy text book refused site judged written c =
    let found = judged.2 in
    let of : IsVerdictOf found.0 found.1 book (Refused refused) =
    subst (λ b. IsVerdictOf found.0 found.1 b (Refused refused)) (one_under policies base policy judged.0 book judged.1
    written) found.3 in
    law found.1 found.0 book refused site of c
