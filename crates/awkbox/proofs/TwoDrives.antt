-- Two runs of `drive` go by one policy and one program, so they are two runs under one policy.
use Rattle.std.proofs.Common.{◌≡◌, ◌∙◌, ℕ, List, Option, sym, ap, subst}
use Rattle.awk_machine.specs.Laws.{Alike, IsWhole, replies}
use Rattle.awk_machine.specs.Pieces.{Outcome}
use Rattle.awk_machine.specs.State.{Given}
use Rattle.awk_parse.specs.declared.script.Script.{Script}
use Rattle.awk_run.specs.Givens.{given_of}
use Rattle.awk_run.specs.SetupParts.{SetupParts, number_of_seed}
use Rattle.box_monitor.specs.Lines.{log_text}
use Rattle.box_monitor.specs.Passed.{passed_on, told_of}
use Rattle.box_policy.specs.Rulebook.{Rulebook}
use Rattle.box_world.specs.Calls.{Call}
use Rattle.box_world.specs.Events.{Event, Want, calls}
use Rattle.box_world.specs.declared.ask.Ask.{Ask}
use Rattle.listing_laws.specs.OneText.{OnePolicy, OneProgram, SameScript}
use Rattle.awkbox.specs.Accepted.{ReadsScript}
use Rattle.awkbox.specs.Drives.{PlaysUnder}
use Rattle.awkbox.specs.Laws.{TwoWorlds}
use Rattle.awkbox.specs.TwoDrives.{SameDrive, TwoDrives}

one_run : (book other : Rulebook) (g h : Given) (es fs : List Event) (o p : Outcome) (m n : ℕ) (v w : Option Want) →
    TwoWorlds → other ≡ book → h ≡ g →
    PlaysUnder book g es o m v → PlaysUnder other h fs p n w →
    Alike (replies (passed_on book es)) (replies (passed_on other fs)) → IsWhole o → IsWhole p →
    SameDrive book other es fs o p m n
one_run book other g h es fs o p m n v w law e f x y like whole too =
    let z : PlaysUnder book g fs p n w = subst (λ b. PlaysUnder b g fs p n w) e
    (subst (λ a. PlaysUnder other a fs p n w) f y) in
    let same = law book g es fs o p m n v w x z
    (subst (λ b. Alike (replies (passed_on book es)) (replies (passed_on b fs))) e like) whole too in
    record {
      policy = sym e;
      events = same.events ∙ ap (λ b. passed_on b fs) (sym e);
      asked = same.asked ∙ ap (λ b. calls (passed_on b fs)) (sym e);
      outcome = same.outcome;
      used = same.used;
      lines = same.lines ∙ ap (λ b. log_text (told_of b fs)) (sym e);
    }

-- plain awk is given the same of both
same_given : (s r : Script) (setup : SetupParts) (steps : ℕ) → SameScript s r →
    given_of s setup steps ≡ given_of r setup steps
same_given s r setup steps x = λ i. record {
  program = x.program i;
  numbers = setup.numbers;
  seed = number_of_seed setup.random_seed;
  can_assign = λ name. x.assigns name i;
  names_environ = x.environ i;
  operands = setup.operands;
  environment = setup.names;
  assigns = setup.assigns;
  separator = setup.separator;
  bound = steps;
}

same_script : OneProgram → (text : List ℕ) (s r : Script) → s.numbers ≡ r.numbers → ReadsScript text s →
    ReadsScript text r → SameScript s r
same_script one text s r e x y = one text x.tokens y.tokens s r e x.reads x.spelled y.reads y.spelled

module _ {V W K L : Type 0}
    (follows : V → List Call → V → Type 0) (stops : V → List Call → Ask → V → Type 0) (contents : K → Option (List ℕ))
    (follows' : W → List Call → W → Type 0) (stops' : W → List Call → Ask → W → Type 0)
    (contents' : L → Option (List ℕ)) where
  pub two_drives : OnePolicy → OneProgram → TwoWorlds → TwoDrives follows stops contents follows' stops' contents'
  two_drives policies one law policy script setup steps v v' w w' k k' l l' o p m n end end' x y like whole too =
      let book = policies policy y.book x.book y.accepted.written x.accepted.written in
      let same = same_script one script y.spelled x.spelled
      (y.accepted.profile ∙ sym x.accepted.profile) y.accepted.read x.accepted.read in
      one_run x.book y.book _ _ x.drives.events y.drives.events o p m n x.drives.last y.drives.last law book
      (same_given y.spelled x.spelled setup steps same) x.drives.plays y.drives.plays like whole too
