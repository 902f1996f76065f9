use Rattle.awk_forms.proofs.Leading.{as_truth}
use Rattle.awk_program.proofs.Views.{view-Pattern}
use Rattle.awk_program.specs.Program as p
use Rattle.awk_machine.specs.Forms.{value}
use Rattle.awk_store.proofs.Acting.{acted}
use Rattle.awk_forms.proofs.tests.later_truth.Goals as goal

pub returns-in-Pattern : goal.returns-in-Pattern
returns-in-Pattern g c =
    let h = as_truth {ghosts = g.W.World} {cx = c.args.cx.now} {p =
    λ m. value (p.pattern c.in-Pattern.place c.in-Pattern.text)} {r = c.matches_record.result}
    (record {
      plays = λ m is. acted (rw c.bytes.ensures at (c.matches_record.ensures m c.args.run.now.streams));
      owns = c.requires.owns;
    }) in
    record {
      val = h.val;
      is = h.is;
      does =
          record { plays = λ m is. rw (c.in-Pattern.is, view-Pattern) (h.does.plays m is); owns = h.does.owns };
    }
