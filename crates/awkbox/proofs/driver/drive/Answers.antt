use Rattle.box_policy.proofs.CountsLemmas.{written_fresh}
use Rattle.awkbox.proofs.driver.drive.Goals as goal

pub returns-clause-driven : goal.returns-clause-driven
returns-clause-driven g c =
    record {
      book = c.in-Ok.prepared.policy;
      spelled = c.in-Ok.prepared.script;
      accepted = c.in-Ok.ensures.ok;
      drives = rw (written_fresh c.args.policy.now c.in-Ok.prepared.policy c.in-Ok.ensures.ok.written) at
          c.drive-world.ensures.drives;
    }
