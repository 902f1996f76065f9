use Rattle.awk_machine.specs.Pieces.{give}
use Rattle.awk_store.proofs.Acting.{acted, done as there}
use Rattle.std.proofs.Common.{sym}
use Rattle.std.specs.Prelude.{Bool}
use Rattle.awk_forms.proofs.tests.ready_truth.Goals as goal

pub returns-in-Some : goal.returns-in-Some
returns-in-Some g c =
    let h = c.in-Some.ensures in
    record {
      val = h.val;
      is = sym h.is;
      does =
          record {
            plays = λ m is. acted (there {on = λ (x : Bool). give h.val} {x = c.in-Some.known}
                (h.there m c.args.run.now.streams));
            owns = c.requires.owns;
          };
    }
