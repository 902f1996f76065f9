use Rattle.awk_machine.specs.Pieces.{give}
use Rattle.awk_store.proofs.Acting.{acted, done as there}
use Rattle.awk_eval.proofs.effects.ready_effect.Goals as goal

pub returns-then-is_done : goal.returns-then-is_done
returns-then-is_done g c =
    let h = c.done_at_once-is_done.ensures.done c.if-is_done.true in
    record {
      val = h.val;
      is = tt;
      does =
          record {
            plays = λ m is. acted (there {on = λ (u : Unit {0}). give h.val} {x = tt}
                (h.gives m c.args.run.now.streams));
            owns = c.requires.owns;
          };
    }

pub returns : goal.returns
returns g c =
    let h = c.later_effect.ensures in
    record {
      val = h.val;
      is = h.is;
      does =
          record {
            plays = λ m is. rw (c.done_at_once-is_done.ensures.not_done c.if-is_done.false) at (h.does.plays m is);
            owns = h.does.owns;
          };
    }
