use Rattle.std.proofs.Common.{refl}
use Rattle.awk_streams.proofs.Chain.{at_once, passes}
use Rattle.awk_forms.proofs.Leading.{quietly}
use Rattle.awk_run.proofs.rules.rule.Goals as goal

pub returns-in-Always : goal.returns-in-Always
returns-in-Always g c =
    record {
      plays = λ m is. rw c.in-Always.is (passes (quietly (at_once _ _ _) (λ k hid d a. refl))
          (rw c.as_slice-action.ensures at (c.body.ensures.plays m is)));
      owns = c.body.ensures.owns;
    }

pub returns-in-Holds : goal.returns-in-Holds
returns-in-Holds g c =
    record {
      plays = λ m is. rw c.in-Holds.is (rw c.as_slice-action.ensures at (c.where_holds.ensures.plays m is));
      owns = c.where_holds.ensures.owns;
    }

pub returns-in-Range : goal.returns-in-Range
returns-in-Range g c =
    record {
      plays = λ m is. rw c.in-Range.is (rw c.as_slice-action.ensures at (c.within.ensures.plays m is));
      owns =
          c.within.ensures.owns;
    }
