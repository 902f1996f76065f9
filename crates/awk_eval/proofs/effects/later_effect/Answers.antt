use Rattle.awk_streams.proofs.Chain.{at_once, lacking}
use Rattle.awk_store.specs.Wholes.{names_in}
use Rattle.awk_eval.proofs.effects.later_effect.Goals as goal
use Rattle.awk_text.specs.declared.value.Value.TheVariants as v

pub returns-in_default-below : goal.returns-in_default-below
returns-in_default-below g c =
    record { val = v.Unset; is = tt; does = record { plays = λ m is. lacking (at_once _ _ _); owns = c.requires.owns } }

pub returns-in-Some : goal.returns-in-Some
returns-in-Some g c =
    let h = c.put_variable.ensures in
    record {
      val = h.val;
      is = h.is;
      does =
          record { plays = λ m is. rw (c.in-Some.ensures (names_in m)) (h.does.plays m is); owns = h.does.owns };
    }
