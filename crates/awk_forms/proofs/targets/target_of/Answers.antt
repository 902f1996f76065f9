use Rattle.awk_forms.proofs.Leading.{quietly}
use Rattle.awk_streams.proofs.Chain.{at_once, done}
use Rattle.std.proofs.Common.{refl, sym}
use Rattle.awk_forms.proofs.targets.target_of.Goals as goal

pub returns-in-Variable-clause-plays : goal.returns-in-Variable-clause-plays
returns-in-Variable-clause-plays g c =
    rw c.in-Variable.is (record {
      plays = λ m is. done (quietly (at_once _ _ _) (λ k hid d a. refl));
      owns =
          c.requires.owns;
    })

pub returns-in-Element : goal.returns-in-Element
returns-in-Element g c =
    rw (c.in-Element.is, sym c.as_slice.ensures) (record {
      plays = c.element.ensures.plays;
      spot =
          c.element.ensures.spot;
    })

pub returns-in-Field : goal.returns-in-Field
returns-in-Field g c =
    rw (c.in-Field.is, sym c.get.ensures) (record { plays = c.field.ensures.plays; spot = c.field.ensures.spot })
