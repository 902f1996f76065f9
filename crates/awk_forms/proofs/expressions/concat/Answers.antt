use Rattle.awk_machine.specs.Pieces.{give}
use Rattle.awk_store.proofs.Acting.{acted, done as there}
use Rattle.awk_forms.proofs.expressions.concat.Goals as goal

pub returns-in-Some : goal.returns-in-Some
returns-in-Some g c =
    record {
      plays = λ m is. acted (there {on = give} {x = c.in-Some.there}
          (c.in-Some.ensures m c.args.run.now.streams));
      owns = c.requires.owns;
    }

pub returns : goal.returns
returns g c = c.concat_each.ensures
