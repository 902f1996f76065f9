use Rattle.awk_streams.proofs.Chain.{at_once, done, part, stop}
use Rattle.awk_machine.specs.Pieces.{give}
use Rattle.awk_store.proofs.Acting.{acted, done as there}
use Rattle.awk_text.specs.declared.fault.Fault.{Fault}
use Rattle.std.proofs.Common.{refl, rules, sym, w64}
use Rattle.std.proofs.lemmas.Int.{to_z-of_z}
use Rattle.std.proofs.lemmas.Result.{err_from_is_err_and}
use Rattle.std.specs.Prelude.{Result, Ok}
use Rattle.awk_numbers.specs.declared.number.Number.{Number}
use Rattle.awk_numbers.specs.declared.number.Number.TheVariants.{Whole}
use Rattle.awk_forms.proofs.tests.number.Goals as goal
use Rattle.awk_text.specs.declared.value.Value.TheVariants as v

pub returns-in_err-found : goal.returns-in_err-found
returns-in_err-found g c =
    let e = err_from_is_err_and c.from_residual.result c.from_residual.ensures.1 in
    rw (e.1, e.2) (record {
      val = v.Unset;
      is = tt;
      does =
          record {
            plays = λ m is. stop _ (λ k. refl) (at_once _ _ _) (c.value.ensures.plays m is) c.in_err-found.was;
            owns = c.value.ensures.owns;
          };
    })

pub returns : goal.returns
returns g c =
    record {
      val = c.in_ok-found.found;
      is = rw c.numbers.ensures at c.number_of.ensures;
      does =
          record {
            plays = λ m is. done (part _ (at_once _ _ _) (c.value.ensures.plays m is) c.in_ok-found.was);
            owns =
                c.value.ensures.owns;
          };
    }

pub returns-in-Some : goal.returns-in-Some
returns-in-Some g c =
    let h = c.in-Some.ensures in
    rw (to_z-of_z w64 c.in-Some.known (search rules)) (record {
      val = h.val;
      is = sym h.is;
      does =
          record {
            plays = λ m is. acted (there {on = λ (x : Result Number Fault). give h.val} {x = Ok (Whole c.in-Some.known)}
                (h.there m c.args.run.now.streams));
            owns = c.requires.owns;
          };
    })
