use Rattle.awk_forms.proofs.Leading.{quietly}
use Rattle.awk_streams.proofs.Chain.{at_once, done, part, passes, stop}
use Rattle.awk_machine.specs.Advances.{held}
use Rattle.awk_machine.specs.Forms.{deliver}
use Rattle.awk_machine.specs.Pieces.{give}
use Rattle.awk_program.specs.View.{view}
use Rattle.awk_store.proofs.Acting.{acted, done as there}
use Rattle.awk_store.specs.Wholes.{Whole, base, names_in}
use Rattle.awk_builtins.proofs.Comparing.{compares}
use Rattle.awk_builtins.proofs.Convfmt.{compared-so}
use Rattle.awk_machine.specs.Streams.{seen}
use Rattle.std.proofs.Common.{ap, refl, ◌∙◌}
use Rattle.std.proofs.lemmas.Result.{err_from_is_err_and}
use Rattle.awk_forms.proofs.tests.compare.Goals as goal

pub returns-in_err-one : goal.returns-in_err-one
returns-in_err-one g c =
    let e = err_from_is_err_and c.from_residual.result c.from_residual.ensures.1 in
    rw (e.1, e.2) (record {
      plays = λ m is. stop _ (λ k. refl) (quietly (at_once _ _ _) (λ k hid d a. refl))
          (c.operand.ensures.plays m is) c.in_err-one.was;
      owns = c.operand.ensures.owns;
    })

pub returns-in_err-other : goal.returns-in_err-other
returns-in_err-other g c =
    let e = err_from_is_err_and c.from_residual-in_err-other.result c.from_residual-in_err-other.ensures.1 in
    rw (e.1, e.2) (record {
      plays =
          λ m is. stop _ (λ k. refl)
          (quietly (part _ (quietly (at_once _ _ _) (λ k hid d a. refl)) (c.operand.ensures.plays m is) c.in_ok-one.was)
          (λ k hid d a. refl)) (c.value.ensures.plays m is) c.in_err-other.was;
      owns = c.value.ensures.owns;
    })

pub returns-in-Some : goal.returns-in-Some
returns-in-Some g c =
    let w : Whole = (c.operand.new.run.store, c.operand.new.run.streams) in
    let (val, there_is, made) = c.in-Some.ensures in
    record {
      plays = λ m is. done
          (quietly (part _ (quietly (part _ (quietly (at_once _ _ _) (λ k hid d a. refl)) (c.operand.ensures.plays m is)
          c.in_ok-one.was) (λ k hid d a. refl))
          (acted (there {on = give} {x = val} (there_is m c.operand.new.run.streams)))
          refl) (λ k hid d a. ap
          (λ r. held m (seen (base m w hid) d) (deliver c.args.place r k (seen (base m w hid) d)))
          (compared-so m w hid d a c.args.how c.in_ok-one.one val ∙ made)));
      owns = c.operand.ensures.owns;
    }

pub returns : goal.returns
returns g c =
    record {
      plays = λ m is. rw c.at.ensures (passes
          (part _ (quietly (part _ (quietly (at_once _ _ _) (λ k hid d a. refl)) (c.operand.ensures.plays m is)
          c.in_ok-one.was) (λ k hid d a. refl)) (c.value.ensures.plays m is) c.in_ok-other.was)
          (acted (compares m (c.value.new.run.store, c.value.new.run.streams) c.args.place c.args.how
          (view (names_in m) c.args.x.now) (view (names_in m) c.args.y.now) c.in_ok-one.one c.in_ok-other.other
          c.compared.result c.compared.ensures.ok c.compared.ensures.err)));
      owns = c.value.ensures.owns;
    }
