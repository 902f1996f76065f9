use Rattle.std.proofs.Common.{inl, inr}
use Rattle.std.proofs.lemmas.Result.{err_from_is_err_and}
use Rattle.box_advice.proofs.ExtendsLemmas.{extended}
use Rattle.box_advice.proofs.proposing.propose.Goals as goal

pub returns-in_err-beginning-clause-refused : goal.returns-in_err-beginning-clause-refused
returns-in_err-beginning-clause-refused c =
    let e = err_from_is_err_and c.from_residual.result c.from_residual.ensures.1 in
    rw (e.1, e.2) (inl c.in_err-beginning.ensures.refused)

pub returns-in_err-text-clause-refused : goal.returns-in_err-text-clause-refused
returns-in_err-text-clause-refused c =
    let e = err_from_is_err_and c.from_residual-in_err-text.result c.from_residual-in_err-text.ensures.1 in
    rw (e.1, e.2) (inr (
      c.in_ok-beginning.beginning.policy,
      c.in_ok-beginning.ensures.ok,
      (rw c.base_of.ensures at c.in_err-text.ensures.refused),
    ))

pub returns-clause-ok : goal.returns-clause-ok
returns-clause-ok c = (
  c.in_ok-beginning.beginning.policy,
  c.in_ok-beginning.ensures.ok,
  record {
    accepted = (rw c.base_of.ensures at c.in_ok-text.ensures.ok);
    extends = extended c.args.start c.in_ok-beginning.beginning.policy c.args.wishes.now c.in_ok-beginning.ensures.ok;
  },
)
