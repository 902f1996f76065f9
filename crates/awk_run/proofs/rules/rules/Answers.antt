use Rattle.std.proofs.Common.{refl, ap, ◌+◌, ◌∷◌, drop, map}
use Rattle.std.proofs.lemmas.Result.{err_from_is_err_and}
use Rattle.awk_program.specs.View.{view_rule}
use Rattle.awk_machine.specs.Pieces.{Do, Rules}
use Rattle.awk_store.specs.Wholes.{names_in}
use Rattle.awk_streams.proofs.Chain.{at_once, done, part, stop, turned}
use Rattle.awk_forms.proofs.Leading.{quietly}
use Rattle.awk_forms.proofs.Turns.{next_of}
use Rattle.awk_builtins.proofs.Rests.{drop_all}
use Rattle.awk_run.proofs.RuleSteps.{flows_on, rules_so}
use Rattle.awk_run.proofs.rules.rules.Goals as goal

pub loop-n-init : goal.loop-n-init
loop-n-init g c = record {
  leads = λ m is. turned (at_once _ _ _) (λ k. ap (λ xs. Do (Rules 0 xs) ∷ k)
      (rules_so m c.args.cx.now is));
  owns = c.requires;
}

pub returns-in_err-rule : goal.returns-in_err-rule
returns-in_err-rule g c =
    let e = err_from_is_err_and c.from_residual.result c.from_residual.ensures.1 in
    rw (e.1, e.2) (record {
      plays = λ m is. stop _ (λ k. refl)
          (quietly (turned (c.loop-n.invariant.leads m is)
          (λ k. ap (λ xs. Do (Rules c.loop-n.n (map (view_rule (names_in m)) xs)) ∷ k)
          (next_of c.args.cx.now.program.now.rules c.loop-n.n c.index-rules-n.result
          (rw c.as_slice-rules.ensures at c.index-rules-n.is) (rw c.as_slice-rules.ensures at c.loop-n-test.true))))
          (λ k hid d a. refl))
          (c.rule.ensures.plays m is) c.in_err-rule.was;
      owns = c.rule.ensures.owns;
    })

pub loop-n-preserved : goal.loop-n-preserved
loop-n-preserved g c = record {
  leads = λ m is. turned (part _
      (quietly (turned (c.loop-n.invariant.leads m is)
      (λ k. ap (λ xs. Do (Rules c.loop-n.n (map (view_rule (names_in m)) xs)) ∷ k)
      (next_of c.args.cx.now.program.now.rules c.loop-n.n c.index-rules-n.result
      (rw c.as_slice-rules.ensures at c.index-rules-n.is) (rw c.as_slice-rules.ensures at c.loop-n-test.true))))
      (λ k hid d a. refl))
      (c.rule.ensures.plays m is) c.in_ok-rule.was) (λ k. flows_on c.in_ok-rule.field-0 (c.loop-n.n + 1)
      (map (view_rule (names_in m)) (drop (c.loop-n.n + 1) c.args.cx.now.program.now.rules)) k);
  owns = c.rule.ensures.owns;
}

pub returns : goal.returns
returns g c = record {
  plays = λ m is. done (quietly (turned (c.loop-n.invariant.leads m is)
      (λ k. ap (λ xs. Do (Rules c.loop-n.n (map (view_rule (names_in m)) xs)) ∷ k)
      (drop_all c.args.cx.now.program.now.rules c.loop-n.n (rw c.as_slice-rules.ensures at c.loop-n-test.false))))
      (λ k hid d a. refl));
  owns = c.loop-n.invariant.owns;
}

pub rule-requires : goal.rule-requires
rule-requires g c = c.loop-n.invariant.owns
