use Rattle.std.proofs.Common.{◌∙◌, sym, subst}
use Rattle.box_policy.specs.Decisions.{decision}
use Rattle.box_monitor.specs.Judged.{AreDecided}
use Rattle.box_monitor.proofs.KeptLemmas.{after_put}
use Rattle.box_monitor.proofs.judge.store.Goals as goal

pub returns-in_err-put : goal.returns-in_err-put
returns-in_err-put c = λ book all is. subst (λ x. AreDecided book x.entries) (sym c.in_err-put.ensures.err) all

pub returns : goal.returns
returns c = λ book all is.
    let kept = c.in_ok-kept.ensures in
    subst (λ x. AreDecided book x.entries) (sym c.in_ok-put.ensures.entries)
    (after_put book c.args.cache.now c.in_ok-kept.kept c.args.made all
    (is ∙ (λ i. decision book (sym kept.kind i) (sym kept.text i) (sym kept.given i))))
