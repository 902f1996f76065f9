use Rattle.std.proofs.Common.{◌∙◌, sym, subst}
use Rattle.std.specs.Str.{bytes_eq}
use Rattle.box_monitor.specs.Judged.{spelled, AreDecided}
use Rattle.box_monitor.proofs.KeptLemmas.{after_use, if_found}
use Rattle.box_monitor.proofs.judge.recalled.Goals as goal

pub returns-clause-found : goal.returns-clause-found
returns-clause-found c = λ book all.
    if_found book c.args.question.kind c.args.question.given c.args.question.text.now c.args.cache.now.entries
    c.copied.result all (c.copied.ensures ∙ c.get.ensures.value)

pub returns-clause-kept : goal.returns-clause-kept
returns-clause-kept c = λ book all.
    let q = c.args.question in
    subst (λ x. AreDecided book x.entries) (sym c.get.follows.holds-at-none)
    (after_use book (λ k. bytes_eq (spelled q.kind q.given q.text.now) (spelled k.kind k.given k.text.items))
    c.args.cache.now.entries all)
