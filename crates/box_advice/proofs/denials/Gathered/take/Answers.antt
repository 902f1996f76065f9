use Rattle.std.proofs.Common.{◌≡◌, ◌∙◌, sym, subst}
use Rattle.std.specs.BTreeSet.{contains}
use Rattle.std.specs.List.{list_any}
use Rattle.box_advice.proofs.MetLemmas.{asks_for, compared, is_new, is_old, met_more, none_more, one_more, same_met}
use Rattle.box_advice.proofs.denials.Gathered.take.Goals as goal

pub returns-in_ok-push-clause-wishes : goal.returns-in_ok-push-clause-wishes
returns-in_ok-push-clause-wishes c =
    let key = c.in_ok-request_of.field-0 in
    c.in_ok-push.ensures.items
    ∙ one_more c.args.self.now.wishes.items c.args.wish key.items c.in_ok-request_of.ensures
    (sym (c.requires key) ∙ is_new c.in_ok-insert.field-0 (contains compared c.args.self.now.met key)
    c.in_ok-insert.ensures.added c.if-branch.true)

pub returns-in_ok-push-clause-met : goal.returns-in_ok-push-clause-met
returns-in_ok-push-clause-met c q =
    let key = c.in_ok-request_of.field-0 in
    subst (λ wishes. contains compared c.insert.new.self q ≡ list_any (asks_for q.items) wishes)
    (sym c.in_ok-push.ensures.items)
    (met_more c.args.self.now.wishes.items c.args.wish c.args.self.now.met c.insert.new.self key
    c.in_ok-request_of.ensures
    c.in_ok-insert.ensures.updates.0 c.requires q)

pub returns-else-branch-clause-wishes : goal.returns-else-branch-clause-wishes
returns-else-branch-clause-wishes c =
    let key = c.in_ok-request_of.field-0 in
    none_more c.args.self.now.wishes.items c.args.wish key.items c.in_ok-request_of.ensures
    (sym (c.requires key) ∙ is_old c.in_ok-insert.field-0 (contains compared c.args.self.now.met key)
    c.in_ok-insert.ensures.added c.if-branch.false)

pub returns-else-branch-clause-met : goal.returns-else-branch-clause-met
returns-else-branch-clause-met c q =
    let same = rw c.if-branch.false at c.in_ok-insert.ensures.unchanged in
    same_met c.args.self.now.wishes.items c.args.self.now.met c.insert.new.self same c.requires q
