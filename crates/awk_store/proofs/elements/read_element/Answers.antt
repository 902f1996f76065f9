use Rattle.std.proofs.Common.{sym, ◌∙◌}
use Rattle.std.proofs.lemmas.Result.{err_from_is_err_and}
use Rattle.awk_store.proofs.ArraySteps.{reads_element, makes_result, makes_no_result}
use Rattle.awk_store.proofs.elements.read_element.Goals as goal

pub returns-in-Some : goal.returns-in-Some
returns-in-Some c = λ g t. rw c.share_element.ensures.same (reads_element g (c.args.store.now, t) c.args.array
    c.args.key.now c.args.place c.in-Some.value (sym c.in-Ok.ensures.ok ∙ c.in-Some.is))

pub returns-in_err-at : goal.returns-in_err-at
returns-in_err-at c = λ g t.
    let e = err_from_is_err_and c.from_residual.result c.from_residual.ensures.1 in
    rw (e.1, e.2) (makes_no_result g (c.args.store.now, t) c.args.array c.args.key.now c.args.place c.put.result
    c.put.new.self _ (sym c.in-Ok.ensures.ok ∙ c.in_default-found.is)
    (rw c.share_element.ensures.same at c.put.ensures.err) (sym c.at.ensures ∙ c.in_err-at.was))

pub returns : goal.returns
returns c = λ g t.
    makes_result g (c.args.store.now, t) c.args.array c.args.key.now c.args.place c.put.result c.put.new.self _
    (sym c.in-Ok.ensures.ok ∙ c.in_default-found.is)
    (rw c.share_element.ensures.same at c.put.ensures.ok) (sym c.at.ensures ∙ c.in_ok-at.was)
