use Rattle.std.proofs.Common.{sym, subst, List, ℕ}
use Rattle.box_advice.proofs.QuotesLemmas.{Left, no_more, one_more}
use Rattle.box_advice.proofs.quotes.unescaped.Goals as goal

pub loop-next-preserved : goal.loop-next-preserved
loop-next-preserved c text bytes e =
    subst (λ items. Left text items c.in-Some.next.rest.now) (sym c.in_ok-push.ensures.items)
    (one_more text c.loop-next.text.items c.loop-next.rest.now c.in-Some.next.rest.now c.in-Some.next.byte
    c.in-Some.ensures.shorter
    c.in-Some.ensures.found (c.loop-next.invariant text bytes e))

pub returns : goal.returns
returns c text bytes e =
    no_more text c.loop-next.text.items c.loop-next.rest.now c.in_default.ensures.found
    (c.loop-next.invariant text bytes e)
