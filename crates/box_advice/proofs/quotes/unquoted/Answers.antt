use Rattle.std.proofs.Common.{◌∙◌, sym, subst}
use Rattle.box_advice.proofs.QuotesLemmas.{AreBytes}
use Rattle.box_advice.proofs.quotes.unquoted.Goals as goal

pub returns-then-same-clause-bytes : goal.returns-then-same-clause-bytes
returns-then-same-clause-bytes c = subst AreBytes (c.as_slice.ensures.value ∙ sym c.new.ensures)
    c.in_ok-same.ensures.bytes
