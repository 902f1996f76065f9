use Rattle.std.proofs.Common.{◌≡◌, ◌≤◌, ◌<◌, ◌+◌, ◌*◌, ◌/◌, arith, rules}
use Rattle.box_policy.proofs.WalksLemmas.{text_found, zeros_taken}
use Rattle.box_policy.proofs.matching.text_fits_in.Goals as goal

pub whole_as_slice-put_text : goal.whole_as_slice-put_text
whole_as_slice-put_text g c = omega (arith, c.requires.few)

pub shared_whole_as_front-text_leads : goal.shared_whole_as_front-text_leads
shared_whole_as_front-text_leads g c = (
  omega (arith, c.requires.room, c.put_text-last.ensures.small),
  omega (arith, c.requires.few),
)

pub whole_as_front-text_leads : goal.whole_as_front-text_leads
whole_as_front-text_leads g c = (
  omega (arith, c.requires.room, c.put_text-last.ensures.small),
  omega (arith, c.requires.few),
)

pub text_leads-requires-clause-blank : goal.text_leads-requires-clause-blank
text_leads-requires-clause-blank g c = zeros_taken (c.put_text-last.result / 64 + 1) g.row.N
    (omega (arith, c.requires.room, c.put_text-last.ensures.small))

pub returns : goal.returns
returns g c =
    text_found c.args.sort c.args.pattern.now c.args.text.now g.row.N (c.put_text-last.result / 64 + 1)
    c.put_text-last.result c.put_text-last.new.blocks c.text_leads.result
    c.put_text-last.ensures.holds (omega arith) c.text_leads.ensures
