use Rattle.awkbox.proofs.Judging.{judged}
use Rattle.awkbox.proofs.listings.verdict_of.Goals as goal

pub returns-clause-ok : goal.returns-clause-ok
returns-clause-ok c =
    judged c.args.numbers _ c.args.policy.now c.args.script.now c.in_ok-listing.listing.policy
    c.in_ok-listing.listing.sites.items
    c.in_ok-verdict.verdict c.in_ok-listing.ensures.policy c.in_ok-listing.ensures.sites c.in_ok-verdict.ensures
