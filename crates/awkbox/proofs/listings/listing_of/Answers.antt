use Rattle.awkbox.proofs.Judging.{refused_under}
use Rattle.awkbox.proofs.listings.listing_of.Goals as goal

pub returns-in-Err-clause-refused : goal.returns-in-Err-clause-refused
returns-in-Err-clause-refused c =
    refused_under c.args.numbers _ c.args.policy.now c.args.script.now c.in_ok-policy.policy c.in-Err.refusal
    c.in_ok-policy.ensures.ok c.in-Err.ensures.refused
