use Rattle.awk_ere.proofs.Fronts.{set_plain, set_negated}
use Rattle.awk_ere.proofs.bracket.bracket.Goals as goal

pub returns-in_ok-rest-in-Some-clause-value : goal.returns-in_ok-rest-in-Some-clause-value
returns-in_ok-rest-in-Some-clause-value c = set_negated c.args.text.now _ _ c.args.set.now _ _ c.in-Some.ensures.value
    c.negate.array_long c.requires c.in_ok-rest-in-Some.ensures.value c.negate.ensures

pub returns-in_ok-rest-in-None-clause-value : goal.returns-in_ok-rest-in-None-clause-value
returns-in_ok-rest-in-None-clause-value c = set_plain c.args.text.now _ c.args.set.now _ c.in-None.ensures.value
    c.items-in-None.array_long c.requires c.in_ok-rest-in-None.ensures.value
