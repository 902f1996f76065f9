use Rattle.std.proofs.Common.{◌≡◌, ◌∙◌, bytes_eq, rules}
use Rattle.box_policy.proofs.PlainLemmas.{plain_text}
use Rattle.box_policy.proofs.matching.found_text.Goals as goal

pub returns-then-is_plain : goal.returns-then-is_plain
returns-then-is_plain c =
    let same : c.eq.result ≡ bytes_eq c.args.text.now c.args.pattern.now = search rules in
    same ∙ plain_text c.args.sort c.args.pattern.now c.args.text.now c.is_plain.result c.is_plain.ensures
    c.if-is_plain.true
