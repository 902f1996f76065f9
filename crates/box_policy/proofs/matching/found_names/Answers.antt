use Rattle.std.proofs.Common.{rules}
use Rattle.box_policy.specs.NamesLeft.{names_left}
use Rattle.box_policy.specs.Paths.{names}
use Rattle.box_policy.proofs.PlainLemmas.{plain_names}
use Rattle.box_policy.proofs.matching.found_names.Goals as goal

pub returns-then-are_plain : goal.returns-then-are_plain
returns-then-are_plain c = plain_names (names c.args.pattern.now) (names_left c.args.subject) c.are_plain.result
    c.are_same.result c.are_plain.ensures c.if-are_plain.true c.are_same.ensures
