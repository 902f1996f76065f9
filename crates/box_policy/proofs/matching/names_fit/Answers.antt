use Rattle.std.proofs.Common.{map}
use Rattle.std.proofs.lemmas.Bool.Decides.{Decides-at}
use Rattle.box_policy.specs.Division.{fits}
use Rattle.box_policy.specs.NamesLeft.{names_left}
use Rattle.box_policy.specs.Paths.{names}
use Rattle.box_policy.specs.Patterns.{component_symbol}
use Rattle.box_policy.proofs.DividesLemmas.{fits-Decides}
use Rattle.box_policy.proofs.matching.names_fit.Goals as goal

pub returns-clause-division : goal.returns-clause-division
returns-clause-division c =
    Decides-at c.found_names.result (fits (map component_symbol (names c.args.pattern.now)) (names_left c.args.subject))
    c.found_names.ensures
    (fits-Decides (map component_symbol (names c.args.pattern.now)) (names_left c.args.subject))
