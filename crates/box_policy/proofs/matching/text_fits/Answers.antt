use Rattle.std.proofs.lemmas.Bool.Decides.{Decides-at}
use Rattle.box_policy.specs.Division.{fits}
use Rattle.box_policy.specs.Patterns.{symbols}
use Rattle.box_policy.proofs.DividesLemmas.{fits-Decides}
use Rattle.box_policy.proofs.matching.text_fits.Goals as goal

pub returns-clause-division : goal.returns-clause-division
returns-clause-division c =
    Decides-at c.found_text.result (fits (symbols c.args.sort c.args.pattern.now) c.args.text.now) c.found_text.ensures
    (fits-Decides (symbols c.args.sort c.args.pattern.now) c.args.text.now)
