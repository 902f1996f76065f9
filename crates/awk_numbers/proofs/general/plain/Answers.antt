use Rattle.std.proofs.Common.{ap, ◌∙◌}
use Rattle.awk_numbers.specs.General.{shortened}
use Rattle.awk_numbers.proofs.general.plain.Goals as goal

pub returns : goal.returns
returns c = c.shorten.ensures ∙ ap (shortened c.args.places) c.in_ok-text.ensures
