use Rattle.std.proofs.Common.{take, ap, sym, ◌∙◌}
use Rattle.awk_numbers.specs.General.{shortened}
use Rattle.awk_numbers.proofs.general.shorten.Goals as goal

pub returns : goal.returns
returns c =
    c.truncate.ensures.items ∙ ap (take c.shortened_length-length.result) (sym c.deref.ensures.value)
    ∙ c.shortened_length-length.ensures ∙ ap (shortened c.args.places) c.deref.ensures.value
