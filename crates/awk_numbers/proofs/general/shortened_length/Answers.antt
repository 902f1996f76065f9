use Rattle.std.proofs.Common.{◌≤◌, length, ap, sym, arith, ◌∙◌}
use Rattle.std.proofs.lemmas.List.{length-take, take-take}
use lib.Seq.{take_all}
use Rattle.awk_numbers.specs.General.{stripped}
use Rattle.awk_numbers.proofs.Styles.{no_places, some_places}
use Rattle.awk_numbers.proofs.general.shortened_length.Goals as goal

pub returns-then-places-eq0 : goal.returns-then-places-eq0
returns-then-places-eq0 c =
    let xs = c.args.text.now in
    take_all (length xs) xs (omega arith) ∙ no_places c.args.places xs c.if-places-eq0.true

pub returns : goal.returns
returns c =
    let xs = c.args.text.now in
    let k = c.stripped_length-length.result in
    let less : c.stripped_length.result ≤ k = omega (arith, c.stripped_length.ensures.fits, length-take k xs) in
    sym (take-take c.stripped_length.result k xs less) ∙ c.stripped_length.ensures.value
    ∙ ap (stripped 46) c.stripped_length-length.ensures.value
    ∙ some_places c.args.places xs c.if-places-eq0.false
