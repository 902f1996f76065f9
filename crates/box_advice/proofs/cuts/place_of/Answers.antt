use Rattle.std.specs.Fmt.{decimal}
use Rattle.box_advice.proofs.LogLinesLemmas.{no_colon, same_place}
use Rattle.box_advice.proofs.cuts.place_of.Goals as goal

pub returns-in_err-parts-clause-found : goal.returns-in_err-parts-clause-found
returns-in_err-parts-clause-found c place is e =
    absurd (c.in_err-parts.ensures.found (decimal place.line) (decimal place.column) (no_colon place.line is.line) e)

pub returns-in_err-line-clause-found : goal.returns-in_err-line-clause-found
returns-in_err-line-clause-found c place is e =
    let parts = c.in_ok-parts.ensures.found (decimal place.line) (decimal place.column) (no_colon place.line is.line) e
    in
    absurd (c.in_err-line.ensures.found place.line is.line parts.0)

pub returns-in_err-column-clause-found : goal.returns-in_err-column-clause-found
returns-in_err-column-clause-found c place is e =
    let parts = c.in_ok-parts.ensures.found (decimal place.line) (decimal place.column) (no_colon place.line is.line) e
    in
    absurd (c.in_err-column.ensures.found place.column is.column parts.1)

pub returns-clause-found : goal.returns-clause-found
returns-clause-found c place is e =
    let parts = c.in_ok-parts.ensures.found (decimal place.line) (decimal place.column) (no_colon place.line is.line) e
    in
    same_place c.in_ok-line.line c.in_ok-column.column place (c.in_ok-line.ensures.found place.line is.line parts.0)
    (c.in_ok-column.ensures.found place.column is.column parts.1)
