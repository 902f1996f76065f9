use Rattle.std.proofs.Common.{sym, refl}
use Rattle.std.proofs.lemmas.List.{length-take-le}
use Rattle.awk_tokens.proofs.FirstLemmas.{first_found, first_refused}
use Rattle.awk_tokens.proofs.StepLemmas.{first_within, next_made}
use Rattle.awk_tokens.proofs.reading.next_token.Goals as goal

pub returns-in-Err-clause-refused : goal.returns-in-Err-clause-refused
returns-in-Err-clause-refused c = (
  λ _. first_refused c.args.numbers c.args.operand c.args.rest.now c.in-Err.code c.requires.some c.requires.no_gap
      (sym c.in-Err.ensures),
  refl,
)

pub slice_bounds-slice-end : goal.slice_bounds-slice-end
slice_bounds-slice-end c =
    let z = c.args.rest.now in
    let found = c.in-Ok.found in
    let first = first_found c.args.numbers c.args.operand z found.0 found.1 c.requires.some (sym c.in-Ok.ensures) in
    sym (length-take-le found.1 z (first_within c.args.numbers c.args.operand z found.0 found.1 first))

pub returns-clause-read : goal.returns-clause-read
returns-clause-read c =
    let z = c.args.rest.now in
    let found = c.in-Ok.found in
    let first = first_found c.args.numbers c.args.operand z found.0 found.1 c.requires.some (sym c.in-Ok.ensures) in
    next_made c.args.numbers c.args.operand z c.args.start c.args.place c.place_after-end.result found.0 found.1
    c.in-Ok-text_of.text first c.in-Ok-text_of.ensures c.place_after-end.ensures
