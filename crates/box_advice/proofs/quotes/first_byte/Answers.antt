use Rattle.std.proofs.Common.{◌∙◌, arith}
use Rattle.box_advice.proofs.QuotesLemmas.{escape_here, not_empty, plain_here, rest_is}
use Rattle.box_advice.proofs.quotes.first_byte.Goals as goal

pub returns-then-byte-eq92-clause-found : goal.returns-then-byte-eq92-clause-found
returns-then-byte-eq92-clause-found c byte more small e =
    c.escaped_byte.ensures.found byte more small (rest_is c.args.line.now ∙ escape_here byte more c.args.line.now e
    c.if-byte-eq92.true)

pub returns-in-empty-clause-found : goal.returns-in-empty-clause-found
returns-in-empty-clause-found c byte more small e = omega (
  arith,
  not_empty byte more c.args.line.now e,
  c.in-empty.len_below,
)

pub returns-else-byte-eq92-clause-found : goal.returns-else-byte-eq92-clause-found
returns-else-byte-eq92-clause-found c byte more small e =
    let plain = plain_here byte more c.args.line.now e c.if-byte-eq92.false in
    (plain.0, rest_is c.args.line.now ∙ plain.1)
