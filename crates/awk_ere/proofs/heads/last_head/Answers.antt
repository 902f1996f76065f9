use Rattle.std.proofs.Common.{arith}
use Rattle.awk_ere.proofs.Beginnings.{rest_none, rest_inside, rest_first}
use Rattle.awk_ere.proofs.heads.last_head.Goals as goal

pub returns-then-found-eq0-clause-none : goal.returns-then-found-eq0-clause-none
returns-then-found-eq0-clause-none c =
    rest_none c.args.heads.now c.args.text.now c.args.last (omega (arith, c.requires.last)) c.args.place
    c.requires.place.0 (omega arith) c.marks_at.result c.marks_at.ensures c.if-found-eq0.true

pub returns-else-found-eq0-clause-inside : goal.returns-else-found-eq0-clause-inside
returns-else-found-eq0-clause-inside c =
    let inside = rest_inside c.args.heads.now c.args.text.now c.args.last (omega (arith, c.requires.last)) c.args.place
    c.requires.place.0 (omega arith) c.marks_at.result c.marks_at.ensures c.if-found-eq0.false in
    (omega arith, omega (arith, inside, c.requires.last))

pub returns-else-found-eq0-clause-none : goal.returns-else-found-eq0-clause-none
returns-else-found-eq0-clause-none c =
    rest_first c.args.heads.now c.args.text.now c.args.last (omega (arith, c.requires.last)) c.args.place
    c.requires.place.0 (omega arith) c.marks_at.result c.marks_at.ensures c.if-found-eq0.false
