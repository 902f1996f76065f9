use Rattle.awk_fields.proofs.Places.{none_between, first_between}
use Rattle.memchr.specs.Find.{is_byte}
use Rattle.awk_fields.proofs.spans.newline_place.Goals as goal

pub returns-in_err-memchr : goal.returns-in_err-memchr
returns-in_err-memchr c =
    rw c.from_residual.ensures (none_between (is_byte 10) c.args.text.now c.args.from c.args.end c.requires.ordered
    c.requires.inside c.in_err-memchr.ensures)

pub returns : goal.returns
returns c = first_between (is_byte 10) c.args.text.now c.args.from c.args.end c.in_ok-memchr.field-0 c.requires.ordered
    c.requires.inside c.in_ok-memchr.ensures
