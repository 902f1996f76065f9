use Rattle.std.proofs.Common.{◌∙◌, sym, arith}
use Rattle.awk_fields.specs.Marks.{is_mark}
use Rattle.awk_fields.proofs.Marked.{more_marked, more_unmarked}
use Rattle.awk_fields.proofs.marks.Marks.in_few.Goals as goal
use Rattle.awk_fields.proofs.marks.Marks.in_few.Goals.{then-has, else-has}

pub loop-i-preserved : goal.loop-i-preserved
loop-i-preserved c =
    let p = is_mark c.args.self in
    let s = c.args.bytes.now in
    elim c.if-has.branch [
      | then-has w ↦ w.found-is ∙ more_marked p s c.loop-i.i c.loop-i.found (omega arith) c.loop-i.invariant c.requires
          (sym c.has.ensures ∙ w.if-has.true)
      | else-has w ↦ w.found-is ∙ more_unmarked p s c.loop-i.i c.loop-i.found (omega arith) c.loop-i.invariant
          (sym c.has.ensures ∙ w.if-has.false)
    ]
