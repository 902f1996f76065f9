use Rattle.std.proofs.Common.{not, drop, arith, length-drop}
use Rattle.std.proofs.lemmas.List.Sums.{prefix_len-le-length}
use Rattle.awk_fields.specs.Marks.{is_mark}
use Rattle.awk_fields.proofs.MarkSteps.{mark_found, mark_behind}
use Rattle.awk_fields.proofs.marks.Marks.len_before.Goals as goal

pub returns-then-found-ne0-clause-place : goal.returns-then-found-ne0-clause-place
returns-then-found-ne0-clause-place c =
    let here = mark_found (is_mark c.args.self) c.args.text.now c.loop-passed.passed c.in_block-found.result
    c.in_block-found.ensures (omega arith) in
    omega (arith, here, c.loop-passed.invariant.place)

pub returns-then-found-ne0-clause-inside : goal.returns-then-found-ne0-clause-inside
returns-then-found-ne0-clause-inside c =
    let p = is_mark c.args.self in
    let s = c.args.text.now in
    let here = mark_found p s c.loop-passed.passed c.in_block-found.result c.in_block-found.ensures (omega arith) in
    omega (
      arith,
      here,
      prefix_len-le-length (λ b. not (p b)) (drop c.loop-passed.passed s),
      length-drop c.loop-passed.passed s,
      c.loop-passed.invariant.inside,
    )

pub loop-passed-preserved : goal.loop-passed-preserved
loop-passed-preserved c =
    let passed = c.loop-passed.passed in
    let step = c.min-passed.result in
    let behind = mark_behind (is_mark c.args.self) c.args.text.now passed c.in_block-found.result
    c.in_block-found.ensures c.if-found-ne0.false c.loop-passed.invariant.inside step c.min-passed.ensures in
    record {
      place = omega (arith, behind, c.loop-passed.invariant.place);
      inside = omega (arith, c.min-passed.ensures, c.loop-passed.invariant.inside);
    }
