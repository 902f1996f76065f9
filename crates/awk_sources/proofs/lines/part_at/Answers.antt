use Rattle.std.proofs.Common.{◌≡◌, ◌+◌, ◌-◌, ap, sym, subst, ◌∙◌, refl, arith, take}
use Rattle.std.proofs.lemmas.List.{take_all}
use Rattle.awk_sources.specs.Lines.{entries, total, HasNoLine}
use Rattle.awk_sources.proofs.LineLemmas.{entry, is_line, past_all, total_more}
use Rattle.awk_sources.proofs.lines.part_at.Goals as goal

pub loop-part-init : goal.loop-part-init
loop-part-init c = let some = c.if-line-eq0.false in (omega arith, grind arith)

pub returns-then-line-part-clause-told : goal.returns-then-line-part-clause-told
returns-then-line-part-clause-told c =
    let at = c.loop-part in
    let p = c.part-item.result in
    record {
      entry = entry p;
      line = is_line c.args.parts.now at.part-index c.args.place.line at.line p (omega arith) c.part-item.is
          at.invariant.0 at.invariant.1 c.if-line-part.true;
      name = c.as_str.ensures.value;
      column = refl;
    }

pub loop-part-preserved : goal.loop-part-preserved
loop-part-preserved c =
    let at = c.loop-part in
    let p = c.part-item.result in
    let more = total_more c.args.parts.now at.part-index p (omega arith) c.part-item.is in
    let line_is = at.invariant.0 in
    let less = c.if-line-part.false in
    (omega arith, omega arith)

pub returns-clause-none : goal.returns-clause-none
returns-clause-none c =
    let at = c.loop-part in
    let all = take_all at.part-index c.args.parts.now (omega arith) in
    λ none. past_all (entries c.args.parts.now) c.args.place.line at.line
    (at.invariant.0 ∙ ap (λ ps. total (entries ps) + at.line) all) at.invariant.1
