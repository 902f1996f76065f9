use Rattle.std.proofs.Common.{◌++◌, ap, sym, ◌∙◌, refl, arith, string_bytes}
use Rattle.std.proofs.lemmas.List.{append-nil, drop_all}
use Rattle.awk_sources.specs.Lines.{entries, row_text, table}
use Rattle.awk_sources.proofs.LineLemmas.{rows_step}
use Rattle.awk_sources.proofs.lines.rows.Goals as goal

pub loop-part-init : goal.loop-part-init
loop-part-init c = λ small. (ap (λ w. w ++ table 1 (entries c.args.parts.now)) c.new-table.ensures.bytes, refl)

pub loop-part-preserved : goal.loop-part-preserved
loop-part-preserved c =
    let at = c.loop-part in
    let next = c.saturating_add-next.result in
    let last = c.saturating_sub.result in
    λ small.
    rows_step c.args.parts.now at.part-index at.first next last c.part-item.result (string_bytes at.table)
    (string_bytes c.in_ok-line.line) (string_bytes c.push_str.new.self) (omega arith) c.part-item.is small
    (at.invariant small) c.saturating_add-next.ensures c.saturating_sub.ensures (c.in_ok-line.ensures
    ∙ ap (row_text at.first last) c.as_str.ensures.value)
    (c.in_ok-push_str.ensures.bytes ∙ ap (λ w. string_bytes at.table ++ w) c.as_str-in-loop-part.ensures.value)

pub returns : goal.returns
returns c =
    let at = c.loop-part in
    λ small.
    sym (append-nil (string_bytes at.table)) ∙ ap (λ ps. string_bytes at.table ++ table at.first (entries ps))
    (sym (drop_all at.part-index c.args.parts.now (omega arith))) ∙ (at.invariant small).0
