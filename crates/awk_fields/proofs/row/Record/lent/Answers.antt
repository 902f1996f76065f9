use Rattle.std.proofs.Common.{◌-◌, ℕ, List, slice_index_or, ap, ◌∙◌}
use Rattle.awk_text.specs.Lents.{lent_value}
use Rattle.awk_fields.specs.Parts.{fields_of, whole_of}
use Rattle.awk_fields.specs.Rows.{IsValueAt, blank}
use Rattle.awk_fields.proofs.RowLemmas.{held_split, value_at_place, some_both}
use Rattle.awk_fields.proofs.row.Record.lent.Goals as goal

pub returns : goal.returns
returns c =
    let whole = c.self.inside.text in
    let parts = c.self.inside.parts in
    let at = λ (w : List ℕ). (slice_index_or (fields_of w parts) (c.args.n - 1) blank).value in
    some_both {R = λ v. IsValueAt c.args.self.now c.args.n (lent_value v)} c.lent_at.result
    (λ v split is. rw (← c.self.view_is) (value_at_place _ c.args.n (lent_value v) (fields_of whole parts)
    c.if-n-eq0.false (held_split (whole_of whole parts) parts.state (fields_of whole parts) split)
    (is ∙ ap at c.bytes.ensures)))
    c.lent_at.ensures.split c.lent_at.ensures.value
