use Rattle.std.proofs.Common.{◌-◌, ℕ, List, slice_index_or, sym, ap, subst, ◌∙◌, to_z-of_z}
use Rattle.std.proofs.lemmas.Result.{IfOk-weaker}
use Rattle.awk_fields.specs.Rows.{blank, place_of}
use Rattle.awk_fields.specs.Parts.{ArePartsKept, fields_of, whole_of}
use Rattle.awk_fields.proofs.RowLemmas.{held_split, value_at_place}
use Rattle.awk_fields.proofs.row.Record.get.Goals as goal

pub returns-clause-ok : goal.returns-clause-ok
returns-clause-ok c =
    let whole = c.self.inside.text in
    let parts = c.split_parts.new.parts in
    let number = c.in_ok-number.number in
    let given = c.in_ok-number.ensures in
    let at = λ (w : List ℕ). (slice_index_or (fields_of w parts) (number - 1) blank).value in
    IfOk-weaker c.field_at.result _ _
    (λ v is. (
      number,
      sym (given ∙ ap place_of (to_z-of_z c.ranges.n)),
      value_at_place _ number v (fields_of whole parts) c.if-number-eq0.false
          (held_split (whole_of whole parts) parts.state (fields_of whole parts) c.in_ok-split_parts.ensures.split)
          (is ∙ ap at c.bytes-2.ensures),
    ))
    c.field_at.ensures.ok

pub returns-in_err-split_parts-clause-kept : goal.returns-in_err-split_parts-clause-kept
returns-in_err-split_parts-clause-kept c =
    rw (← c.self.view_is) (subst (λ (t : List ℕ). ArePartsKept t c.self.inside.parts c.split_parts.new.parts)
    c.bytes.ensures c.in_err-split_parts.ensures.kept)

pub returns-clause-kept : goal.returns-clause-kept
returns-clause-kept c =
    rw (← c.self.view_is) (subst (λ (t : List ℕ). ArePartsKept t c.self.inside.parts c.split_parts.new.parts)
    c.bytes.ensures c.in_ok-split_parts.ensures.kept)
