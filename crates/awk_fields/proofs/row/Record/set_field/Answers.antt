use Rattle.std.proofs.Common.{◌≡◌, ◌⊎◌, ◌<◌, List, ℕ, length, sym, ap, subst, ◌∙◌, to_z-of_z}
use Rattle.std.proofs.lemmas.Result.{err_from_is_err_and, on_err_weaker, on_ok_weaker}
use Rattle.std.specs.Prelude.{IfErr, OnOk, OnErr}
use Rattle.awk_text.specs.Limits.{most_bytes}
use Rattle.awk_text.specs.declared.fault.Fault.TheVariants.{Memory, TextTooLong}
use Rattle.awk_fields.specs.Edits.{AreSet, IsSame, edited_fields}
use Rattle.awk_fields.specs.Parts.{ArePartsKept, row_of}
use Rattle.awk_fields.specs.Rows.{field_place, plain, rebuilt, with_field}
use Rattle.awk_fields.proofs.RowLemmas.{if_err_weaker, kept_same, sets_field, sets_no_field}
use Rattle.awk_fields.proofs.row.Record.set_field.Goals as goal

pub returns-in_err-edit_parts-clause-err : goal.returns-in_err-edit_parts-clause-err
returns-in_err-edit_parts-clause-err c =
    let p = err_from_is_err_and c.from_residual-in_err-edit_parts.result c.from_residual-in_err-edit_parts.ensures.1 in
    rw (p.1, ← c.self.view_is) (subst (λ (t : List ℕ). ArePartsKept t c.self.inside.parts c.edit_parts.new.parts)
    c.bytes.ensures c.in_err-edit_parts.ensures.kept)

pub returns-clause-ok : goal.returns-clause-ok
returns-clause-ok c =
    let text = c.self.inside.text in
    let parts = c.edit_parts.new.parts in
    let kept = subst (λ (t : List ℕ). ArePartsKept t c.self.inside.parts parts) c.bytes.ensures
    c.in_ok-edit_parts.ensures.kept in
    let place_is = sym (c.in_ok-at.ensures.place ∙ ap field_place (to_z-of_z c.ranges.n)) in
    rw (← c.self.view_is) (on_ok_weaker c.put.result
    (λ set. sets_field text c.args.ofs.now (row_of text c.self.inside.parts) parts c.put.new.edited c.args.n
    c.in_ok-at.at (plain c.args.value) kept c.in_ok-edit_parts.ensures.edits place_is set)
    (subst (λ (t : List ℕ). OnOk c.put.result
    (AreSet t c.args.ofs.now (with_field (edited_fields t c.edit_parts.new.parts.edited) c.in_ok-at.at
    (plain c.args.value)) c.put.new.edited)) c.bytes-2.ensures c.put.ensures.ok))

pub returns-clause-err : goal.returns-clause-err
returns-clause-err c =
    let text = c.self.inside.text in
    let parts = c.edit_parts.new.parts in
    let kept = subst (λ (t : List ℕ). ArePartsKept t c.self.inside.parts parts) c.bytes.ensures
    c.in_ok-edit_parts.ensures.kept in
    rw (← c.self.view_is) (on_err_weaker c.put.result
    (λ same. kept_same text (row_of text c.self.inside.parts) parts c.put.new.edited kept
    c.in_ok-edit_parts.ensures.edits same)
    (subst (λ (t : List ℕ). OnErr c.put.result (IsSame t parts.edited c.put.new.edited)) c.bytes-2.ensures
    c.put.ensures.err))

pub returns-clause-fault : goal.returns-clause-fault
returns-clause-fault c =
    let text = c.self.inside.text in
    let parts = c.edit_parts.new.parts in
    let kept = subst (λ (t : List ℕ). ArePartsKept t c.self.inside.parts parts) c.bytes.ensures
    c.in_ok-edit_parts.ensures.kept in
    let place_is = sym (c.in_ok-at.ensures.place ∙ ap field_place (to_z-of_z c.ranges.n)) in
    rw (← c.self.view_is) (if_err_weaker c.put.result
    (λ fault why. sets_no_field text c.args.ofs.now (row_of text c.self.inside.parts) parts c.args.n c.in_ok-at.at
    (plain c.args.value) fault kept c.in_ok-edit_parts.ensures.edits place_is why)
    (subst (λ (t : List ℕ). IfErr c.put.result (λ e. (e ≡ Memory)
    ⊎ ((e ≡ TextTooLong) ×
    (most_bytes < length (rebuilt c.args.ofs.now (with_field (edited_fields t c.edit_parts.new.parts.edited)
    c.in_ok-at.at (plain c.args.value))))))) c.bytes-2.ensures c.put.ensures.fault))
