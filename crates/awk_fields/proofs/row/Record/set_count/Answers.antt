use Rattle.std.proofs.Common.{◌≡◌, ◌⊎◌, ◌<◌, List, ℕ, length, sym, ap, subst, ◌∙◌, to_z-of_z}
use Rattle.std.proofs.lemmas.Result.{err_from_is_err_and, on_err_weaker, on_ok_weaker}
use Rattle.std.specs.Prelude.{IfErr, OnOk, OnErr}
use Rattle.awk_text.specs.Limits.{most_bytes}
use Rattle.awk_text.specs.declared.fault.Fault.TheVariants.{Memory, TextTooLong}
use Rattle.awk_fields.specs.Edits.{AreSet, IsSame, edited_fields}
use Rattle.awk_fields.specs.Parts.{ArePartsKept, row_of}
use Rattle.awk_fields.specs.Rows.{place_of, rebuilt, with_count}
use Rattle.awk_fields.proofs.RowLemmas.{if_err_weaker, kept_same, sets_count, sets_no_count}
use Rattle.awk_fields.proofs.row.Record.set_count.Goals as goal

pub returns-in_err-edit_parts-clause-err : goal.returns-in_err-edit_parts-clause-err
returns-in_err-edit_parts-clause-err c =
    let p = err_from_is_err_and c.from_residual-in_err-edit_parts.result c.from_residual-in_err-edit_parts.ensures.1 in
    rw (p.1, ← c.self.view_is) (subst (λ (t : List ℕ). ArePartsKept t c.self.inside.parts c.edit_parts.new.parts)
    c.bytes.ensures c.in_err-edit_parts.ensures.kept)

pub returns-clause-ok : goal.returns-clause-ok
returns-clause-ok c =
    let text = c.self.inside.text in
    let parts = c.edit_parts.new.parts in
    let kept = subst (λ (t : List ℕ). ArePartsKept t c.self.inside.parts parts) c.bytes.ensures
    c.in_ok-edit_parts.ensures.kept in
    let place_is = sym (c.in_ok-count.ensures ∙ ap place_of (to_z-of_z c.ranges.n)) in
    rw (← c.self.view_is) (on_ok_weaker c.set_len.result
    (λ set. sets_count text c.args.ofs.now (row_of text c.self.inside.parts) parts c.set_len.new.edited c.args.n
    c.in_ok-count.count kept c.in_ok-edit_parts.ensures.edits place_is set)
    (subst (λ (t : List ℕ). OnOk c.set_len.result
    (AreSet t c.args.ofs.now (with_count (edited_fields t c.edit_parts.new.parts.edited) c.in_ok-count.count)
    c.set_len.new.edited)) c.bytes-2.ensures c.set_len.ensures.ok))

pub returns-clause-err : goal.returns-clause-err
returns-clause-err c =
    let text = c.self.inside.text in
    let parts = c.edit_parts.new.parts in
    let kept = subst (λ (t : List ℕ). ArePartsKept t c.self.inside.parts parts) c.bytes.ensures
    c.in_ok-edit_parts.ensures.kept in
    rw (← c.self.view_is) (on_err_weaker c.set_len.result
    (λ same. kept_same text (row_of text c.self.inside.parts) parts c.set_len.new.edited kept
    c.in_ok-edit_parts.ensures.edits same)
    (subst (λ (t : List ℕ). OnErr c.set_len.result (IsSame t parts.edited c.set_len.new.edited)) c.bytes-2.ensures
    c.set_len.ensures.err))

pub returns-clause-fault : goal.returns-clause-fault
returns-clause-fault c =
    let text = c.self.inside.text in
    let parts = c.edit_parts.new.parts in
    let kept = subst (λ (t : List ℕ). ArePartsKept t c.self.inside.parts parts) c.bytes.ensures
    c.in_ok-edit_parts.ensures.kept in
    let place_is = sym (c.in_ok-count.ensures ∙ ap place_of (to_z-of_z c.ranges.n)) in
    rw (← c.self.view_is) (if_err_weaker c.set_len.result
    (λ fault why. sets_no_count text c.args.ofs.now (row_of text c.self.inside.parts) parts c.args.n c.in_ok-count.count
    fault kept c.in_ok-edit_parts.ensures.edits place_is why)
    (subst (λ (t : List ℕ). IfErr c.set_len.result (λ e. (e ≡ Memory)
    ⊎ ((e ≡ TextTooLong) ×
    (most_bytes < length (rebuilt c.args.ofs.now (with_count (edited_fields t c.edit_parts.new.parts.edited)
    c.in_ok-count.count)))))) c.bytes-2.ensures c.set_len.ensures.fault))
