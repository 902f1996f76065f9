use Rattle.std.proofs.Common.{◌≡◌, ◌+◌, ◌-◌, ◌<◌, ◌≤◌, ℕ, List, length, get_or, map, set, refl, sym, ap, subst, ◌∙◌}
use Rattle.std.proofs.Common.{arith, inr}
use Rattle.std.proofs.lemmas.Result.{err_from_is_err_and}
use Rattle.std.specs.Prelude.{All}
use Rattle.std.specs.List.{sum_by}
use Rattle.awk_text.specs.Limits.{most_bytes}
use Rattle.awk_text.specs.declared.value.Value.TheVariants.{Unset}
use Rattle.awk_fields.specs.Edits.{IsPartOf, part_bytes, field_of}
use Rattle.awk_fields.specs.Rows.{rebuilt, with_field}
use Rattle.awk_fields.specs.declared.part.Part.{Part}
use Rattle.awk_fields.specs.declared.part.Part.TheVariants.{Own}
use Rattle.awk_fields.proofs.EditLemmas.{map_put, put_all}
use Rattle.awk_fields.proofs.PartLemmas.{put_bytes, put_parts, put_whole}
use Rattle.awk_fields.proofs.edits.put.Goals as goal

pub returns-in_err-fit-clause-fault : goal.returns-in_err-fit-clause-fault
returns-in_err-fit-clause-fault c =
    let text = c.args.text.now in
    let parts = c.args.edited.now.parts.items in
    let bytes = put_bytes text parts c.args.at c.args.part c.args.edited.now.bytes c.len_at.result c.part_len.result
    c.requires.sound.bytes_are
    (c.len_at.ensures ∙ ap (λ (ps : List Part). part_bytes text (get_or ps c.args.at (Own Unset)))
    c.as_slice.ensures.value) c.part_len.ensures in
    let total = put_whole text c.args.ofs.now parts c.args.at c.args.part _ c.max-count.result (length c.args.ofs.now)
    bytes (omega (arith, c.max-count.ensures, c.len.ensures, c.args.edited.now.parts.ok)) refl in
    let p = err_from_is_err_and c.from_residual.result c.from_residual.ensures.1 in
    rw (p.1, p.2) (inr (
      c.in_err-fit.ensures.fault.0,
      subst (λ n. most_bytes < n) (sym total) c.in_err-fit.ensures.fault.1,
    ))

pub returns-clause-ok : goal.returns-clause-ok
returns-clause-ok c =
    let text = c.args.text.now in
    let ofs = c.args.ofs.now in
    let parts = c.args.edited.now.parts.items in
    let part = c.args.part in
    let bytes = put_bytes text parts c.args.at part c.args.edited.now.bytes c.len_at.result c.part_len.result
    c.requires.sound.bytes_are
    (c.len_at.ensures ∙ ap (λ (ps : List Part). part_bytes text (get_or ps c.args.at (Own Unset)))
    c.as_slice.ensures.value) c.part_len.ensures in
    let total = put_whole text ofs parts c.args.at part _ c.max-count.result (length ofs) bytes
    (omega (arith, c.max-count.ensures, c.len.ensures, c.args.edited.now.parts.ok)) refl in
    let fields : map (field_of text) (set c.prepare.new.parts.items c.args.at part)
    ≡ with_field (map (field_of text) parts) c.args.at (field_of text part) =
    ap (λ (ps : List Part). map (field_of text) (set ps c.args.at part)) c.in_ok-prepare.ensures.parts
    ∙ map_put (field_of text) parts c.args.at part (Own Unset) refl in
    record {
      fields_are = fields;
      whole_is = ap (λ (o : List ℕ). rebuilt o
          (map (field_of text) (set c.prepare.new.parts.items c.args.at part))) c.in_ok-prepare.ensures.ofs
          ∙ ap (rebuilt ofs) fields;
      fits = subst (λ n. n ≤ most_bytes) (sym total) c.in_ok-fit.ensures.fits;
    }

pub returns-clause-sound : goal.returns-clause-sound
returns-clause-sound c =
    let text = c.args.text.now in
    let parts = c.args.edited.now.parts.items in
    let part = c.args.part in
    let bytes = put_bytes text parts c.args.at part c.args.edited.now.bytes c.len_at.result c.part_len.result
    c.requires.sound.bytes_are
    (c.len_at.ensures ∙ ap (λ (ps : List Part). part_bytes text (get_or ps c.args.at (Own Unset)))
    c.as_slice.ensures.value) c.part_len.ensures in
    let set_is : put_parts parts c.args.at part ≡ set c.prepare.new.parts.items c.args.at part =
    ap (λ (ps : List Part). set ps c.args.at part) (sym c.in_ok-prepare.ensures.parts) in
    record {
      within = subst (λ ps. All (IsPartOf text) ps) set_is (put_all (IsPartOf text) parts (c.args.at + 1 - length parts)
          c.args.at part (Own Unset) tt c.requires.within c.requires.sound.within);
      bytes_are = bytes ∙ ap (sum_by (part_bytes text)) set_is;
      small = let fits = c.in_ok-fit.ensures.fits in omega arith;
    }
