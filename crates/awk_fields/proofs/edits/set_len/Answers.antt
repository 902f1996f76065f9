use Rattle.std.proofs.Common.{◌≡◌, ◌-◌, ◌<◌, ◌≤◌, ℕ, List, length, map, take, drop, refl, sym, ap, subst, ◌∙◌, arith}
use Rattle.std.proofs.Common.{inr}
use Rattle.std.proofs.lemmas.Result.{err_from_is_err_and}
use Rattle.std.specs.Prelude.{All}
use Rattle.std.specs.List.{sum_by}
use Rattle.awk_text.specs.Limits.{most_bytes}
use Rattle.awk_text.specs.declared.value.Value.TheVariants.{Unset}
use Rattle.awk_fields.specs.Edits.{IsPartOf, part_bytes, field_of}
use Rattle.awk_fields.specs.Rows.{rebuilt, with_count}
use Rattle.awk_fields.specs.declared.part.Part.{Part}
use Rattle.awk_fields.specs.declared.part.Part.TheVariants.{Own}
use Rattle.awk_fields.proofs.EditLemmas.{count_all, map_count}
use Rattle.awk_fields.proofs.PartLemmas.{count_bytes, count_parts, count_whole, gone_le}
use Rattle.awk_fields.proofs.edits.set_len.Goals as goal

pub total_len-requires-clause-small : goal.total_len-requires-clause-small
total_len-requires-clause-small c =
    let all = c.deref.result.now in
    let le = gone_le c.args.text.now all (length all - c.min-stay.result) c.min-stay.result in
    let same : sum_by (part_bytes c.args.text.now) all ≡ c.args.edited.now.bytes =
    ap (sum_by (part_bytes c.args.text.now)) c.deref.ensures.value ∙ sym c.requires.sound.bytes_are in
    let small = c.requires.sound.small in
    omega arith

pub overflow_sub-bytes : goal.overflow_sub-bytes
overflow_sub-bytes c =
    let all = c.deref.result.now in
    let le = gone_le c.args.text.now all (length all - c.min-stay.result) c.min-stay.result in
    let same : sum_by (part_bytes c.args.text.now) all ≡ c.args.edited.now.bytes =
    ap (sum_by (part_bytes c.args.text.now)) c.deref.ensures.value ∙ sym c.requires.sound.bytes_are in
    let gone = c.total_len.ensures in
    omega arith

pub returns-in_err-fit-clause-fault : goal.returns-in_err-fit-clause-fault
returns-in_err-fit-clause-fault c =
    let text = c.args.text.now in
    let parts = c.args.edited.now.parts.items in
    let bytes = count_bytes text parts c.args.count c.min-stay.result c.args.edited.now.bytes c.total_len.result
    (omega (arith, c.min-stay.ensures, c.len.ensures, c.args.edited.now.parts.ok)) c.requires.sound.bytes_are
    (c.total_len.ensures ∙ ap (λ (ps : List Part). sum_by (part_bytes text) (take (length ps - c.min-stay.result)
    (drop c.min-stay.result ps))) c.deref.ensures.value) in
    let total = count_whole text c.args.ofs.now parts c.args.count _ (length c.args.ofs.now) bytes refl in
    let p = err_from_is_err_and c.from_residual.result c.from_residual.ensures.1 in
    rw (p.1, p.2) (inr (
      c.in_err-fit.ensures.fault.0,
      subst (λ n. most_bytes < n) (sym total) c.in_err-fit.ensures.fault.1,
    ))

pub returns-clause-ok : goal.returns-clause-ok
returns-clause-ok c =
    let text = c.args.text.now in
    let ofs = c.args.ofs.now in
    let parts = c.args.edited.now.parts.items in
    let bytes = count_bytes text parts c.args.count c.min-stay.result c.args.edited.now.bytes c.total_len.result
    (omega (arith, c.min-stay.ensures, c.len.ensures, c.args.edited.now.parts.ok)) c.requires.sound.bytes_are
    (c.total_len.ensures ∙ ap (λ (ps : List Part). sum_by (part_bytes text) (take (length ps - c.min-stay.result)
    (drop c.min-stay.result ps))) c.deref.ensures.value) in
    let total = count_whole text ofs parts c.args.count _ (length ofs) bytes refl in
    let now : c.truncate.new.self.items ≡ count_parts parts c.args.count = c.truncate.ensures.items
    ∙ ap (take c.args.count) c.in_ok-prepare.ensures.parts in
    let fields : map (field_of text) c.truncate.new.self.items ≡ with_count (map (field_of text) parts) c.args.count =
    ap (map (field_of text)) now ∙ map_count (field_of text) parts c.args.count (Own Unset) refl in
    record {
      fields_are = fields;
      whole_is = ap (λ (o : List ℕ). rebuilt o (map (field_of text) c.truncate.new.self.items))
          c.in_ok-prepare.ensures.ofs ∙ ap (rebuilt ofs) fields;
      fits = subst (λ n. n ≤ most_bytes) (sym total) c.in_ok-fit.ensures.fits;
    }

pub returns-clause-sound : goal.returns-clause-sound
returns-clause-sound c =
    let text = c.args.text.now in
    let parts = c.args.edited.now.parts.items in
    let bytes = count_bytes text parts c.args.count c.min-stay.result c.args.edited.now.bytes c.total_len.result
    (omega (arith, c.min-stay.ensures, c.len.ensures, c.args.edited.now.parts.ok)) c.requires.sound.bytes_are
    (c.total_len.ensures ∙ ap (λ (ps : List Part). sum_by (part_bytes text) (take (length ps - c.min-stay.result)
    (drop c.min-stay.result ps))) c.deref.ensures.value) in
    let now : count_parts parts c.args.count ≡ c.truncate.new.self.items =
    sym (c.truncate.ensures.items ∙ ap (take c.args.count) c.in_ok-prepare.ensures.parts) in
    record {
      within = subst (λ ps. All (IsPartOf text) ps) now (count_all (IsPartOf text) parts (c.args.count - length parts)
          c.args.count (Own Unset) tt c.requires.sound.within);
      bytes_are = bytes ∙ ap (sum_by (part_bytes text)) now;
      small = let fits = c.in_ok-fit.ensures.fits in omega arith;
    }
