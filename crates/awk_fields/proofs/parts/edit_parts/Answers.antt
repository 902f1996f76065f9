use Rattle.std.proofs.Common.{map, ap, subst, ◌∙◌}
use Rattle.awk_fields.specs.Parts.{row_of}
use Rattle.awk_fields.specs.Rows.{IsKept}
use Rattle.awk_fields.specs.declared.part.Part.TheVariants.{Cut}
use Rattle.awk_fields.proofs.PartLemmas.{cut_within}
use Rattle.awk_fields.proofs.RowLemmas.{row_of_spans, spans_within}
use Rattle.awk_fields.proofs.parts.edit_parts.Goals as goal

pub returns-clause-kept : goal.returns-clause-kept
returns-clause-kept c =
    let text = c.args.text.now in
    subst (λ row. IsKept (row_of text c.args.parts.now) row)
    (row_of_spans text c.split_unsplit.new.parts c.cut.new.parts.items c.in-Spans.is (c.in_ok-parts.ensures.parts
    ∙ ap (map Cut) c.as_slice.ensures.value)) c.in_ok-split_unsplit.ensures.kept

pub returns-clause-sound : goal.returns-clause-sound
returns-clause-sound c =
    let text = c.args.text.now in
    let spans = c.split_unsplit.new.parts.spans.items in
    record {
      within = cut_within text spans c.cut.new.parts.items (c.in_ok-parts.ensures.parts
          ∙ ap (map Cut) c.as_slice.ensures.value) (spans_within text c.split_unsplit.new.parts c.in-Spans.is
          c.in_ok-split_unsplit.ensures.sound);
      bytes_are = c.in_ok-parts.ensures.bytes;
      small = c.in_ok-parts.ensures.small;
    }
