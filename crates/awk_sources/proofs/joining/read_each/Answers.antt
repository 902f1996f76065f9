use Rattle.std.proofs.Common.{◌≡◌, ap, sym, subst, ◌∙◌, ◌+◌, arith, take, All}
use Rattle.std.proofs.lemmas.List.{take_all}
use Rattle.awk_tokens.specs.Places.{capped}
use Rattle.awk_tokens.specs.Reads.{Refuses, Reads}
use Rattle.awk_sources.specs.Joined.{texts_of}
use Rattle.awk_sources.specs.Lines.{lines_of}
use Rattle.awk_sources.specs.Parts.{IsRead}
use Rattle.awk_sources.proofs.PlaceLemmas.{lines_more, all_more, refused_in}
use Rattle.awk_sources.proofs.joining.read_each.Goals as goal

pub returns-in-Err-clause-refused : goal.returns-in-Err-clause-refused
returns-in-Err-clause-refused c =
    let at = c.loop-source in
    let e = c.in-Err.field-0 in
    λ other.
    refused_in c.args.numbers c.args.sources.now at.source-index c.source-item.result at.lines
    c.saturating_add-line.result e.code
    e.place (omega arith) c.source-item.is at.invariant.0 at.invariant.1 c.saturating_add-line.ensures
    (subst (λ z. Refuses c.args.numbers z e.code e.place) c.as_slice-text.ensures.value
    (c.in-Err.ensures.refused other))

pub loop-source-preserved : goal.loop-source-preserved
loop-source-preserved c =
    let sources = c.args.sources.now in
    let at = c.loop-source in
    let s = c.source-item.result in
    let text = c.as_slice-text.ensures.value in (
      lines_more sources at.source-index s at.lines c.with_lines-lines.result (omega arith) c.source-item.is
          at.invariant.0 (c.with_lines-lines.ensures ∙ ap (λ z. capped (at.lines + lines_of z)) text),
      all_more c.args.numbers sources at.source-index s (omega arith) c.source-item.is at.invariant.1 (
        c.in_default.field-0.items,
        subst (λ z. Reads c.args.numbers z c.in_default.field-0.items) text c.in_default.ensures.read,
      ),
    )

pub returns-clause-read : goal.returns-clause-read
returns-clause-read c =
    let at = c.loop-source in
    subst (λ xs. All (IsRead c.args.numbers) (texts_of xs)) (take_all at.source-index c.args.sources.now
    (omega arith)) at.invariant.1
