use Rattle.std.proofs.Common.{◌≡◌, ◌<◌, ap, sym, subst, ◌∙◌, length, arith, All}
use Rattle.std.proofs.lemmas.List.{length-map}
use Rattle.awk_sources.specs.Joined.{joined, texts_of}
use Rattle.awk_sources.specs.Parts.{IsRead, IsReadByText}
use Rattle.awk_sources.proofs.ReadLemmas.{read_by_text}
use Rattle.awk_sources.proofs.joining.joined.Goals as goal
use Rattle.awk_sources.proofs.joining.joined.Goals.{then-len-eq1+in_default, else-len-eq1}

pub returns-in-Ok-clause-read : goal.returns-in-Ok-clause-read
returns-in-Ok-clause-read c =
    λ several.
    elim c.if-len-eq1.branch [
      | then-len-eq1+in_default w ↦ let len = c.len.ensures in let one = w.if-len-eq1.true in absurd (omega arith)
      | else-len-eq1 w ↦
          let sources = c.args.sources.items in
          let is = ap (λ v. v.items) w.sources-is in
          read_by_text c.args.numbers (texts_of sources) c.in-Ok.whole.items
          (omega (arith, length-map sources (λ x. x.text.items)))
          (subst (λ xs. All (IsRead c.args.numbers) (texts_of xs)) (c.as_slice.ensures.value
          ∙ is) c.in_ok-read_each.ensures.read)
          (c.in-Ok.ensures ∙ ap (λ xs. joined (texts_of xs)) (c.as_slice-2.ensures.value ∙ is))
    ]
