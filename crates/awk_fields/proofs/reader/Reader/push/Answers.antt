use Rattle.std.proofs.Common.{◌≡◌, ◌++◌, drop, length, sym, ap, subst, ◌∙◌, arith, length-append}
use Rattle.std.proofs.lemmas.List.{drop-append-le}
use Rattle.awk_fields.specs.Unread.{IsSearched}
use Rattle.awk_fields.proofs.HeadLemmas.{searched_more}
use Rattle.awk_fields.proofs.reader.Reader.push.Goals as goal

pub invariant_of-self-2 : goal.invariant_of-self-2
invariant_of-self-2 c =
    let bytes = c.args.bytes.now in
    let kept = c.compact-self-inside.new.bytes.items in
    let start = c.compact-self-inside.result in
    let searched = c.self.inside.searched in
    let old = drop c.self.inside.start c.self.inside.bytes.items in
    let grown : c.extend_from_slice.new.self.items ≡ kept ++ bytes = c.in_ok-extend_from_slice.ensures.items in
    let same : drop start c.extend_from_slice.new.self.items ≡ old ++ bytes =
    ap (drop start) grown ∙ (drop-append-le start kept bytes c.compact-self-inside.ensures.inside
    ∙ ap (λ z. z ++ bytes) c.compact-self-inside.ensures.unread) in (
      omega (arith, ap length grown, length-append kept bytes, c.compact-self-inside.ensures.inside),
      subst (λ z. IsSearched z searched) (sym same) (searched_more old bytes searched c.self.invariant.1),
    )
