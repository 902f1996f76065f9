use Rattle.std.proofs.Common.{rules, subst, IsPermutation}
use Rattle.std.proofs.lemmas.List.Sorted.{answers_always}
use Rattle.std.proofs.lemmas.Result.{on_ok_weaker}
use Rattle.std.specs.Option.{option_map_or}
use Rattle.awk_lib.specs.Kept.{mapped_rows}
use Rattle.awk_lib.specs.Numbering.{rows}
use Rattle.awk_lib.proofs.Mapped.{sorted_rows}
use Rattle.awk_lib.proofs.Order.{numbers_permuted}
use Rattle.awk_lib.proofs.elements.Elements.settle.Goals as goal

pub returns-clause-same : goal.returns-clause-same
returns-clause-same g c =
    let fs = c.sort_unstable_by_key.new.self.entries in
    let sorted = sorted_rows c.compact.new.self.map.entries fs c.compact.ensures.filled
    c.sort_unstable_by_key.ensures.reordered.0 in
    subst (λ l. IsPermutation l (rows fs)) c.compact.ensures.rows sorted.0

pub returns-clause-ok : goal.returns-clause-ok
returns-clause-ok g c =
    let fs = c.sort_unstable_by_key.new.self.entries in
    let sorted = sorted_rows c.compact.new.self.map.entries fs c.compact.ensures.filled
    c.sort_unstable_by_key.ensures.reordered.0 in
    let moves = subst (λ l. IsPermutation l (rows fs)) c.compact.ensures.rows sorted.0 in
    on_ok_weaker c.sort_unstable_by_key.result
    (λ h d. sorted.1 (h (λ e. option_map_or (λ x. x.number) e.1 0)
    (answers_always _ _ _ (λ f a r f' k. search rules))) (numbers_permuted (mapped_rows c.args.self.now)
    (rows fs) moves d))
    c.sort_unstable_by_key.ensures.sorted
