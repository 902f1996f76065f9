use Rattle.std.proofs.Common.{◌∙◌, rules}
use Rattle.std.proofs.lemmas.List.Sorted.{answers_always}
use Rattle.std.proofs.lemmas.Result.{IfOk-weaker}
use Rattle.awk_lib.specs.Kept.{rows_of}
use Rattle.awk_lib.proofs.Keys.{keys_sorted}
use Rattle.awk_lib.proofs.elements.Elements.sorted_keys.Goals as goal

pub returns-clause-ok : goal.returns-clause-ok
returns-clause-ok g c =
    let found = c.in_ok-found.found.items in
    let sorted = c.sort_unstable_by_key.new.self.items in
    let in_turn = c.sort_unstable_by_key.ensures.sorted (λ k. k.number)
    (answers_always _ _ _ (λ f a r f' k. search rules)) in
    IfOk-weaker c.without_numbers.result _ _ (λ texts h. h ∙ keys_sorted (rows_of c.args.self.now) found sorted
    c.in_ok-found.ensures.ok c.sort_unstable_by_key.ensures.permutation in_turn c.requires)
    c.without_numbers.ensures.ok
