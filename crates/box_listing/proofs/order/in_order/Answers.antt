use Rattle.std.proofs.Common.{rules}
use Rattle.std.proofs.lemmas.List.Sorted.{answers_always}
use Rattle.box_listing.specs.Listings as spec
use Rattle.box_listing.proofs.order.in_order.Goals as goal

pub returns : goal.returns
returns c = record {
  same = c.sort_by_key.ensures.permutation;
  sorted = c.in_ok-sort_by_key.ensures.sorted spec.key (answers_always _ _ _ (λ f a r g h. search rules));
  stable = c.sort_by_key.ensures.stable spec.key (answers_always _ _ _ (λ f a r g h. search rules));
}
