use Rattle.std.proofs.Common.{◌≡◌, ◌+◌, suc, length, map, take, refl, sym, ap, ◌∙◌, arith}
use Rattle.std.proofs.lemmas.List.{length-take, take-map}
use Rattle.awk_store.specs.Kept.{as_scalar}
use Rattle.awk_store.specs.States.{bound_of}
use Rattle.awk_store.specs.Wholes.{base, names_in}
use Rattle.awk_machine.specs.Calls.{all_handed}
use Rattle.awk_store.proofs.Framing.{arguments-so, half, half_all, half_more, half_none, handed_taken, is_there}
use Rattle.awk_store.proofs.frames.hand_arrays.Goals as goal

pub loop-x-init : goal.loop-x-init
loop-x-init c = (
  λ g t hid vs e.
      let n = length c.args.xs.now in
      ap (map (bound_of (names_in g))) (c.truncate.ensures.items ∙ ap (take n) e ∙ take-map as_scalar n vs)
      ∙ sym (half_none (names_in g) (base g (c.args.store.now, t) hid) c.args.xs.now (take n vs)),
  refl,
)

pub loop-x-preserved : goal.loop-x-preserved
loop-x-preserved c =
    let at = c.loop-x in
    let n = length c.args.xs.now in
    let next : suc at.at ≡ at.x-index + 1 = let h = at.invariant.1 in omega (arith, h) in
    let found = is_there c.args.xs.now at.x-index at.at c.x-item.result c.loop-x-test.true c.x-item.is
    (sym at.invariant.1) in (
      λ g t hid vs e.
          let s = base g (c.args.store.now, t) hid in
          half_more (names_in g) c.args.store.now hid at.at c.args.xs.now (take n vs) c.x-item.result at.bounds.items
          c.hand_one.new.bounds.items found c.hand_one.ensures.array c.hand_one.ensures.others
          (at.invariant.0 g t hid vs e ∙ ap (λ k. half (names_in g) s k c.args.xs.now (take n vs))
          (sym at.invariant.1)) ∙ ap (λ k. half (names_in g) s k c.args.xs.now (take n vs)) next,
      ap (λ k. k + 1) at.invariant.1,
    )

pub returns : goal.returns
returns c =
    let at = c.loop-x in
    let n = length c.args.xs.now in
    let over : n ≡ at.x-index = let a = c.loop-x-test.false in let b = at.auto.x-index-end in omega (arith, a, b) in
    λ g t hid vs e.
    let s = base g (c.args.store.now, t) hid in
    ap (λ ys. all_handed s ys vs) (arguments-so (names_in g) c.args.xs.now)
    ∙ sym (handed_taken (names_in g) s c.args.xs.now vs) ∙ sym (half_all (names_in g) s c.args.xs.now (take n vs)
    (omega (arith, length-take n vs)))
    ∙ ap (λ k. half (names_in g) s k c.args.xs.now (take n vs)) over ∙ sym (at.invariant.0 g t hid vs e)
