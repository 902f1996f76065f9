use Rattle.std.proofs.Common.{◌≡◌, ◌<◌, ◌∙◌, length, map, ap, sym, subst, arith}
use Rattle.awk_ere.specs.Table.{steps_of}
use Rattle.awk_ere.proofs.Gathering.{map_length, steps_is}
use Rattle.awk_ere.proofs.lazy.Lists.list.Goals as goal

pub returns : goal.returns
returns c =
    let inside = rw (← c.self.view_is) at c.requires in
    let keys = c.as_slice.ensures.keys in
    let lt : c.args.at < length c.as_slice.result.now =
    omega (arith, inside, map_length (λ v. v.items) c.self.inside.lists.keys, ap length keys) in
    rw (← c.self.view_is)
    (c.as_slice-2.ensures.value
    ∙ sym (subst (λ ks. steps_of (map (λ v. v.items) ks) c.args.at ≡ c.index-as_slice-at.result.items) keys
    (steps_is (λ v. v.items) c.as_slice.result.now c.args.at c.index-as_slice-at.result lt c.index-as_slice-at.is)))
