use Rattle.std.proofs.Common.{ℕ, length, ◌∙◌, ap, arith}
use Rattle.std.proofs.Math.ListN.{length-set}
use Rattle.std.proofs.lemmas.List.Elements.{Contains-get_or}
use Rattle.awk_ere.proofs.Advance.{clearing_begins, clearing_more, clearing_ends, listed_none}
use Rattle.awk_ere.proofs.search.Starts.clear.Goals as goal

pub loop-at-init : goal.loop-at-init
loop-at-init c = record {
  clearing = rw c.deref-at-items.ensures.value (clearing_begins _ _ c.self.invariant);
  len = ap length c.self.view_is;
}

pub index_mut-requires : goal.index_mut-requires
index_mut-requires c =
    let inside = c.loop-at.invariant.clearing.below _ (Contains-get_or c.deref-at-items.result.now c.loop-at.at-index 0
    c.loop-at-test.true) in
    omega (arith, inside, c.loop-at.self-inside.1.0.ok)

pub loop-at-preserved : goal.loop-at-preserved
loop-at-preserved c = record {
  clearing = clearing_more _ _ _ c.loop-at-test.true (c.loop-at.invariant.clearing.below _
      (Contains-get_or c.deref-at-items.result.now c.loop-at.at-index 0 c.loop-at-test.true))
      c.loop-at.invariant.clearing;
  len = length-set {A = ℕ} _ _ _ ∙ c.loop-at.invariant.len;
}

pub invariant_of-self : goal.invariant_of-self
invariant_of-self c =
    rw c.clear.ensures.items (listed_none _ (clearing_ends _ _ _ (omega arith) c.loop-at.invariant.clearing))

pub returns-clause-len : goal.returns-clause-len
returns-clause-len c = c.loop-at.invariant.len

pub returns-clause-blank : goal.returns-clause-blank
returns-clause-blank c = clearing_ends _ _ _ (omega arith) c.loop-at.invariant.clearing
