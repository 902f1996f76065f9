use Rattle.std.proofs.Common.{◌≡◌, inl, inr, subst, slice_index, arith}
use Rattle.std.proofs.lemmas.Bool.{cases_lt}
use Rattle.awk_ere.proofs.table.stays_one_by_one.Goals as goal

pub loop-place-preserved : goal.loop-place-preserved
loop-place-preserved c = λ k after before. elim (cases_lt k c.loop-place.place) [
  | inl less ↦ c.loop-place.invariant k after less
  | inr ge ↦
      let is : c.loop-place.place ≡ k = omega arith in
      subst (λ x. slice_index c.args.row.now (slice_index c.args.text.now x) ≡ c.args.state) is c.if-row-text.false
]
