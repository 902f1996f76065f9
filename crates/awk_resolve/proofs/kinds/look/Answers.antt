use Rattle.std.proofs.Common.{◌≡◌, true, inl, inr}
use Rattle.awk_resolve.proofs.Doubles.{no_two}
use Rattle.awk_resolve.proofs.kinds.look.Goals as goal

pub invariant_of-result : goal.invariant_of-result
invariant_of-result c = record {
  only = λ never. no_two c.args.parts.now c.requires.defined c.args.kinds.now c.requires.numbers
      (λ twice. let may : c.may_double.result ≡ true = c.may_double.ensures.1 (inl twice) in cc)
      (λ double. let may : c.may_double.result ≡ true = c.may_double.ensures.1 (inr double) in cc);
}
