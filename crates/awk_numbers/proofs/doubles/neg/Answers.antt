use Rattle.std.proofs.Common.{SFits, w64, refl, rules}
use Rattle.awk_numbers.proofs.Shortcuts.{neg_at}
use Rattle.awk_numbers.proofs.doubles.neg.Goals as goal

pub returns-in-Whole : goal.returns-in-Whole
returns-in-Whole c =
    let f : SFits w64 c.in-Whole.n = search rules in
    neg_at c.args.x c.in-Whole.n f c.in-Whole.is (c.if-is_exact.ensures.0 refl)
