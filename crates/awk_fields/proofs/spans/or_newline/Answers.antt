use Rattle.std.proofs.Common.{subst, arith}
use Rattle.awk_ere.specs.Best.{Best, IsBest}
use Rattle.awk_fields.proofs.Bests.{match_le}
use Rattle.awk_fields.proofs.spans.or_newline.Goals as goal

pub overflow_add-start : goal.overflow_add-start
overflow_add-start c =
    let s = c.args.text.now in
    let best : IsBest s c.requires.best.0 c.args.from c.in-Some.start c.in-Some.end =
    subst (Best s c.requires.best.0 c.args.from) c.in-Some.is c.requires.best.1 in
    omega (arith, match_le s c.requires.best.0 c.in-Some.start c.in-Some.end best.matches, best.within)
