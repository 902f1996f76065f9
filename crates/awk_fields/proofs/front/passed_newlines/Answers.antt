use Rattle.std.proofs.Common.{arith}
use Rattle.awk_fields.proofs.HeadLemmas.{passed_all, passed_only}
use Rattle.awk_fields.proofs.front.passed_newlines.Goals as goal

pub returns-then-more-eq0-clause-newlines : goal.returns-then-more-eq0-clause-newlines
returns-then-more-eq0-clause-newlines c =
    let s = c.args.unread.now in
    let known = c.known_paragraph-passed in
    omega (
      arith,
      passed_all s known.result.0 known.result.1 c.newlines-more.result known.ensures.passed
          c.newlines-more.ensures.newlines,
      c.if-more-eq0.true,
    )

pub returns-else-more-eq0-clause-newlines : goal.returns-else-more-eq0-clause-newlines
returns-else-more-eq0-clause-newlines c =
    let s = c.args.unread.now in
    let known = c.known_paragraph-passed in
    passed_all s known.result.0 known.result.1 c.newlines-more.result known.ensures.passed
    c.newlines-more.ensures.newlines

pub returns-else-more-eq0-clause-passed : goal.returns-else-more-eq0-clause-passed
returns-else-more-eq0-clause-passed c =
    let s = c.args.unread.now in
    let known = c.known_paragraph-passed in
    passed_only s _ (passed_all s known.result.0 known.result.1 c.newlines-more.result known.ensures.passed
    c.newlines-more.ensures.newlines)
