use Rattle.std.proofs.Common.{sym, ◌∙◌, true≢false}
use Rattle.awk_input.proofs.Recording.{reads_end, reads_none, reads_rules}
use Rattle.awk_input.proofs.reads.reads.Goals as goal

pub returns-then-not-is_empty : goal.returns-then-not-is_empty
returns-then-not-is_empty c = λ k. reads_rules c.args.program.now k
    (λ e. true≢false (sym (c.is_empty.ensures.1 e) ∙ c.if-not-is_empty.true))

pub returns-then-not-is_empty-2 : goal.returns-then-not-is_empty-2
returns-then-not-is_empty-2 c = λ k. reads_end c.args.program.now k
    (λ e. true≢false (sym (c.is_empty-2.ensures.1 e) ∙ c.if-not-is_empty-2.true))

pub returns : goal.returns
returns c = λ k. reads_none c.args.program.now k (c.is_empty.ensures.0 c.if-not-is_empty.false)
    (c.is_empty-2.ensures.0 c.if-not-is_empty-2.false)
