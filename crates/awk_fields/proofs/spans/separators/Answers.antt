use Rattle.std.proofs.Common.{◌||◌, ◌&&◌, eqb, sym, ap, ◌∙◌}
use Rattle.awk_fields.proofs.Marked.{or_same, or_thrice}
use Rattle.awk_fields.proofs.spans.separators.Goals as goal

pub returns-then-newline : goal.returns-then-newline
returns-then-newline c = λ b. ap (λ x. eqb b 10 || x) (or_same (eqb b c.args.mark))
    ∙ sym (ap (λ n. (n && eqb b 10) || eqb b c.args.mark) c.if-newline.true)

pub returns-else-newline : goal.returns-else-newline
returns-else-newline c = λ b. or_thrice (eqb b c.args.mark)
    ∙ sym (ap (λ n. (n && eqb b 10) || eqb b c.args.mark) c.if-newline.false)
