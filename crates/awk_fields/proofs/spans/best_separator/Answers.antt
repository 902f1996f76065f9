use Rattle.awk_fields.proofs.spans.best_separator.Goals as goal

pub returns-then-newline : goal.returns-then-newline
returns-then-newline c = rw c.if-newline.true c.or_newline.ensures
