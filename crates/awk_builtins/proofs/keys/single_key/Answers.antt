use Rattle.awk_builtins.proofs.keys.single_key.Goals as goal

pub returns-clause-ok : goal.returns-clause-ok
returns-clause-ok c = λ subsep. rw c.in_ok-of.ensures (c.in_ok-text.ensures.ok subsep)
