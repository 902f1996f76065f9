use Rattle.awkbox.proofs.accepting.prepare.Goals as goal

pub returns-in-Err-read_script-clause-refused : goal.returns-in-Err-read_script-clause-refused
returns-in-Err-read_script-clause-refused c =
    (c.in-Ok.policy, c.in-Ok.ensures.ok, rw c.numbers.ensures at c.in-Err-read_script.ensures.refused)
