use Rattle.box_advice.proofs.LogsLemmas.{ended_line, last_line}
use Rattle.box_advice.proofs.denials.first_line.Goals as goal

pub returns-in-Some-clause-lines : goal.returns-in-Some-clause-lines
returns-in-Some-clause-lines c lines are =
    ended_line c.args.text.now c.in-Some.halves.front.now c.in-Some.halves.back.now lines c.in-Some.ensures.first
    c.in-Some.ensures.read are

pub returns-in-None-clause-lines : goal.returns-in-None-clause-lines
returns-in-None-clause-lines c lines are = last_line c.args.text.now lines c.in-None.ensures.none c.requires are
