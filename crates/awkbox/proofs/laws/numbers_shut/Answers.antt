use Rattle.awkbox.proofs.Turns as laws
use Rattle.awkbox.proofs.laws.numbers_shut.Goals as goal

pub returns-clause-run : goal.returns-clause-run
returns-clause-run c = c.numbers_shut.ensures

pub returns-clause-passed : goal.returns-clause-passed
returns-clause-passed c = laws.passed_shut c.numbers_shut.ensures
