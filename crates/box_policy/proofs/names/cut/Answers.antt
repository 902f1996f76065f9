use Rattle.std.proofs.Common.{sym, ◌∙◌}
use Rattle.box_policy.proofs.NamesLemmas.{names-cut, names-uncut}
use Rattle.box_policy.proofs.names.cut.Goals as goal

pub returns-in-Some-clause-names : goal.returns-in-Some-clause-names
returns-in-Some-clause-names c = names-cut c.args.text.now c.in-Some.end (sym c.in-Some.ensures)

pub returns-in-None-clause-names : goal.returns-in-None-clause-names
returns-in-None-clause-names c = names-uncut c.args.text.now (sym c.in-None.ensures)
