use Rattle.std.proofs.Common.{sym}
use Rattle.awk_run.proofs.Running.{environ_so}
use Rattle.awk_run.proofs.runs.start.Goals as goal

pub returns : goal.returns
returns c = λ steps. record {
  operands = sym c.operands.ensures;
  environment = sym c.names.ensures;
  assigns = sym c.assigns.ensures.pairs;
  separator = sym c.separator.ensures;
  names_environ = environ_so c.args.script.now c.names_environ.result c.requires c.names_environ.ensures;
}
