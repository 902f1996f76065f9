-- What plain awk is given by a script, and by what its run is started with (POSIX.1-2017 XCU awk, "OPTIONS",
-- "OPERANDS", "ENVIRONMENT VARIABLES").
use Rattle.std.specs.Prelude.{ℕ}
use Rattle.awk_resolve.specs.Assigns.{can_assign}
use Rattle.awk_machine.specs.State.{Given}
use Rattle.awk_parse.specs.declared.script.Script.{Script}
use Rattle.awk_program.specs.View.{view_program}
use Rattle.awk_run.specs.SetupParts.{SetupParts, number_of_seed}

abbrev pub given_of : Script → SetupParts → ℕ → Given
given_of s setup steps = record {
  program = view_program s.program;
  numbers = setup.numbers;
  seed = number_of_seed setup.random_seed;
  can_assign = can_assign s.kinds;
  names_environ = s.names_environ;
  operands = setup.operands;
  environment = setup.names;
  assigns = setup.assigns;
  separator = setup.separator;
  bound = steps;
}
