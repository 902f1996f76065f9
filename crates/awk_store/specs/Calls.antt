-- Calls of a script's functions, as the code has them (POSIX.1-2017 XCU awk, "User-Defined Functions").
use Rattle.std.specs.Prelude.{Option, Some, None}
use Rattle.awk_text.specs.declared.value.Value.{Value}
use Rattle.awk_text.specs.declared.value.Value.TheVariants as v
use Rattle.awk_program.specs.View.{Names, view, variable_of}
use Rattle.awk_program.specs.declared.expressions.Argument as code
use Rattle.awk_program.specs.declared.expressions.Argument.TheVariants as argument
use Rattle.awk_program.specs.declared.expressions.Expr.{Expr}
use Rattle.awk_program.specs.declared.variables.Variable.{Variable}
use Rattle.awk_machine.specs.Calls.{Argument, by_value, by_name, by_nothing}
use Rattle.awk_streams.specs.declared.flow.Flow.{Flow}
use Rattle.awk_streams.specs.declared.flow.Flow.TheVariants as flow

abbrev pub argument_of : Names → code.Argument Expr → Argument
argument_of names (argument.Value x) = by_value (view names x)
argument_of names (argument.Array a) = by_name (variable_of names a)
argument_of names argument.Nothing = by_nothing

-- the array that an argument is, if it is one
abbrev pub array_of : code.Argument Expr → Option Variable
array_of (argument.Value x) = None
array_of (argument.Array a) = Some a
array_of argument.Nothing = None

-- the value of a call whose body ended so
abbrev pub returned : Flow → Value
returned (flow.ReturnNumber n) = v.Num n
returned (flow.ReturnValue x) = x.value
returned other = v.Unset
