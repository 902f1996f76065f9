-- What rules and functions are made as.
use Rattle.std.specs.Prelude.{◌≡◌, Result, IfOk}
use Rattle.awk_program.specs.declared.program.When as code_when
use Rattle.awk_program.specs.declared.program.Rule as code_rule
use Rattle.awk_program.specs.declared.program.Function as code_function
use Rattle.awk_program.specs.Program.{When, Rule, Function}
use Rattle.awk_program.specs.View.{Names, view_when, view_rule, view_function}

abbrev pub IsWhen : {E : Type 0} → Names → Result code_when.When E → When → Type 0
IsWhen t made x = IfOk made (λ w. view_when t w ≡ x)

abbrev pub IsRule : {E : Type 0} → Names → Result code_rule.Rule E → Rule → Type 0
IsRule t made x = IfOk made (λ r. view_rule t r ≡ x)

abbrev pub IsFunction : {E : Type 0} → Names → Result code_function.Function E → Function → Type 0
IsFunction t made x = IfOk made (λ f. view_function t f ≡ x)
