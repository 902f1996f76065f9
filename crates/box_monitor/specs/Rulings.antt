-- What is done with an ask: it is passed on for a rule, or denied.
use Rattle.std.specs.Prelude.{ℕ, Option, None, Some}
use Rattle.box_monitor.specs.Told.{Told}
use Rattle.box_monitor.specs.declared.denial.Ruling.{Ruling}
use Rattle.box_monitor.specs.declared.denial.Ruling.TheVariants.{Passed, Denied}

-- what is told of the denial
abbrev pub denial_in : Ruling → Option Told
denial_in (Passed rule) = None
denial_in (Denied denial) = Some denial

-- the rule that allows
abbrev pub rule_in : Ruling → Option ℕ
rule_in (Passed rule) = rule
rule_in (Denied denial) = None
