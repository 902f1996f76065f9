use Rattle.std.proofs.Common.{◌≡◌, ◌++◌, drop}
use Rattle.awk_resolve.specs.Kinds.{texts}
use Rattle.awk_resolve.proofs.text_tables.Roll.push_names.Given as goal

abbrev pub invariant-loop-name : goal.invariant-loop-name
invariant-loop-name l = l.initial.self ++ texts l.names ≡ l.self ++ texts (drop l.name-index l.names)
