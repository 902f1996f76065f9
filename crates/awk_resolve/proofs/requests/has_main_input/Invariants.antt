use Rattle.std.proofs.Common.{◌≡◌, drop}
use Rattle.std.specs.List.{list_any}
use Rattle.awk_resolve.specs.Faults as spec
use Rattle.awk_resolve.proofs.requests.has_main_input.Given as goal

abbrev pub invariant-loop-mention : goal.invariant-loop-mention
invariant-loop-mention l = list_any spec.is_main_input l.mentions ≡ list_any spec.is_main_input
    (drop l.mention-index l.mentions)
