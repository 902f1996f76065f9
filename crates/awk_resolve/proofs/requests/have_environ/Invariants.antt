use Rattle.std.proofs.Common.{◌≡◌, drop, codes}
use Rattle.std.specs.List.{list_any}
use Rattle.awk_resolve.specs.Faults as spec
use Rattle.awk_resolve.proofs.requests.have_environ.Given as goal

abbrev pub invariant-loop-mention : goal.invariant-loop-mention
invariant-loop-mention l = list_any (spec.is_name_of (codes "ENVIRON")) l.mentions
    ≡ list_any (spec.is_name_of (codes "ENVIRON")) (drop l.mention-index l.mentions)
