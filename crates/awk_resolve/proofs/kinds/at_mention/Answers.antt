use Rattle.std.proofs.Common.{◌⊎◌}
use Rattle.awk_resolve.specs.Clash.{OneOf, NameAt, CallAt, ArgumentAt}
use Rattle.awk_resolve.specs.declared.mention.Role.TheVariants as role
use Rattle.awk_resolve.proofs.Clashing.{both_first}
use Rattle.awk_resolve.proofs.kinds.at_mention.Goals as goal

pub returns-in-Call : goal.returns-in-Call
returns-in-Call c =
    let call = rw c.as_slice.ensures at c.at_call-call.ensures in
    let arguments = rw c.as_slice-in-Call.ensures at c.at_arguments-arguments.ensures in
    rw c.in-Call.is
    (both_first (λ q. NameAt c.args.sought.now.kinds.now role.Begin c.in-Call.name q
    ⊎ CallAt c.args.sought.now.kinds.now c.in-Call.name c.in-Call.args q)
    (OneOf (ArgumentAt c.args.sought.now.kinds.now c.args.role.now) c.in-Call.args) c.earlier.result
    c.at_arguments-arguments.result c.earlier-in-Call.result
    (both_first (NameAt c.args.sought.now.kinds.now role.Begin c.in-Call.name)
    (CallAt c.args.sought.now.kinds.now c.in-Call.name c.in-Call.args)
    c.at_name-function.result c.at_call-call.result c.earlier.result c.at_name-function.ensures call c.earlier.ensures)
    arguments c.earlier-in-Call.ensures)
