use Rattle.awk_resolve.specs.Clash.{OneOf, NameAt}
use Rattle.awk_resolve.specs.declared.mention.Role.TheVariants as role
use Rattle.awk_resolve.proofs.Clashing.{both_first}
use Rattle.awk_resolve.proofs.kinds.at_role.Goals as goal

pub returns-in-Function : goal.returns-in-Function
returns-in-Function c =
    let parameters = rw (c.as_slice.ensures, c.in-Function.is) at c.at_names-parameters.ensures in
    rw c.in-Function.is
    (both_first (NameAt c.args.sought.now.kinds.now role.Begin c.in-Function.name)
    (OneOf (NameAt c.args.sought.now.kinds.now (role.Function c.in-Function.name c.in-Function.params))
    c.in-Function.params)
    c.at_name-function.result c.at_names-parameters.result c.earlier.result c.at_name-function.ensures parameters
    c.earlier.ensures)
