use Rattle.awk_lowering.specs.Lowered.{argument}
use Rattle.awk_lowering.specs.Made.{names_in, scope_in}
use Rattle.std.proofs.Common.{Some}
use Rattle.awk_lowering.proofs.Carried.{named_is}
use Rattle.awk_lowering.proofs.parts.argument_of.Goals as goal

pub returns-in-None : goal.returns-in-None
returns-in-None c = λ a h. rw c.in-None.is (c.value_of.ensures _ _ h)

pub returns-in-Some : goal.returns-in-Some
returns-in-Some c = λ a h. rw c.in-Some.is (named_is (names_in c.args.context.now)
    (argument (scope_in c.args.context.now) c.args.takes_array (Some c.in-Some.n.now)) a _ _ _ c.either.ensures
    c.by_name.ensures (c.value_of-in-Some.ensures _ _ h))
