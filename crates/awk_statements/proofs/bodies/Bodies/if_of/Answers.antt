use Rattle.awk_statements.proofs.Closing.{none_behind}
use Rattle.awk_statements.proofs.bodies.Bodies.if_of.Goals as goal

pub else_rest-requires-clause-closed : goal.else_rest-requires-clause-closed
else_rest-requires-clause-closed g c =
    let read = rw c.in_ok-test-2.ensures.1 at c.body.ensures in
    none_behind _ _ _ _ _ read
