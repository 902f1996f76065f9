use Rattle.std.proofs.Common.{◌<◌, rules, arith}
use Rattle.awk_tree.specs.View.{view_statement}
use Rattle.awk_tree.proofs.Views.{statement-IfElse, statement-While, statement-For, statement-ForIn}
use Rattle.awk_statements.proofs.Closing.{tail_depth}
use Rattle.awk_statements.proofs.open.+is_open.Goals as goal

pub is_open-requires : goal.is_open-requires
is_open-requires t c =
    let smaller : tail_depth (view_statement c.get.result.now) < tail_depth (view_statement c.args.statement.now) =
    rw (c.get.ensures, c.in-IfElse.is, statement-IfElse) (omega arith) in
    search rules

pub is_open-requires-in-While : goal.is_open-requires-in-While
is_open-requires-in-While t c =
    let smaller : tail_depth (view_statement c.get-in-While.result.now) < tail_depth
    (view_statement c.args.statement.now) = rw (c.get-in-While.ensures, c.in-While.is, statement-While)
    (omega arith) in
    search rules

pub is_open-requires-in-For : goal.is_open-requires-in-For
is_open-requires-in-For t c =
    let smaller : tail_depth (view_statement c.get-in-For.result.now) < tail_depth (view_statement c.args.statement.now)
    = rw (c.get-in-For.ensures, c.in-For.is, statement-For) (omega arith) in
    search rules

pub is_open-requires-in-ForIn : goal.is_open-requires-in-ForIn
is_open-requires-in-ForIn t c =
    let smaller : tail_depth (view_statement c.get-in-ForIn.result.now) < tail_depth
    (view_statement c.args.statement.now) = rw (c.get-in-ForIn.ensures, c.in-ForIn.is, statement-ForIn)
    (omega arith) in
    search rules
