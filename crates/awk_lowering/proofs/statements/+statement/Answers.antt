use Rattle.std.proofs.Common.{refl, arith}
use Rattle.awk_tree.specs.View.{view_statement}
use Rattle.awk_tree.proofs.Views.{statement-Empty, statement-Expr, statement-Print, statement-Printf, statement-Delete}
use Rattle.awk_tree.proofs.Views.{statement-DeleteAll, statement-Jump, statement-Exit, statement-Return}
use Rattle.awk_tree.proofs.Views.{statement-Block, statement-If, statement-IfElse, statement-While, statement-Do}
use Rattle.awk_tree.proofs.Views.{statement-For, statement-ForIn}
use Rattle.awk_program.specs.View as code
use Rattle.awk_lowering.specs.LoweredStatements.{statement}
use Rattle.awk_lowering.specs.Made.{names_in, scope_in}
use Rattle.awk_lowering.proofs.Carried.{boxed_is, turned, whole}
use Rattle.awk_lowering.proofs.Lists.{statements_are}
use Rattle.awk_program.proofs.Views as program
use Rattle.awk_lowering.proofs.statements.+statement.Goals as goal

pub statement-returns-in-Empty : goal.statement-returns-in-Empty
statement-returns-in-Empty t c =
    rw (c.in-Empty.is, statement-Empty) (c.nothing.ensures _)

pub statement-returns-in-Expr : goal.statement-returns-in-Expr
statement-returns-in-Expr t c =
    rw (c.in-Expr.is, statement-Expr) (c.plain_of.ensures _ _ c.part.ensures)

pub statement-returns-in-Print : goal.statement-returns-in-Print
statement-returns-in-Print t c =
    let xs = rw c.as_slice.ensures at c.list-xs.ensures in
    rw (c.in-Print.is, statement-Print) (c.print_of.ensures _ _ _ xs c.redirected.ensures)

pub statement-returns-in-Printf : goal.statement-returns-in-Printf
statement-returns-in-Printf t c =
    let xs = rw c.as_slice-in-Printf.ensures at c.printf.ensures in rw (c.in-Printf.is, statement-Printf) xs

pub statement-returns-in-Delete : goal.statement-returns-in-Delete
statement-returns-in-Delete t c =
    let v = rw c.bytes.ensures at c.variable-v.ensures in
    let xs = rw c.as_slice-in-Delete.ensures at c.texts.ensures in
    rw (c.in-Delete.is, statement-Delete) (c.delete_of.ensures _ _ _ v xs)

pub statement-returns-in-DeleteAll : goal.statement-returns-in-DeleteAll
statement-returns-in-DeleteAll t c =
    let v = rw c.bytes-in-DeleteAll.ensures at c.variable.ensures in
    rw (c.in-DeleteAll.is, statement-DeleteAll) (c.delete_all_of.ensures _ _ v)

pub statement-returns-in-Jump : goal.statement-returns-in-Jump
statement-returns-in-Jump t c =
    rw (c.in-Jump.is, statement-Jump, program.statement-Jump, c.jump.ensures) refl

pub statement-returns-in-Exit : goal.statement-returns-in-Exit
statement-returns-in-Exit t c =
    rw (c.in-Exit.is, statement-Exit) (c.exit_of.ensures _ _ c.optional.ensures)

pub statement-returns-in-Return : goal.statement-returns-in-Return
statement-returns-in-Return t c =
    rw (c.in-Return.is, statement-Return) (c.return_of.ensures _ _ c.optional-in-Return.ensures)

pub statement-returns-in-Block : goal.statement-returns-in-Block
statement-returns-in-Block t c =
    let xs = rw c.as_slice-in-Block.ensures at c.statements.ensures in
    rw (c.in-Block.is, statement-Block, statements_are) (c.block_of.ensures _ _ xs)

pub statement-returns-in-If : goal.statement-returns-in-If
statement-returns-in-If t c =
    let y = rw c.get.ensures at c.branch-context.ensures in
    rw (c.in-If.is, statement-If) (c.if_of.ensures _ _ _ c.part-x.ensures y)

pub statement-returns-in-IfElse : goal.statement-returns-in-IfElse
statement-returns-in-IfElse t c =
    let y = rw c.get-in-IfElse.ensures at c.branch-body.ensures in
    let z = rw c.get-in-IfElse-2.ensures at c.branch-context-in-IfElse.ensures in
    rw (c.in-IfElse.is, statement-IfElse) (c.if_else_of.ensures _ _ _ _ c.part-x-in-IfElse.ensures y z)

pub statement-returns-in-While : goal.statement-returns-in-While
statement-returns-in-While t c =
    let y = rw c.get-in-While.ensures at c.branch-context-in-While.ensures in
    rw (c.in-While.is, statement-While) (c.while_of.ensures _ _ _ c.part-x-in-While.ensures y)

pub statement-returns-in-Do : goal.statement-returns-in-Do
statement-returns-in-Do t c =
    let y = rw c.get-in-Do.ensures at c.branch-body-in-Do.ensures in
    rw (c.in-Do.is, statement-Do) (c.do_of.ensures _ _ _ y c.part-in-Do.ensures)

pub statement-returns-in-For : goal.statement-returns-in-For
statement-returns-in-For t c =
    let y = rw c.get-in-For.ensures at c.branch-body-in-For.ensures in
    rw (c.in-For.is, statement-For) (c.for_of.ensures _ _ _ _ _ c.optional-x.ensures c.optional-y.ensures
    c.optional-in-For.ensures y)

pub statement-returns-in-ForIn : goal.statement-returns-in-ForIn
statement-returns-in-ForIn t c =
    let y = rw c.get-in-ForIn.ensures at c.branch-body-in-ForIn.ensures in
    rw (c.in-ForIn.is, statement-ForIn) (c.for_in.ensures _ y)

pub branch-returns : goal.branch-returns
branch-returns t c =
    boxed_is (code.view_statement (names_in c.args.context.now)) _ _ _ c.boxed.ensures c.statement.ensures

pub fill-loop-x-preserved : goal.fill-loop-x-preserved
fill-loop-x-preserved t c =
    turned (code.view_statement (names_in c.args.context.now)) (statement (scope_in c.args.context.now)) view_statement
    _ _ _ _ c.x-item.result c.args.xs.now c.loop-x.x-index (omega arith) c.x-item.is c.statement.ensures
    c.in_ok-push.ensures c.loop-x.invariant

pub statements-returns : goal.statements-returns
statements-returns t c =
    whole (code.view_statement (names_in c.args.context.now)) _ _ _ _ c.kept.ensures
    (rw c.room-out.ensures at c.fill-filled.ensures)
