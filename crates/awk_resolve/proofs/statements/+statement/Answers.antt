use Rattle.std.proofs.Common.{rules, ◌+◌, ◌<◌, refl, arith, map, append-nil, append_assoc}
use Rattle.awk_tree.specs.Tree.{statements_of}
use Rattle.awk_tree.specs.View.{view_statement}
use Rattle.awk_tree.proofs.Views.{statement-Empty, statement-Expr, statement-Print, statement-Printf, statement-Delete}
use Rattle.awk_tree.proofs.Views.{statement-DeleteAll, statement-Jump, statement-Exit, statement-Return}
use Rattle.awk_tree.proofs.Views.{statement-Block, statement-If, statement-IfElse, statement-While, statement-Do}
use Rattle.awk_tree.proofs.Views.{statement-For, statement-ForIn}
use Rattle.awk_resolve.proofs.Weight.{statement_weight, statement_weights, statement_item_weight}
use Rattle.awk_resolve.proofs.Lists.{drop_here}
use Rattle.awk_resolve.proofs.statements.+statement.Goals as goal

pub statement-returns-in-Empty : goal.statement-returns-in-Empty
statement-returns-in-Empty t c =
    rw (c.in-Empty.is, statement-Empty, append-nil) refl

pub statement-returns-in-Expr : goal.statement-returns-in-Expr
statement-returns-in-Expr t c =
    rw (c.in-Expr.is, statement-Expr) c.expression.ensures

pub statement-returns-in-Print : goal.statement-returns-in-Print
statement-returns-in-Print t c =
    rw (c.in-Print.is, statement-Print) c.output.ensures

pub statement-returns-in-Printf : goal.statement-returns-in-Printf
statement-returns-in-Printf t c =
    rw (c.in-Printf.is, statement-Printf) c.output-in-Printf.ensures

pub statement-returns-in_ok-array-in-Delete : goal.statement-returns-in_ok-array-in-Delete
statement-returns-in_ok-array-in-Delete t c =
    let h = rw (c.as_slice.ensures, c.in_ok-array-in-Delete.ensures, append_assoc) at c.each.ensures in
    rw (c.in-Delete.is, statement-Delete) h

pub statement-returns-in-DeleteAll : goal.statement-returns-in-DeleteAll
statement-returns-in-DeleteAll t c =
    rw (c.in-DeleteAll.is, statement-DeleteAll) c.array-in-DeleteAll.ensures

pub statement-returns-in-Jump : goal.statement-returns-in-Jump
statement-returns-in-Jump t c =
    rw (c.in-Jump.is, statement-Jump) c.jump.ensures

pub statement-returns-in-Exit : goal.statement-returns-in-Exit
statement-returns-in-Exit t c =
    rw (c.in-Exit.is, statement-Exit) c.optional.ensures

pub statement-returns-in_ok-push-in-Return : goal.statement-returns-in_ok-push-in-Return
statement-returns-in_ok-push-in-Return t c =
    let h = rw (c.in_ok-push-in-Return.ensures.ok, append_assoc) at c.optional-in-Return.ensures in
    rw (c.in-Return.is, statement-Return) h

pub statement-statements-requires : goal.statement-statements-requires
statement-statements-requires t c =
    let smaller : 1 + statement_weights (statements_of (map view_statement c.as_slice-in-Block.result.now)) <
    statement_weight (view_statement c.args.s.now) = rw (
      c.as_slice-in-Block.ensures,
      c.in-Block.is,
      statement-Block,
    ) (omega arith) in
    search rules

pub statement-returns-in-Block : goal.statement-returns-in-Block
statement-returns-in-Block t c =
    let h = rw (c.as_slice-in-Block.ensures) at c.statements.ensures in rw (c.in-Block.is, statement-Block) h

pub statement-statement-requires : goal.statement-statement-requires
statement-statement-requires t c =
    let smaller : statement_weight (view_statement c.get.result.now) < statement_weight (view_statement c.args.s.now) =
    rw (c.get.ensures, c.in-If.is, statement-If) (omega arith) in
    search rules

pub statement-returns-in_ok-expression-in-If : goal.statement-returns-in_ok-expression-in-If
statement-returns-in_ok-expression-in-If t c =
    let h = rw (c.get.ensures, c.in_ok-expression-in-If.ensures, append_assoc) at c.statement.ensures in
    rw (c.in-If.is, statement-If) h

pub statement-statement-requires-in-IfElse : goal.statement-statement-requires-in-IfElse
statement-statement-requires-in-IfElse t c =
    let smaller : statement_weight (view_statement c.get-in-IfElse.result.now) < statement_weight
    (view_statement c.args.s.now) = rw (c.get-in-IfElse.ensures, c.in-IfElse.is, statement-IfElse) (omega arith) in
    search rules

pub statement-statement-requires-in-IfElse-2 : goal.statement-statement-requires-in-IfElse-2
statement-statement-requires-in-IfElse-2 t c =
    let smaller : statement_weight (view_statement c.get-in-IfElse-2.result.now) < statement_weight
    (view_statement c.args.s.now) = rw (c.get-in-IfElse-2.ensures, c.in-IfElse.is, statement-IfElse)
    (omega arith) in
    search rules

pub statement-returns-in_ok-statement-in-IfElse : goal.statement-returns-in_ok-statement-in-IfElse
statement-returns-in_ok-statement-in-IfElse t c =
    let h = rw (
      c.get-in-IfElse-2.ensures,
      c.in_ok-statement-in-IfElse.ensures,
      c.get-in-IfElse.ensures,
      c.in_ok-expression-in-IfElse.ensures,
      append_assoc,
      append_assoc,
    ) at c.statement-in-IfElse-2.ensures in
    rw (c.in-IfElse.is, statement-IfElse) h

pub statement-statement-requires-in-While : goal.statement-statement-requires-in-While
statement-statement-requires-in-While t c =
    let smaller : statement_weight (view_statement c.get-in-While.result.now) < statement_weight
    (view_statement c.args.s.now) = rw (c.get-in-While.ensures, c.in-While.is, statement-While) (omega arith) in
    search rules

pub statement-returns-in_ok-expression-in-While : goal.statement-returns-in_ok-expression-in-While
statement-returns-in_ok-expression-in-While t c =
    let h = rw (c.get-in-While.ensures, c.in_ok-expression-in-While.ensures, append_assoc) at
    c.statement-in-While.ensures in
    rw (c.in-While.is, statement-While) h

pub statement-statement-requires-in-Do : goal.statement-statement-requires-in-Do
statement-statement-requires-in-Do t c =
    let smaller : statement_weight (view_statement c.get-in-Do.result.now) < statement_weight
    (view_statement c.args.s.now) = rw (c.get-in-Do.ensures, c.in-Do.is, statement-Do) (omega arith) in
    search rules

pub statement-returns-in_ok-statement-in-Do : goal.statement-returns-in_ok-statement-in-Do
statement-returns-in_ok-statement-in-Do t c =
    let h = rw (c.in_ok-statement-in-Do.ensures, c.get-in-Do.ensures, append_assoc) at c.expression-in-Do.ensures in
    rw (c.in-Do.is, statement-Do) h

pub statement-statement-requires-in-For : goal.statement-statement-requires-in-For
statement-statement-requires-in-For t c =
    let smaller : statement_weight (view_statement c.get-in-For.result.now) < statement_weight
    (view_statement c.args.s.now) = rw (c.get-in-For.ensures, c.in-For.is, statement-For) (omega arith) in
    search rules

pub statement-returns-in_ok-header-in-For : goal.statement-returns-in_ok-header-in-For
statement-returns-in_ok-header-in-For t c =
    let h = rw (c.get-in-For.ensures, c.in_ok-header-in-For.ensures, append_assoc, append_assoc, append_assoc) at
    c.statement-in-For.ensures in
    rw (c.in-For.is, statement-For) h

pub statement-statement-requires-in-ForIn : goal.statement-statement-requires-in-ForIn
statement-statement-requires-in-ForIn t c =
    let smaller : statement_weight (view_statement c.get-in-ForIn.result.now) < statement_weight
    (view_statement c.args.s.now) = rw (c.get-in-ForIn.ensures, c.in-ForIn.is, statement-ForIn) (omega arith) in
    search rules

pub statement-returns-in_ok-for_in-in-ForIn : goal.statement-returns-in_ok-for_in-in-ForIn
statement-returns-in_ok-for_in-in-ForIn t c =
    let h = rw (c.get-in-ForIn.ensures, c.in_ok-for_in-in-ForIn.ensures, append_assoc) at c.statement-in-ForIn.ensures
    in
    rw (c.in-ForIn.is, statement-ForIn) h

pub statements-statement-requires : goal.statements-statement-requires
statements-statement-requires t c =
    let smaller : statement_weight (view_statement c.s-item.result) < 1 + statement_weights
    (statements_of (map view_statement c.args.xs.now)) =
    rw c.s-item.is (statement_item_weight c.args.xs.now c.loop-s.s-index c.s-item.result (omega arith)) in
    search rules

pub statements-loop-s-preserved : goal.statements-loop-s-preserved
statements-loop-s-preserved t c =
    let here = drop_here c.args.xs.now c.loop-s.s-index c.s-item.result (omega arith) c.s-item.is in
    rw (c.in_ok-statement.ensures, append_assoc, c.loop-s.invariant, here) refl
