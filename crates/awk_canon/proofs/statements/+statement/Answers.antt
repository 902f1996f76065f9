use Rattle.std.proofs.Common.{rules, ◌≡◌, ◌∙◌, ◌+◌, ◌<◌, ◌++◌, List, [], ◌∷◌, refl, sym, ap, arith, map, option_map}
use Rattle.std.proofs.Common.{append-nil, append_assoc}
use Rattle.awk_tree.specs.Tree.{statements_of}
use Rattle.awk_tree.specs.View.{view_statement}
use Rattle.awk_tree.proofs.Views.{statement-Empty, statement-Expr, statement-Print, statement-Printf, statement-Delete}
use Rattle.awk_tree.proofs.Views.{statement-DeleteAll, statement-Jump, statement-Exit, statement-Return}
use Rattle.awk_tree.proofs.Views.{statement-Block, statement-If, statement-IfElse, statement-While, statement-Do}
use Rattle.awk_tree.proofs.Views.{statement-For, statement-ForIn}
use Rattle.awk_canon.proofs.Weight.{statement_weight, statement_weights, statement_item_weight}
use Rattle.awk_canon.proofs.Lists.{drop_here}
use Rattle.awk_canon.proofs.statements.+statement.Goals as goal

pub statement-returns-in-Empty : goal.statement-returns-in-Empty
statement-returns-in-Empty t c =
    rw (c.in-Empty.is, statement-Empty) c.push_end.ensures

pub statement-returns-in-Expr : goal.statement-returns-in-Expr
statement-returns-in-Expr t c =
    rw (c.in-Expr.is, statement-Expr) c.plain.ensures

pub statement-returns-in-Print : goal.statement-returns-in-Print
statement-returns-in-Print t c =
    rw (c.in-Print.is, statement-Print) c.output.ensures

pub statement-returns-in-Printf : goal.statement-returns-in-Printf
statement-returns-in-Printf t c =
    rw (c.in-Printf.is, statement-Printf) c.output-in-Printf.ensures

pub statement-returns-in-Delete : goal.statement-returns-in-Delete
statement-returns-in-Delete t c =
    let h = rw (c.as_slice.ensures) at c.delete.ensures in rw (c.in-Delete.is, statement-Delete) h

pub statement-returns-in-DeleteAll : goal.statement-returns-in-DeleteAll
statement-returns-in-DeleteAll t c =
    rw (c.in-DeleteAll.is, statement-DeleteAll) c.delete_all.ensures

pub statement-returns-in-Jump : goal.statement-returns-in-Jump
statement-returns-in-Jump t c =
    let h = rw (c.text.ensures) at c.word.ensures in rw (c.in-Jump.is, statement-Jump) h

pub statement-returns-in-Exit : goal.statement-returns-in-Exit
statement-returns-in-Exit t c =
    rw (c.in-Exit.is, statement-Exit) c.leave.ensures

pub statement-returns-in-Return : goal.statement-returns-in-Return
statement-returns-in-Return t c =
    rw (c.in-Return.is, statement-Return) c.leave-in-Return.ensures

pub statement-action-requires : goal.statement-action-requires
statement-action-requires t c =
    let smaller : 3 + statement_weights (statements_of (map view_statement c.as_slice-in-Block.result.now)) <
    statement_weight (view_statement c.args.s.now) = rw (
      c.as_slice-in-Block.ensures,
      c.in-Block.is,
      statement-Block,
    ) (omega arith) in
    search rules

pub statement-returns-in-Block : goal.statement-returns-in-Block
statement-returns-in-Block t c =
    let h = rw (c.as_slice-in-Block.ensures) at c.action.ensures in rw (c.in-Block.is, statement-Block) h

pub statement-statement-requires : goal.statement-statement-requires
statement-statement-requires t c =
    let smaller : statement_weight (view_statement c.get.result.now) < statement_weight (view_statement c.args.s.now) =
    rw (c.get.ensures, c.in-If.is, statement-If) (omega arith) in
    search rules

pub statement-returns-in_ok-test-in-If : goal.statement-returns-in_ok-test-in-If
statement-returns-in_ok-test-in-If t c =
    let h = rw (c.get.ensures, c.in_ok-test-in-If.ensures, append_assoc) at c.statement.ensures in
    rw (c.in-If.is, statement-If) h

pub statement-statement-requires-in-While : goal.statement-statement-requires-in-While
statement-statement-requires-in-While t c =
    let smaller : statement_weight (view_statement c.get-in-While.result.now) < statement_weight
    (view_statement c.args.s.now) = rw (c.get-in-While.ensures, c.in-While.is, statement-While) (omega arith) in
    search rules

pub statement-returns-in_ok-test-in-While : goal.statement-returns-in_ok-test-in-While
statement-returns-in_ok-test-in-While t c =
    let h = rw (c.get-in-While.ensures, c.in_ok-test-in-While.ensures, append_assoc) at c.statement-in-While.ensures in
    rw (c.in-While.is, statement-While) h

pub statement-statement-requires-in-ForIn : goal.statement-statement-requires-in-ForIn
statement-statement-requires-in-ForIn t c =
    let smaller : statement_weight (view_statement c.get-in-ForIn.result.now) < statement_weight
    (view_statement c.args.s.now) = rw (c.get-in-ForIn.ensures, c.in-ForIn.is, statement-ForIn) (omega arith) in
    search rules

pub statement-returns-in_ok-each_header-in-ForIn : goal.statement-returns-in_ok-each_header-in-ForIn
statement-returns-in_ok-each_header-in-ForIn t c =
    let h = rw (c.get-in-ForIn.ensures, c.in_ok-each_header-in-ForIn.ensures, append_assoc) at
    c.statement-in-ForIn.ensures in
    rw (c.in-ForIn.is, statement-ForIn) h

pub statements-statement-requires : goal.statements-statement-requires
statements-statement-requires t c =
    let smaller : statement_weight (view_statement c.s-item.result) < 1 + statement_weights
    (statements_of (map view_statement c.args.xs.now)) =
    rw c.s-item.is (statement_item_weight c.args.xs.now c.loop-s.s-index c.s-item.result (omega arith)) in
    search rules

pub statements-loop-s-preserved : goal.statements-loop-s-preserved
statements-loop-s-preserved t c =
    let here = drop_here c.args.xs.now c.loop-s.s-index c.s-item.result (omega arith) c.s-item.is in
    rw (c.in_ok-statement.ensures, append_assoc, c.loop-s.invariant, here) refl

pub statement-if_else-requires : goal.statement-if_else-requires
statement-if_else-requires t c =
    let smaller : 4 + (statement_weight (view_statement c.get-in-IfElse.result.now) + statement_weight
    (view_statement c.get-in-IfElse-2.result.now)) < statement_weight (view_statement c.args.s.now) =
    rw (c.get-in-IfElse.ensures, c.get-in-IfElse-2.ensures, c.in-IfElse.is, statement-IfElse) (omega arith) in
    search rules

pub statement-returns-in-IfElse : goal.statement-returns-in-IfElse
statement-returns-in-IfElse t c =
    let h = rw (c.get-in-IfElse.ensures, c.get-in-IfElse-2.ensures) at c.if_else.ensures in
    rw (c.in-IfElse.is, statement-IfElse) h

pub statement-do_while-requires : goal.statement-do_while-requires
statement-do_while-requires t c =
    let smaller : 4 + statement_weight (view_statement c.get-in-Do.result.now) < statement_weight
    (view_statement c.args.s.now) = rw (c.get-in-Do.ensures, c.in-Do.is, statement-Do) (omega arith) in
    search rules

pub statement-returns-in-Do : goal.statement-returns-in-Do
statement-returns-in-Do t c =
    let h = rw (c.get-in-Do.ensures) at c.do_while.ensures in rw (c.in-Do.is, statement-Do) h

pub statement-for_loop-requires : goal.statement-for_loop-requires
statement-for_loop-requires t c =
    let smaller : 4 + statement_weight (view_statement c.get-in-For.result.now) < statement_weight
    (view_statement c.args.s.now) = rw (c.get-in-For.ensures, c.in-For.is, statement-For) (omega arith) in
    search rules

pub statement-returns-in-For : goal.statement-returns-in-For
statement-returns-in-For t c =
    let h = rw (c.get-in-For.ensures) at c.for_loop.ensures in rw (c.in-For.is, statement-For) h
