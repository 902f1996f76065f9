use Rattle.std.proofs.Common.{◌++◌, refl, arith, map, append-nil}
use Rattle.awk_program.specs.Program.{statements_of}
use Rattle.awk_program.specs.View.{view_statement}
use Rattle.awk_program.proofs.Views.{statement-Expr, statement-Print, statement-Printf, statement-Delete}
use Rattle.awk_program.proofs.Views.{statement-DeleteAll, statement-Jump, statement-Exit, statement-Return}
use Rattle.awk_program.proofs.Views.{statement-Block, statement-If, statement-IfElse, statement-While, statement-Do}
use Rattle.awk_program.proofs.Views.{statement-For, statement-ForIn}
use Rattle.box_listing.specs.Sites as spec
use Rattle.box_listing.proofs.Finding.{same, then}
use Rattle.box_listing.proofs.Walking.{all_found, turn}
use Rattle.box_listing.proofs.statements.+statement.Goals as goal

pub statement-returns-in-Expr : goal.statement-returns-in-Expr
statement-returns-in-Expr t c = same _ _ _ _ (λ n. spec.done (view_statement n c.args.s.now)) c.value.ensures
    (λ n. rw (c.in-Expr.is, statement-Expr) refl)

pub statement-returns-in-Print : goal.statement-returns-in-Print
statement-returns-in-Print t c = same _ _ _ _ (λ n. spec.done (view_statement n c.args.s.now)) c.print.ensures
    (λ n. rw (c.as_slice.ensures, c.in-Print.is, statement-Print) refl)

pub statement-returns-in-Printf : goal.statement-returns-in-Printf
statement-returns-in-Printf t c = same _ _ _ _ (λ n. spec.done (view_statement n c.args.s.now)) c.printf.ensures
    (λ n. rw (c.as_slice-in-Printf.ensures, c.in-Printf.is, statement-Printf) refl)

pub statement-returns-in-Delete : goal.statement-returns-in-Delete
statement-returns-in-Delete t c = same _ _ _ _ (λ n. spec.done (view_statement n c.args.s.now)) c.values.ensures
    (λ n. rw (c.as_slice-in-Delete.ensures, c.in-Delete.is, statement-Delete) refl)

pub statement-returns-in-DeleteAll : goal.statement-returns-in-DeleteAll
statement-returns-in-DeleteAll t c = λ n. rw (c.in-DeleteAll.is, statement-DeleteAll, append-nil) refl

pub statement-returns-in-Jump : goal.statement-returns-in-Jump
statement-returns-in-Jump t c = λ n. rw (c.in-Jump.is, statement-Jump, append-nil) refl

pub statement-returns-in-Exit : goal.statement-returns-in-Exit
statement-returns-in-Exit t c = same _ _ _ _ (λ n. spec.done (view_statement n c.args.s.now)) c.optional.ensures
    (λ n. rw (c.in-Exit.is, statement-Exit) refl)

pub statement-returns-in-Return : goal.statement-returns-in-Return
statement-returns-in-Return t c = same _ _ _ _ (λ n. spec.done (view_statement n c.args.s.now))
    c.optional-in-Return.ensures (λ n. rw (c.in-Return.is, statement-Return) refl)

pub statement-returns-in-Block : goal.statement-returns-in-Block
statement-returns-in-Block t c = same _ _ _ _ (λ n. spec.done (view_statement n c.args.s.now)) c.statements.ensures
    (λ n. rw (c.as_slice-in-Block.ensures, c.in-Block.is, statement-Block) refl)

pub statement-returns-in_ok-value-in-If : goal.statement-returns-in_ok-value-in-If
statement-returns-in_ok-value-in-If t c = then _ _ _ _ _ _ (λ n. spec.done (view_statement n c.args.s.now))
    c.in_ok-value-in-If.ensures c.statement.ensures (λ n. rw (c.get.ensures, c.in-If.is, statement-If) refl)

pub statement-returns-in_ok-value-in-IfElse : goal.statement-returns-in_ok-value-in-IfElse
statement-returns-in_ok-value-in-IfElse t c = then _ _ _ _ _ _ (λ n. spec.done (view_statement n c.args.s.now))
    c.in_ok-value-in-IfElse.ensures c.two.ensures (λ n. rw (
      c.get-in-IfElse.ensures,
      c.get-in-IfElse-2.ensures,
      c.in-IfElse.is,
      statement-IfElse,
    ) refl)

pub statement-returns-in_ok-value-in-While : goal.statement-returns-in_ok-value-in-While
statement-returns-in_ok-value-in-While t c = then _ _ _ _ _ _ (λ n. spec.done (view_statement n c.args.s.now))
    c.in_ok-value-in-While.ensures c.statement-in-While.ensures (λ n. rw (
      c.get-in-While.ensures,
      c.in-While.is,
      statement-While,
    ) refl)

pub statement-returns-in_ok-statement-in-Do : goal.statement-returns-in_ok-statement-in-Do
statement-returns-in_ok-statement-in-Do t c = then _ _ _ _ _ _ (λ n. spec.done (view_statement n c.args.s.now))
    c.in_ok-statement-in-Do.ensures c.value-in-Do.ensures (λ n. rw (c.get-in-Do.ensures, c.in-Do.is, statement-Do) refl)

pub statement-returns-in_ok-header-in-For : goal.statement-returns-in_ok-header-in-For
statement-returns-in_ok-header-in-For t c = then _ _ _ _ _ _ (λ n. spec.done (view_statement n c.args.s.now))
    c.in_ok-header-in-For.ensures c.statement-in-For.ensures (λ n. rw (c.get-in-For.ensures, c.in-For.is, statement-For)
    refl)

pub statement-returns-in-ForIn : goal.statement-returns-in-ForIn
statement-returns-in-ForIn t c = same _ _ _ _ (λ n. spec.done (view_statement n c.args.s.now))
    c.statement-in-ForIn.ensures (λ n. rw (c.get-in-ForIn.ensures, c.in-ForIn.is, statement-ForIn) refl)

pub two-returns : goal.two-returns
two-returns t c = then _ _ _ _ _ _ (λ n. spec.done (view_statement n c.args.x.now)
    ++ spec.done (view_statement n c.args.y.now)) c.in_ok-statement.ensures c.statement-2.ensures (λ n. refl)

pub statements-loop-x-init : goal.statements-loop-x-init
statements-loop-x-init t c = λ n. refl

pub statements-loop-x-preserved : goal.statements-loop-x-preserved
statements-loop-x-preserved t c = turn (λ n xs. spec.each_done (statements_of (map (view_statement n) xs))) _ _ _ _
    c.args.xs.now c.loop-x.x-index c.x-item.result (omega arith) c.x-item.is (λ n ys. refl) c.in_ok-statement.ensures
    c.loop-x.invariant

pub statements-returns : goal.statements-returns
statements-returns t c = all_found (λ n xs. spec.each_done (statements_of (map (view_statement n) xs))) _ _
    c.args.xs.now c.loop-x.x-index (omega arith) (λ n. refl) c.loop-x.invariant
