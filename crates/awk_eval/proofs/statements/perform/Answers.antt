use Rattle.awk_eval.proofs.Going.{block_first, turn_first}
use Rattle.awk_forms.proofs.Leading.{quietly}
use Rattle.awk_streams.proofs.Chain.{at_once, done, part, passes}
use Rattle.awk_store.proofs.Acting.{acted}
use Rattle.awk_machine.specs.Expressions.{either}
use Rattle.awk_machine.specs.Pieces.{Do, Each}
use Rattle.awk_program.proofs.Views.{statement-Block, statement-Delete, statement-DeleteAll, statement-Do}
use Rattle.awk_program.proofs.Views.{statement-Exit, statement-Expr, statement-For, statement-ForIn, statement-If}
use Rattle.awk_program.proofs.Views.{statement-IfElse, statement-Jump, statement-Print, statement-Printf}
use Rattle.awk_program.proofs.Views.{statement-Return, statement-While}
use Rattle.awk_program.specs.View.{view_statement}
use Rattle.awk_store.specs.Wholes.{names_in}
use Rattle.std.proofs.Common.{map, refl, ◌∷◌}
use Rattle.awk_eval.proofs.statements.perform.Goals as goal

pub returns-in-Expr : goal.returns-in-Expr
returns-in-Expr g c =
    record {
      plays = λ m is. rw (c.in-Expr.is, statement-Expr) (c.plain.ensures.plays m is);
      owns =
          c.plain.ensures.owns;
    }

pub returns-in-Print : goal.returns-in-Print
returns-in-Print g c =
    record {
      plays = λ m is. rw (c.in-Print.is, statement-Print)
          (rw c.as_slice.ensures at (c.print.ensures.plays m is));
      owns = c.print.ensures.owns;
    }

pub returns-in-Printf : goal.returns-in-Printf
returns-in-Printf g c =
    record {
      plays = λ m is. rw (c.in-Printf.is, statement-Printf) (rw c.as_slice-in-Printf.ensures at
          (c.printf.ensures.plays m is));
      owns = c.printf.ensures.owns;
    }

pub returns-in-Delete : goal.returns-in-Delete
returns-in-Delete g c =
    record {
      plays = λ m is. rw (c.in-Delete.is, statement-Delete) (rw c.as_slice-in-Delete.ensures at
          (c.delete.ensures.plays m is));
      owns = c.delete.ensures.owns;
    }

pub returns-in-DeleteAll : goal.returns-in-DeleteAll
returns-in-DeleteAll g c =
    record {
      plays = λ m is. rw (c.in-DeleteAll.is, statement-DeleteAll)
          (done (part tt (at_once _ _ _) (acted (c.remove_all.ensures m c.args.run.now.streams)) refl));
      owns =
          c.requires.owns;
    }

pub returns-in-Jump : goal.returns-in-Jump
returns-in-Jump g c =
    record { plays = λ m is. rw (c.in-Jump.is, statement-Jump) (c.jump.ensures.task m); owns = c.jump.ensures.owns }

pub returns-in-Exit : goal.returns-in-Exit
returns-in-Exit g c =
    record {
      plays = λ m is. rw (c.in-Exit.is, statement-Exit) (c.leave_by.ensures.plays m is);
      owns =
          c.leave_by.ensures.owns;
    }

pub returns-in-Return : goal.returns-in-Return
returns-in-Return g c =
    record {
      plays = λ m is. rw (c.in-Return.is, statement-Return) (c.give_back.ensures.plays m is);
      owns =
          c.give_back.ensures.owns;
    }

pub returns-in-Block : goal.returns-in-Block
returns-in-Block g c =
    record {
      plays = λ m is. rw (c.in-Block.is, statement-Block)
          (passes (quietly {then_ = λ k. Do (Each (map (view_statement (names_in m)) c.in-Block.xs)) ∷ k} (at_once _ _ _)
          (λ k hid d a. block_first m (map (view_statement (names_in m)) c.in-Block.xs) k _))
          (rw c.as_slice-in-Block.ensures at (c.body.ensures.plays m is)));
      owns = c.body.ensures.owns;
    }

pub returns-in-If : goal.returns-in-If
returns-in-If g c =
    record {
      plays = λ m is. rw (c.in-If.is, statement-If) (rw c.get.ensures at (c.when.ensures.plays m is));
      owns =
          c.when.ensures.owns;
    }

pub returns-in-IfElse : goal.returns-in-IfElse
returns-in-IfElse g c =
    record {
      plays = λ m is. rw (c.in-IfElse.is, statement-IfElse)
          (rw (c.get-in-IfElse.ensures, c.get-in-IfElse-2.ensures) at (c.either.ensures.plays m is));
      owns =
          c.either.ensures.owns;
    }

pub returns-in-While : goal.returns-in-While
returns-in-While g c =
    record {
      plays = λ m is. rw (c.in-While.is, statement-While)
          (rw c.get-in-While.ensures at (c.while_loop.ensures.plays m is));
      owns = c.while_loop.ensures.owns;
    }

pub returns-in-Do : goal.returns-in-Do
returns-in-Do g c =
    record {
      plays = λ m is. rw (c.in-Do.is, statement-Do)
          (rw c.get-in-Do.ensures at (c.turn_first.ensures.plays m is));
      owns = c.turn_first.ensures.owns;
    }

pub returns-in-For : goal.returns-in-For
returns-in-For g c =
    record {
      plays = λ m is. rw (c.in-For.is, statement-For)
          (rw c.get-in-For.ensures at (c.first_then.ensures.plays m is));
      owns = c.first_then.ensures.owns;
    }

pub returns-in-ForIn : goal.returns-in-ForIn
returns-in-ForIn g c =
    record {
      plays = λ m is. rw (c.in-ForIn.is, statement-ForIn)
          (rw c.get-in-ForIn.ensures at (c.over_keys.ensures.plays m is));
      owns = c.over_keys.ensures.owns;
    }
