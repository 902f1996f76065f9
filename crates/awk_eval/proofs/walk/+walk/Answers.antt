use Rattle.awk_eval.proofs.Going.{starts_at_once, starts_stepped}
use Rattle.awk_forms.proofs.Leading.{quietly}
use Rattle.awk_streams.proofs.Chain.{at_once, lacking, part, passes, stop}
use Rattle.awk_store.proofs.Leading.{takes}
use Rattle.awk_machine.specs.Pieces.{At, Do, Doing, Step, give}
use Rattle.awk_program.proofs.Views.{statement-Expr, statement-If, statement-IfElse, view-Call, view-Chain, view-Choice}
use Rattle.awk_program.proofs.Views.{view-GetlineFile, view-Pipe, view-Read}
use Rattle.awk_program.specs.View.{view_statement}
use Rattle.awk_store.proofs.Acting.{acted, done as there}
use Rattle.awk_store.specs.Wholes.{names_in}
use Rattle.std.proofs.Common.{[], ap, false, refl, rules, sym, true, w64, ◌∙◌, ◌∷◌}
use Rattle.std.proofs.lemmas.Int.{to_z-of_z}
use Rattle.std.proofs.lemmas.Result.{err_from_is_err_and}
use Rattle.awk_text.specs.declared.value.Value.TheVariants as v
use Rattle.awk_eval.proofs.walk.+walk.Goals as goal

pub value-returns-then-left-units : goal.value-returns-then-left-units
value-returns-then-left-units g t c =
    record { plays = λ m is. lacking (at_once _ _ _); owns = c.requires }

pub value-returns-then-left-units-2 : goal.value-returns-then-left-units-2
value-returns-then-left-units-2 g t c =
    record { plays = λ m is. lacking (at_once _ _ _); owns = c.requires }

pub value-returns-in-Chain : goal.value-returns-in-Chain
value-returns-in-Chain g t c =
    record {
      plays = λ m is. rw (c.in-Chain.is, view-Chain) (rw (c.get.ensures, c.as_slice-in-Chain.ensures) at
          (c.chain.ensures.plays m is));
      owns = c.chain.ensures.owns;
    }

pub value-returns-in-Choice : goal.value-returns-in-Choice
value-returns-in-Choice g t c =
    record {
      plays = λ m is. rw (c.in-Choice.is, view-Choice) (rw (
        c.get-in-Choice.ensures,
        c.get-in-Choice-2.ensures,
        c.get-in-Choice-3.ensures,
      ) at (c.choose.ensures.plays m is));
      owns = c.choose.ensures.owns;
    }

pub value-returns-in-GetlineFile : goal.value-returns-in-GetlineFile
value-returns-in-GetlineFile g t c =
    record {
      plays = λ m is. rw (c.in-GetlineFile.is, view-GetlineFile)
          (rw c.get-in-GetlineFile.ensures at (c.from_file.ensures.plays m is));
      owns = c.from_file.ensures.owns;
    }

pub value-returns-in-Pipe : goal.value-returns-in-Pipe
value-returns-in-Pipe g t c =
    record {
      plays = λ m is. rw (c.in-Pipe.is, view-Pipe) (rw (c.get-in-Pipe.ensures, c.as_slice-in-Pipe.ensures) at
          (c.from_commands.ensures.plays m is));
      owns = c.from_commands.ensures.owns;
    }

pub value-returns-in-Call : goal.value-returns-in-Call
value-returns-in-Call g t c =
    record {
      plays = λ m is. rw (c.in-Call.is, view-Call) (rw c.as_slice.ensures at (c.call.ensures.plays m is));
      owns =
          c.call.ensures.owns;
    }

pub statement-returns-then-left-units : goal.statement-returns-then-left-units
statement-returns-then-left-units g t c =
    record { plays = λ m is. lacking (at_once _ _ _); owns = c.requires }

pub statement-returns-then-not-is_one : goal.statement-returns-then-not-is_one
statement-returns-then-not-is_one g t c =
    record {
      plays = λ m is. passes
          (quietly (at_once _ _ _) (λ k hid d a. starts_at_once m (view_statement (names_in m) c.args.x.now)
          c.is_one.result (c.is_one.ensures (names_in m)) c.if-not-is_one.true k _)) (c.block.ensures.plays m is);
      owns =
          c.block.ensures.owns;
    }

pub statement-returns-in_err-step : goal.statement-returns-in_err-step
statement-returns-in_err-step g t c =
    let e = err_from_is_err_and c.from_residual.result c.from_residual.ensures.1 in
    rw (e.1, e.2) (record {
      plays =
          λ m is. stop _ (λ k. refl)
          (quietly {then_ = λ k. Do Step ∷ At (Doing (view_statement (names_in m) c.args.x.now)) [] ∷ k} (at_once _ _ _)
          (λ k hid d a. starts_stepped m (view_statement (names_in m) c.args.x.now) c.is_one.result
          (c.is_one.ensures (names_in m)) c.if-not-is_one.false k _)) (takes (is.host.bound ∙ sym c.bound.ensures)
          (c.step.ensures c.args.run.now.streams)) c.in_err-step.was;
      owns = c.requires;
    })

pub statement-returns-in_default : goal.statement-returns-in_default
statement-returns-in_default g t c =
    record {
      plays = λ m is. passes
          (part _ (quietly {then_ = λ k. Do Step ∷ At (Doing (view_statement (names_in m) c.args.x.now)) [] ∷ k}
          (at_once _ _ _) (λ k hid d a. starts_stepped m (view_statement (names_in m) c.args.x.now) c.is_one.result
          (c.is_one.ensures (names_in m)) c.if-not-is_one.false k _)) (takes (is.host.bound ∙ sym c.bound.ensures)
          (c.step.ensures c.args.run.now.streams)) c.in_ok-step.was) (c.perform.ensures.plays m is);
      owns =
          c.perform.ensures.owns;
    }

pub statement-returns-in-Expr : goal.statement-returns-in-Expr
statement-returns-in-Expr g t c =
    record {
      plays = λ m is. passes
          (part _ (quietly {then_ = λ k. Do Step ∷ At (Doing (view_statement (names_in m) c.args.x.now)) [] ∷ k}
          (at_once _ _ _) (λ k hid d a. starts_stepped m (view_statement (names_in m) c.args.x.now) c.is_one.result
          (c.is_one.ensures (names_in m)) c.if-not-is_one.false k _)) (takes (is.host.bound ∙ sym c.bound.ensures)
          (c.step.ensures c.args.run.now.streams)) c.in_ok-step.was)
          (rw (sym (ap (view_statement (names_in m)) c.in-Expr.is ∙ statement-Expr _ _)) at (c.plain.ensures.plays m is));
      owns = c.plain.ensures.owns;
    }

pub statement-returns-in-If : goal.statement-returns-in-If
statement-returns-in-If g t c =
    record {
      plays = λ m is. passes
          (part _ (quietly {then_ = λ k. Do Step ∷ At (Doing (view_statement (names_in m) c.args.x.now)) [] ∷ k}
          (at_once _ _ _) (λ k hid d a. starts_stepped m (view_statement (names_in m) c.args.x.now) c.is_one.result
          (c.is_one.ensures (names_in m)) c.if-not-is_one.false k _)) (takes (is.host.bound ∙ sym c.bound.ensures)
          (c.step.ensures c.args.run.now.streams)) c.in_ok-step.was)
          (rw (sym (ap (view_statement (names_in m)) c.in-If.is ∙ statement-If _ _ _)) at
          (rw c.get.ensures at (c.when.ensures.plays m is)));
      owns = c.when.ensures.owns;
    }

pub statement-returns-in-IfElse : goal.statement-returns-in-IfElse
statement-returns-in-IfElse g t c =
    record {
      plays = λ m is. passes
          (part _ (quietly {then_ = λ k. Do Step ∷ At (Doing (view_statement (names_in m) c.args.x.now)) [] ∷ k}
          (at_once _ _ _) (λ k hid d a. starts_stepped m (view_statement (names_in m) c.args.x.now) c.is_one.result
          (c.is_one.ensures (names_in m)) c.if-not-is_one.false k _)) (takes (is.host.bound ∙ sym c.bound.ensures)
          (c.step.ensures c.args.run.now.streams)) c.in_ok-step.was)
          (rw (sym (ap (view_statement (names_in m)) c.in-IfElse.is ∙ statement-IfElse _ _ _ _)) at
          (rw (c.get-in-IfElse.ensures, c.get-in-IfElse-2.ensures) at (c.either.ensures.plays m is)));
      owns =
          c.either.ensures.owns;
    }

pub value-returns-in-Some : goal.value-returns-in-Some
value-returns-in-Some g t c =
    record {
      plays = λ m is. rw (to_z-of_z w64 c.in-Some.number (search rules))
          (acted (there {on = give} {x = v.Num c.in-Some.number} (c.in-Some.ensures m c.args.run.now.streams)));
      owns =
          c.requires;
    }

pub value-returns-in-Variable : goal.value-returns-in-Variable
value-returns-in-Variable g t c =
    record {
      plays = λ m is. rw (c.in-Read.is, view-Read, c.in-Variable.is) (c.value_of_variable.ensures.plays m is);
      owns = c.value_of_variable.ensures.owns;
    }

pub value-returns-in-Some-other_at_hand : goal.value-returns-in-Some-other_at_hand
value-returns-in-Some-other_at_hand g t c =
    record {
      plays = λ m is. acted (there {on = give} {x = c.in-Some-other_at_hand.there}
          (c.in-Some-other_at_hand.ensures m c.args.run.now.streams));
      owns = c.requires;
    }
