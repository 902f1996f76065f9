use Rattle.awk_forms.proofs.Leading.{quietly}
use Rattle.awk_forms.proofs.Turns.{text_given}
use Rattle.awk_streams.proofs.Chain.{at_once, done, part, stop}
use Rattle.awk_program.proofs.Views.{view-And, view-Assign, view-Builtin, view-Change, view-Compare, view-Concat}
use Rattle.awk_program.proofs.Views.{view-Count, view-Getline, view-Group, view-In, view-Locate, view-Match, view-Not}
use Rattle.awk_program.proofs.Views.{view-Number, view-Or, view-Pattern, view-Read, view-Signed, view-Split, view-Step}
use Rattle.awk_program.proofs.Views.{view-AsText, view-Substitute, view-Text}
use Rattle.awk_store.proofs.Acting.{acted}
use Rattle.std.proofs.Common.{refl}
use Rattle.std.proofs.lemmas.Result.{err_from_is_err_and}
use Rattle.awk_forms.proofs.expressions.evaluate.Goals as goal

pub returns-in-Text : goal.returns-in-Text
returns-in-Text g c =
    record {
      plays = λ m is. rw (c.in-Text.is, view-Text)
          (acted {g = m} (text_given m (c.args.run.now.store, c.args.run.now.streams) c.in-Text.text c.owned.result
          (rw c.bytes.ensures at c.owned.ensures.ok) c.owned.ensures.err));
      owns = c.requires.owns;
    }

pub returns-in-Read : goal.returns-in-Read
returns-in-Read g c =
    record {
      plays = λ m is. rw (c.in-Read.is, view-Read) (c.read_target.ensures.plays m is);
      owns =
          c.read_target.ensures.owns;
    }

pub returns-in-Assign : goal.returns-in-Assign
returns-in-Assign g c =
    record {
      plays = λ m is. rw (c.in-Assign.is, view-Assign) (rw c.get.ensures at (c.assign.ensures.plays m is));
      owns = c.assign.ensures.owns;
    }

pub returns-in-Change : goal.returns-in-Change
returns-in-Change g c =
    record {
      plays = λ m is. rw (c.in-Change.is, view-Change)
          (rw c.get-in-Change.ensures at (c.change.ensures.plays m is));
      owns = c.change.ensures.owns;
    }

pub returns-in-Step : goal.returns-in-Step
returns-in-Step g c =
    record {
      plays = λ m is. rw (c.in-Step.is, view-Step) (c.increment.ensures.plays m is);
      owns =
          c.increment.ensures.owns;
    }

pub returns-in-Not : goal.returns-in-Not
returns-in-Not g c =
    record {
      plays = λ m is. rw (c.in-Not.is, view-Not) (rw c.get-in-Not.ensures at (c.unary.ensures.plays m is));
      owns = c.unary.ensures.owns;
    }

pub returns-in-Signed : goal.returns-in-Signed
returns-in-Signed g c =
    record {
      plays = λ m is. rw (c.in-Signed.is, view-Signed)
          (rw c.get-in-Signed.ensures at (c.unary-in-Signed.ensures.plays m is));
      owns = c.unary-in-Signed.ensures.owns;
    }

pub returns-in-AsText : goal.returns-in-AsText
returns-in-AsText g c =
    record {
      plays = λ m is. rw (c.in-AsText.is, view-AsText)
          (rw c.get-in-AsText.ensures at (c.unary-in-AsText.ensures.plays m is));
      owns = c.unary-in-AsText.ensures.owns;
    }

pub returns-in-Builtin : goal.returns-in-Builtin
returns-in-Builtin g c =
    record {
      plays = λ m is. rw (c.in-Builtin.is, view-Builtin)
          (rw c.as_slice.ensures at (c.builtin.ensures.plays m is));
      owns = c.builtin.ensures.owns;
    }

pub returns-in-Count : goal.returns-in-Count
returns-in-Count g c =
    record {
      plays = λ m is. rw (c.in-Count.is, view-Count) (acted (c.count.ensures m c.args.run.now.streams));
      owns =
          c.requires.owns;
    }

pub returns-in-Compare : goal.returns-in-Compare
returns-in-Compare g c =
    record {
      plays = λ m is. rw (c.in-Compare.is, view-Compare)
          (rw (c.get-in-Compare.ensures, c.get-in-Compare-2.ensures) at (c.binary.ensures.plays m is));
      owns =
          c.binary.ensures.owns;
    }

pub returns-in-Concat : goal.returns-in-Concat
returns-in-Concat g c =
    record {
      plays = λ m is. rw (c.in-Concat.is, view-Concat)
          (rw (c.get-in-Concat.ensures, c.as_slice-in-Concat.ensures) at (c.concat.ensures.plays m is));
      owns =
          c.concat.ensures.owns;
    }

pub returns-in-In : goal.returns-in-In
returns-in-In g c =
    record {
      plays = λ m is. rw (c.in-In.is, view-In) (rw (c.get-in-In.ensures, c.as_slice-in-In.ensures) at
          (c.within.ensures.plays m is));
      owns = c.within.ensures.owns;
    }

pub returns-in-Group : goal.returns-in-Group
returns-in-Group g c =
    record {
      plays = λ m is. rw (c.in-Group.is, view-Group)
          (rw (c.as_slice-in-Group.ensures, c.as_slice-in-Group-2.ensures) at (c.element_group.ensures.plays m is));
      owns = c.element_group.ensures.owns;
    }

pub returns-in-And : goal.returns-in-And
returns-in-And g c =
    record {
      plays = λ m is. rw (c.in-And.is, view-And) (rw (c.get-in-And.ensures, c.as_slice-in-And.ensures) at
          (c.all.ensures.plays m is));
      owns = c.all.ensures.owns;
    }

pub returns-in-Or : goal.returns-in-Or
returns-in-Or g c =
    record {
      plays = λ m is. rw (c.in-Or.is, view-Or) (rw (c.get-in-Or.ensures, c.as_slice-in-Or.ensures) at
          (c.any.ensures.plays m is));
      owns = c.any.ensures.owns;
    }

pub returns-in-Pattern : goal.returns-in-Pattern
returns-in-Pattern g c =
    record {
      plays = λ m is. rw (c.in-Pattern.is, view-Pattern)
          (acted (rw c.bytes-in-Pattern.ensures at (c.matched_record.ensures m c.args.run.now.streams)));
      owns =
          c.requires.owns;
    }

pub returns-in-Locate : goal.returns-in-Locate
returns-in-Locate g c =
    record {
      plays = λ m is. rw (c.in-Locate.is, view-Locate)
          (rw c.get-in-Locate.ensures at (c.locate.ensures.plays m is));
      owns = c.locate.ensures.owns;
    }

pub returns-in-Split : goal.returns-in-Split
returns-in-Split g c =
    record {
      plays = λ m is. rw (c.in-Split.is, view-Split) (rw c.get-in-Split.ensures at (c.split.ensures.plays m is));
      owns = c.split.ensures.owns;
    }

pub returns-in-Substitute : goal.returns-in-Substitute
returns-in-Substitute g c =
    record {
      plays = λ m is. rw (c.in-Substitute.is, view-Substitute)
          (rw c.get-in-Substitute.ensures at (c.substitute.ensures.plays m is));
      owns = c.substitute.ensures.owns;
    }

pub returns-in-Getline : goal.returns-in-Getline
returns-in-Getline g c =
    record {
      plays = λ m is. rw (c.in-Getline.is, view-Getline) (c.getline.ensures.plays m is);
      owns =
          c.getline.ensures.owns;
    }

pub returns-in-Number : goal.returns-in-Number
returns-in-Number g c =
    record {
      plays = λ m is. rw (c.in-Number.is, view-Number, c.of.ensures)
          (done (quietly (at_once _ _ _) (λ k hid d a. refl)));
      owns = c.requires.owns;
    }

pub returns-in_err-found-in-Match : goal.returns-in_err-found-in-Match
returns-in_err-found-in-Match g c =
    let e = err_from_is_err_and c.from_residual.result c.from_residual.ensures.1 in
    rw (e.1, e.2) (record {
      plays = λ m is. rw (c.in-Match.is, view-Match) (stop _ (λ k. refl) (at_once _ _ _)
          (rw c.get-in-Match.ensures at (c.matches.ensures.plays m is)) c.in_err-found-in-Match.was);
      owns =
          c.matches.ensures.owns;
    })

pub returns-in_ok-found-in-Match : goal.returns-in_ok-found-in-Match
returns-in_ok-found-in-Match g c =
    rw c.truth_value.ensures
    (record {
      plays = λ m is. rw (c.in-Match.is, view-Match)
          (done (part _ (at_once _ _ _) (rw c.get-in-Match.ensures at (c.matches.ensures.plays m is))
          c.in_ok-found-in-Match.was));
      owns = c.matches.ensures.owns;
    })
