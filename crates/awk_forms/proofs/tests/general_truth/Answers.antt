use Rattle.awk_forms.proofs.Leading.{as_truth}
use Rattle.awk_streams.proofs.Chain.{at_once, done, lacking, part, stop}
use Rattle.awk_machine.specs.Forms.{value}
use Rattle.awk_program.proofs.Views.{view-Compare, view-Match, view-Not}
use Rattle.awk_program.specs.View.{view, view_ere}
use Rattle.awk_store.specs.Wholes.{names_in}
use Rattle.std.proofs.Common.{refl}
use Rattle.std.proofs.lemmas.Result.{err_from_is_err_and}
use Rattle.awk_forms.proofs.tests.general_truth.Goals as goal
use Rattle.awk_program.specs.Program as p
use Rattle.awk_text.specs.declared.value.Value.TheVariants as v

pub returns-in_default : goal.returns-in_default
returns-in_default g c =
    record { val = v.Unset; is = tt; does = record { plays = λ m is. lacking (at_once _ _ _); owns = c.requires.owns } }

pub returns-in_err-found-in_default-e : goal.returns-in_err-found-in_default-e
returns-in_err-found-in_default-e g c =
    let e = err_from_is_err_and c.from_residual.result c.from_residual.ensures.1 in
    rw (e.1, e.2) (record {
      val = v.Unset;
      is = tt;
      does =
          record {
            plays = λ m is. stop _ (λ k. refl) (at_once _ _ _) (c.value.ensures.plays m is)
                c.in_err-found-in_default-e.was;
            owns = c.value.ensures.owns;
          };
    })

pub returns-in_ok-found-in_default-e : goal.returns-in_ok-found-in_default-e
returns-in_ok-found-in_default-e g c =
    record {
      val = c.in_ok-found-in_default-e.found;
      is = rw c.numbers.ensures at c.truth.ensures;
      does =
          record {
            plays = λ m is. done (part _ (at_once _ _ _) (c.value.ensures.plays m is)
                c.in_ok-found-in_default-e.was);
            owns = c.value.ensures.owns;
          };
    }

pub returns-in-Compare : goal.returns-in-Compare
returns-in-Compare g c =
    let h = as_truth {ghosts = g.W.World} {cx = c.args.cx.now} {p =
    λ m. value (p.compare c.in-Compare.place c.in-Compare.how (view (names_in m) c.in-Compare.x) (view (names_in m) c.in-Compare.y))}
    {r = c.compare.result} (record {
      plays = λ m is. rw (c.get.ensures, c.get-in-Compare.ensures) at
          (c.compare.ensures.plays m is);
      owns = c.compare.ensures.owns;
    }) in
    record {
      val = h.val;
      is = h.is;
      does =
          record { plays = λ m is. rw (c.in-Compare.is, view-Compare) (h.does.plays m is); owns = h.does.owns };
    }

pub returns-in-Match : goal.returns-in-Match
returns-in-Match g c =
    let h = as_truth {ghosts = g.W.World} {cx = c.args.cx.now} {p =
    λ m. value (p.matched c.in-Match.place (view (names_in m) c.in-Match.x)
    (view_ere (names_in m) c.in-Match.pattern))} {r = c.matches.result}
    (record {
      plays = λ m is. rw c.get-in-Match.ensures at (c.matches.ensures.plays m is);
      owns =
          c.matches.ensures.owns;
    }) in
    record {
      val = h.val;
      is = h.is;
      does = record {
        plays = λ m is. rw (c.in-Match.is, view-Match) (h.does.plays m is);
        owns = h.does.owns;
      };
    }

pub returns-in-Not : goal.returns-in-Not
returns-in-Not g c =
    let h = as_truth {ghosts = g.W.World} {cx = c.args.cx.now} {p = λ m. value (p.not (view (names_in m) c.in-Not.x))}
    {r = c.is_untrue.result} (record {
      plays = λ m is. rw c.get-in-Not.ensures at (c.is_untrue.ensures.plays m is);
      owns = c.is_untrue.ensures.owns;
    }) in
    record {
      val = h.val;
      is = h.is;
      does = record {
        plays = λ m is. rw (c.in-Not.is, view-Not) (h.does.plays m is);
        owns = h.does.owns;
      };
    }
