use Rattle.std.proofs.Common.{Some, [], subst, ⊎_elim, inl, inr}
use Rattle.std.proofs.lemmas.List.{take_rest}
use Rattle.std.proofs.lemmas.Result.{err_from_is_err_and}
use Rattle.awk_ere.specs.Spelled.{Finds}
use Rattle.awk_lib.proofs.Matching.{stands}
use Rattle.awk_lib.proofs.Making.{first_replaced, first_too_long}
use Rattle.awk_lib.proofs.replacing.replace_first.Goals as goal

pub push_match-requires-clause-ordered : goal.push_match-requires-clause-ordered
push_match-requires-clause-ordered c =
    let ere = c.args.ere.now in
    let text = c.args.text.now in
    let found : Finds ere text 0 (Some (c.in-Some.start, c.in-Some.end)) =
    subst (Finds ere text 0) c.in-Some.is c.in_ok-start.ensures in
    (stands ere text 0 c.in-Some.start c.in-Some.end found).ordered

pub push_match-requires-clause-plain : goal.push_match-requires-clause-plain
push_match-requires-clause-plain c = rw c.of.ensures.text c.of.ensures.plain

pub returns-in_err-new-clause-fault : goal.returns-in_err-new-clause-fault
returns-in_err-new-clause-fault c =
    let ere = c.args.ere.now in
    let with = c.args.with.now in
    let text = c.args.text.now in
    let start = c.in-Some.start in
    let end = c.in-Some.end in
    let found : Finds ere text 0 (Some (start, end)) = subst (Finds ere text 0) c.in-Some.is c.in_ok-start.ensures in
    let p = err_from_is_err_and c.from_residual-in_err-new.result c.from_residual-in_err-new.ensures.1 in
    let wrote = rw (c.in_ok-out.ensures, c.of.ensures.text) at c.in_ok-push_match.ensures in
    rw (p.1, p.2) (⊎_elim inl
    (λ h. inr (
      h.0,
      (
        (start, end),
        [],
        first_too_long ere with text start end c.push_match.new.out _ found wrote
            (take_rest text end) h.1,
      ),
    )) c.in_err-new.ensures.err)

pub returns-clause-ok : goal.returns-clause-ok
returns-clause-ok c =
    let ere = c.args.ere.now in
    let with = c.args.with.now in
    let text = c.args.text.now in
    let start = c.in-Some.start in
    let end = c.in-Some.end in
    let found : Finds ere text 0 (Some (start, end)) = subst (Finds ere text 0) c.in-Some.is c.in_ok-start.ensures in
    let wrote = rw (c.in_ok-out.ensures, c.of.ensures.text) at c.in_ok-push_match.ensures in (
      (start, end),
      [],
      first_replaced ere with text start end c.push_match.new.out _ found wrote (take_rest text end)
          c.in_ok-new.new c.in_ok-new.ensures.ok,
    )
