use Rattle.std.proofs.Common.{◌≡◌, Some, None, pos, sym, ap, subst, ◌∙◌, ⊎_elim, inl, inr, not, arith, w64, to_z}
use Rattle.std.specs.Option.{is_some}
use Rattle.std.proofs.lemmas.Bool.{false≢true}
use Rattle.std.proofs.lemmas.Int.{ints}
use Rattle.std.proofs.lemmas.List.{take_rest}
use Rattle.std.proofs.lemmas.Result.{err_from_is_err_and}
use Rattle.awk_lib.specs.Seeking.{IsNextMatch}
use Rattle.awk_lib.proofs.Making.{Turn, turn_begin, turn_on, turn_replaced, turn_too_long}
use Rattle.awk_lib.proofs.replacing.replace_all.Goals as goal

pub loop-next-init : goal.loop-next-init
loop-next-init c =
    let ere = c.args.ere.now in
    let text = c.args.text.now in
    let next : IsNextMatch ere text 0 None c.in_ok-next.next =
    subst (λ z. IsNextMatch z.0 text 0 None c.in_ok-next.next) c.new-searches.ensures c.in_ok-next.ensures.next in
    record {
      turn = rw c.in_ok-out.ensures (turn_begin c.args.ere.now c.args.with.now c.args.text.now c.in_ok-next.next next
          (λ e. false≢true (sym (ap is_some e) ∙ c.is_none.ensures ∙ ap not c.if-is_none.false)));
      same = c.in_ok-next.ensures.same ∙ c.new-searches.ensures;
    }

pub push_match-requires-clause-plain : goal.push_match-requires-clause-plain
push_match-requires-clause-plain c = rw c.of-replacement.ensures.text c.of-replacement.ensures.plain

pub loop-next-preserved : goal.loop-next-preserved
loop-next-preserved c =
    let ere = c.args.ere.now in
    let with = c.args.with.now in
    let text = c.args.text.now in
    let turn : Turn ere with text (Some (c.in-Some.start, c.in-Some.end)) c.loop-next.done c.loop-next.count
    c.loop-next.out =
    subst (λ n. Turn ere with text n c.loop-next.done c.loop-next.count c.loop-next.out) c.in-Some.is
    c.loop-next.invariant.turn in
    let next = subst (λ z. IsNextMatch z.0 text c.next_from.result (Some c.in-Some.end) c.in_ok-next-2.next)
    c.loop-next.invariant.same c.in_ok-next-2.ensures.next in
    record {
      turn = turn_on ere with text c.in-Some.start c.in-Some.end c.in_ok-next-2.next c.loop-next.done c.loop-next.count
          c.loop-next.out c.push_match.new.out turn (rw c.of-replacement.ensures.text at c.in_ok-push_match.ensures)
          (subst (λ f. IsNextMatch ere text f (Some c.in-Some.end) c.in_ok-next-2.next) c.next_from.ensures next);
      same = c.in_ok-next-2.ensures.same ∙ c.loop-next.invariant.same;
    }

pub returns-in_err-new-clause-fault : goal.returns-in_err-new-clause-fault
returns-in_err-new-clause-fault c =
    let ere = c.args.ere.now in
    let with = c.args.with.now in
    let text = c.args.text.now in
    let done = c.loop-next.done in
    let turn : Turn ere with text None done c.loop-next.count c.loop-next.out =
    subst (λ n. Turn ere with text n done c.loop-next.count c.loop-next.out) c.in_default.is c.loop-next.invariant.turn
    in
    let p = err_from_is_err_and c.from_residual-in_err-new.result c.from_residual-in_err-new.ensures.1 in
    rw (p.1, p.2) (⊎_elim inl (λ h. inr (
      h.0,
      turn_too_long ere with text done c.loop-next.count c.loop-next.out _
          (take_rest text done) turn h.1,
    )) c.in_err-new.ensures.err)

pub returns-clause-ok : goal.returns-clause-ok
returns-clause-ok c =
    let ere = c.args.ere.now in
    let with = c.args.with.now in
    let text = c.args.text.now in
    let done = c.loop-next.done in
    let turn : Turn ere with text None done c.loop-next.count c.loop-next.out =
    subst (λ n. Turn ere with text n done c.loop-next.count c.loop-next.out) c.in_default.is c.loop-next.invariant.turn
    in
    let number : to_z w64 c.loop-next.count ≡ pos c.loop-next.count = omega (arith, ints) in
    turn_replaced ere with text done c.loop-next.count c.loop-next.out _ (take_rest text done) c.in_ok-new.new
    (to_z w64 c.loop-next.count) turn c.in_ok-new.ensures.ok number
