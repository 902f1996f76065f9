use Rattle.std.proofs.Common.{refl, sym, ap, ◌∙◌, map, true, false}
use Rattle.std.specs.Prelude.{Ok}
use Rattle.std.proofs.lemmas.Result.{err_from_is_err_and}
use Rattle.awk_program.specs.View.{view, view_statement}
use Rattle.awk_program.specs.Program as p
use Rattle.awk_store.specs.Wholes.{names_in}
use Rattle.awk_store.proofs.Acting.{acted}
use Rattle.awk_streams.proofs.Chain.{at_once, done, part, stop}
use Rattle.awk_forms.proofs.Leading.{quietly, told_truth}
use Rattle.awk_run.proofs.RuleSteps.{pattern_first}
use Rattle.awk_run.specs.Rules.{rule_of}
use Rattle.awk_run.proofs.rules.test_range.Goals as goal

pub returns-in_err-holds : goal.returns-in_err-holds
returns-in_err-holds g c =
    let e = err_from_is_err_and c.from_residual.result c.from_residual.ensures.1 in
    rw (e.1, e.2) (record {
      plays = λ m is. stop _ (λ k. refl)
          (quietly (at_once _ _ _) (λ k hid d a. pattern_first m (c.args.run.now.store, c.args.run.now.streams) hid d
          c.args.n c.args.first.now c.args.last.now c.next_pattern-pattern.result.now
          (map (view_statement (names_in m)) c.args.action.now) c.is_on.result c.is_on.ensures
          c.next_pattern-pattern.ensures k))
          (c.truth_of.ensures.does.plays m is) c.in_err-holds.was;
      owns = c.truth_of.ensures.does.owns;
    })

pub end_range-requires : goal.end_range-requires
end_range-requires g c = sym c.is_on-2.ensures ∙ c.if-is_on.true

pub returns-in_err-end_range : goal.returns-in_err-end_range
returns-in_err-end_range g c =
    let e = err_from_is_err_and c.from_residual-in_err-end_range.result c.from_residual-in_err-end_range.ensures.1 in
    rw (e.1, e.2) (record {
      plays = λ m is. stop _ (λ k. refl)
          (part _ (quietly (at_once _ _ _) (λ k hid d a. pattern_first m (c.args.run.now.store, c.args.run.now.streams)
          hid d c.args.n c.args.first.now c.args.last.now c.next_pattern-pattern.result.now
          (map (view_statement (names_in m)) c.args.action.now) c.is_on.result c.is_on.ensures
          c.next_pattern-pattern.ensures k))
          (c.truth_of.ensures.does.plays m is) c.in_ok-holds.was)
          (acted (c.end_range.ensures m c.truth_of.new.run.streams
          (rule_of (p.range (view (names_in m) c.args.first.now) (view (names_in m) c.args.last.now))
          (map (view_statement (names_in m)) c.args.action.now)) (view (names_in m) c.args.first.now)
          (view (names_in m) c.args.last.now) c.truth_of.ensures.val refl
          (told_truth _ c.truth_of.ensures.val _ _ c.in_ok-holds.was c.truth_of.ensures.is))) c.in_err-end_range.was;
      owns = c.truth_of.ensures.does.owns;
    })

pub returns-then-is_on : goal.returns-then-is_on
returns-then-is_on g c = record {
  plays = λ m is. done (part _
      (part _ (quietly (at_once _ _ _) (λ k hid d a. pattern_first m (c.args.run.now.store, c.args.run.now.streams) hid
      d c.args.n c.args.first.now c.args.last.now c.next_pattern-pattern.result.now
      (map (view_statement (names_in m)) c.args.action.now) c.is_on.result c.is_on.ensures
      c.next_pattern-pattern.ensures k))
      (c.truth_of.ensures.does.plays m is) c.in_ok-holds.was)
      (acted (c.end_range.ensures m c.truth_of.new.run.streams
      (rule_of (p.range (view (names_in m) c.args.first.now) (view (names_in m) c.args.last.now))
      (map (view_statement (names_in m)) c.args.action.now)) (view (names_in m) c.args.first.now)
      (view (names_in m) c.args.last.now) c.truth_of.ensures.val refl
      (told_truth _ c.truth_of.ensures.val _ _ c.in_ok-holds.was c.truth_of.ensures.is))) c.in_ok-end_range.was);
  owns = c.truth_of.ensures.does.owns;
}

pub begin_range-requires : goal.begin_range-requires
begin_range-requires g c = sym c.is_on-2.ensures ∙ c.if-is_on.false

pub returns-in_err-begins : goal.returns-in_err-begins
returns-in_err-begins g c =
    let e = err_from_is_err_and c.from_residual-in_err-begins.result c.from_residual-in_err-begins.ensures.1 in
    rw (e.1, e.2) (record {
      plays = λ m is. stop _ (λ k. refl)
          (part _ (quietly (at_once _ _ _) (λ k hid d a. pattern_first m (c.args.run.now.store, c.args.run.now.streams)
          hid d c.args.n c.args.first.now c.args.last.now c.next_pattern-pattern.result.now
          (map (view_statement (names_in m)) c.args.action.now) c.is_on.result c.is_on.ensures
          c.next_pattern-pattern.ensures k))
          (c.truth_of.ensures.does.plays m is) c.in_ok-holds.was)
          (acted (c.begin_range.ensures m c.truth_of.new.run.streams
          (rule_of (p.range (view (names_in m) c.args.first.now) (view (names_in m) c.args.last.now))
          (map (view_statement (names_in m)) c.args.action.now)) (view (names_in m) c.args.first.now)
          (view (names_in m) c.args.last.now) c.truth_of.ensures.val refl
          (told_truth _ c.truth_of.ensures.val _ _ c.in_ok-holds.was c.truth_of.ensures.is))) c.in_err-begins.was;
      owns = c.truth_of.ensures.does.owns;
    })

pub returns-then-begins : goal.returns-then-begins
returns-then-begins g c = record {
  plays = λ m is. done (part true
      (part _ (quietly (at_once _ _ _) (λ k hid d a. pattern_first m (c.args.run.now.store, c.args.run.now.streams) hid
      d c.args.n c.args.first.now c.args.last.now c.next_pattern-pattern.result.now
      (map (view_statement (names_in m)) c.args.action.now) c.is_on.result c.is_on.ensures
      c.next_pattern-pattern.ensures k))
      (c.truth_of.ensures.does.plays m is) c.in_ok-holds.was)
      (acted (c.begin_range.ensures m c.truth_of.new.run.streams
      (rule_of (p.range (view (names_in m) c.args.first.now) (view (names_in m) c.args.last.now))
      (map (view_statement (names_in m)) c.args.action.now)) (view (names_in m) c.args.first.now)
      (view (names_in m) c.args.last.now) c.truth_of.ensures.val refl
      (told_truth _ c.truth_of.ensures.val _ _ c.in_ok-holds.was c.truth_of.ensures.is)))
      (c.in_ok-begins.was ∙ ap (λ b. Ok b) c.if-begins.true));
  owns = c.truth_of.ensures.does.owns;
}

pub returns : goal.returns
returns g c = record {
  plays = λ m is. done (part false
      (part _ (quietly (at_once _ _ _) (λ k hid d a. pattern_first m (c.args.run.now.store, c.args.run.now.streams) hid
      d c.args.n c.args.first.now c.args.last.now c.next_pattern-pattern.result.now
      (map (view_statement (names_in m)) c.args.action.now) c.is_on.result c.is_on.ensures
      c.next_pattern-pattern.ensures k))
      (c.truth_of.ensures.does.plays m is) c.in_ok-holds.was)
      (acted (c.begin_range.ensures m c.truth_of.new.run.streams
      (rule_of (p.range (view (names_in m) c.args.first.now) (view (names_in m) c.args.last.now))
      (map (view_statement (names_in m)) c.args.action.now)) (view (names_in m) c.args.first.now)
      (view (names_in m) c.args.last.now) c.truth_of.ensures.val refl
      (told_truth _ c.truth_of.ensures.val _ _ c.in_ok-holds.was c.truth_of.ensures.is)))
      (c.in_ok-begins.was ∙ ap (λ b. Ok b) c.if-begins.false));
  owns = c.truth_of.ensures.does.owns;
}
