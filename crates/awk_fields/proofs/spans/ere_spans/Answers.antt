use Rattle.std.proofs.Common.{◌≡◌, ◌∷◌, ◌++◌, [], drop, length, Some, None, IfSome, refl, sym, subst, ◌∙◌, arith}
use Rattle.std.specs.List.{slice_range}
use Rattle.std.proofs.lemmas.List.{take_rest}
use Rattle.awk_fields.specs.Seeking.{IsAhead, IsNextSeparator}
use Rattle.awk_fields.proofs.Cuts.{no_spans, one_more}
use Rattle.awk_fields.proofs.Seeks.{sought_begin, sought_step, sought_end}
use Rattle.awk_fields.proofs.spans.ere_spans.Goals as goal

pub loop-next-init : goal.loop-next-init
loop-next-init c =
    let pattern = c.args.pattern.now in
    let s = c.args.text.now in
    let same : c.find.new.self ≡ (pattern, s) = c.in_ok-known.ensures.same ∙ c.new-searches.ensures in
    record {
      next = subst (λ z. IsNextSeparator z.0 c.args.newline s 0 c.in_ok-next.next) same c.in_ok-next.ensures.next;
      ahead = subst (λ z. IfSome c.in_ok-next.next (λ m. IsAhead z.0 s m.1 c.in_ok-next.ahead)) same
          c.in_ok-next.ensures.ahead;
      parts = ([], sought_begin pattern c.args.newline s, no_spans s c.args.spans.items c.requires);
      same = c.in_ok-next.ensures.same ∙ same;
    }

pub next_separator-requires-in-Some-clause-ahead : goal.next_separator-requires-in-Some-clause-ahead
next_separator-requires-in-Some-clause-ahead c =
    let pattern = c.args.pattern.now in
    let s = c.args.text.now in
    let ahead : IsAhead pattern s c.in-Some.end c.loop-next.ahead =
    subst (λ n. IfSome n (λ m. IsAhead pattern s m.1 c.loop-next.ahead)) c.in-Some.is c.loop-next.invariant.ahead in
    subst (λ z. IsAhead z.0 s c.in-Some.end c.loop-next.ahead) (sym c.loop-next.invariant.same) ahead

pub loop-next-preserved : goal.loop-next-preserved
loop-next-preserved c =
    let pattern = c.args.pattern.now in
    let s = c.args.text.now in
    let start = c.loop-next.start in
    let had = c.loop-next.invariant in
    let here : IsNextSeparator pattern c.args.newline s start (Some (c.in-Some.at, c.in-Some.end)) =
    subst (IsNextSeparator pattern c.args.newline s start) c.in-Some.is had.next in
    record {
      next = subst (λ z. IsNextSeparator z.0 c.args.newline s c.in-Some.end c.in_ok-next-2.field-0-0) had.same
          c.in_ok-next-2.ensures.next;
      ahead = subst (λ z. IfSome c.in_ok-next-2.field-0-0 (λ m. IsAhead z.0 s m.1 c.in_ok-next-2.field-0-1)) had.same
          c.in_ok-next-2.ensures.ahead;
      parts = (
        had.parts.0 ++ slice_range s start c.in-Some.at ∷ [],
        sought_step pattern c.args.newline s start c.in-Some.at c.in-Some.end had.parts.0 had.parts.1 here,
        one_more s c.loop-next.spans.items c.push.new.self.items (record { start = start; end = c.in-Some.at })
            had.parts.0 (slice_range s start c.in-Some.at) c.in_ok-push.ensures.items
            (record { ordered = here.after; inside = omega (arith, here.some, here.within) }) refl had.parts.2,
      );
      same = c.in_ok-next-2.ensures.same ∙ had.same;
    }

pub returns : goal.returns
returns c =
    let s = c.args.text.now in
    let start = c.loop-next.start in
    let so_far = c.loop-next.invariant.parts in
    let none : IsNextSeparator c.args.pattern.now c.args.newline s start None =
    subst (IsNextSeparator c.args.pattern.now c.args.newline s start) c.in_default.is c.loop-next.invariant.next in (
      so_far.0 ++ drop start s ∷ [],
      sought_end c.args.pattern.now c.args.newline s start so_far.0 so_far.1 none,
      one_more s c.loop-next.spans.items c.push-2.new.self.items (record { start = start; end = length s }) so_far.0
          (drop start s) c.in_ok-push-2.ensures.items
          (record { ordered = so_far.1.inside; inside = omega arith }) (take_rest s start) so_far.2,
    )
