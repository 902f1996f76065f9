use Rattle.std.proofs.Common.{◌≡◌, ℕ, List, Option, Some, sym, subst, ◌∙◌, arith}
use Rattle.awk_ere.specs.Spelled.{Finds}
use Rattle.awk_fields.specs.Fields.{FindsSeparator, separating}
use Rattle.awk_fields.specs.Seeking.{IsAhead}
use Rattle.awk_fields.proofs.Bests.{match_le}
use Rattle.awk_fields.proofs.Seeks.{reaches_on, reaches_none, reaches_end, reaches_one}
use Rattle.awk_fields.proofs.spans.next_separator.Goals as goal

-- the searches are still those of the text
ahead_in : (x y : List ℕ × List ℕ) (text : List ℕ) (at : ℕ) (found : Option (ℕ × ℕ)) → x ≡ y → y.1 ≡ text
    → IsAhead y.0 text at found → IsAhead x.0 x.1 at found
ahead_in x y text at found same is h = subst (λ z. IsAhead z.0 z.1 at found) (sym same)
    (subst (λ t. IsAhead y.0 t at found) (sym is) h)

found_in : (x y : List ℕ × List ℕ) (text : List ℕ) (at : ℕ) (found : Option (ℕ × ℕ)) → x ≡ y → y.1 ≡ text
    → Finds x.0 x.1 at found → Finds y.0 text at found
found_in x y text at found same is h = subst (λ t. Finds y.0 t at found) is (subst (λ z. Finds z.0 z.1 at found) same h)

pub find_ahead-requires-clause-inside : goal.find_ahead-requires-clause-inside
find_ahead-requires-clause-inside c = rw (c.loop-at.invariant.same, c.requires.text) (omega arith)

pub find_ahead-requires-clause-ahead : goal.find_ahead-requires-clause-ahead
find_ahead-requires-clause-ahead c = ahead_in _ _ _ _ _ c.loop-at.invariant.same c.requires.text
    c.loop-at.invariant.ahead

pub loop-at-preserved : goal.loop-at-preserved
loop-at-preserved c =
    let source = c.args.searches.now.0 in
    let s = c.args.text.now in
    let h : Finds source s c.loop-at.at c.in_ok-ahead.ahead =
    found_in _ _ _ _ _ c.loop-at.invariant.same c.requires.text c.in_ok-ahead.ensures.found in
    let found : FindsSeparator source c.args.newline s c.loop-at.at (Some (c.in-Some.start, c.in-Some.end)) =
    (h.0, h.1, c.in-Some.ensures h.0 h.2) in
    let le = match_le s (separating c.args.newline h.0) c.in-Some.start c.in-Some.end found.2.matches in
    record {
      ahead = (c.loop-at.at, omega (arith, found.2.after), h);
      reaches = reaches_on source c.args.newline s c.args.from c.loop-at.at c.in-Some.start c.in-Some.end
          c.loop-at.invariant.reaches found (omega (arith, le));
      same = c.in_ok-ahead.ensures.same ∙ c.loop-at.invariant.same;
    }

pub loop-at-smaller : goal.loop-at-smaller
loop-at-smaller c =
    let source = c.args.searches.now.0 in
    let s = c.args.text.now in
    let h : Finds source s c.loop-at.at c.in_ok-ahead.ahead =
    found_in _ _ _ _ _ c.loop-at.invariant.same c.requires.text c.in_ok-ahead.ensures.found in
    let found : FindsSeparator source c.args.newline s c.loop-at.at (Some (c.in-Some.start, c.in-Some.end)) =
    (h.0, h.1, c.in-Some.ensures h.0 h.2) in
    let le = match_le s (separating c.args.newline h.0) c.in-Some.start c.in-Some.end found.2.matches in
    omega (arith, le, found.2.after, found.2.within)

pub overflow_add-at : goal.overflow_add-at
overflow_add-at c =
    let source = c.args.searches.now.0 in
    let s = c.args.text.now in
    let h : Finds source s c.loop-at.at c.in_ok-ahead.ahead =
    found_in _ _ _ _ _ c.loop-at.invariant.same c.requires.text c.in_ok-ahead.ensures.found in
    let found : FindsSeparator source c.args.newline s c.loop-at.at (Some (c.in-Some.start, c.in-Some.end)) =
    (h.0, h.1, c.in-Some.ensures h.0 h.2) in
    let le = match_le s (separating c.args.newline h.0) c.in-Some.start c.in-Some.end found.2.matches in
    omega (arith, le, found.2.within)

pub returns-in_err-ahead-clause-same : goal.returns-in_err-ahead-clause-same
returns-in_err-ahead-clause-same c = c.in_err-ahead.ensures.same ∙ c.loop-at.invariant.same

pub returns-in_default-clause-next : goal.returns-in_default-clause-next
returns-in_default-clause-next c =
    let source = c.args.searches.now.0 in
    let s = c.args.text.now in
    let h : Finds source s c.loop-at.at c.in_ok-ahead.ahead =
    found_in _ _ _ _ _ c.loop-at.invariant.same c.requires.text c.in_ok-ahead.ensures.found in
    reaches_none source c.args.newline s c.args.from c.loop-at.at c.loop-at.invariant.reaches (
      h.0,
      h.1,
      c.in_default.ensures h.0 h.2,
    )

pub returns-in_default-clause-same : goal.returns-in_default-clause-same
returns-in_default-clause-same c = c.in_ok-ahead.ensures.same ∙ c.loop-at.invariant.same

pub returns-then-start-end-clause-next : goal.returns-then-start-end-clause-next
returns-then-start-end-clause-next c =
    let source = c.args.searches.now.0 in
    let s = c.args.text.now in
    let h : Finds source s c.loop-at.at c.in_ok-ahead.ahead =
    found_in _ _ _ _ _ c.loop-at.invariant.same c.requires.text c.in_ok-ahead.ensures.found in
    reaches_one source c.args.newline s c.args.from c.loop-at.at c.in-Some.start c.in-Some.end
    c.loop-at.invariant.reaches (h.0, h.1, c.in-Some.ensures h.0 h.2) c.if-start-end.true

pub returns-then-start-end-clause-ahead : goal.returns-then-start-end-clause-ahead
returns-then-start-end-clause-ahead c =
    let source = c.args.searches.now.0 in
    let s = c.args.text.now in
    let h : Finds source s c.loop-at.at c.in_ok-ahead.ahead =
    found_in _ _ _ _ _ c.loop-at.invariant.same c.requires.text c.in_ok-ahead.ensures.found in
    let found : FindsSeparator source c.args.newline s c.loop-at.at (Some (c.in-Some.start, c.in-Some.end)) =
    (h.0, h.1, c.in-Some.ensures h.0 h.2) in
    (c.loop-at.at, omega (arith, found.2.after, c.if-start-end.true), h)

pub returns-then-start-end-clause-same : goal.returns-then-start-end-clause-same
returns-then-start-end-clause-same c = c.in_ok-ahead.ensures.same ∙ c.loop-at.invariant.same

pub returns-clause-next : goal.returns-clause-next
returns-clause-next c =
    reaches_end c.args.searches.now.0 c.args.newline c.args.text.now c.args.from c.loop-at.at
    c.loop-at.invariant.reaches (omega arith)

pub returns-clause-same : goal.returns-clause-same
returns-clause-same c = c.loop-at.invariant.same
