use Rattle.std.proofs.Common.{◌≡◌, ℕ, List, true, false, Option, Some, refl, sym, subst, ◌∙◌, arith}
use Rattle.awk_ere.specs.Spelled.{Finds}
use Rattle.awk_lib.specs.Replacing.{is_passed}
use Rattle.awk_lib.proofs.Matching.{reaches_begin, reaches_on, reaches_none, reaches_end, reaches_one}
use Rattle.awk_lib.proofs.replacing.next_match.Goals as goal

-- the searches are still those of the text
found_in : (x y : List ℕ × List ℕ) (text : List ℕ) (at : ℕ) (found : Option (ℕ × ℕ)) → x ≡ y → y.1 ≡ text
    → Finds x.0 x.1 at found → Finds y.0 text at found
found_in x y text at found same is h = subst (λ t. Finds y.0 t at found) is (subst (λ z. Finds z.0 z.1 at found) same h)

pub loop-at-init : goal.loop-at-init
loop-at-init c = record {
  reaches = reaches_begin c.args.searches.now.0 c.args.text.now c.args.from c.args.last;
  same =
      refl;
}

pub find-requires : goal.find-requires
find-requires c = rw (c.loop-at.invariant.same, c.requires) (omega arith)

pub loop-at-preserved : goal.loop-at-preserved
loop-at-preserved c =
    let ere = c.args.searches.now.0 in
    let text = c.args.text.now in
    let here = found_in _ _ _ _ _ c.loop-at.invariant.same c.requires c.in_ok-start.ensures.found in
    let found : Finds ere text c.loop-at.at (Some (c.in-Some.start, c.in-Some.end)) =
    subst (Finds ere text c.loop-at.at) c.in-Some.is here in
    let is : is_passed c.args.last (c.in-Some.start, c.in-Some.end) ≡ true = sym c.is_passed.ensures
    ∙ c.if-is_passed.true in
    record {
      reaches = rw c.next_from-at.ensures (reaches_on ere text c.args.from c.args.last c.loop-at.at
          c.loop-at.invariant.reaches c.in-Some.start c.in-Some.end found is);
      same = c.in_ok-start.ensures.same ∙ c.loop-at.invariant.same;
    }

pub returns-in_err-start-clause-same : goal.returns-in_err-start-clause-same
returns-in_err-start-clause-same c = c.in_err-start.ensures.same ∙ c.loop-at.invariant.same

pub returns-in_default-clause-next : goal.returns-in_default-clause-next
returns-in_default-clause-next c =
    let ere = c.args.searches.now.0 in
    let text = c.args.text.now in
    let here = found_in _ _ _ _ _ c.loop-at.invariant.same c.requires c.in_ok-start.ensures.found in
    reaches_none ere text c.args.from c.args.last c.loop-at.at c.loop-at.invariant.reaches
    (subst (Finds ere text c.loop-at.at) c.in_default.is here)

pub returns-in_default-clause-same : goal.returns-in_default-clause-same
returns-in_default-clause-same c = c.in_ok-start.ensures.same ∙ c.loop-at.invariant.same

pub returns-else-is_passed-clause-next : goal.returns-else-is_passed-clause-next
returns-else-is_passed-clause-next c =
    let ere = c.args.searches.now.0 in
    let text = c.args.text.now in
    let here = found_in _ _ _ _ _ c.loop-at.invariant.same c.requires c.in_ok-start.ensures.found in
    let found : Finds ere text c.loop-at.at (Some (c.in-Some.start, c.in-Some.end)) =
    subst (Finds ere text c.loop-at.at) c.in-Some.is here in
    let is : is_passed c.args.last (c.in-Some.start, c.in-Some.end) ≡ false = sym c.is_passed.ensures
    ∙ c.if-is_passed.false in
    reaches_one ere text c.args.from c.args.last c.loop-at.at c.loop-at.invariant.reaches c.in-Some.start c.in-Some.end
    found is

pub returns-else-is_passed-clause-same : goal.returns-else-is_passed-clause-same
returns-else-is_passed-clause-same c = c.in_ok-start.ensures.same ∙ c.loop-at.invariant.same

pub returns-clause-next : goal.returns-clause-next
returns-clause-next c = reaches_end c.args.searches.now.0 c.args.text.now c.args.from c.args.last c.loop-at.at
    c.loop-at.invariant.reaches (omega arith)

pub returns-clause-same : goal.returns-clause-same
returns-clause-same c = c.loop-at.invariant.same
