use Rattle.std.proofs.Common.{◌≡◌, add-one, Some, None, Result, Ok, Err, refl, sym, ◌∙◌}
use Rattle.std.specs.Cmp.{booleans_Decides}
use Rattle.std.specs.Result.{IfOk}
use Rattle.std.proofs.lemmas.Bool.{true≢false}
use Rattle.std.proofs.lemmas.Slice.Eq.{slice_eq-Decides}
use Rattle.awk_ere.specs.Pattern.{Matches}
use Rattle.awk_ere.specs.View.{pattern}
use Rattle.awk_ere.proofs.Images.{image_start, image_finish, image_cat, image_alt, image_repeat, copies_begin}
use Rattle.awk_ere.proofs.Images.{copies_add, options_begin, options_add, grown_is, closing_begins, closing_more}
use Rattle.awk_ere.proofs.Images.{closing_ends, closing_smaller}
use Rattle.awk_ere.proofs.plain.+image.Goals as goal

if_ok : {T E : Type 0} (r : Result T E) (P Q : T → Type 0) → ((x : T) → P x → Q x) → IfOk r P → IfOk r Q
if_ok (Err e) P Q f h = tt
if_ok (Ok x) P Q f h = f x h

pub copies-loop-i-init : goal.copies-loop-i-init
copies-loop-i-init t c =
    rw c.in_ok-to.ensures.items (copies_begin (Matches c.args.text.now (pattern c.args.sets.now c.args.node.now))
    c.args.from.now)

pub copies-loop-i-preserved : goal.copies-loop-i-preserved
copies-loop-i-preserved t c =
    let one = rw c.deref.ensures.value at c.in_ok-to-2.ensures in
    copies_add (Matches c.args.text.now (pattern c.args.sets.now c.args.node.now)) _ _ _ _ _
    (add-one _) c.loop-i.invariant one

pub options-loop-i-init : goal.options-loop-i-init
options-loop-i-init t c =
    rw c.in_ok-to.ensures.items (options_begin (Matches c.args.text.now (pattern c.args.sets.now c.args.node.now))
    c.args.from.now)

pub options-loop-i-preserved : goal.options-loop-i-preserved
options-loop-i-preserved t c =
    let one = rw c.deref.ensures.value at c.in_ok-to-2.ensures in
    options_add (Matches c.args.text.now (pattern c.args.sets.now c.args.node.now)) _ _ _ _ _
    (add-one _) c.loop-i.invariant one

pub closure-turns-init : goal.closure-turns-init
closure-turns-init t c =
    rw c.in_ok-to.ensures.items (closing_begins (Matches c.args.text.now (pattern c.args.sets.now c.args.node.now))
    c.args.from.now)

pub closure-turns-preserved : goal.closure-turns-preserved
closure-turns-preserved t c =
    let one = rw c.deref.ensures.value at c.in_ok-next.ensures in
    closing_more (Matches c.args.text.now (pattern c.args.sets.now c.args.node.now)) _ _ _ one c.turns.invariant

pub closure-turns-smaller : goal.closure-turns-smaller
closure-turns-smaller t c =
    let one = rw c.deref.ensures.value at c.in_ok-next.ensures in
    let d = slice_eq-Decides booleans_Decides _ _ _ c.if-eq.ensures in
    closing_smaller (Matches c.args.text.now (pattern c.args.sets.now c.args.node.now)) _ _ one
    (λ e. absurd (true≢false (sym (d.1 (c.as_slice.ensures.value ∙ e ∙ sym c.as_slice-in-turns.ensures.value)))))

pub closure-returns-then-eq : goal.closure-returns-then-eq
closure-returns-then-eq t c =
    let one = rw c.deref.ensures.value at c.in_ok-next.ensures in
    let d = slice_eq-Decides booleans_Decides _ _ _ c.if-eq.ensures in
    closing_ends (Matches c.args.text.now (pattern c.args.sets.now c.args.node.now)) _ _ _ one
    (sym c.as_slice.ensures.value ∙ d.0 refl ∙ c.as_slice-in-turns.ensures.value) c.turns.invariant

pub grown-returns : goal.grown-returns
grown-returns t c =
    let both = rw c.deref.ensures.value at c.union.ensures in
    if_ok c.union.result _ _ (λ all h. grown_is (Matches c.args.text.now (pattern c.args.sets.now c.args.node.now)) _ _
    _ c.in_ok-more.ensures h) both

pub image-returns-in-Start : goal.image-returns-in-Start
image-returns-in-Start t c = rw c.in-Start.is (if_ok c.only.result _ _ (λ to h. image_start c.args.text.now _ _ h)
    c.only.ensures)

pub image-returns-in-End : goal.image-returns-in-End
image-returns-in-End t c = rw c.in-End.is (if_ok c.only-in-End.result _ _ (λ to h. image_finish c.args.text.now _ _ h)
    c.only-in-End.ensures)

pub image-returns-in-Cat : goal.image-returns-in-Cat
image-returns-in-Cat t c =
    let one = c.in_ok-middle-in-Cat.ensures in
    let two = rw c.deref-in-Cat-2.ensures.value at c.image-in-Cat.ensures in
    rw (c.in-Cat.is, ← c.deref.ensures, ← c.deref-in-Cat.ensures)
    (if_ok c.image-in-Cat.result _ _ (λ to h. image_cat c.args.text.now (pattern c.args.sets.now c.deref.result.now)
    (pattern c.args.sets.now c.deref-in-Cat.result.now) _ _ _ one h) two)

pub image-returns-in-Alt : goal.image-returns-in-Alt
image-returns-in-Alt t c =
    let both = rw (c.deref-in-Alt-3.ensures.value, c.deref-in-Alt-4.ensures.value) at c.union.ensures in
    rw (c.in-Alt.is, ← c.deref-in-Alt.ensures, ← c.deref-in-Alt-2.ensures)
    (if_ok c.union.result _ _ (λ to h. image_alt c.args.text.now (pattern c.args.sets.now c.deref-in-Alt.result.now)
    (pattern c.args.sets.now c.deref-in-Alt-2.result.now) _ _ _ _ c.in_ok-some-in-Alt.ensures
    c.in_ok-others-in-Alt.ensures h) both)

pub image-returns-in-Some : goal.image-returns-in-Some
image-returns-in-Some t c =
    let same : c.deref-in-Some.result.now ≡ c.deref-in-Repeat.result.now = c.deref-in-Some.ensures
    ∙ sym c.deref-in-Repeat.ensures in
    let rest = rw (same, c.deref-in-Some-2.ensures.value) at c.options.ensures in
    rw (c.in-Repeat.is, ← c.deref-in-Repeat.ensures, c.in-Some.is)
    (if_ok c.options.result _ _ (λ to h. image_repeat c.args.text.now
    (pattern c.args.sets.now c.deref-in-Repeat.result.now) c.in-Repeat.least (Some c.in-Some.more) _ _ _
    c.in_ok-first-in-Repeat.ensures h) rest)

pub image-returns : goal.image-returns
image-returns t c =
    let same : c.deref-in-None.result.now ≡ c.deref-in-Repeat.result.now = c.deref-in-None.ensures
    ∙ sym c.deref-in-Repeat.ensures in
    let rest = rw (same, c.deref-in-None-2.ensures.value) at c.closure.ensures in
    rw (c.in-Repeat.is, ← c.deref-in-Repeat.ensures, c.in-None.is)
    (if_ok c.closure.result _ _ (λ to h. image_repeat c.args.text.now
    (pattern c.args.sets.now c.deref-in-Repeat.result.now) c.in-Repeat.least None _ _ _
    c.in_ok-first-in-Repeat.ensures h) rest)
