use Rattle.std.proofs.Common.{◌≡◌, ◌+◌, List, ℕ, IfOk, drop, map, reverse, subst, sym, ap, ◌∙◌}
use Rattle.std.specs.Int.Digits.{digits_of}
use Rattle.awk_numbers.proofs.Integral.{no_integral, whole_digits}
use Rattle.awk_numbers.proofs.shown.size_digits.Goals as goal

pub returns-then-not-is_finite : goal.returns-then-not-is_finite
returns-then-not-is_finite c =
    c.new.ensures.items ∙ ap (λ (n : ℕ). map (λ d. 48 + d) (digits_of 10 n))
    (no_integral c.args.x (sym c.is_finite.ensures.value ∙ c.if-not-is_finite.true))

pub returns : goal.returns
returns c =
    let (n, are, size) = c.exact-digits.ensures.value in
    let kept = c.before_last.ensures ∙ ap (λ (t : List ℕ). drop c.exact-digits.result.1 t) c.as_slice.ensures.value in
    subst (λ (t : List ℕ). IfOk c.text_of.result (λ made. made.items ≡ map (λ d. 48 + d) t))
    (ap reverse kept ∙ whole_digits c.args.x c.exact-digits.result.0.items n c.exact-digits.result.1 are size)
    c.text_of.ensures
