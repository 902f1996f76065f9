use Rattle.std.proofs.Common.{◌≡◌, ℕ, ◌<◌, ◌≤◌, ◌+◌, ◌-◌, length, take, ap, sym, arith, ◌∙◌}
use borrow.Author.Tests.{eqb-true, eqb-false}
use Rattle.awk_numbers.specs.Exponents.{rounded_figures}
use Rattle.awk_numbers.proofs.Sizes.{text}
use Rattle.awk_numbers.proofs.Significant.{zero_digits, zero_place, no_units, no_figures, some_figures, rounded_at}
use Rattle.awk_numbers.proofs.Significant.{raised_all, kept_all}
use Rattle.awk_numbers.proofs.exponents.scientific.Goals as goal

pub returns-then-is_empty-clause-digits : goal.returns-then-is_empty-clause-digits
returns-then-is_empty-clause-digits c =
    let size = c.exact-digits.ensures.value in
    let ds = c.exact-digits.result.0.items in
    let none : size.0 ≡ 0 = no_figures ds size.0 size.1 (eqb-true _ _ (sym c.is_empty.ensures
    ∙ c.if-is_empty.true)) in
    c.new.ensures.items ∙ ap text (zero_digits c.args.x c.args.count (no_units c.args.x ds size.0
    c.exact-digits.result.1 size.1 size.2 c.exact-digits.ensures.few none))

pub returns-then-is_empty-clause-place : goal.returns-then-is_empty-clause-place
returns-then-is_empty-clause-place c =
    let size = c.exact-digits.ensures.value in
    let ds = c.exact-digits.result.0.items in
    let none : size.0 ≡ 0 = no_figures ds size.0 size.1 (eqb-true _ _ (sym c.is_empty.ensures
    ∙ c.if-is_empty.true)) in
    zero_place c.args.x c.args.count (no_units c.args.x ds size.0 c.exact-digits.result.1 size.1 size.2
    c.exact-digits.ensures.few none)

pub returns-then-count-length-clause-digits : goal.returns-then-count-length-clause-digits
returns-then-count-length-clause-digits c =
    let size = c.exact-digits.ensures.value in
    let n = size.0 in
    let ds = c.exact-digits.result.0.items in
    let k = c.args.count in
    let some : 0 < n = some_figures ds n size.1 (λ h. eqb-false _ _ (sym c.is_empty.ensures ∙ c.if-is_empty.false)
    h) in
    let items : c.in_ok-text.text.items ≡ text (rounded_figures c.args.x k) =
    c.in_ok-text.ensures n size.1 ∙ ap text (rounded_at c.args.x ds n c.exact-digits.result.1 size.1 size.2
    c.exact-digits.ensures.few k some) in
    let long : k < length (text (rounded_figures c.args.x k)) =
    omega (arith, c.if-count-length.true, c.len-length.ensures, c.in_ok-text.text.ok.0, ap length items) in
    c.truncate.ensures.items ∙ ap (take k) items ∙ (raised_all c.args.x ds n c.exact-digits.result.1 size.1 size.2
    c.exact-digits.ensures.few k some c.requires.some long).0

pub returns-then-count-length-clause-place : goal.returns-then-count-length-clause-place
returns-then-count-length-clause-place c =
    let size = c.exact-digits.ensures.value in
    let n = size.0 in
    let ds = c.exact-digits.result.0.items in
    let k = c.args.count in
    let some : 0 < n = some_figures ds n size.1 (λ h. eqb-false _ _ (sym c.is_empty.ensures ∙ c.if-is_empty.false)
    h) in
    let items : c.in_ok-text.text.items ≡ text (rounded_figures c.args.x k) =
    c.in_ok-text.ensures n size.1 ∙ ap text (rounded_at c.args.x ds n c.exact-digits.result.1 size.1 size.2
    c.exact-digits.ensures.few k some) in
    let long : k < length (text (rounded_figures c.args.x k)) =
    omega (arith, c.if-count-length.true, c.len-length.ensures, c.in_ok-text.text.ok.0, ap length items) in
    ap (λ (l : ℕ). l + (1074 - c.exact-digits.result.1)) c.len.ensures.value
    ∙ (raised_all c.args.x ds n c.exact-digits.result.1 size.1 size.2 c.exact-digits.ensures.few k some
    c.requires.some long).1

pub returns-clause-digits : goal.returns-clause-digits
returns-clause-digits c =
    let size = c.exact-digits.ensures.value in
    let n = size.0 in
    let ds = c.exact-digits.result.0.items in
    let k = c.args.count in
    let some : 0 < n = some_figures ds n size.1 (λ h. eqb-false _ _ (sym c.is_empty.ensures ∙ c.if-is_empty.false)
    h) in
    let items : c.in_ok-text.text.items ≡ text (rounded_figures c.args.x k) =
    c.in_ok-text.ensures n size.1 ∙ ap text (rounded_at c.args.x ds n c.exact-digits.result.1 size.1 size.2
    c.exact-digits.ensures.few k some) in
    let short : length (text (rounded_figures c.args.x k)) ≤ k =
    omega (arith, c.if-count-length.false, c.len-length.ensures, c.in_ok-text.text.ok.0, ap length items) in
    items ∙ (kept_all c.args.x ds n c.exact-digits.result.1 size.1 size.2 c.exact-digits.ensures.few k some short).0

pub returns-clause-place : goal.returns-clause-place
returns-clause-place c =
    let size = c.exact-digits.ensures.value in
    let n = size.0 in
    let ds = c.exact-digits.result.0.items in
    let k = c.args.count in
    let some : 0 < n = some_figures ds n size.1 (λ h. eqb-false _ _ (sym c.is_empty.ensures ∙ c.if-is_empty.false)
    h) in
    let items : c.in_ok-text.text.items ≡ text (rounded_figures c.args.x k) =
    c.in_ok-text.ensures n size.1 ∙ ap text (rounded_at c.args.x ds n c.exact-digits.result.1 size.1 size.2
    c.exact-digits.ensures.few k some) in
    let short : length (text (rounded_figures c.args.x k)) ≤ k =
    omega (arith, c.if-count-length.false, c.len-length.ensures, c.in_ok-text.text.ok.0, ap length items) in
    c.saturating_sub.ensures ∙ ap (λ (l : ℕ). l + (1074 - c.exact-digits.result.1) - 1)
    c.len.ensures.value
    ∙ (kept_all c.args.x ds n c.exact-digits.result.1 size.1 size.2 c.exact-digits.ensures.few k some short).1
