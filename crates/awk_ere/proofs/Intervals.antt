-- Numbers and bounds of intervals that are kept as at most 256.
use Rattle.std.proofs.Common.{◌≡◌, ℕ, zero, suc, ◌+◌, ◌-◌, ◌*◌, ◌<◌, ◌≤◌, min, false, List, [], take, drop, fold}
use Rattle.std.proofs.Common.{length, get_or, drop-cons, add-one, ◌∷◌, ◌==◌, Some, None, sym, ◌∙◌, ap, arith}
use Rattle.std.proofs.Common.{if◌then◌else◌}
use Rattle.awk_ere.specs.Interval.{Times, digits_len, decimal, front_number, after_number, closed, upper, bounds}
use Rattle.awk_ere.specs.Interval.{interval}
use Rattle.std.proofs.lemmas.Bool.Decides.{nat_tests}
use Rattle.awk_ere.proofs.Fronts.{behind, first_behind}

abbrev pub more : ℕ → ℕ → ℕ
more n d = 10 * n + (d - 48)

-- what is over 256 stays so
pub capped : (xs : List ℕ) (v : ℕ) → min 256 (fold more (min 256 v) xs) ≡ min 256 (fold more v xs)
capped [] v = omega arith
capped (x ∷ xs) v =
    let same : min 256 (more (min 256 v) x) ≡ min 256 (more v x) = omega arith in
    sym (capped xs (more (min 256 v) x)) ∙ ap (λ n. min 256 (fold more n xs)) same ∙ capped xs (more v x)

pub decimal_step : (xs : List ℕ) (i v w r : ℕ) → i < length xs → w ≡ min (10 * v + (get_or xs i 0 - 48)) 256
    → min 256 (fold more v (drop i xs)) ≡ r → min 256 (fold more w (drop (i + 1) xs)) ≡ r
decimal_step xs i v w r inside is h =
    let x : ℕ = get_or xs i 0 in
    let small : w ≡ min 256 (more v x) = omega arith in
    let e : drop i xs ≡ x ∷ drop (i + 1) xs = rw add-one (drop-cons xs i 0 inside) in
    ap (λ n. min 256 (fold more n (drop (i + 1) xs))) small ∙ capped (drop (i + 1) xs) (more v x)
    ∙ sym (ap (λ ys. min 256 (fold more v ys)) e) ∙ h

closed_front : (t : Times) (s : List ℕ) → 1 ≤ length s → get_or s 0 0 ≡ 125 → closed t s ≡ Some (t, behind s)
closed_front t s le is =
    let rest : List ℕ = behind s in
    ap (λ xs. closed t xs) (first_behind s le) ∙ ap (λ b. if b == 125 then Some (t, rest) else None) is

pub upper_open : (m : ℕ) (s : List ℕ) → digits_len s ≡ 0 → 1 ≤ length s → get_or s 0 0 ≡ 125
    → upper m s ≡ Some ((m, None), behind s)
upper_open m s none le is =
    ap (λ k. closed (m, if k == 0 then None else Some (decimal (take k s))) (drop k s)) none ∙ closed_front
    (m, None) s le is

not_none : (n : ℕ) → 0 < n → (n == 0) ≡ false
not_none zero lt = absurd (omega arith)
not_none (suc n) lt = grind (arith, nat_tests)

pub upper_closed : (m : ℕ) (s after : List ℕ) → 0 < digits_len s → after ≡ after_number s → 1 ≤ length after
    → get_or after 0 0 ≡ 125 → upper m s ≡ Some ((m, Some (front_number s)), behind after)
upper_closed m s after some same le is =
    ap (λ b. closed (m, if b then None else Some (front_number s)) (after_number s)) (not_none (digits_len s) some)
    ∙ ap (λ xs. closed (m, Some (front_number s)) xs) (sym same) ∙ closed_front (m, Some (front_number s)) after le is

bounds_closed : (m : ℕ) (s : List ℕ) → 1 ≤ length s → get_or s 0 0 ≡ 125 → bounds m s ≡ Some ((m, Some m), behind s)
bounds_closed m s le is =
    let rest : List ℕ = behind s in
    ap (λ xs. bounds m xs) (first_behind s le) ∙ ap (λ b. bounds m (b ∷ rest)) is

pub interval_closed : (s after : List ℕ) → 0 < digits_len s → after ≡ after_number s → 1 ≤ length after
    → get_or after 0 0 ≡ 125 → interval s ≡ Some ((front_number s, Some (front_number s)), behind after)
interval_closed s after some same le is =
    ap (λ b. if b then None else bounds (front_number s) (after_number s)) (not_none (digits_len s) some)
    ∙ ap (λ xs. bounds (front_number s) xs) (sym same) ∙ bounds_closed (front_number s) after le is
