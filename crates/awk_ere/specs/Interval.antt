-- Interval expressions `{m}`, `{m,}` and `{m,n}` (POSIX.1-2017 XBD 9.4.6).
use Rattle.std.specs.Prelude.{ℕ, ◌+◌, ◌-◌, ◌*◌, max, Bool, ◌&&◌, ◌==◌, nat_le, if◌then◌else◌, List, [], ◌∷◌, take, drop}
use Rattle.std.specs.Prelude.{fold, Option, Some, None}
use Rattle.std.specs.List.{prefix_len}
use Rattle.std.specs.Char.{is_ascii_digit}

-- how often: at least, and at most where there is a bound
abbrev pub Times : Type 0
Times = ℕ × Option ℕ

-- how many digits stand at the front
abbrev pub digits_len : List ℕ → ℕ
digits_len s = prefix_len is_ascii_digit s

-- the number that decimal digits spell
abbrev pub decimal : List ℕ → ℕ
decimal digits = fold (λ n d. 10 * n + (d - 48)) 0 digits

abbrev pub front_number : List ℕ → ℕ
front_number s = decimal (take (digits_len s) s)

abbrev pub after_number : List ℕ → List ℕ
after_number s = drop (digits_len s) s

abbrev pub closed : Times → List ℕ → Option (Times × List ℕ)
closed times [] = None
closed times (c ∷ s) = if c == 125 then Some (times, s) else None

-- after `{m,`
abbrev pub upper : ℕ → List ℕ → Option (Times × List ℕ)
upper m s = closed (m, if digits_len s == 0 then None else Some (front_number s)) (after_number s)

-- after `{m`
abbrev pub bounds : ℕ → List ℕ → Option (Times × List ℕ)
bounds m [] = None
bounds m (c ∷ s) = if c == 44 then upper m s else closed (m, Some m) (c ∷ s)

-- the interval that the text after a `{` spells, and what follows it; none where the `{` is itself
abbrev pub interval : List ℕ → Option (Times × List ℕ)
interval s = if digits_len s == 0 then None else bounds (front_number s) (after_number s)

-- bounds are at most 255 and in order
abbrev pub is_allowed : Times → Bool
is_allowed (m, None) = nat_le m 255
is_allowed (m, Some n) = nat_le m n && nat_le n 255

-- what a repetition multiplies the size by
abbrev pub factor : Times → ℕ
factor (m, None) = m + 1
factor (m, Some n) = max 1 n
