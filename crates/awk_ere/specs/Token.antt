-- The token at the front of a pattern's text (POSIX.1-2017 XBD 9.4.1 to 9.4.9).
use Rattle.std.specs.Prelude.{ℕ, ◌==◌, Bool, true, ◌&&◌, if◌then◌else◌, List, [], ◌∷◌, Option, Some, None}
use Rattle.awk_ere.specs.Pattern.{Pattern, bytes, start, finish}
use Rattle.awk_ere.specs.Escape.{escape}
use Rattle.awk_ere.specs.Interval.{Times, interval, is_allowed, factor}
use Rattle.awk_ere.specs.Bracket.{Found, bracket, in_set}
use Rattle.awk_ere.specs.declared.error.EreFault.{EreFault}
use Rattle.awk_ere.specs.declared.front.Lead.{Lead}
use Rattle.awk_ere.specs.declared.front.Lead.TheVariants.{Bracket, Escape, Brace, Sign}
use Rattle.awk_ere.specs.declared.error.EreFault.TheVariants.{Syntax, Interval}

pub data Token : Type 0 where
  -- a byte, `.`, a bracket expression or an escape
  atom : Pattern → Token
  -- `^` or `$`
  anchor : Pattern → Token
  -- `*`, `+`, `?` or an interval, and what it multiplies the size by
  times : ℕ → Option ℕ → ℕ → Token
  opening : Token
  closing : Token
  bar : Token

-- what stands at the front of a text
pub data Front : Type 0 where
  -- nothing
  finished : Front
  -- a token, and the text after it
  token : Token → List ℕ → Front
  wrong : EreFault → Front

abbrev pub byte : ℕ → Token
byte c = atom (bytes (λ b. b == c))

abbrev pub escaped : Option (ℕ × List ℕ) → Front
escaped None = wrong Syntax
escaped (Some (c, s)) = token (byte c) s

abbrev pub bracketed : Found → Front
bracketed None = wrong Syntax
bracketed (Some (negated, ranges, s)) = token (atom (bytes (in_set negated ranges))) s

-- an interval, or a `{` that is itself with what follows it
abbrev pub repeated : List ℕ → Option (Times × List ℕ) → Front
repeated after None = token (byte 123) after
repeated after (Some (t, s)) = if is_allowed t then token (times t.0 t.1 (factor t)) s else wrong Interval

-- a byte that is a token by itself: `)` closes only where a group is open, and `*`, `+` and `?`
-- repeat only what stands directly before them
unfoldable pub sign : Bool → Bool → ℕ → Token
sign is_open may_repeat c =
    if c == 46 then atom (bytes (λ b. true)) else (if c == 40 then opening else
    (if c == 41 && is_open then closing else (if c == 124 then bar else
    (if c == 94 then anchor start else (if c == 36 then anchor finish else
    (if c == 42 && may_repeat then times 0 None 1 else (if c == 43 && may_repeat then times 1 None 1 else
    (if c == 63 && may_repeat then times 0 (Some 1) 1 else byte c))))))))

-- what a byte leads
unfoldable pub lead : Bool → ℕ → Lead
lead may_repeat c =
    if c == 91 then Bracket else (if c == 92 then Escape else (if c == 123 && may_repeat then Brace else Sign))

abbrev pub led : Lead → Bool → Bool → ℕ → List ℕ → Front
led Bracket is_open may_repeat c s = bracketed (bracket s)
led Escape is_open may_repeat c s = escaped (escape s)
led Brace is_open may_repeat c s = repeated s (interval s)
led Sign is_open may_repeat c s = token (sign is_open may_repeat c) s

-- the front of a text, where a group may be open and a repetition may have something to repeat
abbrev pub front : Bool → Bool → List ℕ → Front
front is_open may_repeat [] = if is_open then wrong Syntax else finished
front is_open may_repeat (c ∷ s) = led (lead may_repeat c) is_open may_repeat c s
