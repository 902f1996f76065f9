-- What the tokens of a pattern spell (the grammar of POSIX.1-2017 XBD 9.5.3), with its size.
use Rattle.std.specs.Prelude.{ℕ, ◌+◌, ◌*◌, List, [], ◌∷◌, ◌++◌, Option}
use Rattle.awk_ere.specs.Pattern.{Pattern, empty, cat, alt, repeat}
use Rattle.awk_ere.specs.Token.{Token, atom, anchor, times, opening, closing, bar}

pub data Kind : Type 0 where
  -- branches with bars between
  ere : Kind
  -- pieces in a row
  branch : Kind
  -- an atom with its repetitions
  item : Kind

-- The tokens spell the pattern, as an ere, a branch or an item. The number is the pattern's size: an atom
-- or an anchor is 1, pieces and branches add up, and a repetition multiplies by its factor.
pub data Spells : Kind → List Token → Pattern → ℕ → Type 0 where
  one_branch : (ts : List Token) (p : Pattern) (n : ℕ) → Spells branch ts p n → Spells ere ts p n
  another : (ts us : List Token) (p q : Pattern) (n m : ℕ) → Spells ere ts p n → Spells branch us q m →
      Spells ere (ts ++ bar ∷ us) (alt p q) (n + m)
  no_piece : Spells branch [] empty 0
  then_anchor : (ts : List Token) (p q : Pattern) (n : ℕ) → Spells branch ts p n →
      Spells branch (ts ++ anchor q ∷ []) (cat p q) (n + 1)
  then_item : (ts us : List Token) (p q : Pattern) (n m : ℕ) → Spells branch ts p n → Spells item us q m →
      Spells branch (ts ++ us) (cat p q) (n + m)
  single : (p : Pattern) → Spells item (atom p ∷ []) p 1
  group : (ts : List Token) (p : Pattern) (n : ℕ) → Spells ere ts p n → Spells item (opening ∷ (ts ++ closing ∷ [])) p n
  repeated : (ts : List Token) (p : Pattern) (n least : ℕ) (most : Option ℕ) (factor : ℕ) → Spells item ts p n →
      Spells item (ts ++ times least most factor ∷ []) (repeat p least most) (n * factor)
