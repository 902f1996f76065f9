-- Texts, and the classes of bytes that tokens are made of
-- (POSIX.1-2017 XCU awk, "Lexical Conventions"; bytes are characters in this profile).
use Rattle.std.specs.Prelude.{ℕ, Bool, ◌||◌, ◌==◌, List}
use Rattle.std.specs.Char.{is_ascii_alphabetic, is_ascii_alphanumeric}

abbrev pub Text : Type 0
Text = List ℕ

-- space, tab or carriage return
abbrev pub is_blank : ℕ → Bool
is_blank b = b == 32 || b == 9 || b == 13

-- a letter or `_`
abbrev pub begins_name : ℕ → Bool
begins_name b = is_ascii_alphabetic b || b == 95

-- a letter, a digit or `_`
abbrev pub continues_name : ℕ → Bool
continues_name b = is_ascii_alphanumeric b || b == 95
