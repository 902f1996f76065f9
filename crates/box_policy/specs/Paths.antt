-- Path names and their normal form: POSIX.1-2017, XBD 3.271 (Pathname) and 4.13 (Pathname Resolution).
use Rattle.std.specs.Prelude.{ℕ, Bool, true, false, not, ◌&&◌, ◌||◌, ◌==◌, if◌then◌else◌, List, [], ◌∷◌, ◌++◌, Option}
use Rattle.std.specs.Prelude.{Some, None, codes, filter}
use Rattle.std.specs.List.{slice_split, list_any}
use Rattle.std.specs.Str.{is_utf8, bytes_eq}

-- the bytes are UTF-8 and have no NUL
abbrev pub is_text : List ℕ → Bool
is_text bytes = is_utf8 bytes && not (list_any (λ b. b == 0) bytes)

-- what stands between two slashes leads on: it is not empty and is not `.`
abbrev pub is_name : List ℕ → Bool
is_name piece = not (bytes_eq piece [] || bytes_eq piece (codes "."))

-- the components of a text: it is cut at each slash, and what does not lead on goes
abbrev pub names : List ℕ → List (List ℕ)
names text = filter is_name (slice_split (λ b. b == 47) text)

-- a text none of whose components is `..`
abbrev pub is_plain : List ℕ → Bool
is_plain text = is_text text && not (list_any (λ name. bytes_eq name (codes "..")) (names text))

-- the text begins with a slash
abbrev pub is_absolute : List ℕ → Bool
is_absolute [] = false
is_absolute (b ∷ bs) = b == 47

-- the components of a text that stands under a base: those of the base come first, where the text is not absolute
abbrev pub names_under : List ℕ → List ℕ → List (List ℕ)
names_under base text = if is_absolute text then names text else names base ++ names text

-- both are plain texts, and the text is not empty; of an absolute text the base does not count
abbrev pub can_resolve : List ℕ → List ℕ → Bool
can_resolve base [] = false
can_resolve base (b ∷ bs) = is_plain (b ∷ bs) && (is_absolute (b ∷ bs) || is_plain base)

-- the normal form of a text under a base, or none
abbrev pub normal : List ℕ → List ℕ → Option (List (List ℕ))
normal base text = if can_resolve base text then Some (names_under base text) else None
