-- The patterns of a policy, as lists of symbols.
use Rattle.std.specs.Prelude.{ℕ, Bool, true, false, ◌&&◌, ◌||◌, ◌==◌, if◌then◌else◌, List, [], ◌∷◌, ◌++◌, map, codes}
use Rattle.std.specs.Char.{is_ascii_alphanumeric}
use Rattle.std.specs.List.{list_any}
use Rattle.std.specs.Str.{bytes_eq}
use Rattle.box_policy.specs.declared.tokens.Sort.{Sort}
use Rattle.box_policy.specs.declared.tokens.Sort.TheVariants.{Component, Command, Name}
use Rattle.box_policy.specs.Division.{Symbol, fits}
use Rattle.box_policy.specs.Paths.{is_absolute, names}

-- a byte of a name: an ASCII letter, a digit or `_`
abbrev pub is_name_byte : ℕ → Bool
is_name_byte b = is_ascii_alphanumeric b || b == 95

-- a byte of a word of a command: an ASCII letter, a digit or one of `_-./:,=+@%`
abbrev pub is_word_byte : ℕ → Bool
is_word_byte b = is_ascii_alphanumeric b || list_any (λ c. c == b) (codes "_-./:,=+@%")

-- one element, or a run of elements
abbrev pub one : {A : Type 0} → (A → Bool) → Symbol A
one test = record { is_run = false; test = test }

abbrev pub run : {A : Type 0} → (A → Bool) → Symbol A
run test = record { is_run = true; test = test }

-- inside a component `*` is any run of bytes, `?` any one byte, and any other byte is itself
abbrev pub component_byte : ℕ → Symbol ℕ
component_byte b = if b == 42 then run (λ _. true) else if b == 63 then one (λ _. true) else one (λ c. c == b)

-- in a name `*` is any run of a name's bytes
abbrev pub name_byte : ℕ → Symbol ℕ
name_byte b = if b == 42 then run is_name_byte else one (λ c. c == b)

-- in a command `*` is any run of a word's bytes
abbrev pub command_byte : ℕ → Symbol ℕ
command_byte b = if b == 42 then run is_word_byte else one (λ c. c == b)

-- in a command `**`, read from the left, is any run of bytes
abbrev pub command_symbols : List ℕ → List (Symbol ℕ)
command_symbols [] = []
command_symbols (b ∷ []) = command_byte b ∷ []
command_symbols (b ∷ c ∷ bs) =
    if b == 42 && c == 42 then run (λ _. true) ∷ command_symbols bs else command_byte b ∷ command_symbols (c ∷ bs)

-- the symbols of a pattern of this sort
abbrev pub symbols : Sort → List ℕ → List (Symbol ℕ)
symbols Component pattern = map component_byte pattern
symbols Command pattern = command_symbols pattern
symbols Name pattern = map name_byte pattern

-- of a path `**` is any number of components, and any other component stands for one that it fits
abbrev pub component_symbol : List ℕ → Symbol (List ℕ)
component_symbol piece =
    record {
      is_run = bytes_eq piece (codes "**");
      test = λ name. bytes_eq piece (codes "**")
          || fits (symbols Component piece) name;
    }

-- a component of the base stands for itself
abbrev pub base_symbol : List ℕ → Symbol (List ℕ)
base_symbol piece = one (λ name. bytes_eq piece name)

-- the components of a pattern that stands under a base
abbrev pub path_symbols : List ℕ → List ℕ → List (Symbol (List ℕ))
path_symbols base pattern =
    if is_absolute pattern then map component_symbol (names pattern)
    else map base_symbol (names base) ++ map component_symbol (names pattern)
