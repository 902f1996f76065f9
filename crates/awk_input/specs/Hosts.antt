-- What the host of a run gave (POSIX.1-2017 XCU awk, "OPERANDS", "OPTIONS").
use Rattle.std.specs.Prelude.{◌≡◌, ℕ, ◌&&◌, Bool, true, false, if◌then◌else◌, List, [], ◌∷◌, ◌++◌, get_or, Option, Some}
use Rattle.std.specs.Prelude.{None, is_none}
use Rattle.std.specs.List.{list_any}
use Rattle.std.specs.Map.{lookup}
use Rattle.std.specs.Str.{bytes_eq}
use Rattle.awk_numbers.specs.declared.number.Number.{Number}
use Rattle.awk_numbers.specs.declared.number.Numbers.{Numbers}
use Rattle.awk_tokens.specs.Words.{is_name, reserved}
use Rattle.awk_program.specs.Slots.{Text}
use Rattle.awk_machine.specs.State.{Given}
use Rattle.awk_store.specs.Wholes.{names_in}
use Rattle.awk_input.specs.declared.host.HostUse.{HostUse}
use Rattle.awk_input.specs.declared.host.HostUse.TheVariants as what

-- the most steps, which numbers the script has, what `srand ( )` seeds by, the words that the run was started with,
-- each once, and what names are
pub record Hosted : Type 0 where
  pub bound : ℕ
  pub numbers : Numbers
  pub seed : Number
  pub words : List Text
  pub names : List (Text × HostUse)

-- ---- what it answers

-- whether the run was started with this word
abbrev pub is_given : Hosted → Text → Bool
is_given h text = list_any (bytes_eq text) h.words

abbrev pub use_of : Hosted → Text → Option HostUse
use_of h name = lookup (bytes_eq name) h.names

abbrev pub is_free : Option HostUse → Bool
is_free None = true
is_free (Some (what.Variable k)) = true
is_free (Some what.Barred) = false

-- whether it may set a variable of this name
abbrev pub can_set : Hosted → Text → Bool
can_set h name = (is_name name && is_none (reserved name)) && is_free (use_of h name)

abbrev pub slot_in : Option HostUse → Option ℕ
slot_in None = None
slot_in (Some (what.Variable k)) = Some k
slot_in (Some what.Barred) = None

-- the slot of a variable that it may set
abbrev pub slot_of : Hosted → Text → Option ℕ
slot_of h name = slot_in (use_of h name)

-- ---- how it is made

abbrev pub word_added : Text → List Text → List Text
word_added x xs = if list_any (bytes_eq x) xs then xs else xs ++ x ∷ []

abbrev pub with_word : Text → Hosted → Hosted
with_word x h = record h { words = word_added x h.words }

-- the pairs once this is said of the name, in the place of what was said before, or else at the end
abbrev pub name_added : Text → HostUse → List (Text × HostUse) → List (Text × HostUse)
name_added x u [] = (x, u) ∷ []
name_added x u (p ∷ ps) = if bytes_eq x p.0 then (p.0, u) ∷ ps else p ∷ name_added x u ps

abbrev pub with_name : Text → HostUse → Hosted → Hosted
with_name x u h = record h { names = name_added x u h.names }

-- ---- the host of a run

-- the slot has this name; or no variable of the script has it
abbrev pub IsSlotIn : List Text → Text → Option ℕ → Type 0
IsSlotIn names name (Some k) = get_or names k [] ≡ name
IsSlotIn names name None = list_any (bytes_eq name) names ≡ false

-- What a run is given is what the host gave. A name that it may set is the variable of its slot, or no variable of the
-- script: then to set it changes nothing.
pub record IsHost (h : Hosted) (g : Given) : Type 0 where
  pub bound : g.bound ≡ h.bound
  pub numbers : g.numbers ≡ h.numbers
  pub seed : g.seed ≡ h.seed
  pub words : (text : Text) → list_any (bytes_eq text) g.operands ≡ is_given h text
  pub can_assign : (name : Text) → g.can_assign name ≡ can_set h name
  pub slots : (name : Text) → can_set h name ≡ true → IsSlotIn (names_in g) name (slot_of h name)
