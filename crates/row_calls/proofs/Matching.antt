-- Patterns read and matched by computing, for the rows of the definition alone: what is claimed of patterns is in their
-- own crate.
use Rattle.std.specs.Prelude.{ℕ, zero, suc, ◌+◌, ◌-◌, ◌==◌, nat_lt, nat_le, ◌&&◌, Bool, true, false, if◌then◌else◌}
use Rattle.std.specs.Prelude.{List, [], ◌∷◌, length, max, slice_index, Option, Some, None}
use Rattle.std.specs.List.{flat_map, list_any}
use Rattle.awk_ere.specs.Pattern.{Pattern, empty, bytes, start, finish, cat, alt, repeat}
use Rattle.awk_ere.specs.Reading.{Spot, front_at, spot_after, first_spot}
use Rattle.awk_ere.specs.Token.{Front, finished, token, wrong}
use Rattle.awk_ere.specs.Tree as tree
use Rattle.awk_ere.specs.Tree.{Stack}
use Rattle.awk_program.specs.Slots.{Text}
use Rattle.awk_lib.specs.Replacing.{next_from, is_passed}

-- ---- the pattern that a text spells, where it is one; sizes are not looked at

abbrev Reader : Type 0
Reader = Spot → Option Stack → Option Pattern

abbrev read_by : Reader → Spot → Option Stack → Front → Option Pattern
read_by go spot None seen = None
read_by go spot (Some stack) finished = Some (tree.finished stack.1).0
read_by go spot (Some stack) (wrong fault) = None
read_by go spot (Some stack) (token t left) = go (spot_after spot t left) (tree.taken t stack.0 stack.1)

abbrev read_from : ℕ → Reader
read_from zero spot stack = None
read_from (suc n) spot stack = read_by (read_from n) spot stack (front_at spot)

abbrev pub pattern_of : Text → Option Pattern
pattern_of source = read_from (length source + 1) (first_spot source) (Some ([], tree.fresh))

-- ---- the places where a match that begins at a place may end

abbrev with_place : List ℕ → ℕ → List ℕ
with_place ns n = if list_any (λ m. m == n) ns then ns else n ∷ ns

abbrev union : List ℕ → List ℕ → List ℕ
union [] ns = ns
union (m ∷ ms) ns = with_place (union ms ns) m

-- so many rounds more; a round counts from `least` on, and none is after `most`
abbrev rounds : (ℕ → List ℕ) → ℕ → ℕ → ℕ → Option ℕ → List ℕ → List ℕ → List ℕ
rounds step zero at least most now found = found
rounds step (suc n) at least most now found =
    rounds step n (at + 1) least most (union (flat_map step now) [])
    (if nat_le least at && within most at then union now found else found)
  where
    within : Option ℕ → ℕ → Bool
    within None at = true
    within (Some m) at = nat_le at m

abbrev most_rounds : ℕ → Option ℕ → ℕ
most_rounds least None = least
most_rounds least (Some m) = m

abbrev ends : Text → Pattern → ℕ → List ℕ
ends s empty i = i ∷ []
ends s (bytes test) i = if nat_lt i (length s) && test (slice_index s i) then (i + 1) ∷ [] else []
ends s start i = if i == 0 then i ∷ [] else []
ends s finish i = if i == length s then i ∷ [] else []
ends s (cat p q) i = union (flat_map (ends s q) (ends s p i)) []
ends s (alt p q) i = union (ends s p i) (ends s q i)
ends s (repeat p least most) i = rounds (ends s p) (most_rounds least most + length s + 2) 0 least most (i ∷ []) []

-- ---- the best match from a place on

abbrev longest : List ℕ → Option ℕ
longest [] = None
longest (n ∷ ns) = later n (longest ns)
  where
    later : ℕ → Option ℕ → Option ℕ
    later n None = Some n
    later n (Some m) = Some (max n m)

abbrev pub Found : Type 0
Found = Option (ℕ × ℕ)

abbrev or_on : (ℕ → Found) → ℕ → Option ℕ → Found
or_on go i (Some j) = Some (i, j)
or_on go i None = go (i + 1)

abbrev find_from : Text → Pattern → ℕ → ℕ → Found
find_from s p zero i = None
find_from s p (suc n) i = or_on (find_from s p n) i (longest (ends s p i))

abbrev pub find : Text → Pattern → ℕ → Found
find s p i = find_from s p (length s + 1 - i) i

-- ---- all that gsub replaces, and what an ERE separates

abbrev All : Type 0
All = ℕ → Option ℕ → List (ℕ × ℕ)

abbrev keep : Bool → (ℕ × ℕ) → List (ℕ × ℕ) → List (ℕ × ℕ)
keep true m ms = ms
keep false m ms = m ∷ ms

abbrev all_by : All → Option ℕ → Found → List (ℕ × ℕ)
all_by go last None = []
all_by go last (Some m) = keep (is_passed last m) m (go (next_from m) (Some m.1))

abbrev all_from : Text → Pattern → ℕ → All
all_from s p zero i last = []
all_from s p (suc n) i last = all_by (all_from s p n) last (find s p i)

abbrev pub all : Text → Pattern → List (ℕ × ℕ)
all s p = all_from s p (length s + 2) 0 None

abbrev separated_by : (ℕ → List (ℕ × ℕ)) → Found → List (ℕ × ℕ)
separated_by go None = []
separated_by go (Some m) = keep (m.0 == m.1) m (go (next_from m))

abbrev separators_from : Text → Pattern → ℕ → ℕ → List (ℕ × ℕ)
separators_from s p zero i = []
separators_from s p (suc n) i = separated_by (separators_from s p n) (find s p i)

abbrev pub separators : Text → Pattern → List (ℕ × ℕ)
separators s p = separators_from s p (length s + 2) 0
