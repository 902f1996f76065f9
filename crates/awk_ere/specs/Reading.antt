-- The tokens of a whole pattern, and its leftmost fault.
use Rattle.std.specs.Prelude.{◌≡◌, ℕ, ◌+◌, ◌-◌, nat_lt, Bool, true, false, List, [], ◌∷◌}
use Rattle.awk_ere.specs.Token.{Token, atom, times, opening, closing, Front, finished, token, wrong, front}
use Rattle.awk_ere.specs.declared.error.EreFault.{EreFault}

-- how many groups are open, whether a repetition has something to repeat, and what is left
pub record Spot : Type 0 where
  pub depth : ℕ
  pub may_repeat : Bool
  pub left : List ℕ

abbrev pub depth_after : Token → ℕ → ℕ
depth_after opening depth = depth + 1
depth_after closing depth = depth - 1
depth_after t depth = depth

-- an atom, a group or a repetition may be repeated; an anchor may not
abbrev pub is_repeatable : Token → Bool
is_repeatable (atom p) = true
is_repeatable (times least most factor) = true
is_repeatable closing = true
is_repeatable t = false

abbrev pub front_at : Spot → Front
front_at p = front (nat_lt 0 p.depth) p.may_repeat p.left

abbrev pub spot_after : Spot → Token → List ℕ → Spot
spot_after p t left = record { depth = depth_after t p.depth; may_repeat = is_repeatable t; left = left }

-- the tokens lead from one spot to another
abbrev pub Leads : List Token → Spot → Spot → Type 0
Leads [] p q = p ≡ q
Leads (t ∷ ts) p q = (left : List ℕ) × (front_at p ≡ token t left) × Leads ts (spot_after p t left) q

abbrev pub first_spot : List ℕ → Spot
first_spot s = record { depth = 0; may_repeat = false; left = s }

-- the whole text is these tokens
abbrev pub IsRead : List ℕ → List Token → Type 0
IsRead s ts = (q : Spot) × Leads ts (first_spot s) q × (front_at q ≡ finished)

-- the leftmost fault of the text: an open group is one at the end
abbrev pub HasFault : List ℕ → EreFault → Type 0
HasFault s fault = (ts : List Token) × (q : Spot) × Leads ts (first_spot s) q × (front_at q ≡ wrong fault)
