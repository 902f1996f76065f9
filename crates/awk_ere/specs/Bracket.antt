-- Bracket expressions (POSIX.1-2017 XBD 9.3.5), in the POSIX locale: the bytes between `[` and its `]`.
use Rattle.std.specs.Prelude.{ℕ, zero, suc, Bool, true, false, not, ◌&&◌, ◌||◌, ◌==◌, nat_le, nat_lt, if◌then◌else◌}
use Rattle.std.specs.Prelude.{List, [], ◌∷◌, ◌++◌, take, drop, length, Option, Some, None, codes}
use Rattle.std.specs.List.{list_any, prefix_len}
use Rattle.std.specs.Char.{is_ascii_lowercase}
use Rattle.std.specs.Str.{bytes_eq}
use Rattle.awk_ere.specs.Escape.{escape}

-- the first and the last byte of a range
abbrev pub Range : Type 0
Range = ℕ × ℕ

abbrev pub in_range : ℕ → Range → Bool
in_range b r = nat_le r.0 b && nat_le b r.1

-- the test of a bracket expression; `^` takes every byte that is not listed
abbrev pub in_set : Bool → List Range → ℕ → Bool
in_set negated ranges b =
    nat_lt b 256 && (if negated then not (list_any (in_range b) ranges) else list_any (in_range b) ranges)

-- the bytes of each class, as in ASCII
unfoldable pub class_ranges : List ℕ → Option (List Range)
class_ranges name =
    if bytes_eq name (codes "alpha") then Some ((65, 90) ∷ (97, 122) ∷ []) else
    (if bytes_eq name (codes "digit") then Some ((48, 57) ∷ []) else
    (if bytes_eq name (codes "alnum") then Some ((48, 57) ∷ (65, 90) ∷ (97, 122) ∷ []) else
    (if bytes_eq name (codes "upper") then Some ((65, 90) ∷ []) else
    (if bytes_eq name (codes "lower") then Some ((97, 122) ∷ []) else
    (if bytes_eq name (codes "space") then Some ((9, 13) ∷ (32, 32) ∷ []) else
    (if bytes_eq name (codes "blank") then Some ((9, 9) ∷ (32, 32) ∷ []) else
    (if bytes_eq name (codes "punct") then Some ((33, 47) ∷ (58, 64) ∷ (91, 96) ∷ (123, 126) ∷ []) else
    (if bytes_eq name (codes "print") then Some ((32, 126) ∷ []) else
    (if bytes_eq name (codes "graph") then Some ((33, 126) ∷ []) else
    (if bytes_eq name (codes "cntrl") then Some ((0, 31) ∷ (127, 127) ∷ []) else
    (if bytes_eq name (codes "xdigit") then Some ((48, 57) ∷ (65, 70) ∷ (97, 102) ∷ []) else None)))))))))))

abbrev pub class_closed : Option (List Range) → List ℕ → Option (List Range × List ℕ)
class_closed (Some ranges) (c ∷ d ∷ s) = if c == 58 && d == 93 then Some (ranges, s) else None
class_closed ranges s = None

-- the class that the text after `[:` names
unfoldable pub class : List ℕ → Option (List Range × List ℕ)
class s = let n = prefix_len is_ascii_lowercase s in class_closed (class_ranges (take n s)) (drop n s)

abbrev pub begins : ℕ → List ℕ → Bool
begins b [] = false
begins b (c ∷ s) = c == b

-- one byte, by itself or by an escape; a `[` before `.`, `=` or `:` is none
unfoldable pub point : List ℕ → Option (ℕ × List ℕ)
point [] = None
point (c ∷ s) =
    if c == 92 then escape s
    else (if c == 91 && (begins 46 s || begins 61 s || begins 58 s) then None else Some (c, s))

abbrev pub ended : ℕ → Option (ℕ × List ℕ) → Option (List Range × List ℕ)
ended low None = None
ended low (Some (high, s)) = if nat_lt high low then None else Some ((low, high) ∷ [], s)

-- the byte `low` and what stands after it: a range where `-` and another end than `]` follow
unfoldable pub range_from : ℕ → List ℕ → Option (List Range × List ℕ)
range_from low (c ∷ d ∷ s) =
    if c == 45 && not (d == 93) then ended low (point (d ∷ s)) else Some ((low, low) ∷ [], c ∷ d ∷ s)
range_from low s = Some ((low, low) ∷ [], s)

abbrev pub ranged : Option (ℕ × List ℕ) → Option (List Range × List ℕ)
ranged None = None
ranged (Some (low, s)) = range_from low s

-- the text after `[:`, where that stands at the front
abbrev pub class_name : List ℕ → Option (List ℕ)
class_name (c ∷ d ∷ s) = if c == 91 && d == 58 then Some s else None
class_name s = None

-- a `-` that is neither the first item nor the last
abbrev pub is_stray : Bool → List ℕ → Bool
is_stray first [] = false
is_stray first (c ∷ s) = c == 45 && not first && not (begins 93 s)

abbrev pub item_by : Option (List ℕ) → Bool → Option (ℕ × List ℕ) → Option (List Range × List ℕ)
item_by (Some name) stray p = class name
item_by None true p = None
item_by None false p = ranged p

-- one item: a class, a range or a byte
abbrev pub item : Bool → List ℕ → Option (List Range × List ℕ)
item first s = item_by (class_name s) (is_stray first s) (point s)

abbrev pub with_front : List Range → Option (List Range × List ℕ) → Option (List Range × List ℕ)
with_front front None = None
with_front front (Some (ranges, s)) = Some (front ++ ranges, s)

abbrev pub then_items : Option (List Range × List ℕ) → (List ℕ → Option (List Range × List ℕ)) →
    Option (List Range × List ℕ)
then_items None more = None
then_items (Some (ranges, s)) more = with_front ranges (more s)

abbrev pub closes : Bool → ℕ → Bool
closes first c = c == 93 && not first

-- the items up to the closing `]`, of which there are at most so many; a `]` that comes first is an item
abbrev pub items : ℕ → Bool → List ℕ → Option (List Range × List ℕ)
items n first [] = None
items zero first (c ∷ s) = None
items (suc n) first (c ∷ s) = if closes first c then Some ([], s) else then_items (item first (c ∷ s)) (items n false)

-- whether the set is negated, its ranges, and what follows the `]`
abbrev pub Found : Type 0
Found = Option (Bool × List Range × List ℕ)

abbrev pub found : Bool → Option (List Range × List ℕ) → Found
found negated None = None
found negated (Some (ranges, s)) = Some (negated, ranges, s)

-- the text after a `^`, where that stands at the front
abbrev pub after_hat : List ℕ → Option (List ℕ)
after_hat [] = None
after_hat (c ∷ s) = if c == 94 then Some s else None

abbrev pub bracket_by : Option (List ℕ) → List ℕ → Found
bracket_by (Some t) s = found true (items (length t) true t)
bracket_by None s = found false (items (length s) true s)

-- the bracket expression that the text after a `[` spells
abbrev pub bracket : List ℕ → Found
bracket s = bracket_by (after_hat s) s
