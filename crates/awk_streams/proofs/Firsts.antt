-- What a reading takes of what is held unread, and what it answers.
use Rattle.std.proofs.Common.{◌≡◌, ◌⊎◌, inl, inr, refl, sym, ◌∙◌, ap, ℕ, ◌+◌, Bool, true, false, cond, nat_lt, ◌==◌}
use Rattle.std.proofs.Common.{List, [], ◌∷◌, length, take, drop, Option, Some, None}
use Rattle.std.specs.List.{position_or_len, prefix_len, before_first, after_first}
use Rattle.awk_text.specs.Limits.{most_bytes}
use Rattle.awk_text.specs.declared.fault.Fault.{Fault}
use Rattle.awk_text.specs.declared.fault.Fault.TheVariants as fault
use Rattle.awk_text.specs.declared.place.Place.{Place}
use Rattle.awk_streams.specs.declared.getline.NextRecord.TheVariants as found
use Rattle.awk_fields.specs.declared.reader.Taken.{Taken}
use Rattle.awk_fields.specs.declared.reader.Taken.TheVariants as taking
use Rattle.awk_fields.specs.Heads.{Head, taken, need_more, done, too_long, last, is_newline, pair_place, trimmed}
use Rattle.awk_fields.specs.Heads.{ended_by, head}
use Rattle.awk_fields.specs.Takes.{Input, Takes}
use Rattle.box_world.specs.Events.{Key}
use Rattle.awk_streams.specs.Chains.{halt_at}
use Rattle.awk_streams.specs.Readings.{FailsFirst, FirstIs, read_taken}
use Rattle.awk_streams.specs.Tables.{Table}
use Rattle.awk_streams.specs.Tasks.{IsReadAt}
use Rattle.awk_streams.proofs.Reading.{drop_drop}

-- ---- what is left behind a record

rest_of : Head → List ℕ
rest_of (taken text rest) = rest
rest_of h = []

rest_same : (text rest text' rest' : List ℕ) → taken text rest ≡ taken text' rest' → rest' ≡ rest
unfolding rest_of
rest_same text rest text' rest' e = ap rest_of (sym e)

pub drop_all : (u : List ℕ) → drop (length u) u ≡ []
drop_all [] = refl
drop_all (b ∷ u) = drop_all u

last_empty : (s : List ℕ) (ended : Bool) (text rest : List ℕ) → last s ended ≡ taken text rest → rest ≡ []
last_empty s false text rest e = absurd (cc)
last_empty [] true text rest e = absurd (cc)
last_empty (b ∷ s) true text rest e = rest_same (b ∷ s) [] text rest e

all_gone : (u rest : List ℕ) → rest ≡ [] → (m : ℕ) × (rest ≡ drop m u)
all_gone u rest e = (length u, e ∙ sym (drop_all u))

-- it is behind what was held
pub behind : (rs u : List ℕ) (ended : Bool) (text rest : List ℕ) → head rs u ended ≡ taken text rest → (m : ℕ)
    × (rest ≡ drop m u)
behind (c ∷ rs) u ended text rest h = by (nat_lt most_bytes (position_or_len (λ b. b == c) u))
    (nat_lt (position_or_len (λ b. b == c) u) (length u)) h
  where
    by : (a b : Bool) → cond a too_long (cond b (taken (before_first (λ b. b == c) u) (after_first (λ b. b == c) u))
        (last u ended)) ≡ taken text rest → (m : ℕ) × (rest ≡ drop m u)
    by true b e = absurd (cc)
    by false true e = (
      position_or_len (λ b. b == c) u + 1,
      rest_same (before_first (λ b. b == c) u)
          (after_first (λ b. b == c) u) text rest e,
    )
    by false false e = all_gone u rest (last_empty u ended text rest e)
behind [] u ended text rest h = by (pair_place (drop (prefix_len is_newline u) u)) h
  where
    some : (k : ℕ) (a : Bool)
        → cond a too_long (taken (take k (drop (prefix_len is_newline u) u))
        (drop (k + 2) (drop (prefix_len is_newline u) u))) ≡ taken text rest → (m : ℕ) × (rest ≡ drop m u)
    some k true e = absurd (cc)
    some k false e = (
      prefix_len is_newline u + (k + 2),
      rest_same (take k (drop (prefix_len is_newline u) u)) (drop (k + 2) (drop (prefix_len is_newline u) u)) text rest
          e ∙ drop_drop (k + 2) (prefix_len is_newline u) u,
    )

    none : (a : Bool) → cond a too_long (last (trimmed (drop (prefix_len is_newline u) u)) ended) ≡ taken text rest
        → (m : ℕ) × (rest ≡ drop m u)
    none true e = absurd (cc)
    none false e = all_gone u rest (last_empty (trimmed (drop (prefix_len is_newline u) u)) ended text rest e)

    by : (r : Option ℕ) → ended_by r (prefix_len is_newline u) (drop (prefix_len is_newline u) u) u ended
        ≡ taken text rest → (m : ℕ) × (rest ≡ drop m u)
    by (Some k) e = some k (nat_lt most_bytes (prefix_len is_newline u + k)) e
    by None e = none (nat_lt most_bytes (length (trimmed u))) e

-- ---- where the end has come, nothing more is waited for

last_waits : (s : List ℕ) (ended : Bool) → last s ended ≡ need_more → ended ≡ false
last_waits s false e = refl
last_waits [] true e = absurd (cc)
last_waits (b ∷ s) true e = absurd (cc)

pub waits_on : (rs u : List ℕ) (ended : Bool) → head rs u ended ≡ need_more → ended ≡ false
waits_on (c ∷ rs) u ended h = by (nat_lt most_bytes (position_or_len (λ b. b == c) u))
    (nat_lt (position_or_len (λ b. b == c) u) (length u)) h
  where
    by : (a b : Bool) → cond a too_long (cond b (taken (before_first (λ b. b == c) u) (after_first (λ b. b == c) u))
        (last u ended)) ≡ need_more → ended ≡ false
    by true b e = absurd (cc)
    by false true e = absurd (cc)
    by false false e = last_waits u ended e
waits_on [] u ended h = by (pair_place (drop (prefix_len is_newline u) u)) h
  where
    some : (k : ℕ) (a : Bool)
        → cond a too_long (taken (take k (drop (prefix_len is_newline u) u))
        (drop (k + 2) (drop (prefix_len is_newline u) u))) ≡ need_more → ended ≡ false
    some k true e = absurd (cc)
    some k false e = absurd (cc)

    none : (a : Bool) → cond a too_long (last (trimmed (drop (prefix_len is_newline u) u)) ended) ≡ need_more
        → ended ≡ false
    none true e = absurd (cc)
    none false e = last_waits (trimmed (drop (prefix_len is_newline u) u)) ended e

    by : (r : Option ℕ) → ended_by r (prefix_len is_newline u) (drop (prefix_len is_newline u) u) u ended ≡ need_more
        → ended ≡ false
    by (Some k) e = some k (nat_lt most_bytes (prefix_len is_newline u + k)) e
    by None e = none (nat_lt most_bytes (length (trimmed u))) e

-- ---- what is answered

pub first_is : (key : Key) (old new : Table) (i j : Input) (h : Head) (t : Taken) → Takes h t i j
    → IsReadAt key j old new → FirstIs key old new i h (read_taken t)
first_is key old new i j (taken text rest) (taking.Record given) (same, e) r = (ap found.Record same, rw e at r)
first_is key old new i j (taken text rest) taking.NeedMore x r = absurd x
first_is key old new i j (taken text rest) taking.Done x r = absurd x
first_is key old new i j need_more (taking.Record given) x r = absurd x
first_is key old new i j need_more taking.NeedMore x r = rw x at r
first_is key old new i j need_more taking.Done x r = absurd x
first_is key old new i j done (taking.Record given) x r = absurd x
first_is key old new i j done taking.NeedMore x r = absurd x
first_is key old new i j done taking.Done x r = (refl, rw x at r)
first_is key old new i j too_long (taking.Record given) x r = absurd x
first_is key old new i j too_long taking.NeedMore x r = absurd x
first_is key old new i j too_long taking.Done x r = absurd x

-- and how it fails
pub fails_first : (place : Place) (h : Head) (e : Fault) → (e ≡ fault.Memory)
    ⊎ ((e ≡ fault.TextTooLong) × (h ≡ too_long)) → FailsFirst place h (halt_at place e)
fails_first place h e (inl x) = inl (ap (halt_at place) x)
fails_first place h e (inr x) = inr (ap (halt_at place) x.0, x.1)
