-- Lemmas on texts that a log quotes.
use Rattle.std.proofs.Common.{◌≡◌, ℕ, zero, suc, ◌<◌, ◌≤◌, ◌+◌, ◌/◌, ◌%◌, Bool, true, false, cond, List, [], ◌∷◌, ◌++◌}
use Rattle.std.proofs.Common.{length, get_or, drop, refl, sym, ap, subst, ◌∙◌, append_assoc, length-drop, take, ◌-◌}
use Rattle.std.proofs.Common.{inl, inr, arith}
use Rattle.std.specs.Prelude.{All, ◌⊎◌}
use Rattle.std.proofs.lemmas.Bool.{false≢true}
use Rattle.std.proofs.lemmas.Grind.{common_steps}
use Rattle.std.proofs.lemmas.List.{take_all}
use Rattle.std.proofs.lemmas.List.Elements.{All-head, All-tail}
use Rattle.awk_text.specs.Quoted.{hex_digit, is_plain, quoted, quoted_byte}

abbrev pub escape : ℕ → List ℕ → List ℕ
escape byte more = 92 ∷ 120 ∷ hex_digit (byte / 16) ∷ hex_digit (byte % 16) ∷ more

not_backslash : (byte : ℕ) → is_plain byte ≡ true → byte ≡ 92 → ⊥
not_backslash byte plain e = false≢true (subst (λ b. is_plain b ≡ true) e plain)

cases_at : (byte : ℕ) (more text : List ℕ) (plain : Bool) → is_plain byte ≡ plain → text ≡ quoted_byte byte ++ more
    → ((byte ≡ 92 → ⊥) × (text ≡ byte ∷ more)) ⊎ (text ≡ escape byte more)
unfolding quoted_byte
cases_at byte more text true plain e =
    inl (not_backslash byte plain, e ∙ ap (λ b. (cond b (byte ∷ []) (escape byte [])) ++ more) plain)
cases_at byte more text false plain e = inr (e ∙ ap (λ b. (cond b (byte ∷ []) (escape byte [])) ++ more) plain)

-- a byte is quoted as itself, or by its digits
quoted_cases : (byte : ℕ) (more text : List ℕ) → text ≡ quoted_byte byte ++ more
    → ((byte ≡ 92 → ⊥) × (text ≡ byte ∷ more)) ⊎ (text ≡ escape byte more)
quoted_cases byte more text e = cases_at byte more text (is_plain byte) refl e

pub not_empty : (byte : ℕ) (more text : List ℕ) → text ≡ quoted_byte byte ++ more → 0 < length text
not_empty byte more text e = by (quoted_cases byte more text e)
  where
    by : ((byte ≡ 92 → ⊥) × (text ≡ byte ∷ more)) ⊎ (text ≡ escape byte more) → 0 < length text
    by (inl p) = subst (λ t. 0 < length t) (sym p.1) (omega arith)
    by (inr p) = subst (λ t. 0 < length t) (sym p) (omega arith)

pub plain_here : (byte : ℕ) (more text : List ℕ) → text ≡ quoted_byte byte ++ more → (get_or text 0 0 ≡ 92 → ⊥)
    → (get_or text 0 0 ≡ byte) × (drop 1 text ≡ more)
plain_here byte more text e other = by (quoted_cases byte more text e)
  where
    by : ((byte ≡ 92 → ⊥) × (text ≡ byte ∷ more)) ⊎ (text ≡ escape byte more) → (get_or text 0 0 ≡ byte)
        × (drop 1 text ≡ more)
    by (inl p) = (ap (λ t. get_or t 0 0) p.1, ap (drop 1) p.1)
    by (inr p) = absurd (other (ap (λ t. get_or t 0 0) p))

pub escape_here : (byte : ℕ) (more text : List ℕ) → text ≡ quoted_byte byte ++ more → get_or text 0 0 ≡ 92
    → drop 1 text ≡ 120 ∷ hex_digit (byte / 16) ∷ hex_digit (byte % 16) ∷ more
escape_here byte more text e here = by (quoted_cases byte more text e)
  where
    by : ((byte ≡ 92 → ⊥) × (text ≡ byte ∷ more)) ⊎ (text ≡ escape byte more)
        → drop 1 text ≡ 120 ∷ hex_digit (byte / 16) ∷ hex_digit (byte % 16) ∷ more
    by (inl p) = absurd (p.0 (sym (ap (λ t. get_or t 0 0) p.1) ∙ here))
    by (inr p) = ap (drop 1) p

pub rest_is : (line : List ℕ) → take (length line - 1) (drop 1 line) ≡ drop 1 line
rest_is line = take_all (length line - 1) (drop 1 line) (omega (arith, length-drop 1 line))

abbrev pub AreBytes : List ℕ → Type 0
AreBytes text = All (λ byte. byte < 256) text

pub bytes_from : (text : List ℕ) → ((k : ℕ) → get_or text k 0 < 256) → (k d : ℕ) → k < length text
    → get_or text k d < 256
bytes_from [] all k d l = absurd (omega (arith, l))
bytes_from (byte ∷ text) all zero d l = all 0
bytes_from (byte ∷ text) all (suc k) d l = bytes_from text (λ i. all (suc i)) k d (omega (arith, l))

-- what is left of a text that is quoted so, behind what was read of it
abbrev pub Left : (text done rest : List ℕ) → Type 0
Left text done rest = (others : List ℕ) × AreBytes others × (text ≡ done ++ others) × (quoted others ≡ rest)

-- a byte more is read
pub one_more : (text done rest after : List ℕ) (byte : ℕ) → length after < length rest
    → ((b : ℕ) (more : List ℕ) → b < 256 → rest ≡ quoted_byte b ++ more → (byte ≡ b) × (after ≡ more))
    → Left text done rest → Left text (done ++ byte ∷ []) after
one_more text done rest after byte short found left = by left.0 left.1 left.2 left.3
  where
    by : (others : List ℕ) → AreBytes others → text ≡ done ++ others → quoted others ≡ rest
        → Left text (done ++ byte ∷ []) after
    by [] bytes same e = absurd (omega (arith, short, ap length e))
    by (b ∷ others) bytes same e =
        let next = found b (quoted others) (All-head (λ one. one < 256) b others bytes) (sym e) in (
          others,
          All-tail (λ one. one < 256) b others bytes,
          same ∙ ap (λ one. done ++ one ∷ others) (sym next.0) ∙ sym (append_assoc done (byte ∷ []) others),
          sym next.1,
        )

-- nothing more is read, so all is
pub no_more : (text done rest : List ℕ)
    → ((b : ℕ) (more : List ℕ) → b < 256 → rest ≡ quoted_byte b ++ more → ⊥) → Left text done rest → done ≡ text
no_more text done rest none left = by left.0 left.1 left.2 left.3
  where
    by : (others : List ℕ) → AreBytes others → text ≡ done ++ others → quoted others ≡ rest → done ≡ text
    by [] bytes same e = grind (arith, common_steps, same)
    by (b ∷ others) bytes same e = absurd (none b (quoted others) (All-head (λ one. one < 256) b others bytes) (sym e))
