-- The state of the reading, and what a separator and a token make of it.
use Rattle.std.proofs.Common.{◌≡◌, ◌≢◌, ℕ, ◌+◌, ◌-◌, ◌≤◌, Bool, true, not, List, [], ◌∷◌, ◌++◌, length}
use Rattle.std.proofs.Common.{take, drop, sym, ap, refl, subst, ◌∙◌, arith}
use Rattle.std.proofs.Math.Seq.{take-length, take-append_seam, drop-append_seam}
use Rattle.std.proofs.lemmas.List.{append_assoc, append-nil, length-append, length-drop}
use Rattle.std.proofs.lemmas.List.Sums.{fold_push}
use Rattle.awk_numbers.specs.declared.number.Numbers.{Numbers}
use Rattle.awk_text.specs.declared.place.Place.{Place}
use Rattle.awk_tokens.specs.Bytes.{Text}
use Rattle.awk_tokens.specs.Places.{place_after}
use Rattle.awk_tokens.specs.Tokens.{IsFirst, text_of}
use Rattle.awk_tokens.specs.Reads.{ReadsTo, begun, a_gap, a_token, Reads, Stands, Refuses, ends_operand, operand_after}
use Rattle.awk_tokens.specs.Reads.{token_of}
use Rattle.awk_tokens.specs.Scan.{gap_len}
use Rattle.awk_tokens.specs.Next.{IsNext}
use Rattle.awk_tokens.specs.declared.token.Token.{Token}
use Rattle.awk_tokens.specs.declared.kinds.TokenKind.{TokenKind}
use Rattle.awk_tokens.proofs.FirstLemmas.{First}
use Rattle.awk_tokens.proofs.GapLemmas.{gap_found}

-- so much of the script is read as these tokens
pub record At (numbers : Numbers) (script : Text) (start : ℕ) (place : Place) (operand : Bool)
    (tokens : List Token) : Type 0 where
  pub front : Text
  pub rest : Text
  pub parts : script ≡ front ++ rest
  pub start_is : start ≡ length front
  pub read : ReadsTo numbers front tokens rest
  pub place_is : place ≡ place_after front
  pub operand_is : operand ≡ operand_after tokens

pub at_start : (numbers : Numbers) (script : Text) → At numbers script 0 (record { line = 1; column = 1 }) true []
at_start numbers script = record {
  front = [];
  rest = script;
  parts = refl;
  start_is = refl;
  read = begun script;
  place_is =
      refl;
  operand_is = refl;
}

pub within : (numbers : Numbers) (script : Text) (start : ℕ) (place : Place) (operand : Bool) (tokens : List Token)
    → At numbers script start place operand tokens → start ≤ length script
within numbers script start place operand tokens at =
    let len = ap length at.parts in
    let front_len = at.start_is in
    omega (arith, length-append at.front at.rest)

-- what is left of the script, as the code takes it
pub rest_range : (script : Text) (start : ℕ) → take (length script - start) (drop start script) ≡ drop start script
rest_range script start = ap (λ n. take n (drop start script)) (sym (length-drop start script))
    ∙ take-length (drop start script)

rest_is : (numbers : Numbers) (script : Text) (start : ℕ) (place : Place) (operand : Bool) (tokens : List Token)
    (at : At numbers script start place operand tokens) → drop start script ≡ at.rest
rest_is numbers script start place operand tokens at = ap (λ n. drop n script) at.start_is ∙ ap (drop (length at.front))
    at.parts ∙ drop-append_seam at.front at.rest

pub gap_step : (numbers : Numbers) (script : Text) (start : ℕ) (place : Place) (operand : Bool) (tokens : List Token)
    (n : ℕ)
    (after : Place) → At numbers script start place operand tokens → gap_len (drop start script) ≡ n → n ≢ 0
    → ((front : Text) → place ≡ place_after front → after ≡ place_after (front ++ take n (drop start script)))
    → At numbers script (start + n) after operand tokens
gap_step numbers script start place operand tokens n after at len some placed =
    let g = gap_found (drop start script) n len some in
    let whole : at.rest ≡ g.gap ++ g.rest = sym (rest_is numbers script start place operand tokens at) ∙ g.parts in
    let taken : take n (drop start script) ≡ g.gap = ap (λ k. take k (drop start script)) g.len_is
    ∙ ap (take (length g.gap)) g.parts ∙ take-append_seam g.gap g.rest in
    record {
      front = at.front ++ g.gap;
      rest = g.rest;
      parts = at.parts ∙ ap (λ w. at.front ++ w) whole ∙ sym (append_assoc at.front g.gap g.rest);
      start_is = ap (λ k. k + n) at.start_is ∙ ap (λ k. length at.front + k) g.len_is
          ∙ sym (length-append at.front g.gap);
      read = a_gap at.front g.gap g.rest tokens (subst (λ w. ReadsTo numbers at.front tokens w) whole at.read) g.is;
      place_is = placed at.front at.place_is ∙ ap (λ w. place_after (at.front ++ w)) taken;
      operand_is = at.operand_is;
    }

token_text : (front text : Text) (t : Token) → t ≡ token_of front t.kind text → t.end ≡ place_after (front ++ text)
token_text front text t e = ap (λ u. u.end) e

pub token_step : (numbers : Numbers) (script : Text) (start : ℕ) (place : Place) (operand : Bool)
    (tokens : List Token) (token : Token)
    (len : ℕ) → At numbers script start place operand tokens
    → IsNext numbers operand (drop start script) start place token len
    → At numbers script (start + len) token.end (not (ends_operand token.kind token.text)) (tokens ++ token ∷ [])
token_step numbers script start place operand tokens token len at next =
    let whole : at.rest ≡ next.text ++ next.rest = sym (rest_is numbers script start place operand tokens at)
    ∙ next.parts in
    let is : token ≡ token_of at.front token.kind next.text = next.token_is at.front at.start_is at.place_is in
    let first : IsFirst numbers (operand_after tokens) token.kind next.text next.rest =
    subst (λ o. IsFirst numbers o token.kind next.text next.rest) at.operand_is next.first in
    record {
      front = at.front ++ next.text;
      rest = next.rest;
      parts = at.parts ∙ ap (λ w. at.front ++ w) whole ∙ sym (append_assoc at.front next.text next.rest);
      start_is = ap (λ k. k + len) at.start_is ∙ ap (λ k. length at.front + k) next.len_is
          ∙ sym (length-append at.front next.text);
      read = subst (λ t. ReadsTo numbers (at.front ++ next.text) (tokens ++ t ∷ []) next.rest) (sym is)
          (a_token at.front next.text next.rest tokens token.kind
          (subst (λ w. ReadsTo numbers at.front tokens w) whole at.read)
          first);
      place_is = token_text at.front next.text token is;
      operand_is = sym (fold_push (λ before t. not (ends_operand t.kind t.text)) true tokens token);
    }

pub step_within : (numbers : Numbers) (script : Text) (start : ℕ) (place : Place) (operand : Bool)
    (tokens : List Token) (token : Token)
    (len : ℕ) → At numbers script start place operand tokens
    → IsNext numbers operand (drop start script) start place token len
    → start + len ≤ length script
step_within numbers script start place operand tokens token len at next = within numbers script (start + len) token.end
    (not (ends_operand token.kind token.text)) (tokens ++ token ∷ [])
    (token_step numbers script start place operand tokens token len at next)

pub at_end : (numbers : Numbers) (script : Text) (start : ℕ) (place : Place) (operand : Bool) (tokens : List Token)
    → At numbers script start place operand tokens → length script ≤ start → Reads numbers script tokens
at_end numbers script start place operand tokens at all =
    let len = ap length at.parts in
    let front_len = at.start_is in
    let none : at.rest ≡ [] = empty_is at.rest (omega (arith, length-append at.front at.rest)) in
    let whole : at.front ≡ script = sym (append-nil at.front) ∙ ap (λ w. at.front ++ w) (sym none) ∙ sym at.parts in
    subst (λ w. ReadsTo numbers w tokens []) whole (subst (λ w. ReadsTo numbers at.front tokens w) none at.read)
  where
    empty_is : (z : Text) → length z ≡ 0 → z ≡ []
    empty_is [] e = refl
    empty_is (b ∷ z) e = absurd (omega arith)

pub at_fault : (numbers : Numbers) (script : Text) (start : ℕ) (place found : Place) (operand : Bool)
    (tokens : List Token) (code : ℕ)
    → At numbers script start place operand tokens → Stands numbers operand code (drop start script) → found ≡ place
    → Refuses numbers script code found
at_fault numbers script start place found operand tokens code at stands same =
    record {
      front = at.front;
      rest = at.rest;
      tokens = tokens;
      parts = at.parts;
      read = at.read;
      stands = subst (λ o. Stands numbers o code at.rest) at.operand_is (subst (λ w. Stands numbers operand code w)
          (rest_is numbers script start place operand tokens at) stands);
      placed = same ∙ at.place_is;
    }

-- ---- the token that the step makes

abbrev token_with : TokenKind → Text → ℕ → Place → Place → Token
token_with kind text start place end = record { kind = kind; text = text; start = start; place = place; end = end }

token_same : (kind : TokenKind) (t t' : Text) (s s' : ℕ) (p p' e e' : Place) → t ≡ t' → s ≡ s' → p ≡ p' → e ≡ e'
    → token_with kind t s p e ≡ token_with kind t' s' p' e'
token_same kind t t' s s' p p' e e' a b c d =
    ap (λ x. token_with kind x s p e) a ∙ ap (λ x. token_with kind t' x p e) b ∙ ap (λ x. token_with kind t' s' x e) c
    ∙ ap (token_with kind t' s' p') d

-- the token that stands first lies within the text
pub first_within : (numbers : Numbers) (operand : Bool) (z : Text) (kind : TokenKind) (n : ℕ)
    → First numbers operand z kind n → n ≤ length z
first_within numbers operand z kind n first =
    let len = ap length first.parts in
    let text_len = first.len_is in
    omega (arith, length-append first.text first.rest)

pub next_made : (numbers : Numbers) (operand : Bool) (z : Text) (start : ℕ) (place end : Place) (kind : TokenKind)
    (n : ℕ) (text : Text)
    → First numbers operand z kind n → text ≡ text_of kind (take n z)
    → ((front : Text) → place ≡ place_after front → end ≡ place_after (front ++ take n z))
    → IsNext numbers operand z start place (token_with kind text start place end) n
next_made numbers operand z start place end kind n text first text_is end_is =
    let taken : take n z ≡ first.text = ap (λ k. take k z) first.len_is ∙ ap (take (length first.text)) first.parts
    ∙ take-append_seam first.text first.rest in
    record {
      text = first.text;
      rest = first.rest;
      parts = first.parts;
      len_is = first.len_is;
      moves = first.moves;
      first = first.first;
      token_is =
          λ front start_is place_is.
          token_same kind text (text_of kind first.text) start (length front) place (place_after front) end
          (place_after (front ++ first.text)) (text_is ∙ ap (text_of kind) taken) start_is place_is
          (end_is front place_is ∙ ap (λ w. place_after (front ++ w)) taken);
    }
