-- Texts of bytes.
use Rattle.std.proofs.Common.{◌≡◌, ℕ, List, sym}
use Rattle.std.specs.Prelude.{Result, Ok, Err, MatchResult, is_ok, IsUtf8}
use Rattle.std.specs.Str.{is_utf8}
use Rattle.std.proofs.lemmas.Str.{IsUtf8-from_is_utf8, is_utf8-from_IsUtf8}
use Rattle.std.proofs.lemmas.Bool.{false_from_ne_true}

-- what a read of UTF-8 answers is the test
pub is_ok-is_utf8 : {S E : Type 0} (A : S → Type 0) (B : E → Type 0) (r : Result S E) (bytes : List ℕ)
    → MatchResult r (λ s. A s × IsUtf8 bytes) (λ e. ¬ (IsUtf8 bytes) × B e) → is_ok r ≡ is_utf8 bytes
is_ok-is_utf8 A B (Ok s) bytes h = sym (is_utf8-from_IsUtf8 bytes h.1)
is_ok-is_utf8 A B (Err e) bytes h = sym (false_from_ne_true (is_utf8 bytes) (λ t. h.0 (IsUtf8-from_is_utf8 bytes t)))
