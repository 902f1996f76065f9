-- The matches that a search found, as the machine asks for them.
use Rattle.std.proofs.Common.{◌≡◌, ℕ, ◌≤◌, Bool, ℤ, pos, List, ◌∷◌, length, Some, Ok, sym, ap, ap₂, subst, ◌∙◌}
use Rattle.awk_text.specs.Limits.{most_bytes}
use Rattle.awk_lib.specs.Replacing.{replaced, IsReplaced}
use Rattle.awk_format.specs.Directives.{◌>>=◌}
use Rattle.awk_builtins.specs.Searches.{substituted}
use Rattle.awk_store.proofs.Limited.{limited_ok}

-- what was replaced is what the machine makes of the matches
pub is_substituted : (source new old : List ℕ) (all : Bool) (m : ℕ × ℕ) (ms : List (ℕ × ℕ)) (text : List ℕ) (count : ℤ)
    → IsReplaced source new old all (m ∷ ms) text count → length text ≤ most_bytes → substituted new old (m ∷ ms)
    ≡ Ok (Some (text, count))
is_substituted source new old all m ms text count r fits =
    let whole = replaced new old 0 (m ∷ ms) in
    let short : length whole ≤ most_bytes = subst (λ t. length t ≤ most_bytes) r.text_is fits in
    ap (λ made. made >>= λ t. Ok (Some (t, pos (length (m ∷ ms))))) (limited_ok whole short)
    ∙ ap₂ (λ t n. Ok (Some (t, n))) (sym r.text_is) (sym r.count_is)
