-- The octal digits of an escape.
use Rattle.std.proofs.Common.{◌≡◌, ℕ, min, List, length, take, refl, sym, ap, ◌∙◌, arith}
use Rattle.std.proofs.lemmas.List.{take_min}
use Rattle.std.specs.List.{prefix_len}
use Rattle.awk_text.specs.Escapes.{is_octal, octal_digits}

pub octal_digits_is : (text : List ℕ) (most i : ℕ) → most ≡ min (length text) 3 → prefix_len is_octal (take most text)
    ≡ i → octal_digits text ≡ take i (take most text)
octal_digits_is text most i e h =
    let swapped : min 3 (length text) ≡ most = omega arith in
    let same : take 3 text ≡ take most text = sym (take_min 3 text) ∙ ap (λ n. take n text) swapped in
    rw same (rw h refl)
