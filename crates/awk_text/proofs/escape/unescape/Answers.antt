use Rattle.std.proofs.Common.{arith, ◌≡◌, refl, ◌∷◌, drop, ℕ, zero, suc, List, []}
use Rattle.awk_text.specs.Escapes.{unescaped, unescaped_after}
use Rattle.std.proofs.lemmas.Grind.{common_steps}
use Rattle.awk_text.proofs.escape.unescape.Goals as goal

-- what an escape has taken is left out
after_drop : (n : ℕ) (xs : List ℕ) → unescaped_after n xs ≡ unescaped (drop n xs)
after_drop zero [] = refl
after_drop zero (x ∷ xs) = refl
after_drop (suc n) [] = refl
after_drop (suc n) (x ∷ xs) = after_drop n xs

pub loop-rest-preserved-then-b-eq92 : goal.loop-rest-preserved-then-b-eq92
loop-rest-preserved-then-b-eq92 c = grind (arith, common_steps, after_drop)
