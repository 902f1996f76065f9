use Rattle.std.proofs.Common.{◌≡◌, ◌<◌, ℕ, ◌⊎◌, inl, inr, arith, refl}
use Rattle.box_os.proofs.OsRising.{below-is_new}
use Rattle.box_os.proofs.os_world.OsWorld.next.Goals as goal

below : (n : ℕ) → (n ≡ 1) ⊎ (n ≡ 2) → n < 3
below n (inl one) = omega (arith, one)
below n (inr two) = omega (arith, two)

-- the numbers that are open begin at 3, so 1 and 2 are none of them
pub returns-in_default-clause-outputs : goal.returns-in_default-clause-outputs
returns-in_default-clause-outputs c output =
    rw (c.next_of.ensures.absent (below-is_new 3 _ _ _ (below _ output) c.self.invariant)) refl
