-- What the outcome of a choice tells of its test.
use Rattle.std.proofs.Common.{◌≡◌, Bool, true, false, cond, ◌⊎◌, inl, inr, refl}

pub chosen : {A : Type 0} (t : Bool) (x y z : A) → cond t x y ≡ z → ((t ≡ true) × (x ≡ z)) ⊎ ((t ≡ false) × (y ≡ z))
chosen true x y z e = inl (refl, e)
chosen false x y z e = inr (refl, e)

-- the same under a function
pub chosen_in : {A B : Type 0} (f : A → B) (t : Bool) (x y : A) (z : B) → f (cond t x y) ≡ z → ((t ≡ true) × (f x ≡ z))
    ⊎ ((t ≡ false) × (f y ≡ z))
chosen_in f true x y z e = inl (refl, e)
chosen_in f false x y z e = inr (refl, e)
