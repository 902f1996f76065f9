use Rattle.std.proofs.Common.{◌≡◌, ◌∙◌, ap, refl, sym, [], ◌∷◌, ◌++◌, List, append_assoc}
use Rattle.box_listing.specs.declared.site.Site.{Site}
use Rattle.box_listing.specs.declared.site.Found.{Found}
use Rattle.box_listing.specs.declared.site.Found.TheVariants.{MainInput, At}
use Rattle.box_listing.specs.Listings.{placed}
use Rattle.box_listing.proofs.listing.push_placed.Goals as goal

placed-main : (xs : List Found) → placed (xs ++ MainInput ∷ []) ≡ placed xs
placed-main [] = refl
placed-main (MainInput ∷ xs) = placed-main xs
placed-main (At site ∷ xs) = ap (λ ys. site ∷ ys) (placed-main xs)

placed-at : (xs : List Found) (x : Site) → placed (xs ++ At x ∷ []) ≡ placed xs ++ x ∷ []
placed-at [] x = refl
placed-at (MainInput ∷ xs) x = placed-at xs x
placed-at (At site ∷ xs) x = ap (λ ys. site ∷ ys) (placed-at xs x)

one_more : (old mid new : List Site) (xs : List Found) (x : Site) → mid ≡ old ++ placed xs → new ≡ mid ++ x ∷ []
    → new ≡ old ++ placed (xs ++ At x ∷ [])
one_more old mid new xs x e f = f ∙ ap (λ z. z ++ x ∷ []) e ∙ append_assoc old (placed xs) (x ∷ []) ∙ ap (λ z. old ++ z)
    (sym (placed-at xs x))

pub loop-x-preserved-in-MainInput : goal.loop-x-preserved-in-MainInput
loop-x-preserved-in-MainInput c = rw (c.in-MainInput.is, placed-main) c.loop-x.invariant

pub loop-x-preserved : goal.loop-x-preserved
loop-x-preserved c = rw c.in-At.is (one_more c.args.sites.now.items _ _ c.loop-x.yielded _ c.loop-x.invariant
    c.in_ok-push-in-At.ensures.items)
