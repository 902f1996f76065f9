use Rattle.std.proofs.Common.{None, [], ◌∷◌, ◌+◌, ◌++◌, ◌∙◌, sym, ap, subst, arith}
use Rattle.awk_lib.proofs.Parts.{Filling, begins, ends, goes_on}
use Rattle.awk_lib.proofs.filling.elements_of.Goals as goal

pub loop-part-init : goal.loop-part-init
loop-part-init c = begins c.push.new.self.items (c.in_ok-push.ensures.items
    ∙ ap (λ l. l ++ None ∷ []) c.clear.ensures.items)

pub loop-part-preserved : goal.loop-part-preserved
loop-part-preserved c =
    subst (λ ps. Filling ps (c.loop-part.yielded ++ c.in-Some.part ∷ []) (c.loop-part.number + 1))
    (sym c.in_ok-push-2.ensures.items)
    (goes_on c.loop-part.places.items c.loop-part.yielded c.loop-part.number c.in-Some.part c.loop-part.invariant
    (omega (arith, c.loop-part.invariant.size, c.loop-part.places.ok)))
