use Rattle.std.proofs.Common.{◌≡◌, [], ap, map, refl, sym}
use Rattle.awk_text.specs.declared.place.Place.{Place}
use Rattle.awk_program.specs.Program.{Expressions, expressions_of}
use Rattle.awk_program.specs.View.{view}
use Rattle.awk_program.specs.declared.builtins.Builtin.{Builtin}
use Rattle.awk_program.specs.declared.builtins.Builtin.TheVariants as b
use Rattle.box_policy.specs.declared.policy.Kind.TheVariants as kind
use Rattle.box_listing.specs.Sites as spec
use Rattle.box_listing.proofs.Finding.{nothing, told}
use Rattle.box_listing.proofs.expressions.asked.Goals as goal

-- no other one asks
none_asked : (q : Place) (which : Builtin) (xs : Expressions) → ¬ (which ≡ b.System) → spec.asked q which xs ≡ []
none_asked q b.System xs h = absurd (h refl)
none_asked q which xs h = refl

pub returns-in-System : goal.returns-in-System
returns-in-System c =
    rw c.in-System.is (told _ _ _ _ (λ n. spec.site c.args.place kind.Run
    (spec.first_constant (expressions_of (map (view n) c.args.xs.now)))) c.site.ensures
    (λ n. ap (spec.site c.args.place kind.Run) (c.first_constant.ensures n)))

pub returns-in_default : goal.returns-in_default
returns-in_default c =
    nothing _ (λ n. spec.asked c.args.place c.args.which (expressions_of (map (view n) c.args.xs.now)))
    (λ n. none_asked c.args.place c.args.which (expressions_of (map (view n) c.args.xs.now)) c.in_default.not-System)
