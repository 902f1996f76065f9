use Rattle.std.proofs.Common.{◌≡◌, ◌<◌, ◌≤◌, ◌∙◌, List, [], ◌∷◌, map, length, get_or, ap, refl, sym, arith}
use Rattle.std.specs.Prelude.{Option, None}
use Rattle.awk_program.specs.Program.{expressions_of}
use Rattle.awk_program.specs.Slots.{Text}
use Rattle.awk_program.specs.View.{Names, view}
use Rattle.awk_program.specs.declared.expressions.Expr.{Expr}
use Rattle.box_listing.specs.Sites.{constant, first_constant}
use Rattle.box_listing.proofs.expressions.first_constant.Goals as goal

none_first : (t : Names) (xs : List Expr) → length xs < 1 → first_constant (expressions_of (map (view t) xs)) ≡ None
none_first t [] h = refl
none_first t (x ∷ xs) h = absurd (omega (arith, h))

some_first : (t : Names) (xs : List Expr) (d : Expr) → 1 ≤ length xs → d ≡ get_or xs 0 d
    → first_constant (expressions_of (map (view t) xs)) ≡ constant (view t d)
some_first t [] d h e = absurd (omega (arith, h))
some_first t (x ∷ xs) d h e = ap (λ y. constant (view t y)) (sym e)

pub returns-in-empty : goal.returns-in-empty
returns-in-empty c = λ t. sym (none_first t c.args.xs.now c.in-empty.len_below)

pub returns-in-len1-up : goal.returns-in-len1-up
returns-in-len1-up c = λ t. c.constant.ensures t
    ∙ sym (some_first t c.args.xs.now c.x-item.result c.in-len1-up.len_at_least c.x-item.is)
