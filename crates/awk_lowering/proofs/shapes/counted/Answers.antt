use Rattle.std.proofs.Common.{◌≡◌, refl, sym, None}
use Rattle.awk_tree.specs.Tree.{Trees, trees_of}
use Rattle.awk_tree.specs.View.{view}
use Rattle.std.proofs.Common.{map}
use Rattle.awk_program.specs.declared.builtins.Builtin.{Builtin}
use Rattle.awk_program.specs.declared.builtins.Builtin.TheVariants as f
use Rattle.awk_lowering.specs.Lowered.{counted}
use Rattle.awk_lowering.specs.Made.{scope_in}
use Rattle.awk_lowering.specs.Scopes.{Scope}
use Rattle.awk_lowering.proofs.shapes.counted.Goals as goal

-- no other one counts
none_counted : (c : Scope) (which : Builtin) (xs : Trees) → ¬ (which ≡ f.Length) → counted c which xs ≡ None
none_counted c f.Length xs h = absurd (h refl)
none_counted c which xs h = refl

pub returns-in-Length : goal.returns-in-Length
returns-in-Length c = rw c.in-Length.is c.array_alone.ensures

pub returns-in_default : goal.returns-in_default
returns-in_default c = sym (none_counted (scope_in c.args.context.now) c.args.which (trees_of (map view c.args.xs.now))
    c.in_default.not-Length)
