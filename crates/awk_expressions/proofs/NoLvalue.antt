-- What is no lvalue.
use Rattle.std.proofs.Common.{◌≡◌, false, List, ap, sym, ◌∙◌}
use Rattle.awk_text.specs.declared.place.Place.{Place}
use Rattle.awk_tree.specs.declared.names.Name.{Name}
use Rattle.awk_tree.specs.declared.expressions.Expr.{Expr}
use Rattle.awk_tree.specs.declared.expressions.Expr.TheFolds.{fold-roll-Expr, map-Expr}
use Rattle.awk_tree.specs.declared.expressions.Expr.TheOpen.{Expr-F}
use Rattle.awk_tree.specs.declared.expressions.Expr.TheVariants as e
use Rattle.awk_tree.specs.declared.expressions.Expr.TheViews.{out-Expr, roll-Expr, roll-out-Expr}
use Rattle.awk_tree.specs.Looks.{is_lvalue}
use Rattle.awk_tree.specs.Tree.{Tree}
use Rattle.awk_tree.specs.View.{view, view_step}

opened : (d : Expr-F Expr) (x : Expr) → roll-Expr d ≡ x
    → is_lvalue (view x) ≡ is_lvalue (view_step (map-Expr Expr Tree view d))
unfolding view
opened d x rolls = ap is_lvalue (ap view (sym rolls) ∙ fold-roll-Expr Tree view_step d)

module _ (x : Expr) (no_name : (n : Name) → x ≡ e.Name n → ⊥)
    (no_element : (n : Name) (xs : List Expr) → x ≡ e.Element n xs → ⊥)
    (no_field : (p : Place) (y : Expr) → x ≡ e.Field p y → ⊥) where
  by_form : (d : Expr-F Expr) → roll-Expr d ≡ x → is_lvalue (view x) ≡ false
  by_form (Expr-F.Name n) rolls = absurd (no_name n (sym rolls ∙ e.rolls-Name n))
  by_form (Expr-F.Element n xs) rolls = absurd (no_element n xs (sym rolls ∙ e.rolls-Element n xs))
  by_form (Expr-F.Field p y) rolls = absurd (no_field p y (sym rolls ∙ e.rolls-Field p y))
  by_form (Expr-F.Number a b) rolls = opened (Expr-F.Number a b) x rolls
  by_form (Expr-F.Quoted a b) rolls = opened (Expr-F.Quoted a b) x rolls
  by_form (Expr-F.Pattern a b) rolls = opened (Expr-F.Pattern a b) x rolls
  by_form (Expr-F.Paren a b) rolls = opened (Expr-F.Paren a b) x rolls
  by_form (Expr-F.Call a b) rolls = opened (Expr-F.Call a b) x rolls
  by_form (Expr-F.Builtin a b c) rolls = opened (Expr-F.Builtin a b c) x rolls
  by_form (Expr-F.Length a) rolls = opened (Expr-F.Length a) x rolls
  by_form (Expr-F.Split a b c f) rolls = opened (Expr-F.Split a b c f) x rolls
  by_form (Expr-F.Substitute a b c f g) rolls = opened (Expr-F.Substitute a b c f g) x rolls
  by_form (Expr-F.Getline a b c) rolls = opened (Expr-F.Getline a b c) x rolls
  by_form (Expr-F.Before a b c) rolls = opened (Expr-F.Before a b c) x rolls
  by_form (Expr-F.After a b c) rolls = opened (Expr-F.After a b c) x rolls
  by_form (Expr-F.Signed a b c) rolls = opened (Expr-F.Signed a b c) x rolls
  by_form (Expr-F.Power a b c) rolls = opened (Expr-F.Power a b c) x rolls
  by_form (Expr-F.Product a b) rolls = opened (Expr-F.Product a b) x rolls
  by_form (Expr-F.Sum a b) rolls = opened (Expr-F.Sum a b) x rolls
  by_form (Expr-F.Concat a b) rolls = opened (Expr-F.Concat a b) x rolls
  by_form (Expr-F.Pipe a b) rolls = opened (Expr-F.Pipe a b) x rolls
  by_form (Expr-F.Compare a b c f) rolls = opened (Expr-F.Compare a b c f) x rolls
  by_form (Expr-F.Match a b c f) rolls = opened (Expr-F.Match a b c f) x rolls
  by_form (Expr-F.Group a b c) rolls = opened (Expr-F.Group a b c) x rolls
  by_form (Expr-F.In a b) rolls = opened (Expr-F.In a b) x rolls
  by_form (Expr-F.And a b) rolls = opened (Expr-F.And a b) x rolls
  by_form (Expr-F.Or a b) rolls = opened (Expr-F.Or a b) x rolls
  by_form (Expr-F.Choice a b c) rolls = opened (Expr-F.Choice a b c) x rolls
  by_form (Expr-F.Assign a b c f) rolls = opened (Expr-F.Assign a b c f) x rolls

  pub no_lvalue : is_lvalue (view x) ≡ false
  no_lvalue = by_form (out-Expr x) (roll-out-Expr x)
