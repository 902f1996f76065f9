use Rattle.std.proofs.Common.{sym, ◌∙◌, subst, arith}
use Rattle.std.proofs.lemmas.Bool.{eqb-true}
use Rattle.awk_ere.specs.Search.{IsBlank}
use Rattle.awk_ere.proofs.Advance.{listed_blank}
use Rattle.awk_ere.proofs.search.Starts.is_blank.Goals as goal

pub returns : goal.returns
returns c = λ e.
    let none = eqb-true _ _ (sym c.is_empty.ensures ∙ e) in
    subst IsBlank c.self.view_is (listed_blank _ _ (omega (arith, none, c.self.inside.active.ok)) c.self.invariant)
