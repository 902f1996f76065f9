use Rattle.std.proofs.Common.{Some, refl, sym, ap, ◌∙◌}
use Rattle.std.specs.Fmt.{decimal}
use Rattle.awk_lib.proofs.Keeping.{found_dense, missing_dense}
use Rattle.awk_lib.proofs.Rows.{none_of, some_of}
use Rattle.awk_lib.proofs.elements.Elements.find_number.Goals as goal

pub returns-then-is_filled-clause-some : goal.returns-then-is_filled-clause-some
returns-then-is_filled-clause-some g c =
    let at = c.is_filled.ensures in
    let x = some_of at.0 (sym at.2 ∙ c.if-is_filled.true) in
    found_dense c.args.self.now (decimal c.args.number) c.args.number x.0 refl (at.1 ∙ ap Some x.1)

pub returns-else-is_filled-clause-none : goal.returns-else-is_filled-clause-none
returns-else-is_filled-clause-none g c =
    let at = c.is_filled.ensures in
    λ _. missing_dense c.args.self.now (decimal c.args.number) c.args.number c.requires refl
    (at.1 ∙ ap Some (none_of at.0 (sym at.2 ∙ c.if-is_filled.false)))
