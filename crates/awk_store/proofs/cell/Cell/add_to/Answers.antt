use Rattle.std.proofs.lemmas.Int.{to_z-of_z}
use Rattle.std.proofs.Common.{ap, rules, w64}
use Rattle.awk_store.specs.declared.cell.Cell.TheVariants as cell
use Rattle.awk_store.proofs.cell.Cell.add_to.Goals as goal

pub returns-in-Array-clause-done : goal.returns-in-Array-clause-done
returns-in-Array-clause-done c = rw c.in-Array.is (λ t. let h = rw (to_z-of_z w64 c.args.by (search rules)) at
    (c.add_in.ensures.done t) in (h.0, h.1, h.2, h.3, (h.4.0, h.4.1, ap (λ a. cell.Array a) h.4.2)))
