use Rattle.std.proofs.Common.{map}
use Rattle.awk_resolve.specs.Kinds.{texts}
use Rattle.awk_tree.specs.View.{view_statement}
use Rattle.awk_lowering.specs.Made.{AreStatements}
use Rattle.awk_resolve.specs.TablesIn.{tables_in}
use Rattle.awk_lowering.specs.Programs as spec
use Rattle.awk_lowering.proofs.Adding.{in_scope}
use Rattle.awk_lowering.proofs.items.function.Goals as goal

pub returns : goal.returns
returns c =
    let n = tables_in c.args.tables.now in
    let f = c.args.f.now in
    let are = rw c.bytes.ensures at c.flags-flags.ensures in
    let ps = rw c.as_slice.ensures at c.in_ok-parameters.ensures in
    let scope = rw (ps, are) at c.within-context.ensures.scope in
    let body = in_scope (λ t s. AreStatements t c.action-body.result (spec.body s (map view_statement f.body))) _ _ _ _
    c.within-context.ensures.names scope (rw c.as_slice-2.ensures at c.action-body.ensures) in
    c.function_of.ensures c.args.tables.now.variables f.name.text (spec.flags n f.name.text)
    (spec.body (spec.scope_with c.args.numbers n (texts f.params) (spec.flags n f.name.text))
    (map view_statement f.body))
    c.copy.ensures (rw are at c.from_slice.ensures) body
