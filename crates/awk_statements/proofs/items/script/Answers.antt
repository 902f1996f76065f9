use Rattle.std.proofs.Common.{[], map, subst}
use Rattle.awk_tree.specs.Input.{Reads}
use Rattle.awk_tree.specs.View.{view_item}
use Rattle.awk_tree.specs.Statements.{script}
use Rattle.awk_statements.proofs.Whole.{reads_whole}
use Rattle.awk_statements.proofs.items.script.Goals as goal

pub returns : goal.returns
returns c =
    let whole = reads_whole (map view_item) (script c.new.result) c.items.result _ c.items.ensures.reads
    c.items.ensures.done in
    subst (λ ts. Reads (map view_item) (script ts) c.items.result []) c.new.ensures whole
