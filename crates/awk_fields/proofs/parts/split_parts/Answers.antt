use Rattle.awk_fields.proofs.RowLemmas.{kept_by_split}
use Rattle.awk_fields.proofs.parts.split_parts.Goals as goal

pub returns-clause-kept : goal.returns-clause-kept
returns-clause-kept c =
    let text = c.args.text.now in
    let found = c.in_ok-parts.field-0.items in
    let fields = c.in_ok-parts.ensures in
    kept_by_split text c.args.parts.now.state _ _ c.in-Unsplit.splitter fields.0 found c.in-Unsplit.is fields.1 fields.2
