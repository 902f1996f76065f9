use Rattle.std.proofs.Common.{drop}
use Rattle.awk_fields.specs.Fields.{is_blank}
use Rattle.awk_fields.proofs.Edges.{changes_number}
use Rattle.awk_fields.proofs.words.block_edges.Goals as goal

pub returns : goal.returns
returns c = changes_number is_blank c.args.after_blank (drop c.args.from c.args.text.now) c.in_block-blanks.result
    c.in_block-blanks.ensures
