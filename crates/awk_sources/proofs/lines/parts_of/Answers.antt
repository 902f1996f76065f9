use Rattle.std.proofs.Common.{ap, ◌∙◌, arith}
use Rattle.awk_text.specs.Quoted.{quoted}
use Rattle.awk_sources.specs.Lines.{lines_of}
use Rattle.awk_sources.proofs.LineLemmas.{entry_pushed}
use Rattle.awk_sources.proofs.lines.parts_of.Goals as goal

pub loop-source-preserved : goal.loop-source-preserved
loop-source-preserved c =
    let at = c.loop-source in
    entry_pushed c.args.sources.now at.source-index c.source-item.result at.parts.items c.push.new.self.items
    (record { name = c.in_ok-quoted_name.field-0; lines = c.lines_of.result }) (omega arith) c.source-item.is
    at.invariant
    (c.in_ok-quoted_name.ensures ∙ ap quoted c.as_str.ensures.value)
    (c.lines_of.ensures ∙ ap lines_of c.as_slice.ensures.value) c.in_ok-push.ensures.items
