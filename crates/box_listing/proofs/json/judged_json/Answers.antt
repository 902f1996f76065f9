use Rattle.std.proofs.Common.{◌∙◌, ◌++◌, [], ap, arith}
use Rattle.box_listing.specs.Json.{judged_line}
use Rattle.box_listing.proofs.Texts.{next_line, all_lines}
use Rattle.box_listing.proofs.json.judged_json.Goals as goal

pub loop-site-preserved : goal.loop-site-preserved
loop-site-preserved c =
    next_line (judged_line c.args.policy.now) [] c.loop-site.lines.items _ c.args.sites.now c.loop-site.site-index
    c.site-item.result (omega arith) c.site-item.is
    (c.in_ok-extend_from_slice.ensures.items ∙ ap (λ z. c.loop-site.lines.items ++ z) (c.as_bytes.ensures.value
    ∙ c.as_str.ensures.value ∙ c.in_ok-line.ensures)) c.loop-site.invariant

pub returns : goal.returns
returns c = all_lines (judged_line c.args.policy.now) [] _ c.args.sites.now c.loop-site.site-index
    (omega arith) c.loop-site.invariant
