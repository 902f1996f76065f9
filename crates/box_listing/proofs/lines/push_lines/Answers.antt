use Rattle.std.proofs.Common.{◌∙◌, ◌++◌, ap, refl, arith}
use Rattle.box_listing.specs.Lines.{line_of}
use Rattle.box_listing.proofs.Texts.{next_line, all_lines}
use Rattle.box_listing.proofs.lines.push_lines.Goals as goal

pub loop-site-init : goal.loop-site-init
loop-site-init c = refl

pub loop-site-preserved : goal.loop-site-preserved
loop-site-preserved c =
    next_line line_of _ c.loop-site.out.items _ c.args.sites.now c.loop-site.site-index c.site-item.result
    (omega arith) c.site-item.is
    (c.in_ok-extend_from_slice.ensures.items ∙ ap (λ z. c.loop-site.out.items ++ z) (c.as_slice.ensures.value
    ∙ c.in_ok-line.ensures)) c.loop-site.invariant

pub returns : goal.returns
returns c = all_lines line_of _ _ c.args.sites.now c.loop-site.site-index (omega arith) c.loop-site.invariant
