use Rattle.std.proofs.Common.{◌≡◌, ◌++◌, ◌-◌, length, replicate, ◌∙◌}
use Rattle.awk_numbers.proofs.Closest.{zeros_of}
use Rattle.awk_numbers.proofs.fixed.padded.Goals as goal

pub returns : goal.returns
returns c =
    let own = c.args.own.now in
    let zeros : c.resize.new.self.items ≡ replicate (c.args.least - length own) 48 =
    c.in_ok-resize.ensures.items ∙ zeros_of c.new-all.result.items c.saturating_sub.result _ c.new-all.ensures.items
    c.new-all.ensures.len
    ∙ (λ i. replicate (c.saturating_sub.ensures i) 48) in
    c.in_ok-extend_from_slice.ensures.items ∙ (λ i. zeros i ++ own)
