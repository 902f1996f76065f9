use Rattle.std.proofs.Common.{◌≡◌, ◌++◌, drop}
use Rattle.box_listing.specs.Json.{judged_lines}
use Rattle.box_listing.proofs.json.judged_json.Given as goal

abbrev pub invariant-loop-site : goal.invariant-loop-site
invariant-loop-site l = judged_lines l.policy l.sites ≡ l.lines.items ++ judged_lines l.policy
    (drop l.site-index l.sites)
