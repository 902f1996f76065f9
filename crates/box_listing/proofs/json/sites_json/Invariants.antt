use Rattle.std.proofs.Common.{◌≡◌, ◌++◌, drop}
use Rattle.box_listing.specs.Json.{site_lines}
use Rattle.box_listing.proofs.json.sites_json.Given as goal

abbrev pub invariant-loop-site : goal.invariant-loop-site
invariant-loop-site l = site_lines l.sites ≡ l.lines.items ++ site_lines (drop l.site-index l.sites)
