use Rattle.std.proofs.Common.{◌≡◌, ◌++◌}
use Rattle.box_listing.specs.Listings as spec
use Rattle.box_listing.proofs.listing.push_placed.Given as goal

abbrev pub invariant-loop-x : goal.invariant-loop-x
invariant-loop-x l = l.sites.items ≡ l.initial.sites.items ++ spec.placed l.yielded
