use Rattle.std.proofs.Common.{◌≡◌, sym, subst}
use Rattle.std.proofs.Math.ListN.{replicate, length-replicate}
use Rattle.awk_ere.specs.Search.{IsBlank}
use Rattle.awk_ere.specs.declared.search.TheConstants.{NONE}
use Rattle.awk_ere.proofs.Advance.{listed_none}
use Rattle.awk_ere.proofs.Searching.{blank_replicate}
use Rattle.awk_ere.proofs.search.Starts.new.Goals as goal

pub invariant_of-result : goal.invariant_of-result
invariant_of-result c =
    let a : c.in_ok-starts.starts.items ≡ replicate c.args.len NONE = c.in_ok-starts.ensures.items_if_clones_equal
    (λ y h. h) in
    rw (a, c.new.ensures.items) (listed_none _ (blank_replicate _))

pub returns-clause-len : goal.returns-clause-len
returns-clause-len c =
    let a : c.in_ok-starts.starts.items ≡ replicate c.args.len NONE = c.in_ok-starts.ensures.items_if_clones_equal
    (λ y h. h) in
    rw a (length-replicate _ _)

pub returns-clause-blank : goal.returns-clause-blank
returns-clause-blank c =
    let a : c.in_ok-starts.starts.items ≡ replicate c.args.len NONE = c.in_ok-starts.ensures.items_if_clones_equal
    (λ y h. h) in
    subst IsBlank (sym a) (blank_replicate _)
