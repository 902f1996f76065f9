use Rattle.std.proofs.Common.{map, refl}
use Rattle.awk_program.specs.View.{view_by, view_rule, view_statement}
use Rattle.box_listing.specs.Sites as spec
use Rattle.box_listing.specs.Walks.{left}
use Rattle.box_listing.proofs.Finding.{then}
use Rattle.box_listing.proofs.program.parts.Goals as goal

pub returns : goal.returns
returns c =
    then _ _ _ _ (λ n. spec.records (map (view_rule n) c.as_slice.result.now)
    (map (map (view_statement n)) c.as_slice-2.result.now))
    (λ n. left c.args.order.now (record { begin = 0; rules = 0; end = 0; functions = 0 }) n c.args.program.now)
    (λ n. spec.found c.args.order.now (view_by n c.args.program.now))
    c.in_ok-records.ensures c.in_turn.ensures (λ n. rw (c.as_slice.ensures, c.as_slice-2.ensures) refl)
