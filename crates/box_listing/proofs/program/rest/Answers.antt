use Rattle.std.proofs.Common.{◌++◌, drop, map, [], refl, append_assoc}
use Rattle.awk_program.specs.View.{view_rule, view_statement, view_function}
use Rattle.box_listing.specs.Sites as spec
use Rattle.box_listing.specs.Walks.{left}
use Rattle.box_listing.proofs.Finding.{after, then}
use Rattle.box_listing.proofs.program.rest.Goals as goal

pub returns : goal.returns
returns c =
    let some = after _ _ _ _ _ c.in_ok-blocks_from.ensures c.in_ok-rules_from.ensures in
    let more = after _ _ _ _ _ some c.in_ok-blocks_from-2.ensures in
    then _ _ _ _
    (λ n. (spec.actions (map (map (view_statement n)) (drop c.args.at.begin c.as_slice.result.now))
    ++ spec.rules (map (view_rule n) (drop c.args.at.rules c.as_slice-2.result.now)))
    ++ spec.actions (map (map (view_statement n)) (drop c.args.at.end c.as_slice-3.result.now)))
    (λ n. spec.functions (map (view_function n) (drop c.args.at.functions c.as_slice-4.result.now)))
    (λ n. left [] c.args.at n c.args.program.now) more c.functions_from.ensures
    (λ n. rw (
      append_assoc,
      append_assoc,
      c.as_slice.ensures,
      c.as_slice-2.ensures,
      c.as_slice-3.ensures,
      c.as_slice-4.ensures,
    ) refl)
