use Rattle.std.proofs.Common.{◌≡◌, ◌≤◌, ◌<◌, ◌+◌, ◌*◌, ◌/◌, arith, rules}
use Rattle.box_policy.specs.NamesLeft.{names_left}
use Rattle.box_policy.specs.Paths.{names}
use Rattle.box_policy.proofs.WalksLemmas.{names_found, zeros_taken, length_blank}
use Rattle.box_policy.proofs.WidthLemmas.{width-names}
use Rattle.box_policy.proofs.matching.names_fit_in.Goals as goal

pub whole_as_slice-put_path : goal.whole_as_slice-put_path
whole_as_slice-put_path g c = omega (arith, c.requires.few)

pub put_path-last-requires : goal.put_path-last-requires
put_path-last-requires g c = omega (arith, c.requires.room, width-names c.args.pattern.now, length_blank g.row.N)

pub shared_whole_as_front-names_lead : goal.shared_whole_as_front-names_lead
shared_whole_as_front-names_lead g c = (
  omega (arith, c.requires.room, c.put_path-last.ensures.small, width-names c.args.pattern.now),
  omega (arith, c.requires.few),
)

pub whole_as_front-names_lead : goal.whole_as_front-names_lead
whole_as_front-names_lead g c = (
  omega (arith, c.requires.room, c.put_path-last.ensures.small, width-names c.args.pattern.now),
  omega (arith, c.requires.few),
)

pub names_lead-requires-clause-blank : goal.names_lead-requires-clause-blank
names_lead-requires-clause-blank g c = zeros_taken (c.put_path-last.result / 64 + 1) g.row.N
    (omega (arith, c.requires.room, c.put_path-last.ensures.small, width-names c.args.pattern.now))

pub returns : goal.returns
returns g c =
    names_found (names c.args.pattern.now) (names_left c.args.subject) g.row.N (c.put_path-last.result / 64 + 1)
    c.put_path-last.result c.put_path-last.new.blocks c.names_lead.result
    c.put_path-last.ensures.holds (omega arith) c.names_lead.ensures
