use Rattle.std.proofs.Common.{◌≡◌, ◌-◌, ℕ, List, length, IfSome}
use Rattle.awk_fields.specs.Spans.{AreSpans}
use Rattle.awk_fields.specs.Seeking.{IsAhead, IsNextSeparator}
use Rattle.awk_fields.proofs.Seeks.{SoughtTo}
use Rattle.awk_fields.proofs.spans.ere_spans.Given as goal

abbrev pub invariant-loop-next : goal.invariant-loop-next
invariant-loop-next l = record {
  next : IsNextSeparator l.pattern l.newline l.text l.start l.next;
  ahead : IfSome l.next (λ m. IsAhead l.pattern l.text m.1 l.ahead);
  parts : (parts : List (List ℕ)) × SoughtTo l.pattern l.newline l.text l.start parts
      × AreSpans l.text l.spans.items parts;
  same : l.searches ≡ (l.pattern, l.text);
}

abbrev pub decreases-loop-next : goal.decreases-loop-next
decreases-loop-next l = length l.text - l.start
