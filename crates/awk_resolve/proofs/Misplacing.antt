-- Where a misplaced word stands, in one of the items.
use Rattle.std.proofs.Common.{inl, inr, List, refl, Contains, None}
use Rattle.awk_text.specs.declared.place.Place.{Place}
use Rattle.awk_resolve.specs.declared.mention.Mention.{Mention}
use Rattle.awk_resolve.specs.declared.mention.Mention.TheVariants.{Next, Return, Stray}
use Rattle.awk_resolve.specs.declared.mention.Section.{Section}
use Rattle.awk_resolve.specs.Clash.{OneOf}
use Rattle.awk_resolve.specs.Faults.{Misplaced, next_in_begin, next_in_end, return_outside, outside_loop}
use Rattle.awk_resolve.specs.Search.{Finds, WordAt}

pub misplaced_here : (ps : List Section) (p : Section) (q : Place) → Contains ps p → OneOf (WordAt p.role) p.mentions q
    → Misplaced ps q
misplaced_here ps p q c (m, d, word) = by m d word
  where
    by : (m : Mention) → Contains p.mentions m → WordAt p.role m q → Misplaced ps q
    by (Next place) d (inl e, at) = next_in_begin p q c e (rw (← at) d)
    by (Next place) d (inr e, at) = next_in_end p q c e (rw (← at) d)
    by (Return place) d (outside, at) = return_outside p q c (λ f fs e. outside (f, fs, e)) (rw (← at) d)
    by (Stray place) d at = outside_loop p q c (rw (← at) d)
    by m d word = absurd word

pub none_misplaced : (ps : List Section)
    → ((p : Section) → Contains ps p → Finds (OneOf (WordAt p.role) p.mentions) None) → (q : Place) → Misplaced ps q → ⊥
none_misplaced ps none q (next_in_begin p q' c e d) = none p c q (Next q, d, (inl e, refl))
none_misplaced ps none q (next_in_end p q' c e d) = none p c q (Next q, d, (inr e, refl))
none_misplaced ps none q (return_outside p q' c outside d) =
    none p c q (Return q, d, ((λ is. outside is.0 is.1 is.2), refl))
none_misplaced ps none q (outside_loop p q' c d) = none p c q (Stray q, d, refl)
