use Rattle.std.proofs.Common.{List, Option, Some, None, IfSome, IfNone}
use Rattle.awk_text.specs.declared.place.Place.{Place}
use Rattle.awk_resolve.specs.Faults.{Misdefined, Redefined, Misnamed, Miscalled, redefined, misnamed, miscalled}
use Rattle.awk_resolve.specs.Search.{Finds}
use Rattle.awk_resolve.specs.declared.mention.Section.{Section}
use Rattle.awk_resolve.proofs.faults.misdefined_by.Goals as goal

stands : (ps : List Section) (o : Option Place) → Finds (Miscalled ps) o → IfSome o (λ place. Misdefined ps place)
stands ps None none = tt
stands ps (Some place) call = miscalled place call

none_stands : (ps : List Section) (o : Option Place) → Finds (Redefined ps) None → Finds (Misnamed ps) None
    → Finds (Miscalled ps) o → IfNone o ((place : Place) → Misdefined ps place → ⊥)
none_stands ps (Some place) once named called = tt
none_stands ps None once named called = by
  where
    by : (place : Place) → Misdefined ps place → ⊥
    by place (redefined q fault) = once place fault
    by place (misnamed q fault) = named place fault
    by place (miscalled q fault) = called place fault

pub first_misnamed-requires : goal.first_misnamed-requires
first_misnamed-requires c = rw c.in_default.is at c.in_ok-place.ensures.whole

pub first_miscalled-requires : goal.first_miscalled-requires
first_miscalled-requires c = rw c.in_default.is at c.in_ok-place.ensures.whole

pub returns-in-Some-clause-stands : goal.returns-in-Some-clause-stands
returns-in-Some-clause-stands c = redefined c.in-Some.place (rw c.in-Some.is at c.in_ok-place.ensures.place)

pub returns-in-Some-2-clause-stands : goal.returns-in-Some-2-clause-stands
returns-in-Some-2-clause-stands c = misnamed c.in-Some-2.place (rw c.in-Some-2.is at c.in_ok-place-2.ensures)

pub returns-clause-stands : goal.returns-clause-stands
returns-clause-stands c = stands c.args.parts.now c.first_miscalled.result c.first_miscalled.ensures

pub returns-clause-none : goal.returns-clause-none
returns-clause-none c =
    none_stands c.args.parts.now c.first_miscalled.result (rw c.in_default.is at c.in_ok-place.ensures.place)
    (rw c.in_default-2.is at c.in_ok-place-2.ensures) c.first_miscalled.ensures
