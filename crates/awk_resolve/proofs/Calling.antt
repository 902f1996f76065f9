-- Calls against a table that has the functions of the script.
use Rattle.std.proofs.Common.{inl, inr, ◌<◌, List, length, refl, None, Contains}
use Rattle.awk_text.specs.declared.place.Place.{Place}
use Rattle.awk_resolve.specs.Clash.{OneOf}
use Rattle.awk_resolve.specs.Faults.{Miscalled, undefined, too_many}
use Rattle.awk_resolve.specs.Search.{Counts, Finds, Knows, MiscallAt}
use Rattle.awk_resolve.specs.declared.mention.Mention.{Mention}
use Rattle.awk_resolve.specs.declared.mention.Mention.TheVariants.{Call}
use Rattle.awk_resolve.specs.declared.mention.Section.{Section}

module _ (ps : List Section) (known : Counts) (k : Knows ps known) where
  pub miscalled_here : (p : Section) (q : Place) → Contains ps p → OneOf (MiscallAt known) p.mentions q → Miscalled ps q
  miscalled_here p q c (m, d, call) = by m d call
    where
      by : (m : Mention) → Contains p.mentions m → MiscallAt known m q → Miscalled ps q
      by (Call f args) d (inl lacks, there) =
          rw (← there) (undefined p.role f args (p, c, refl, d)
          (λ g gs def same. lacks (length gs, (k f.text (length gs)).1 (g, gs, def, same, refl))))
      by (Call f args) d (inr (n, l, less), there) =
          let (g, gs, def, same, count) = (k f.text n).0 l in
          let fewer : length gs < length args = rw count less in
          rw (← there) (too_many p.role f g args gs (p, c, refl, d) def same fewer)
      by m d call = absurd call

  pub none_miscalled : ((p : Section) → Contains ps p → Finds (OneOf (MiscallAt known) p.mentions) None) → (q : Place)
      → Miscalled ps q → ⊥
  none_miscalled none q (undefined r f args (p, c, e, d) absent) =
      none p c f.place (
        Call f args,
        d,
        (
          inl (λ has. let (g, gs, def, same, count) = (k f.text has.0).0 has.1 in
              absent g gs def same),
          refl,
        ),
      )
  none_miscalled none q (too_many r f g args gs (p, c, e, d) def same less) =
      none p c f.place (
        Call f args,
        d,
        (
          inr (length gs, (k f.text (length gs)).1 (g, gs, def, same, refl), less),
          refl,
        ),
      )
