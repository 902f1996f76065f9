-- No run shuts a standard stream: so it is of each move, whatever is listed.
use Rattle.std.proofs.Common.{◌≡◌, Bool, true, List, [], ◌∷◌, Option}
use Rattle.awk_machine.specs.State.{Given}
use Rattle.awk_text.specs.declared.place.Place.{Place}
use Rattle.box_listing.specs.Sites as s
use Rattle.box_listing.specs.declared.site.Found.{Found}
use Rattle.box_listing.specs.declared.site.Found.TheVariants as found
use Rattle.box_world.specs.Events.{Standard, Named, Wish, Opens, Reads, Writes, Shuts, Runs, Looks, Assigns, Event}
use Rattle.listing_laws.specs.Standards.{IsKept, AllKept, StandardsKept}
use Rattle.listing_laws.proofs.Standing.{Listed, Sub, WantedBy, Whole}
use Rattle.listing_laws.proofs.Coverage.{AllWanted, all_wanted}

-- every site is listed
abbrev Every : Listed
Every site = Unit {0}

each : (xs : List Found) → Sub Every xs
each [] = tt
each (found.MainInput ∷ xs) = ((tt, tt), each xs)
each (found.At site ∷ xs) = (tt, each xs)

whole : (g : Given) → Whole Every g
whole g = record {
  records = each (s.records g.program.rules g.program.end);
  begin = each (s.actions g.program.begin);
  rules = each (s.rules g.program.rules);
  end = each (s.actions g.program.end);
  functions = each (s.functions g.program.functions);
  environ = λ e. tt;
}

kept : (place : Place) (given : Bool) (wish : Wish) → WantedBy Every place given wish → IsKept wish
kept place given (Opens mode class text) h = tt
kept place given (Reads key) h = tt
kept place given (Writes key bytes) h = tt
kept place given (Shuts (Standard n)) h = h
kept place given (Shuts (Named class text)) h = tt
kept place given (Runs command) h = tt
kept place given (Looks name) h = tt
kept place given (Assigns name text) h = tt

all_kept : (es : List Event) → AllWanted Every es → AllKept es
all_kept [] h = tt
all_kept (e ∷ es) h = (kept e.want.place e.want.given e.want.wish h.0, all_kept es h.1)

pub standards_kept : StandardsKept
standards_kept g events o used last x = all_kept events (all_wanted Every g events o used last (whole g) x)
