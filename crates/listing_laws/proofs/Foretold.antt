-- What listings and verdicts say of the runs of a script, by the laws on the sites of a program.
use Rattle.std.proofs.Common.{◌≡◌, ◌∙◌, ℕ, Bool, false, List, [], Option, map, refl, sym, subst}
use Rattle.std.specs.Prelude.{Some, None, Contains, IsSome}
use Rattle.awk_machine.specs.State.{Given}
use Rattle.awk_parse.specs.Scripts.{IsScriptOf, tree}
use Rattle.awk_parse.specs.declared.script.Script.{Script}
use Rattle.awk_program.specs.View.{view_program}
use Rattle.awk_text.specs.declared.place.Place.{Place}
use Rattle.awk_tree.specs.Tree.{Entry}
use Rattle.box_listing.specs.Listings.{IsListing}
use Rattle.box_listing.specs.Scripts.{sort_of, IsListingOf}
use Rattle.box_listing.specs.Verdicts.{verdict}
use Rattle.box_listing.specs.declared.site.Site.{Site}
use Rattle.box_listing.specs.declared.verdict.Verdict.TheVariants.{Clean, Refused}
use Rattle.box_monitor.specs.Denials.{denial_at}
use Rattle.box_monitor.specs.Passed.{after_events, subject_of_wish}
use Rattle.box_monitor.specs.Subjects.{Subject}
use Rattle.box_policy.specs.Rulebook.{Rulebook}
use Rattle.box_world.specs.Events.{Event}
use Rattle.listing_laws.specs.Covers.{Covers, IsText}
use Rattle.listing_laws.specs.Foretold.{IsOf, ScriptCovered, ScriptAllowed, CoversAt, IsRefusedSite, ScriptDenied}
use Rattle.listing_laws.proofs.Coverage.{all_covered}
use Rattle.listing_laws.proofs.Refusals.{none_denied, refused_denied}

-- the listing of a script is that of each of its runs
listing_of : (items : List Entry) (s : Script) (sites : List Site) (g : Given) → IsScriptOf items s → IsOf s g →
    IsListingOf s items sites →
    IsListing g.program (map sort_of (tree s)) g.names_environ sites
listing_of items s sites g is of listing =
    subst (λ p. IsListing p (map sort_of (tree s)) g.names_environ sites) (sym of.program)
    (subst (λ b. IsListing (view_program s.program) (map sort_of (tree s)) b sites) (sym (of.environ ∙ is.environ))
    listing)

pub script_covered : ScriptCovered
script_covered items s sites is listing g events o used last of plays =
    all_covered g (map sort_of (tree s)) sites events o used last (listing_of items s sites g is of listing) plays

pub script_allowed : ScriptAllowed
script_allowed items s book is judged g events o used last of plays =
    none_denied g (map sort_of (tree s)) book judged.sites events o used last
    (listing_of items s judged.sites g is of judged.listing) (sym judged.is) plays

-- ---- the sites that are refused

own_text : Option (List ℕ) → List ℕ
own_text None = []
own_text (Some text) = text

own_is : (o : Option (List ℕ)) → IsText o (own_text o)
unfolding own_text
own_is None = tt
own_is (Some text) = refl

-- what the site covers at its own place
own_subject : Site → Subject
own_subject site = record { kind = site.kind; text = own_text site.text }

covers_own : (site : Site) → Covers site site.place (own_subject site)
unfolding own_subject
covers_own site = record { same_place = refl; same_kind = refl; same_text = own_is site.text }

module _ (book : Rulebook) (sites refused : List Site) (site : Site) (is : verdict book sites ≡ Refused refused)
    (c : Contains refused site) where
  denied_at : (events : List Event) (place : Place) (given : Bool) (o : Option Subject) → CoversAt site place o →
      given ≡ false → IsSome (denial_at (after_events book events) place given o)
  denied_at events place given None covers e = absurd covers
  denied_at events place given (Some subject) covers e =
      subst (λ b. IsSome (denial_at (after_events book events) place b (Some subject))) (sym e)
      (refused_denied book sites refused site events place subject is c covers).1

  refused_site : IsRefusedSite book site
  refused_site = (
    (refused_denied book sites refused site [] site.place (own_subject site) is c (covers_own site)).0,
    λ events w covers e. denied_at events w.place w.given (subject_of_wish w.wish) covers e,
  )

pub script_denied : ScriptDenied
script_denied items s book refused site judged c = refused_site book judged.sites refused site (sym judged.is) c
