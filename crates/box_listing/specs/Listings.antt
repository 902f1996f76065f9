-- The listing of a program: its sites in order of place, then of kind, and then as the program has them.
use Rattle.std.specs.Prelude.{ℕ, Bool, true, false, List, [], ◌∷◌, ◌++◌, None}
use Rattle.std.specs.List.{list_any}
use Rattle.std.specs.List.Sorted.{IsPermutation, IsSorted, IsStable}
use Rattle.std.specs.declared.cmp.Ordering.{Ordering}
use Rattle.std.specs.Ordering.{nat_cmp, ordering_then}
use Rattle.awk_program.specs.Program.{Program}
use Rattle.box_policy.specs.declared.policy.Kind.{Kind}
use Rattle.box_policy.specs.declared.policy.Kind.TheVariants.{Read, Env, Assign}
use Rattle.box_policy.specs.Decisions.{kind_number}
use Rattle.box_listing.specs.declared.site.Site.{Site}
use Rattle.box_listing.specs.declared.site.Sort.{Sort}
use Rattle.box_listing.specs.declared.site.Found.{Found}
use Rattle.box_listing.specs.declared.site.Found.TheVariants.{MainInput, At}
use Rattle.box_listing.specs.Sites.{found}

-- ---- what stands at 0:0

-- an operand's file or assignment, or a name of the environment: its text is not in the script
abbrev pub at_start : Kind → Site
at_start kind = record { place = record { line = 0; column = 0 }; kind = kind; text = None }

abbrev pub if_so : Bool → Kind → List Site
if_so true kind = at_start kind ∷ []
if_so false kind = []

-- by whether the main input is read, and whether the script names ENVIRON
abbrev pub started : (reads names : Bool) → List Site
started reads names = if_so reads Read ++ (if_so names Env ++ if_so reads Assign)

abbrev pub is_main_input : Found → Bool
is_main_input MainInput = true
is_main_input (At site) = false

abbrev pub reads_main : List Found → Bool
reads_main xs = list_any is_main_input xs

-- ---- the sites that have a place

abbrev pub placed : List Found → List Site
placed [] = []
placed (MainInput ∷ xs) = placed xs
placed (At site ∷ xs) = site ∷ placed xs

-- all sites, those at 0:0 first
abbrev pub sites_of : List Found → Bool → List Site
sites_of xs names = started (reads_main xs) names ++ placed xs

-- ---- their order

-- by place, then by kind
abbrev pub key : Site → ℕ × ℕ × ℕ
key x = (x.place.line, x.place.column, kind_number x.kind)

abbrev pub compared : Site → Site → Ordering
compared x y =
    ordering_then (ordering_then (nat_cmp x.place.line y.place.line) (nat_cmp x.place.column y.place.column))
    (nat_cmp (kind_number x.kind) (kind_number y.kind))

-- The second list is the first one in order; what stands at one place and is of one kind stays as it stood.
pub record IsInOrder (xs ys : List Site) : Type 0 where
  pub same : IsPermutation xs ys
  pub sorted : IsSorted compared ys
  pub stable : IsStable compared xs ys

-- the listing of a program, by the order of its items in the script, which names ENVIRON or not
abbrev pub IsListing : Program → List Sort → Bool → List Site → Type 0
IsListing program order names sites = IsInOrder (sites_of (found order program) names) sites
