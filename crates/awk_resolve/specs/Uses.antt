-- What the items of a script make of the numbers of its names.
use Rattle.std.specs.Prelude.{ℕ, zero, suc, ◌+◌, Bool, true, false, if◌then◌else◌, List, [], ◌∷◌, ◌++◌, slice_get}
use Rattle.std.specs.Prelude.{Option, Some, None}
use Rattle.std.specs.Map.{lookup}
use Rattle.std.specs.Str.{bytes_eq}
use Rattle.awk_tree.specs.Tree.{Text}
use Rattle.awk_tree.specs.declared.names.Name.{Name}
use Rattle.awk_resolve.specs.Kinds as k
use Rattle.awk_resolve.specs.declared.mention.Mention as m
use Rattle.awk_resolve.specs.declared.mention.Mention.TheVariants as said
use Rattle.awk_resolve.specs.declared.mention.Role.{Role}
use Rattle.awk_resolve.specs.declared.mention.Role.TheVariants as role
use Rattle.awk_resolve.specs.declared.mention.Section.{Section}
use Rattle.awk_resolve.specs.Numbering.{number_in}
use Rattle.awk_resolve.specs.Numbers.{is_function}
use Rattle.awk_resolve.specs.declared.numbers.Scope.{Scope}
use Rattle.awk_resolve.specs.declared.numbers.Numbers.{Numbers}
use Rattle.awk_resolve.specs.declared.uses.Use.{Use}
use Rattle.awk_resolve.specs.declared.uses.Use.TheVariants.{Scalar, Array, Measured, Handed}

abbrev pub scalar_of : Option ℕ → List Use
scalar_of None = []
scalar_of (Some n) = Scalar n ∷ []

abbrev pub scalar : Numbers → Role → Text → List Use
scalar t r x = scalar_of (number_in t r x)

abbrev pub array_of : Option ℕ → List Use
array_of None = []
array_of (Some n) = Array n ∷ []

abbrev pub array : Numbers → Role → Text → List Use
array t r x = array_of (number_in t r x)

abbrev pub measured_of : Option ℕ → List Use
measured_of None = []
measured_of (Some n) = Measured n ∷ []

abbrev pub measured : Numbers → Role → Text → List Use
measured t r x = measured_of (number_in t r x)

abbrev pub handed_of : Option ℕ → Option ℕ → List Use
handed_of None a = []
handed_of (Some p) None = []
handed_of (Some p) (Some a) = Handed p a ∷ []

abbrev pub handed : Numbers → Role → Option ℕ → Text → List Use
handed t r p x = handed_of p (number_in t r x)

abbrev pub function : Numbers → Role → Text → List Use
function t r x = if is_function t x then scalar t r x else []

abbrev pub argument : Numbers → Role → Option ℕ → Option Name → List Use
argument t r p None = []
argument t r p (Some n) = function t r n.text ++ handed t r p n.text

-- of the arguments from this position on
abbrev pub arguments : Numbers → Role → List ℕ → ℕ → List (Option Name) → List Use
arguments t r ps i [] = []
arguments t r ps i (a ∷ args) = argument t r (slice_get ps i) a ++ arguments t r ps (i + 1) args

abbrev pub parameters_of : Option Scope → List ℕ
parameters_of None = []
parameters_of (Some c) = c.numbers

abbrev pub parameters : Numbers → Text → List ℕ
parameters t f = parameters_of (lookup (bytes_eq f) t.functions)

abbrev pub mention : Numbers → Role → m.Mention → List Use
mention t r (said.Scalar n) = scalar t r n.text
mention t r (said.Array n) = array t r n.text
mention t r (said.Measured n) = function t r n.text ++ measured t r n.text
mention t r (said.Call f args) = arguments t r (parameters t f.text) 0 args
mention t r x = []

abbrev pub mentions : Numbers → Role → List m.Mention → List Use
mentions t r [] = []
mentions t r (x ∷ xs) = mention t r x ++ mentions t r xs

abbrev pub parts : Numbers → List Section → List Use
parts t [] = []
parts t (p ∷ ps) = mentions t p.role p.mentions ++ parts t ps

abbrev pub all_scalar : Numbers → Role → List Text → List Use
all_scalar t r [] = []
all_scalar t r (x ∷ xs) = scalar t r x ++ all_scalar t r xs

abbrev pub all_array : Numbers → Role → List Text → List Use
all_array t r [] = []
all_array t r (x ∷ xs) = array t r x ++ all_array t r xs

abbrev pub own_scalars : Numbers → List Text → List Use
own_scalars t xs = all_scalar t role.Begin xs

abbrev pub own_arrays : Numbers → List Text → List Use
own_arrays t xs = all_array t role.Begin xs

abbrev pub uses : Numbers → List Section → List Use
uses t ps = own_scalars t k.scalars ++ (own_arrays t k.arrays ++ parts t ps)

-- ---- the uses by what they say

abbrev pub scalars : List Use → List ℕ
scalars [] = []
scalars (Scalar n ∷ us) = n ∷ scalars us
scalars (Array n ∷ us) = scalars us
scalars (Measured n ∷ us) = scalars us
scalars (Handed p n ∷ us) = scalars us

abbrev pub arrays : List Use → List ℕ
arrays [] = []
arrays (Scalar n ∷ us) = arrays us
arrays (Array n ∷ us) = n ∷ arrays us
arrays (Measured n ∷ us) = arrays us
arrays (Handed p n ∷ us) = arrays us

abbrev pub measures : List Use → List ℕ
measures [] = []
measures (Scalar n ∷ us) = measures us
measures (Array n ∷ us) = measures us
measures (Measured n ∷ us) = n ∷ measures us
measures (Handed p n ∷ us) = measures us

-- what is handed to each number
abbrev pub with_link : ℕ → ℕ → List (List ℕ) → List (List ℕ)
with_link p n [] = []
with_link zero n (l ∷ ls) = (l ++ n ∷ []) ∷ ls
with_link (suc p) n (l ∷ ls) = l ∷ with_link p n ls

abbrev pub linked : List Use → List (List ℕ) → List (List ℕ)
linked [] table = table
linked (Scalar n ∷ us) table = linked us table
linked (Array n ∷ us) table = linked us table
linked (Measured n ∷ us) table = linked us table
linked (Handed p n ∷ us) table = linked us (with_link p n table)

-- and from what is handed to a measured number back to that number
abbrev pub back_link : Option Bool → ℕ → ℕ → List (List ℕ) → List (List ℕ)
back_link None p n table = table
back_link (Some false) p n table = table
back_link (Some true) p n table = with_link n p table

abbrev pub with_back_links : List Bool → List Use → List (List ℕ) → List (List ℕ)
with_back_links measured [] table = table
with_back_links measured (Scalar n ∷ us) table = with_back_links measured us table
with_back_links measured (Array n ∷ us) table = with_back_links measured us table
with_back_links measured (Measured n ∷ us) table = with_back_links measured us table
with_back_links measured (Handed p n ∷ us) table =
    with_back_links measured us (back_link (slice_get measured p) p n table)
