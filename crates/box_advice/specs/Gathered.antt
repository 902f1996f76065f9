-- Which wishes of a log were met before.
use Rattle.std.specs.Prelude.{◌≡◌, ℕ, List, Vec}
use Rattle.std.specs.BTreeSet.{BTreeSet, contains}
use Rattle.std.specs.Cmp.Lexicographic.{slice_cmp}
use Rattle.std.specs.List.{list_any}
use Rattle.std.specs.Ordering.{nat_cmp}
use Rattle.std.specs.Str.{bytes_eq}
use Rattle.std.specs.declared.alloc.Global.{Global}
use Rattle.box_advice.specs.Logs.{request_of}
use Rattle.box_advice.specs.declared.denials.Gathered.{Gathered}
use Rattle.box_advice.specs.declared.wishes.Wish.{Wish}

-- the texts that are met are those that tell the wishes apart
abbrev pub AreMet : Gathered → Type 0
AreMet gathered =
    (q : Vec ℕ Global) → contains (λ one other. slice_cmp nat_cmp one.items other.items) gathered.met q
    ≡ list_any (λ wish. bytes_eq (request_of wish) q.items) gathered.wishes.items
