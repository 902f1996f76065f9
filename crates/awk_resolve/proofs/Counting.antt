-- A table has the functions of the items before, and so tells whether one is defined once more.
use Rattle.std.proofs.Common.{◌≡◌, ◌∙◌, ◌⊎◌, ◌↔◌, inl, inr, ℕ, ◌+◌, ◌<◌, List, [], ◌∷◌, ◌++◌, length, get_or, take}
use Rattle.std.proofs.Common.{refl, sym, ap, Some, None}
use Rattle.std.proofs.lemmas.List.{take_more}
use Rattle.std.proofs.lemmas.List.Elements.{Contains-append_left, Contains-push, Contains-push_cases}
use Rattle.std.specs.Map.{lookup}
use Rattle.std.specs.Str.{bytes_eq}
use Rattle.awk_text.specs.declared.place.Place.{Place}
use Rattle.awk_tree.specs.Tree.{Text}
use Rattle.awk_tree.specs.declared.names.Name.{Name}
use Rattle.awk_resolve.specs.Faults.{Redefined, twice}
use Rattle.awk_resolve.specs.Search.{Counts, Finds, Known, Knows, KnownAt, OneAfter, TwiceAt, with_role}
use Rattle.awk_resolve.specs.TextTables.{with_text}
use Rattle.awk_resolve.specs.declared.mention.Role.{Role}
use Rattle.awk_resolve.specs.declared.mention.Role.TheVariants as role
use Rattle.awk_resolve.specs.declared.mention.Section.{Section}
use Rattle.awk_resolve.proofs.Lists.{contains_none}
use Rattle.awk_resolve.proofs.TableLemmas.{AfterPut, put_cases}

pub knows_nothing : Knows [] []
knows_nothing x n = ((λ e. absurd (cc)), (λ d. let (f, fs, (p, c, e), same, count) = d in absurd (contains_none p c)))

module _ (ps : List Section) (p : Section) (known : Counts) (k : Knows ps known) where
  pub twice_here : (q : Place) → KnownAt known p.role q → TwiceAt ps p q
  twice_here q (f, fs, e, (n, l), there) =
      let (g, gs, def, same, count) = (k f.text n).0 l in (f, g, fs, gs, e, def, same, there)

  pub once_here : Finds (KnownAt known p.role) None → Finds (TwiceAt ps p) None
  once_here new q (f, g, fs, gs, e, def, same, there) =
      new q (f, fs, e, (length gs, (k f.text (length gs)).1 (g, gs, def, same, refl)), there)

  abbrev Own : Text → ℕ → Type 0
  Own x n = (f : Name) × (fs : List Name) × (p.role ≡ role.Function f fs) × (f.text ≡ x) × (length fs ≡ n)

  known_left : (x : Text) (n : ℕ) → Known ps x n → Known (ps ++ p ∷ []) x n
  known_left x n (f, fs, (r, c, e), same, count) = (f, fs, (r, Contains-append_left ps (p ∷ []) r c, e), same, count)

  known_cases : (x : Text) (n : ℕ) → Known (ps ++ p ∷ []) x n → Known ps x n ⊎ Own x n
  known_cases x n (f, fs, (r, c, e), same, count) =
      elim (Contains-push_cases ps p r c) [
        | inl d ↦ inl (f, fs, (r, d, e), same, count)
        | inr one ↦ inr (
          f,
          fs,
          ap (λ z. z.role) one ∙ e,
          same,
          count,
        )
      ]

  no_function : ((x : Text) (n : ℕ) → Own x n → ⊥) → Knows (ps ++ p ∷ []) known
  no_function none x n = (
    (λ l. known_left x n ((k x n).0 l)),
    (λ d. elim (known_cases x n d) [ inl old ↦ (k x n).1 old | inr own ↦ absurd (none x n own) ]),
  )

  one_more : (f : Name) (fs : List Name) → p.role ≡ role.Function f fs → Finds (KnownAt known p.role) None
      → Knows (ps ++ p ∷ []) (with_text f.text (length fs) known)
  one_more f fs e new x n = by (put_cases f.text x (length fs) known)
    where
      by : AfterPut f.text x (length fs) known → (lookup (bytes_eq x) (with_text f.text (length fs) known) ≡ Some n) ↔
          Known (ps ++ p ∷ []) x n
      by (inl (same, put)) = (
        (λ l. (f, fs, (p, Contains-push ps p, e), same, cc)),
        (λ d. elim (known_cases x n d) [
          | inl old ↦ absurd (new f.place (f, fs, e, (n, rw (← same) at ((k x n).1 old)), refl))
          | inr own ↦ let (g, gs, e2, same2, count) = own in let one : role.Function f fs ≡ role.Function g gs =
              sym e ∙ e2 in let all : fs ≡ gs = cc in cc
        ]),
      )
      by (inr (other, put)) = (
        (λ l. known_left x n ((k x n).0 (sym put ∙ l))),
        (λ d. elim (known_cases x n d) [
          | inl old ↦ put ∙ (k x n).1 old
          | inr own ↦ let (g, gs, e2, same2, count) = own in let one : role.Function f fs ≡ role.Function g gs =
              sym e ∙ e2 in let name : f ≡ g = cc in absurd (other (ap (λ z. z.text) name ∙ same2))
        ]),
      )

  knows_more : Finds (KnownAt known p.role) None → Knows (ps ++ p ∷ []) (with_role p.role known)
  knows_more new = by p.role refl
    where
      by : (r : Role) → p.role ≡ r → Knows (ps ++ p ∷ []) (with_role r known)
      by role.Begin e = no_function (λ x n own. let (f, fs, e2, same, count) = own in absurd (cc))
      by role.End e = no_function (λ x n own. let (f, fs, e2, same, count) = own in absurd (cc))
      by role.Rule e = no_function (λ x n own. let (f, fs, e2, same, count) = own in absurd (cc))
      by (role.Function f fs) e = one_more f fs e new

pub knows_on : (ps : List Section) (i : ℕ) (p : Section) (known new : Counts) → i < length ps → p ≡ get_or ps i p
    → Knows (take i ps) known → Finds (KnownAt known p.role) None → new ≡ with_role p.role known
    → Knows (take (i + 1) ps) new
knows_on ps i p known new h e k fresh put =
    let more : take (i + 1) ps ≡ take i ps ++ p ∷ [] = take_more ps i p h ∙ ap (λ z. take i ps ++ z ∷ []) (sym e) in
    rw (more, put) (knows_more (take i ps) p known k fresh)

pub is_redefined : (ps : List Section) (q : Place) → OneAfter TwiceAt ps q → Redefined ps q
is_redefined ps q (before, after, p, parted, (f, g, fs, gs, e, def, same, there)) =
    rw (← there) (twice before after p f g fs gs parted e def same)

pub none_redefined : (ps : List Section) → Finds (OneAfter TwiceAt ps) None → (q : Place) → Redefined ps q → ⊥
none_redefined ps none q (twice before after p f g fs gs parted e def same) = none f.place (
  before,
  after,
  p,
  parted,
  (f, g, fs, gs, e, def, same, refl),
)
