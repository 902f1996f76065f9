-- Texts that grow by the names of what is said.
use Rattle.std.proofs.Common.{◌≡◌, ◌∙◌, ℕ, ◌+◌, ◌<◌, Bool, true, false, List, [], ◌∷◌, ◌++◌, Option, Some, None, Result}
use Rattle.std.proofs.Common.{Ok, Err, OnOk, length, get_or, drop, position, if◌then◌else◌, ap, sym, refl}
use Rattle.std.specs.List.{list_any}
use Rattle.std.specs.Str.{bytes_eq}
use Rattle.std.proofs.lemmas.List.Folds.{list_any_at}
use Rattle.std.proofs.lemmas.List.Quantifiers.{position-Some}
use Rattle.awk_tree.specs.Tree.{Text}
use Rattle.awk_tree.specs.declared.names.Name.{Name}
use Rattle.awk_resolve.specs.declared.mention.Mention.{Mention}
use Rattle.awk_resolve.specs.declared.mention.Section.{Section}
use Rattle.awk_resolve.specs.Rolls.{added}
use Rattle.awk_resolve.proofs.Lists.{drop_here}
use Rattle.awk_resolve.proofs.Rolls.{none_among}
use Rattle.awk_resolve.specs.Tables.{given, used, all_used, own_of, outside, mentioned, behind}

outside_append : (ps : List Text) (xs ys : List Name) → outside ps (xs ++ ys) ≡ outside ps xs ++ outside ps ys
outside_append ps [] ys = refl
outside_append ps (x ∷ xs) ys = by (outside_append ps xs ys) (list_any (bytes_eq x.text) ps)
  where
    by : outside ps (xs ++ ys) ≡ outside ps xs ++ outside ps ys → (b : Bool)
        → (if b then outside ps (xs ++ ys) else x.text ∷ outside ps (xs ++ ys))
        ≡ (if b then outside ps xs else x.text ∷ outside ps xs) ++ outside ps ys
    by e true = e
    by e false = ap (λ zs. x.text ∷ zs) e

behind_append : (old xs ys : List Text) → behind old (xs ++ ys) ≡ behind (behind old xs) ys
behind_append old [] ys = refl
behind_append old (x ∷ xs) ys = behind_append (added x old) xs ys

both_append : (ps old : List Text) (xs ys : List Name) → behind old (outside ps (xs ++ ys))
    ≡ behind (behind old (outside ps xs)) (outside ps ys)
both_append ps old xs ys = ap (behind old) (outside_append ps xs ys) ∙ behind_append old (outside ps xs) (outside ps ys)

given_more : (a : Option Name) (args : List (Option Name)) → given (a ∷ args) ≡ given (a ∷ []) ++ given args
given_more None args = refl
given_more (Some n) args = refl

-- ---- a name by itself

is_outside : (ps old : List Text) (n : Name) → position (bytes_eq n.text) ps ≡ None → behind old (outside ps (n ∷ []))
    ≡ added n.text old
is_outside ps old n e = rw (none_among n.text ps e) refl

pub is_own : (ps old : List Text) (n : Name) (i : ℕ) → position (bytes_eq n.text) ps ≡ Some i
    → behind old (outside ps (n ∷ [])) ≡ old
is_own ps old n i e =
    let at = position-Some (bytes_eq n.text) ps i [] e in
    rw (list_any_at (bytes_eq n.text) ps i [] at.0 at.1) refl

pub outside_added : {E : Type 0} (ps old new : List Text) (n : Name) (r : Result Unit E) → position (bytes_eq n.text) ps
    ≡ None → OnOk r (new ≡ added n.text old) → OnOk r (new ≡ behind old (outside ps (n ∷ [])))
outside_added ps old new n (Ok u) e is = is ∙ sym (is_outside ps old n e)
outside_added ps old new n (Err f) e is = tt

-- ---- one turn of each loop

pub arguments_on : (ps all old new : List Text) (a : Option Name) (args : List (Option Name)) (i : ℕ) → i < length args
    → a ≡ get_or args i a
    → new ≡ behind old (outside ps (given (a ∷ []))) → all ≡ behind old (outside ps (given (drop i args)))
    → all ≡ behind new (outside ps (given (drop (i + 1) args)))
arguments_on ps all old new a args i h e is far =
    far ∙ ap (λ xs. behind old (outside ps (given xs))) (drop_here args i a h e) ∙ ap (λ ns. behind old (outside ps ns))
    (given_more a (drop (i + 1) args))
    ∙ both_append ps old (given (a ∷ [])) (given (drop (i + 1) args))
    ∙ ap (λ b. behind b (outside ps (given (drop (i + 1) args)))) (sym is)

pub mentions_on : (ps all old new : List Text) (m : Mention) (ms : List Mention) (i : ℕ) → i < length ms
    → m ≡ get_or ms i m
    → new ≡ behind old (outside ps (used m)) → all ≡ behind old (outside ps (all_used (drop i ms)))
    → all ≡ behind new (outside ps (all_used (drop (i + 1) ms)))
mentions_on ps all old new m ms i h e is far =
    far ∙ ap (λ xs. behind old (outside ps (all_used xs))) (drop_here ms i m h e)
    ∙ both_append ps old (used m) (all_used (drop (i + 1) ms))
    ∙ ap (λ b. behind b (outside ps (all_used (drop (i + 1) ms)))) (sym is)

pub parts_on : (all old new : List Text) (p : Section) (ps : List Section) (i : ℕ) → i < length ps → p ≡ get_or ps i p
    → new ≡ behind old (outside (own_of p.role) (all_used p.mentions)) → all ≡ behind old (mentioned (drop i ps))
    → all ≡ behind new (mentioned (drop (i + 1) ps))
parts_on all old new p ps i h e is far =
    far ∙ ap (λ xs. behind old (mentioned xs)) (drop_here ps i p h e)
    ∙ behind_append old (outside (own_of p.role) (all_used p.mentions)) (mentioned (drop (i + 1) ps))
    ∙ ap (λ b. behind b (mentioned (drop (i + 1) ps))) (sym is)
