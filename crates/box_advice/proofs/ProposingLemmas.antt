-- What is read of a proposal is what it was made of.
use Rattle.std.proofs.Common.{◌≡◌, ◌∙◌, ℕ, ◌+◌, ◌<◌, ◌≤◌, true, List, [], ◌∷◌, ◌++◌, length, get_or, take, drop, subst}
use Rattle.std.proofs.Common.{sym, ap, arith, refl, Option, Some}
use Rattle.std.specs.Prelude.{IfErr, Result, Ok, Err}
use Rattle.std.proofs.lemmas.Slice.Eq.{bytes_eq-Decides}
use Rattle.std.proofs.lemmas.List.{take-append-drop, take_all, take_more_same}
use Rattle.box_policy.specs.declared.policy.Rule.{Rule}
use Rattle.box_policy.specs.Rulebook.{Rulebook}
use Rattle.box_policy.specs.Rebased.{WrittenUnder}
use Rattle.box_advice.specs.Proposals.{HasRoom, IsGainRefused, IsNotPrinted, has_base, with_gained}
use Rattle.box_advice.specs.Wishes.{IsGained}
use Rattle.box_advice.specs.declared.proposing.ProposalError.{ProposalError}
use Rattle.box_advice.specs.declared.proposing.ProposalError.TheVariants as e
use Rattle.box_advice.specs.declared.wishes.Wish.{Wish}

-- two lists that are the parts of a third
pub joined : (rules first others front back : List Rule) (n : ℕ) → front ≡ take n rules → back ≡ drop n rules
    → front ≡ first → back ≡ others → rules ≡ first ++ others
joined rules first others front back n front_is back_is same_front same_back =
    sym (take-append-drop n rules)
    ∙ (ap (λ xs. xs ++ drop n rules) (sym front_is ∙ same_front) ∙ ap (λ ys. first ++ ys) (sym back_is ∙ same_back))

-- one more element of two lists is the same
pub same_more : (xs ys : List Rule) (i : ℕ) (x y : Rule) → i < length xs → length xs ≡ length ys → x ≡ get_or xs i x
    → y ≡ get_or ys i y → x ≡ y
    → take i xs ≡ take i ys → take (i + 1) xs ≡ take (i + 1) ys
same_more xs ys i x y below same_length at_x at_y same so_far =
    take_more_same xs ys i x below (omega arith) so_far
    (sym at_x ∙ (same ∙ (at_y ∙ ap (λ d. get_or ys i d) (sym same))))

pub same_all : (xs ys : List Rule) (i : ℕ) → length xs ≤ i → length xs ≡ length ys → take i xs ≡ take i ys → xs ≡ ys
same_all xs ys i past same_length so_far = sym (take_all i xs past) ∙ (so_far ∙ take_all i ys (omega arith))

-- ---- a policy without rules

no_rules : (rules : List Rule) → length rules ≡ 0 → rules ≡ []
no_rules [] h = refl
no_rules (rule ∷ rules) h = absurd (omega arith)

pub bare : (book : Rulebook) (base : List ℕ) → has_base book.base (Some base) ≡ true → length book.rules ≡ 0
    → book ≡ record { base = base; rules = [] }
bare book base told none =
    let same : book.base ≡ base = (bytes_eq-Decides book.base base).0 told in
    let empty : book.rules ≡ [] = no_rules book.rules none in
    λ i. record { base = same i; rules = empty i }

-- ---- what is not printed

module _ (base : Option (List ℕ)) (first : Rulebook) (wishes : List Wish) (gained : List Rule)
    (got : IsGained first wishes gained) where
  has_room : HasRoom first wishes
  has_room = subst (λ (rules : List Rule). length first.rules + length rules ≤ 1024) got.is got.room

  refused_by : (error : ProposalError) → IsNotPrinted base (with_gained first gained) error
      → IsGainRefused base first wishes error
  refused_by (e.Policy error) h = h
  refused_by e.TooManyRules h = absurd h
  refused_by e.TooLong h =
      (has_room, h.0, subst (λ (rules : List Rule). WrittenUnder base h.0 (with_gained first rules)) got.is h.1, h.2)
  refused_by e.Misprinted h = has_room
  refused_by e.Memory h = tt

  pub not_printed : {T : Type 0} (result : Result T ProposalError)
      → IfErr result (IsNotPrinted base (with_gained first gained))
      → IfErr result (IsGainRefused base first wishes)
  not_printed (Ok v) h = tt
  not_printed (Err error) h = refused_by error h
