-- Parts of a text, one after the other.
use Rattle.std.proofs.Common.{◌≡◌, ℕ, List, [], ◌∷◌, ◌++◌, map, All, sym, ap, ap₂, subst, ◌∙◌}
use Rattle.std.proofs.lemmas.List.{map-append}
use Rattle.std.proofs.lemmas.List.Elements.{All-nil, All-push}
use Rattle.awk_fields.specs.Spans.{AreSpans, IsWithin, part}
use Rattle.awk_fields.specs.declared.spans.Span.{Span}

-- no parts
pub no_spans : (s : List ℕ) (spans : List Span) → spans ≡ [] → AreSpans s spans []
no_spans s spans e = record {
  within = subst (All (IsWithin s)) (sym e) (All-nil (IsWithin s));
  texts_are =
      sym (ap (map (part s)) e);
}

-- one part more
pub one_more : (s : List ℕ) (spans new : List Span) (span : Span) (texts : List (List ℕ)) (text : List ℕ)
    → new ≡ spans ++ span ∷ [] → IsWithin s span → part s span ≡ text → AreSpans s spans texts
    → AreSpans s new (texts ++ text ∷ [])
one_more s spans new span texts text e within same are =
    record {
      within = subst (All (IsWithin s)) (sym e) (All-push (IsWithin s) spans span are.within within);
      texts_are = ap₂ (λ ts t. ts ++ t ∷ []) are.texts_are (sym same)
          ∙ sym (ap (map (part s)) e ∙ map-append (part s) spans (span ∷ []));
    }
