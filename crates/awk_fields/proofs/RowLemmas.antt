-- Records, before and after they are split.
use Rattle.std.proofs.Common.{◌≡◌, ◌≢◌, ℕ, zero, suc, ◌-◌, List, [], ◌∷◌, length, map, set, slice_index_or, sym, ap}
use Rattle.std.proofs.Common.{subst, refl, ◌∙◌, arith, inl, inr, ℤ, ◌⊎◌, ◌<◌}
use Rattle.std.specs.Prelude.{Option, Some, None, Result, Ok, Err, IfSome, IfErr, All}
use Rattle.awk_text.specs.declared.fault.Fault.{Fault}
use Rattle.awk_text.specs.declared.fault.Fault.TheVariants.{Memory, TextTooLong}
use Rattle.awk_text.specs.Limits.{most_bytes}
use Rattle.awk_fields.proofs.Alone.{kept_fields}
use Rattle.awk_text.specs.declared.value.Value.{Value}
use Rattle.awk_fields.specs.Separators.{Separator}
use Rattle.awk_fields.specs.Fields.{Fields}
use Rattle.awk_fields.specs.Spans.{AreSpans, IsWithin, part}
use Rattle.awk_fields.specs.Edits.{AreSet, IsSame, IsSoundEdited, edited_fields, edited_whole, field_of}
use Rattle.awk_fields.specs.Rows.{Field, Row, AreHeld, HasFields, IsKept, IsRebuilt, IsValueAt, SetsCount, SetsField}
use Rattle.awk_fields.specs.Rows.{SetsNoCount, SetsNoField, blank, field_place, input, known, place_of, rebuilt}
use Rattle.awk_fields.specs.Rows.{with_count, with_field}
use Rattle.awk_fields.specs.Parts.{IsSound, IsSoundBy, IsSplitBy, held_by, row_of, fields_by, whole_by}
use Rattle.awk_fields.specs.declared.edits.Edited.{Edited}
use Rattle.awk_fields.specs.declared.part.Part.{Part}
use Rattle.awk_fields.specs.declared.part.Part.TheVariants.{Cut}
use Rattle.awk_fields.specs.declared.parts.Parts.{Parts}
use Rattle.awk_fields.specs.declared.parts.State.{State}
use Rattle.awk_fields.specs.declared.parts.State.TheVariants.{Unsplit, Spans, Edits}
use Rattle.awk_fields.specs.declared.spans.Span.{Span}

-- what contracts see, were it in this state
abbrev shown : List ℕ → Parts → State → Row
shown text parts state = record {
  whole = whole_by state text (edited_whole text parts.edited);
  fields =
      held_by state (fields_by state text parts.spans.items (edited_fields text parts.edited));
}

inputs : (whole : List ℕ) (spans : List Span) → map (λ span. input (part whole span)) spans
    ≡ map input (map (part whole) spans)
inputs whole [] = refl
inputs whole (span ∷ spans) = ap (λ fs. input (part whole span) ∷ fs) (inputs whole spans)

fields_of_cut : (text : List ℕ) (spans : List Span) → map (field_of text) (map Cut spans)
    ≡ map (λ span. input (part text span)) spans
fields_of_cut text [] = refl
fields_of_cut text (span ∷ spans) = ap (λ fs. input (part text span) ∷ fs) (fields_of_cut text spans)

-- the spans that a text was split into are its fields
pub kept_by_split : (text : List ℕ) (state : State) (edited : List ℕ) (before : List Field) (separator : Separator)
    (texts : List (List ℕ)) (spans : List Span) → state ≡ Unsplit separator → Fields separator text texts
    → AreSpans text spans texts
    → IsKept (record { whole = whole_by state text edited; fields = held_by state before })
    (record { whole = text; fields = known (map (λ span. input (part text span)) spans) })
kept_by_split text state edited before separator texts spans e fields are =
    subst (λ st. IsKept (record { whole = whole_by st text edited; fields = held_by st before })
    (record { whole = text; fields = known (map (λ span. input (part text span)) spans) })) (sym e)
    (inr (
      map (λ span. input (part text span)) spans,
      (texts, fields, inputs text spans ∙ ap (map input) (sym are.texts_are)),
      refl,
    ))

-- parts that are the spans are the same fields
pub row_of_spans : (text : List ℕ) (parts : Parts) (found : List Part) → parts.state ≡ Spans
    → found ≡ map Cut parts.spans.items → row_of text parts ≡ record {
      whole = text;
      fields =
          known (map (field_of text) found);
    }
row_of_spans text parts found e is =
    ap (λ st. shown text parts st) e ∙ ap (λ fs. record { whole = text; fields = known fs })
    (sym (ap (map (field_of text)) is ∙ fields_of_cut text parts.spans.items))

pub row_of_edits : (text : List ℕ) (parts : Parts) → parts.state ≡ Edits
    → row_of text parts ≡ record {
      whole = edited_whole text parts.edited;
      fields =
          known (edited_fields text parts.edited);
    }
row_of_edits text parts e = ap (λ st. shown text parts st) e

pub spans_within : (text : List ℕ) (parts : Parts) → parts.state ≡ Spans → IsSound text parts
    → All (IsWithin text) parts.spans.items
spans_within text parts e sound = subst (λ st. IsSoundBy st text parts.spans.items parts.edited) e sound

pub edits_sound : (text : List ℕ) (parts : Parts) → parts.state ≡ Edits → IsSound text parts
    → IsSoundEdited text parts.edited
edits_sound text parts e sound = subst (λ st. IsSoundBy st text parts.spans.items parts.edited) e sound

-- what is split has its fields
pub held_split : (whole : List ℕ) (state : State) (fields : List Field) → IsSplitBy state
    → AreHeld whole (held_by state fields) fields
held_split whole (Unsplit separator) fields h = absurd h
held_split whole Spans fields h = refl
held_split whole Edits fields h = refl

pub value_at_place : (row : Row) (number : ℕ) (value : Value) (fields : List Field) → number ≢ 0 → HasFields row fields
    → value ≡ (slice_index_or fields (number - 1) blank).value → IsValueAt row number value
value_at_place row zero value fields some has is = absurd (some refl)
value_at_place row (suc k) value fields some has is =
    let back : suc k - 1 ≡ k = omega arith in (fields, has, is ∙ ap (λ n. (slice_index_or fields n blank).value) back)

-- ---- what was set

-- with these edits
abbrev pub with_edited : Parts → Edited → Parts
with_edited parts edited = record { state = parts.state; spans = parts.spans; edited = edited }

-- what is kept has the fields that the edits have
pub has_edited : (text : List ℕ) (old : Row) (parts : Parts) → IsKept old (row_of text parts) → parts.state ≡ Edits
    → HasFields old (edited_fields text parts.edited)
has_edited text old parts kept e =
    (kept_fields old (row_of text parts) (edited_fields text parts.edited) kept).0
    (subst (λ row. HasFields row (edited_fields text parts.edited)) (sym (row_of_edits text parts e)) refl)

pub rebuilt_row : (text ofs : List ℕ) (parts : Parts) (edited : Edited) (fields : List Field) → parts.state ≡ Edits
    → AreSet text ofs fields edited → IsRebuilt ofs fields (row_of text (with_edited parts edited))
rebuilt_row text ofs parts edited fields e set = record {
  fits = set.fits;
  new_is = row_of_edits text (with_edited parts edited) e
      ∙ (ap (λ (w : List ℕ). record { whole = w; fields = known (edited_fields text edited) }) set.whole_is
      ∙ ap (λ (fs : List Field). record { whole = rebuilt ofs fields; fields = known fs }) set.fields_are);
}

pub kept_same : (text : List ℕ) (old : Row) (parts : Parts) (edited : Edited) → IsKept old (row_of text parts)
    → parts.state ≡ Edits → IsSame text parts.edited edited → IsKept old (row_of text (with_edited parts edited))
kept_same text old parts edited kept e same =
    let row : row_of text (with_edited parts edited) ≡ row_of text parts =
    row_of_edits text (with_edited parts edited) e
    ∙ (ap (λ (w : List ℕ). record { whole = w; fields = known (edited_fields text edited) }) same.whole
    ∙ (ap (λ (fs : List Field). record { whole = edited_whole text parts.edited; fields = known fs }) same.fields
    ∙ sym (row_of_edits text parts e))) in
    subst (λ row. IsKept old row) (sym row) kept

pub sets_field : (text ofs : List ℕ) (old : Row) (parts : Parts) (edited : Edited) (n : ℤ) (place : ℕ) (field : Field)
    → IsKept old (row_of text parts) → parts.state ≡ Edits → field_place n ≡ Ok place
    → AreSet text ofs (with_field (edited_fields text parts.edited) place field) edited
    → SetsField old n field ofs (row_of text (with_edited parts edited))
sets_field text ofs old parts edited n place field kept e place_is set = record {
  place = place;
  place_is = place_is;
  fields = edited_fields text parts.edited;
  before = has_edited text old parts kept e;
  after = rebuilt_row text ofs parts edited (with_field (edited_fields text parts.edited) place field) e set;
}

pub sets_count : (text ofs : List ℕ) (old : Row) (parts : Parts) (edited : Edited) (n : ℤ) (count : ℕ)
    → IsKept old (row_of text parts) → parts.state ≡ Edits → place_of n ≡ Ok count
    → AreSet text ofs (with_count (edited_fields text parts.edited) count) edited
    → SetsCount old n ofs (row_of text (with_edited parts edited))
sets_count text ofs old parts edited n count kept e count_is set = record {
  count = count;
  count_is = count_is;
  fields = edited_fields text parts.edited;
  before = has_edited text old parts kept e;
  after = rebuilt_row text ofs parts edited (with_count (edited_fields text parts.edited) count) e set;
}

pub sets_no_field : (text ofs : List ℕ) (old : Row) (parts : Parts) (n : ℤ) (place : ℕ) (field : Field) (fault : Fault)
    → IsKept old (row_of text parts) → parts.state ≡ Edits → field_place n ≡ Ok place
    → (fault ≡ Memory) ⊎ ((fault ≡ TextTooLong)
    × (most_bytes < length (rebuilt ofs (with_field (edited_fields text parts.edited) place field))))
    → SetsNoField old n field ofs fault
sets_no_field text ofs old parts n place field fault kept e place_is (inl memory) = inl memory
sets_no_field text ofs old parts n place field fault kept e place_is (inr (is, long)) =
    inr (inr (is, (place, edited_fields text parts.edited, place_is, has_edited text old parts kept e, long)))

pub sets_no_count : (text ofs : List ℕ) (old : Row) (parts : Parts) (n : ℤ) (count : ℕ) (fault : Fault)
    → IsKept old (row_of text parts) → parts.state ≡ Edits → place_of n ≡ Ok count
    → (fault ≡ Memory) ⊎ ((fault ≡ TextTooLong)
    × (most_bytes < length (rebuilt ofs (with_count (edited_fields text parts.edited) count))))
    → SetsNoCount old n ofs fault
sets_no_count text ofs old parts n count fault kept e count_is (inl memory) = inl memory
sets_no_count text ofs old parts n count fault kept e count_is (inr (is, long)) =
    inr (inr (is, (count, edited_fields text parts.edited, count_is, has_edited text old parts kept e, long)))

-- ---- results

pub some_both : {X : Type 0} {P Q R : X → Type 0} (r : Option X) → ((x : X) → P x → Q x → R x) → IfSome r P → IfSome r Q
    → IfSome r R
some_both None f p q = tt
some_both (Some x) f p q = f x p q

pub if_err_weaker : {X E : Type 0} {P Q : E → Type 0} (r : Result X E) → ((e : E) → P e → Q e) → IfErr r P → IfErr r Q
if_err_weaker (Ok x) f p = tt
if_err_weaker (Err e) f p = f e p
