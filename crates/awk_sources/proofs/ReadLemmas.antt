-- A script that goes on behind a newline is read as before it, and then as what follows by itself.
use Rattle.std.proofs.Common.{◌≡◌, ℕ, suc, ◌+◌, ◌<◌, Bool, true, false, not, List, [], ◌∷◌, ◌++◌, length, map, fold}
use Rattle.std.proofs.Common.{All, sym, ap, refl, subst, ◌∙◌, arith}
use Rattle.std.proofs.lemmas.List.{append_assoc, append-nil, map-append}
use Rattle.std.proofs.lemmas.List.Sums.{fold-append}
use Rattle.std.specs.List.{flat_map}
use Rattle.awk_numbers.specs.declared.number.Numbers.{Numbers}
use Rattle.awk_tokens.specs.Bytes.{Text}
use Rattle.awk_tokens.specs.Tokens.{IsFirst}
use Rattle.awk_tokens.specs.Reads.{ReadsTo, begun, a_gap, a_token, Reads, ends_operand, operand_after, token_of}
use Rattle.awk_tokens.specs.declared.token.Token.{Token}
use Rattle.awk_tokens.specs.declared.kinds.TokenKind.{TokenKind}
use Rattle.awk_tokens.specs.declared.kinds.TokenKind.TheVariants.{Sign}
use Rattle.awk_sources.specs.Joined.{joined}
use Rattle.awk_sources.specs.Parts.{Word, word_of, newline, IsRead, ReadsEach, last, more, IsReadByText}
use Rattle.awk_sources.proofs.OnLemmas.{gap_on}
use Rattle.awk_sources.proofs.TokenLemmas.{first_on, newline_first}

pub read_on : (numbers : Numbers) (front rest behind : Text) (tokens : List Token) → ReadsTo numbers front tokens rest
    → ReadsTo numbers front tokens (rest ++ 10 ∷ behind)
read_on numbers _ _ behind _ (begun script) = begun (script ++ 10 ∷ behind)
read_on numbers _ _ behind _ (a_gap front gap rest tokens before h) =
    a_gap front gap (rest ++ 10 ∷ behind) tokens (subst (λ w. ReadsTo numbers front tokens w)
    (append_assoc gap rest (10 ∷ behind)) (read_on numbers front (gap ++ rest) behind tokens before))
    (gap_on gap rest behind h)
read_on numbers _ _ behind _ (a_token front text rest tokens kind before h) =
    a_token front text (rest ++ 10 ∷ behind) tokens kind (subst (λ w. ReadsTo numbers front tokens w)
    (append_assoc text rest (10 ∷ behind)) (read_on numbers front (text ++ rest) behind tokens before))
    (first_on numbers (operand_after tokens) kind text rest behind h)

-- ---- whether an operand may follow is told by the words

abbrev goes : Bool → Token → Bool
goes before token = not (ends_operand token.kind token.text)

abbrev goes_word : Bool → Word → Bool
goes_word before word = not (ends_operand word.0 word.1)

fold_words : (start : Bool) (tokens : List Token) → fold goes start tokens ≡ fold goes_word start (map word_of tokens)
fold_words start [] = refl
fold_words start (t ∷ tokens) = fold_words (goes start t) tokens

operand_moved : (before moved tokens : List Token) → operand_after before ≡ true
    → map word_of moved ≡ map word_of tokens → operand_after (before ++ moved) ≡ operand_after tokens
operand_moved before moved tokens begins same =
    fold-append goes true before moved ∙ ap (λ s. fold goes s moved) begins ∙ fold_words true moved
    ∙ ap (fold goes_word true) same ∙ sym (fold_words true tokens)

-- ---- a script behind this front is read by the same words

record Moved (numbers : Numbers) (lead front rest : Text) (before tokens : List Token) : Type 0 where
  moved : List Token
  read : ReadsTo numbers (lead ++ front) (before ++ moved) rest
  same : map word_of moved ≡ map word_of tokens

moved_on : (numbers : Numbers) (lead : Text) (before : List Token) (script front rest : Text) (tokens : List Token)
    → operand_after before ≡ true → ReadsTo numbers lead before script → script ≡ front ++ rest
    → ReadsTo numbers front tokens rest
    → Moved numbers lead front rest before tokens
moved_on numbers lead before script _ _ _ begins base parts (begun rest) =
    record {
      moved = [];
      read = subst (λ w. ReadsTo numbers w (before ++ []) rest) (sym (append-nil lead))
          (subst (λ ts. ReadsTo numbers lead ts rest)
          (sym (append-nil before)) (subst (λ w. ReadsTo numbers lead before w) parts base));
      same = refl;
    }
moved_on numbers lead before script _ _ _ begins base parts (a_gap front gap rest tokens prior h) =
    let m = moved_on numbers lead before script front (gap ++ rest) tokens begins base
    (parts ∙ append_assoc front gap rest)
    prior in
    record {
      moved = m.moved;
      read = subst (λ w. ReadsTo numbers w (before ++ m.moved) rest) (append_assoc lead front gap)
          (a_gap (lead ++ front) gap rest (before ++ m.moved) m.read h);
      same = m.same;
    }
moved_on numbers lead before script _ _ _ begins base parts (a_token front text rest tokens kind prior h) =
    let m = moved_on numbers lead before script front (text ++ rest) tokens begins base
    (parts ∙ append_assoc front text rest)
    prior in
    let t = token_of (lead ++ front) kind text in
    let first : IsFirst numbers (operand_after (before ++ m.moved)) kind text rest = subst
    (λ o. IsFirst numbers o kind text rest)
    (sym (operand_moved before m.moved tokens begins m.same)) h in
    record {
      moved = m.moved ++ t ∷ [];
      read = subst (λ w. ReadsTo numbers w (before ++ (m.moved ++ t ∷ [])) rest) (append_assoc lead front text)
          (subst (λ ts. ReadsTo numbers ((lead ++ front) ++ text) ts rest) (append_assoc before m.moved (t ∷ []))
          (a_token (lead ++ front) text rest (before ++ m.moved) kind m.read first));
      same = map-append word_of m.moved (t ∷ []) ∙ ap (λ ws. ws ++ word_of t ∷ []) m.same
          ∙ sym (map-append word_of tokens (token_of front kind text ∷ []));
    }

-- ---- several texts

joined_next : (text next : Text) (texts : List Text) → joined (text ∷ next ∷ texts) ≡ text ++ 10 ∷ joined (next ∷ texts)
joined_next text next texts = refl

abbrev IsReadAs : Numbers → List Text → List Word → Type 0
IsReadAs numbers texts words = (tokens : List Token) × Reads numbers (joined texts) tokens ×
    (map word_of tokens ≡ words)

two_read : (numbers : Numbers) (text behind : Text) (tokens others : List Token) → Reads numbers text tokens
    → Reads numbers behind others
    → (all : List Token) × Reads numbers (text ++ 10 ∷ behind) all
    × (map word_of all ≡ map word_of tokens ++ newline ∷ map word_of others)
two_read numbers text behind tokens others one two =
    let sign = token_of text Sign (10 ∷ []) in
    let before = tokens ++ sign ∷ [] in
    let seam : ReadsTo numbers (text ++ 10 ∷ []) before behind = a_token text (10 ∷ []) behind tokens Sign
    (read_on numbers text [] behind tokens one) (newline_first numbers (operand_after tokens) behind) in
    let begins : operand_after before ≡ true = fold-append goes true tokens (sign ∷ []) in
    let m = moved_on numbers (text ++ 10 ∷ []) before behind behind [] others begins seam
    (sym (append-nil behind)) two in (
      before ++ m.moved,
      subst (λ w. Reads numbers w (before ++ m.moved)) (append_assoc text (10 ∷ []) behind) m.read,
      map-append word_of before m.moved ∙ ap (λ ws. map word_of before ++ ws) m.same
          ∙ ap (λ ws. ws ++ map word_of others) (map-append word_of tokens (sign ∷ [])) ∙ append_assoc
          (map word_of tokens) (newline ∷ []) (map word_of others),
    )

each_read : (numbers : Numbers) (texts : List Text) (words : List Word) → ReadsEach numbers texts words →
    IsReadAs numbers texts words
each_read numbers _ _ (last text tokens h) = (
  tokens,
  subst (λ w. Reads numbers w tokens)
      (sym (append-nil text)) h,
  refl,
)
each_read numbers _ _ (more text next texts tokens words h others) =
    let inner = each_read numbers (next ∷ texts) words others in
    let all = two_read numbers text (joined (next ∷ texts)) tokens inner.0 h inner.1 in
    (all.0, all.1, all.2 ∙ ap (λ ws. map word_of tokens ++ newline ∷ ws) inner.2)

-- the first of them, and the others
first_of : (numbers : Numbers) (text : Text) (texts : List Text) → All (IsRead numbers) (text ∷ texts) →
    IsRead numbers text
first_of numbers text texts h = h 0 [] (omega arith)

others_of : (numbers : Numbers) (text : Text) (texts : List Text) → All (IsRead numbers) (text ∷ texts) →
    All (IsRead numbers) texts
others_of numbers text texts h = λ k d below. h (suc k) d (omega arith)

all_each : (numbers : Numbers) (text : Text) (texts : List Text) → All (IsRead numbers) (text ∷ texts)
    → (words : List Word) × ReadsEach numbers (text ∷ texts) words
all_each numbers text [] h = let one = first_of numbers text [] h in (map word_of one.0, last text one.0 one.1)
all_each numbers text (next ∷ texts) h =
    let one = first_of numbers text (next ∷ texts) h in
    let rest = all_each numbers next texts (others_of numbers text (next ∷ texts) h) in
    (map word_of one.0 ++ newline ∷ rest.0, more text next texts one.0 rest.0 one.1 rest.1)

pub read_by_text : (numbers : Numbers) (texts : List Text) (whole : Text) → 1 < length texts
    → All (IsRead numbers) texts → whole ≡ joined texts → IsReadByText numbers texts whole
read_by_text numbers [] whole several h is = absurd (omega arith)
read_by_text numbers (text ∷ texts) whole several h is =
    let each = all_each numbers text texts h in
    let all = each_read numbers (text ∷ texts) each.0 each.1 in
    record {
      words = each.0;
      each = each.1;
      tokens = all.0;
      reads = subst (λ w. Reads numbers w all.0) (sym is) all.1;
      same =
          all.2;
    }
