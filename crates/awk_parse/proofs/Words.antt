-- The laws of single tokens, and of names behind `in`.
use Rattle.std.proofs.Common.{◌≡◌, ℕ, true, List, [], ◌∷◌, ◌++◌, map, codes, refl, sym, ap, arith}
use Rattle.std.proofs.lemmas.List.{append-nil}
use Rattle.std.specs.List.{flat_map}
use Rattle.awk_tokens.specs.declared.token.Token.{Token}
use Rattle.awk_tokens.specs.declared.kinds.TokenKind.TheVariants as kind
use Rattle.awk_tree.specs.Looks.{member_of, name_of}
use Rattle.awk_tree.specs.declared.names.Member.{Member}
use Rattle.awk_tokens.specs.declared.terminals.Terminal.{Terminal}
use Rattle.awk_tokens.specs.declared.terminals.Terminal.TheVariants as w
use Rattle.awk_tree.specs.Tree.{Tree}
use Rattle.awk_tree.specs.Terminals.{terminal, terminal_of, is, sign, keyword, token, ahead}
use Rattle.awk_tree.specs.Input.{one, pure}
use Rattle.awk_tree.specs.Expressions.{in_name, in_names}
use Rattle.awk_tree.specs.Canon.{canon, bare, bare_member, canon_members}
use Rattle.awk_parse.specs.Spells.{Names, no_name, one_name}
use Rattle.awk_parse.proofs.Law.{Eye, Near, Form, Law, then_at, seq_at, Both, both, pair, pure_on, this, word, one_law}
use Rattle.awk_parse.proofs.Many.{chain, many_law}

-- a sign, spelled so
abbrev pub a_sign : Terminal → List ℕ → Form Token
a_sign kind text = word kind (λ _. sign text)

abbrev pub a_keyword : Terminal → List ℕ → Form Token
a_keyword kind text = word kind (λ _. keyword text)

abbrev pub a_name : Form Token
a_name = word w.Name (λ t. token kind.Name t.text)

abbrev pub opening : Form Token
opening = a_sign w.OpenParen (codes "(")

abbrev pub closing : Form Token
closing = a_sign w.CloseParen (codes ")")

abbrev pub comma : Form Token
comma = a_sign w.Comma (codes ",")

abbrev pub in_word : Form Token
in_word = a_keyword w.In (codes "in")

pub opening_law : (o : Eye) → Law Near o opening (one w.OpenParen)
unfolding terminal_of
opening_law o = one_law w.OpenParen (λ _. sign (codes "(")) refl refl (λ _ _. refl) o

pub closing_law : (o : Eye) → Law Near o closing (one w.CloseParen)
unfolding terminal_of
closing_law o = one_law w.CloseParen (λ _. sign (codes ")")) refl refl (λ _ _. refl) o

pub comma_law : (o : Eye) → Law Near o comma (one w.Comma)
unfolding terminal_of
comma_law o = one_law w.Comma (λ _. sign (codes ",")) refl refl (λ _ _. refl) o

pub name_law : (o : Eye) → Law Near o a_name (one w.Name)
unfolding terminal_of
name_law o = one_law w.Name (λ t. token kind.Name t.text) refl refl (λ _ _. refl) o

pub in_law : (o : Eye) → Law Near o in_word (one w.In)
unfolding terminal_of
in_law o = one_law w.In (λ _. keyword (codes "in")) refl refl (λ _ _. refl) o

-- in NAME
pub data InName : List Token → Member → List Token → Type 0 where
  in_one : (t u : Token) (rest : List Token) → terminal t ≡ w.In → terminal u ≡ w.Name
      → InName (t ∷ u ∷ []) (record { place = t.place; array = name_of u }) rest

abbrev pub in_form : Form Member
in_form = record {
  plain = λ m. keyword (codes "in") ∷ token kind.Name m.array.text ∷ [];
  bare = bare_member;
  spells =
      InName;
}

in_name_spells : (us : List Token) (p : Token × Token) (rest : List Token) → Both in_word a_name us p rest
    → InName us (record { place = p.0.place; array = name_of p.1 }) rest
in_name_spells _ _ _ (both _ _ rest _ _ (this t _ h) (this u _ k)) = in_one t u rest h k

pub in_name_law : Law Near Near in_form in_name
unfolding in_name
in_name_law ts = then_at Near Near Near in_word in_form (one w.In) _ ts (in_law Near ts)
    (λ x ts. seq_at Near Near Near in_word a_name in_form (one w.Name)
    (λ (t u : Token). pure (record { place = t.place; array = name_of u })) x ts (name_law Near ts)
    (pure_on Near (pair in_word a_name) in_form (λ p. record { place = p.0.place; array = name_of p.1 }) (λ p. refl)
    (λ p. refl) in_name_spells))

-- { in NAME }
names_spells : (us vs : List Token) (m : Member) (ms : List Member) (rest : List Token)
    → is w.In (ahead (us ++ (vs ++ rest))) ≡ true → InName us m (vs ++ rest) → Names vs ms rest
    → Names (us ++ vs) (m ∷ ms) rest
names_spells _ vs _ ms rest _ (in_one t u _ h k) g = one_name t u vs ms rest h k g

abbrev pub names : Form (List Member)
names = chain in_form Names (is w.In)

pub names_law : Law Near Near names in_names
unfolding in_names
names_law = many_law in_form Names (is w.In) no_name names_spells (λ m. omega arith) in_name (λ ts go. in_name_law ts)

pub canon_members-of : (ms : List Member) → canon_members ms ≡ flat_map in_form.plain ms
canon_members-of [] = refl
canon_members-of (m ∷ ms) = ap (λ (r : List Token). keyword (codes "in") ∷ token kind.Name m.array.text ∷ r)
    (canon_members-of ms)

pub canon-member_of : (l : Tree) (ms : List Member) → canon (member_of l ms) ≡ canon l ++ flat_map in_form.plain ms
canon-member_of l [] = sym (append-nil (canon l))
canon-member_of l (m ∷ ms) = ap (λ (r : List Token). canon l ++ r) (canon_members-of (m ∷ ms))

pub bare-member_of : (l : Tree) (ms : List Member) → bare (member_of l ms) ≡ member_of (bare l) (map bare_member ms)
bare-member_of l [] = refl
bare-member_of l (m ∷ ms) = refl
