-- A text writes one policy, and spells scripts of one program.
use Rattle.std.proofs.Common.{◌≡◌, ◌∙◌, ℕ, Bool, true, false, ◌&&◌, not, List, [], ◌∷◌, Option, refl, sym, ap, subst}
use Rattle.std.specs.Prelude.{Some, None, codes, map, is_none}
use Rattle.std.specs.List.{AllZip}
use Rattle.toml.specs.Data.{Members, get_member}
use Rattle.toml.specs.Parse.{parse_document}
use Rattle.awk_lowering.specs.Programs.{program}
use Rattle.awk_parse.proofs.Laws.{scripts_have_one_tree}
use Rattle.awk_parse.specs.Scripts.{IsScriptOf}
use Rattle.awk_parse.specs.SpellsScripts.{SpellsScript}
use Rattle.awk_parse.specs.declared.script.Script.{Script}
use Rattle.awk_program.specs.View.{view_program}
use Rattle.awk_resolve.specs.Assigns.{can_assign}
use Rattle.awk_resolve.specs.Kinds as k
use Rattle.awk_resolve.specs.Kinds.{Kind, Named, global, texts}
use Rattle.awk_resolve.specs.Marks.{has, AreKinds}
use Rattle.awk_resolve.specs.Mentions.{part}
use Rattle.awk_resolve.specs.Said.{defined}
use Rattle.awk_resolve.specs.Tables.{tables, variables, variable_flags, all_flags, arrays_by}
use Rattle.awk_resolve.specs.declared.kinds.Kinds.{Kinds}
use Rattle.awk_resolve.specs.declared.mention.Section.{Section}
use Rattle.awk_tokens.proofs.Once.{read_once}
use Rattle.awk_tokens.specs.Reads.{Reads}
use Rattle.awk_tokens.specs.Words.{is_name, reserved}
use Rattle.awk_tokens.specs.declared.token.Token.{Token}
use Rattle.awk_tree.specs.Tree.{Entry}
use Rattle.box_policy.specs.Rulebook.{Rulebook}
use Rattle.box_policy.specs.Tree.{text_at, tables_of}
use Rattle.box_policy.specs.Words.{effect_of, kind_of, pattern_of, from_of}
use Rattle.box_policy.specs.Written.{WritesRule, Writes, Written}
use Rattle.box_policy.specs.declared.policy.Rule.{Rule}
use Rattle.listing_laws.specs.OneText.{OnePolicy, SameScript, OneProgram}

-- ---- policies

same_some : {A : Type 0} (x y : A) (o : Option A) → o ≡ Some x → o ≡ Some y → x ≡ y
same_some x y o e f = cc

one_rule : (table : Members) (a b : Rule) → WritesRule table a → WritesRule table b → a ≡ b
one_rule table a b x y =
    let effect = same_some a.effect b.effect (effect_of table) x.effect y.effect in
    let kind = same_some a.kind b.kind (kind_of table) x.kind y.kind in
    let pattern = same_some a.pattern b.pattern (pattern_of table) x.pattern y.pattern in
    let only_given = same_some a.only_given b.only_given (from_of table) x.only_given y.only_given in
    λ i. record { effect = effect i; kind = kind i; only_given = only_given i; pattern = pattern i }

same_rules : (ts : List Members) (xs ys : List Rule) → AllZip WritesRule ts xs → AllZip WritesRule ts ys → xs ≡ ys
same_rules [] [] [] h i = refl
same_rules [] [] (y ∷ ys) h i = absurd i
same_rules [] (x ∷ xs) ys h i = absurd h
same_rules (t ∷ ts) [] ys h i = absurd h
same_rules (t ∷ ts) (x ∷ xs) [] h i = absurd i
same_rules (t ∷ ts) (x ∷ xs) (y ∷ ys) h i =
    let first = one_rule t x y h.0 i.0 in
    let rest = same_rules ts xs ys h.1 i.1 in
    λ j. first j ∷ rest j

one_book : (tree : Members) (a b : Rulebook) → Writes tree a → Writes tree b → a ≡ b
one_book tree a b x y =
    let base = same_some a.base b.base (text_at (codes "base") tree) x.base y.base in
    let rules = same_rules (tables_of (get_member (codes "rule") tree)) a.rules b.rules x.rules y.rules in
    λ i. record { base = base i; rules = rules i }

pub one_policy : OnePolicy
one_policy text book other x y =
    let tree = same_some x.tree y.tree (parse_document text) x.read y.read in
    one_book y.tree book other (subst (λ t. Writes t book) tree x.writes) y.writes

-- ---- scripts

both_ways : (b c : Bool) → (b ≡ true → c ≡ true) → (c ≡ true → b ≡ true) → b ≡ c
both_ways true c f g = sym (f refl)
both_ways false true f g = g refl
both_ways false false f g = refl

same_kind : (parts : List Section) (c d : Kinds) → AreKinds parts c → AreKinds parts d → (name : Named) (kind : Kind) →
    has c name kind ≡ has d name kind
same_kind parts c d x y name kind =
    both_ways (has c name kind) (has d name kind) (λ h. (y name kind).1 ((x name kind).0 h))
    (λ h. (x name kind).1 ((y name kind).0 h))

same_tables : (parts : List Section) (c d : Kinds) → AreKinds parts c → AreKinds parts d
    → tables c parts ≡ tables d parts
same_tables parts c d x y =
    let e : arrays_by c ≡ arrays_by d = λ i name. same_kind parts c d x y name k.array i in
    λ i. record {
      variables = variables parts;
      script_arrays = variable_flags (e i) (variables parts);
      functions = texts (defined parts);
      arrays = all_flags (e i) parts;
    }

pub same_script : (items : List Entry) (s r : Script) → s.numbers ≡ r.numbers → IsScriptOf items s
    → IsScriptOf items r → SameScript s r
same_script items s r e x y =
    let parts = map part items in
    let same : (name : Named) (kind : Kind) → has s.kinds name kind ≡ has r.kinds name kind =
    λ name kind. same_kind parts s.kinds r.kinds x.kinds y.kinds name kind in
    let programs : view_program s.program ≡ view_program r.program =
    x.program ∙ ap (λ t. program s.numbers t items) (same_tables parts s.kinds r.kinds x.kinds y.kinds)
    ∙ ap (λ n. program n (tables r.kinds parts) items) e ∙ sym y.program in
    let assigns : (name : List ℕ) → can_assign s.kinds name ≡ can_assign r.kinds name =
    λ name i. is_name name
    && (is_none (reserved name) && (not (same (global name) k.array i) && not (same (global name) k.function i))) in
    let environ : s.names_environ ≡ r.names_environ = x.environ ∙ sym y.environ in
    record { program = programs; assigns = assigns; environ = environ; main = x.main ∙ sym y.main }

pub one_program : OneProgram
one_program text tokens others s r e reads is too again =
    let so : Reads s.numbers text others = subst (λ n. Reads n text others) (sym e) too in
    let same : others ≡ tokens = read_once s.numbers text tokens others reads so in
    let items = scripts_have_one_tree tokens again.0 is.0 (subst (λ z. SpellsScript z again.0) same again.1) is.1 in
    same_script is.0 s r e is.2 (subst (λ z. IsScriptOf z r) items again.2)
