-- The words of phrases are spelled as tokens spell them, and tokens are left behind the phrases.
use Rattle.std.proofs.Common.{◌≡◌, ℕ, ◌-◌, ◌≤◌, ◌≢◌, List, [], ◌∷◌, ◌++◌, Bool, true, false, Option, Some}
use Rattle.std.proofs.Common.{None, length, take, length-append, ◌⊎◌, inl, inr, refl, sym, ◌∙◌, ap, subst}
use Rattle.std.proofs.Common.{arith}
use lib.Seq.{take-append_seam}
use Rattle.std.specs.Prelude.{codes, ◌&&◌, ◌==◌, IfSome, is_some, All, IsTrue, nat_le, not, ⊤}
use Rattle.std.specs.List.{list_all, slice_index_or}
use Rattle.std.proofs.lemmas.Bool.{and_parts, cases_Bool, leb-true, eq-eqb, both_ways, not-true}
use Rattle.std.proofs.lemmas.List.Folds.{list_all_at}
use Rattle.std.proofs.lemmas.List.Elements.{All-nil, All-cons, All-head, All-tail}
use Rattle.std.specs.Str.{bytes_eq}
use Rattle.tv_lex.specs.Bytes.{is_word_byte, is_text_byte}
use Rattle.tv_lex.specs.Token.{SpecToken}
use Rattle.tv_lex.specs.Pieces.{IsRunOf, Stands}
use Rattle.tv_lex.specs.Spaced.{IsToken}
use Rattle.tv_lex.specs.declared.token.TokenKind.{TokenKind}
use Rattle.tv_lex.specs.declared.token.TokenKind.TheVariants as kind
use Rattle.tv_model.specs.Spelling.{IsLetter, IsDigit, IsIdentifier, IsWord, IsText}
use Rattle.tv_phrases.specs.Reading.{Reading, taken}
use Rattle.tv_phrases.specs.Tokens.{after, first, is_word, is_text, is_identifier, word_item, identifier_item}
use Rattle.tv_phrases.specs.Tokens.{text_item, unquoted}
use Rattle.tv_phrases.specs.Lists.{with_front, items_from, comma_list, optional_list, between, params}
use Rattle.tv_phrases.specs.Lists.{variables, optional_brackets, name, two_items, pair}
use Rattle.tv_phrases.proofs.Facts.{on_read, on_choose, on_if, at_some}
use Rattle.tv_phrases.proofs.WordTests.{identifier_is}
use Rattle.tv_tree.specs.Spelled.{AreIdentifiers, IsSpelledName}
use Rattle.tv_formula.specs.Grammar.{name_form, arrow}
use Rattle.tv_phrases.proofs.LeftTokens.{Tokens, run_of, leaves_after}

-- ---- one token

-- with an underscore in front, a word is an identifier
word_is : (w : List ℕ) → IsRunOf is_word_byte w → IsWord w
word_is w run =
    let longer : IsRunOf is_word_byte (95 ∷ w) = (omega arith, run.1) in
    (run.0, All-tail (λ b. IsLetter b ⊎ IsDigit b ⊎ (b ≡ 95)) 95 w (identifier_is (95 ∷ w) longer refl).0.1)

text_byte : (b : ℕ) → is_text_byte b ≡ true → (32 ≤ b) × (b ≤ 126) × (b ≢ 34)
text_byte b e =
    let two = and_parts (nat_le 32 b && nat_le b 126) (not (b == 34)) e in
    let ends = and_parts (nat_le 32 b) (nat_le b 126) two.0 in
    (leb-true 32 b ends.0, leb-true b 126 ends.1, λ same. both_ways (b == 34) (not-true (b == 34) two.1) (eq-eqb b 34 same))

text_bytes : (w : List ℕ) → IsTrue (list_all is_text_byte w) → IsText w
text_bytes w all k d below = elim (cases_Bool (is_text_byte (slice_index_or w k d))) [
  | inl h ↦ text_byte (slice_index_or w k d) h
  | inr h ↦ absurd (both_ways (list_all is_text_byte w) (list_all_at is_text_byte w k d below h) all)
]

length_inside : (inside : List ℕ) → (length (34 ∷ inside ++ 34 ∷ []) - 1) - 1 ≡ length inside
length_inside inside = omega (arith, length-append inside (34 ∷ []))

pub without_quotes : (inside : List ℕ) → unquoted (34 ∷ inside ++ 34 ∷ []) ≡ inside
without_quotes inside = ap (λ n. take n (inside ++ 34 ∷ [])) (length_inside inside) ∙ take-append_seam inside (34 ∷ [])

text_of_kind : (k : TokenKind) (b : List ℕ) → Stands (Some k) b [] → is_text k ≡ true → IsText (unquoted b)
text_of_kind kind.Word b s e = absurd cc
text_of_kind kind.Half b s e = absurd cc
text_of_kind kind.Text b s e = subst IsText (sym (ap unquoted s.1 ∙ without_quotes s.0)) (text_bytes s.0 s.2)
text_of_kind kind.Directive b s e = absurd cc
text_of_kind kind.Parts b s e = absurd cc
text_of_kind kind.Punct b s e = absurd cc

-- what an item tells of a token
abbrev pub Says : {X : Type 0} → (SpecToken → Option X) → (X → Type 0) → Type 0
Says item P = (t : SpecToken) → IsToken t → IfSome (item t) P

pub says_identifier : Says identifier_item IsIdentifier
says_identifier t is = on_if (is_word t.kind && is_identifier t.bytes) (Some t.bytes) None IsIdentifier (λ e. let both = and_parts (is_word t.kind) (is_identifier t.bytes) e in identifier_is t.bytes (run_of t.kind t.bytes is both.0) both.1) (λ e. tt)

pub says_word : Says word_item IsWord
says_word t is = on_if (is_word t.kind) (Some t.bytes) None IsWord (λ e. word_is t.bytes (run_of t.kind t.bytes is e)) (λ e. tt)

pub says_text : Says text_item IsText
says_text t is = on_if (is_text t.kind) (Some (unquoted t.bytes)) None IsText (λ e. text_of_kind t.kind t.bytes is e) (λ e. tt)

if_any : {X : Type 0} (o : Option X) → IfSome o (λ x. ⊤)
if_any None = tt
if_any (Some x) = tt

pub says_nothing : {X : Type 0} (item : SpecToken → Option X) → Says item (λ x. ⊤)
says_nothing item t is = if_any (item t)

-- ---- what stands behind a phrase is tokens too

-- the value is such, and tokens are left
abbrev pub Leaves : {X : Type 0} → (X → Type 0) → Reading X → Type 0
Leaves P read = IfSome read (λ x. P x.0 × Tokens x.1)

pub left : {X : Type 0} (read : Reading X) (P : X → Type 0) (x : X) (us : List SpecToken) → Leaves P read → read ≡ taken x us → P x × Tokens us
left read P x us leaves is = at_some read (λ y. P y.0 × Tokens y.1) (x, us) leaves is

leaves_first : {X : Type 0} (item : SpecToken → Option X) (P : X → Type 0) → Says item P → (ts : List SpecToken) → Tokens ts → Leaves P (first item ts)
unfolding first
leaves_first item P says [] are = tt
leaves_first item P says (t ∷ ts) are = on_read (item t) _ P _ (says t (All-head IsToken t ts are)) (λ x p. (p, All-tail IsToken t ts are))

pub first_leaves : {X : Type 0} (item : SpecToken → Option X) (P : X → Type 0) → Says item P → (ts us : List SpecToken) (x : X) → first item ts ≡ taken x us → Tokens ts → P x × Tokens us
first_leaves item P says ts us x is are = left (first item ts) P x us (leaves_first item P says ts are) is

leaves_items : {X : Type 0} (item : SpecToken → Option X) (P : X → Type 0) → Says item P → (flag : Bool) (ts : List SpecToken) → Tokens ts → Leaves (All P) (items_from item flag ts)
unfolding items_from with_front
leaves_items item P says true [] are = tt
leaves_items item P says true (t ∷ ts) are = on_read (item t) _ P _ (says t (All-head IsToken t ts are)) (λ x p. on_read (items_from item false ts) _ _ _ (leaves_items item P says false ts (All-tail IsToken t ts are)) (λ y q. (All-cons P x y.0 p q.0, q.1)))
leaves_items item P says false [] are = (All-nil P, are)
leaves_items item P says false (t ∷ ts) are = on_choose (after (codes ",") (t ∷ ts)) _ _ _ (λ e. (All-nil P, are)) (λ us e. leaves_items item P says true ts (All-tail IsToken t ts are))

leaves_optional : {X : Type 0} (item : SpecToken → Option X) (P : X → Type 0) → Says item P → (ts : List SpecToken) → Tokens ts → Leaves (All P) (optional_list item ts)
unfolding optional_list
leaves_optional {X} item P says ts are = on_if (is_some (first item ts)) (comma_list item ts) (taken [] ts) (λ (x : List X × List SpecToken). All P x.0 × Tokens x.1) (λ e. leaves_items item P says true ts are) (λ e. (All-nil P, are))

leaves_between : {X : Type 0} (o c : List ℕ) (read : List SpecToken → Reading X) (P : X → Type 0) → ((us : List SpecToken) → Tokens us → Leaves P (read us)) → (ts : List SpecToken) → Tokens ts → Leaves P (between o c read ts)
unfolding between
leaves_between o c read P inner ts are =
    on_read (after o ts) _ _ _ (leaves_after o ts are) (λ us b. on_read (read us) _ _ _ (inner us b) (λ x p. on_read (after c x.1) _ _ _ (leaves_after c x.1 p.1) (λ rest d. (p.0, d))))

leaves_brackets : (ts : List SpecToken) → Tokens ts → Leaves AreIdentifiers (optional_brackets ts)
unfolding optional_brackets
leaves_brackets ts are = on_choose (after (codes "[") ts) _ _ _ (λ e. (All-nil IsIdentifier, are)) (λ us e. leaves_between (codes "[") (codes "]") (comma_list identifier_item) AreIdentifiers (leaves_items identifier_item IsIdentifier says_identifier true) ts are)

leaves_name : (ts : List SpecToken) → Tokens ts → Leaves (λ n. IsSpelledName (name_form n)) (name ts)
unfolding name
leaves_name ts are =
    on_read (first identifier_item ts) _ _ _ (leaves_first identifier_item IsIdentifier says_identifier ts are) (λ w p.
    on_read (optional_brackets w.1) _ _ _ (leaves_brackets w.1 p.1) (λ b q. (record { first = p.0; brackets = q.0 }, q.1)))

leaves_two : (ts : List SpecToken) → Tokens ts → Leaves (λ x. IsIdentifier x.0 × IsIdentifier x.1) (two_items ts)
unfolding two_items
leaves_two ts are =
    on_read (first identifier_item ts) _ _ _ (leaves_first identifier_item IsIdentifier says_identifier ts are) (λ v p.
    on_read (after (codes ",") v.1) _ _ _ (leaves_after (codes ",") v.1 p.1) (λ us b.
    on_read (first identifier_item us) _ _ _ (leaves_first identifier_item IsIdentifier says_identifier us b) (λ w q. ((p.0, q.0), q.1))))

pub optional_leaves : {X : Type 0} (item : SpecToken → Option X) (P : X → Type 0) → Says item P → (ts us : List SpecToken) (xs : List X) → optional_list item ts ≡ taken xs us → Tokens ts → All P xs × Tokens us
optional_leaves item P says ts us xs is are = left (optional_list item ts) (All P) xs us (leaves_optional item P says ts are) is

pub params_leave : (ts us : List SpecToken) (xs : List (List ℕ)) → params ts ≡ taken xs us → Tokens ts → AreIdentifiers xs × Tokens us
params_leave ts us xs is are = left (params ts) AreIdentifiers xs us (leaves_between (codes "(") (codes ")") (optional_list identifier_item) AreIdentifiers (leaves_optional identifier_item IsIdentifier says_identifier) ts are) is

pub members_leave : (ts us : List SpecToken) (xs : List (List ℕ)) → between (codes "{") (codes "}") (optional_list identifier_item) ts ≡ taken xs us → Tokens ts → AreIdentifiers xs × Tokens us
members_leave ts us xs is are = left (between (codes "{") (codes "}") (optional_list identifier_item) ts) AreIdentifiers xs us (leaves_between (codes "{") (codes "}") (optional_list identifier_item) AreIdentifiers (leaves_optional identifier_item IsIdentifier says_identifier) ts are) is

pub variables_leave : (ts us : List SpecToken) (xs : List (List ℕ)) → variables ts ≡ taken xs us → Tokens ts → AreIdentifiers xs × Tokens us
variables_leave ts us xs is are = left (variables ts) AreIdentifiers xs us (leaves_between (codes "(") (codes ")") (comma_list identifier_item) AreIdentifiers (leaves_items identifier_item IsIdentifier says_identifier true) ts are) is

pub pair_leaves : (ts us : List SpecToken) (x : List ℕ × List ℕ) → pair ts ≡ taken x us → Tokens ts → (IsIdentifier x.0 × IsIdentifier x.1) × Tokens us
pair_leaves ts us x is are = left (pair ts) (λ y. IsIdentifier y.0 × IsIdentifier y.1) x us (leaves_between (codes "(") (codes ")") two_items (λ y. IsIdentifier y.0 × IsIdentifier y.1) leaves_two ts are) is

pub name_leaves : (ts us : List SpecToken) (n : List ℕ × List (List ℕ)) → name ts ≡ taken n us → Tokens ts → IsSpelledName (name_form n) × Tokens us
name_leaves ts us n is are = left (name ts) (λ m. IsSpelledName (name_form m)) n us (leaves_name ts are) is

leaves_arrow : (ts : List SpecToken) → Tokens ts → IfSome (arrow ts) Tokens
unfolding arrow
leaves_arrow ts are = on_read (after (codes "->") ts) _ _ _ (leaves_after (codes "->") ts are) (λ us b. on_choose (first text_item us) _ _ _ (λ e. b) (λ text e. tt))

pub arrow_leaves : (ts us : List SpecToken) → arrow ts ≡ Some us → Tokens ts → Tokens us
arrow_leaves ts us is are = at_some (arrow ts) Tokens us (leaves_arrow ts are) is
