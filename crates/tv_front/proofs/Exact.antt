-- Tokens off whose front a phrase was read are the printed tokens of the phrase, and those behind it.
use Rattle.std.proofs.Common.{◌≡◌, ℕ, List, [], ◌∷◌, ◌++◌, Bool, true, false, Option, Some, None, refl, sym}
use Rattle.std.proofs.Common.{◌∙◌, ap, subst}
use Rattle.std.specs.Prelude.{codes, IfSome, if◌then◌else◌, ◌&&◌, is_some}
use Rattle.std.specs.List.{AllByRecursion}
use Rattle.std.specs.Str.{bytes_eq}
use Rattle.std.proofs.lemmas.Bool.{false≢true}
use Rattle.std.proofs.lemmas.Slice.Eq.{bytes_eq-Decides}
use Rattle.tv_lex.specs.Token.{SpecToken}
use Rattle.tv_lex.specs.Pieces.{Stands}
use Rattle.tv_lex.specs.Spaced.{IsToken}
use Rattle.tv_lex.specs.declared.token.TokenKind.{TokenKind}
use Rattle.tv_lex.specs.declared.token.TokenKind.TheVariants as kind
use Rattle.tv_phrases.specs.Reading.{Reading, taken}
use Rattle.tv_phrases.specs.Tokens.{after, first, is_word, is_text, is_identifier, identifier_item, word_item}
use Rattle.tv_phrases.specs.Tokens.{text_item, unquoted}
use Rattle.tv_phrases.specs.Lists.{with_front, items_from, comma_list, optional_list, optional_list_in}
use Rattle.tv_phrases.specs.Lists.{between, optional_brackets, variables, params, name, two_items, pair}
use Rattle.tv_phrases.specs.declared.kinds.Brackets.TheVariants as brackets
use Rattle.tv_phrases.specs.declared.kinds.Item.TheVariants as item
use Rattle.tv_phrases.proofs.Facts.{on_bind, on_read, on_choose, on_if, on_more, at_some}
use Rattle.tv_tree.specs.Printed.{words_tokens, more_tokens, one_token, params_tokens, brackets_tokens}
use Rattle.tv_tree.specs.Printed.{name_tokens, pair_tokens}
use Rattle.tv_formula.specs.Grammar.{name_form}
use Rattle.tv_formula.specs.Spelled.{spell, spelled}
use Rattle.tv_formula.proofs.Again.{spelled_append}
use Rattle.tv_parse.proofs.SpelledPhrases.{without_quotes}
use Rattle.tv_front.proofs.Spelling.{spell_is}

abbrev pub Tokens : List SpecToken → Type 0
Tokens ts = AllByRecursion IsToken ts

-- the tokens are these, in front of the rest
abbrev pub Exact : List SpecToken → List (List ℕ) → List SpecToken → Type 0
Exact ts ws rest = (ts ≡ spelled ws rest) × Tokens rest

pub exact_then : (ts us rest : List SpecToken) (vs ws : List (List ℕ)) → Exact ts vs us → Exact us ws rest → Exact ts (vs ++ ws) rest
exact_then ts us rest vs ws a b = (a.0 ∙ ap (λ xs. spelled vs xs) b.0 ∙ sym (spelled_append vs ws rest), b.1)

pub none_exact : (ts rest : List SpecToken) → rest ≡ ts → Tokens ts → Exact ts [] rest
none_exact ts rest e are = (sym e, subst Tokens (sym e) are)

-- ---- one token

pub one_exact : (t : SpecToken) (ts : List SpecToken) (w : List ℕ) → Tokens (t ∷ ts) → t.bytes ≡ w → Exact (t ∷ ts) (w ∷ []) ts
one_exact t ts w are e = (ap (λ x. x ∷ ts) (sym (spell_is t are.0)) ∙ ap (λ b. spell b ∷ ts) e, are.1)

marked_exact : (b : Bool) (m : List ℕ) (t : SpecToken) (ts : List SpecToken) → bytes_eq t.bytes m ≡ b → Tokens (t ∷ ts) → IfSome (if b then Some ts else None) (λ us. Exact (t ∷ ts) (m ∷ []) us)
marked_exact true m t ts e are = one_exact t ts m are ((bytes_eq-Decides t.bytes m).0 e)
marked_exact false m t ts e are = tt

exact_after : (m : List ℕ) (ts : List SpecToken) → Tokens ts → IfSome (after m ts) (λ us. Exact ts (m ∷ []) us)
unfolding after
exact_after m [] are = tt
exact_after m (t ∷ ts) are = marked_exact (bytes_eq t.bytes m) m t ts refl are

pub after_exact : (m : List ℕ) (ts us : List SpecToken) → after m ts ≡ Some us → Tokens ts → Exact ts (m ∷ []) us
after_exact m ts us is are = at_some (after m ts) (λ xs. Exact ts (m ∷ []) xs) us (exact_after m ts are) is

-- an item's value tells how its token is spelled
abbrev pub Tells : {X : Type 0} → (SpecToken → Option X) → (X → List ℕ) → Type 0
Tells item spelling = (t : SpecToken) → IsToken t → IfSome (item t) (λ x. t.bytes ≡ spelling x)

abbrev pub itself : List ℕ → List ℕ
itself w = w

-- a string with its quotes
abbrev pub quoted : List ℕ → List ℕ
quoted s = codes "\"" ++ s ++ codes "\""

pub tells_identifier : Tells identifier_item itself
tells_identifier t is = on_if (is_word t.kind && is_identifier t.bytes) (Some t.bytes) None (λ w. t.bytes ≡ w) (λ e. refl) (λ e. tt)

pub tells_word : Tells word_item itself
tells_word t is = on_if (is_word t.kind) (Some t.bytes) None (λ w. t.bytes ≡ w) (λ e. refl) (λ e. tt)

string_is : (k : TokenKind) (b : List ℕ) → Stands (Some k) b [] → is_text k ≡ true → b ≡ quoted (unquoted b)
string_is kind.Word b s e = absurd (false≢true e)
string_is kind.Half b s e = absurd (false≢true e)
string_is kind.Text b s e = s.1 ∙ ap quoted (sym (ap unquoted s.1 ∙ without_quotes s.0))
string_is kind.Directive b s e = absurd (false≢true e)
string_is kind.Parts b s e = absurd (false≢true e)
string_is kind.Punct b s e = absurd (false≢true e)

pub tells_text : Tells text_item quoted
tells_text t is = on_if (is_text t.kind) (Some (unquoted t.bytes)) None (λ s. t.bytes ≡ quoted s) (λ e. string_is t.kind t.bytes is e) (λ e. tt)

exact_first : {X : Type 0} (item : SpecToken → Option X) (spelling : X → List ℕ) → Tells item spelling → (ts : List SpecToken) → Tokens ts → IfSome (first item ts) (λ x. Exact ts (spelling x.0 ∷ []) x.1)
unfolding first
exact_first item spelling tells [] are = tt
exact_first item spelling tells (t ∷ ts) are = on_read (item t) _ _ _ (tells t are.0) (λ x e. one_exact t ts (spelling x) are e)

pub first_exact : {X : Type 0} (item : SpecToken → Option X) (spelling : X → List ℕ) → Tells item spelling → (ts us : List SpecToken) (x : X) → first item ts ≡ taken x us → Tokens ts → Exact ts (spelling x ∷ []) us
first_exact item spelling tells ts us x is are = at_some (first item ts) (λ y. Exact ts (spelling y.0 ∷ []) y.1) (x, us) (exact_first item spelling tells ts are) is

pub word_exact : (ts us : List SpecToken) (w : List ℕ) → first identifier_item ts ≡ taken w us → Tokens ts → Exact ts (w ∷ []) us
word_exact ts us w is are = first_exact identifier_item itself tells_identifier ts us w is are

-- ---- comma lists

-- the words of a comma list, from a word on, or from behind one
abbrev FromWord : List SpecToken → List (List ℕ) → List SpecToken → Type 0
FromWord ts [] rest = ⊥
FromWord ts (w ∷ ws) rest = Exact ts (words_tokens (w ∷ ws)) rest

abbrev FromItem : Bool → List SpecToken → List (List ℕ) → List SpecToken → Type 0
FromItem true ts ws rest = FromWord ts ws rest
FromItem false ts ws rest = Exact ts (more_tokens (codes ",") one_token ws) rest

same_first : (t u : SpecToken) (ts us : List SpecToken) → t ∷ ts ≡ u ∷ us → t ≡ u
same_first t u ts us e = cc

comma_exact : (t : SpecToken) (ts us : List SpecToken) → after (codes ",") (t ∷ ts) ≡ Some us → Tokens (t ∷ ts) → Exact (t ∷ ts) (codes "," ∷ []) ts
comma_exact t ts us is are =
    let e : t ∷ ts ≡ spell (codes ",") ∷ us = (after_exact (codes ",") (t ∷ ts) us is are).0 in
    one_exact t ts (codes ",") are (ap (λ (x : SpecToken). x.bytes) (same_first t (spell (codes ",")) ts us e))

more_exact : (t : SpecToken) (ts us rest : List SpecToken) (ws : List (List ℕ)) → after (codes ",") (t ∷ ts) ≡ Some us → Tokens (t ∷ ts) → FromWord ts ws rest → Exact (t ∷ ts) (more_tokens (codes ",") one_token ws) rest
more_exact t ts us rest [] is are h = absurd h
more_exact t ts us rest (w ∷ ws) is are h = exact_then (t ∷ ts) ts rest (codes "," ∷ []) (words_tokens (w ∷ ws)) (comma_exact t ts us is are) h

exact_items : (item : SpecToken → Option (List ℕ)) → Tells item itself → (flag : Bool) (ts : List SpecToken) → Tokens ts → IfSome (items_from item flag ts) (λ x. FromItem flag ts x.0 x.1)
unfolding items_from with_front
exact_items item tells true [] are = tt
exact_items item tells true (t ∷ ts) are = on_read (item t) _ _ _ (tells t are.0) (λ w e. on_read (items_from item false ts) _ _ _ (exact_items item tells false ts are.1) (λ x g. exact_then (t ∷ ts) ts x.1 (w ∷ []) (more_tokens (codes ",") one_token x.0) (one_exact t ts w are e) g))
exact_items item tells false [] are = (refl, tt)
exact_items item tells false (t ∷ ts) are = on_choose (after (codes ",") (t ∷ ts)) _ _ _ (λ e. (refl, are)) (λ us e. on_more (items_from item true ts) _ _ (exact_items item tells true ts are.1) (λ x g. more_exact t ts us x.1 x.0 e are g))

words_exact : (ts rest : List SpecToken) (ws : List (List ℕ)) → FromWord ts ws rest → Exact ts (words_tokens ws) rest
words_exact ts rest [] h = absurd h
words_exact ts rest (w ∷ ws) h = h

exact_list : (item : SpecToken → Option (List ℕ)) → Tells item itself → (ts : List SpecToken) → Tokens ts → IfSome (comma_list item ts) (λ x. Exact ts (words_tokens x.0) x.1)
exact_list item tells ts are = on_more (comma_list item ts) _ _ (exact_items item tells true ts are) (λ x h. words_exact ts x.1 x.0 h)

exact_optional : (item : SpecToken → Option (List ℕ)) → Tells item itself → (ts : List SpecToken) → Tokens ts → IfSome (optional_list item ts) (λ x. Exact ts (words_tokens x.0) x.1)
unfolding optional_list
exact_optional item tells ts are = on_if (is_some (first item ts)) (comma_list item ts) (taken [] ts) (λ (x : List (List ℕ) × List SpecToken). Exact ts (words_tokens x.0) x.1) (λ e. exact_list item tells ts are) (λ e. (refl, are))

pub optional_exact : (item : SpecToken → Option (List ℕ)) → Tells item itself → (ts us : List SpecToken) (ws : List (List ℕ)) → optional_list item ts ≡ taken ws us → Tokens ts → Exact ts (words_tokens ws) us
optional_exact item tells ts us ws is are = at_some (optional_list item ts) (λ x. Exact ts (words_tokens x.0) x.1) (ws, us) (exact_optional item tells ts are) is

-- ---- brackets

exact_between : {X : Type 0} (o c : List ℕ) (read : List SpecToken → Reading X) (inside : X → List (List ℕ)) → ((us : List SpecToken) → Tokens us → IfSome (read us) (λ x. Exact us (inside x.0) x.1))
    → (ts : List SpecToken) → Tokens ts → IfSome (between o c read ts) (λ x. Exact ts (o ∷ (inside x.0 ++ c ∷ [])) x.1)
unfolding between
exact_between o c read inside h ts are =
    on_bind (after o ts) _ _ (λ us e. let a = after_exact o ts us e are in
    on_read (read us) _ _ _ (h us a.1) (λ x g. on_bind (after c x.1) _ _ (λ rest f.
    exact_then ts us rest (o ∷ []) (inside x.0 ++ c ∷ []) a (exact_then us x.1 rest (inside x.0) (c ∷ []) g (after_exact c x.1 rest f g.1)))))

pub params_exact : (ts us : List SpecToken) (xs : List (List ℕ)) → params ts ≡ taken xs us → Tokens ts → Exact ts (params_tokens xs) us
params_exact ts us xs is are =
    at_some (params ts) (λ x. Exact ts (params_tokens x.0) x.1) (xs, us)
    (exact_between (codes "(") (codes ")") (optional_list identifier_item) words_tokens (exact_optional identifier_item tells_identifier) ts are) is

pub variables_exact : (ts us : List SpecToken) (xs : List (List ℕ)) → variables ts ≡ taken xs us → Tokens ts → Exact ts (params_tokens xs) us
variables_exact ts us xs is are =
    at_some (variables ts) (λ x. Exact ts (params_tokens x.0) x.1) (xs, us)
    (exact_between (codes "(") (codes ")") (comma_list identifier_item) words_tokens (exact_list identifier_item tells_identifier) ts are) is

pub members_exact : (ts us : List SpecToken) (xs : List (List ℕ)) → optional_list_in brackets.Curly item.Identifier ts ≡ taken xs us → Tokens ts → Exact ts (codes "{" ∷ (words_tokens xs ++ codes "}" ∷ [])) us
members_exact ts us xs is are =
    at_some (optional_list_in brackets.Curly item.Identifier ts) (λ x. Exact ts (codes "{" ∷ (words_tokens x.0 ++ codes "}" ∷ [])) x.1) (xs, us)
    (exact_between (codes "{") (codes "}") (optional_list identifier_item) words_tokens (exact_optional identifier_item tells_identifier) ts are) is

-- two words with a comma between them
abbrev two_tokens : List ℕ × List ℕ → List (List ℕ)
two_tokens x = x.0 ∷ codes "," ∷ x.1 ∷ []

exact_two : (ts : List SpecToken) → Tokens ts → IfSome (two_items ts) (λ x. Exact ts (two_tokens x.0) x.1)
unfolding two_items
exact_two ts are =
    on_bind (first identifier_item ts) _ _ (λ v a. let left = word_exact ts v.1 v.0 a are in
    on_bind (after (codes ",") v.1) _ _ (λ us b. let comma = after_exact (codes ",") v.1 us b left.1 in
    on_bind (first identifier_item us) _ _ (λ w c. let right = word_exact us w.1 w.0 c comma.1 in
    exact_then ts v.1 w.1 (v.0 ∷ []) (codes "," ∷ w.0 ∷ []) left (exact_then v.1 us w.1 (codes "," ∷ []) (w.0 ∷ []) comma right))))

pub pair_exact : (ts us : List SpecToken) (x : List ℕ × List ℕ) → pair ts ≡ taken x us → Tokens ts → Exact ts (pair_tokens x.0 x.1) us
pair_exact ts us x is are =
    at_some (pair ts) (λ y. Exact ts (pair_tokens y.0.0 y.0.1) y.1) (x, us)
    (exact_between (codes "(") (codes ")") two_items two_tokens exact_two ts are) is

-- ---- names

brackets_some : (ts us vs rest : List SpecToken) (ws : List (List ℕ)) → Exact ts (codes "[" ∷ []) us → FromWord us ws vs → Exact vs (codes "]" ∷ []) rest → Exact ts (brackets_tokens ws) rest
brackets_some ts us vs rest [] a h c = absurd h
brackets_some ts us vs rest (w ∷ ws) a h c = exact_then ts us rest (codes "[" ∷ []) (words_tokens (w ∷ ws) ++ codes "]" ∷ []) a (exact_then us vs rest (words_tokens (w ∷ ws)) (codes "]" ∷ []) h c)

exact_square : (ts : List SpecToken) → Tokens ts → IfSome (between (codes "[") (codes "]") (comma_list identifier_item) ts) (λ x. Exact ts (brackets_tokens x.0) x.1)
unfolding between
exact_square ts are =
    on_bind (after (codes "[") ts) _ _ (λ us e. let a = after_exact (codes "[") ts us e are in
    on_read (comma_list identifier_item us) _ _ _ (exact_items identifier_item tells_identifier true us a.1) (λ x g. on_bind (after (codes "]") x.1) _ _ (λ rest f.
    brackets_some ts us x.1 rest x.0 a g (after_exact (codes "]") x.1 rest f (words_exact us x.1 x.0 g).1))))

exact_brackets : (ts : List SpecToken) → Tokens ts → IfSome (optional_brackets ts) (λ x. Exact ts (brackets_tokens x.0) x.1)
unfolding optional_brackets
exact_brackets ts are = on_choose (after (codes "[") ts) _ _ _ (λ e. (refl, are)) (λ us e. exact_square ts are)

exact_name : (ts : List SpecToken) → Tokens ts → IfSome (name ts) (λ x. Exact ts (name_tokens (name_form x.0)) x.1)
unfolding name
exact_name ts are =
    on_bind (first identifier_item ts) _ _ (λ w a. let word_ = word_exact ts w.1 w.0 a are in
    on_read (optional_brackets w.1) _ _ _ (exact_brackets w.1 word_.1) (λ b g. exact_then ts w.1 b.1 (w.0 ∷ []) (brackets_tokens b.0) word_ g))

pub name_exact : (ts us : List SpecToken) (n : List ℕ × List (List ℕ)) → name ts ≡ taken n us → Tokens ts → Exact ts (name_tokens (name_form n)) us
name_exact ts us n is are = at_some (name ts) (λ x. Exact ts (name_tokens (name_form x.0)) x.1) (n, us) (exact_name ts are) is
