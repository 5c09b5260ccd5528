-- The tokens of a printed formula are read as that formula.
use Rattle.std.proofs.Common.{◌≡◌, ℕ, List, [], ◌∷◌, ◌++◌, Some, None, Bool, true, false, refl, sym, ◌∙◌, ap}
use Rattle.std.proofs.Common.{subst, map, append_assoc}
use Rattle.std.specs.Prelude.{codes, IfSome, if◌then◌else◌, ◌&&◌, is_some}
use Rattle.std.specs.Str.{bytes_eq}
use Rattle.std.proofs.lemmas.Slice.Eq.{bytes_eq-Decides}
use Rattle.std.proofs.lemmas.Bool.{false_from_ne_true}
use Rattle.tv_lex.specs.Token.{SpecToken}
use Rattle.tv_lex.specs.declared.token.TokenKind.{TokenKind}
use Rattle.tv_lex.specs.declared.token.TokenKind.TheVariants as kind
use Rattle.tv_phrases.specs.Reading.{Reading, taken}
use Rattle.tv_phrases.specs.Tokens.{after, first, is_word, is_identifier, begins_name, identifier_item}
use Rattle.tv_phrases.specs.Tokens.{text_item}
use Rattle.tv_phrases.specs.Lists.{with_front, items_from, comma_list, optional_list, between}
use Rattle.tv_phrases.specs.Lists.{optional_brackets, variables, params, name, two_items, pair}
use Rattle.tv_phrases.proofs.Facts.{on_bind, on_read, on_choose, on_if, at_some}
use Rattle.tv_tree.specs.Forms.{Form, FSame, FDiffer, FAtom, FStar, FPlus, FParen, FNot, FImp, FCond}
use Rattle.tv_tree.specs.Printed.{formula_tokens, words_tokens, more_tokens, one_token, params_tokens}
use Rattle.tv_tree.specs.Printed.{brackets_tokens, name_tokens, pair_tokens}
use Rattle.tv_formula.specs.declared.binder.Binder.{Binder}
use Rattle.tv_formula.specs.declared.binder.Binder.TheVariants.{Exists, Forall, Closure}
use Rattle.tv_formula.specs.declared.link.Link.{Link}
use Rattle.tv_formula.specs.declared.link.Link.TheVariants.{Iff, Or, And}
use Rattle.tv_formula.specs.Grammar.{Production, Whole, Imp, Unary, Joined, Behind, mark_of, join, operand}
use Rattle.tv_formula.specs.Grammar.{name_form, arrow, over, Leaf, zero_leaf, one_leaf, half_leaf, same_leaf}
use Rattle.tv_formula.specs.Grammar.{differ_leaf, atom_leaf, star_leaf, plus_leaf, Binds, binds_some}
use Rattle.tv_formula.specs.Grammar.{binds_all, binds_pairs, Reads, cond, no_cond, joined, further}
use Rattle.tv_formula.specs.Grammar.{no_further, imp, no_imp, negation, binding, parentheses, leaf, IsFormula}
use Rattle.tv_formula.specs.Spelled.{kind_of, spell, spelled, EndsAlike, formula_front}
use Rattle.tv_lemmas.proofs.Bools.{none_alike, and_left, and_right, if_true}

-- ---- identifiers

abbrev IsIdent : List ℕ → Type 0
IsIdent w = is_identifier w ≡ true

-- each of them
abbrev pub AreIdent : List (List ℕ) → Type 0
AreIdent [] = Unit {0}
AreIdent (w ∷ ws) = IsIdent w × AreIdent ws

ident_of : (t : SpecToken) → IfSome (identifier_item t) IsIdent
ident_of t = on_if (is_word t.kind && is_identifier t.bytes) _ _ _ (λ e. and_right (is_word t.kind) (is_identifier t.bytes) e) (λ e. tt)

first_ident : (ts : List SpecToken) → IfSome (first identifier_item ts) (λ x. IsIdent x.0)
unfolding first
first_ident [] = tt
first_ident (t ∷ ts) = on_read (identifier_item t) _ _ _ (ident_of t) (λ w h. h)

pub word_ident : (ts us : List SpecToken) (w : List ℕ) → first identifier_item ts ≡ taken w us → IsIdent w
word_ident ts us w is = at_some (first identifier_item ts) (λ x. IsIdent x.0) (w, us) (first_ident ts) is

items_ident : (flag : Bool) (ts : List SpecToken) → IfSome (items_from identifier_item flag ts) (λ x. AreIdent x.0)
unfolding items_from with_front
items_ident true [] = tt
items_ident true (t ∷ ts) = on_read (identifier_item t) _ _ _ (ident_of t) (λ w h. on_read (items_from identifier_item false ts) _ _ _ (items_ident false ts) (λ x k. (h, k)))
items_ident false [] = tt
items_ident false (t ∷ ts) = on_choose (after (codes ",") (t ∷ ts)) _ _ _ (λ e. tt) (λ us e. items_ident true ts)

half_no : (w : List ℕ) → IsIdent w → bytes_eq w (codes "1/2") ≡ true → ⊥
half_no w is e = let same : w ≡ codes "1/2" = (bytes_eq-Decides w (codes "1/2")).0 e in let half : is_identifier (codes "1/2") ≡ true = subst (λ (z : List ℕ). is_identifier z ≡ true) same is in cc

word_kind : (half name : Bool) (w : List ℕ) → bytes_eq w (codes "1/2") ≡ half → begins_name w ≡ name → half ≡ false → name ≡ true → is_word (kind_of w) ≡ true
unfolding kind_of
word_kind half name w a b c d = rw (a, c, b, d) refl

pub ident_kind : (w : List ℕ) → IsIdent w → is_word (kind_of w) ≡ true
ident_kind w is = word_kind (bytes_eq w (codes "1/2")) (begins_name w) w refl refl (false_from_ne_true (bytes_eq w (codes "1/2")) (half_no w is)) (and_left (begins_name w) _ is)

-- an identifier is read where it is spelled
pub ident_again : (w : List ℕ) (end : List SpecToken) → IsIdent w → first identifier_item (spell w ∷ end) ≡ taken w end
unfolding first
ident_again w end is = rw (ident_kind w is, is) refl

no_text_kind : (k : TokenKind) (b : List ℕ) (end : List SpecToken) → is_word k ≡ true → first text_item (record { kind = k; bytes = b } ∷ end) ≡ None
unfolding first
no_text_kind kind.Word b end e = refl
no_text_kind kind.Half b end e = cc
no_text_kind kind.Text b end e = cc
no_text_kind kind.Directive b end e = cc
no_text_kind kind.Parts b end e = cc
no_text_kind kind.Punct b end e = cc

not_text : (w : List ℕ) (end : List SpecToken) → IsIdent w → first text_item (spell w ∷ end) ≡ None
not_text w end is = no_text_kind (kind_of w) w end (ident_kind w is)

-- ---- lists, names and pairs

pub mark_again : (m : List ℕ) (end : List SpecToken) → after m (spell m ∷ end) ≡ Some end
unfolding after
mark_again m end = rw ((bytes_eq-Decides m m).1 refl) refl

pub other_again : (m k : List ℕ) (end : List SpecToken) → bytes_eq m k ≡ false → after k (spell m ∷ end) ≡ None
unfolding after
other_again m k end differ = rw differ refl

map_append : {A B : Type 0} (f : A → B) (xs ys : List A) → map f (xs ++ ys) ≡ map f xs ++ map f ys
map_append f [] ys = refl
map_append f (x ∷ xs) ys = ap (λ zs. f x ∷ zs) (map_append f xs ys)

pub spelled_append : (vs ws : List (List ℕ)) (end : List SpecToken) → spelled (vs ++ ws) end ≡ spelled vs (spelled ws end)
spelled_append vs ws end = ap (λ ts. ts ++ end) (map_append spell vs ws) ∙ append_assoc (map spell vs) (map spell ws) end

ident_item : (w : List ℕ) → IsIdent w → identifier_item (spell w) ≡ Some w
ident_item w is = rw (ident_kind w is, is) refl

items_end : (end : List SpecToken) → after (codes ",") end ≡ None → items_from identifier_item false end ≡ taken [] end
unfolding items_from
items_end [] lacks = refl
items_end (t ∷ ts) lacks = rw lacks refl

item_more : (w : List ℕ) (ws : List (List ℕ)) (ts end : List SpecToken) → IsIdent w → items_from identifier_item false ts ≡ taken ws end → items_from identifier_item true (spell w ∷ ts) ≡ taken (w ∷ ws) end
unfolding items_from with_front
item_more w ws ts end is more = rw (ident_item w is, more) refl

comma_more : (ts end : List SpecToken) (ws : List (List ℕ)) → items_from identifier_item true ts ≡ taken ws end → items_from identifier_item false (spell (codes ",") ∷ ts) ≡ taken ws end
unfolding items_from
comma_more ts end ws more = rw (mark_again (codes ",") ts) more

more_again : (ws : List (List ℕ)) (end : List SpecToken) → AreIdent ws → after (codes ",") end ≡ None → items_from identifier_item false (spelled (more_tokens (codes ",") one_token ws) end) ≡ taken ws end
more_again [] end are lacks = items_end end lacks
more_again (w ∷ ws) end are lacks =
    comma_more (spell w ∷ spelled (more_tokens (codes ",") one_token ws) end) end (w ∷ ws)
    (item_more w ws (spelled (more_tokens (codes ",") one_token ws) end) end are.0 (more_again ws end are.1 lacks))

items_again : (w : List ℕ) (ws : List (List ℕ)) (end : List SpecToken) → AreIdent (w ∷ ws) → after (codes ",") end ≡ None → items_from identifier_item true (spelled (words_tokens (w ∷ ws)) end) ≡ taken (w ∷ ws) end
items_again w ws end are lacks = item_more w ws (spelled (more_tokens (codes ",") one_token ws) end) end are.0 (more_again ws end are.1 lacks)

pub between_again : {X : Type 0} (o c : List ℕ) (read : List SpecToken → Reading X) (x : X) (ts end : List SpecToken) → read ts ≡ taken x (spell c ∷ end) → between o c read (spell o ∷ ts) ≡ taken x end
unfolding between
between_again o c read x ts end is = rw (mark_again o ts, is, mark_again c end) refl

listed_again : (o c : List ℕ) (w : List ℕ) (ws : List (List ℕ)) (end : List SpecToken) → AreIdent (w ∷ ws) → bytes_eq c (codes ",") ≡ false → between o c (comma_list identifier_item) (spelled (o ∷ (words_tokens (w ∷ ws) ++ c ∷ [])) end) ≡ taken (w ∷ ws) end
listed_again o c w ws end are differ =
    ap (λ ts. between o c (comma_list identifier_item) (spell o ∷ ts)) (spelled_append (words_tokens (w ∷ ws)) (c ∷ []) end)
    ∙ between_again o c (comma_list identifier_item) (w ∷ ws) (spelled (words_tokens (w ∷ ws)) (spell c ∷ end)) end (items_again w ws (spell c ∷ end) are (other_again c (codes ",") end differ))

no_items : (end : List SpecToken) → optional_list identifier_item (spell (codes ")") ∷ end) ≡ taken [] (spell (codes ")") ∷ end)
unfolding optional_list first kind_of
no_items end = refl

pub some_items : (w : List ℕ) (ws : List (List ℕ)) (end : List SpecToken) → AreIdent (w ∷ ws) → after (codes ",") end ≡ None → optional_list identifier_item (spelled (words_tokens (w ∷ ws)) end) ≡ taken (w ∷ ws) end
unfolding optional_list
some_items w ws end are lacks = rw (ident_again w (spelled (more_tokens (codes ",") one_token ws) end) are.0) (items_again w ws end are lacks)

params_again : (ws : List (List ℕ)) (end : List SpecToken) → AreIdent ws → params (spelled (params_tokens ws) end) ≡ taken ws end
params_again [] end are = between_again (codes "(") (codes ")") (optional_list identifier_item) [] (spell (codes ")") ∷ end) end (no_items end)
params_again (w ∷ ws) end are =
    ap (λ ts. params (spell (codes "(") ∷ ts)) (spelled_append (words_tokens (w ∷ ws)) (codes ")" ∷ []) end)
    ∙ between_again (codes "(") (codes ")") (optional_list identifier_item) (w ∷ ws) (spelled (words_tokens (w ∷ ws)) (spell (codes ")") ∷ end)) end (some_items w ws (spell (codes ")") ∷ end) are (other_again (codes ")") (codes ",") end refl))

variables_again : (w : List ℕ) (ws : List (List ℕ)) (end : List SpecToken) → AreIdent (w ∷ ws) → variables (spelled (params_tokens (w ∷ ws)) end) ≡ taken (w ∷ ws) end
variables_again w ws end are = listed_again (codes "(") (codes ")") w ws end are refl

no_brackets : (end : List SpecToken) → after (codes "[") end ≡ None → optional_brackets end ≡ taken [] end
unfolding optional_brackets
no_brackets end lacks = rw lacks refl

some_brackets : (w : List ℕ) (ws : List (List ℕ)) (end : List SpecToken) → AreIdent (w ∷ ws) → optional_brackets (spelled (brackets_tokens (w ∷ ws)) end) ≡ taken (w ∷ ws) end
unfolding optional_brackets
some_brackets w ws end are = rw (mark_again (codes "[") (spelled (words_tokens (w ∷ ws) ++ codes "]" ∷ []) end)) (listed_again (codes "[") (codes "]") w ws end are refl)

brackets_again : (ws : List (List ℕ)) (end : List SpecToken) → AreIdent ws → after (codes "[") end ≡ None → optional_brackets (spelled (brackets_tokens ws) end) ≡ taken ws end
brackets_again [] end are lacks = no_brackets end lacks
brackets_again (w ∷ ws) end are lacks = some_brackets w ws end are

name_again : (n : List ℕ × List (List ℕ)) (end : List SpecToken) → IsIdent n.0 → AreIdent n.1 → after (codes "[") end ≡ None → name (spelled (name_tokens (name_form n)) end) ≡ taken n end
unfolding name
name_again n end is are lacks = rw (ident_again n.0 (spelled (brackets_tokens n.1) end) is, brackets_again n.1 end are lacks) refl

two_again : (v w : List ℕ) (end : List SpecToken) → IsIdent v → IsIdent w → two_items (spell v ∷ spell (codes ",") ∷ spell w ∷ end) ≡ taken (v, w) end
unfolding two_items
two_again v w end a b = rw (ident_again v (spell (codes ",") ∷ spell w ∷ end) a, mark_again (codes ",") (spell w ∷ end), ident_again w end b) refl

pair_again : (x : List ℕ × List ℕ) (end : List SpecToken) → IsIdent x.0 × IsIdent x.1 → pair (spelled (pair_tokens x.0 x.1) end) ≡ taken x end
pair_again x end are = between_again (codes "(") (codes ")") two_items x (spell x.0 ∷ spell (codes ",") ∷ spell x.1 ∷ spell (codes ")") ∷ end) end (two_again x.0 x.1 (spell (codes ")") ∷ end) are.0 are.1)

-- ---- what was read is made of identifiers

pub optional_ident : (ts : List SpecToken) → IfSome (optional_list identifier_item ts) (λ x. AreIdent x.0)
unfolding optional_list
optional_ident ts = on_if (is_some (first identifier_item ts)) (comma_list identifier_item ts) (taken [] ts) (λ (x : List (List ℕ) × List SpecToken). AreIdent x.0) (λ e. items_ident true ts) (λ e. tt)

between_says : {X : Type 0} (o c : List ℕ) (read : List SpecToken → Reading X) (P : X → Type 0) (ts : List SpecToken) → ((us : List SpecToken) → IfSome (read us) (λ x. P x.0)) → IfSome (between o c read ts) (λ x. P x.0)
unfolding between
between_says o c read P ts h = on_bind (after o ts) _ _ (λ us e. on_read (read us) _ _ _ (h us) (λ x p. on_bind (after c x.1) _ _ (λ rest f. p)))

params_ident : (ts us : List SpecToken) (xs : List (List ℕ)) → params ts ≡ taken xs us → AreIdent xs
params_ident ts us xs is = at_some (params ts) (λ x. AreIdent x.0) (xs, us) (between_says (codes "(") (codes ")") (optional_list identifier_item) AreIdent ts optional_ident) is

-- one item or more, and each an identifier
abbrev AreSome : List (List ℕ) → Type 0
AreSome [] = ⊥
AreSome (w ∷ ws) = AreIdent (w ∷ ws)

items_some : (ts : List SpecToken) → IfSome (items_from identifier_item true ts) (λ x. AreSome x.0)
unfolding items_from with_front
items_some [] = tt
items_some (t ∷ ts) = on_read (identifier_item t) _ _ _ (ident_of t) (λ w h. on_read (items_from identifier_item false ts) _ _ _ (items_ident false ts) (λ x k. (h, k)))

variables_some : (ts us : List SpecToken) (xs : List (List ℕ)) → variables ts ≡ taken xs us → AreSome xs
variables_some ts us xs is = at_some (variables ts) (λ x. AreSome x.0) (xs, us) (between_says (codes "(") (codes ")") (comma_list identifier_item) AreSome ts items_some) is

two_ident : (ts : List SpecToken) → IfSome (two_items ts) (λ x. IsIdent x.0.0 × IsIdent x.0.1)
unfolding two_items
two_ident ts = on_read (first identifier_item ts) _ _ _ (first_ident ts) (λ v a. on_bind (after (codes ",") v.1) _ _ (λ us e. on_read (first identifier_item us) _ _ _ (first_ident us) (λ w b. (a, b))))

pair_ident : (ts us : List SpecToken) (x : List ℕ × List ℕ) → pair ts ≡ taken x us → IsIdent x.0 × IsIdent x.1
pair_ident ts us x is = at_some (pair ts) (λ y. IsIdent y.0.0 × IsIdent y.0.1) (x, us) (between_says (codes "(") (codes ")") two_items (λ y. IsIdent y.0 × IsIdent y.1) ts two_ident) is

brackets_ident : (ts : List SpecToken) → IfSome (optional_brackets ts) (λ x. AreIdent x.0)
unfolding optional_brackets
brackets_ident ts = on_choose (after (codes "[") ts) _ _ _ (λ e. tt) (λ us e. between_says (codes "[") (codes "]") (comma_list identifier_item) AreIdent ts (items_ident true))

name_ident : (ts us : List SpecToken) (n : List ℕ × List (List ℕ)) → name ts ≡ taken n us → IsIdent n.0 × AreIdent n.1
unfolding name
name_ident ts us n is = at_some (name ts) (λ x. IsIdent x.0.0 × AreIdent x.0.1) (n, us) (on_read (first identifier_item ts) _ _ _ (first_ident ts) (λ w a. on_read (optional_brackets w.1) _ _ _ (brackets_ident w.1) (λ b c. (a, c)))) is

-- ---- formulas without formulas in them

leaf_again : (ts rest : List SpecToken) (f : Form) → Leaf ts f rest → (end : List SpecToken) → Leaf (formula_front f end) f end × (first text_item (formula_front f end) ≡ None)
unfolding first kind_of
leaf_again _ _ _ (zero_leaf ts rest a) end = (zero_leaf (spell (codes "0") ∷ end) end (mark_again (codes "0") end), refl)
leaf_again _ _ _ (one_leaf ts rest a) end = (one_leaf (spell (codes "1") ∷ end) end (mark_again (codes "1") end), refl)
leaf_again _ _ _ (half_leaf ts rest a) end = (half_leaf (spell (codes "1/2") ∷ end) end (mark_again (codes "1/2") end), refl)
leaf_again _ _ _ (same_leaf ts us vs rest v w a b c) end =
    let left = word_ident ts us v a in
    let right = word_ident vs rest w c in
    (same_leaf (formula_front (FSame v w) end) (spell (codes "==") ∷ spell w ∷ end) (spell w ∷ end) end v w (ident_again v _ left) (mark_again (codes "==") _) (ident_again w end right), not_text v _ left)
leaf_again _ _ _ (differ_leaf ts us vs rest v w a b c) end =
    let left = word_ident ts us v a in
    let right = word_ident vs rest w c in
    (differ_leaf (formula_front (FDiffer v w) end) (spell (codes "!=") ∷ spell w ∷ end) (spell w ∷ end) end v w (ident_again v _ left) (mark_again (codes "!=") _) (ident_again w end right), not_text v _ left)
leaf_again _ _ _ (atom_leaf ts us rest n xs a b) end =
    let are = name_ident ts us n a in
    let args = params_ident us rest xs b in
    let all = spelled_append (name_tokens (name_form n)) (params_tokens xs) end in
    (atom_leaf (formula_front (FAtom (name_form n) xs) end) (spelled (params_tokens xs) end) end n xs (ap name all ∙ name_again n (spelled (params_tokens xs) end) are.0 are.1 (other_again (codes "(") (codes "[") _ refl)) (params_again xs end args), not_text n.0 _ are.0)
leaf_again _ _ _ (star_leaf ts us vs rest n x a b c) end =
    let are = name_ident ts us n a in
    let args = pair_ident vs rest x c in
    let all = spelled_append (name_tokens (name_form n)) (codes "*" ∷ pair_tokens x.0 x.1) end in
    (star_leaf (formula_front (FStar (name_form n) x.0 x.1) end) (spell (codes "*") ∷ spelled (pair_tokens x.0 x.1) end) (spelled (pair_tokens x.0 x.1) end) end n x (ap name all ∙ name_again n (spell (codes "*") ∷ spelled (pair_tokens x.0 x.1) end) are.0 are.1 (other_again (codes "*") (codes "[") _ refl)) (mark_again (codes "*") _) (pair_again x end args), not_text n.0 _ are.0)
leaf_again _ _ _ (plus_leaf ts us vs rest n x a b c) end =
    let are = name_ident ts us n a in
    let args = pair_ident vs rest x c in
    let all = spelled_append (name_tokens (name_form n)) (codes "+" ∷ pair_tokens x.0 x.1) end in
    (plus_leaf (formula_front (FPlus (name_form n) x.0 x.1) end) (spell (codes "+") ∷ spelled (pair_tokens x.0 x.1) end) (spelled (pair_tokens x.0 x.1) end) end n x (ap name all ∙ name_again n (spell (codes "+") ∷ spelled (pair_tokens x.0 x.1) end) are.0 are.1 (other_again (codes "+") (codes "[") _ refl)) (mark_again (codes "+") _) (pair_again x end args), not_text n.0 _ are.0)

-- ---- binders

abbrev binder_tokens : Binder → List (List ℕ)
binder_tokens (Exists xs) = codes "E" ∷ params_tokens xs
binder_tokens (Forall xs) = codes "A" ∷ params_tokens xs
binder_tokens (Closure from to left right) = codes "TC" ∷ (pair_tokens from to ++ pair_tokens left right)

over_tokens : (b : Binder) (f : Form) (end : List SpecToken) → formula_front (over b f) end ≡ spelled (binder_tokens b) (formula_front f end)
over_tokens (Exists xs) f end = spelled_append (codes "E" ∷ params_tokens xs) (formula_tokens f) end
over_tokens (Forall xs) f end = spelled_append (codes "A" ∷ params_tokens xs) (formula_tokens f) end
over_tokens (Closure from to left right) f end = spelled_append (codes "TC" ∷ (pair_tokens from to ++ pair_tokens left right)) (formula_tokens f) end

variables_back : (xs : List (List ℕ)) (end : List SpecToken) → AreSome xs → variables (spelled (params_tokens xs) end) ≡ taken xs end
variables_back [] end are = absurd are
variables_back (w ∷ ws) end are = variables_again w ws end are

binds_again : (ts rest : List SpecToken) (b : Binder) → Binds ts b rest → (end : List SpecToken) → Binds (spelled (binder_tokens b) end) b end × (first text_item (spelled (binder_tokens b) end) ≡ None)
unfolding first kind_of
binds_again _ _ _ (binds_some ts us rest xs a b) end =
    (binds_some (spelled (codes "E" ∷ params_tokens xs) end) (spelled (params_tokens xs) end) end xs (mark_again (codes "E") _) (variables_back xs end (variables_some us rest xs b)), refl)
binds_again _ _ _ (binds_all ts us rest xs a b) end =
    (binds_all (spelled (codes "A" ∷ params_tokens xs) end) (spelled (params_tokens xs) end) end xs (mark_again (codes "A") _) (variables_back xs end (variables_some us rest xs b)), refl)
binds_again _ _ _ (binds_pairs ts us vs rest x y a b c) end =
    let from = pair_ident us vs x b in
    let into = pair_ident vs rest y c in
    (binds_pairs (spelled (codes "TC" ∷ (pair_tokens x.0 x.1 ++ pair_tokens y.0 y.1)) end) (spelled (pair_tokens x.0 x.1) (spelled (pair_tokens y.0 y.1) end)) (spelled (pair_tokens y.0 y.1) end) end x y (mark_again (codes "TC") _) (pair_again x (spelled (pair_tokens y.0 y.1) end) from) (pair_again y end into), refl)

-- ---- formulas

spelled_so : (k : List ℕ) (t : SpecToken) (ts us : List SpecToken) → (if bytes_eq t.bytes k then Some ts else None) ≡ Some us → t.bytes ≡ k
spelled_so k t ts us is = (bytes_eq-Decides t.bytes k).0 (if_true (bytes_eq t.bytes k) ts us is)

exclamation_no_text : (end : List SpecToken) → first text_item (spell (codes "!") ∷ end) ≡ None
unfolding first kind_of
exclamation_no_text end = refl

bracket_no_text : (end : List SpecToken) → first text_item (spell (codes "(") ∷ end) ≡ None
unfolding first kind_of
bracket_no_text end = refl

arrow_none : (ts : List SpecToken) → after (codes "->") ts ≡ None → arrow ts ≡ None
unfolding arrow
arrow_none ts lacks = rw lacks refl

arrow_some : (ts us : List SpecToken) → after (codes "->") ts ≡ Some us → first text_item us ≡ None → arrow ts ≡ Some us
unfolding arrow
arrow_some ts us begins none = rw (begins, none) refl

arrow_begins : (ts us : List SpecToken) → arrow ts ≡ Some us → after (codes "->") ts ≡ Some us
unfolding arrow
arrow_begins ts us is =
    at_some (arrow ts) (λ vs. after (codes "->") ts ≡ Some vs) us
    (on_bind (after (codes "->") ts) _ _ (λ vs begins. on_choose (first text_item vs) _ _ _ (λ e. begins) (λ x e. tt))) is

-- tokens with the same mark at their front
lacks_alike : (k m : List ℕ) (ts us end : List SpecToken) → after k ts ≡ Some us → after m ts ≡ None → after m (spell k ∷ end) ≡ None
unfolding after
lacks_alike k m [] us end is lacks = cc
lacks_alike k m (t ∷ ts) us end is lacks =
    let same : t.bytes ≡ k = spelled_so k t ts us is in
    subst (λ (b : List ℕ). (if bytes_eq b m then Some end else None) ≡ None) same (none_alike (bytes_eq t.bytes m) ts end lacks)

ends_mark : (k : List ℕ) (ts us end : List SpecToken) → bytes_eq k (codes "->") ≡ false → after k ts ≡ Some us → EndsAlike ts (spell k ∷ end)
ends_mark k ts us end differ is = record {
  marks = λ m lacks. lacks_alike k m ts us end is lacks;
  arrows = λ e. arrow_none (spell k ∷ end) (other_again k (codes "->") end differ);
}

ends_arrow : (ts us end : List SpecToken) → arrow ts ≡ Some us → EndsAlike ts (spell (codes "->") ∷ end)
ends_arrow ts us end is = record {
  marks = λ m lacks. lacks_alike (codes "->") m ts us end (arrow_begins ts us is) lacks;
  arrows = λ e. absurd (let clash : None ≡ Some us = sym e ∙ is in cc);
}

-- read again in front of these tokens, and not taken for a string
abbrev Back : Production → Form → List SpecToken → Type 0
Back p f end = Reads p (formula_front f end) f end × (first text_item (formula_front f end) ≡ None)

-- behind a left part, the tokens that are read to this formula again
abbrev BackBehind : Link → Form → List SpecToken → Form → List SpecToken → Type 0
BackBehind link f ts g end = (more : List SpecToken) × (formula_front g end ≡ formula_front f more) × EndsAlike ts more × Reads (Behind link f) more g end

abbrev Again : Production → List SpecToken → Form → List SpecToken → Type 0
Again Whole ts f end = Back Whole f end
Again Imp ts f end = Back Imp f end
Again Unary ts f end = Back Unary f end
Again (Joined link) ts f end = Back (Joined link) f end
Again (Behind link f) ts g end = BackBehind link f ts g end

by_link : (link : Link) (ts : List SpecToken) (f : Form) (end : List SpecToken) → Again (operand link) ts f end → Back (operand link) f end
by_link Iff ts f end h = h
by_link Or ts f end h = h
by_link And ts f end h = h

operand_back : (link : Link) (part : Production) (ts : List SpecToken) (f : Form) (end : List SpecToken) → operand link ≡ part → Again part ts f end → Back part f end
operand_back link part ts f end e = subst (λ (q : Production). Again q ts f end → Back q f end) e (by_link link ts f end)

-- the tokens of two joined formulas
join_tokens : (link : Link) (f g : Form) (end : List SpecToken) → formula_front (join link f g) end ≡ formula_front f (spell (mark_of link) ∷ formula_front g end)
join_tokens Iff f g end = spelled_append (formula_tokens f) (codes "<->" ∷ formula_tokens g) end
join_tokens Or f g end = spelled_append (formula_tokens f) (codes "|" ∷ formula_tokens g) end
join_tokens And f g end = spelled_append (formula_tokens f) (codes "&" ∷ formula_tokens g) end

no_arrow : (link : Link) → bytes_eq (mark_of link) (codes "->") ≡ false
no_arrow Iff = refl
no_arrow Or = refl
no_arrow And = refl

cond_tokens : (f g h : Form) (end : List SpecToken) → formula_front (FCond f g h) end ≡ formula_front f (spell (codes "?") ∷ formula_front g (spell (codes ":") ∷ formula_front h end))
cond_tokens f g h end =
    spelled_append (formula_tokens f) (codes "?" ∷ (formula_tokens g ++ codes ":" ∷ formula_tokens h)) end
    ∙ ap (λ ts. formula_front f (spell (codes "?") ∷ ts)) (spelled_append (formula_tokens g) (codes ":" ∷ formula_tokens h) end)

-- the same formula, at tokens that are equal
back_at : (p : Production) (f : Form) (ts end : List SpecToken) → formula_front f end ≡ ts → Reads p ts f end → first text_item ts ≡ None → Back p f end
back_at p f ts end e reads none = (subst (λ (us : List SpecToken). Reads p us f end) (sym e) reads, ap (first text_item) e ∙ none)

pub again : (p : Production) (ts rest : List SpecToken) (f : Form) → Reads p ts f rest → (end : List SpecToken) → EndsAlike rest end → Again p ts f end
again _ _ _ _ (cond ts us vs ws xs rest f g h a b c d e) end alike =
    let second = again Whole xs rest h e end alike in
    let first_ = again Whole vs ws g c (spell (codes ":") ∷ formula_front h end) (ends_mark (codes ":") ws xs (formula_front h end) refl d) in
    let test = again (Joined Iff) ts us f a (spell (codes "?") ∷ formula_front g (spell (codes ":") ∷ formula_front h end)) (ends_mark (codes "?") us vs (formula_front g (spell (codes ":") ∷ formula_front h end)) refl b) in
    back_at Whole (FCond f g h) (formula_front f (spell (codes "?") ∷ formula_front g (spell (codes ":") ∷ formula_front h end))) end (cond_tokens f g h end)
    (cond (formula_front f (spell (codes "?") ∷ formula_front g (spell (codes ":") ∷ formula_front h end))) (spell (codes "?") ∷ formula_front g (spell (codes ":") ∷ formula_front h end)) (formula_front g (spell (codes ":") ∷ formula_front h end)) (spell (codes ":") ∷ formula_front h end) (formula_front h end) end f g h test.0 (mark_again (codes "?") _) first_.0 (mark_again (codes ":") _) second.0)
    test.1
again _ _ _ _ (no_cond ts rest f a b) end alike =
    let back = again (Joined Iff) ts rest f a end alike in
    (no_cond (formula_front f end) end f back.0 (alike.marks (codes "?") b), back.1)
again _ _ _ _ (joined link part ts us rest f g a b c) end alike =
    let behind = again (Behind link f) us rest g c end alike in
    let left = operand_back link part ts f behind.0 a (again part ts us f b behind.0 behind.2) in
    back_at (Joined link) g (formula_front f behind.0) end behind.1 (joined link part (formula_front f behind.0) behind.0 end f g a left.0 behind.3) left.1
again _ _ _ _ (further link part ts us vs rest f g both h a b c d e) end alike =
    let behind = again (Behind link both) vs rest h e end alike in
    let right = operand_back link part us g behind.0 b (again part us vs g c behind.0 behind.2) in
    let more = spell (mark_of link) ∷ formula_front g behind.0 in (
      more,
      behind.1 ∙ ap (λ k. formula_front k behind.0) (sym d) ∙ join_tokens link f g behind.0,
      ends_mark (mark_of link) ts us (formula_front g behind.0) (no_arrow link) a,
      further link part more (formula_front g behind.0) behind.0 end f g both h (mark_again (mark_of link) (formula_front g behind.0)) b right.0 d behind.3,
    )
again _ _ _ _ (no_further link ts f a) end alike = (end, refl, alike, no_further link end f (alike.marks (mark_of link) a))
again _ _ _ _ (imp ts us vs rest f g a b c) end alike =
    let right = again Imp vs rest g c end alike in
    let left = again (Joined Or) ts us f a (spell (codes "->") ∷ formula_front g end) (ends_arrow us vs (formula_front g end) b) in
    back_at Imp (FImp f g) (formula_front f (spell (codes "->") ∷ formula_front g end)) end (spelled_append (formula_tokens f) (codes "->" ∷ formula_tokens g) end)
    (imp (formula_front f (spell (codes "->") ∷ formula_front g end)) (spell (codes "->") ∷ formula_front g end) (formula_front g end) end f g left.0 (arrow_some (spell (codes "->") ∷ formula_front g end) (formula_front g end) (mark_again (codes "->") (formula_front g end)) right.1) right.0)
    left.1
again _ _ _ _ (no_imp ts rest f a b) end alike =
    let back = again (Joined Or) ts rest f a end alike in
    (no_imp (formula_front f end) end f back.0 (alike.arrows b), back.1)
again _ _ _ _ (negation ts us rest f a b) end alike =
    let inner = again Unary us rest f b end alike in
    (negation (formula_front (FNot f) end) (formula_front f end) end f (mark_again (codes "!") (formula_front f end)) inner.0, exclamation_no_text (formula_front f end))
again _ _ _ _ (binding ts us rest binder f g a b c) end alike =
    let body = again Whole us rest f b end alike in
    let binds = binds_again ts us binder a (formula_front f end) in
    back_at Unary g (spelled (binder_tokens binder) (formula_front f end)) end (ap (λ k. formula_front k end) (sym c) ∙ over_tokens binder f end)
    (binding (spelled (binder_tokens binder) (formula_front f end)) (formula_front f end) end binder f g binds.0 body.0 c)
    binds.1
again _ _ _ _ (parentheses ts us vs rest f a b c) end alike =
    let inner = again Whole us vs f b (spell (codes ")") ∷ end) (ends_mark (codes ")") vs rest end refl c) in
    back_at Unary (FParen f) (spell (codes "(") ∷ formula_front f (spell (codes ")") ∷ end)) end (ap (λ us. spell (codes "(") ∷ us) (spelled_append (formula_tokens f) (codes ")" ∷ []) end))
    (parentheses (spell (codes "(") ∷ formula_front f (spell (codes ")") ∷ end)) (formula_front f (spell (codes ")") ∷ end)) (spell (codes ")") ∷ end) end f (mark_again (codes "(") _) inner.0 (mark_again (codes ")") end))
    (bracket_no_text (formula_front f (spell (codes ")") ∷ end)))
again _ _ _ _ (leaf ts rest f a) end alike =
    let back = leaf_again ts rest f a end in
    (leaf (formula_front f end) end f back.0, back.1)

pub formula_again : (ts rest end : List SpecToken) (f : Form) → IsFormula ts f rest → EndsAlike rest end → IsFormula (formula_front f end) f end
formula_again ts rest end f is alike = (again Whole ts rest f is end alike).0
