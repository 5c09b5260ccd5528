-- The printed tokens of sets, of names with parameters, and of properties are read again.
use Rattle.std.proofs.Common.{◌≡◌, ℕ, List, [], ◌∷◌, ◌++◌, true, None, refl, sym, ◌∙◌, ap, subst}
use Rattle.std.specs.Prelude.{codes, IfSome, ⊤}
use Rattle.tv_lex.specs.Token.{SpecToken}
use Rattle.tv_phrases.specs.Reading.{taken}
use Rattle.tv_phrases.specs.Tokens.{after, first, is_identifier, identifier_item}
use Rattle.tv_phrases.specs.Lists.{optional_list, optional_list_in, between}
use Rattle.tv_phrases.specs.declared.kinds.Brackets.TheVariants as brackets
use Rattle.tv_phrases.specs.declared.kinds.Item.TheVariants as item
use Rattle.tv_phrases.proofs.Facts.{on_bind, on_read, at_some, other_mark, not_identifier}
use Rattle.tv_tree.specs.Forms.{NameForm, SetForm, SNamed, SMembers, SParen, SPlus, SMinus, Form, FAtom}
use Rattle.tv_tree.specs.Printed.{words_tokens, params_tokens, name_tokens, set_tokens}
use Rattle.tv_formula.specs.declared.binder.Binder.{Binder}
use Rattle.tv_formula.specs.declared.binder.Binder.TheVariants.{Exists, Forall, Closure}
use Rattle.tv_formula.specs.Grammar.{Begins, Lacks, Production, Whole, Imp, Unary, Joined, Behind, name_form}
use Rattle.tv_formula.specs.Grammar.{over, Leaf, zero_leaf, one_leaf, half_leaf, same_leaf, differ_leaf}
use Rattle.tv_formula.specs.Grammar.{atom_leaf, star_leaf, plus_leaf, Reads, cond, no_cond, joined, further}
use Rattle.tv_formula.specs.Grammar.{no_further, imp, no_imp, negation, binding, parentheses, leaf}
use Rattle.tv_formula.specs.Spelled.{kind_of, spell, spelled, EndsAlike}
use Rattle.tv_formula.proofs.Again.{AreIdent, optional_ident, word_ident, ident_again, mark_again}
use Rattle.tv_formula.proofs.Again.{other_again, spelled_append, between_again, some_items, again}
use Rattle.tv_parse.specs.Grammar.{IsSetTerm, IsSetFront, IsSet, IsHead, IsSignature}
use Rattle.tv_front.proofs.PartExact.{head_tokens}

-- ---- members of a set

-- what a list of members in braces tells
abbrev AreMembers : List SpecToken → List (List ℕ) × List SpecToken → Type 0
AreMembers ts x = ((us : List SpecToken) × Begins (codes "{") ts us) × AreIdent x.0

are_members : (ts : List SpecToken) → IfSome (optional_list_in brackets.Curly item.Identifier ts) (λ x. AreMembers ts x)
unfolding between
are_members ts = on_bind (after (codes "{") ts) _ _ (λ us e. on_read (optional_list identifier_item us) _ _ _ (optional_ident us) (λ x p. on_bind (after (codes "}") x.1) _ _ (λ rest f. ((us, e), p))))

members_tell : (ts us : List SpecToken) (xs : List (List ℕ)) → optional_list_in brackets.Curly item.Identifier ts ≡ taken xs us → AreMembers ts (xs, us)
members_tell ts us xs is = at_some (optional_list_in brackets.Curly item.Identifier ts) (λ x. AreMembers ts x) (xs, us) (are_members ts) is

no_members : (end : List SpecToken) → optional_list identifier_item (spell (codes "}") ∷ end) ≡ taken [] (spell (codes "}") ∷ end)
unfolding optional_list first kind_of
no_members end = refl

inside_again : (ws : List (List ℕ)) (end : List SpecToken) → AreIdent ws → optional_list identifier_item (spelled (words_tokens ws) (spell (codes "}") ∷ end)) ≡ taken ws (spell (codes "}") ∷ end)
inside_again [] end are = no_members end
inside_again (w ∷ ws) end are = some_items w ws (spell (codes "}") ∷ end) are (other_again (codes "}") (codes ",") end refl)

members_again : (ws : List (List ℕ)) (end : List SpecToken) → AreIdent ws → optional_list_in brackets.Curly item.Identifier (spelled (codes "{" ∷ (words_tokens ws ++ codes "}" ∷ [])) end) ≡ taken ws end
members_again ws end are =
    between_again (codes "{") (codes "}") (optional_list identifier_item) ws (spelled (words_tokens ws ++ codes "}" ∷ []) end) end
    (ap (λ ts. optional_list identifier_item ts) (spelled_append (words_tokens ws) (codes "}" ∷ []) end) ∙ inside_again ws end are)

-- ---- sets

-- a set in parentheses
abbrev InParens : SetForm → List SpecToken → List SpecToken → Type 0
InParens s ts rest = (us vs : List SpecToken) × Begins (codes "(") ts us × IsSetFront us s vs × Lacks (codes "+") vs × Lacks (codes "-") vs × Begins (codes ")") vs rest

parens_again : (s : SetForm) (end : List SpecToken) → IsSetFront (spelled (set_tokens s) (spell (codes ")") ∷ end)) s (spell (codes ")") ∷ end) → InParens s (spelled (set_tokens (SParen s)) end) end
parens_again s end front = (
  spelled (set_tokens s ++ codes ")" ∷ []) end,
  spell (codes ")") ∷ end,
  mark_again (codes "(") (spelled (set_tokens s ++ codes ")" ∷ []) end),
  subst (λ (ts : List SpecToken). IsSetFront ts s (spell (codes ")") ∷ end)) (sym (spelled_append (set_tokens s) (codes ")" ∷ []) end)) front,
  other_again (codes ")") (codes "+") end refl,
  other_again (codes ")") (codes "-") end refl,
  mark_again (codes ")") end,
)

-- two sets with a sign between them
abbrev Signed : List ℕ → SetForm → SetForm → List SpecToken → List SpecToken → Type 0
Signed sign s t ts rest = (us vs : List SpecToken) × IsSetFront ts s us × Begins sign us vs × IsSetTerm vs t rest

signed_again : (sign : List ℕ) (s t : SetForm) (end : List SpecToken) → IsSetFront (spelled (set_tokens s) (spell sign ∷ spelled (set_tokens t) end)) s (spell sign ∷ spelled (set_tokens t) end)
    → IsSetTerm (spelled (set_tokens t) end) t end → Signed sign s t (spelled (set_tokens s ++ sign ∷ set_tokens t) end) end
signed_again sign s t end front term = (
  spell sign ∷ spelled (set_tokens t) end,
  spelled (set_tokens t) end,
  subst (λ (ts : List SpecToken). IsSetFront ts s (spell sign ∷ spelled (set_tokens t) end)) (sym (spelled_append (set_tokens s) (sign ∷ set_tokens t) end)) front,
  mark_again sign (spelled (set_tokens t) end),
  term,
)

mutual
  term_again : (s : SetForm) (ts rest end : List SpecToken) → IsSetTerm ts s rest → IsSetTerm (spelled (set_tokens s) end) s end
  term_again (SNamed w) ts rest end h = ident_again w end (word_ident ts rest w h)
  term_again (SMembers xs) ts rest end h = members_again xs end (members_tell ts rest xs h).1
  term_again (SParen s) ts rest end h = parens_again s end (front_again s h.0 h.1 (spell (codes ")") ∷ end) h.3)
  term_again (SPlus s t) ts rest end h = absurd h
  term_again (SMinus s t) ts rest end h = absurd h

  front_again : (s : SetForm) (ts rest end : List SpecToken) → IsSetFront ts s rest → IsSetFront (spelled (set_tokens s) end) s end
  front_again (SNamed w) ts rest end h = ident_again w end (word_ident ts rest w h)
  front_again (SMembers xs) ts rest end h = members_again xs end (members_tell ts rest xs h).1
  front_again (SParen s) ts rest end h = parens_again s end (front_again s h.0 h.1 (spell (codes ")") ∷ end) h.3)
  front_again (SPlus s t) ts rest end h = signed_again (codes "+") s t end (front_again s ts h.0 (spell (codes "+") ∷ spelled (set_tokens t) end) h.2) (term_again t h.1 rest end h.4)
  front_again (SMinus s t) ts rest end h = signed_again (codes "-") s t end (front_again s ts h.0 (spell (codes "-") ∷ spelled (set_tokens t) end) h.2) (term_again t h.1 rest end h.4)

pub set_again : (s : SetForm) (ts rest end : List SpecToken) → IsSet ts s rest → EndsAlike rest end → IsSet (spelled (set_tokens s) end) s end
set_again s ts rest end h alike = (front_again s ts rest end h.0, alike.marks (codes "+") h.1, alike.marks (codes "-") h.2)

-- no `=` begins a set
pub set_lacks : (s : SetForm) (ts rest : List SpecToken) → IsSetFront ts s rest → after (codes "=") ts ≡ None
set_lacks (SNamed w) ts rest h = not_identifier (codes "=") w ts rest refl h
set_lacks (SMembers xs) ts rest h = let brace = (members_tell ts rest xs h).0 in other_mark (codes "{") (codes "=") ts brace.0 refl brace.1
set_lacks (SParen s) ts rest h = other_mark (codes "(") (codes "=") ts h.0 refl h.2
set_lacks (SPlus s t) ts rest h = set_lacks s ts h.0 h.2
set_lacks (SMinus s t) ts rest h = set_lacks s ts h.0 h.2

head_at : (var : List ℕ) (s : SetForm) (end : List SpecToken) → is_identifier var ≡ true → IsSet (spelled (set_tokens s) (spell (codes ")") ∷ spell (codes "{") ∷ end)) s (spell (codes ")") ∷ spell (codes "{") ∷ end)
    → IsHead (spell (codes "(") ∷ spell var ∷ spell (codes "in") ∷ spelled (set_tokens s) (spell (codes ")") ∷ spell (codes "{") ∷ end)) var s end
head_at var s end is set =
    let inner = spelled (set_tokens s) (spell (codes ")") ∷ spell (codes "{") ∷ end) in (
      spell var ∷ spell (codes "in") ∷ inner,
      spell (codes "in") ∷ inner,
      inner,
      spell (codes ")") ∷ spell (codes "{") ∷ end,
      spell (codes "{") ∷ end,
      mark_again (codes "(") (spell var ∷ spell (codes "in") ∷ inner),
      ident_again var (spell (codes "in") ∷ inner) is,
      mark_again (codes "in") inner,
      set,
      mark_again (codes ")") (spell (codes "{") ∷ end),
      mark_again (codes "{") end,
    )

pub head_again : (ts rest end : List SpecToken) (var : List ℕ) (s : SetForm) → IsHead ts var s rest → IsHead (spelled (head_tokens var s) end) var s end
head_again ts rest end var s (us, vs, ws, xs, ys, a, b, c, d, e, f) =
    let close = spell (codes ")") ∷ spell (codes "{") ∷ end in
    let set : IsSet (spelled (set_tokens s) close) s close = (front_again s ws xs close d.0, other_again (codes ")") (codes "+") (spell (codes "{") ∷ end) refl, other_again (codes ")") (codes "-") (spell (codes "{") ∷ end) refl) in
    subst (λ (zs : List SpecToken). IsHead (spell (codes "(") ∷ spell var ∷ spell (codes "in") ∷ zs) var s end) (sym (spelled_append (set_tokens s) (codes ")" ∷ codes "{" ∷ []) end))
    (head_at var s end (word_ident us vs var b) set)

-- ---- a name with its parameters: an atom of the grammar of formulas

abbrev SaysUnary : List SpecToken → Form → List SpecToken → Type 0
SaysUnary ts (FAtom n xs) rest = IsSignature ts n xs rest
SaysUnary ts _ rest = ⊤

abbrev Says : Production → List SpecToken → Form → List SpecToken → Type 0
Says Whole ts f rest = ⊤
Says Imp ts f rest = ⊤
Says Unary ts f rest = SaysUnary ts f rest
Says (Joined link) ts f rest = ⊤
Says (Behind link f) ts g rest = ⊤

leaf_says : (ts rest : List SpecToken) (f : Form) → Leaf ts f rest → SaysUnary ts f rest
leaf_says _ _ _ (zero_leaf ts rest a) = tt
leaf_says _ _ _ (one_leaf ts rest a) = tt
leaf_says _ _ _ (half_leaf ts rest a) = tt
leaf_says _ _ _ (same_leaf ts us vs rest v w a b c) = tt
leaf_says _ _ _ (differ_leaf ts us vs rest v w a b c) = tt
leaf_says _ _ _ (atom_leaf ts us rest n xs a b) = (us, n, a, refl, b)
leaf_says _ _ _ (star_leaf ts us vs rest n x a b c) = tt
leaf_says _ _ _ (plus_leaf ts us vs rest n x a b c) = tt

over_says : (b : Binder) (ts : List SpecToken) (f : Form) (rest : List SpecToken) → SaysUnary ts (over b f) rest
over_says (Exists xs) ts f rest = tt
over_says (Forall xs) ts f rest = tt
over_says (Closure from to left right) ts f rest = tt

reads_says : (p : Production) (ts rest : List SpecToken) (f : Form) → Reads p ts f rest → Says p ts f rest
reads_says _ _ _ _ (cond ts us vs ws xs rest f g h a b c d e) = tt
reads_says _ _ _ _ (no_cond ts rest f a b) = tt
reads_says _ _ _ _ (joined link part ts us rest f g a b c) = tt
reads_says _ _ _ _ (further link part ts us vs rest f g both h a b c d e) = tt
reads_says _ _ _ _ (no_further link ts f a) = tt
reads_says _ _ _ _ (imp ts us vs rest f g a b c) = tt
reads_says _ _ _ _ (no_imp ts rest f a b) = tt
reads_says _ _ _ _ (negation ts us rest f a b) = tt
reads_says _ _ _ _ (binding ts us rest binder f g a b c) = subst (λ (k : Form). SaysUnary ts k rest) c (over_says binder ts f rest)
reads_says _ _ _ _ (parentheses ts us vs rest f a b c) = tt
reads_says _ _ _ _ (leaf ts rest f a) = leaf_says ts rest f a

pub signature_again : (ts rest end : List SpecToken) (n : NameForm) (xs : List (List ℕ)) → IsSignature ts n xs rest → EndsAlike rest end → IsSignature (spelled (name_tokens n ++ params_tokens xs) end) n xs end
signature_again ts rest end n xs (us, w, a, e, b) alike =
    subst (λ (m : NameForm). IsSignature (spelled (name_tokens m ++ params_tokens xs) end) m xs end) (sym e)
    (reads_says Unary (spelled (name_tokens (name_form w) ++ params_tokens xs) end) end (FAtom (name_form w) xs)
    (again Unary ts rest (FAtom (name_form w) xs) (leaf ts rest (FAtom (name_form w) xs) (atom_leaf ts us rest w xs a b)) end alike).0)
