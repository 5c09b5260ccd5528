-- The printed tokens are those of the text, but for the `=` that may stand behind the name of a set.
use Rattle.std.proofs.Common.{◌≡◌, ℕ, List, [], ◌∷◌, Bool, true, false, Option, Some, None, refl, sym, ◌∙◌}
use Rattle.std.proofs.Common.{ap, subst}
use Rattle.std.specs.Prelude.{codes, is_some, if◌then◌else◌, ◌||◌}
use Rattle.std.specs.Str.{bytes_eq}
use Rattle.std.proofs.lemmas.Option.{same_Some}
use Rattle.tv_lex.specs.Token.{SpecToken}
use Rattle.tv_phrases.specs.Reading.{taken, ◌>>=◌, choose}
use Rattle.tv_phrases.specs.Tokens.{after, first, text_item}
use Rattle.tv_formula.specs.Grammar.{arrow}
use Rattle.tv_formula.specs.Spelled.{spell, spelled, EndsAlike}
use Rattle.tv_parse.specs.Kinds.{decl_kind, prop_item, begins_decl}
use Rattle.tv_phrases.specs.Repeated.{begins_with}
use Rattle.tv_parse.specs.Grammar.{begins_prop}
use Rattle.tv_front.specs.ReadAgain.{Kept, all_kept, one_kept, mark_left}
use Rattle.tv_front.proofs.Exact.{Tokens, Exact}
use Rattle.tv_lemmas.proofs.Bools.{none_alike}

pub kept_spelled : (ws : List (List ℕ)) (ts us : List SpecToken) → Kept ts us → Kept (spelled ws ts) (spelled ws us)
kept_spelled [] ts us kept = kept
kept_spelled (w ∷ ws) ts us kept = one_kept (spell w) (spelled ws ts) (spelled ws us) (kept_spelled ws ts us kept)

-- tokens in front of what is kept
pub kept_exact : (ts rest end : List SpecToken) (ws : List (List ℕ)) → Exact ts ws rest → Kept rest end → Kept ts (spelled ws end)
kept_exact ts rest end ws exact kept = subst (λ (xs : List SpecToken). Kept xs (spelled ws end)) (sym exact.0) (kept_spelled ws rest end kept)

pub kept_tokens : (ts us : List SpecToken) → Kept ts us → Tokens ts → Tokens us
kept_tokens _ _ (all_kept ts) are = are
kept_tokens _ _ (one_kept t ts us kept) are = (are.0, kept_tokens ts us kept are.1)
kept_tokens _ _ (mark_left w ts us is kept) are = (are.0, (are.1.0, kept_tokens ts us kept are.1.1.1))

-- ---- the first token stays

abbrev head_of : List SpecToken → Option SpecToken
head_of [] = None
head_of (t ∷ ts) = Some t

abbrev pub SameHead : List SpecToken → List SpecToken → Type 0
SameHead ts us = head_of ts ≡ head_of us

pub kept_head : (ts us : List SpecToken) → Kept ts us → SameHead ts us
kept_head _ _ (all_kept ts) = refl
kept_head _ _ (one_kept t ts us kept) = refl
kept_head _ _ (mark_left w ts us is kept) = refl

pub lacks_head : (m : List ℕ) (ts us : List SpecToken) → SameHead ts us → after m ts ≡ None → after m us ≡ None
unfolding after
lacks_head m ts [] same lacks = refl
lacks_head m [] (u ∷ us) same lacks = absurd cc
lacks_head m (t ∷ ts) (u ∷ us) same lacks = subst (λ (x : SpecToken). (if bytes_eq x.bytes m then Some us else None) ≡ None) (same_Some t u same) (none_alike (bytes_eq t.bytes m) ts us lacks)

some_alike : {X : Type 0} (o : Option X) (ts us : List SpecToken) → is_some (o >>= λ x. taken x ts) ≡ is_some (o >>= λ x. taken x us)
some_alike None ts us = refl
some_alike (Some x) ts us = refl

first_head : {X : Type 0} (item : SpecToken → Option X) (ts us : List SpecToken) → SameHead ts us → is_some (first item ts) ≡ is_some (first item us)
unfolding first
first_head item [] [] same = refl
first_head item [] (u ∷ us) same = absurd cc
first_head item (t ∷ ts) [] same = absurd cc
first_head item (t ∷ ts) (u ∷ us) same = some_alike (item t) ts us ∙ ap (λ (x : SpecToken). is_some (item x >>= λ y. taken y us)) (same_Some t u same)

if_alike : (b : Bool) (ts us : List SpecToken) → is_some (if b then Some ts else None) ≡ is_some (if b then Some us else None)
if_alike true ts us = refl
if_alike false ts us = refl

pub begins_head : (m : List ℕ) (ts us : List SpecToken) → SameHead ts us → begins_with m ts ≡ begins_with m us
unfolding after
begins_head m [] [] same = refl
begins_head m [] (u ∷ us) same = absurd cc
begins_head m (t ∷ ts) [] same = absurd cc
begins_head m (t ∷ ts) (u ∷ us) same = if_alike (bytes_eq t.bytes m) ts us ∙ ap (λ (x : SpecToken). is_some (if bytes_eq x.bytes m then Some us else None)) (same_Some t u same)

pub decl_head : (ts us : List SpecToken) → SameHead ts us → begins_decl ts ≡ begins_decl us
decl_head ts us same = λ i. first_head decl_kind ts us same i || begins_head (codes "foreach") ts us same i

pub prop_head : (ts us : List SpecToken) → SameHead ts us → begins_prop ts ≡ begins_prop us
prop_head ts us same = first_head prop_item ts us same

-- the same token begins those behind an arrow
arrow_alike : (b : Bool) (ts us : List SpecToken) → SameHead ts us
    → ((if b then Some ts else None) >>= λ vs. choose (first text_item vs) (Some vs) (λ text. None)) ≡ None
    → ((if b then Some us else None) >>= λ vs. choose (first text_item vs) (Some vs) (λ text. None)) ≡ None
arrow_alike false ts us same none = refl
arrow_alike true ts us same none = at (first text_item ts) (first text_item us) (first_head text_item ts us same) none
  where
    at : {X : Type 0} (o p : Option X) → is_some o ≡ is_some p → choose o (Some ts) (λ text. None) ≡ None → choose p (Some us) (λ text. None) ≡ None
    at None p e n = absurd cc
    at (Some x) None e n = absurd cc
    at (Some x) (Some y) e n = refl

kept_arrow : (ts us : List SpecToken) → Kept ts us → arrow ts ≡ None → arrow us ≡ None
unfolding arrow after
kept_arrow _ _ (all_kept ts) none = none
kept_arrow _ _ (one_kept t ts us kept) none = arrow_alike (bytes_eq t.bytes (codes "->")) ts us (kept_head ts us kept) none
kept_arrow _ _ (mark_left w ts us is kept) none = refl

pub kept_ends : (ts us : List SpecToken) → Kept ts us → EndsAlike ts us
kept_ends ts us kept = record {
  marks = λ m lacks. lacks_head m ts us (kept_head ts us kept) lacks;
  arrows = λ none. kept_arrow ts us kept none;
}
