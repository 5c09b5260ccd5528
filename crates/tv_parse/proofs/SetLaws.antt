-- The reading of sets is that of the grammar.
use Rattle.std.proofs.Common.{◌≡◌, ℕ, zero, suc, ◌+◌, List, length, Some, None, ap, subst, inl, inr}
use Rattle.std.specs.Prelude.{codes}
use Rattle.std.proofs.lemmas.Option.{same_Some}
use Rattle.tv_lex.specs.Token.{SpecToken}
use Rattle.tv_phrases.specs.Reading.{taken, ◌>>=◌, choose}
use Rattle.tv_phrases.specs.Tokens.{after, first, identifier_item}
use Rattle.tv_phrases.specs.Lists.{optional_list_in}
use Rattle.tv_phrases.specs.declared.kinds.Brackets.TheVariants as brackets
use Rattle.tv_phrases.specs.declared.kinds.Item.TheVariants as kind
use Rattle.tv_tree.specs.Forms.{SetForm, SNamed, SMembers, SParen, SPlus, SMinus}
use Rattle.tv_tree.specs.declared.trees.SetSign.{SetSign}
use Rattle.tv_tree.specs.declared.trees.SetSign.TheVariants as sign
use Rattle.tv_formula.specs.Grammar.{Lacks}
use Rattle.tv_phrases.specs.Repeated.{begins_with}
use Rattle.tv_parse.specs.Grammar.{IsSetTerm, IsSetFront, IsSet}
use Rattle.tv_parse.specs.Reading.{SetPart, AllSets, Further, SetReader, signed, set_name, set_members}
use Rattle.tv_parse.specs.Reading.{set_plain, set_paren, set_term, set_sign, set_start, set_behind, sets}
use Rattle.tv_parse.specs.Reading.{set_reading}
use Rattle.tv_phrases.proofs.Values.{bind_some, chosen, tested}

-- a fact about what was read
along : (P : SetForm → List SpecToken → Type 0) (s t : SetForm) (us vs : List SpecToken) → taken s us ≡ taken t vs → P s us → P t vs
along P s t us vs e h = subst (λ (y : SetForm × List SpecToken). P y.0 y.1) (same_Some (s, us) (t, vs) e) h

name_sound : (ts rest : List SpecToken) (t : SetForm) → set_name ts ≡ taken t rest → IsSetTerm ts t rest
unfolding set_name
name_sound ts rest t e =
    let a = bind_some (first identifier_item ts) (λ w. taken (SNamed w.0) w.1) (t, rest) e in
    along (λ s us. IsSetTerm ts s us) (SNamed a.0.0) t a.0.1 rest a.2 a.1

members_sound : (ts rest : List SpecToken) (t : SetForm) → set_members ts ≡ taken t rest → IsSetTerm ts t rest
unfolding set_members
members_sound ts rest t e =
    let a = bind_some (optional_list_in brackets.Curly kind.Identifier ts) (λ xs. taken (SMembers xs.0) xs.1) (t, rest) e in
    along (λ s us. IsSetTerm ts s us) (SMembers a.0.0) t a.0.1 rest a.2 a.1

plain_sound : (ts rest : List SpecToken) (t : SetForm) → set_plain ts ≡ taken t rest → IsSetTerm ts t rest
unfolding set_plain
plain_sound ts rest t e =
    elim (tested (begins_with (codes "{") ts) (set_members ts) (set_name ts) (taken t rest) e) [
      | inl h ↦ members_sound ts rest t h.1
      | inr h ↦ name_sound ts rest t h.1
    ]

term_sound : (read : SetReader) → ((us vs : List SpecToken) (s : SetForm) → read AllSets us ≡ taken s vs → IsSet us s vs) → (ts rest : List SpecToken) (t : SetForm) → set_term read ts ≡ taken t rest → IsSetTerm ts t rest
unfolding set_term set_paren
term_sound read inner ts rest t e =
    elim (chosen (after (codes "(") ts) (set_plain ts) (set_paren read) (taken t rest) e) [
      | inl h ↦ plain_sound ts rest t h.1
      | inr h ↦
          let a = bind_some (read AllSets h.0) (λ s. after (codes ")") s.1 >>= λ end. taken (SParen s.0) end) (t, rest) h.2 in
          let b = bind_some (after (codes ")") a.0.1) (λ end. taken (SParen a.0.0) end) (t, rest) a.2 in
          let i = inner h.0 a.0.1 a.0.0 a.1 in
          along (λ s us. IsSetTerm ts s us) (SParen a.0.0) t b.0 rest b.2 (h.0, a.0.1, h.1, i.0, i.1, i.2, b.1)
    ]

front_of : (t : SetForm) (ts us : List SpecToken) → IsSetTerm ts t us → IsSetFront ts t us
front_of (SNamed w) ts us h = h
front_of (SMembers xs) ts us h = h
front_of (SParen s) ts us h = h
front_of (SPlus s t) ts us h = elim h [ ]
front_of (SMinus s t) ts us h = elim h [ ]

abbrev Claim : SetPart → List SpecToken → SetForm → List SpecToken → Type 0
Claim AllSets us s rest = IsSet us s rest
Claim (Further s0) us s rest = (ts : List SpecToken) → IsSetFront ts s0 us → IsSet ts s rest

signed_front : (k : SetSign) (s t : SetForm) (ts us vs rest : List SpecToken) → IsSetFront ts s us → set_sign us ≡ Some (k, vs) → IsSetTerm vs t rest → IsSetFront ts (signed k s t) rest
unfolding set_sign
signed_front k s t ts us vs rest front e term =
    elim (chosen (after (codes "+") us) (choose (after (codes "-") us) None (taken sign.Minus)) (taken sign.Plus) (Some (k, vs)) e) [
      | inl h ↦ elim (chosen (after (codes "-") us) None (taken sign.Minus) (Some (k, vs)) h.1) [
        | inl i ↦ absurd cc
        | inr i ↦
            let p = same_Some (sign.Minus, i.0) (k, vs) i.2 in
            let whole : IsSetFront ts (signed sign.Minus s t) rest = (us, i.0, front, i.1, rw (ap (λ (y : SetSign × List SpecToken). y.1) p) term) in
            subst (λ (y : SetSign × List SpecToken). IsSetFront ts (signed y.0 s t) rest) p whole
      ]
      | inr h ↦
          let p = same_Some (sign.Plus, h.0) (k, vs) h.2 in
          let whole : IsSetFront ts (signed sign.Plus s t) rest = (us, h.0, front, h.1, rw (ap (λ (y : SetSign × List SpecToken). y.1) p) term) in
          subst (λ (y : SetSign × List SpecToken). IsSetFront ts (signed y.0 s t) rest) p whole
    ]

no_sign : (ts : List SpecToken) → set_sign ts ≡ None → Lacks (codes "+") ts × Lacks (codes "-") ts
unfolding set_sign
no_sign ts e =
    elim (chosen (after (codes "+") ts) (choose (after (codes "-") ts) None (taken sign.Minus)) (taken sign.Plus) None e) [
      | inl h ↦ elim (chosen (after (codes "-") ts) None (taken sign.Minus) None h.1) [
        | inl i ↦ (h.0, i.0)
        | inr i ↦ absurd cc
      ]
      | inr h ↦ absurd cc
    ]

sets_sound : (n : ℕ) (p : SetPart) (us rest : List SpecToken) (s : SetForm) → sets n p us ≡ taken s rest → Claim p us s rest
unfolding sets set_start set_behind
sets_sound zero p us rest s e = absurd cc
sets_sound (suc n) AllSets us rest s e =
    let a = bind_some (set_term (sets n) us) (λ t. sets n (Further t.0) t.1) (s, rest) e in
    let term = term_sound (sets n) (λ vs ws t h. sets_sound n AllSets vs ws t h) us a.0.1 a.0.0 a.1 in
    sets_sound n (Further a.0.0) a.0.1 rest s a.2 us (front_of a.0.0 us a.0.1 term)
sets_sound (suc n) (Further s0) us rest s e = λ ts front.
    elim (chosen (set_sign us) (taken s0 us) (λ x. set_term (sets n) x.1 >>= λ t. sets n (Further (signed x.0 s0 t.0)) t.1) (taken s rest) e) [
      | inl h ↦
          let none = no_sign us h.0 in
          along (λ (y : SetForm) vs. IsSet ts y vs) s0 s us rest h.1 (front, none.0, none.1)
      | inr h ↦
          let a = bind_some (set_term (sets n) h.0.1) (λ t. sets n (Further (signed h.0.0 s0 t.0)) t.1) (s, rest) h.2 in
          let term = term_sound (sets n) (λ vs ws t i. sets_sound n AllSets vs ws t i) h.0.1 a.0.1 a.0.0 a.1 in
          sets_sound n (Further (signed h.0.0 s0 a.0.0)) a.0.1 rest s a.2 ts (signed_front h.0.0 s0 a.0.0 ts us h.0.1 a.0.1 front h.1 term)
    ]

pub set_sound : (ts rest : List SpecToken) (s : SetForm) → set_reading ts ≡ taken s rest → IsSet ts s rest
unfolding set_reading
set_sound ts rest s e = sets_sound (length ts + 1) AllSets ts rest s e
