-- Phrases take tokens.
use Rattle.std.proofs.Common.{◌≡◌, ℕ, ◌<◌, ◌≤◌, List, [], ◌∷◌, ◌++◌, Bool, true, false, cond, length, Option}
use Rattle.std.proofs.Common.{Some, None, ap, inl, inr, arith}
use Rattle.std.specs.Prelude.{codes, is_some}
use Rattle.std.specs.Str.{bytes_eq}
use Rattle.tv_lex.specs.Token.{SpecToken}
use Rattle.tv_phrases.specs.Reading.{Reading, taken, ◌>>=◌}
use Rattle.tv_phrases.specs.Tokens.{after, first, identifier_item}
use Rattle.tv_phrases.specs.Lists.{with_front, items_from, comma_list, optional_list, between, params}
use Rattle.tv_phrases.specs.Lists.{variables, name, optional_brackets, optional_list_in, two_items, pair}
use Rattle.tv_phrases.specs.declared.kinds.Brackets.TheVariants as brackets
use Rattle.tv_phrases.specs.declared.kinds.Item.TheVariants as kind
use Rattle.tv_phrases.proofs.Values.{same_rest, bind_some, chosen, tested}

kept : (b : Bool) (ts us : List SpecToken) → cond b (Some ts) None ≡ Some us → ts ≡ us
kept true ts us e = cc
kept false ts us e = cc

pub after_takes : (mark : List ℕ) (ts us : List SpecToken) → after mark ts ≡ Some us → length us < length ts
unfolding after
after_takes mark [] us e = absurd cc
after_takes mark (t ∷ ts) us e = rw (← kept (bytes_eq t.bytes mark) ts us e) (omega arith)

taken_item : {X : Type 0} (o : Option X) (x : X) (ts us : List SpecToken) → (o >>= λ y. taken y ts) ≡ taken x us → ts ≡ us
taken_item (Some y) x ts us e = same_rest y x ts us e
taken_item None x ts us e = absurd cc

pub first_takes : {X : Type 0} (item : SpecToken → Option X) (ts us : List SpecToken) (x : X) → first item ts ≡ taken x us → length us < length ts
unfolding first
first_takes item [] us x e = absurd cc
first_takes item (t ∷ ts) us x e = rw (← taken_item (item t) x ts us e) (omega arith)

-- the list behind an item
front_taken : {X : Type 0} (xs ys : List X) (read : Reading (List X)) (us : List SpecToken) → with_front xs read ≡ taken ys us → (zs : List X) × (read ≡ taken zs us)
unfolding with_front
front_taken xs ys None us e = absurd cc
front_taken xs ys (Some more) us e = (more.0, ap (λ vs. Some (more.0, vs)) (same_rest (xs ++ more.0) ys more.1 us e))

items_take : {X : Type 0} (item : SpecToken → Option X) (begin : Bool) (ts us : List SpecToken) (xs : List X) → items_from item begin ts ≡ taken xs us → length us ≤ length ts
unfolding items_from
items_take item true [] us xs e = absurd cc
items_take item true (t ∷ ts) us xs e =
    let a = bind_some (item t) (λ x. with_front (x ∷ []) (items_from item false ts)) (xs, us) e in
    let b = front_taken (a.0 ∷ []) xs (items_from item false ts) us a.2 in
    let h = items_take item false ts us b.0 b.1 in
    omega arith
items_take item false [] us xs e = rw (← same_rest [] xs [] us e) (omega arith)
items_take item false (t ∷ ts) us xs e =
    elim (chosen (after (codes ",") (t ∷ ts)) (Some ([], t ∷ ts)) (λ vs. items_from item true ts) (taken xs us) e) [
      | inl h ↦ rw (← same_rest [] xs (t ∷ ts) us h.1) (omega arith)
      | inr h ↦ let k = items_take item true ts us xs h.2 in omega arith
    ]

pub optional_takes : {X : Type 0} (item : SpecToken → Option X) (ts us : List SpecToken) (xs : List X) → optional_list item ts ≡ taken xs us → length us ≤ length ts
unfolding optional_list
optional_takes item ts us xs e =
    elim (tested (is_some (first item ts)) (comma_list item ts) (Some ([], ts)) (taken xs us) e) [
      | inl h ↦ items_take item true ts us xs h.1
      | inr h ↦ rw (← same_rest [] xs ts us h.1) (omega arith)
    ]

pub between_takes : {X : Type 0} (a b : List ℕ) (read : List SpecToken → Reading X) → ((us vs : List SpecToken) (x : X) → read us ≡ taken x vs → length vs ≤ length us) → (ts us : List SpecToken) (x : X) → between a b read ts ≡ taken x us → length us < length ts
unfolding between
between_takes a b read inner ts us x e =
    let p = bind_some (after a ts) (λ us. read us >>= λ x. after b x.1 >>= λ rest. Some (x.0, rest)) (x, us) e in
    let q = bind_some (read p.0) (λ x. after b x.1 >>= λ rest. Some (x.0, rest)) (x, us) p.2 in
    let r = bind_some (after b q.0.1) (λ rest. Some (q.0.0, rest)) (x, us) q.2 in
    let h = after_takes a ts p.0 p.1 in
    let i = inner p.0 q.0.1 q.0.0 q.1 in
    let j = after_takes b q.0.1 r.0 r.1 in
    rw (← same_rest q.0.0 x r.0 us r.2) (omega arith)

pub params_take : (ts us : List SpecToken) (xs : List (List ℕ)) → params ts ≡ taken xs us → length us < length ts
params_take ts us xs e = between_takes (codes "(") (codes ")") (optional_list identifier_item) (optional_takes identifier_item) ts us xs e

pub members_take : (ts us : List SpecToken) (xs : List (List ℕ)) → optional_list_in brackets.Curly kind.Identifier ts ≡ taken xs us → length us < length ts
members_take ts us xs e = between_takes (codes "{") (codes "}") (optional_list identifier_item) (optional_takes identifier_item) ts us xs e

brackets_take : (ts us : List SpecToken) (xs : List (List ℕ)) → optional_brackets ts ≡ taken xs us → length us ≤ length ts
unfolding optional_brackets
brackets_take ts us xs e =
    elim (chosen (after (codes "[") ts) (Some ([], ts)) (λ us. between (codes "[") (codes "]") (comma_list identifier_item) ts) (taken xs us) e) [
      | inl h ↦ rw (← same_rest [] xs ts us h.1) (omega arith)
      | inr h ↦ let k = between_takes (codes "[") (codes "]") (comma_list identifier_item) (items_take identifier_item true) ts us xs h.2 in omega arith
    ]

pub name_takes : (ts us : List SpecToken) (n : List ℕ × List (List ℕ)) → name ts ≡ taken n us → length us < length ts
unfolding name
name_takes ts us n e =
    let p = bind_some (first identifier_item ts) (λ word. optional_brackets word.1 >>= λ brackets. Some ((word.0, brackets.0), brackets.1)) (n, us) e in
    let q = bind_some (optional_brackets p.0.1) (λ brackets. Some ((p.0.0, brackets.0), brackets.1)) (n, us) p.2 in
    let h = first_takes identifier_item ts p.0.1 p.0.0 p.1 in
    let i = brackets_take p.0.1 q.0.1 q.0.0 q.1 in
    rw (← same_rest (p.0.0, q.0.0) n q.0.1 us q.2) (omega arith)

pub variables_take : (ts us : List SpecToken) (xs : List (List ℕ)) → variables ts ≡ taken xs us → length us < length ts
variables_take ts us xs e = between_takes (codes "(") (codes ")") (comma_list identifier_item) (items_take identifier_item true) ts us xs e

two_take : (ts us : List SpecToken) (x : List ℕ × List ℕ) → two_items ts ≡ taken x us → length us ≤ length ts
unfolding two_items
two_take ts us x e =
    let p = bind_some (first identifier_item ts) (λ left. after (codes ",") left.1 >>= λ us. first identifier_item us >>= λ right. Some ((left.0, right.0), right.1)) (x, us) e in
    let q = bind_some (after (codes ",") p.0.1) (λ us. first identifier_item us >>= λ right. Some ((p.0.0, right.0), right.1)) (x, us) p.2 in
    let r = bind_some (first identifier_item q.0) (λ right. Some ((p.0.0, right.0), right.1)) (x, us) q.2 in
    let h = first_takes identifier_item ts p.0.1 p.0.0 p.1 in
    let i = after_takes (codes ",") p.0.1 q.0 q.1 in
    let j = first_takes identifier_item q.0 r.0.1 r.0.0 r.1 in
    rw (← same_rest (p.0.0, r.0.0) x r.0.1 us r.2) (omega arith)

pub pair_takes : (ts us : List SpecToken) (x : List ℕ × List ℕ) → pair ts ≡ taken x us → length us < length ts
pair_takes ts us x e = between_takes (codes "(") (codes ")") two_items two_take ts us x e
