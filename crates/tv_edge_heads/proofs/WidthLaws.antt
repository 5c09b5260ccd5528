-- How many tokens phrases have.
use Rattle.std.proofs.Common.{◌≡◌, ℕ, ◌+◌, ◌*◌, ◌<◌, List, [], ◌∷◌, Option, Some, None, Bool, true, false}
use Rattle.std.proofs.Common.{length, ap, arith}
use Rattle.std.specs.Prelude.{IfSome, is_some, codes}
use Rattle.std.specs.Str.{bytes_eq}
use Rattle.std.proofs.lemmas.List.Sums.{sum_by-cons}
use Rattle.tv_lex.specs.Token.{SpecToken}
use Rattle.tv_phrases.specs.Reading.{taken}
use Rattle.tv_phrases.specs.Tokens.{after, first, identifier_item, word_item}
use Rattle.tv_phrases.specs.Lists.{with_front, items_from, comma_list, optional_list, between, params}
use Rattle.tv_phrases.specs.Repeated.{Repeated}
use Rattle.tv_phrases.proofs.Facts.{on_bind, on_read, on_choose, on_if, on_more, at_some}
use Rattle.tv_parse.specs.Grammar.{IsEdge, IsTail}
use Rattle.tv_tree.specs.Forms.{EdgeForm}
use Rattle.tv_edge_heads.specs.Widths.{edge_width, edges_width, list_width, tail_width}

width_after : (m : List ℕ) (ts : List SpecToken) → IfSome (after m ts) (λ us. length ts ≡ length us + 1)
unfolding after
width_after m [] = tt
width_after m (t ∷ ts) =
    on_if (bytes_eq t.bytes m) (Some ts) None (λ us. length (t ∷ ts) ≡ length us + 1) (λ e. omega arith) (λ e. tt)

pub after_width : (m : List ℕ) (ts us : List SpecToken) → after m ts ≡ Some us → length ts ≡ length us + 1
after_width m ts us is = at_some (after m ts) (λ vs. length ts ≡ length vs + 1) us (width_after m ts) is

width_first : {X : Type 0} (item : SpecToken → Option X) (ts : List SpecToken)
    → IfSome (first item ts) (λ x. length ts ≡ length x.1 + 1)
unfolding first
width_first item [] = tt
width_first item (t ∷ ts) = on_bind (item t) _ _ (λ x e. omega arith)

first_width : {X : Type 0} (item : SpecToken → Option X) (ts us : List SpecToken) (x : X) → first item ts ≡ taken x us
    → length ts ≡ length us + 1
first_width item ts us x is = at_some (first item ts) (λ y. length ts ≡ length y.1 + 1) (x, us) (width_first item ts) is

-- ---- comma lists

-- from a word on, or from behind one
abbrev HasWidth : {X : Type 0} → Bool → List SpecToken → List X × List SpecToken → Type 0
HasWidth true ts x = (0 < length x.0) × (length ts + 1 ≡ length x.1 + 2 * length x.0)
HasWidth false ts x = length ts ≡ length x.1 + 2 * length x.0

width_items : {X : Type 0} (item : SpecToken → Option X) (flag : Bool) (ts : List SpecToken)
    → IfSome (items_from item flag ts) (HasWidth flag ts)
unfolding items_from with_front
width_items item true [] = tt
width_items item true (t ∷ ts) = on_bind (item t) _ _ (λ x e.
    on_read (items_from item false ts) _ _ _ (width_items item false ts) (λ y q. (omega arith, omega (arith, q))))
width_items item false [] = omega arith
width_items item false (t ∷ ts) = on_choose (after (codes ",") (t ∷ ts)) _ _ _ (λ e. omega arith) (λ us e.
    on_more (items_from item true ts) _ _ (width_items item true ts) (λ y q. omega (arith, q.1)))

width_optional : {X : Type 0} (item : SpecToken → Option X) (ts : List SpecToken)
    → IfSome (optional_list item ts) (λ x. length ts ≡ length x.1 + list_width (length x.0))
unfolding optional_list
width_optional {X} item ts =
    on_if (is_some (first item ts)) (comma_list item ts) (taken [] ts)
    (λ (x : List X × List SpecToken). length ts ≡ length x.1 + list_width (length x.0))
    (λ e. on_more (items_from item true ts) _ _ (width_items item true ts) (λ y q. omega (arith, q.0, q.1)))
    (λ e. omega arith)

optional_width : {X : Type 0} (item : SpecToken → Option X) (ts us : List SpecToken) (xs : List X)
    → optional_list item ts ≡ taken xs us → length ts ≡ length us + list_width (length xs)
optional_width item ts us xs is =
    at_some (optional_list item ts) (λ x. length ts ≡ length x.1 + list_width (length x.0)) (xs, us) (width_optional item ts) is

width_params : (ts : List SpecToken) → IfSome (params ts) (λ x. length ts ≡ length x.1 + (list_width (length x.0) + 2))
unfolding between
width_params ts =
    on_read (after (codes "(") ts) _ _ _ (width_after (codes "(") ts) (λ us b.
    on_read (optional_list identifier_item us) _ _ _ (width_optional identifier_item us) (λ x p.
    on_read (after (codes ")") x.1) _ _ _ (width_after (codes ")") x.1) (λ rest d. omega (arith, b, p, d))))

params_width : (ts us : List SpecToken) (xs : List (List ℕ)) → params ts ≡ taken xs us
    → length ts ≡ length us + (list_width (length xs) + 2)
params_width ts us xs is =
    at_some (params ts) (λ x. length ts ≡ length x.1 + (list_width (length x.0) + 2)) (xs, us) (width_params ts) is

-- ---- edges, and what stands behind them

pub edge_tokens : (ts rest : List SpecToken) (e : EdgeForm) → IsEdge ts e rest → length ts ≡ length rest + edge_width e
edge_tokens ts rest e (us, vs, ws, a, b, c, d) =
    let from = first_width word_item ts us e.from a in
    let action = first_width identifier_item us vs e.action b in
    let arguments = params_width vs ws e.arguments c in
    let to = first_width word_item ws rest e.to d in
    omega (arith, from, action, arguments, to)

pub edges_tokens : (begins : List SpecToken → Bool) (ts rest : List SpecToken) (es : List EdgeForm)
    → Repeated begins IsEdge ts es rest → length ts ≡ length rest + edges_width es
edges_tokens begins ts rest [] h = omega (arith, ap (λ (l : List SpecToken). length l) h.1)
edges_tokens begins ts rest (e ∷ es) h =
    let one = edge_tokens ts h.0 e h.2 in
    let more = edges_tokens begins h.0 rest es h.3 in
    let sum : edges_width (e ∷ es) ≡ edge_width e + edges_width es = sum_by-cons edge_width e es in
    omega (arith, one, more, sum)

pub tail_tokens : (ts : List SpecToken) (tail : Option (List (List ℕ))) → IsTail ts tail → length ts ≡ tail_width tail
tail_tokens ts None h = ap (λ (l : List SpecToken). length l) h.1
tail_tokens ts (Some words) h =
    let mark = after_width (codes "%%") ts h.0 h.1 in
    let list = optional_width word_item h.0 [] words h.2 in
    omega (arith, mark, list)
