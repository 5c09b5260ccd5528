-- Edges stand where they are counted to.
use Rattle.std.proofs.Common.{◌≡◌, ℕ, zero, suc, ◌+◌, ◌-◌, ◌<◌, ◌≤◌, List, [], ◌∷◌, ◌++◌, length, take, drop}
use Rattle.std.proofs.Common.{refl, sym, ◌∙◌, ap, subst, arith, length-append}
use Rattle.std.proofs.lemmas.List.{drop-map, length-map, take-append-drop}
use lib.Seq.{drop-append_seam}
use Rattle.tv_lex.specs.Token.{SpecToken, spec_token, spec_tokens}
use Rattle.tv_lex.specs.declared.token.Token.{Token}
use Rattle.tv_phrases.specs.Tokens.{first}
use Rattle.tv_phrases.specs.Repeated.{Repeated}
use Rattle.tv_parse.specs.Grammar.{IsEdge, IsProgram, begins_edge}
use Rattle.tv_tree.specs.Forms.{EdgeForm, ProgramForm}
use Rattle.tv_edge_heads.specs.EdgePlaces.{AreEdgesAt, HasEdgesAt, StandBehindActions}
use Rattle.tv_edge_heads.specs.Widths.{edge_starts, edge_width, edges_width, tail_width}
use Rattle.tv_edge_heads.proofs.Ends.{Ends}
use Rattle.tv_edge_heads.proofs.ProgramEnds.{behind_actions_end, edge_ends}
use Rattle.tv_edge_heads.proofs.WidthLaws.{edge_tokens, edges_tokens, tail_tokens}

-- the last tokens are found by their number
last_ones : (ts us : List SpecToken) (n : ℕ) → Ends ts us → length ts ≡ length us + n → drop n ts ≡ us
last_ones ts us n (front, is) len =
    let all : length ts ≡ length front + length us = ap (λ (l : List SpecToken). length l) is ∙ length-append front us in
    let here : n ≡ length front = omega (arith, len, all) in
    ap (λ l. drop n l) is ∙ ap (λ k. drop k (front ++ us)) here ∙ drop-append_seam front us

behind_tokens : (text : List ℕ) (tokens : List Token) (n : ℕ) → spec_tokens text (drop n tokens) ≡ drop n (spec_tokens text tokens)
behind_tokens text tokens n = sym (drop-map (spec_token text) n tokens)

-- the first of some tokens, the others of these, and what is behind them
first_of : (t : Token) (tokens : List Token) (n : ℕ) → 0 < n → t ∷ tokens ≡ t ∷ (take (n - 1) tokens ++ drop n (t ∷ tokens))
first_of t tokens zero some = absurd (omega (arith, some))
first_of t tokens (suc n) some =
    let less : suc n - 1 ≡ n = omega arith in
    ap (λ ts. t ∷ ts) (sym (take-append-drop n tokens) ∙ ap (λ k. take k tokens ++ drop n tokens) (sym less))

no_edge : (us : List SpecToken) (e : EdgeForm) → ¬ IsEdge [] e us
unfolding first
no_edge us e h = let none = h.3 in cc

starts_stand : (text : List ℕ) (tokens : List Token) (edges : List EdgeForm) (rest : List SpecToken)
    → Repeated begins_edge IsEdge (spec_tokens text tokens) edges rest
    → AreEdgesAt text tokens edges (edge_starts tokens edges)
starts_stand text tokens [] rest h = tt
starts_stand text [] (e ∷ edges) rest h = absurd (no_edge h.0 e h.2)
starts_stand text (t ∷ tokens) (e ∷ edges) rest h =
    let ts = spec_tokens text (t ∷ tokens) in
    let behind = drop (edge_width e) (t ∷ tokens) in
    let same : spec_tokens text behind ≡ h.0 =
    behind_tokens text (t ∷ tokens) (edge_width e) ∙ last_ones ts h.0 (edge_width e) (edge_ends ts h.0 e h.2) (edge_tokens ts h.0 e h.2) in (
      t,
      take (edge_width e - 1) tokens,
      behind,
      first_of t tokens (edge_width e) (omega arith),
      refl,
      subst (IsEdge ts e) (sym same) h.2,
      starts_stand text behind edges rest (subst (λ us. Repeated begins_edge IsEdge us edges rest) (sym same) h.3),
    )

pub last_tokens : (text : List ℕ) (tokens : List Token) (t : ProgramForm) → IsProgram (spec_tokens text tokens) t
    → edges_width t.edges + tail_width t.tail ≤ length tokens
last_tokens text tokens t (us, vs, ws, xs, ys, a, b, c, d, e, f) =
    let ends = behind_actions_end (spec_tokens text tokens) xs t (us, vs, ws, a, b, c, d) in
    let all : length (spec_tokens text tokens) ≡ length ends.0 + length xs =
    ap (λ (l : List SpecToken). length l) ends.1 ∙ length-append ends.0 xs in
    omega (arith, all, edges_tokens begins_edge xs ys t.edges e, tail_tokens ys t.tail f, length-map tokens (spec_token text))

pub places_stand : (text : List ℕ) (tokens : List Token) (t : ProgramForm) (front : ℕ) → IsProgram (spec_tokens text tokens) t
    → front ≡ length tokens - (edges_width t.edges + tail_width t.tail)
    → HasEdgesAt text tokens t (edge_starts (drop front tokens) t.edges)
places_stand text tokens t front (us, vs, ws, xs, ys, a, b, c, d, e, f) is =
    let ts = spec_tokens text tokens in
    let ends = behind_actions_end ts xs t (us, vs, ws, a, b, c, d) in
    let all : length ts ≡ length ends.0 + length xs = ap (λ (l : List SpecToken). length l) ends.1 ∙ length-append ends.0 xs in
    let len : length ts ≡ length xs + front =
    omega (arith, is, all, edges_tokens begins_edge xs ys t.edges e, tail_tokens ys t.tail f, length-map tokens (spec_token text)) in
    let same : spec_tokens text (drop front tokens) ≡ xs = behind_tokens text tokens front ∙ last_ones ts xs front ends len in (
      take front tokens,
      drop front tokens,
      sym (take-append-drop front tokens),
      subst (λ rest. StandBehindActions ts t rest) (sym same) (us, vs, ws, a, b, c, d),
      starts_stand text (drop front tokens) t.edges ys (subst (λ rest. Repeated begins_edge IsEdge rest t.edges ys) (sym same) e),
    )
