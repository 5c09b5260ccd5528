-- An edge begins with a word, so no line feed stands where it begins.
use Rattle.std.proofs.Common.{◌≡◌, ℕ, zero, suc, ◌-◌, ◌<◌, List, [], ◌∷◌, ◌++◌, Some, None, Ok, true}
use Rattle.std.proofs.Common.{length, take, drop, get_or, refl, ◌∙◌, subst, inl, inr, arith}
use Rattle.std.specs.Prelude.{All, IfSome}
use Rattle.std.specs.List.{list_all}
use Rattle.std.proofs.lemmas.Bool.{cases_Bool, both_ways, false≢true}
use Rattle.std.proofs.lemmas.List.Elements.{All-nil, All-cons, All-tail, All-head}
use Rattle.std.proofs.lemmas.List.Folds.{list_all_at}
use Rattle.tv_lex.specs.Bytes.{is_word_byte}
use Rattle.tv_lex.specs.Pieces.{Reads, IsRunOf}
use Rattle.tv_lex.specs.Spaced.{IsToken}
use Rattle.tv_lex.specs.Token.{SpecToken, spec_tokens, spec_token, text_of}
use Rattle.tv_lex.specs.declared.token.Token.{Token}
use Rattle.tv_lex.proofs.PieceTokens.{lexed_tokens}
use Rattle.tv_phrases.specs.Tokens.{first, word_item, is_word}
use Rattle.tv_phrases.proofs.Facts.{on_bind, on_if, at_some}
use Rattle.tv_phrases.proofs.LeftTokens.{run_of}
use Rattle.tv_parse.specs.Grammar.{IsEdge}
use Rattle.tv_tree.specs.Forms.{EdgeForm, ProgramForm}
use Rattle.tv_edge_heads.specs.EdgePlaces.{AreEdgesAt, HasEdgesAt, IsOnLine}
use Rattle.tv_edge_heads.proofs.ProgramEnds.{edge_ends}

word_kind : (t : SpecToken) (ts : List SpecToken) → IfSome (first word_item (t ∷ ts)) (λ x. is_word t.kind ≡ true)
unfolding first
word_kind t ts = on_bind (word_item t) _ _ (λ x e.
    at_some (word_item t) (λ y. is_word t.kind ≡ true) x
    (on_if (is_word t.kind) (Some t.bytes) None (λ y. is_word t.kind ≡ true) (λ f. f) (λ f. tt)) e)

edge_word : (t : SpecToken) (ts rest : List SpecToken) (e : EdgeForm) → IsEdge (t ∷ ts) e rest → is_word t.kind ≡ true
edge_word t ts rest e h =
    at_some (first word_item (t ∷ ts)) (λ x. is_word t.kind ≡ true) (e.from, h.0) (word_kind t ts) h.3

-- the first byte of a token, where it has one
pub first_byte : (text : List ℕ) (start n : ℕ) → 0 < length (take n (drop start text))
    → (start < length text) × (get_or (take n (drop start text)) 0 0 ≡ get_or text start 0)
first_byte text start zero some = absurd (omega (arith, some))
first_byte [] zero (suc n) some = absurd (omega (arith, some))
first_byte [] (suc start) (suc n) some = absurd (omega (arith, some))
first_byte (x ∷ text) zero (suc n) some = (omega arith, refl)
first_byte (x ∷ text) (suc start) (suc n) some =
    let h = first_byte text start (suc n) some in
    (omega (arith, h.0), h.1)

word_on_line : (text : List ℕ) (t : Token) → IsRunOf is_word_byte (text_of text t) → IsOnLine text t.start
word_on_line text t run =
    let h = first_byte text t.start (t.end - t.start) run.0 in (
      h.0,
      λ feed. elim (cases_Bool (is_word_byte (get_or (text_of text t) 0 0))) [
        | inl is ↦ false≢true (subst (λ b. is_word_byte b ≡ true) (h.1 ∙ feed) is)
        | inr is ↦ both_ways (list_all is_word_byte (text_of text t)) (list_all_at is_word_byte (text_of text t) 0 0 run.0 is) run.1
      ],
    )

last_of : (front rest : List SpecToken) → All IsToken (front ++ rest) → All IsToken rest
last_of [] rest all = all
last_of (t ∷ front) rest all = last_of front rest (All-tail IsToken t (front ++ rest) all)

last_read : (text : List ℕ) (front rest : List Token) → All IsToken (spec_tokens text (front ++ rest))
    → All IsToken (spec_tokens text rest)
last_read text [] rest all = all
last_read text (t ∷ front) rest all = last_read text front rest (All-tail IsToken (spec_token text t) (spec_tokens text (front ++ rest)) all)

edge_on_line : (text : List ℕ) (tokens : List Token) (t : Token) (more behind : List Token) (e : EdgeForm) (place : ℕ)
    → tokens ≡ t ∷ more → t.start ≡ place → IsEdge (spec_tokens text tokens) e (spec_tokens text behind)
    → All IsToken (spec_tokens text tokens) → IsOnLine text place
edge_on_line text tokens t more behind e place is start edge all =
    let here : IsEdge (spec_tokens text (t ∷ more)) e (spec_tokens text behind) =
    subst (λ ts. IsEdge (spec_tokens text ts) e (spec_tokens text behind)) is edge in
    let token : IsToken (spec_token text t) =
    All-head IsToken (spec_token text t) (spec_tokens text more) (subst (λ ts. All IsToken (spec_tokens text ts)) is all) in
    let word = edge_word (spec_token text t) (spec_tokens text more) (spec_tokens text behind) e here in
    subst (IsOnLine text) start (word_on_line text t (run_of t.kind (text_of text t) token word))

all_on_lines : (text : List ℕ) (tokens : List Token) (edges : List EdgeForm) (places : List ℕ)
    → AreEdgesAt text tokens edges places → All IsToken (spec_tokens text tokens) → All (IsOnLine text) places
all_on_lines text tokens [] [] h all = All-nil (IsOnLine text)
all_on_lines text tokens [] (place ∷ places) h all = absurd h
all_on_lines text tokens (e ∷ edges) [] h all = absurd h
all_on_lines text tokens (e ∷ edges) (place ∷ places) h all =
    let end = edge_ends (spec_tokens text tokens) (spec_tokens text h.2) e h.5 in
    All-cons (IsOnLine text) place places
    (edge_on_line text tokens h.0 (h.1 ++ h.2) h.2 e place h.3 h.4 h.5 all)
    (all_on_lines text h.2 edges places h.6 (last_of end.0 (spec_tokens text h.2) (subst (All IsToken) end.1 all)))

pub on_lines : (text : List ℕ) (tokens : List Token) (t : ProgramForm) (places : List ℕ) → Reads text (Ok tokens)
    → HasEdgesAt text tokens t places → All (IsOnLine text) places
on_lines text tokens t places reads has =
    all_on_lines text has.1 t.edges places has.4
    (last_read text has.0 has.1 (subst (λ ts. All IsToken (spec_tokens text ts)) has.2 (lexed_tokens text tokens reads)))
