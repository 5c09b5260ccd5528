-- An edge stands in one place of a text, and has one head there.
use Rattle.std.proofs.Common.{◌≡◌, ℕ, List, [], ◌∷◌, ◌++◌, Result, Ok, Some, refl, sym, ap, subst, ◌∙◌, arith}
use Rattle.std.proofs.Common.{length, take, drop}
use Rattle.std.proofs.Math.Seq.{drop-append_seam, take-append_seam}
use Rattle.std.proofs.lemmas.List.{length-append, length-map}
use Rattle.std.proofs.lemmas.Option.{same_Some}
use Rattle.std.specs.Prelude.{codes}
use Rattle.tv_lex.specs.Pieces.{Reads}
use Rattle.tv_lex.specs.Token.{SpecToken, spec_token, spec_tokens}
use Rattle.tv_lex.specs.Traced.{Traced, InLine}
use Rattle.tv_lex.specs.declared.token.LexError.{LexError}
use Rattle.tv_lex.specs.declared.token.Token.{Token}
use Rattle.tv_file_lines.specs.FileLines.{file_line_text}
use Rattle.tv_parse.specs.Grammar.{AreDecls, IsAction, IsEdge}
use Rattle.tv_phrases.specs.Repeated.{HasOne, Repeated, begins_with}
use Rattle.tv_phrases.specs.Tokens.{after}
use Rattle.tv_tree.specs.Forms.{EdgeForm, ProgramForm}
use Rattle.tv_tree.specs.Printed.{edge_lines, text_of_lines}
use Rattle.tv_edge_heads.specs.EdgePlaces.{AreEdgesAt, HasEdgesAt, StandBehindActions}
use Rattle.tv_edge_heads.specs.Heads.{AreHeads, AreHeadsAt, IsHead}

-- ---- parts of one list

-- two ends of one list that are as long are one
same_end : {T : Type 0} (a b xs ys : List T) → a ++ xs ≡ b ++ ys → length xs ≡ length ys → xs ≡ ys
same_end a b xs ys h long =
    let whole : length (a ++ xs) ≡ length (b ++ ys) = ap length h in
    let fronts : length a ≡ length b = omega (arith, whole, length-append a xs, length-append b ys, long) in
    sym (drop-append_seam a xs) ∙ (ap (λ l. drop (length a) l) h
    ∙ (ap (λ n. drop n (b ++ ys)) fronts ∙ drop-append_seam b ys))

-- so are two fronts with the same behind them
same_front : {T : Type 0} (a b xs : List T) → a ++ xs ≡ b ++ xs → a ≡ b
same_front a b xs h =
    let whole : length (a ++ xs) ≡ length (b ++ xs) = ap length h in
    let fronts : length a ≡ length b = omega (arith, whole, length-append a xs, length-append b xs) in
    sym (take-append_seam a xs) ∙ (ap (λ l. take (length a) l) h
    ∙ (ap (λ n. take n (b ++ xs)) fronts ∙ take-append_seam b xs))

-- two ends of one list of tokens that are the same but for their places are one
same_tokens : (text : List ℕ) (a b xs ys : List Token) → a ++ xs ≡ b ++ ys
    → spec_tokens text xs ≡ spec_tokens text ys → xs ≡ ys
same_tokens text a b xs ys h same =
    let alike : length (spec_tokens text xs) ≡ length (spec_tokens text ys) = ap length same in
    same_end a b xs ys h
    (omega (arith, alike, length-map xs (spec_token text), length-map ys (spec_token text)))

-- ---- places

after_same : (mark : List ℕ) (us vs xs ys : List SpecToken) → us ≡ vs → after mark us ≡ Some xs
    → after mark vs ≡ Some ys → xs ≡ ys
after_same mark us vs xs ys same h k = same_Some xs ys (sym h ∙ (ap (after mark) same ∙ k))

module _ (decls : HasOne AreDecls) (actions : HasOne (Repeated (begins_with (codes "%action")) IsAction))
    (edge : HasOne IsEdge)
  where
    -- what stands behind the actions is one
    one_rest : (ts : List SpecToken) (t : ProgramForm) (xs ys : List SpecToken) → StandBehindActions ts t xs
        → StandBehindActions ts t ys → xs ≡ ys
    one_rest ts t xs ys h k =
        let us : h.0 ≡ k.0 = (decls ts h.0 k.0 t.decls t.decls h.3 k.3).1 in
        let vs : h.1 ≡ k.1 = after_same (codes "%%") h.0 k.0 h.1 k.1 us h.4 k.4 in
        let ws : h.2 ≡ k.2 = (actions k.1 h.2 k.2 t.actions t.actions
        (subst (λ l. Repeated (begins_with (codes "%action")) IsAction l t.actions h.2) vs h.5) k.5).1 in
        after_same (codes "%%") h.2 k.2 xs ys ws h.6 k.6

    one_places : (text : List ℕ) (tokens : List Token) (edges : List EdgeForm) (ps qs : List ℕ)
        → AreEdgesAt text tokens edges ps → AreEdgesAt text tokens edges qs → ps ≡ qs
    one_places text tokens [] [] [] h k = refl
    one_places text tokens [] [] (q ∷ qs) h k = absurd k
    one_places text tokens [] (p ∷ ps) qs h k = absurd h
    one_places text tokens (e ∷ edges) [] qs h k = absurd h
    one_places text tokens (e ∷ edges) (p ∷ ps) [] h k = absurd k
    one_places text tokens (e ∷ edges) (p ∷ ps) (q ∷ qs) h k =
        let same : h.0 ∷ (h.1 ++ h.2) ≡ k.0 ∷ (k.1 ++ k.2) = sym h.3 ∙ k.3 in
        let first : h.0 ≡ k.0 = cc in
        let others : h.1 ++ h.2 ≡ k.1 ++ k.2 = cc in
        let behind : h.2 ≡ k.2 = same_tokens text h.1 k.1 h.2 k.2 others
        (edge (spec_tokens text tokens) (spec_tokens text h.2) (spec_tokens text k.2) e e h.5 k.5).1 in
        let place : p ≡ q = sym h.4 ∙ (ap (λ (t : Token). t.start) first ∙ k.4) in
        let places : ps ≡ qs = one_places text k.2 edges ps qs
        (subst (λ l. AreEdgesAt text l edges ps) behind h.6) k.6 in
        ap (λ x. x ∷ ps) place ∙ ap (λ l. q ∷ l) places

    one_list : (text : List ℕ) (tokens : List Token) (t : ProgramForm) (ps qs : List ℕ)
        → HasEdgesAt text tokens t ps → HasEdgesAt text tokens t qs → ps ≡ qs
    one_list text tokens t ps qs h k =
        let rest : h.1 ≡ k.1 = same_tokens text h.0 k.0 h.1 k.1 (sym h.2 ∙ k.2)
        (one_rest (spec_tokens text tokens) t (spec_tokens text h.1) (spec_tokens text k.1) h.3 k.3) in
        one_places text k.1 t.edges ps qs (subst (λ l. AreEdgesAt text l t.edges ps) rest h.4) k.4

-- ---- heads

one_head : (traced : List Traced) (e : EdgeForm) (place : ℕ) (head other : List ℕ) → IsHead traced e place head
    → IsHead traced e place other → head ≡ other
one_head traced e place head other h k =
    let same : Some (InLine h.0 h.1 h.2.0) ≡ Some (InLine k.0 k.1 k.2.0) = sym h.2.1 ∙ k.2.1 in
    let name : h.0 ≡ k.0 = cc in
    let line : h.1 ≡ k.1 = cc in
    same_front head other (codes "\n") (h.3
    ∙ (ap (λ n. file_line_text n h.1 ++ (codes "  " ++ text_of_lines (edge_lines e))) name
    ∙ (ap (λ l. file_line_text k.0 l ++ (codes "  " ++ text_of_lines (edge_lines e))) line ∙ sym k.3)))

one_row : (traced : List Traced) (edges : List EdgeForm) (places : List ℕ) (heads others : List (List ℕ))
    → AreHeadsAt traced edges places heads → AreHeadsAt traced edges places others → heads ≡ others
one_row traced [] [] [] [] h k = refl
one_row traced [] [] [] (o ∷ others) h k = absurd k
one_row traced [] [] (x ∷ heads) others h k = absurd h
one_row traced [] (p ∷ places) heads others h k = absurd h
one_row traced (e ∷ edges) [] heads others h k = absurd h
one_row traced (e ∷ edges) (p ∷ places) [] others h k = absurd h
one_row traced (e ∷ edges) (p ∷ places) (x ∷ heads) [] h k = absurd k
one_row traced (e ∷ edges) (p ∷ places) (x ∷ heads) (o ∷ others) h k =
    ap (λ y. y ∷ heads) (one_head traced e p x o h.0 k.0)
    ∙ ap (λ l. o ∷ l) (one_row traced edges places heads others h.1 k.1)

pub heads_one : ((text : List ℕ) (a b : Result (List Token) LexError) → Reads text a → Reads text b → a ≡ b)
    → HasOne AreDecls → HasOne (Repeated (begins_with (codes "%action")) IsAction) → HasOne IsEdge
    → (traced : List Traced) (text : List ℕ) (tree : ProgramForm) (heads others : List (List ℕ))
    → AreHeads traced text tree heads → AreHeads traced text tree others → heads ≡ others
heads_one reading decls actions edge traced text tree heads others h k =
    let read = reading text (Ok h.tokens) (Ok k.tokens) h.reads k.reads in
    let tokens : h.tokens ≡ k.tokens = cc in
    let places : h.places ≡ k.places = one_list decls actions edge text k.tokens tree h.places k.places
    (subst (λ l. HasEdgesAt text l tree h.places) tokens h.stand) k.stand in
    one_row traced tree.edges k.places heads others
    (subst (λ l. AreHeadsAt traced tree.edges l heads) places h.are) k.are
