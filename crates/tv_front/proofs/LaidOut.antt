-- The printed text is its tokens in a row, each with a blank behind it.
use Rattle.std.proofs.Common.{◌≡◌, ℕ, suc, ◌+◌, ◌-◌, ◌<◌, List, [], ◌∷◌, ◌++◌, Option, Some, None, length}
use Rattle.std.proofs.Common.{take, refl, sym, ◌∙◌, ap, subst, append_assoc, arith, length-append}
use lib.Seq.{take-append_seam}
use Rattle.std.specs.Prelude.{codes, IsTrue, ⊤}
use Rattle.std.specs.List.{AllByRecursion, flat_map}
use Rattle.std.proofs.Math.Seq.{take-append-add}
use Rattle.tv_lex.specs.Bytes.{is_blank}
use Rattle.tv_lex.specs.Token.{SpecToken}
use Rattle.tv_lex.specs.Spaced.{IsToken, Spaced, spaced_text, spaced_tokens}
use Rattle.tv_tree.specs.Forms.{Nest, Single, Foreach, Nests, no_nest, with_nest, DeclForm, DSet, DPred}
use Rattle.tv_tree.specs.Forms.{DRule, PartForm, PCaption, PFocus, PPre, PMessage, PNew, PRetain, PBlock}
use Rattle.tv_tree.specs.Forms.{ActionForm, ProgramForm}
use Rattle.tv_tree.specs.Printed.{lone, nest_lines, nests_lines, decl_tokens, update_tokens, part_lines}
use Rattle.tv_tree.specs.Printed.{action_lines, edge_lines, tail_words, tail_lines, program_lines, spaced}
use Rattle.tv_tree.specs.Printed.{ended, line_text, text_of_lines}
use Rattle.tv_formula.specs.Spelled.{spell, spelled}
use Rattle.tv_front.proofs.Exact.{Tokens}
use Rattle.tv_front.proofs.PartExact.{laid}

-- the text is these tokens, each with a blank behind it
pub record IsLaidOut (text : List ℕ) (ts : List SpecToken) : Type 0 where
  pub parts : List Spaced
  pub text_is : spaced_text parts ≡ text
  pub tokens_are : spaced_tokens parts ≡ ts

-- ---- one token, one line

one_out : (w : List ℕ) (b : ℕ) (text : List ℕ) (ts : List SpecToken) → IsToken (spell w) → IsTrue (is_blank b) → IsLaidOut text ts → IsLaidOut (w ++ b ∷ text) (spell w ∷ ts)
one_out w b text ts is blank l = record {
  parts = record { token = spell w; blank = b; is_token = is; is_blank = blank } ∷ l.parts;
  text_is = append_assoc w (b ∷ []) (spaced_text l.parts) ∙ ap (λ xs. w ++ b ∷ xs) l.text_is;
  tokens_are = ap (λ xs. spell w ∷ xs) l.tokens_are;
}

spaced_more : (w : List ℕ) (ws : List (List ℕ)) → spaced (w ∷ ws) ≡ w ++ 32 ∷ spaced ws
unfolding spaced
spaced_more w ws = append_assoc w (32 ∷ []) (spaced ws)

spaced_none : spaced [] ≡ []
unfolding spaced
spaced_none = refl

-- a text without its last byte, behind another
shortened : (w s : List ℕ) → 0 < length s → take (length (w ++ 32 ∷ s) - 1) (w ++ 32 ∷ s) ≡ w ++ 32 ∷ take (length s - 1) s
shortened w s some =
    let n : length (w ++ 32 ∷ s) - 1 ≡ length w + suc (length s - 1) = omega (arith, length-append w (32 ∷ s), some) in
    ap (λ k. take k (w ++ 32 ∷ s)) n ∙ take-append-add w (32 ∷ s) (suc (length s - 1))

ended_alone : (w : List ℕ) → ended (w ++ 32 ∷ []) ≡ w ++ codes "\n"
unfolding ended
ended_alone w =
    let n : length (w ++ 32 ∷ []) - 1 ≡ length w = omega (arith, length-append w (32 ∷ [])) in
    ap (λ k. take k (w ++ 32 ∷ []) ++ codes "\n") n ∙ ap (λ xs. xs ++ codes "\n") (take-append_seam w (32 ∷ []))

ended_more : (w s : List ℕ) → 0 < length s → ended (w ++ 32 ∷ s) ≡ w ++ 32 ∷ ended s
unfolding ended
ended_more w s some = ap (λ xs. xs ++ codes "\n") (shortened w s some) ∙ append_assoc w (32 ∷ take (length s - 1) s) (codes "\n")

spaced_some : (w : List ℕ) (ws : List (List ℕ)) → 0 < length (spaced (w ∷ ws))
spaced_some w ws =
    let n : length (spaced (w ∷ ws)) ≡ length w + length (32 ∷ spaced ws) = ap (λ (xs : List ℕ). length xs) (spaced_more w ws) ∙ length-append w (32 ∷ spaced ws) in
    omega (arith, n)

last_line : (w : List ℕ) → line_text (w ∷ []) ≡ w ++ codes "\n"
unfolding line_text
last_line w = ap (λ xs. ended xs) (spaced_more w [] ∙ ap (λ xs. w ++ 32 ∷ xs) spaced_none) ∙ ended_alone w

more_line : (w v : List ℕ) (ws : List (List ℕ)) → line_text (w ∷ v ∷ ws) ≡ w ++ 32 ∷ line_text (v ∷ ws)
unfolding line_text
more_line w v ws = ap (λ xs. ended xs) (spaced_more w (v ∷ ws)) ∙ ended_more w (spaced (v ∷ ws)) (spaced_some v ws)

line_out : (w : List ℕ) (ws : List (List ℕ)) (text : List ℕ) (end : List SpecToken) → Tokens (spelled (w ∷ ws) end) → IsLaidOut text end → IsLaidOut (line_text (w ∷ ws) ++ text) (spelled (w ∷ ws) end)
line_out w [] text end are l =
    let same : w ++ 10 ∷ text ≡ line_text (w ∷ []) ++ text = sym (append_assoc w (10 ∷ []) text) ∙ ap (λ xs. xs ++ text) (sym (last_line w)) in
    subst (λ (xs : List ℕ). IsLaidOut xs (spelled (w ∷ []) end)) same (one_out w 10 text end are.0 refl l)
line_out w (v ∷ ws) text end are l =
    let same : w ++ 32 ∷ (line_text (v ∷ ws) ++ text) ≡ line_text (w ∷ v ∷ ws) ++ text = sym (append_assoc w (32 ∷ line_text (v ∷ ws)) text) ∙ ap (λ xs. xs ++ text) (sym (more_line w v ws)) in
    subst (λ (xs : List ℕ). IsLaidOut xs (spelled (w ∷ v ∷ ws) end)) same (one_out w 32 (line_text (v ∷ ws) ++ text) (spelled (v ∷ ws) end) are.0 refl (line_out v ws text end are.1 l))

-- ---- lines

-- a line of one token or more
abbrev IsLine : List (List ℕ) → Type 0
IsLine [] = ⊥
IsLine (w ∷ ws) = ⊤

abbrev AreLines : List (List (List ℕ)) → Type 0
AreLines lines = AllByRecursion IsLine lines

tokens_behind : (ws : List (List ℕ)) (end : List SpecToken) → Tokens (spelled ws end) → Tokens end
tokens_behind [] end are = are
tokens_behind (w ∷ ws) end are = tokens_behind ws end are.1

nothing_out : IsLaidOut (text_of_lines []) []
unfolding text_of_lines
nothing_out = record { parts = []; text_is = refl; tokens_are = refl }

more_out : (ws : List (List ℕ)) (lines : List (List (List ℕ))) → IsLine ws → Tokens (spelled ws (laid lines [])) → IsLaidOut (text_of_lines lines) (laid lines []) → IsLaidOut (text_of_lines (ws ∷ lines)) (spelled ws (laid lines []))
unfolding text_of_lines
more_out [] lines is are l = absurd is
more_out (w ∷ ws) lines is are l = line_out w ws (text_of_lines lines) (laid lines []) are l

pub lines_out : (lines : List (List (List ℕ))) → AreLines lines → Tokens (laid lines []) → IsLaidOut (text_of_lines lines) (laid lines [])
lines_out [] is are = nothing_out
lines_out (ws ∷ lines) is are = more_out ws lines is.0 are (lines_out lines is.1 (tokens_behind ws (laid lines []) are))

-- ---- the lines of a program

both_lines : (xs ys : List (List (List ℕ))) → AreLines xs → AreLines ys → AreLines (xs ++ ys)
both_lines [] ys a b = b
both_lines (x ∷ xs) ys a b = (a.0, both_lines xs ys a.1 b)

all_lines : {X : Type 0} (lines : X → List (List (List ℕ))) → ((x : X) → AreLines (lines x)) → (xs : List X) → AreLines (flat_map lines xs)
all_lines lines one [] = tt
all_lines lines one (x ∷ xs) = both_lines (lines x) (flat_map lines xs) (one x) (all_lines lines one xs)

module _ {X : Type 0} (tokens : X → List (List ℕ)) (one : (x : X) → IsLine (tokens x)) where
  mutual
    nest_are : (d : Nest X) → AreLines (nest_lines tokens d)
    nest_are (Single x) = (one x, tt)
    nest_are (Foreach var members body) = (tt, both_lines (nests_lines tokens body) (lone (codes "}")) (nests_are body) (tt, tt))

    nests_are : (ds : Nests X) → AreLines (nests_lines tokens ds)
    nests_are no_nest = tt
    nests_are (with_nest d ds) = both_lines (nest_lines tokens d) (nests_lines tokens ds) (nest_are d) (nests_are ds)

decl_line : (x : DeclForm) → IsLine (decl_tokens x)
decl_line (DSet w s) = tt
decl_line (DPred d) = tt
decl_line (DRule f g) = tt

part_are : (p : PartForm) → AreLines (part_lines p)
part_are (PCaption ps) = (tt, tt)
part_are (PFocus fs) = (tt, tt)
part_are (PPre f) = (tt, tt)
part_are (PMessage f ps) = (tt, tt)
part_are PNew = (tt, tt)
part_are (PRetain f) = (tt, tt)
part_are (PBlock us) = (tt, both_lines (nests_lines update_tokens us) (lone (codes "}")) (nests_are update_tokens (λ u. tt) us) (tt, tt))

action_are : (a : ActionForm) → AreLines (action_lines a)
action_are a = (tt, both_lines (flat_map part_lines a.parts) (lone (codes "}")) (all_lines part_lines part_are a.parts) (tt, tt))

words_are : (ws : List (List ℕ)) → AreLines (tail_words ws)
words_are [] = tt
words_are (w ∷ ws) = (tt, tt)

tail_are : (tail : Option (List (List ℕ))) → AreLines (tail_lines tail)
tail_are None = tt
tail_are (Some ws) = (tt, words_are ws)

pub program_are : (t : ProgramForm) → AreLines (program_lines t)
program_are t =
    let decls = nests_lines decl_tokens t.decls in
    let actions = flat_map action_lines t.actions in
    let edges = flat_map edge_lines t.edges in
    let end = lone (codes "%%") in
    both_lines (decls ++ end ++ actions ++ end ++ edges) (tail_lines t.tail)
    (both_lines (decls ++ end ++ actions ++ end) edges
    (both_lines (decls ++ end ++ actions) end
    (both_lines (decls ++ end) actions
    (both_lines decls end (nests_are decl_tokens decl_line t.decls) (tt, tt))
    (all_lines action_lines action_are t.actions))
    (tt, tt))
    (all_lines edge_lines (λ e. (tt, tt)) t.edges))
    (tail_are t.tail)
