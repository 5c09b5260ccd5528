-- A printed program is read as the same program.
use Rattle.std.proofs.Common.{◌≡◌, ℕ, List, [], ◌++◌, Ok, sym, ◌∙◌, ap, subst}
use Rattle.std.specs.Prelude.{codes}
use Rattle.std.specs.List.{flat_map}
use Rattle.std.proofs.lemmas.List.Elements.{recursion_from_All}
use Rattle.tv_lex.specs.Token.{SpecToken, spec_tokens}
use Rattle.tv_lex.specs.Pieces.{Reads}
use Rattle.tv_lex.specs.declared.token.Token.{Token}
use Rattle.tv_lex.specs.Spaced.{IsToken}
use Rattle.tv_lex.proofs.SpacedTexts.{spaced_reads}
use Rattle.tv_tree.specs.Forms.{ProgramForm}
use Rattle.tv_tree.specs.Printed.{lone, nests_lines, decl_tokens, action_lines, edge_lines, tail_lines}
use Rattle.tv_tree.specs.Printed.{program_lines, program_text}
use Rattle.tv_parse.specs.Grammar.{begins_edge, IsProgram}
use Rattle.tv_parse.specs.Height.{IsTooDeep}
use Rattle.tv_lex.proofs.PieceTokens.{lexed_tokens}
use Rattle.tv_front.proofs.Exact.{Tokens, after_exact}
use Rattle.tv_front.proofs.PartExact.{laid, laid_append, actions_exact, edges_exact, tail_exact}
use Rattle.tv_front.specs.ReadAgain.{Kept, all_kept, ProgramsAreReadAgain}
use Rattle.tv_front.proofs.Kept.{kept_tokens}
use Rattle.tv_front.proofs.DeclsAgain.{nests_survive}
use Rattle.tv_front.proofs.LaidOut.{IsLaidOut, lines_out, program_are}
use Rattle.tv_front.proofs.Height.{kept_height}
use Rattle.tv_front.proofs.Widths.{text_width, shorter}

six_laid : (a b c d e f : List (List (List ℕ))) → laid (a ++ b ++ c ++ d ++ e ++ f) [] ≡ laid a (laid b (laid c (laid d (laid e (laid f [])))))
six_laid a b c d e f =
    laid_append (a ++ b ++ c ++ d ++ e) f []
    ∙ laid_append (a ++ b ++ c ++ d) e (laid f [])
    ∙ laid_append (a ++ b ++ c) d (laid e (laid f []))
    ∙ laid_append (a ++ b) c (laid d (laid e (laid f [])))
    ∙ laid_append a b (laid c (laid d (laid e (laid f []))))

-- the printed tokens of a program are what is kept of its tokens, and are read as the program
program_again : (ts : List SpecToken) (t : ProgramForm) → IsProgram ts t → Tokens ts → Kept ts (laid (program_lines t) []) × IsProgram (laid (program_lines t) []) t
program_again ts t (us, vs, ws, xs, ys, a, b, c, d, e, f) are =
    let end = lone (codes "%%") in
    let action_rows = flat_map action_lines t.actions in
    let edge_rows = flat_map edge_lines t.edges in
    let decls = nests_survive t.decls ts us a are in
    let first_ = after_exact (codes "%%") us vs b decls.0 in
    let actions = actions_exact vs ws t.actions c first_.1 in
    let second = after_exact (codes "%%") ws xs d actions.1 in
    let edges = edges_exact begins_edge xs ys t.edges e second.1 in
    let tail = tail_exact ys t.tail f edges.1 in
    let xs_are : xs ≡ laid edge_rows (laid (tail_lines t.tail) []) = edges.0 ∙ ap (λ zs. laid edge_rows zs) tail.0 in
    let ws_are : ws ≡ laid end (laid edge_rows (laid (tail_lines t.tail) [])) = second.0 ∙ ap (λ zs. laid end zs) xs_are in
    let vs_are : vs ≡ laid action_rows (laid end (laid edge_rows (laid (tail_lines t.tail) []))) = actions.0 ∙ ap (λ zs. laid action_rows zs) ws_are in
    let us_are : us ≡ laid end (laid action_rows (laid end (laid edge_rows (laid (tail_lines t.tail) [])))) = first_.0 ∙ ap (λ zs. laid end zs) vs_are in
    let new = decls.1 us (all_kept us) in
    let lines : laid (nests_lines decl_tokens t.decls) us ≡ laid (program_lines t) [] =
    ap (λ zs. laid (nests_lines decl_tokens t.decls) zs) us_are ∙ sym (six_laid (nests_lines decl_tokens t.decls) end action_rows end edge_rows (tail_lines t.tail)) in
    subst (λ (zs : List SpecToken). Kept ts zs × IsProgram zs t) lines (new.0, (us, vs, ws, xs, ys, new.1, b, c, d, e, f))

-- a laid out text is read as its tokens
text_again : (text : List ℕ) (ts : List SpecToken) → IsLaidOut text ts → (tokens : List Token) × Reads text (Ok tokens) × (spec_tokens text tokens ≡ ts)
text_again text ts l =
    let read = spaced_reads l.parts in (
      read.0,
      subst (λ (x : List ℕ). Reads x (Ok read.0)) l.text_is read.1,
      ap (λ (x : List ℕ). spec_tokens x read.0) (sym l.text_is) ∙ read.2 ∙ l.tokens_are,
    )

pub programs_again : ProgramsAreReadAgain
programs_again bytes tokens t reads is low =
    let old = spec_tokens bytes tokens in
    let new = laid (program_lines t) [] in
    let are : Tokens old = recursion_from_All IsToken old (lexed_tokens bytes tokens reads) in
    let again = program_again old t is are in
    let out = lines_out (program_lines t) (program_are t) (kept_tokens old new again.0 are) in
    let read = text_again (program_text t) new out in
    record {
      short = shorter bytes (program_text t) old new (text_width bytes tokens reads) again.0 out;
      tokens = read.0;
      reads = read.1;
      kept = subst (λ (us : List SpecToken). Kept old us) (sym read.2) again.0;
      program = subst (λ (us : List SpecToken). IsProgram us t) (sym read.2) again.1;
      low = λ deep. low (kept_height old new again.0 [] ∙ subst (λ (us : List SpecToken). IsTooDeep us) read.2 deep);
    }
