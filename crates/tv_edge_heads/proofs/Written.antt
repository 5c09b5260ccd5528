-- A printed edge without its line feed.
use Rattle.std.proofs.Common.{◌≡◌, ℕ, ◌-◌, List, [], ◌∷◌, ◌++◌, length, take, ap, sym, ◌∙◌, arith}
use Rattle.std.proofs.Common.{append_assoc, length-append}
use Rattle.std.proofs.Math.Seq.{take-append_seam}
use Rattle.std.proofs.lemmas.List.{append-nil}
use Rattle.std.specs.Prelude.{codes}
use Rattle.tv_file_lines.specs.FileLines.{file_line_text}
use Rattle.tv_tree.specs.Forms.{EdgeForm}
use Rattle.tv_tree.specs.Printed.{edge_lines, edge_tokens, ended, line_text, spaced, text_of_lines}
use Rattle.tv_edge_heads.specs.Heads.{IsHeadOf}

-- a printed edge ends in a line feed
line_ends : (edge : EdgeForm) → (front : List ℕ) × (text_of_lines (edge_lines edge) ≡ front ++ codes "\n")
unfolding text_of_lines line_text ended
line_ends edge =
    let words = spaced (edge_tokens edge) in
    (take (length words - 1) words, append-nil (take (length words - 1) words ++ codes "\n"))

-- the last byte is taken off and put back
put_back : (front bytes : List ℕ) (last : ℕ) → bytes ≡ front ++ last ∷ [] → take (length bytes - 1) bytes ++ last ∷ [] ≡ bytes
put_back front bytes last is =
    let len : length bytes - 1 ≡ length front =
    omega (arith, ap (λ (l : List ℕ). length l) is, length-append front (last ∷ [])) in
    let taken : take (length bytes - 1) bytes ≡ front =
    ap (λ n. take n bytes) len ∙ ap (take (length front)) is ∙ take-append_seam front (last ∷ []) in
    ap (λ l. l ++ last ∷ []) taken ∙ sym is

pub without_feed : (edge : EdgeForm) (name : List ℕ) (line : ℕ) (bytes head : List ℕ)
    → bytes ≡ file_line_text name line ++ (codes "  " ++ text_of_lines (edge_lines edge))
    → head ≡ take (length bytes - 1) bytes → IsHeadOf edge name line head
without_feed edge name line bytes head is cut =
    let end = line_ends edge in
    let front = file_line_text name line ++ (codes "  " ++ end.0) in
    let whole : bytes ≡ front ++ codes "\n" =
    is ∙ ap (λ l. file_line_text name line ++ (codes "  " ++ l)) end.1
    ∙ ap (λ l. file_line_text name line ++ l) (sym (append_assoc (codes "  ") end.0 (codes "\n")))
    ∙ sym (append_assoc (file_line_text name line) (codes "  " ++ end.0) (codes "\n")) in
    ap (λ l. l ++ codes "\n") cut ∙ put_back front bytes 10 whole ∙ is
