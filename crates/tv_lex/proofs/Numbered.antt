-- Bytes of a file with the numbers of their lines.
use Rattle.std.proofs.Common.{◌≡◌, ℕ, suc, ◌+◌, List, [], ◌∷◌, ◌++◌, cond, length, ap, sym, refl, ◌∙◌, inl}
use Rattle.std.proofs.Common.{inr, arith}
use Rattle.std.specs.Prelude.{◌==◌, if◌then◌else◌}
use Rattle.std.proofs.lemmas.List.Sums.{sum_by-cons}
use Rattle.std.proofs.lemmas.Bool.{cases_Bool}
use Rattle.tv_lex.specs.Parts.{line_feeds}
use Rattle.tv_lex.specs.Traced.{InLine, bytes_of, in_line, numbered_from}

pub bytes_in_line : (name : List ℕ) (line : ℕ) (bytes : List ℕ) → bytes_of (in_line name line bytes) ≡ bytes
bytes_in_line name line [] = refl
bytes_in_line name line (b ∷ bs) = ap (λ l. b ∷ l) (bytes_in_line name line bs)

pub numbered_len : (name : List ℕ) (line : ℕ) (bytes : List ℕ) → length (numbered_from name line bytes) ≡ length bytes
numbered_len name line [] = refl
numbered_len name line (b ∷ bs) = ap suc (numbered_len name (if b == 10 then line + 1 else line) bs)

-- the number behind a byte, and the line feeds up to it
pub next_line : (b line more : ℕ) → (if b == 10 then line + 1 else line) + more ≡ line + (cond (b == 10) 1 0 + more)
next_line b line more = elim (cases_Bool (b == 10)) [
  | inl feed ↦ rw feed (omega arith)
  | inr other ↦ rw other (omega arith)
]

pub numbered_append : (name : List ℕ) (line : ℕ) (xs ys : List ℕ)
    → numbered_from name line (xs ++ ys) ≡ numbered_from name line xs ++ numbered_from name (line + line_feeds xs) ys
numbered_append name line [] ys = ap (λ n. numbered_from name n ys) (omega arith)
numbered_append name line (x ∷ xs) ys =
    let next = if x == 10 then line + 1 else line in
    let count : next + line_feeds xs ≡ line + line_feeds (x ∷ xs) =
    next_line x line (line_feeds xs) ∙ ap (λ n. line + n) (sym (sum_by-cons (λ b. cond (b == 10) 1 0) x xs)) in
    ap (λ l. InLine name line x ∷ l)
    (numbered_append name next xs ys ∙ ap (λ n. numbered_from name next xs ++ numbered_from name n ys) count)

pub bytes_numbered : (name : List ℕ) (line : ℕ) (bytes : List ℕ) → bytes_of (numbered_from name line bytes) ≡ bytes
bytes_numbered name line [] = refl
bytes_numbered name line (b ∷ bs) = ap (λ l. b ∷ l) (bytes_numbered name (if b == 10 then line + 1 else line) bs)
