-- Edges of statements, one after the other.
use Rattle.std.proofs.Common.{ℕ, ◌≡◌, ◌<◌, ◌+◌, ◌∙◌, suc, List, [], ◌∷◌, ◌++◌, length, map, drop, get_or}
use Rattle.std.proofs.Common.{refl, ap, arith, append_assoc}
use Rattle.std.proofs.Math.Seq.{drop-cons}
use Rattle.tv_source.specs.Copies.{stmts, stmt_of}
use Rattle.tv_source.specs.Forms.{Stmt, Stmts, with_stmt, SourceForm}
use Rattle.tv_source.specs.declared.source.Statement.{Statement}
use Rattle.tv_plang_laws.specs.Compiled.{Arc, arcs, block_arcs, entry}
use Rattle.tv_plang_laws.specs.Positions.{count}

-- what is left of a block's statements
abbrev pub left_of : List Statement → ℕ → Stmts
left_of statements i = stmts (map stmt_of (drop i statements))

pub left-step : (statements : List Statement) (i : ℕ) (d : Statement) → i < length statements
    → left_of statements i ≡ with_stmt (stmt_of (get_or statements i d)) (left_of statements (i + 1))
left-step statements i d below =
    let next : suc i ≡ i + 1 = omega arith
    in ap (λ xs. stmts (map stmt_of xs)) (drop-cons statements i d below)
    ∙ ap (λ j. with_stmt (stmt_of (get_or statements i d)) (left_of statements j)) next

-- the edges of one statement behind those so far, and then those of what is left
pub block-step : (p : SourceForm) (number next behind after : ℕ) (s : Stmt) (more : Stmts) (out longer whole : List Arc)
    → next ≡ number + count s → after ≡ entry next more behind → longer ≡ out ++ arcs p number s after
    → out ++ block_arcs p number (with_stmt s more) behind ≡ whole
    → longer ++ block_arcs p next more behind ≡ whole
block-step p number next behind after s more out longer whole next_is after_is grown all =
    let enter : after ≡ entry (number + count s) more behind = after_is ∙ ap (λ k. entry k more behind) next_is
    in ap (λ xs. xs ++ block_arcs p next more behind) grown
    ∙ append_assoc out (arcs p number s after) (block_arcs p next more behind)
    ∙ ap (λ k. out ++ (arcs p number s after ++ block_arcs p k more behind)) next_is
    ∙ ap (λ k. out ++ (arcs p number s k ++ block_arcs p (number + count s) more behind)) enter
    ∙ all

-- where there is a statement, control enters it
pub entered : (first behind : ℕ) (statements : List Statement) → 0 < length statements
    → entry first (stmts (map stmt_of statements)) behind ≡ first
entered first behind [] some = absurd (omega (arith, some))
entered first behind (s ∷ statements) some = refl

-- two edges, and then those of two blocks
pub two_blocks : (out xs ys : List Arc) (true_one false_one : Arc) (one two three : List Arc) → one ≡ out ++ true_one ∷ false_one ∷ [] → two ≡ one ++ xs
    → three ≡ two ++ ys → three ≡ out ++ (true_one ∷ false_one ∷ (xs ++ ys))
two_blocks out xs ys true_one false_one one two three is_one is_two is_three =
    is_three
    ∙ ap (λ zs. zs ++ ys) (is_two ∙ ap (λ zs. zs ++ xs) is_one)
    ∙ append_assoc (out ++ true_one ∷ false_one ∷ []) xs ys
    ∙ append_assoc out (true_one ∷ false_one ∷ []) (xs ++ ys)

-- two edges, and then those of one block
pub one_block : (out xs : List Arc) (true_one false_one : Arc) (one two : List Arc) → one ≡ out ++ true_one ∷ false_one ∷ [] → two ≡ one ++ xs
    → two ≡ out ++ (true_one ∷ false_one ∷ xs)
one_block out xs true_one false_one one two is_one is_two = is_two ∙ ap (λ zs. zs ++ xs) is_one ∙ append_assoc out (true_one ∷ false_one ∷ []) xs
