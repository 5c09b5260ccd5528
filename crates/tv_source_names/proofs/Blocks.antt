-- The statements of a block, one after the other.
use Rattle.std.proofs.Common.{◌≡◌, ℕ, ◌+◌, ◌<◌, ◌≤◌, get_or, List, [], ◌∷◌, ◌++◌, Ok, Err, Result, length}
use Rattle.std.proofs.Common.{map, drop, refl, sym, ap, ◌∙◌}
use Rattle.std.proofs.lemmas.List.{map_push, drop_more, drop_all}
use Rattle.tv_source.specs.Forms.{Stmt, Stmts, no_stmts, with_stmt}
use Rattle.tv_source.specs.Copies.{stmts}
use Rattle.tv_source_syntax.specs.Forms.{StatementText, BlockText, no_statement, with_statement}
use Rattle.tv_source_syntax.specs.Copies.{in_a_row}
use Rattle.tv_tree.specs.Steps.{◌>>=◌}
use Rattle.tv_source_names.specs.declared.error.SourceReadError.{SourceReadError}
use Rattle.tv_source_names.specs.Meaning.{statement_meant, block_meant}
use Rattle.tv_source_names.specs.Answers.{RefusesSource}
use Rattle.tv_source_names.proofs.Names.{fails_bind, fails_along}

-- statements in front of others
abbrev pub in_front : List Stmt → Stmts → Stmts
in_front [] ss = ss
in_front (s ∷ before) ss = with_stmt s (in_front before ss)

pub all_in_front : (xs : List Stmt) → in_front xs no_stmts ≡ stmts xs
all_in_front [] = refl
all_in_front (x ∷ xs) = ap (with_stmt x) (all_in_front xs)

front_push : (xs : List Stmt) (x : Stmt) (ss : Stmts) → in_front (xs ++ x ∷ []) ss ≡ in_front xs (with_stmt x ss)
front_push [] x ss = refl
front_push (y ∷ xs) x ss = ap (with_stmt y) (front_push xs x ss)

abbrev pub behind_all : List Stmt → Result Stmts SourceReadError → Result Stmts SourceReadError
behind_all xs r = r >>= λ ss. Ok (in_front xs ss)

one_behind : (xs : List Stmt) (x : Stmt) (r : Result Stmts SourceReadError) → behind_all xs (r >>= λ ss. Ok (with_stmt x ss)) ≡ behind_all (xs ++ x ∷ []) r
one_behind xs x (Ok ss) = ap Ok (sym (front_push xs x ss))
one_behind xs x (Err e) = refl

none_before : (r : Result Stmts SourceReadError) → r ≡ behind_all [] r
none_before (Ok ss) = refl
none_before (Err e) = refl

-- before the first one
pub block_start : {A : Type 0} (g : A → Stmt) (none : List A) (r : Result Stmts SourceReadError) → none ≡ [] → r ≡ behind_all (map g none) r
block_start g none r e = none_before r ∙ ap (λ (ys : List _). behind_all (map g ys) r) (sym e)

module _ (variables fields : List (List ℕ)) where
  step : (s : StatementText) (ss : BlockText) → block_meant variables fields (with_statement s ss)
      ≡ (statement_meant variables fields s >>= λ x. block_meant variables fields ss >>= λ xs. Ok (with_stmt x xs))
  unfolding block_meant
  step s ss = refl

  pub block_end : block_meant variables fields no_statement ≡ Ok no_stmts
  unfolding block_meant
  block_end = refl

  module _ {X A : Type 0} (f : X → StatementText) (g : A → Stmt) (xs : List X) where
    pub block_done : (old : List A) (i : ℕ) → length xs ≤ i → behind_all (map g old) (block_meant variables fields (in_a_row (map f (drop i xs)))) ≡ Ok (stmts (map g old))
    block_done old i past = rw (drop_all i xs past, block_end) (ap Ok (all_in_front (map g old)))

    module _ (i : ℕ) (x : X) (lt : i < length xs) (at : x ≡ get_or xs i x) where
      block_at : block_meant variables fields (in_a_row (map f (drop i xs)))
          ≡ (statement_meant variables fields (f x) >>= λ s. block_meant variables fields (in_a_row (map f (drop (i + 1) xs))) >>= λ ss. Ok (with_stmt s ss))
      block_at =
          let here : drop i xs ≡ x ∷ drop (i + 1) xs = drop_more xs i x lt ∙ ap (λ y. y ∷ drop (i + 1) xs) (sym at) in
          ap (λ ys. block_meant variables fields (in_a_row (map f ys))) here ∙ step (f x) (in_a_row (map f (drop (i + 1) xs)))

      pub block_more : (old new : List A) (a : A) → new ≡ old ++ a ∷ [] → statement_meant variables fields (f x) ≡ Ok (g a)
          → behind_all (map g old) (block_meant variables fields (in_a_row (map f (drop i xs)))) ≡ behind_all (map g new) (block_meant variables fields (in_a_row (map f (drop (i + 1) xs))))
      block_more old new a grown meant =
          ap (behind_all (map g old)) (block_at ∙ rw meant refl)
          ∙ one_behind (map g old) (g a) (block_meant variables fields (in_a_row (map f (drop (i + 1) xs))))
          ∙ ap (λ ys. behind_all ys (block_meant variables fields (in_a_row (map f (drop (i + 1) xs))))) (sym (map_push g old a) ∙ ap (map g) (sym grown))

      pub block_fails : (old : List A) (e : SourceReadError) → RefusesSource e (statement_meant variables fields (f x))
          → RefusesSource e (behind_all (map g old) (block_meant variables fields (in_a_row (map f (drop i xs)))))
      block_fails old e h =
          fails_bind e _ (λ ss. Ok (in_front (map g old) ss))
          (fails_along e _ _ block_at (fails_bind e _ (λ s. block_meant variables fields (in_a_row (map f (drop (i + 1) xs))) >>= λ ss. Ok (with_stmt s ss)) h))
