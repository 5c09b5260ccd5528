-- Steps one after the other.
use Rattle.std.proofs.Common.{◌≡◌, ℕ, ◌+◌, ◌<◌, ◌≤◌, get_or, List, [], ◌∷◌, length, map, drop, refl, sym, ap}
use Rattle.std.proofs.Common.{◌∙◌, Result, Ok, Err, Bor}
use Rattle.std.proofs.lemmas.List.{drop_more, drop_all}
use Rattle.tv_tree.specs.Forms.{Nest}
use Rattle.tv_tree.specs.Copies.{nests, decl_of, decls_of, update_of, updates_of}
use Rattle.tv_expand.specs.declared.error.ExpandError.{ExpandError}
use Rattle.tv_expand.specs.Outcome.{◌>>=◌, each, FailsExpansion}
use Rattle.tv_flat.specs.Replaced.{Binding}
use Rattle.tv_expand.specs.Sets.{Sets}
use Rattle.tv_expand.specs.Expansion.{unrolled, unrolled_nest, Declared, declared, sets_in, all_declared}
use Rattle.tv_expand.specs.Expansion.{Block, updated, sets_for, all_updated}
use Rattle.tv_tree.specs.declared.trees.Decls.{Decls}
use Rattle.tv_tree.specs.declared.trees.UpdateTrees.{UpdateTrees}
use Rattle.tv_tree.proofs.Unfolds.{decls_of_items, updates_of_items}
use Rattle.tv_expand.specs.Views.{names_of}
use Rattle.tv_expand.proofs.SetLaws.{fails_then}

module _ {X S : Type 0} (step : X → S → Result S ExpandError) where
  -- one more item of a list
  pub each_more : (xs : List X) (i : ℕ) (x : X) (s t : S) → i < length xs → x ≡ get_or xs i x → step x s ≡ Ok t → each step (drop (i + 1) xs) t ≡ each step (drop i xs) s
  each_more xs i x s t below is goes = sym (rw (drop_more xs i x below, ← is, goes) refl)

  pub each_fails : (xs : List X) (i : ℕ) (x : X) (s : S) (e : ExpandError) → i < length xs → x ≡ get_or xs i x → FailsExpansion e (step x s) → FailsExpansion e (each step (drop i xs) s)
  each_fails xs i x s e below is h = rw (drop_more xs i x below, ← is) (fails_then e (step x s) (each step (drop (i + 1) xs)) h)

  pub each_done : (xs : List X) (i : ℕ) (s : S) → length xs ≤ i → each step (drop i xs) s ≡ Ok s
  each_done xs i s past = rw (drop_all i xs past) refl

module _ {S : Type 0} (step : List ℕ → S → Result S ExpandError) where
  -- one more of words that are borrowed
  pub names_more : (words : List (Bor (List ℕ))) (i : ℕ) (d : Bor (List ℕ)) (s t : S) → i < length words → step ((get_or words i d).now) s ≡ Ok t → each step (names_of (drop (i + 1) words)) t ≡ each step (names_of (drop i words)) s
  names_more words i d s t below goes = sym (rw (drop_more words i d below, goes) refl)

  pub names_fail : (words : List (Bor (List ℕ))) (i : ℕ) (d : Bor (List ℕ)) (s : S) (e : ExpandError) → i < length words → FailsExpansion e (step ((get_or words i d).now) s) → FailsExpansion e (each step (names_of (drop i words)) s)
  names_fail words i d s e below h = rw (drop_more words i d below) (fails_then e (step ((get_or words i d).now) s) (each step (names_of (drop (i + 1) words))) h)

  pub names_done : (words : List (Bor (List ℕ))) (i : ℕ) (s : S) → length words ≤ i → each step (names_of (drop i words)) s ≡ Ok s
  names_done words i s past = rw (drop_all i words past) refl

module _ {X S D : Type 0} (sets : S → Sets) (single : Binding → X → S → Result S ExpandError) (b : Binding) (view : D → Nest X) where
  -- what stands one after the other is gone through as a list
  pub unrolled_each : (ds : List D) (s : S) → unrolled sets single b (nests (map view ds)) s ≡ each (λ d. unrolled_nest sets single b (view d)) ds s
  unrolled_each [] s = refl
  unrolled_each (d ∷ ds) s = by (unrolled_nest sets single b (view d) s) (λ t. unrolled_each ds t)
    where
      by : (out : Result S ExpandError) → ((t : S) → unrolled sets single b (nests (map view ds)) t ≡ each (λ x. unrolled_nest sets single b (view x)) ds t) → (out >>= unrolled sets single b (nests (map view ds))) ≡ (out >>= each (λ x. unrolled_nest sets single b (view x)) ds)
      by (Ok t) rest = rest t
      by (Err e) rest = refl

-- the declarations and the updates of a list
pub decls_each : (b : Binding) (ds : Decls) (s : Declared) → all_declared b (decls_of ds) s ≡ each (λ d. unrolled_nest sets_in declared b (decl_of d)) ds.items.items s
decls_each b ds s = ap (λ ns. all_declared b ns s) (decls_of_items ds) ∙ unrolled_each sets_in declared b decl_of ds.items.items s

pub updates_each : (sets : Sets) (b : Binding) (us : UpdateTrees) (s : Block) → all_updated sets b (updates_of us) s ≡ each (λ u. unrolled_nest (sets_for sets) updated b (update_of u)) us.items.items s
updates_each sets b us s = ap (λ ns. all_updated sets b ns s) (updates_of_items us) ∙ unrolled_each (sets_for sets) updated b update_of us.items.items s

pub each_map : {X Y S : Type 0} (step : Y → S → Result S ExpandError) (f : X → Y) (xs : List X) (s : S) → each step (map f xs) s ≡ each (λ x. step (f x)) xs s
each_map step f [] s = refl
each_map {X} {Y} {S} step f (x ∷ xs) s = by (step (f x) s) (λ t. each_map step f xs t)
  where
    by : (out : Result S ExpandError) → ((t : S) → each step (map f xs) t ≡ each (λ y. step (f y)) xs t) → (out >>= each step (map f xs)) ≡ (out >>= each (λ y. step (f y)) xs)
    by (Ok t) rest = rest t
    by (Err e) rest = refl
