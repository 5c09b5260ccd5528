-- Names that stand twice.
use Rattle.std.proofs.Common.{◌≡◌, ◌≢◌, ℕ, zero, suc, ◌+◌, ◌<◌, Bool, true, false, not, ◌||◌, get_or}
use Rattle.std.proofs.Common.{List, [], ◌∷◌, ◌++◌, length, map, take, drop, refl, sym, ap, ◌∙◌, arith, Bor}
use Rattle.std.specs.Prelude.{AllPairs}
use Rattle.std.specs.List.{list_any}
use Rattle.std.specs.Str.{bytes_eq}
use Rattle.std.proofs.lemmas.Bool.{false_from_ne_true, not-true, not-false}
use Rattle.std.proofs.lemmas.List.{map_push, length-map, get_or-map, take_more, length-take-le, get_or-take}
use Rattle.std.proofs.lemmas.Slice.Eq.{bytes_eq-Decides}
use Rattle.indexmap.specs.IndexSet.{insert_key}
use Rattle.tv_model.specs.declared.program.Pred.{Pred}
use Rattle.tv_tree.specs.Names.{is_among, names_of}
use Rattle.tv_tvs.specs.Meaning.{has_twice}

module _ (same : Bor (List ℕ) → Bor (List ℕ) → Bool) (means : (a b : Bor (List ℕ)) → same a b ≡ bytes_eq a.now b.now) where
  pub among_names : (ks : List (Bor (List ℕ))) (k : Bor (List ℕ)) → list_any (same k) ks ≡ is_among (names_of ks) k.now
  among_names [] k = refl
  among_names (l ∷ ks) k = rw (means k l, among_names ks k) refl

  -- a new name goes last
  pub names_added : (ks : List (Bor (List ℕ))) (k : Bor (List ℕ)) → list_any (same k) ks ≡ false
      → names_of (insert_key same ks k) ≡ names_of ks ++ k.now ∷ []
  names_added ks k new = rw new (map_push (λ name. name.now) ks k)

-- a name that none before it has
pub among_not : (names : List (List ℕ)) (name : List ℕ) → ((k : ℕ) → k < length names → get_or names k [] ≡ name → ⊥) → is_among names name ≡ false
among_not [] name apart = refl
among_not (n ∷ names) name apart =
    let first : bytes_eq name n ≡ false = false_from_ne_true (bytes_eq name n) (λ h. apart 0 (omega arith) (sym ((bytes_eq-Decides name n).0 h)))
    in let others : is_among names name ≡ false = among_not names name (λ k lt e. apart (suc k) (omega (arith, lt)) e)
    in rw (first, others) refl

-- one more predicate's name
pub pred_added : (preds : List Pred) (names more : List (List ℕ)) (i : ℕ) (pred : Pred) (name : List ℕ) (new : Bool)
    → AllPairs ◌≢◌ (map (λ q. q.name) preds) → i < length preds → pred ≡ get_or preds i pred → name ≡ pred.name
    → names ≡ map (λ q. q.name) (take i preds) → new ≡ not (is_among names name) → (new ≡ true → more ≡ names ++ name ∷ [])
    → more ≡ map (λ q. q.name) (take (i + 1) preds)
pred_added preds names more i pred name new apart lt at named so_far is_new grown =
    let length_names : length names ≡ i = ap length so_far ∙ length-map (take i preds) (λ q. q.name) ∙ length-take-le i preds (omega (arith, lt))
    in let here : get_or (map (λ q. q.name) preds) i [] ≡ name = get_or-map (λ q. q.name) preds i pred [] lt ∙ ap (λ q. q.name) (sym at) ∙ sym named
    in let within : i < length (map (λ q. q.name) preds) = rw (length-map preds (λ q. q.name)) lt
    in let not_there : is_among names name ≡ false = among_not names name (λ k less e.
    let small : k < i = omega (arith, less, length_names)
    in let there : get_or (map (λ q. q.name) preds) k [] ≡ get_or names k []
    = get_or-map (λ q. q.name) preds k pred [] (omega (arith, small, lt)) ∙ ap (λ q. q.name) (sym (get_or-take i preds k pred small))
    ∙ sym (get_or-map (λ q. q.name) (take i preds) k pred [] (rw (length-take-le i preds (omega (arith, lt))) small)) ∙ ap (λ ns. get_or ns k []) (sym so_far)
    in apart k i [] small within (there ∙ e ∙ sym here))
    in let more_is : more ≡ names ++ name ∷ [] = grown (is_new ∙ ap not not_there)
    in more_is ∙ ap (λ ns. ns ++ name ∷ []) so_far ∙ ap (λ w. map (λ q. q.name) (take i preds) ++ w ∷ []) (named ∙ ap (λ q. q.name) at)
    ∙ sym (map_push (λ q. q.name) (take i preds) (get_or preds i pred)) ∙ ap (map (λ q. q.name)) (sym (take_more preds i pred lt))

pub drop_next : {X : Type 0} (xs : List X) (i : ℕ) (x : X) → i < length xs → drop i xs ≡ get_or xs i x ∷ drop (i + 1) xs
drop_next [] i x lt = absurd (omega arith)
drop_next (y ∷ ys) zero x lt = refl
drop_next (y ∷ ys) (suc i) x lt =
    let next : suc i + 1 ≡ suc (i + 1) = omega arith
    in rw next (drop_next ys i x (omega arith))

-- one more name was seen, where each stands for a token
module _ {X : Type 0} (f : X → List ℕ) (xs : List X) (i : ℕ) (x : X) (name : List ℕ) (lt : i < length xs) (at : x ≡ get_or xs i x) (named : name ≡ f x) where
  behind_is : drop i xs ≡ x ∷ drop (i + 1) xs
  behind_is = drop_next xs i x lt ∙ ap (λ y. y ∷ drop (i + 1) xs) (sym at)

  pub left_more : (seen more : List (List ℕ)) (new : Bool) → has_twice [] (map f xs) ≡ has_twice seen (map f (drop i xs))
      → new ≡ not (is_among seen name) → new ≡ true → more ≡ seen ++ name ∷ [] → has_twice [] (map f xs) ≡ has_twice more (map f (drop (i + 1) xs))
  left_more seen more new left is_new added grown =
      let not_there : is_among seen name ≡ false = not-true (is_among seen name) (sym is_new ∙ added)
      in left ∙ ap (λ ys. has_twice seen (map f ys)) behind_is
      ∙ ap (λ w. is_among seen w || has_twice (seen ++ w ∷ []) (map f (drop (i + 1) xs))) (sym named)
      ∙ ap (λ b. b || has_twice (seen ++ name ∷ []) (map f (drop (i + 1) xs))) not_there
      ∙ ap (λ ns. has_twice ns (map f (drop (i + 1) xs))) (sym grown)

  pub left_twice : (seen : List (List ℕ)) (new : Bool) → has_twice [] (map f xs) ≡ has_twice seen (map f (drop i xs))
      → new ≡ not (is_among seen name) → new ≡ false → has_twice [] (map f xs) ≡ true
  left_twice seen new left is_new kept =
      let there : is_among seen name ≡ true = not-false (is_among seen name) (sym is_new ∙ kept)
      in left ∙ ap (λ ys. has_twice seen (map f ys)) behind_is
      ∙ ap (λ w. is_among seen w || has_twice (seen ++ w ∷ []) (map f (drop (i + 1) xs))) (sym named)
      ∙ ap (λ b. b || has_twice (seen ++ name ∷ []) (map f (drop (i + 1) xs))) there

  pub seen_more : (seen more : List (List ℕ)) → seen ≡ map f (take i xs) → more ≡ seen ++ name ∷ [] → more ≡ map f (take (i + 1) xs)
  seen_more seen more so_far grown =
      grown ∙ ap (λ ns. ns ++ name ∷ []) so_far ∙ ap (λ w. map f (take i xs) ++ w ∷ []) (named ∙ ap f at)
      ∙ sym (map_push f (take i xs) (get_or xs i x)) ∙ ap (map f) (sym (take_more xs i x lt))
