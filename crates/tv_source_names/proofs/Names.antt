-- Declared names, one after the other.
use Rattle.std.proofs.Common.{◌≡◌, ℕ, ◌+◌, ◌<◌, Bool, false, not, cond, get_or, List, [], ◌∷◌, ◌++◌, Ok}
use Rattle.std.proofs.Common.{Result, length, map, take, drop, refl, sym, ap, ◌∙◌, subst, append_assoc, Bor}
use Rattle.std.specs.Prelude.{position}
use Rattle.std.specs.List.{list_any, position_or_len}
use Rattle.std.specs.Str.{bytes_eq}
use Rattle.std.proofs.lemmas.List.{map_push, length-map, take_more, drop_more}
use Rattle.indexmap.specs.IndexSet.{insert_key}
use Rattle.tv_tree.specs.Names.{is_among, names_of}
use Rattle.tv_tree.specs.Steps.{◌>>=◌}
use Rattle.tv_source_names.specs.declared.error.SourceReadError.{SourceReadError}
use Rattle.tv_source_names.specs.declared.error.SourceReadError.TheVariants.{TooDeep, Syntax, Reserved}
use Rattle.tv_source_names.specs.declared.error.SourceReadError.TheVariants.{NameTwice, NameUnknown, Memory}
use Rattle.tv_source_names.specs.Meaning.{may_be_declared, declared}
use Rattle.tv_source_names.specs.Answers.{RefusesSource}

-- ---- what a set of words says

module _ (same : Bor (List ℕ) → Bor (List ℕ) → Bool) (means : (a b : Bor (List ℕ)) → same a b ≡ bytes_eq a.now b.now) where
  pub among_names : (ks : List (Bor (List ℕ))) (k : Bor (List ℕ)) → list_any (same k) ks ≡ is_among (names_of ks) k.now
  among_names [] k = refl
  among_names (l ∷ ks) k = rw (means k l, among_names ks k) refl

  -- a new name goes last
  pub names_added : (ks : List (Bor (List ℕ))) (k : Bor (List ℕ)) → list_any (same k) ks ≡ false
      → names_of (insert_key same ks k) ≡ names_of ks ++ k.now ∷ []
  names_added ks k new = rw new (map_push (λ name. name.now) ks k)

-- ---- refusals are handed on

pub fails_bind : {A B : Type 0} (e : SourceReadError) (r : Result A SourceReadError) (g : A → Result B SourceReadError) → RefusesSource e r → RefusesSource e (r >>= g)
fails_bind TooDeep r g h = absurd h
fails_bind (Syntax place) r g h = absurd h
fails_bind Reserved r g h = ap (λ q. q >>= g) h
fails_bind NameTwice r g h = ap (λ q. q >>= g) h
fails_bind NameUnknown r g h = ap (λ q. q >>= g) h
fails_bind Memory r g h = tt

pub fails_along : {A : Type 0} (e : SourceReadError) (q r : Result A SourceReadError) → q ≡ r → RefusesSource e r → RefusesSource e q
fails_along e q r same h = subst (RefusesSource e) (sym same) h

-- ---- the loop

module _ {X : Type 0} (f : X → List ℕ) (xs : List X) (i : ℕ) (x : X) (lt : i < length xs) (at : x ≡ get_or xs i x) where
  declared_at : (before : List (List ℕ)) → declared before (map f (drop i xs)) ≡ (may_be_declared before (f x) >>= λ one. declared (before ++ f x ∷ []) (map f (drop (i + 1) xs)))
  declared_at before =
      let here : drop i xs ≡ x ∷ drop (i + 1) xs = drop_more xs i x lt ∙ ap (λ y. y ∷ drop (i + 1) xs) (sym at) in
      ap (λ ys. declared before (map f ys)) here

  pub declared_more : (before names more : List (List ℕ)) → may_be_declared (before ++ names) (f x) ≡ Ok tt → more ≡ names ++ f x ∷ []
      → declared (before ++ names) (map f (drop i xs)) ≡ declared (before ++ more) (map f (drop (i + 1) xs))
  declared_more before names more one grown =
      let regrouped : (before ++ names) ++ f x ∷ [] ≡ before ++ (names ++ f x ∷ []) = simp append_assoc in
      let behind : (before ++ names) ++ f x ∷ [] ≡ before ++ more = regrouped ∙ ap (λ ns. before ++ ns) (sym grown) in
      declared_at (before ++ names) ∙ rw one (ap (λ ns. declared ns (map f (drop (i + 1) xs))) behind)

  pub declared_fails : (before : List (List ℕ)) (e : SourceReadError) → RefusesSource e (may_be_declared before (f x)) → RefusesSource e (declared before (map f (drop i xs)))
  declared_fails before e h = fails_along e _ _ (declared_at before) (fails_bind e _ (λ one. declared (before ++ f x ∷ []) (map f (drop (i + 1) xs))) h)

  pub names_more : (names more : List (List ℕ)) → names ≡ map f (take i xs) → more ≡ names ++ f x ∷ [] → more ≡ map f (take (i + 1) xs)
  names_more names more so_far grown =
      grown ∙ ap (λ ns. ns ++ f x ∷ []) so_far ∙ ap (λ w. map f (take i xs) ++ w ∷ []) (ap f at)
      ∙ sym (map_push f (take i xs) (get_or xs i x)) ∙ ap (map f) (sym (take_more xs i x lt))
