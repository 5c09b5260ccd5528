-- What stands for a word: what is bound last, before what is bound in front of it.
use Rattle.std.proofs.Common.{◌≡◌, ℕ, ◌+◌, ◌<◌, ◌≤◌, Bool, true, false, cond, get_or, List, [], ◌∷◌, ◌++◌}
use Rattle.std.proofs.Common.{length, fold, drop, refl, sym, ap, subst, ◌∙◌, inl, inr, Option, Some, None}
use Rattle.std.proofs.Common.{Bor}
use Rattle.std.specs.Prelude.{if◌then◌else◌}
use Rattle.std.specs.Map.{lookup}
use Rattle.std.specs.Option.{option_map}
use Rattle.std.specs.Str.{bytes_eq}
use Rattle.std.proofs.lemmas.Bool.{cases_Bool, false_from_ne_true}
use Rattle.std.proofs.lemmas.List.{drop_more, drop_all, map_push}
use Rattle.std.proofs.lemmas.List.Sums.{fold_push}
use Rattle.std.proofs.lemmas.Slice.Eq.{bytes_eq-Decides}
use Rattle.indexmap.specs.IndexMap.{insert_entry}
use Rattle.tv_flat.specs.declared.binding.Bound.{Bound}
use Rattle.tv_flat.specs.Replaced.{Binding, bound, all_bound, replaced}
use Rattle.tv_flat.specs.Views.{param_of, params_of, pair_of, pairs_of}

-- ---- parameters

pub bound_param : (es : List (Bor (List ℕ) × Bor (List ℕ))) (word by : Bor (List ℕ)) → params_of (insert_entry (λ (x y : Bor (List ℕ)). bytes_eq x.now y.now) es word by) ≡ bound (params_of es) word.now by.now
bound_param [] word by = refl
bound_param (e ∷ es) word by = step (bytes_eq word.now e.0.now) (bound_param es word by)
  where
    step : (t : Bool) → params_of (insert_entry (λ (x y : Bor (List ℕ)). bytes_eq x.now y.now) es word by) ≡ bound (params_of es) word.now by.now → params_of (cond t ((e.0, by) ∷ es) (e ∷ insert_entry (λ (x y : Bor (List ℕ)). bytes_eq x.now y.now) es word by)) ≡ cond t ((e.0.now, by.now) ∷ params_of es) (param_of e ∷ bound (params_of es) word.now by.now)
    step true rest = refl
    step false rest = ap (λ ps. param_of e ∷ ps) rest

found_param : (es : List (Bor (List ℕ) × Bor (List ℕ))) (word : List ℕ) → lookup (bytes_eq word) (params_of es) ≡ option_map (λ (b : Bor (List ℕ)). b.now) (lookup (λ (k : Bor (List ℕ)). bytes_eq word k.now) es)
found_param [] word = refl
found_param (e ∷ es) word = step (bytes_eq word e.0.now) (found_param es word)
  where
    step : (t : Bool) → lookup (bytes_eq word) (params_of es) ≡ option_map (λ (b : Bor (List ℕ)). b.now) (lookup (λ (k : Bor (List ℕ)). bytes_eq word k.now) es) → cond t (Some e.1.now) (lookup (bytes_eq word) (params_of es)) ≡ option_map (λ (b : Bor (List ℕ)). b.now) (cond t (Some e.1) (lookup (λ (k : Bor (List ℕ)). bytes_eq word k.now) es))
    step true rest = refl
    step false rest = rest

pub argument_found : (es : List (Bor (List ℕ) × Bor (List ℕ))) (word : List ℕ) (by : Bor (List ℕ)) → ◌≡◌ {A = Option (Bor (List ℕ))} (Some by) (lookup (λ (k : Bor (List ℕ)). bytes_eq word k.now) es) → by.now ≡ replaced (params_of es) word
argument_found es word by is = rw (found_param es word, ← is) refl

pub argument_none : (es : List (Bor (List ℕ) × Bor (List ℕ))) (word : List ℕ) → ◌≡◌ {A = Option (Bor (List ℕ))} None (lookup (λ (k : Bor (List ℕ)). bytes_eq word k.now) es) → word ≡ replaced (params_of es) word
argument_none es word is = rw (found_param es word, ← is) refl

-- ---- variables

-- one pair further
abbrev pub further : List ℕ → List ℕ → List ℕ × List ℕ → List ℕ
further word found p = if bytes_eq p.0 word then p.1 else found

pub replaced_more : (word found : List ℕ) (bs : List Bound) (i : ℕ) (d : Bound) → i < length bs → fold (further word) (if bytes_eq ((get_or bs i d).word.now) word then (get_or bs i d).by.now else found) (pairs_of (drop (i + 1) bs)) ≡ fold (further word) found (pairs_of (drop i bs))
replaced_more word found bs i d below = rw (drop_more bs i d below) refl

pub replaced_done : (word found : List ℕ) (bs : List Bound) (i : ℕ) → length bs ≤ i → fold (further word) found (pairs_of (drop i bs)) ≡ found
replaced_done word found bs i past = rw (drop_all i bs past) refl

differ_back : (k w : List ℕ) → bytes_eq k w ≡ false → bytes_eq w k ≡ false
differ_back k w h = false_from_ne_true (bytes_eq w k) (λ e. let same : k ≡ w = sym ((bytes_eq-Decides w k).0 e) in let t : bytes_eq k w ≡ true = (bytes_eq-Decides k w).1 same in cc)

bound_same : (b : Binding) (k v : List ℕ) → lookup (bytes_eq k) (bound b k v) ≡ Some v
bound_same [] k v = rw ((bytes_eq-Decides k k).1 refl) refl
bound_same (e ∷ b) k v =
    elim (cases_Bool (bytes_eq k e.0)) [
      | inl h ↦ rw h (rw h refl)
      | inr h ↦ rw h (rw h (bound_same b k v))
    ]

bound_other : (b : Binding) (k v w : List ℕ) → bytes_eq k w ≡ false → lookup (bytes_eq w) (bound b k v) ≡ lookup (bytes_eq w) b
bound_other [] k v w apart = rw (differ_back k w apart) refl
bound_other (e ∷ b) k v w apart =
    elim (cases_Bool (bytes_eq k e.0)) [
      | inl h ↦
          let same : k ≡ e.0 = (bytes_eq-Decides k e.0).0 h in
          let other : bytes_eq w e.0 ≡ false = subst (λ (x : List ℕ). bytes_eq w x ≡ false) same (differ_back k w apart) in
          rw h (rw other refl)
      | inr h ↦ rw h (ap (λ (o : Option (List ℕ)). cond (bytes_eq w e.0) (Some e.1) o) (bound_other b k v w apart))
    ]

-- what is bound last counts
pub replaced_bound : (b : Binding) (word : List ℕ) (p : List ℕ × List ℕ) → further word (replaced b word) p ≡ replaced (bound b p.0 p.1) word
replaced_bound b word p =
    elim (cases_Bool (bytes_eq p.0 word)) [
      | inl h ↦
          let same : p.0 ≡ word = (bytes_eq-Decides p.0 word).0 h in
          rw h (rw (← same) (rw (bound_same b p.0 p.1) refl))
      | inr h ↦ rw h (rw (bound_other b p.0 p.1 word h) refl)
    ]

pub innermost_replaced : (b : Binding) (ps : List (List ℕ × List ℕ)) (word : List ℕ) → fold (further word) (replaced b word) ps ≡ replaced (all_bound b ps) word
innermost_replaced b [] word = refl
innermost_replaced b (p ∷ ps) word =
    ap (λ found. fold (further word) found ps) (replaced_bound b word p) ∙ innermost_replaced (bound b p.0 p.1) ps word

pub bound_var : (b : Binding) (bs : List Bound) (v : Bound) → all_bound b (pairs_of (bs ++ v ∷ [])) ≡ bound (all_bound b (pairs_of bs)) v.word.now v.by.now
bound_var b bs v = rw (map_push pair_of bs v) (fold_push (λ c (p : List ℕ × List ℕ). bound c p.0 p.1) b (pairs_of bs) (pair_of v))
