-- Changes that move values one way alone move a formula's value one way alone.
use Rattle.std.proofs.Common.{ℕ, ◌≡◌, ◌∙◌, ◌==◌, if◌then◌else◌, inl, inr, ⊎_elim, Bool, true, false, not}
use Rattle.std.proofs.Common.{List, [], ◌∷◌, map, refl, sym, ap, subst}
use Rattle.std.specs.List.{range_with_len}
use Rattle.tv_kleene.specs.declared.K3.{K3}
use Rattle.tv_kleene.specs.declared.K3.TheVariants.{No, Half, Yes}
use Rattle.tv_kleene.specs.Kleene.{IsAtMost, smaller_of, larger_of, negation_of}
use Rattle.tv_kleene.proofs.Thresholds.{Must, May, must_threshold, may_threshold, Must-negation, May-negation}
use Rattle.tv_kleene.proofs.Thresholds.{Must-is, thresholds_determine}
use Rattle.tv_model.specs.Form.{Form, FZero, FOne, FAtom, FIsNew, FSame, FNot, FAnd, FOr, FIff, FCond}
use Rattle.tv_model.specs.Form.{FExists, FForall, FClosure}
use Rattle.tv_model.specs.Program.{HeadForm}
use Rattle.tv_model.specs.Truth.{Assignment, put}
use Rattle.tv_eval_laws.specs.Value.{value, mark_value, same_value, greatest_of, least_of, best_walk}
use Rattle.tv_rules.specs.Standing.{IsEquality}
use Rattle.tv_structure_form.specs.StructureForm.{StructureForm, structure_of, summary_at}
use Rattle.tv_coerce.specs.Touched.{HasNotMoved, IsTouched}
use Rattle.tv_coerce_moves.specs.Moves.{MayMove}
use Rattle.tv_coerce_moves.proofs.MoveLaws.{moves-shows}

-- ---- two values

-- y lies at each threshold at which x lies
abbrev Falls : K3 → K3 → Type 0
Falls x y = (Must y → Must x) × (May y → May x)

abbrev pub Still : (up : Bool) → K3 → K3 → Type 0
Still true x y = Falls x y
Still false x y = Falls y x

still-same : (up : Bool) (x y : K3) → x ≡ y → Still up x y
still-same true x y e = (λ h. subst Must (sym e) h, λ h. subst May (sym e) h)
still-same false x y e = (λ h. subst Must e h, λ h. subst May e h)

at-most : (x y : K3) → IsAtMost x y → Falls y x
at-most No y e = (λ h. absurd h, λ h. absurd h)
at-most Half No e = absurd (cc e)
at-most Half Half e = (λ h. h, λ h. h)
at-most Half Yes e = (λ h. absurd h, λ h. tt)
at-most Yes No e = absurd (cc e)
at-most Yes Half e = absurd (cc e)
at-most Yes Yes e = (λ h. h, λ h. h)

still-moved : (up : Bool) (x y : K3) → HasNotMoved up x y → Still up x y
still-moved true x y e = at-most y x e
still-moved false x y e = at-most x y e

pub still-both : (x y : K3) → Still true x y → Still false x y → x ≡ y
still-both x y down up = thresholds_determine x y up.0 up.1 down.0 down.1

pub still-yes : (x y : K3) → Still true x y → y ≡ Yes → x ≡ Yes
still-yes x y down e = (Must-is x).0 (down.0 ((Must-is y).1 e))

falls-smaller : (x y z w : K3) → Falls x y → Falls z w → Falls (smaller_of x z) (smaller_of y w)
falls-smaller x y z w f g = (
  λ h. let both : Must y × Must w = (must_threshold.smaller y w).0 h
      in (must_threshold.smaller x z).1 (f.0 both.0, g.0 both.1),
  λ h. let both : May y × May w = (may_threshold.smaller y w).0 h
      in (may_threshold.smaller x z).1 (f.1 both.0, g.1 both.1),
)

falls-larger : (x y z w : K3) → Falls x y → Falls z w → Falls (larger_of x z) (larger_of y w)
falls-larger x y z w f g = (
  λ h. (must_threshold.larger x z).1 (⊎_elim (λ m. inl (f.0 m)) (λ m. inr (g.0 m)) ((must_threshold.larger y w).0 h)),
  λ h. (may_threshold.larger x z).1 (⊎_elim (λ m. inl (f.1 m)) (λ m. inr (g.1 m)) ((may_threshold.larger y w).0 h)),
)

falls-negation : (x y : K3) → Falls x y → Falls (negation_of y) (negation_of x)
falls-negation x y f = (
  λ h. (Must-negation y).1 (λ m. (Must-negation x).0 h (f.1 m)),
  λ h. (May-negation y).1 (λ m. (May-negation x).0 h (f.0 m)),
)

still-smaller : (up : Bool) (x y z w : K3) → Still up x y → Still up z w → Still up (smaller_of x z) (smaller_of y w)
still-smaller true x y z w f g = falls-smaller x y z w f g
still-smaller false x y z w f g = falls-smaller y x w z f g

still-larger : (up : Bool) (x y z w : K3) → Still up x y → Still up z w → Still up (larger_of x z) (larger_of y w)
still-larger true x y z w f g = falls-larger x y z w f g
still-larger false x y z w f g = falls-larger y x w z f g

still-negation : (up : Bool) (x y : K3) → Still (not up) x y → Still up (negation_of x) (negation_of y)
still-negation true x y f = falls-negation y x f
still-negation false x y f = falls-negation x y f

-- ---- folds

still-greatest : (up : Bool) (g h : ℕ → K3) (us : List ℕ) → ((u : ℕ) → Still up (g u) (h u)) → Still up (greatest_of g us) (greatest_of h us)
still-greatest up g h [] each = still-same up No No refl
still-greatest up g h (u ∷ us) each =
    still-larger up (g u) (h u) (greatest_of g us) (greatest_of h us) (each u) (still-greatest up g h us each)

still-least : (up : Bool) (g h : ℕ → K3) (us : List ℕ) → ((u : ℕ) → Still up (g u) (h u)) → Still up (least_of g us) (least_of h us)
still-least up g h [] each = still-same up Yes Yes refl
still-least up g h (u ∷ us) each =
    still-smaller up (g u) (h u) (least_of g us) (least_of h us) (each u) (still-least up g h us each)

still-walk : (up : Bool) (g h : ℕ → ℕ → K3) (us : List ℕ) → ((u w : ℕ) → Still up (g u w) (h u w)) → (u w : ℕ)
    → Still up (best_walk g us u w) (best_walk h us u w)
still-walk up g h [] each u w = each u w
still-walk up g h (x ∷ us) each u w =
    still-larger up (best_walk g us u w) (best_walk h us u w)
    (smaller_of (best_walk g us u x) (best_walk g us x w)) (smaller_of (best_walk h us u x) (best_walk h us x w))
    (still-walk up g h us each u w)
    (still-smaller up (best_walk g us u x) (best_walk h us u x) (best_walk g us x w) (best_walk h us x w)
    (still-walk up g h us each u x) (still-walk up g h us each x w))

-- an individual that is no summary any more is one with itself
fewer-halves : (one x y : Bool) → (y ≡ true → x ≡ true)
    → Falls (if one then (if y then Half else Yes) else No) (if one then (if x then Half else Yes) else No)
fewer-halves false x y fewer = (λ h. h, λ h. h)
fewer-halves true true true fewer = (λ h. h, λ h. h)
fewer-halves true true false fewer = (λ h. absurd h, λ h. tt)
fewer-halves true false true fewer = absurd (cc (fewer refl))
fewer-halves true false false fewer = (λ h. h, λ h. h)

-- ---- formulas
module _ (head : HeadForm) (s t : StructureForm) (touched : IsTouched head s t) (fresh : t.fresh ≡ s.fresh) where
  still-equality : (up : Bool) (u w : ℕ) → ¬ (IsEquality head × (up ≡ true))
      → Still up (same_value (structure_of s) u w) (same_value (structure_of t) u w)
  still-equality false u w none = fewer-halves (u == w) (summary_at s u) (summary_at t u) (touched.fewer u)
  still-equality true u w none =
      still-same true (same_value (structure_of s) u w) (same_value (structure_of t) u w)
      (ap (λ b. if u == w then (if b then Half else Yes) else No) (sym (touched.summaries (λ e. none (e, refl)) u)))

  pub still : (f : Form) (up : Bool) (a : Assignment) → ¬ MayMove head up f
      → Still up (value (structure_of s) a f) (value (structure_of t) a f)
  still FZero up a none = still-same up No No refl
  still FOne up a none = still-same up Yes Yes refl
  still (FAtom q vars) up a none = still-moved up _ _ (touched.moved up q none (map a vars))
  still (FIsNew v) up a none = still-same up _ _ (ap (λ m. mark_value m (a v)) (sym fresh))
  still (FSame v w) up a none = still-equality up (a v) (a w) none
  still (FNot f) up a none = still-negation up _ _ (still f (not up) a none)
  still (FAnd f g) up a none =
      still-smaller up _ _ _ _ (still f up a (λ k. none (inl k))) (still g up a (λ k. none (inr k)))
  still (FOr f g) up a none =
      still-larger up _ _ _ _ (still f up a (λ k. none (inl k))) (still g up a (λ k. none (inr k)))
  still (FIff f g) up a none =
      let first : value (structure_of s) a f ≡ value (structure_of t) a f
      = still-both _ _ (still f true a (λ k. none (inl (moves-shows head f true k))))
      (still f false a (λ k. none (inl (moves-shows head f false k))))
      in let second : value (structure_of s) a g ≡ value (structure_of t) a g
      = still-both _ _ (still g true a (λ k. none (inr (moves-shows head g true k))))
      (still g false a (λ k. none (inr (moves-shows head g false k))))
      in still-same up _ _
      (ap (λ x. smaller_of (larger_of (negation_of x) (value (structure_of s) a g)) (larger_of (negation_of (value (structure_of s) a g)) x)) first
      ∙ ap (λ y. smaller_of (larger_of (negation_of (value (structure_of t) a f)) y) (larger_of (negation_of y) (value (structure_of t) a f))) second)
  still (FCond c f g) up a none =
      let same : value (structure_of s) a c ≡ value (structure_of t) a c
      = still-both _ _ (still c true a (λ k. none (inl (moves-shows head c true k))))
      (still c false a (λ k. none (inl (moves-shows head c false k))))
      in still-larger up _ _ _ _
      (still-smaller up _ _ _ _ (still-same up _ _ same) (still f up a (λ k. none (inr (inl k)))))
      (still-smaller up _ _ _ _ (still-same up _ _ (ap negation_of same)) (still g up a (λ k. none (inr (inr k)))))
  still (FExists v f) up a none =
      subst (λ n. Still up (greatest_of (λ u. value (structure_of s) (put a v u) f) (range_with_len 0 s.size))
      (greatest_of (λ u. value (structure_of t) (put a v u) f) (range_with_len 0 n))) (sym touched.size)
      (still-greatest up (λ u. value (structure_of s) (put a v u) f) (λ u. value (structure_of t) (put a v u) f) (range_with_len 0 s.size)
      (λ u. still f up (put a v u) none))
  still (FForall v f) up a none =
      subst (λ n. Still up (least_of (λ u. value (structure_of s) (put a v u) f) (range_with_len 0 s.size))
      (least_of (λ u. value (structure_of t) (put a v u) f) (range_with_len 0 n))) (sym touched.size)
      (still-least up (λ u. value (structure_of s) (put a v u) f) (λ u. value (structure_of t) (put a v u) f) (range_with_len 0 s.size)
      (λ u. still f up (put a v u) none))
  still (FClosure from to left right f) up a none =
      subst (λ n. Still up (best_walk (λ u w. value (structure_of s) (put (put a left u) right w) f) (range_with_len 0 s.size) (a from) (a to))
      (best_walk (λ u w. value (structure_of t) (put (put a left u) right w) f) (range_with_len 0 n) (a from) (a to))) (sym touched.size)
      (still-walk up (λ u w. value (structure_of s) (put (put a left u) right w) f) (λ u w. value (structure_of t) (put (put a left u) right w) f)
      (range_with_len 0 s.size) (λ u w. still f up (put (put a left u) right w) none) (a from) (a to))

  -- a formula that the changes don't move keeps its value
  pub still-whole : (f : Form) (a : Assignment) → ((up : Bool) → ¬ MayMove head up f)
      → value (structure_of s) a f ≡ value (structure_of t) a f
  still-whole f a none = still-both _ _ (still f true a (none true)) (still f false a (none false))
