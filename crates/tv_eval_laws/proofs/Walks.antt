-- Lemmas on best walks, for the crates above: the best walk by thresholds, as the greatest over all walks,
-- and along a matching.
use Rattle.std.proofs.Common.{ℕ, ◌≡◌, ◌↔◌, List, [], ◌∷◌, inl, inr, ⊎_elim, refl, sym, subst, All, Contains}
use Rattle.std.proofs.lemmas.List.Elements.{All-nil, All-head}
use Rattle.tv_kleene.specs.declared.K3.{K3}
use Rattle.tv_kleene.specs.declared.K3.TheVariants.{No, Half, Yes}
use Rattle.tv_kleene.specs.Kleene.{smaller_of, larger_of, IsAtMost}
use Rattle.tv_kleene.proofs.Thresholds.{IsThreshold, Must, May, must_threshold, may_threshold, Under}
use Rattle.tv_kleene.proofs.Thresholds.{IsAtMost-by_thresholds, thresholds_determine, May-from_Must}
use Rattle.tv_model.specs.Truth.{IsWalk, put}
use Rattle.tv_model.proofs.Lists.{Contains-none}
use Rattle.tv_model.proofs.Walks.{IsTotal, WalksWithin, WalksWithin-more, WalksWithin-join, WalksWithin-split}
use Rattle.tv_model.proofs.Walks.{WalksWithin-matched}
use Rattle.tv_eval_laws.specs.Value.{value, least_along, best_walk}
use Rattle.tv_eval_laws.specs.Laws.{IsGreatestOverWalks, ClosuresAreGreatest}

-- the least value along a walk meets a threshold exactly where each edge does
pub least_along-threshold : (T : K3 → Type 0) → IsThreshold T → (edge : ℕ → ℕ → K3) (u : ℕ) (stops : List ℕ) (w : ℕ)
    → T (least_along edge u stops w) ↔ IsWalk (λ x y. T (edge x y)) u stops w
least_along-threshold T is edge u [] w = (λ h. h, λ h. h)
least_along-threshold T is edge u (stop ∷ stops) w =
    (to (least_along-threshold T is edge stop stops w), from (least_along-threshold T is edge stop stops w))
  where
    to : T (least_along edge stop stops w) ↔ IsWalk (λ x y. T (edge x y)) stop stops w
        → T (smaller_of (edge u stop) (least_along edge stop stops w))
        → T (edge u stop) × IsWalk (λ x y. T (edge x y)) stop stops w
    to later h =
        let both : T (edge u stop) × T (least_along edge stop stops w)
        = (is.smaller (edge u stop) (least_along edge stop stops w)).0 h
        in (both.0, later.0 both.1)

    from : T (least_along edge stop stops w) ↔ IsWalk (λ x y. T (edge x y)) stop stops w
        → T (edge u stop) × IsWalk (λ x y. T (edge x y)) stop stops w
        → T (smaller_of (edge u stop) (least_along edge stop stops w))
    from later h = (is.smaller (edge u stop) (least_along edge stop stops w)).1 (h.0, later.1 h.1)

-- the best walk meets a threshold exactly where there is a walk of which each edge does
pub best_walk-threshold : (T : K3 → Type 0) → IsThreshold T → (edge : ℕ → ℕ → K3) (allowed : List ℕ) (u w : ℕ)
    → T (best_walk edge allowed u w) ↔ WalksWithin (λ x y. T (edge x y)) allowed u w
best_walk-threshold T is edge [] u w = (λ h. ([], All-nil (Contains []), h), from)
  where
    from : WalksWithin (λ x y. T (edge x y)) [] u w → T (edge u w)
    from ([], within, walk) = walk
    from (stop ∷ stops, within, walk) = absurd (Contains-none stop (All-head (Contains []) stop stops within))
best_walk-threshold T is edge (x ∷ allowed) u w =
    (to (best_walk-threshold T is edge allowed), from (best_walk-threshold T is edge allowed))
  where
    to : ((u w : ℕ) → T (best_walk edge allowed u w) ↔ WalksWithin (λ x y. T (edge x y)) allowed u w)
        → T (larger_of (best_walk edge allowed u w)
        (smaller_of (best_walk edge allowed u x) (best_walk edge allowed x w)))
        → WalksWithin (λ x y. T (edge x y)) (x ∷ allowed) u w
    to later h = ⊎_elim
        (λ past. WalksWithin-more (λ x y. T (edge x y)) x allowed u w ((later u w).0 past))
        (λ met. let both : T (best_walk edge allowed u x) × T (best_walk edge allowed x w)
        = (is.smaller (best_walk edge allowed u x) (best_walk edge allowed x w)).0 met
        in WalksWithin-join (λ x y. T (edge x y)) x allowed u w
        (WalksWithin-more (λ x y. T (edge x y)) x allowed u x ((later u x).0 both.0))
        (WalksWithin-more (λ x y. T (edge x y)) x allowed x w ((later x w).0 both.1)))
        ((is.larger (best_walk edge allowed u w)
        (smaller_of (best_walk edge allowed u x) (best_walk edge allowed x w))).0 h)

    from : ((u w : ℕ) → T (best_walk edge allowed u w) ↔ WalksWithin (λ x y. T (edge x y)) allowed u w)
        → WalksWithin (λ x y. T (edge x y)) (x ∷ allowed) u w
        → T (larger_of (best_walk edge allowed u w)
        (smaller_of (best_walk edge allowed u x) (best_walk edge allowed x w)))
    from later (stops, within, walk) =
        (is.larger (best_walk edge allowed u w)
        (smaller_of (best_walk edge allowed u x) (best_walk edge allowed x w))).1
        (⊎_elim
        (λ past. inl ((later u w).1 past))
        (λ cut. inr ((is.smaller (best_walk edge allowed u x) (best_walk edge allowed x w)).1
        ((later u x).1 cut.0, (later x w).1 cut.1)))
        (WalksWithin-split (λ x y. T (edge x y)) x allowed u stops w within walk))

-- ---- the best walk is the greatest over all walks

walk-at_most : (edge : ℕ → ℕ → K3) (allowed : List ℕ) (u w : ℕ) (stops : List ℕ) → All (Contains allowed) stops
    → IsAtMost (least_along edge u stops w) (best_walk edge allowed u w)
walk-at_most edge allowed u w stops within =
    IsAtMost-by_thresholds (least_along edge u stops w) (best_walk edge allowed u w)
    (λ m. (best_walk-threshold Must must_threshold edge allowed u w).1
    (stops, within, (least_along-threshold Must must_threshold edge u stops w).0 m))
    (λ m. (best_walk-threshold May may_threshold edge allowed u w).1
    (stops, within, (least_along-threshold May may_threshold edge u stops w).0 m))

walk-reached : (edge : ℕ → ℕ → K3) (allowed : List ℕ) (u w : ℕ)
    → (stops : List ℕ) × All (Contains allowed) stops × (least_along edge u stops w ≡ best_walk edge allowed u w)
walk-reached edge allowed u w = go (best_walk edge allowed u w) refl
  where
    must : (stops : List ℕ) → All (Contains allowed) stops → Must (least_along edge u stops w)
        → Must (best_walk edge allowed u w)
    must stops within m =
        (best_walk-threshold Must must_threshold edge allowed u w).1
        (stops, within, (least_along-threshold Must must_threshold edge u stops w).0 m)

    may : (stops : List ℕ) → All (Contains allowed) stops → May (least_along edge u stops w)
        → May (best_walk edge allowed u w)
    may stops within m =
        (best_walk-threshold May may_threshold edge allowed u w).1
        (stops, within, (least_along-threshold May may_threshold edge u stops w).0 m)

    go : (x : K3) → best_walk edge allowed u w ≡ x
        → (stops : List ℕ) × All (Contains allowed) stops × (least_along edge u stops w ≡ best_walk edge allowed u w)
    go No e = (
      [],
      All-nil (Contains allowed),
      thresholds_determine (edge u w) (best_walk edge allowed u w)
          (must [] (All-nil (Contains allowed)))
          (may [] (All-nil (Contains allowed)))
          (λ m. absurd (subst Must e m))
          (λ m. absurd (subst May e m)),
    )
    go Half e =
        let d : WalksWithin (λ x y. May (edge x y)) allowed u w
        = (best_walk-threshold May may_threshold edge allowed u w).0 (subst May (sym e) tt)
        in (
          d.0,
          d.1,
          thresholds_determine (least_along edge u d.0 w) (best_walk edge allowed u w)
              (must d.0 d.1)
              (may d.0 d.1)
              (λ m. absurd (subst Must e m))
              (λ m. (least_along-threshold May may_threshold edge u d.0 w).1 d.2),
        )
    go Yes e =
        let d : WalksWithin (λ x y. Must (edge x y)) allowed u w
        = (best_walk-threshold Must must_threshold edge allowed u w).0 (subst Must (sym e) tt)
        in let holds : Must (least_along edge u d.0 w) = (least_along-threshold Must must_threshold edge u d.0 w).1 d.2
        in (
          d.0,
          d.1,
          thresholds_determine (least_along edge u d.0 w) (best_walk edge allowed u w)
              (must d.0 d.1)
              (may d.0 d.1)
              (λ m. holds)
              (λ m. May-from_Must (least_along edge u d.0 w) holds),
        )

pub best_walk-greatest : (edge : ℕ → ℕ → K3) (allowed : List ℕ) (u w : ℕ)
    → IsGreatestOverWalks edge allowed u w (best_walk edge allowed u w)
best_walk-greatest edge allowed u w =
    record { above = walk-at_most edge allowed u w; reached = walk-reached edge allowed u w }

-- ---- walks go along a matching of individuals

-- where matched pairs have values under one another, so have the best walks between matched ends
pub Under-best_walk : (M : ℕ → ℕ → Type 0) (xs ys : List ℕ) → IsTotal M xs ys → IsTotal (λ w u. M u w) ys xs
    → (edge other : ℕ → ℕ → K3) → ((u v x y : ℕ) → M u x → M v y → Under (edge u v) (other x y))
    → (u v x y : ℕ) → M u x → M v y → Under (best_walk edge xs u v) (best_walk other ys x y)
Under-best_walk M xs ys there back edge other under u v x y begin end = (must, may)
  where
    must : Must (best_walk other ys x y) → Must (best_walk edge xs u v)
    must m =
        let d : WalksWithin (λ p q. Must (other p q)) ys x y =
        (best_walk-threshold Must must_threshold other ys x y).0 m
        in (best_walk-threshold Must must_threshold edge xs u v).1
        (WalksWithin-matched (λ w u. M u w) ys xs back (λ p q. Must (other p q)) (λ p q. Must (edge p q))
        (λ p q r s mp mq h. (under r s p q mp mq).0 h)
        x y u v begin end d.0 d.1 d.2)

    may : May (best_walk edge xs u v) → May (best_walk other ys x y)
    may m =
        let d : WalksWithin (λ p q. May (edge p q)) xs u v = (best_walk-threshold May may_threshold edge xs u v).0 m
        in (best_walk-threshold May may_threshold other ys x y).1
        (WalksWithin-matched M xs ys there (λ p q. May (edge p q)) (λ p q. May (other p q))
        (λ p q r s mp mq h. (under p q r s mp mq).1 h)
        u v x y begin end d.0 d.1 d.2)

-- ---- closures

pub closures_are_greatest : ClosuresAreGreatest
closures_are_greatest s a from to left right f =
    best_walk-greatest (λ u w. value s (put (put a left u) right w) f) s.individuals (a from) (a to)
