-- Merging: what it covers, and that it keeps stability.
use Rattle.std.proofs.Common.{ℕ, ◌≡◌, ◌≢◌, ◌⊎◌, inl, inr, Bool, true, false, List, get_or, map, refl, sym}
use Rattle.std.proofs.Common.{◌∙◌}
use Rattle.std.specs.Prelude.{All, Contains}
use Rattle.std.proofs.lemmas.List.Elements.{All-map}
use Rattle.tv_kleene.specs.declared.K3.{K3}
use Rattle.tv_kleene.specs.declared.K3.TheVariants.{Half}
use Rattle.tv_kleene.specs.Kleene.{LiesUnder}
use Rattle.tv_kleene.proofs.Lattice.{LiesUnder-antisym}
use Rattle.tv_embedding_laws.specs.LogicalStructure.{LogicalStructure}
use Rattle.tv_stable_laws.specs.Laws.{IsImage}
use Rattle.tv_stable_laws.proofs.Images.{images_are_stable}
use Rattle.tv_blur.specs.Merged.{IsJoin, IsMember, HasSummary, HasSeveral, IsMerged}
use Rattle.tv_blur.specs.Laws.{MergingCovers, MergingKeepsStable}

-- ---- joins

-- the join of values that are all one value is that value
pub IsJoin-one : (values : K3 → Type 0) (k x : K3) → IsJoin values x → values k → ((j : K3) → values j → j ≡ k) → x ≡ k
IsJoin-one values k x join some all =
    LiesUnder-antisym x k (join.least k (λ j v. inl (all j v))) (join.above k some)

-- there is at most one join
pub IsJoin-same : (values others : K3 → Type 0) (k x : K3) → ((j : K3) → values j → others j)
    → ((j : K3) → others j → values j) → IsJoin values k → IsJoin others x → k ≡ x
IsJoin-same values others k x to from join other =
    LiesUnder-antisym k x (join.least x (λ j v. other.above j (to j v))) (other.least k (λ j v. join.above j (from j v)))

-- the same values have the same joins
pub IsJoin-like : (values others : K3 → Type 0) (k : K3) → ((j : K3) → values j → others j)
    → ((j : K3) → others j → values j) → IsJoin values k → IsJoin others k
IsJoin-like values others k to from join = record {
  above = λ j v. join.above j (from j v);
  least = λ l all. join.least l (λ j v. all j (to j v));
}

-- ---- merged structures

pub covers : MergingCovers
covers m s t e = record {
  into = e.into;
  onto = λ w at. let u : (u : ℕ) × IsMember m s w u = e.onto w at in (u.0, u.1.individual, u.1.goes);
  values = λ pred p tuple all. (e.values pred (map m tuple) (images tuple all)).above (s.value pred tuple) (tuple, all, refl, refl);
  summaries = λ u at summary.
      (e.summaries (m u) (e.into u at)).1 (inl (u, record { individual = at; goes = refl }, summary));
  several = λ u x at other differ same.
      (e.summaries (m u) (e.into u at)).1
      (inr (u, x, record { individual = at; goes = refl }, record { individual = other; goes = sym same }, differ));
}
  where
    images : (tuple : List ℕ) → All (Contains s.individuals) tuple → All (Contains t.individuals) (map m tuple)
    images tuple all =
        All-map (Contains t.individuals) m tuple
        (λ k d lt. e.into (get_or tuple k d) (all k d lt))

image : (m : ℕ → ℕ) (s t : LogicalStructure) → IsMerged m s t → IsImage m s t
image m s t e = record {
  embeds = covers m s t e;
  definite = λ pred tuple all k definite same.
      under (t.value pred tuple) k definite
      ((e.values pred tuple all).least k (λ j v. inl (sym v.3 ∙ same v.0 v.1 v.2)));
  plain = λ w at none one. not_true (t.is_summary w) (λ summary. neither w none one ((e.summaries w at).0 summary));
}
  where
    under : (x k : K3) → k ≢ Half → LiesUnder x k → x ≡ k
    under x k definite (inl same) = same
    under x k definite (inr half) = absurd (definite half)

    not_true : (b : Bool) → (b ≡ true → ⊥) → b ≡ false
    not_true true no_way = absurd (no_way refl)
    not_true false no_way = refl

    neither : (w : ℕ) → ((u : ℕ) → Contains s.individuals u → m u ≡ w → s.is_summary u ≡ false)
        → ((u x : ℕ) → Contains s.individuals u → Contains s.individuals x → m u ≡ w → m x ≡ w → u ≡ x)
        → HasSummary m s w ⊎ HasSeveral m s w → ⊥
    neither w none one (inl (u, is, summary)) = let no_summary : s.is_summary u ≡ false = none u is.individual is.goes in cc
    neither w none one (inr (u, x, is, other, differ)) =
        differ (one u x is.individual other.individual is.goes other.goes)

pub keeps_stable : MergingKeepsStable
keeps_stable m s t rules e plain stable = images_are_stable m s t rules (image m s t e) plain stable
