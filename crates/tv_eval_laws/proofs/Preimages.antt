-- Lemmas on assignments below an embedding, for the crates above: chosen preimages of individuals, with
-- some of them prescribed.
use Rattle.std.proofs.Common.{ℕ, ◌≡◌, ⊎_elim, sym, ap, subst, ◌∙◌, Contains}
use Rattle.std.proofs.lemmas.Bool.{cases_eq}
use Rattle.tv_kleene.proofs.Thresholds.{Yes-below, No-below}
use Rattle.tv_model.specs.Truth.{Assignment, put}
use Rattle.tv_model.proofs.Decided.{Contains-decided}
use Rattle.tv_model.proofs.Assignments.{put-same, put-other}
use Rattle.tv_embedding_laws.specs.LogicalStructure.{LogicalStructure}
use Rattle.tv_embedding_laws.specs.Embedding.{EmbedsOn}
use Rattle.tv_eval_laws.specs.Value.{value}
use Rattle.tv_eval_laws.specs.Laws.{DefiniteValuesComeDown}
use Rattle.tv_eval_laws.proofs.Embedded.{embedding_theorem}

-- u is an individual of s that m takes to w
abbrev pub IsPreimage : (ℕ → ℕ) → LogicalStructure → ℕ → ℕ → Type 0
IsPreimage m s w u = Contains s.individuals u × (m u ≡ w)

-- one preimage of each individual of t
pub preimages : (P : ℕ → Type 0) (m : ℕ → ℕ) (s t : LogicalStructure) → EmbedsOn P m s t
    → (g : ℕ → ℕ) × ((w : ℕ) → Contains t.individuals w → IsPreimage m s w (g w))
preimages P m s t e = (λ w. (chosen w).0, λ w at. (chosen w).1 at)
  where
    found : (w : ℕ) → (u : ℕ) × Contains s.individuals u × (m u ≡ w)
        → (u : ℕ) × (Contains t.individuals w → IsPreimage m s w u)
    found w (u, at, is) = (u, λ anywhere. (at, is))

    chosen : (w : ℕ) → (u : ℕ) × (Contains t.individuals w → IsPreimage m s w u)
    chosen w = ⊎_elim (λ at. found w (e.onto w at)) (λ none. (0, λ at. absurd (none at)))
        (Contains-decided t.individuals w)

-- any preimage may be prescribed for one variable more
pub preimages-put : (matters : ℕ → Type 0) (m : ℕ → ℕ) (s : LogicalStructure) (a b : Assignment)
    → ((x : ℕ) → matters x → IsPreimage m s (b x) (a x))
    → (v u : ℕ) → IsPreimage m s (b v) u → (x : ℕ) → matters x → IsPreimage m s (b x) (put a v u x)
preimages-put matters m s a b takes v u is x needed =
    let At : ℕ → Type 0 = λ y. IsPreimage m s (b x) y
    in ⊎_elim
    (λ e. subst At (sym (put-same a v u x e)) (is.0, is.1 ∙ ap b (sym e)))
    (λ ne. subst At (sym (put-other a v u x ne)) (takes x needed))
    (cases_eq x v)

pub definite_values_come_down : DefiniteValuesComeDown
definite_values_come_down f m s t a b e takes = record {
  yes = λ x. Yes-below (value s a f) (value t b f) (embedding_theorem f m s t a b e takes) x;
  no = λ x. No-below (value s a f) (value t b f) (embedding_theorem f m s t a b e takes) x;
}
