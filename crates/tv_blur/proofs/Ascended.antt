-- Names that stand in strictly ascending order, and that a structure with such names is its own blur.
use Rattle.std.proofs.Common.{ℕ, ◌≡◌, ◌∙◌, ◌<◌, ◌+◌, zero, suc, inl, ⊎_elim, Less, Equal, Greater, List, []}
use Rattle.std.proofs.Common.{◌∷◌, map, refl, sym, ap, subst, arith, add-one}
use Rattle.std.specs.Prelude.{◌≢◌, IsTrue}
use Rattle.std.specs.Ordering.{ordering_reverse}
use Rattle.std.proofs.lemmas.Bool.{cases_eq, cases_lt}
use Rattle.std.proofs.lemmas.Cmp.{tied_itself}
use Rattle.tv_kleene.specs.declared.K3.{K3}
use Rattle.tv_embedding_laws.specs.LogicalStructure.{LogicalStructure}
use Rattle.tv_structure_form.specs.StructureForm.{StructureForm, structure_of}
use Rattle.tv_blur.specs.Merged.{IsMerged}
use Rattle.tv_blur.specs.Names.{canonical_name, name_cmp, name_cmp_total}
use Rattle.tv_blur.specs.Blur.{FollowsNames, IsBlur, IsBlurred}

-- what is above isn't below
apart : (xs ys : List K3) → name_cmp xs ys ≡ Less → name_cmp ys xs ≢ Less
apart xs ys less back =
    let turned : name_cmp ys xs ≡ Greater = name_cmp_total.antisymm ys xs ∙ ap ordering_reverse less in cc

-- where each name is below the next, it is below all later ones
pub later-names : (preds : List ℕ) (s : LogicalStructure) (n : ℕ)
    → ((k : ℕ) → k + 1 < n → name_cmp (canonical_name preds s k) (canonical_name preds s (k + 1)) ≡ Less)
    → (w u : ℕ) → u < w → w < n → name_cmp (canonical_name preds s u) (canonical_name preds s w) ≡ Less
later-names preds s n steps zero u lt within = absurd (omega arith)
later-names preds s n steps (suc w) u lt within =
    ⊎_elim
    (λ before. name_cmp_total.trans (canonical_name preds s u) (canonical_name preds s w) (canonical_name preds s (suc w))
    (later-names preds s n steps w u before (omega arith)) next)
    (λ past. let same : u ≡ w = omega arith
    in subst (λ x. name_cmp (canonical_name preds s x) (canonical_name preds s (suc w)) ≡ Less) (sym same) next)
    (cases_lt u w)
  where
    next : name_cmp (canonical_name preds s w) (canonical_name preds s (suc w)) ≡ Less
    next = subst (λ x. name_cmp (canonical_name preds s w) (canonical_name preds s x) ≡ Less) (add-one w) (steps w (omega (arith, within)))

pub ascending-follows : (preds : List ℕ) (s : LogicalStructure) (n : ℕ)
    → ((k : ℕ) → k + 1 < n → name_cmp (canonical_name preds s k) (canonical_name preds s (k + 1)) ≡ Less)
    → FollowsNames preds s n (λ u. u)
ascending-follows preds s n steps u w lt other = (λ below. later-names preds s n steps w u below other, back)
  where
    back : name_cmp (canonical_name preds s u) (canonical_name preds s w) ≡ Less → u < w
    back less =
        ⊎_elim (λ below. below)
        (λ past. ⊎_elim
        (λ same. let tied : name_cmp (canonical_name preds s u) (canonical_name preds s w) ≡ Equal
        = subst (λ x. name_cmp (canonical_name preds s u) (canonical_name preds s x) ≡ Equal) same
        (tied_itself name_cmp_total (canonical_name preds s u)) in absurd (cc (tied, less)))
        (λ differ. absurd (apart (canonical_name preds s w) (canonical_name preds s u)
        (later-names preds s n steps u w (omega (arith, past, differ)) lt) less))
        (cases_eq u w))
        (cases_lt u w)

-- one step more
pub one-step : (preds : List ℕ) (s : LogicalStructure) (u : ℕ)
    → ((k : ℕ) → k < u → name_cmp (canonical_name preds s k) (canonical_name preds s (k + 1)) ≡ Less)
    → name_cmp (canonical_name preds s u) (canonical_name preds s (u + 1)) ≡ Less
    → (k : ℕ) → k < u + 1 → name_cmp (canonical_name preds s k) (canonical_name preds s (k + 1)) ≡ Less
one-step preds s u steps last k lt =
    ⊎_elim (λ before. steps k before)
    (λ past. let same : k ≡ u = omega (arith, lt, past)
    in subst (λ x. name_cmp (canonical_name preds s x) (canonical_name preds s (x + 1)) ≡ Less) (sym same) last)
    (cases_lt k u)

map-itself : (us : List ℕ) → map (λ u. u) us ≡ us
map-itself [] = refl
map-itself (u ∷ us) = ap (λ xs. u ∷ xs) (map-itself us)

merged-itself : (s : LogicalStructure) → IsMerged (λ u. u) s s
merged-itself s = record {
  into = λ u at. at;
  onto = λ w at. (w, record { individual = at; goes = refl });
  values = λ pred tuple all. record {
    above = λ j (below, inside, goes, is).
        inl (sym is ∙ ap (s.value pred) (sym (map-itself below) ∙ goes));
    least = λ l each. each (s.value pred tuple) (tuple, all, map-itself tuple, refl);
  };
  summaries = λ w at. (
    λ summary. inl (w, record { individual = at; goes = refl }, summary),
    λ has. ⊎_elim
        (λ one. subst (λ x. IsTrue (s.is_summary x)) one.1.goes one.2)
        (λ two. absurd (two.4 (two.2.goes ∙ sym two.3.goes))) has,
  );
}

-- a blurred structure is its own blur
pub blurred-itself : (preds : List ℕ) (s : StructureForm) → IsBlurred preds s → IsBlur preds s s
blurred-itself preds s is = (
  λ u. u,
  record { merged = merged-itself (structure_of s); order = is.order; over = refl; unmarked = is.unmarked },
)
