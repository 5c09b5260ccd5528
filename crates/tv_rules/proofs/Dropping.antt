-- A rule says the same after its Exists are dropped.
use Rattle.std.proofs.Common.{ℕ, ◌≡◌, ◌≢◌, ◌⊎◌, ◌↔◌, Bool, true, false, not, inl, inr, ⊎_elim, refl, sym}
use Rattle.std.proofs.Common.{subst, Contains, if◌then◌else◌}
use Rattle.std.proofs.lemmas.Bool.{cases_eq}
use Rattle.tv_model.specs.Form.{Form, FZero, FOne, FAtom, FIsNew, FSame, FNot, FAnd, FOr, FIff, FCond}
use Rattle.tv_model.specs.Form.{FExists, FForall, FClosure, IsFree}
use Rattle.tv_model.specs.Heap.{Heap}
use Rattle.tv_model.specs.Program.{HeadForm}
use Rattle.tv_model.specs.Rules.{IsInHead, MeetsRule, head_formula}
use Rattle.tv_model.specs.Truth.{put}
use Rattle.tv_model.proofs.Heads.{free-in_head}
use Rattle.tv_model.proofs.Assignments.{put-same, put-other}
use Rattle.tv_model.specs.Free.{is_free}
use Rattle.tv_rules.specs.Closing.{rule_of_parts, is_in_head, may_drop, dropped}
use Rattle.tv_rules.specs.Laws.{DroppingKeepsMeaning}
use Rattle.tv_model.proofs.FreeTests.{and-parts, not-both, free-from}
use Rattle.tv_rules.proofs.Free.{from-in_head, Truth-agreed, put-itself}

meets-under : (h : Heap) (v : ℕ) (head : HeadForm) (f : Form) → IsFree v f
    → MeetsRule h (rule_of_parts (FExists v f) head) → MeetsRule h (rule_of_parts f head)
meets-under h v head f free meets a inside t =
    meets a (λ w at. ⊎_elim (λ k. inside w (inl k.1)) (λ k. inside w (inr k)) at)
    (a v, inside v (inl free), Truth-agreed h f a (put a v (a v)) (λ w k. sym (put-itself a v w)) t)

meets-over : (h : Heap) (v : ℕ) (head : HeadForm) (f : Form) → (¬ IsInHead v head)
    → MeetsRule h (rule_of_parts f head) → MeetsRule h (rule_of_parts (FExists v f) head)
meets-over h v head f apart meets a inside (u, at, t) =
    Truth-agreed h (head_formula head) (put a v u) a (λ w k. put-other a v u w (other w (free-in_head w head k)))
    (meets (put a v u) within t)
  where
    other : (w : ℕ) → IsInHead w head → w ≢ v
    other w k e = let In : ℕ → Type 0 = λ x. IsInHead x head in apart (subst In e k)

    Is : ℕ → Type 0
    Is x = Contains h.individuals x

    beside : (w : ℕ) → w ≢ v → Contains h.individuals (a w) → Contains h.individuals (put a v u w)
    beside w ne is = subst Is (sym (put-other a v u w ne)) is

    within : (w : ℕ) → IsFree w f ⊎ IsInHead w head → Contains h.individuals (put a v u w)
    within w k =
        ⊎_elim
        (λ e. subst Is (sym (put-same a v u w e)) at)
        (λ ne. beside w ne (inside w (⊎_elim (λ free. inl (ne, free)) (λ head. inr head) k)))
        (cases_eq w v)

pub meets-dropped : (h : Heap) (head : HeadForm) (f : Form)
    → MeetsRule h (rule_of_parts f head) ↔ MeetsRule h (rule_of_parts (dropped head f) head)
meets-dropped h head (FExists v f) = go (meets-dropped h head f) (may_drop v head f) refl
  where
    go : (MeetsRule h (rule_of_parts f head) ↔ MeetsRule h (rule_of_parts (dropped head f) head))
        → (b : Bool) → may_drop v head f ≡ b
        → MeetsRule h (rule_of_parts (FExists v f) head)
        ↔ MeetsRule h (rule_of_parts (if b then dropped head f else FExists v f) head)
    go rest false e = (λ m. m, λ m. m)
    go rest true e =
        let parts : (not (is_in_head v head) ≡ true) × (is_free v f ≡ true) = and-parts (not (is_in_head v head)) (is_free v f) e
        in (
          λ m. rest.0 (meets-under h v head f (free-from v f parts.1) m),
          λ m. meets-over h v head f (λ k. not-both (is_in_head v head) parts.0 (from-in_head v head k)) (rest.1 m),
        )
meets-dropped h head FZero = (λ m. m, λ m. m)
meets-dropped h head FOne = (λ m. m, λ m. m)
meets-dropped h head (FAtom p vars) = (λ m. m, λ m. m)
meets-dropped h head (FIsNew v) = (λ m. m, λ m. m)
meets-dropped h head (FSame v w) = (λ m. m, λ m. m)
meets-dropped h head (FNot f) = (λ m. m, λ m. m)
meets-dropped h head (FAnd f g) = (λ m. m, λ m. m)
meets-dropped h head (FOr f g) = (λ m. m, λ m. m)
meets-dropped h head (FIff f g) = (λ m. m, λ m. m)
meets-dropped h head (FCond c f g) = (λ m. m, λ m. m)
meets-dropped h head (FForall v f) = (λ m. m, λ m. m)
meets-dropped h head (FClosure from to left right f) = (λ m. m, λ m. m)

pub dropping_keeps_meaning : DroppingKeepsMeaning
dropping_keeps_meaning h rule = meets-dropped h rule.head rule.body
