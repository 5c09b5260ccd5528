-- Values that are put, and the rules that see it.
use Rattle.std.proofs.Common.{ℕ, ◌≡◌, ◌≢◌, ◌≤◌, Bool, true, false, List, [], ◌∷◌, inl, inr, ⊎_elim, length}
use Rattle.std.proofs.Common.{get_or}
use Rattle.std.proofs.Common.{refl, sym, ap, subst, ◌∙◌, arith, All, Contains}
use Rattle.std.specs.Prelude.{IsTrue}
use Rattle.std.specs.List.{range_with_len, AllByRecursion}
use Rattle.std.proofs.lemmas.Bool.{cases_eq, false≢true}
use Rattle.std.proofs.lemmas.List.Elements.{All-contains, All-head, All-tail}
use Rattle.tv_kleene.specs.declared.K3.{K3}
use Rattle.tv_kleene.specs.declared.K3.TheVariants.{No, Half, Yes}
use Rattle.tv_kleene.specs.Kleene.{LiesUnder, IsAtMost}
use Rattle.tv_kleene.proofs.Lattice.{smaller-yes}
use Rattle.tv_model.specs.Program.{RuleForm, HAtom}
use Rattle.tv_model.proofs.Lists.{Contains-none, Contains-cases}
use Rattle.tv_embedding_laws.specs.Embedding.{IsBelow}
use Rattle.tv_embedding_laws.proofs.EmbeddingLaws.{IsBelow-values}
use Rattle.tv_stable_laws.specs.Laws.{IsPlainRule}
use Rattle.tv_stable_laws.specs.Stable.{IsStableUnder}
use Rattle.tv_structure_form.specs.StructureForm.{StructureForm, structure_of, value_at}
use Rattle.tv_rules.specs.EntryForms.{rules_of}
use Rattle.tv_rules.specs.Seen.{Sees}
use Rattle.tv_coerce.specs.Touched.{HasNotMoved, IsTouched}
use Rattle.tv_coerce.proofs.Touching.{stays-stable}
use Rattle.tv_focus_laws.specs.Choices.{AimForm, Alone, Before, Behind}
use Rattle.tv_focus_laws.specs.Written.{WriteForm, vector_writes}
use Rattle.tv_focus_laws.proofs.Writes.{IsWritten}
use Rattle.tv_focus_step_laws.specs.Above.{writes_at}
use Rattle.tv_focus_step_laws.proofs.Narrowing.{put-or_not}
use Rattle.tv_focus_walk.specs.declared.fits.Test.TheVariants.{Under}
use Rattle.tv_focus_walk.specs.declared.since.Since.{Since}
use Rattle.tv_focus_walk.specs.declared.walk.Walk.{Walk}
use Rattle.tv_focus_walk.specs.Walk.{ArePlain, IsBlind, IsMore, IsNoted, KeepsRest, PassAll, walk_pred}

-- ---- the values that are put

-- each value that is put is one of the vector's, or `No`
abbrev pub AreAll : (value : K3) → List WriteForm → Type 0
AreAll value writes = (w : WriteForm) → Contains writes w → w.value ≡ value

pairs-all : (value : K3) (f : ℕ → List ℕ) (anchors : List ℕ) (vector : List K3) → All (λ k. k ≡ value) vector
    → AreAll value (vector_writes f anchors vector)
pairs-all value f [] vector all w at = absurd (Contains-none w at)
pairs-all value f (a ∷ anchors) [] all w at = absurd (Contains-none w at)
pairs-all value f (a ∷ anchors) (x ∷ vector) all w at =
    ⊎_elim
    (λ here. ap (λ (v : WriteForm). v.value) (sym here) ∙ All-head (λ k. k ≡ value) x vector all)
    (λ there. pairs-all value f anchors vector (All-tail (λ k. k ≡ value) x vector all) w there)
    (Contains-cases (record { tuple = f a; value = x }) w (vector_writes f anchors vector) at)

first-no : (vector : List K3) → All (λ k. k ≡ No) vector → get_or vector 0 No ≡ No
first-no [] all = refl
first-no (x ∷ vector) all = All-head (λ k. k ≡ No) x vector all

all-no : (aim : AimForm) (u : ℕ) (vector : List K3) → All (λ k. k ≡ No) vector → AreAll No (writes_at aim u vector)
all-no Alone u vector all w at =
    ⊎_elim (λ here. ap (λ (v : WriteForm). v.value) (sym here) ∙ first-no vector all)
    (λ none. absurd (Contains-none w none))
    (Contains-cases (record { tuple = u ∷ []; value = get_or vector 0 No }) w [] at)
all-no (Before anchors) u vector all w at = pairs-all No (λ a. u ∷ a ∷ []) anchors vector all w at
all-no (Behind anchors) u vector all w at = pairs-all No (λ a. a ∷ u ∷ []) anchors vector all w at

all-yes : (aim : AimForm) (u : ℕ) (vector : List K3) → 1 ≤ length vector → All (λ k. k ≡ Yes) vector
    → AreAll Yes (writes_at aim u vector)
all-yes Alone u vector some all w at =
    ⊎_elim (λ here. ap (λ (v : WriteForm). v.value) (sym here) ∙ all 0 No (omega (arith, some)))
    (λ none. absurd (Contains-none w none))
    (Contains-cases (record { tuple = u ∷ []; value = get_or vector 0 No }) w [] at)
all-yes (Before anchors) u vector some all w at = pairs-all Yes (λ a. u ∷ a ∷ []) anchors vector all w at
all-yes (Behind anchors) u vector some all w at = pairs-all Yes (λ a. a ∷ u ∷ []) anchors vector all w at

-- ---- what is touched

abbrev pub sign_value : Bool → K3
sign_value true = Yes
sign_value false = No

at-most-itself : (x : K3) → IsAtMost x x
at-most-itself No = refl
at-most-itself Half = refl
at-most-itself Yes = refl

not-moved : (up : Bool) (x y : K3) → y ≡ x → HasNotMoved up x y
not-moved true x y e = subst (λ k. IsAtMost k x) (sym e) (at-most-itself x)
not-moved false x y e = subst (IsAtMost x) (sym e) (at-most-itself x)

moved-to : (flag up : Bool) (x : K3) → flag ≢ up → HasNotMoved up x (sign_value flag)
moved-to true true x apart = absurd (apart refl)
moved-to true false x apart = smaller-yes x
moved-to false true x apart = refl
moved-to false false x apart = absurd (apart refl)

-- the value at a tuple: one that was put, or the old one
put-value : (c t : StructureForm) (pred : ℕ) (writes : List WriteForm) (value : K3) → IsWritten c t pred writes
    → AreAll value writes → (P : List ℕ → K3 → Type 0)
    → ((w : WriteForm) → Contains writes w → P w.tuple value)
    → ((tuple : List ℕ) → P tuple (value_at c pred tuple))
    → (tuple : List ℕ) → P tuple (value_at t pred tuple)
put-value c t pred writes value done all P put kept tuple =
    ⊎_elim
    (λ (w, at, goes). subst (P tuple)
    (sym (done.values tuple value (
      λ v there same. all v there,
      inl (w, at, goes),
    )))
    (subst (λ us. P us value) goes (put w at)))
    (λ none. subst (P tuple)
    (sym (done.values tuple (value_at c pred tuple) (
      λ v there same. absurd (none v there same),
      inr refl,
    )))
    (kept tuple))
    (put-or_not writes tuple)

touched : (flag : Bool) (pred : ℕ) (c t : StructureForm) (writes : List WriteForm) → IsWritten c t pred writes
    → AreAll (sign_value flag) writes → IsTouched (HAtom flag pred []) c t
touched flag pred c t writes done all = record {
  size = done.size;
  values = λ q not_head tuple. done.others q tuple not_head;
  moved = λ up q none tuple. ⊎_elim
      (λ same. subst (λ p. HasNotMoved up (value_at c p tuple) (value_at t p tuple)) (sym same)
      (at up (λ e. none (same, e)) tuple))
      (λ ne. not-moved up (value_at c q tuple) (value_at t q tuple) (done.others q tuple ne))
      (cases_eq q pred);
  summaries = λ not_same u. ap (λ flags. get_or flags u false) done.summaries;
  fewer = λ u on. sym (ap (λ flags. get_or flags u false) done.summaries) ∙ on;
}
  where
    at : (up : Bool) → flag ≢ up → (tuple : List ℕ)
        → HasNotMoved up (value_at c pred tuple) (value_at t pred tuple)
    at up apart tuple = put-value c t pred writes (sign_value flag) done all
        (λ us k. HasNotMoved up (value_at c pred us) k)
        (λ w at. moved-to flag up (value_at c pred w.tuple) apart)
        (λ us. not-moved up (value_at c pred us) (value_at c pred us) refl) tuple

-- ---- below

each-write : (P : WriteForm → Type 0) (writes : List WriteForm) → AllByRecursion P writes → (w : WriteForm)
    → Contains writes w → P w
each-write P [] all w at = absurd (Contains-none w at)
each-write P (v ∷ writes) all w at =
    ⊎_elim (λ here. subst P here all.0) (λ there. each-write P writes all.1 w there) (Contains-cases v w writes at)

below : (c t : StructureForm) (pred : ℕ) (writes : List WriteForm) (value : K3) → IsWritten c t pred writes
    → AreAll value writes → PassAll Under c pred writes → IsBelow (structure_of t) (structure_of c)
below c t pred writes value done all fits = (IsBelow-values (structure_of t) (structure_of c)).1 (record {
  individuals = ap (range_with_len 0) done.size;
  values = λ q tuple inside. ⊎_elim
      (λ same. subst (λ p. LiesUnder (value_at t p tuple) (value_at c p tuple)) (sym same)
      (put-value c t pred writes value done all (λ us k. LiesUnder k (value_at c pred us))
      (λ w at. subst (λ k. LiesUnder k (value_at c pred w.tuple)) (all w at)
      (each-write (λ (v : WriteForm). LiesUnder v.value (value_at c pred v.tuple)) writes fits w at))
      (λ us. inl refl) tuple))
      (λ ne. inl (done.others q tuple ne))
      (cases_eq q pred);
  summaries = λ u at summary. sym (ap (λ flags. get_or flags u false) done.summaries) ∙ summary;
})

sign-stays : (w : Walk) (flag : Bool) (c t : StructureForm) (writes : List WriteForm) (rule : RuleForm)
    → ArePlain w → IsWritten c t (walk_pred w) writes → AreAll (sign_value flag) writes
    → PassAll Under c (walk_pred w) writes → Contains (rules_of w.closed.now) rule
    → ¬ Sees (HAtom flag (walk_pred w) []) rule → IsStableUnder (structure_of c) rule
    → IsStableUnder (structure_of t) rule
sign-stays w flag c t writes rule plain done all fits at unseen stable =
    stays-stable (HAtom flag (walk_pred w) []) c t rule (touched flag (walk_pred w) c t writes done all) done.fresh
    (below c t (walk_pred w) writes (sign_value flag) done all fits)
    (All-contains IsPlainRule (rules_of w.closed.now) rule plain at) unseen stable

-- ---- what was done

pub less-blind : (w : Walk) (old new : Since) (rule : RuleForm) → IsMore old new → IsBlind w new rule
    → IsBlind w old rule
less-blind w old new rule more blind = record {
  no = λ on. blind.no (more.no on);
  yes = λ on. blind.yes (more.yes on);
  copies = λ on. blind.copies (more.copies on);
  any = λ on. blind.any (more.any on);
}

pub vector-keeps : (w : Walk) (aim : AimForm) (u : ℕ) (vector : List K3) (old new : Since) (under : Bool)
    (c t : StructureForm) → ArePlain w → IsWritten c t (walk_pred w) (writes_at aim u vector)
    → IsNoted old under vector new → (IsTrue under → PassAll Under c (walk_pred w) (writes_at aim u vector))
    → KeepsRest w old c new t
vector-keeps w aim u vector old new under c t plain done noted fits rest rule at blind =
    ⊎_elim
    (λ any. absurd (blind.any any))
    (λ (is_under, signs). ⊎_elim
    (λ (down, all). sign-stays w false c t (writes_at aim u vector) rule plain done (all-no aim u vector all)
    (fits is_under) at (blind.no down) (rest rule at (less-blind w old new rule noted.more blind)))
    (λ (up, some, all). sign-stays w true c t (writes_at aim u vector) rule plain done (all-yes aim u vector some all)
    (fits is_under) at (blind.yes up) (rest rule at (less-blind w old new rule noted.more blind)))
    signs)
    noted.sign

pub nothing-seen : (w : Walk) (since : Since) (rule : RuleForm) → since.no ≡ false → since.yes ≡ false
    → since.copies ≡ false → since.any ≡ false → IsBlind w since rule
nothing-seen w since rule none_no none_yes none_copies none_any = record {
  no = λ on. absurd (false≢true (sym none_no ∙ on));
  yes = λ on. absurd (false≢true (sym none_yes ∙ on));
  copies = λ on. absurd (false≢true (sym none_copies ∙ on));
  any = λ on. absurd (false≢true (sym none_any ∙ on));
}
