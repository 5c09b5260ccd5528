-- What is known once the next individual has its vectors.
use Rattle.std.proofs.Common.{ℕ, ◌≡◌, ◌<◌, ◌≤◌, ◌+◌, ◌-◌, true, List, [], ◌∷◌, ◌++◌, length, Some}
use Rattle.std.proofs.Common.{sym, ap}
use Rattle.std.proofs.Common.{subst, ◌∙◌, arith}
use Rattle.std.specs.Prelude.{Result, IfOk, IsTrue}
use Rattle.std.proofs.lemmas.Bool.{false≢true}
use Rattle.std.proofs.lemmas.Result.{IfOk-weaker}
use Rattle.tv_kleene.specs.declared.K3.{K3}
use Rattle.tv_model.specs.Program.{RuleForm}
use Rattle.tv_structure_form.specs.StructureForm.{StructureForm, IsMark, IsStructure, arities_of, split}
use Rattle.tv_structure_form.specs.StructureForm.{summary_at}
use Rattle.tv_rules.specs.Standing.{SeesSummaries}
use Rattle.tv_eval.specs.ScratchForm.{ScratchForm}
use Rattle.tv_focus_laws.specs.Choices.{AimForm, ChoiceForm, VectorSet}
use Rattle.tv_focus_laws.specs.Written.{written}
use Rattle.tv_focus.specs.Anchored.{IsAimOver}
use Rattle.tv_focus.specs.Puts.{set_writes}
use Rattle.tv_focus_step_laws.specs.Above.{VectorsLead, copies_so_far, parts_at, writes_at}
use Rattle.tv_focus_step_laws.proofs.Splitting.{copies-count}
use Rattle.tv_focus_walk.specs.declared.narrow.Outlook.{Outlook}
use Rattle.tv_focus_walk.specs.declared.since.Since.{Since}
use Rattle.tv_focus_walk.specs.declared.walk.Walk.{Walk}
use Rattle.tv_focus_walk.specs.Walk.{CanWalk, Foretells, HasRest, IsBlind, IsReady, IsSplittable, KeepsRest}
use Rattle.tv_focus_walk.specs.Walk.{LeadsOn}
use Rattle.tv_focus_walk.specs.Walk.{Sharpens, shifted_aim, walk_pred}
use Rattle.tv_focus_walk.proofs.Coercing.{are-plain}
use Rattle.tv_focus_walk.proofs.Foretelling.{then-foretells, vector-leads, vectors-lead}
use Rattle.tv_focus_walk.proofs.Ready.{aim-over, next-ready, same-ready, shift-over}
use Rattle.tv_focus_walk.proofs.Splits.{split-keeps}

pub foretold : {E : Type 0} (w : Walk) (begun : ChoiceForm) (set : VectorSet) (c d : StructureForm)
    (r : Result Outlook E) → LeadsOn w begun c (begun ++ set ∷ []) d
    → IfOk r (Sharpens w (begun ++ set ∷ []) d) → IfOk r (Foretells w begun set c)
foretold w begun set c d r leads holds =
    IfOk-weaker r (Sharpens w (begun ++ set ∷ []) d) (Foretells w begun set c)
    (λ outlook. then-foretells w begun set c d outlook leads) holds

-- ---- one vector

pub one-ready : (w : Walk) (begun : ChoiceForm) (set : VectorSet) (vector : List K3) (c old d : StructureForm)
    (aim next : AimForm) (at : ℕ) (since new : Since) → IsReady w begun c aim since → at ≡ copies_so_far begun
    → length begun < w.from.now.size → set ≡ vector ∷ [] → old ≡ c → d.size ≡ old.size
    → arities_of d ≡ arities_of old → IsStructure d → next ≡ shifted_aim at 0 aim → KeepsRest w since old new d
    → IsReady w (begun ++ set ∷ []) d next new
one-ready w begun set vector c old d aim next at since new ready place lt one same size over is shift keeps =
    next-ready w begun set c d aim next since new 0 ready lt (ap length one)
    (size ∙ ap (λ (x : StructureForm). x.size) same ∙ omega arith) is (over ∙ ap (λ x. arities_of x) same)
    (shift ∙ ap (λ p. shifted_aim p 0 aim) place) (keeps (subst (HasRest w since) (sym same) ready.rest))

pub one-leads : (w : Walk) (scratch : ScratchForm) (begun : ChoiceForm) (set : VectorSet) (vector : List K3)
    (c old d : StructureForm) (aim next : AimForm) (at : ℕ) (since : Since) → VectorsLead → CanWalk w scratch
    → IsReady w begun c aim since → at ≡ copies_so_far begun → length begun < w.from.now.size
    → set ≡ vector ∷ [] → old ≡ c → d ≡ written old (walk_pred w) (writes_at aim at vector)
    → LeadsOn w begun c (begun ++ set ∷ []) d
one-leads w scratch begun set vector c old d aim next at since lead can ready place lt one same put =
    vector-leads w scratch begun c d aim next since set vector lead can ready one
    (omega (arith, ready.so.size, lt)) (same-ready w begun set c aim since ready lt (ap length one)).aimed
    (put ∙ ap (λ s. written s (walk_pred w) (writes_at aim at vector)) same
    ∙ ap (λ p. written c (walk_pred w) (writes_at aim p vector)) place)

-- ---- several

-- a summary isn't marked
pub can-split : (w : Walk) (begun : ChoiceForm) (c : StructureForm) (aim : AimForm) (since : Since) (at count : ℕ)
    → IsReady w begun c aim since → at ≡ copies_so_far begun → length begun < w.from.now.size → 1 ≤ count
    → c.size + count ≤ 257 → summary_at c at ≡ true → IsSplittable c at count
can-split w begun c aim since at count ready place lt some few summary = record {
  is = ready.so.is;
  place = omega (arith, ready.so.size, lt, place);
  some = some;
  few = few;
  unmarked = λ e. let mark : IsMark c (Some at) = subst (IsMark c) e ready.so.is.fresh
      in false≢true (sym mark.1 ∙ summary);
}

-- the structure of the split
split-is : (w : Walk) (begun : ChoiceForm) (set : VectorSet) (c t : StructureForm) (at count : ℕ) (aim : AimForm)
    (since : Since) → IsReady w begun c aim since → at ≡ copies_so_far begun → length begun < w.from.now.size
    → count ≡ length set → t ≡ split c (parts_at at count (c.size - at - 1))
    → t ≡ split c (parts_at (copies_so_far begun) (length set) (w.from.now.size - length begun - 1))
split-is w begun set c t at count aim since ready place lt long made =
    made ∙ ap (λ n. split c (parts_at at count n)) (omega (arith, ready.so.size, place, lt))
    ∙ ap (λ p. split c (parts_at p count (w.from.now.size - length begun - 1))) place
    ∙ ap (λ n. split c (parts_at (copies_so_far begun) n (w.from.now.size - length begun - 1))) long

pub several-ready : (w : Walk) (scratch : ScratchForm) (begun : ChoiceForm) (set : VectorSet) (c t d : StructureForm)
    (aim next : AimForm) (at count : ℕ) (since some new : Since) → CanWalk w scratch → IsReady w begun c aim since
    → at ≡ copies_so_far begun → length begun < w.from.now.size → 1 < length set → count ≡ length set
    → t ≡ split c (parts_at at count (c.size - at - 1)) → arities_of t ≡ arities_of c → d.size ≡ t.size
    → arities_of d ≡ arities_of t → IsStructure d → next ≡ shifted_aim at (count - 1) aim
    → some.no ≡ since.no → some.yes ≡ since.yes → IsTrue some.copies → some.any ≡ since.any
    → KeepsRest w some t new d → IsReady w (begun ++ set ∷ []) d next new
several-ready w scratch begun set c t d aim next at count since some new can ready place lt many long made kept size over is shift same_no same_yes has_copies same_any keeps =
    next-ready w begun set c d aim next since new (count - 1) ready lt (omega (arith, many, long))
    (size ∙ whole ∙ omega (arith, many, long, ready.so.size, lt)) is (over ∙ kept)
    (shift ∙ ap (λ p. shifted_aim p (count - 1) aim) place)
    (keeps (subst (HasRest w some) (sym is-split)
    (split-keeps w since some c (copies_so_far begun) (length set) behind (are-plain w scratch can) ready.so.is
    (omega (arith, many)) (omega (arith, ready.so.size, lt)) blinder ready.rest)))
  where
    behind : ℕ
    behind = w.from.now.size - length begun - 1

    is-split : t ≡ split c (parts_at (copies_so_far begun) (length set) (w.from.now.size - length begun - 1))
    is-split = split-is w begun set c t at count aim since ready place lt long made

    whole : t.size ≡ copies_so_far begun + length set + (w.from.now.size - length begun - 1)
    whole = ap (λ (x : StructureForm). x.size) is-split ∙ copies-count (copies_so_far begun) (length set) behind

    blinder : (rule : RuleForm) → IsBlind w some rule → IsBlind w since rule × (¬ SeesSummaries rule)
    blinder rule blind = (
      record {
        no = λ on. blind.no (same_no ∙ on);
        yes = λ on. blind.yes (same_yes ∙ on);
        copies = λ on. blind.copies has_copies;
        any = λ on. blind.any (same_any ∙ on);
      },
      blind.copies has_copies,
    )

pub several-leads : (w : Walk) (scratch : ScratchForm) (begun : ChoiceForm) (set : VectorSet) (c t d : StructureForm)
    (aim next : AimForm) (at count : ℕ) (since new : Since) → VectorsLead → CanWalk w scratch
    → IsReady w begun c aim since → at ≡ copies_so_far begun → length begun < w.from.now.size → 1 < length set
    → count ≡ length set → t ≡ split c (parts_at at count (c.size - at - 1)) → IsStructure t
    → IsReady w (begun ++ set ∷ []) d next new → arities_of d ≡ arities_of t → d.size ≡ t.size
    → d ≡ written t (walk_pred w) (set_writes next at set) → LeadsOn w begun c (begun ++ set ∷ []) d
several-leads w scratch begun set c t d aim next at count since new lead can ready place lt many long made is done over size put =
    vectors-lead w scratch begun c t d next set behind lead can ready.so.is (omega (arith, lt)) is-split is
    (aim-over d t (walk_pred w) next (sym over) (sym size) done.over) (omega (arith, whole)) done.aimed
    (put ∙ ap (λ p. written t (walk_pred w) (set_writes next p set)) place)
  where
    behind : ℕ
    behind = w.from.now.size - length begun - 1

    is-split : t ≡ split c (parts_at (copies_so_far begun) (length set) (w.from.now.size - length begun - 1))
    is-split = split-is w begun set c t at count aim since ready place lt long made

    whole : t.size ≡ copies_so_far begun + length set + (w.from.now.size - length begun - 1)
    whole = ap (λ (x : StructureForm). x.size) is-split ∙ copies-count (copies_so_far begun) (length set) behind

-- ---- the split, before the vectors are put

pub several-over : (w : Walk) (begun : ChoiceForm) (set : VectorSet) (c t : StructureForm) (aim next : AimForm)
    (at count : ℕ) (since : Since) → IsReady w begun c aim since → at ≡ copies_so_far begun
    → length begun < w.from.now.size → 1 < length set → count ≡ length set
    → t ≡ split c (parts_at at count (c.size - at - 1)) → arities_of t ≡ arities_of c
    → next ≡ shifted_aim at (count - 1) aim
    → IsAimOver t (walk_pred w) next × (at + count ≤ t.size)
several-over w begun set c t aim next at count since ready place lt many long made kept shift = (
  subst (IsAimOver t (walk_pred w)) (sym shift)
      (shift-over c t (walk_pred w) at (count - 1) aim kept
      (whole ∙ omega (arith, ready.so.size, place, lt, many, long)) ready.over),
  omega (arith, whole),
)
  where
    whole : t.size ≡ at + count + (c.size - at - 1)
    whole = ap (λ (x : StructureForm). x.size) made ∙ copies-count at count (c.size - at - 1)
