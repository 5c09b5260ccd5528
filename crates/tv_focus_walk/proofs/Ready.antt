-- Structures at hand.
use Rattle.std.proofs.Common.{ℕ, ◌≡◌, ◌<◌, ◌≤◌, ◌+◌, List, [], ◌∷◌, ◌++◌, length, get_or, map}
use Rattle.std.proofs.Common.{refl, sym}
use Rattle.std.proofs.Common.{ap, subst, ◌∙◌, ⊎_elim, arith, All, length-append}
use Rattle.std.specs.Prelude.{nat_le, slice_get}
use Rattle.std.proofs.lemmas.Bool.{cases_Bool, cond-true, cond-false}
use Rattle.std.proofs.lemmas.List.Elements.{All-nil, All-append, All-cons, All-head, All-tail}
use Rattle.tv_kleene.specs.declared.K3.{K3}
use Rattle.tv_kleene.specs.declared.K3.TheVariants.{No}
use Rattle.tv_structure_form.specs.TableForm.{HasEntry}
use Rattle.tv_structure_form.specs.StructureForm.{StructureForm, IsStructure, arities_of, table_of}
use Rattle.tv_focus_laws.specs.Choices.{AimForm, Alone, Before, Behind, ChoiceForm, VectorSet}
use Rattle.tv_focus_laws.specs.Written.{WriteForm, vector_writes}
use Rattle.tv_focus.specs.Anchored.{IsAimOver}
use Rattle.tv_focus.specs.Puts.{set_writes}
use Rattle.tv_focus_step_laws.specs.Above.{IsSplitSoFar, aim_after, copies_so_far, writes_at}
use Rattle.tv_focus_step_laws.proofs.Laid.{more-copies}
use Rattle.tv_focus_walk.specs.declared.since.Since.{Since}
use Rattle.tv_focus_walk.specs.declared.walk.Walk.{Walk}
use Rattle.tv_focus_walk.specs.Walk.{HasRest, IsReady, shifted_aim, shifted_by, walk_aim, walk_pred}
use Rattle.tv_focus_walk.proofs.Splits.{shift-aim}

-- ---- entries

pair-entries : (c : StructureForm) (pred : ℕ) (f : ℕ → List ℕ) (anchors : List ℕ) (vector : List K3)
    → ((a : ℕ) → a < c.size → HasEntry (table_of c) pred (f a)) → All (λ a. a < c.size) anchors
    → All (λ (w : WriteForm). HasEntry (table_of c) pred w.tuple) (vector_writes f anchors vector)
pair-entries c pred f [] vector each all = All-nil (λ (w : WriteForm). HasEntry (table_of c) pred w.tuple)
pair-entries c pred f (a ∷ anchors) [] each all = All-nil (λ (w : WriteForm). HasEntry (table_of c) pred w.tuple)
pair-entries c pred f (a ∷ anchors) (x ∷ vector) each all =
    All-cons (λ (w : WriteForm). HasEntry (table_of c) pred w.tuple) (record { tuple = f a; value = x })
    (vector_writes f anchors vector) (each a (All-head (λ b. b < c.size) a anchors all))
    (pair-entries c pred f anchors vector each (All-tail (λ b. b < c.size) a anchors all))

pub vector-entries : (c : StructureForm) (pred : ℕ) (aim : AimForm) (u : ℕ) (vector : List K3)
    → IsAimOver c pred aim → u < c.size
    → All (λ (w : WriteForm). HasEntry (table_of c) pred w.tuple) (writes_at aim u vector)
vector-entries c pred Alone u vector over lt =
    All-cons (λ (w : WriteForm). HasEntry (table_of c) pred w.tuple)
    (record { tuple = u ∷ []; value = get_or vector 0 No }) []
    (record { arity = over; individuals = (lt, tt) })
    (All-nil (λ (w : WriteForm). HasEntry (table_of c) pred w.tuple))
vector-entries c pred (Before anchors) u vector over lt =
    pair-entries c pred (λ a. u ∷ a ∷ []) anchors vector
    (λ a inside. record { arity = over.0; individuals = (lt, (inside, tt)) }) over.1
vector-entries c pred (Behind anchors) u vector over lt =
    pair-entries c pred (λ a. a ∷ u ∷ []) anchors vector
    (λ a inside. record { arity = over.0; individuals = (inside, (lt, tt)) }) over.1

pub set-entries : (c : StructureForm) (pred : ℕ) (aim : AimForm) (u : ℕ) (set : VectorSet)
    → IsAimOver c pred aim → u + length set ≤ c.size
    → All (λ (w : WriteForm). HasEntry (table_of c) pred w.tuple) (set_writes aim u set)
set-entries c pred aim u [] over le = All-nil (λ (w : WriteForm). HasEntry (table_of c) pred w.tuple)
set-entries c pred aim u (vector ∷ set) over le =
    All-append (λ (w : WriteForm). HasEntry (table_of c) pred w.tuple) (writes_at aim u vector)
    (set_writes aim (u + 1) set) (vector-entries c pred aim u vector over (omega (arith, le)))
    (set-entries c pred aim (u + 1) set over (omega (arith, le)))

-- ---- aims

pub aim-over : (c d : StructureForm) (pred : ℕ) (aim : AimForm) → arities_of d ≡ arities_of c → d.size ≡ c.size
    → IsAimOver c pred aim → IsAimOver d pred aim
aim-over c d pred Alone over size is = ap (λ ns. slice_get ns pred) over ∙ is
aim-over c d pred (Before anchors) over size is =
    (ap (λ ns. slice_get ns pred) over ∙ is.0, subst (λ n. All (λ a. a < n) anchors) (sym size) is.1)
aim-over c d pred (Behind anchors) over size is =
    (ap (λ ns. slice_get ns pred) over ∙ is.0, subst (λ n. All (λ a. a < n) anchors) (sym size) is.1)

shift-inside : (n at more : ℕ) (anchors : List ℕ) → All (λ a. a < n) anchors
    → All (λ a. a < n + more) (map (shifted_by at more) anchors)
shift-inside n at more [] all = All-nil (λ a. a < n + more)
shift-inside n at more (a ∷ anchors) all =
    All-cons (λ b. b < n + more) (shifted_by at more a) (map (shifted_by at more) anchors)
    (⊎_elim
    (λ e. subst (λ b. b < n + more) (sym (cond-true (nat_le a at) a (a + more) e))
    (omega (arith, All-head (λ b. b < n) a anchors all)))
    (λ e. subst (λ b. b < n + more) (sym (cond-false (nat_le a at) a (a + more) e))
    (omega (arith, All-head (λ b. b < n) a anchors all)))
    (cases_Bool (nat_le a at)))
    (shift-inside n at more anchors (All-tail (λ b. b < n) a anchors all))

pub shift-over : (c d : StructureForm) (pred at more : ℕ) (aim : AimForm) → arities_of d ≡ arities_of c
    → d.size ≡ c.size + more → IsAimOver c pred aim → IsAimOver d pred (shifted_aim at more aim)
shift-over c d pred at more Alone over size is = ap (λ ns. slice_get ns pred) over ∙ is
shift-over c d pred at more (Before anchors) over size is = (
  ap (λ ns. slice_get ns pred) over ∙ is.0,
  subst (λ n. All (λ a. a < n) (map (shifted_by at more) anchors)) (sym size) (shift-inside c.size at more anchors is.1),
)
shift-over c d pred at more (Behind anchors) over size is = (
  ap (λ ns. slice_get ns pred) over ∙ is.0,
  subst (λ n. All (λ a. a < n) (map (shifted_by at more) anchors)) (sym size) (shift-inside c.size at more anchors is.1),
)

none-more : (at a : ℕ) → shifted_by at 0 a ≡ a
none-more at a =
    ⊎_elim (λ e. cond-true (nat_le a at) a (a + 0) e) (λ e. cond-false (nat_le a at) a (a + 0) e ∙ omega arith)
    (cases_Bool (nat_le a at))

none-all : (at : ℕ) (anchors : List ℕ) → map (shifted_by at 0) anchors ≡ anchors
none-all at [] = refl
none-all at (a ∷ anchors) =
    ap (λ b. b ∷ map (shifted_by at 0) anchors) (none-more at a) ∙ ap (λ bs. a ∷ bs) (none-all at anchors)

pub shift-none : (at : ℕ) (aim : AimForm) → shifted_aim at 0 aim ≡ aim
shift-none at Alone = refl
shift-none at (Before anchors) = ap Before (none-all at anchors)
shift-none at (Behind anchors) = ap Behind (none-all at anchors)

-- ---- one set more

next-so : (s : StructureForm) (begun : ChoiceForm) (set : VectorSet) (c d : StructureForm) (more : ℕ)
    → IsSplitSoFar s begun c → length begun < s.size → length set ≡ more + 1 → d.size ≡ c.size + more
    → IsStructure d → arities_of d ≡ arities_of c → IsSplitSoFar s (begun ++ set ∷ []) d
next-so s begun set c d more so place count size is over = record {
  is = is;
  size = omega (arith, size, so.size, count, place, more-copies begun set, length-append begun (set ∷ []));
  over = over ∙ so.over;
}

-- the next structure is ready where the set's vectors are put
pub next-ready : (w : Walk) (begun : ChoiceForm) (set : VectorSet) (c d : StructureForm) (aim next : AimForm)
    (old new : Since) (more : ℕ) → IsReady w begun c aim old → length begun < w.from.now.size
    → length set ≡ more + 1 → d.size ≡ c.size + more → IsStructure d → arities_of d ≡ arities_of c
    → next ≡ shifted_aim (copies_so_far begun) more aim → HasRest w new d
    → IsReady w (begun ++ set ∷ []) d next new
next-ready w begun set c d aim next old new more ready place count size is over same rest = record {
  so = next-so w.from.now begun set c d more ready.so place count size is over;
  aimed = same ∙ ap (shifted_aim (copies_so_far begun) more) ready.aimed ∙ shift-aim begun set more (walk_aim w) count;
  over = subst (IsAimOver d (walk_pred w)) (sym same)
      (shift-over c d (walk_pred w) (copies_so_far begun) more aim over size ready.over);
  rest = rest;
}

-- where one vector is given that is there, it is ready as it is
pub same-ready : (w : Walk) (begun : ChoiceForm) (set : VectorSet) (c : StructureForm) (aim : AimForm)
    (since : Since) → IsReady w begun c aim since → length begun < w.from.now.size → length set ≡ 1
    → IsReady w (begun ++ set ∷ []) c aim since
same-ready w begun set c aim since ready place one = record {
  so = next-so w.from.now begun set c c 0 ready.so place one (omega arith) ready.so.is refl;
  aimed = ready.aimed ∙ sym (shift-none (copies_so_far begun) (aim_after begun (walk_aim w)))
      ∙ shift-aim begun set 0 (walk_aim w) one;
  over = ready.over;
  rest = ready.rest;
}
