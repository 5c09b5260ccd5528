-- What a walk begins with: the structure itself leads to all its choices.
use Rattle.std.proofs.Common.{ℕ, ◌≡◌, ◌≤◌, ◌∙◌, List, [], ◌∷◌, length, map, refl, ap, sym, subst}
use Rattle.std.proofs.Common.{arith, sum, All, Contains}
use Rattle.std.proofs.lemmas.List.{take_all}
use Rattle.std.proofs.lemmas.List.FromFn.{length-map-range_with_len}
use Rattle.std.proofs.lemmas.List.Elements.{All-nil, All-cons}
use Rattle.tv_structure_form.specs.StructureForm.{IsStructure, structure_of}
use Rattle.tv_eval.specs.ScratchForm.{ScratchForm}
use Rattle.tv_rules.specs.Closing.{closed_rules}
use Rattle.tv_focus_laws.specs.Choices.{AimForm, Alone, Before, Behind, ChoiceForm, VectorSet, choices}
use Rattle.tv_focus_laws.specs.Choices.{product}
use Rattle.tv_focus_laws.specs.Choices.{sets_in}
use Rattle.tv_focus_laws.specs.Counts.{AreCounted}
use Rattle.tv_focus_laws.proofs.Counts.{choices_are_counted}
use Rattle.std.specs.List.{flat_map}
use Rattle.tv_focus_step_laws.specs.Above.{StructuresLead, aim_after, anchor_place}
use Rattle.tv_focus.specs.Puts.{AreChosen, IsChoiceOf}
use Rattle.tv_focus.proofs.ChosenTables.{all_chosen}
use Rattle.tv_focus.proofs.Limits.{choice-is}
use Rattle.tv_focus_walk.specs.declared.since.Since.{Since}
use Rattle.tv_focus_walk.specs.declared.walk.Walk.{Walk}
use Rattle.tv_focus_walk.specs.Walk.{CanWalk, IsAbove, IsReady, walk_aim, walk_pred, walk_program}
use Rattle.tv_focus_walk.proofs.Coercing.{small-choice, stable-rest}

begins-above : (w : Walk) (scratch : ScratchForm) (choice : ChoiceForm) → CanWalk w scratch → StructuresLead
    → Contains (choices (structure_of w.from.now) (walk_pred w) (walk_aim w)) choice → IsAbove w [] w.from.now choice
begins-above w scratch choice can lead at =
    let of : IsChoiceOf w.from.now (walk_pred w) (walk_aim w) choice
    = choice-is w.from.now (walk_pred w) (walk_aim w) choice can.choosing.small at
    in record {
      of = of;
      leads = lead (closed_rules (walk_program w)) w.from.now (walk_pred w) (walk_aim w) choice can.choosing.aim
          (small-choice w scratch choice can of);
    }

pub all-above : (w : Walk) (scratch : ScratchForm) → CanWalk w scratch → StructuresLead
    → AreChosen (IsAbove w [] w.from.now) [] w.choosing.now.sets.items
all-above w scratch can lead =
    subst (AreChosen (IsAbove w [] w.from.now) []) (sym can.choosing.sets)
    (all_chosen (IsAbove w [] w.from.now) [] (sets_in (structure_of w.from.now) (walk_pred w) (walk_aim w))
    (λ tail at. begins-above w scratch tail can lead at))

-- ---- anchors

place-itself : (a : ℕ) → anchor_place [] a ≡ a
place-itself a = omega (arith, ap sum (take_all a [] (omega arith)))

places-themselves : (anchors : List ℕ) → map (anchor_place []) anchors ≡ anchors
places-themselves [] = refl
places-themselves (a ∷ anchors) =
    ap (λ b. b ∷ map (anchor_place []) anchors) (place-itself a) ∙ ap (λ bs. a ∷ bs) (places-themselves anchors)

aim-itself : (aim : AimForm) → aim ≡ aim_after [] aim
aim-itself Alone = refl
aim-itself (Before anchors) = ap Before (sym (places-themselves anchors))
aim-itself (Behind anchors) = ap Behind (sym (places-themselves anchors))

pub begins-ready : (w : Walk) (scratch : ScratchForm) (since : Since) → IsStructure w.from.now → CanWalk w scratch
    → IsReady w [] w.from.now (walk_aim w) since
begins-ready w scratch since is can = record {
  so = record { is = is; size = omega arith; over = refl };
  aimed = aim-itself (walk_aim w);
  over = can.choosing.over;
  rest = stable-rest w scratch since w.from.now can can.stable;
}

-- there is a list of sets for each individual
pub sets-counted : (w : Walk) (scratch : ScratchForm) → CanWalk w scratch
    → length w.choosing.now.sets.items ≡ w.from.now.size
sets-counted w scratch can =
    ap length can.choosing.sets ∙ length-map-range_with_len _ 0 w.from.now.size

-- ---- each list has a set

none-flat : (those : List VectorSet) → flat_map (λ set. map (λ (tail : ChoiceForm). set ∷ tail) []) those ≡ []
none-flat [] = refl
none-flat (set ∷ those) = none-flat those

some-sets : (sets : List (List VectorSet)) → 1 ≤ length (product sets) → All (λ those. 1 ≤ length those) sets
some-sets [] some = All-nil (λ (those : List VectorSet). 1 ≤ length those)
some-sets (those ∷ sets) some =
    All-cons (λ (all : List VectorSet). 1 ≤ length all) those sets (first those some)
    (some-sets sets (rest (product sets) refl))
  where
    first : (own : List VectorSet) → 1 ≤ length (product (own ∷ sets)) → 1 ≤ length own
    first [] few = absurd (omega (arith, few))
    first (set ∷ own) few = omega arith

    rest : (found : List ChoiceForm) → product sets ≡ found → 1 ≤ length (product sets)
    rest [] e =
        let few : 1 ≤ length (flat_map (λ set. map (λ (tail : ChoiceForm). set ∷ tail) []) those)
        = subst (λ all. 1 ≤ length (flat_map (λ set. map (λ (tail : ChoiceForm). set ∷ tail) all) those)) e some
        in absurd (omega (arith, few, ap length (none-flat those)))
    rest (choice ∷ found) e = subst (λ all. 1 ≤ length all) (sym e) (omega arith)

has-one : (choices : List ChoiceForm) (choice : ChoiceForm) → Contains choices choice → 1 ≤ length choices
has-one choices choice (k, lt, is) = omega (arith, lt)

pub sets-some : (w : Walk) (scratch : ScratchForm) → CanWalk w scratch
    → All (λ those. 1 ≤ length those) w.choosing.now.sets.items
sets-some w scratch can =
    let sets : List (List VectorSet) = sets_in (structure_of w.from.now) (walk_pred w) (walk_aim w)
    in let counted : AreCounted (structure_of w.from.now) (walk_pred w) (walk_aim w)
    = choices_are_counted (structure_of w.from.now) (walk_pred w) (walk_aim w)
    in subst (λ all. All (λ (those : List VectorSet). 1 ≤ length those) all) (sym can.choosing.sets)
    (some-sets sets (has-one (product sets) counted.reached.0 counted.reached.1))
