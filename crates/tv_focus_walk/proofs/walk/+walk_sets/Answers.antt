use Rattle.std.proofs.Common.{◌≡◌, ◌∙◌, ◌<◌, List, [], ◌∷◌, ◌++◌, refl, sym, ap, subst, arith}
use Rattle.std.proofs.Common.{length, get_or}
use Rattle.std.specs.Prelude.{OnOk}
use Rattle.std.specs.List.{between, flat_map}
use Rattle.std.proofs.lemmas.Slice.{first_rest}
use Rattle.tv_structure_form.specs.StructureForm.{StructureForm}
use Rattle.tv_focus_laws.specs.Choices.{ChoiceForm, VectorSet}
use Rattle.tv_focus.specs.Seen.{aim_of}
use Rattle.tv_focus.specs.Puts.{AreChosen, chosen_tables}
use Rattle.tv_focus_step_laws.proofs.Laid.{more-copies}
use Rattle.tv_step_laws.specs.Parts.{AreFrom}
use Rattle.tv_step_laws.specs.Transfer.{Coerces}
use Rattle.tv_focus_walk.specs.Walk.{AddsCoerced, CanWalk, Foretells, IsAbove, IsHand, walk_program}
use Rattle.tv_focus_walk.specs.Walk.{walk_table}
use Rattle.tv_focus_walk.specs.declared.narrow.Outlook.TheVariants.{Nothing, Next}
use Rattle.tv_focus_walk.proofs.Choices.{adds-none, leads-above, nothing-adds, one-more}
use Rattle.tv_focus_walk.proofs.Foretelling.{room, single-leads}
use Rattle.tv_focus_walk.proofs.Ready.{same-ready}
use Rattle.tv_focus_walk.proofs.walk.+walk_sets.Goals as goal

none : {X : Type 0} (xs : List X) → length xs < 1 → xs ≡ []
none [] few = refl
none (x ∷ xs) few = absurd (omega (arith, few))

-- ---- no individual is left

pub walk_sets-push_choice-requires-clause-hand : goal.walk_sets-push_choice-requires-clause-hand
walk_sets-push_choice-requires-clause-hand t c =
    subst (λ begun. IsHand c.args.w.now begun c.args.hand) (sym c.as_slice.ensures.value) c.requires.hand

pub walk_sets-push_choice-requires-clause-places : goal.walk_sets-push_choice-requires-clause-places
walk_sets-push_choice-requires-clause-places t c =
    omega (arith, ap length c.as_slice.ensures.value, c.requires.places, c.in-empty.len_below)

pub walk_sets-push_choice-requires-clause-above : goal.walk_sets-push_choice-requires-clause-above
walk_sets-push_choice-requires-clause-above t c =
    let w = c.args.w.now
    in subst (λ begun. IsAbove w begun c.args.hand.structure.now begun) (sym c.as_slice.ensures.value)
    (subst (AreChosen (IsAbove w c.args.choice.now.items c.args.hand.structure.now) c.args.choice.now.items)
    (none c.args.sets.now c.in-empty.len_below) c.requires.choices)

pub walk_sets-returns-in-empty-clause-out : goal.walk_sets-returns-in-empty-clause-out
walk_sets-returns-in-empty-clause-out t c =
    let w = c.args.w.now
    in subst (λ sets. OnOk c.push_choice.result (AddsCoerced w
    (chosen_tables (walk_table w) c.args.choice.now.items sets) c.args.out.now c.push_choice.new.out))
    (sym (none c.args.sets.now c.in-empty.len_below))
    (subst (λ choice. OnOk c.push_choice.result (AddsCoerced w (walk_table w choice ∷ []) c.args.out.now
    c.push_choice.new.out)) c.as_slice.ensures.value c.push_choice.ensures.out)

pub walk_sets-returns-in-len1-up-clause-out : goal.walk_sets-returns-in-len1-up-clause-out
walk_sets-returns-in-len1-up-clause-out t c =
    let w = c.args.w.now
    in let begun : ChoiceForm = c.args.choice.now.items
    in let rest = between 1 (length c.args.sets.now) c.args.sets.now
    in let whole : c.args.sets.now ≡ get_or c.args.sets.now 0 c.first-item.result ∷ rest
    = first_rest c.args.sets.now c.first-item.result (omega (arith, c.in-len1-up.len_at_least))
    in subst (λ sets. OnOk c.walk_one.result
    (AddsCoerced w (chosen_tables (walk_table w) begun sets) c.args.out.now c.walk_one.new.out)) (sym whole)
    (subst (λ first. OnOk c.walk_one.result
    (AddsCoerced w (flat_map (λ set. chosen_tables (walk_table w) (begun ++ set ∷ []) rest) first) c.args.out.now
    c.walk_one.new.out)) (c.as_slice-in-len1-up.ensures ∙ c.first-item.is) c.walk_one.ensures.out)

-- ---- one set after the other

pub walk_one-returns-in-empty-clause-out : goal.walk_one-returns-in-empty-clause-out
walk_one-returns-in-empty-clause-out t c =
    let w = c.args.w.now
    in let tables : VectorSet → List StructureForm
    = λ set. chosen_tables (walk_table w) (c.args.choice.now.items ++ set ∷ []) c.args.rest.now
    in adds-none w (flat_map tables c.args.first.now) c.args.out.now
    (subst (λ sets. AreFrom (Coerces (walk_program w)) (flat_map tables sets) [])
    (sym (none c.args.first.now c.in-empty.len_below)) refl)

pub walk_one-returns-in_ok-walk_one-in-len1-up-clause-out : goal.walk_one-returns-in_ok-walk_one-in-len1-up-clause-out
walk_one-returns-in_ok-walk_one-in-len1-up-clause-out t c =
    let w = c.args.w.now
    in let begun : ChoiceForm = c.args.choice.now.items
    in let set = get_or c.args.first.now 0 c.set-item.result
    in let later = between 1 (length c.args.first.now) c.args.first.now
    in let whole : c.args.first.now ≡ set ∷ later
    = first_rest c.args.first.now c.set-item.result (omega (arith, c.in-len1-up.len_at_least))
    in subst (λ sets. AddsCoerced w
    (flat_map (λ one. chosen_tables (walk_table w) (begun ++ one ∷ []) c.args.rest.now) sets) c.args.out.now
    c.walk_one.new.out) (sym whole)
    (one-more w begun c.walk_with.new.choice.items c.args.rest.now set later c.args.out.now c.walk_with.new.out
    c.walk_one.new.out c.in_ok-walk_with-in-len1-up.ensures.choice
    (subst (λ one. AddsCoerced w (chosen_tables (walk_table w) (begun ++ one ∷ []) c.args.rest.now) c.args.out.now
    c.walk_with.new.out) (c.as_slice.ensures ∙ c.set-item.is) c.in_ok-walk_with-in-len1-up.ensures.out)
    c.in_ok-walk_one-in-len1-up.ensures.out)

-- ---- what a set foretells

pub walk_with-look_ahead-requires-clause-hand : goal.walk_with-look_ahead-requires-clause-hand
walk_with-look_ahead-requires-clause-hand t c =
    subst (λ begun. IsHand c.args.w.now begun c.args.hand) (sym c.as_slice.ensures.value) c.requires.hand

pub walk_with-look_ahead-requires-clause-place : goal.walk_with-look_ahead-requires-clause-place
walk_with-look_ahead-requires-clause-place t c =
    omega (arith, ap length c.as_slice.ensures.value, c.requires.places)

pub walk_with-look_ahead-requires-clause-some : goal.walk_with-look_ahead-requires-clause-some
walk_with-look_ahead-requires-clause-some t c =
    (room c.args.w.now c.args.choice.now.items c.args.hand.structure.now (aim_of c.args.hand.aim.now) c.args.hand.since
    c.args.set.now c.args.rest.now c.requires.hand.0 c.requires.choices c.requires.some c.requires.places).some

pub walk_with-look_ahead-requires-clause-few : goal.walk_with-look_ahead-requires-clause-few
walk_with-look_ahead-requires-clause-few t c =
    (room c.args.w.now c.args.choice.now.items c.args.hand.structure.now (aim_of c.args.hand.aim.now) c.args.hand.since
    c.args.set.now c.args.rest.now c.requires.hand.0 c.requires.choices c.requires.some c.requires.places).few

pub walk_with-returns-in-Nothing-clause-out : goal.walk_with-returns-in-Nothing-clause-out
walk_with-returns-in-Nothing-clause-out t c =
    let w = c.args.w.now
    in nothing-adds w c.args.choice.now.items c.args.hand.structure.now c.args.set.now c.args.rest.now c.args.out.now
    c.requires.choices
    (subst (λ begun. Foretells w begun c.args.set.now c.args.hand.structure.now Nothing) c.as_slice.ensures.value
    (subst (Foretells w c.as_slice.result.now c.args.set.now c.args.hand.structure.now) c.in-Nothing.is
    c.in_ok-look_ahead.ensures.outlook))

-- ---- the next structure at hand

pub walk_with-overflow_cast-at : goal.walk_with-overflow_cast-at
walk_with-overflow_cast-at t c =
    omega (
      arith,
      (room c.args.w.now c.args.choice.now.items c.args.hand.structure.now (aim_of c.args.hand.aim.now)
          c.args.hand.since c.args.set.now c.args.rest.now c.requires.hand.0 c.requires.choices c.requires.some
          c.requires.places).few,
    )

pub walk_with-overflow_add-at : goal.walk_with-overflow_add-at
walk_with-overflow_add-at t c =
    omega (
      arith,
      c.requires.hand.1,
      c.requires.hand.0.so.size,
      (room c.args.w.now c.args.choice.now.items
          c.args.hand.structure.now (aim_of c.args.hand.aim.now) c.args.hand.since c.args.set.now c.args.rest.now
          c.requires.hand.0 c.requires.choices c.requires.some c.requires.places).few,
    )

pub walk_with-walk_on-requires : goal.walk_with-walk_on-requires
walk_with-walk_on-requires t c =
    let w = c.args.w.now
    in let begun = c.args.choice.now.items
    in let hand = c.args.hand
    in let one : length c.args.set.now ≡ 1
    = subst (Foretells w c.as_slice.result.now c.args.set.now hand.structure.now) c.in-Same.is
    c.in_ok-look_ahead.ensures.outlook
    in (
      omega (arith, c.decreases),
      (
        subst (CanWalk w) (sym c.in_ok-look_ahead.ensures.scratch) c.requires.can,
        (
          (
            same-ready w begun c.args.set.now hand.structure.now (aim_of hand.aim.now) hand.since c.requires.hand.0
                (omega (arith, c.requires.places)) one,
            omega (arith, c.requires.hand.1, more-copies begun c.args.set.now),
          ),
          (
            c.requires.places,
            (
              c.requires.some,
              leads-above w begun hand.structure.now hand.structure.now c.args.set.now c.args.rest.now
                  c.requires.choices
                  (single-leads w c.args.scratch.now begun hand.structure.now c.args.set.now c.requires.can one),
            ),
          ),
        ),
      ),
    )

pub walk_with-walk_on-requires-in-Next : goal.walk_with-walk_on-requires-in-Next
walk_with-walk_on-requires-in-Next t c =
    let w = c.args.w.now
    in let begun = c.args.choice.now.items
    in let hand = c.args.hand
    in let foretells
    = subst (λ sets. Foretells w sets c.args.set.now hand.structure.now (Next c.in-Next.given)) c.as_slice.ensures.value
    (subst (Foretells w c.as_slice.result.now c.args.set.now hand.structure.now) c.in-Next.is
    c.in_ok-look_ahead.ensures.outlook)
    in (
      omega (arith, c.decreases),
      (
        subst (CanWalk w) (sym c.in_ok-look_ahead.ensures.scratch) c.requires.can,
        (
          (foretells.0, omega (arith, c.requires.hand.1, more-copies begun c.args.set.now)),
          (
            c.requires.places,
            (
              c.requires.some,
              leads-above w begun hand.structure.now c.in-Next.given.structure c.args.set.now c.args.rest.now
                  c.requires.choices foretells.1,
            ),
          ),
        ),
      ),
    )
