use Rattle.std.proofs.Common.{◌≡◌, ◌∙◌, ◌≤◌, [], ap, sym, subst, length, arith, All}
use Rattle.std.specs.Prelude.{OnOk}
use Rattle.tv_structure_form.specs.StructureForm.{structure_of}
use Rattle.tv_focus_laws.specs.Choices.{sets_in}
use Rattle.tv_focus.specs.Focused.{tables_in}
use Rattle.tv_focus.specs.Puts.{AreChosen, chosen_tables}
use Rattle.tv_focus.proofs.ChosenTables.{tables_are}
use Rattle.tv_focus_step_laws.specs.Above.{copies_so_far}
use Rattle.tv_focus_walk.specs.Walk.{AddsCoerced, IsAbove, IsReady, walk_aim, walk_pred, walk_table}
use Rattle.tv_focus_walk.proofs.Beginning.{all-above, begins-ready, sets-counted, sets-some}
use Rattle.tv_focus_walk.proofs.walk.walk_choices.Goals as goal

pub walk_sets-requires-clause-hand : goal.walk_sets-requires-clause-hand
walk_sets-requires-clause-hand c =
    let w = c.args.w.now
    in (
      subst (λ begun. IsReady w begun w.from.now (walk_aim w) c.nothing.result) (sym c.new-choice.ensures.items)
          (begins-ready w c.args.scratch.now c.nothing.result c.size.ensures.kept c.requires.can),
      sym (ap copies_so_far c.new-choice.ensures.items),
    )

pub walk_sets-requires-clause-places : goal.walk_sets-requires-clause-places
walk_sets-requires-clause-places c =
    omega (
      arith,
      ap length c.new-choice.ensures.items,
      ap length c.as_slice.ensures.value,
      sets-counted c.args.w.now c.args.scratch.now c.requires.can,
    )

pub walk_sets-requires-clause-some : goal.walk_sets-requires-clause-some
walk_sets-requires-clause-some c =
    subst (λ sets. All (λ those. 1 ≤ length those) sets) (sym c.as_slice.ensures.value)
    (sets-some c.args.w.now c.args.scratch.now c.requires.can)

pub walk_sets-requires-clause-choices : goal.walk_sets-requires-clause-choices
walk_sets-requires-clause-choices c =
    let w = c.args.w.now
    in subst (λ begun. AreChosen (IsAbove w begun w.from.now) begun c.as_slice.result.now) (sym c.new-choice.ensures.items)
    (subst (AreChosen (IsAbove w [] w.from.now) []) (sym c.as_slice.ensures.value)
    (all-above w c.args.scratch.now c.requires.can c.structures_lead.ensures))

pub returns-clause-out : goal.returns-clause-out
returns-clause-out c =
    let w = c.args.w.now
    in let sets = sets_in (structure_of w.from.now) (walk_pred w) (walk_aim w)
    in let same : chosen_tables (walk_table w) c.new-choice.result.items c.as_slice.result.now
    ≡ tables_in w.from.now w.choosing.now
    = ap (λ begun. chosen_tables (walk_table w) begun c.as_slice.result.now) c.new-choice.ensures.items
    ∙ ap (chosen_tables (walk_table w) []) (c.as_slice.ensures.value ∙ c.requires.can.choosing.sets)
    ∙ tables_are (walk_table w) [] sets
    in subst (λ ts. OnOk c.walk_sets.result (AddsCoerced w ts c.args.out.now c.walk_sets.new.out)) same
    c.walk_sets.ensures.out
