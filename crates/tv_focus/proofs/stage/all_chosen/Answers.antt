use Rattle.std.proofs.Common.{◌∙◌, ◌++◌, [], ap}
use Rattle.tv_structure_form.specs.StructureForm.{structure_of}
use Rattle.tv_focus_laws.specs.Choices.{sets_in}
use Rattle.tv_focus_laws.specs.Written.{chosen_table}
use Rattle.tv_focus.specs.Puts.{IsChoiceOf, chosen_tables}
use Rattle.tv_focus.specs.Seen.{aim_of}
use Rattle.tv_focus.proofs.ChosenTables.{all_chosen, tables_are}
use Rattle.tv_focus.proofs.Limits.{choice-is}
use Rattle.tv_focus.proofs.stage.all_chosen.Goals as goal

pub choose-requires-clause-choices : goal.choose-requires-clause-choices
choose-requires-clause-choices c =
    rw (c.new-choice.ensures.items, c.as_slice.ensures.value, c.in_ok-sets.ensures)
    (all_chosen (IsChoiceOf c.args.s.now c.args.p.0 (aim_of c.args.aim.now)) []
    (sets_in (structure_of c.args.s.now) c.args.p.0 (aim_of c.args.aim.now))
    (λ tail at. choice-is c.args.s.now c.args.p.0 (aim_of c.args.aim.now) tail c.requires.limits.small at))

pub returns : goal.returns
returns c =
    c.in_ok-choose.ensures.out
    ∙ ap (λ out. out ++ chosen_tables (chosen_table c.args.s.now c.args.p.0 (aim_of c.args.aim.now)) c.new-choice.result.items c.as_slice.result.now) c.new-out.ensures
    ∙ ap (λ begun. chosen_tables (chosen_table c.args.s.now c.args.p.0 (aim_of c.args.aim.now)) begun c.as_slice.result.now) c.new-choice.ensures.items
    ∙ ap (chosen_tables (chosen_table c.args.s.now c.args.p.0 (aim_of c.args.aim.now)) []) (c.as_slice.ensures.value ∙ c.in_ok-sets.ensures)
    ∙ tables_are (chosen_table c.args.s.now c.args.p.0 (aim_of c.args.aim.now)) []
    (sets_in (structure_of c.args.s.now) c.args.p.0 (aim_of c.args.aim.now))
