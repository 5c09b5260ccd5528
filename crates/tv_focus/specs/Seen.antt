-- What contracts see of the code's own types.
use Rattle.tv_model.specs.Form.{vars_of}
use Rattle.tv_focus_laws.specs.FocusAtoms.{AtomForm, AnchorsForm}
use Rattle.tv_focus_laws.specs.Choices.{AimForm, SplitForm, Alone as alone, Before as before}
use Rattle.tv_focus_laws.specs.Choices.{Behind as behind, Nothing as nothing, Whole as whole, Each as each}
use Rattle.tv_focus.specs.declared.atoms.FocusAtom.{FocusAtom}
use Rattle.tv_focus.specs.declared.anchors.Anchors.{Anchors}
use Rattle.tv_focus.specs.declared.aim.Aim.{Aim}
use Rattle.tv_focus.specs.declared.aim.Aim.TheVariants.{Alone, Before, Behind}
use Rattle.tv_focus.specs.declared.aim.Split.{Split}
use Rattle.tv_focus.specs.declared.aim.Split.TheVariants.{Nothing, Whole, Each}

abbrev pub atom_of : FocusAtom → AtomForm
atom_of a = record { pred = a.pred.0; vars = vars_of a.terms }

abbrev pub anchors_form : Anchors → AnchorsForm
anchors_form a = record { var = a.var.0; anchors = a.individuals.items }

abbrev pub aim_of : Aim → AimForm
aim_of Alone = alone
aim_of (Before anchors) = before anchors.items
aim_of (Behind anchors) = behind anchors.items

abbrev pub split_form : Split → SplitForm
split_form Nothing = nothing
split_form Whole = whole
split_form (Each aim) = each (aim_of aim)
