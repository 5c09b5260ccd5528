-- A lost case, worked out by hand.
use Rattle.std.specs.Prelude.{true, [], ◌∷◌, None, codes}
use Rattle.tv_model.specs.declared.program.Mode.TheVariants.{Given}
use Rattle.tv_model.specs.Form.{FOne, FExists}
use Rattle.tv_model.specs.Program.{ProgramForm, HNever, ActionForm}
use Rattle.tv_model.specs.Valid.{IsValid}
use Rattle.tv_structure_form.specs.StructureForm.{StructureForm}
use Rattle.tv_losses_laws.specs.Cases.{CaseForm, IsLostCase}

-- adds an individual
abbrev pub adding_one : ActionForm
adding_one = record {
  pre = None;
  picks = [];
  focus = [];
  messages = [];
  fresh = true;
  retain = None;
  updates = [];
}

-- no predicates; a rule says that there is no individual, and the edge adds one
abbrev pub none_allowed : ProgramForm
none_allowed = record {
  preds = [];
  rules = record { body = FExists 0 FOne; head = HNever } ∷ [];
  actions = adding_one ∷ [];
  edges = record { from = 0; action = 0; to = 0 } ∷ [];
  nodes = codes "L" ∷ [];
}

-- no individuals
abbrev pub no_individuals : StructureForm
no_individuals = record { size = 0; summaries = []; planes = []; fresh = None }

-- no_individuals is picked of it
abbrev pub only_case : CaseForm
only_case = record { at_hand = no_individuals; picked = [] }

pub record Example : Type 0 where
  pub valid : IsValid none_allowed
  pub lost : IsLostCase none_allowed Given 0 no_individuals only_case
