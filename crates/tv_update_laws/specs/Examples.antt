-- Updates of small structures, worked out by hand.
use Rattle.std.specs.Prelude.{◌≡◌, true, false, [], ◌∷◌, None, codes}
use Rattle.tv_kleene.specs.declared.K3.TheVariants.{No, Half, Yes}
use Rattle.tv_model.specs.declared.program.Mode.{Mode}
use Rattle.tv_model.specs.Form.{FAtom, FSame, FExists, FIsNew}
use Rattle.tv_model.specs.Program.{ProgramForm, KCore, KDefined, ActionForm, CTo, no_props}
use Rattle.tv_model.specs.Rules.{blank}
use Rattle.tv_embedding_laws.specs.LogicalStructure.{LogicalStructure}
use Rattle.tv_update_laws.specs.Applied.{IsGrown, updated_value, IsNew}
use Rattle.tv_update_laws.specs.Choices.{choices_of}

-- one individual, which may stand for several cells, and of which predicate 0 holds
abbrev pub one_summary : LogicalStructure
one_summary = record { individuals = 0 ∷ []; value = λ q tuple. Yes; is_summary = λ u. true; fresh = None }

-- predicate 0 is core, and predicate 1 says that it holds of something
abbrev pub some_program : ProgramForm
some_program = record {
  preds = record { name = codes "x"; arity = 1; kind = KCore; abs = true; props = no_props }
      ∷ record {
        name = codes "e";
        arity = 0;
        kind = KDefined [] (FExists 0 (FAtom 0 (0 ∷ [])));
        abs = true;
        props = no_props;
      } ∷ [];
  rules = [];
  actions = [];
  edges = [];
  nodes = [];
}

-- adds an individual, of which alone predicate 0 then holds
abbrev pub adding : ActionForm
adding = record {
  pre = None;
  picks = [];
  focus = [];
  messages = [];
  fresh = true;
  retain = None;
  updates = record { pred = 0; vars = 0 ∷ []; change = CTo (FIsNew 0) } ∷ [];
}

-- no individuals, and No everywhere
abbrev pub nothing : LogicalStructure
nothing = record { individuals = []; value = λ q tuple. No; is_summary = λ u. false; fresh = None }

pub record Examples : Type 0 where
  -- dropped before kept, the first individual counting most
  pub choices : choices_of (λ u. Half) (0 ∷ 1 ∷ []) ≡ [] ∷ (1 ∷ []) ∷ (0 ∷ []) ∷ (0 ∷ 1 ∷ []) ∷ []
  -- whether an individual is the one that is picked: unknown on a summary
  pub picked : updated_value one_summary (λ v. 0)
      (record { pred = 1; vars = 1 ∷ []; change = CTo (FSame 1 0) }) (0 ∷ []) ≡ Half
  -- after an individual is added where there was none, something has predicate 0, though nothing had before
  pub added : (mode : Mode) (middle t : LogicalStructure) → IsGrown nothing middle
      → IsNew some_program mode adding blank middle (λ u. true) t → t.value 1 [] ≡ Yes
