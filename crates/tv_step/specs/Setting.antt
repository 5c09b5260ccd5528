-- What a step goes by.
use Rattle.std.specs.Prelude.{◌≡◌}
use Rattle.tv_model.specs.Program.{ProgramForm, program_of}
use Rattle.tv_model.specs.Valid.{IsValid}
use Rattle.tv_rules.specs.Closing.{closed_rules}
use Rattle.tv_rules.specs.EntryForms.{rules_of}
use Rattle.tv_stable_laws.specs.Stable.{IsStable}
use Rattle.tv_structure_form.specs.StructureForm.{StructureForm, structure_of}
use Rattle.tv_eval.specs.ScratchForm.{ScratchForm, IsMadeFor}
use Rattle.tv_step.specs.declared.setting.Setting.{Setting}

-- the program of a setting
abbrev pub form_in : Setting → ProgramForm
form_in x = program_of x.program.now

-- the program is valid, the rules are its closed ones, and the scratch was made for it
pub record IsReadyToStep (x : Setting) (scratch : ScratchForm) : Type 0 where
  pub valid : IsValid (form_in x)
  pub rules : rules_of x.closed.now ≡ closed_rules (form_in x)
  pub room : IsMadeFor (form_in x) 256 scratch

-- the structure is stable under the program's closed rules
abbrev pub IsStableIn : ProgramForm → StructureForm → Type 0
IsStableIn p s = IsStable (closed_rules p) (structure_of s)
