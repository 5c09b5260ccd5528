-- What heaps are judged by.
use Rattle.std.specs.Prelude.{◌≡◌, map}
use Rattle.tv_eval.specs.ScratchForm.{ScratchForm, IsMadeFor}
use Rattle.tv_model.specs.Program.{program_of, pred_of, rule_of}
use Rattle.tv_model.specs.Valid.{IsValid}
use Rattle.tv_replay_laws.specs.JudgedRules.{rules_of_properties}
use Rattle.tv_rules.specs.Closing.{closed_rules}
use Rattle.tv_rules.specs.EntryForms.{rules_of}
use Rattle.tv_heaps.specs.declared.rulebook.Rulebook.{Rulebook}

-- the program is valid, the rules are its closed ones and those of its properties, and there is room to
-- evaluate its formulas
pub record IsReadyBook (book : Rulebook) (scratch : ScratchForm) : Type 0 where
  pub valid : IsValid (program_of book.program.now)
  pub closed : rules_of book.closed.now ≡ closed_rules (program_of book.program.now)
  pub properties : map rule_of book.properties.now
      ≡ rules_of_properties 0 (map pred_of book.program.now.vocab.preds)
  pub room : IsMadeFor (program_of book.program.now) 256 scratch
