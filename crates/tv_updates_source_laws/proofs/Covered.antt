-- What covers the runs of a compiled program with updates covers those of its source program.
use Rattle.std.proofs.Common.{ℕ, ◌≡◌, ◌⊎◌, ◌∙◌, List, Some, None, slice_get, inl, inr, sym, ap, subst}
use Rattle.tv_model.specs.declared.program.Mode.{Mode}
use Rattle.tv_model.specs.Program.{ActionForm, MessageForm, ProgramForm}
use Rattle.tv_listing.specs.declared.analysis.MessageLine.{MessageLine}
use Rattle.tv_source.specs.Forms.{SourceForm}
use Rattle.tv_source.specs.Valid.{IsSource}
use Rattle.tv_plang_laws.specs.Compiled.{compiled}
use Rattle.tv_source_laws.specs.Laws.{CoveredRunsCoverSources}
use Rattle.tv_structure_form.specs.StructureForm.{StructureForm}
use Rattle.tv_step_laws.specs.Closed.{CoversRuns}
use Rattle.tv_step_laws.specs.Sound.{IsMessageOf}
use Rattle.tv_step_laws.specs.Transfer.{IsActionOf}
use Rattle.tv_updates_laws.specs.Updated.{all_assigned, updated_program, with_reaches}
use Rattle.tv_updates_laws.proofs.Pairings.{HasPair}
use Rattle.tv_updates_laws.proofs.Runs.{run-there, same-messages}
use Rattle.tv_updates_laws.proofs.Steps.{pair-of}
use Rattle.tv_updates_source_laws.specs.Laws.{CoveredUpdatesCoverSources}

-- a message of an edge of the compiled program is one of the program with updates
message-there : (p : SourceForm) → IsSource p → (edge number : ℕ) (m : MessageForm)
    → IsMessageOf (compiled p) edge number m
    → IsMessageOf (updated_program p) edge number m
message-there p valid edge number m is = by is.0 is.1 is.2 (pair-of p valid is.1.taken.action)
  where
    the-same : (a b : ActionForm) → Some a ≡ Some b → a ≡ b
    the-same a b e = cc e

    by : (action : ActionForm) (of : IsActionOf (compiled p) edge action) → slice_get action.messages number ≡ Some m
        → ((slice_get (compiled p).actions of.taken.action ≡ None) × (slice_get (updated_program p).actions
        of.taken.action ≡ None))
        ⊎ HasPair p (all_assigned p.body) (compiled p).actions of.taken.action
        → IsMessageOf (updated_program p) edge number m
    by action of its_message (inl none) = absurd (cc (sym none.0 ∙ of.its_action))
    by action of its_message (inr pair) =
        let same : action ≡ pair.action = the-same action pair.action (sym of.its_action ∙ pair.before)
        in (
          with_reaches p pair.assign pair.action,
          record { taken = of.taken; its_edge = of.its_edge; its_action = pair.after },
          ap (λ (ms : List MessageForm). slice_get ms number) (same-messages p pair.assign pair.action
              ∙ ap (λ (a : ActionForm). a.messages) (sym same))
              ∙ its_message,
        )

covers-compiled : (p : SourceForm) → IsSource p → (mode : Mode) (initial : List StructureForm)
    (listed : List (List StructureForm))
    (lines : List MessageLine) → CoversRuns (updated_program p) mode initial listed lines
    → CoversRuns (compiled p) mode initial listed lines
covers-compiled p valid mode initial listed lines covers = record {
  heaps = λ start stages run begins. covers.heaps start stages (run-there p valid mode start stages run) begins;
  messages = λ start stages run begins edge taken its_edge number m is.
      covers.messages start stages (run-there p valid mode start stages run) begins edge taken its_edge number m
      (message-there p valid edge number m is);
}

pub covered_updates_cover_sources : CoveredRunsCoverSources → CoveredUpdatesCoverSources
covered_updates_cover_sources law p program mode initial listed lines valid small is covers =
    let Covers : ProgramForm → Type 0 = λ q. CoversRuns q mode initial listed lines
    in law p mode initial listed lines valid small (covers-compiled p valid mode initial listed lines
    (subst Covers is covers))
