-- The first demand that a report doesn't meet.
use Rattle.std.proofs.Common.{ℕ, ◌⊎◌, inl, inr, List, [], ◌∷◌, refl}
use Rattle.tv_model.specs.declared.program.Edge.{Edge}
use Rattle.tv_model.specs.Program.{ProgramForm}
use Rattle.tv_listing.specs.declared.analysis.Item.{Item}
use Rattle.tv_listing.specs.declared.analysis.Item.TheVariants as item
use Rattle.tv_listing.specs.declared.analysis.MapLine.{MapLine}
use Rattle.tv_structure_form.specs.StructureForm.{StructureForm}
use Rattle.tv_struct.specs.declared.analysis.StageError.{StageError}
use Rattle.tv_struct.specs.declared.analysis.StageError.TheVariants.{Splits, Individuals, Memory}
use Rattle.tv_step_laws.specs.Budgets.{KeepsBudgets, MeetsSplits, MeetsIndividuals, IsStepCause}
use Rattle.tv_judge.specs.Items.{IsSource, IsMet}
use Rattle.tv_judge.specs.Judged.{Case, IsThere, Demand, Covering, Stepping, Saying, demand_order}
use Rattle.tv_judge.specs.Judged.{StandsBefore, FailsDemand, FailsFirst, IsRejection, MeetsAny, StopsAt}
use Rattle.tv_judge.specs.Judged.{IsJudgeCause}
use Rattle.tv_judge.specs.Progress.{IsDoneItem, MeetsDemand, IsDoneTo, IsFirstUnsaid, rejection_for}
use Rattle.tv_judge.proofs.Between.{to-step, over-messages}
use Rattle.tv_judge.proofs.Progressing.{done-on}
use Rattle.tv_judge.proofs.Reports.{line-meets}

item-not : (c : Case) (lines : List MapLine) (i : Item) → IsDoneItem c lines i → ¬ FailsDemand c (Covering i)
item-not c lines i done fails =
    let kept = done fails.s fails.targets fails.there
    in fails.unmet (line-meets c.analysis.maps i fails.targets fails.s kept.line kept.is_line)

pub keeps-not : (p : ProgramForm) (edge : ℕ) (s : StructureForm) → KeepsBudgets p edge s
    → MeetsAny p edge s → ⊥
keeps-not p edge s keeps (inl meets) = keeps.splits meets
keeps-not p edge s keeps (inr meets) = keeps.individuals meets

-- a demand that is met doesn't fail
done-not : (c : Case) (lines : List MapLine) (d : Demand) → MeetsDemand c lines d → ¬ FailsDemand c d
done-not c lines (Covering (item.Initial number)) done fails = item-not c lines
    (item.Initial number) done.1 fails
done-not c lines (Covering (item.Result edge structure result)) done fails =
    item-not c lines (item.Result edge structure result) done fails
done-not c lines (Stepping edge structure) done fails =
    keeps-not c.program edge fails.from (done fails.taken fails.from fails.source).budgets fails.budget
done-not c lines (Saying edge structure number) done fails = fails.1 (done fails.0)

pub fails-first : (c : Case) (lines : List MapLine) (d : Demand) → IsDoneTo c (demand_order d) lines → FailsDemand c d
    → FailsFirst c d
fails-first c lines d so-far fails = record {
  fails = fails;
  first = λ other before. done-not c lines other (so-far.done other before);
}

-- an item that isn't met
pub unmet-stops : (c : Case) (lines : List MapLine) (i : Item) (s : StructureForm)
    (targets : List StructureForm)
    → IsThere c i s targets → ¬ IsMet c.analysis.maps i targets s → IsDoneTo c (demand_order (Covering i)) lines
    → IsRejection c (rejection_for i)
unmet-stops c lines (item.Initial number) s targets there unmet so-far =
    fails-first c lines (Covering (item.Initial number)) so-far
    (record { s = s; targets = targets; there = there; unmet = unmet })
unmet-stops c lines (item.Result edge structure result) s targets there unmet so-far =
    fails-first c lines (Covering (item.Result edge structure result)) so-far
    (record { s = s; targets = targets; there = there; unmet = unmet })

-- a step that meets a budget
meets-stops : (c : Case) (lines : List MapLine) (edge structure : ℕ) (taken : Edge) (from : StructureForm)
    (Budget : ProgramForm → ℕ → StructureForm → Type 0)
    → IsSource c.program c.analysis.listing edge taken structure from → Budget c.program edge from
    → (Budget c.program edge from → MeetsAny c.program edge from)
    → IsDoneTo c (1 ∷ edge ∷ structure ∷ []) lines
    → StopsAt c Budget
meets-stops c lines edge structure taken from Budget source meets is-any so-far = record {
  edge = edge;
  structure = structure;
  first = fails-first c lines (Stepping edge structure)
      (done-on c (1 ∷ edge ∷ structure ∷ []) (1 ∷ edge ∷ structure ∷ 0 ∷ []) lines
      (inr (refl, inr (refl, inr (refl, tt)))) (to-step (MeetsDemand c lines) edge structure) so-far)
      (record { taken = taken; from = from; source = source; budget = is-any meets });
  meets = record { taken = taken; from = from; source = source; budget = meets };
}

pub step-stops : (c : Case) (lines : List MapLine) (edge structure : ℕ) (taken : Edge) (from : StructureForm)
    (e : StageError) → IsSource c.program c.analysis.listing edge taken structure from
    → IsStepCause c.program edge from e → IsDoneTo c (1 ∷ edge ∷ structure ∷ []) lines → IsJudgeCause c e
step-stops c lines edge structure taken from Splits source meets so-far =
    meets-stops c lines edge structure taken from MeetsSplits source meets inl so-far
step-stops c lines edge structure taken from Individuals source meets so-far =
    meets-stops c lines edge structure taken from MeetsIndividuals source meets inr so-far
step-stops c lines edge structure taken from Memory source meets so-far = tt

-- a message without a line
pub unsaid-stops : (c : Case) (lines : List MapLine) (edge structure number : ℕ)
    → IsFirstUnsaid c edge structure number
    → IsDoneTo c (1 ∷ edge ∷ structure ∷ 2 ∷ 0 ∷ []) lines → FailsFirst c (Saying edge structure number)
unsaid-stops c lines edge structure number unsaid so-far = record {
  fails = unsaid.fails;
  first = λ other before. by other
      (over-messages (MeetsDemand c lines) edge structure number unsaid.first other before);
}
  where
    by : (other : Demand) → StandsBefore (demand_order other) (1 ∷ edge ∷ structure ∷ 2 ∷ 0 ∷ [])
        ⊎ MeetsDemand c lines other
        → ¬ FailsDemand c other
    by other (inl before) = done-not c lines other (so-far.done other before)
    by other (inr done) = done-not c lines other done
