-- The steps of structures, one after the other.
use Rattle.std.proofs.Common.{ℕ, ◌≡◌, ◌<◌, ◌≤◌, ◌∙◌, ◌+◌, List, [], ◌∷◌, ◌++◌, append-nil, append_assoc, ap}
use Rattle.std.proofs.Common.{arith}
use Rattle.std.proofs.Common.{get_or, length, refl, subst, sym, take, add-one}
use Rattle.std.specs.List.{AllZip}
use Rattle.std.proofs.lemmas.List.{length-take-le}
use Rattle.std.proofs.Math.Seq.{take-suc}
use Rattle.tv_lemmas.proofs.Zips.{zip_push}
use Rattle.tv_model.specs.Program.{program_of}
use Rattle.tv_model.specs.declared.program.Program.{Program}
use Rattle.tv_stages_laws.specs.Stages.{IsSlowStep}
use Rattle.tv_stages_laws.specs.declared.record.SlowStep.{SlowStep}
use Rattle.tv_stages_text.specs.Texts.{stages_text, step_text}
use Rattle.tv_step.specs.EngineForm.{EngineForm}
use Rattle.tv_structure_form.specs.StructureForm.{StructureForm}
use Rattle.tv_explain.specs.Work.{GoesOnWithSteps}

-- the text of one step more
stages_more : (R : StructureForm → SlowStep → Type 0) (p : Program) (n : ℕ) (ss : List StructureForm)
    (steps : List SlowStep) → AllZip R ss steps → (s : StructureForm) (step : SlowStep) (k : ℕ)
    → k ≡ n + length ss
    → stages_text p n (ss ++ s ∷ []) (steps ++ step ∷ []) ≡ stages_text p n ss steps ++ step_text p k s step
stages_more R p n [] [] zip s step k is =
    append-nil (step_text p n s step) ∙ ap (λ m. step_text p m s step) (omega (arith, is))
stages_more R p n [] (y ∷ ys) zip s step k is = absurd zip
stages_more R p n (x ∷ xs) [] zip s step k is = absurd zip
stages_more R p n (x ∷ xs) (y ∷ ys) zip s step k is =
    ap (λ text. step_text p n x y ++ text) (stages_more R p (n + 1) xs ys zip.1 s step k (omega (arith, is)))
    ∙ sym (append_assoc (step_text p n x y) (stages_text p (n + 1) xs ys) (step_text p k s step))

pub goes_on : (engine : EngineForm) (edge : ℕ) (ss : List StructureForm) (i : ℕ) (s : StructureForm)
    (step : SlowStep) (old mid new : List ℕ) → i < length ss → s ≡ get_or ss i s
    → IsSlowStep (program_of engine.program) engine.mode edge s step
    → new ≡ mid ++ step_text engine.program i s step → GoesOnWithSteps engine edge (take i ss) old mid
    → GoesOnWithSteps engine edge (take (i + 1) ss) old new
goes_on engine edge ss i s step old mid new lt is slow grown (steps, zip, so_far) =
    subst (λ xs. GoesOnWithSteps engine edge xs old new) (sym more) (
      steps ++ step ∷ [],
      zip_push One (take i ss) steps s step zip slow,
      grown ∙ ap (λ t. t ++ step_text engine.program i s step) so_far
          ∙ append_assoc old (stages_text engine.program 0 (take i ss) steps) (step_text engine.program i s step)
          ∙ ap (λ t. old ++ t) (sym (stages_more One engine.program 0 (take i ss) steps zip s step i
          place)),
    )
  where
    One : StructureForm → SlowStep → Type 0
    One = IsSlowStep (program_of engine.program) engine.mode edge

    place : i ≡ 0 + length (take i ss)
    place = omega (arith, length-take-le i ss (omega (arith, lt)))

    more : take (i + 1) ss ≡ take i ss ++ s ∷ []
    more = rw (add-one, take-suc ss i s lt, ← is) refl
