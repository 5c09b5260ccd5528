-- Predicates of a list, one by one.
use Rattle.std.proofs.Common.{◌≡◌, ◌<◌, ◌-◌, All, List, get_or, length, take, drop, subst, sym}
use Rattle.std.proofs.lemmas.List.Elements.{All-drop, All-get_or, All-take}
use Rattle.tv_model.specs.Program.{ProgramForm, pred_of, program_of}
use Rattle.tv_model.specs.Valid.{IsPred, IsValid}
use Rattle.tv_model.specs.declared.program.Pred.{Pred}
use Rattle.tv_model.specs.declared.program.Program.{Program}
use Rattle.tv_lemmas.proofs.Lists.{All-mapped}

-- those of a valid program
pub preds_are : (p : Program) (preds : List Pred) → IsValid (program_of p) → preds ≡ p.vocab.preds
    → All (λ d. IsPred (program_of p) (pred_of d)) preds
preds_are p preds valid same =
    subst (All (λ d. IsPred (program_of p) (pred_of d))) (sym same)
    (All-mapped (IsPred (program_of p)) pred_of p.vocab.preds valid.preds)

-- the first one
pub first_is : (p : ProgramForm) (preds : List Pred) (d : Pred) → 0 < length preds → d ≡ get_or preds 0 d
    → All (λ d. IsPred p (pred_of d)) preds → IsPred p (pred_of d)
first_is p preds d some is all =
    subst (λ e. IsPred p (pred_of e)) (sym is) (All-get_or (λ d. IsPred p (pred_of d)) preds 0 d some all)

-- the others
pub others_are : (p : ProgramForm) (preds : List Pred) → All (λ d. IsPred p (pred_of d)) preds
    → All (λ d. IsPred p (pred_of d)) (take (length preds - 1) (drop 1 preds))
others_are p preds all =
    All-take (λ d. IsPred p (pred_of d)) (length preds - 1) (drop 1 preds) (All-drop (λ d. IsPred p (pred_of d)) 1 preds all)
