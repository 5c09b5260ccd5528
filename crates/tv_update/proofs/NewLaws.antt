-- The structures of all choices.
use Rattle.std.proofs.Common.{ℕ, ◌≡◌, ◌<◌, ◌+◌, Bool, List, [], ◌∷◌, ◌++◌, get_or, take, length, sym, subst}
use Rattle.std.proofs.lemmas.List.{take_more}
use Rattle.tv_lemmas.proofs.Zips.{zip_push}
use Rattle.tv_model.specs.Program.{ProgramForm}
use Rattle.tv_structure_form.specs.StructureForm.{StructureForm}
use Rattle.tv_update.specs.New.{IsFinished, AreFinished}

pub finished_more : (p : ProgramForm) (order : List ℕ) (updated : StructureForm) (choices : List (List Bool))
    (i : ℕ) (flags : List Bool)
    (ts us : List StructureForm) (t : StructureForm) → i < length choices → flags ≡ get_or choices i flags
    → AreFinished p order updated (take i choices) ts → IsFinished p order updated flags t → us ≡ ts ++ t ∷ []
    → AreFinished p order updated (take (i + 1) choices) us
finished_more p order updated choices i flags ts us t lt at so_far one pushed =
    subst (λ cs. AreFinished p order updated cs us) (sym (take_more choices i flags lt))
    (subst (λ xs. AreFinished p order updated (take i choices ++ get_or choices i flags ∷ []) xs) (sym pushed)
    (subst (λ f. AreFinished p order updated (take i choices ++ f ∷ []) (ts ++ t ∷ [])) at
    (zip_push (IsFinished p order updated) (take i choices) ts flags t so_far one)))
