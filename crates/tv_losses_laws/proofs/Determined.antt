-- What an update gives of a case is determined.
use Rattle.std.specs.List.{AllZip}
use Rattle.std.proofs.Common.{ℕ, ◌≡◌, ◌∙◌, List, [], ◌∷◌, length, refl, sym, ap, subst, All, Contains}
use Rattle.std.proofs.lemmas.List.Elements.{All-head, All-tail}
use Rattle.tv_model.specs.declared.program.Mode.{Mode}
use Rattle.tv_model.specs.Program.{ProgramForm, ActionForm}
use Rattle.tv_model.specs.Valid.{IsValid}
use Rattle.tv_structure_form.specs.StructureForm.{StructureForm, structure_of}
use Rattle.tv_structure_form.proofs.StructureLaws.{IsFull, same_full}
use Rattle.tv_update_laws.specs.Picks.{lists_of, picks_of}
use Rattle.tv_update_laws.specs.Tables.{SaysSame}
use Rattle.tv_update_laws.proofs.OneTables.{given_tables_are_one}
use Rattle.tv_step_laws.specs.Shaped.{IsShaped}
use Rattle.tv_step_laws.specs.Transfer.{GivesStructures, HasNoOpening}
use Rattle.tv_step_laws.proofs.Picked.{lists-inside, picked-inside}
use Rattle.tv_losses_laws.specs.Cases.{CaseForm, IsSureCase}
use Rattle.tv_losses_laws.specs.Laws.{DroppedCasesAreDetermined}

full : (p : ProgramForm) (s : StructureForm) → IsShaped p s → IsFull s
full p s shaped = record { planes = shaped.planes; summaries = shaped.summaries }

same-tables : (p : ProgramForm) (t u : StructureForm) → IsShaped p t → IsShaped p u → SaysSame t u → t ≡ u
same-tables p t u is_t is_u same =
    same_full t u (full p t is_t) (full p u is_u) same.size (is_t.over ∙ sym is_u.over)
    (λ pred tuple has. same.values pred tuple has.individuals) same.summaries same.fresh

same-lists : (p : ProgramForm) (ts us : List StructureForm) → All (IsShaped p) ts → All (IsShaped p) us
    → AllZip SaysSame ts us → ts ≡ us
same-lists p [] [] a b zip = refl
same-lists p [] (u ∷ us) a b zip = absurd zip
same-lists p (t ∷ ts) [] a b zip = absurd zip
same-lists p (t ∷ ts) (u ∷ us) a b zip =
    let first : t ≡ u = same-tables p t u (All-head (IsShaped p) t ts a) (All-head (IsShaped p) u us b) zip.0
    in let rest : ts ≡ us = same-lists p ts us (All-tail (IsShaped p) t ts a)
    (All-tail (IsShaped p) u us b) zip.1
    in ap (λ (x : StructureForm). x ∷ ts) first ∙ ap (λ (xs : List StructureForm). u ∷ xs) rest

-- what an update gives under individuals of the structure is one
pub given-once : (p : ProgramForm) → IsValid p → (mode : Mode) (action : ActionForm) → Contains p.actions action
    → (s : StructureForm) (picked : List ℕ)
    → Contains (lists_of (structure_of s).individuals (length action.picks)) picked
    → (ts us : List StructureForm) → GivesStructures p mode action s picked ts
    → GivesStructures p mode action s picked us → ts ≡ us
given-once p valid mode action has s picked listed ts us a b =
    same-lists p ts us a.1 b.1
    (given_tables_are_one p valid mode action has (structure_of s) (picks_of action picked)
    (picked-inside action (structure_of s) picked
    (lists-inside (structure_of s).individuals (length action.picks) picked listed)) ts us a.0 b.0)

pub dropped-determined : DroppedCasesAreDetermined
dropped-determined p valid mode action has s c is lost given are =
    subst (All (HasNoOpening p))
    (given-once p valid mode action has c.at_hand c.picked is.listed lost.given given lost.are_given are)
    lost.none
