-- There is one list of tables that an action gives, and it loses no heap.
use Rattle.std.proofs.Common.{◌≡◌, List, [], ◌∷◌, map, refl, sym, ap, subst, ◌∙◌, All, Contains}
use Rattle.std.specs.List.{AllZip}
use Rattle.std.proofs.lemmas.List.Elements.{All-head, All-tail}
use Rattle.tv_model.specs.declared.program.Mode.{Mode}
use Rattle.tv_model.specs.Program.{ProgramForm, ActionForm}
use Rattle.tv_model.specs.Truth.{Assignment}
use Rattle.tv_model.specs.Valid.{IsValid}
use Rattle.tv_model.proofs.Lists.{Contains-map_back}
use Rattle.tv_embedding_laws.specs.LogicalStructure.{LogicalStructure}
use Rattle.tv_embedding_laws.specs.Embedding.{IsHeapOf}
use Rattle.tv_structure_form.specs.StructureForm.{StructureForm, structure_of}
use Rattle.tv_structure_form.proofs.StructureLaws.{same_structure}
use Rattle.tv_update_laws.specs.Choices.{AreGiven}
use Rattle.tv_update_laws.specs.Tables.{IsGivenOver, SaysSame}
use Rattle.tv_update_laws.proofs.Choices.{update_loses_no_heap}
use Rattle.tv_update_laws.proofs.OneTables.{given_tables_are_one}
use Rattle.tv_update.specs.Update.{IsSole, KeepsSteps}

-- tables over the same predicates that say the same are one
same-tables : (s t u : StructureForm) → SaysSame t u → IsGivenOver s t → IsGivenOver s u → t ≡ u
same-tables s t u same a b =
    same_structure t u a.is b.is same.size (a.over ∙ sym b.over)
    (λ q tuple has. same.values q tuple has.individuals) same.summaries same.fresh

same-lists : (s : StructureForm) (ts us : List StructureForm) → AllZip SaysSame ts us → All (IsGivenOver s) ts
    → All (IsGivenOver s) us → ts ≡ us
same-lists s [] [] zip a b = refl
same-lists s [] (u ∷ us) zip a b = absurd zip
same-lists s (t ∷ ts) [] zip a b = absurd zip
same-lists s (t ∷ ts) (u ∷ us) zip a b =
    ap (λ x. x ∷ ts) (same-tables s t u zip.0 (All-head (IsGivenOver s) t ts a)
    (All-head (IsGivenOver s) u us b))
    ∙ ap (λ xs. u ∷ xs) (same-lists s ts us zip.1 (All-tail (IsGivenOver s) t ts a)
    (All-tail (IsGivenOver s) u us b))

pub is_sole : (p : ProgramForm) → IsValid p → (mode : Mode) (action : ActionForm) → Contains p.actions action
    → (s : StructureForm) (picks : Assignment)
    → All (λ v. Contains (structure_of s).individuals (picks v)) action.picks
    → (ts : List StructureForm) → AreGiven p mode action (structure_of s) picks (map structure_of ts)
    → All (IsGivenOver s) ts → IsSole p mode action s picks ts
is_sole p valid mode action at s picks inside ts given over us other others =
    same-lists s us ts (given_tables_are_one p valid mode action at
    (structure_of s) picks inside us ts other given) others over

pub keeps_steps : (p : ProgramForm) → IsValid p → (mode : Mode) (action : ActionForm)
    → Contains p.actions action → (s : StructureForm) (picks : Assignment) (ts : List StructureForm)
    → AreGiven p mode action (structure_of s) picks (map structure_of ts)
    → KeepsSteps p mode action s picks ts
keeps_steps p valid mode action at s picks ts given new from =
    let found : (t : LogicalStructure) × Contains (map structure_of ts) t × IsHeapOf new t
    = update_loses_no_heap p valid mode action at (structure_of s) picks new from (map structure_of ts) given
    in let back : (t : StructureForm) × Contains ts t × (structure_of t ≡ found.0) =
    Contains-map_back structure_of ts found.0 found.1
    in (back.1.0, back.0, back.1.1, back.1.2, subst (IsHeapOf new) (sym back.2) found.2)
