-- What coerce and blur answer is what is recorded of a structure.
use Rattle.std.proofs.Common.{◌≡◌, ◌∙◌, List, [], ◌∷◌, Option, None, Some, Result, Ok, Err, sym, ap}
use Rattle.std.proofs.Common.{subst, All}
use Rattle.std.specs.Prelude.{IfOk}
use Rattle.std.specs.List.{AllZip}
use Rattle.std.proofs.lemmas.List.Elements.{All-cons, All-nil}
use Rattle.tv_embedding_laws.specs.LogicalStructure.{LogicalStructure}
use Rattle.tv_focus_laws.specs.Tables.{ShowsOver}
use Rattle.tv_model.specs.declared.program.Program.{Program}
use Rattle.tv_model.specs.Program.{ProgramForm, RuleForm, pred_of, program_of}
use Rattle.tv_model.proofs.Lists.{map-compose}
use Rattle.tv_rules.specs.Closing.{closed_rules}
use Rattle.tv_stable_laws.specs.Stable.{IsGreatestStable, HasNoStable}
use Rattle.tv_structure_form.specs.StructureForm.{StructureForm, IsOver, IsStructure, kept_from, structure_of}
use Rattle.tv_blur.specs.Blur.{IsBlur}
use Rattle.tv_blur.specs.Names.{abstraction_preds}
use Rattle.tv_coerce.specs.Coerced.{IsCoercedTable, CoercesTo}
use Rattle.tv_step_laws.specs.Shaped.{IsShaped, is_telling}
use Rattle.tv_step_laws.specs.Transfer.{IsBlurOf, IsCoerced, IsTableOf}
use Rattle.tv_stages_laws.specs.declared.record.Fate.{Fate}
use Rattle.tv_stages_laws.specs.declared.record.Fate.TheVariants.{Kept}
use Rattle.tv_stages_laws.specs.Stages.{IsFate}
use Rattle.tv_step_laws.proofs.Shapes.{same-arities, shaped-over}

pub coerced-fate : (p : ProgramForm) (rules : List RuleForm) (s : StructureForm)
    (found : Option StructureForm) (t : StructureForm) → rules ≡ closed_rules p → IsShaped p s
    → CoercesTo rules s found → found ≡ Some t → IsCoerced p s t
coerced-fate p rules s found t same shaped to is =
    let table : IsCoercedTable rules s t = subst (CoercesTo rules s) is to
    in record {
      greatest = subst (λ rs. IsGreatestStable rs (structure_of s) (structure_of t)) same table.greatest;
      shaped = record {
        over = table.over ∙ shaped.over;
        planes = table.is.table.planes;
        summaries = table.is.summaries;
      };
      mark = table.mark;
    }

pub dropped-fate : (p : ProgramForm) (rules : List RuleForm) (s : StructureForm)
    (found : Option StructureForm) → rules ≡ closed_rules p
    → CoercesTo rules s found → found ≡ None → HasNoStable (closed_rules p) (structure_of s)
dropped-fate p rules s found same to is =
    subst (λ rs. HasNoStable rs (structure_of s)) same (subst (CoercesTo rules s) is to)

-- the blur of a structure over the program
pub blur-of : (program : Program) (s t : StructureForm) → IsOver program.vocab s
    → IsBlur (abstraction_preds program.vocab) s t → IsStructure t → IsBlurOf (program_of program) s t
blur-of program s t over blur is = (
  record {
    over = blur.1.over ∙ over ∙ sym (same-arities program);
    planes = is.table.planes;
    summaries = is.summaries;
  },
  subst (λ preds. IsBlur preds s t) (sym (ap (kept_from 0) (map-compose pred_of is_telling program.vocab.preds))) blur,
)

table-of : (p : ProgramForm) (s t : StructureForm) (l : LogicalStructure) → IsShaped p s → ShowsOver s t l
    → IsTableOf p t l
table-of p s t l shaped shows = (
  record {
    over = shows.over ∙ shaped.over;
    planes = shows.is.table.planes;
    summaries = shows.is.summaries;
  },
  shows.shows,
)

pub tables-of : (p : ProgramForm) (s : StructureForm) → IsShaped p s
    → (ts : List StructureForm) (ls : List LogicalStructure)
    → AllZip (ShowsOver s) ts ls → AllZip (IsTableOf p) ts ls
tables-of p s shaped [] [] zip = tt
tables-of p s shaped [] (l ∷ ls) zip = absurd zip
tables-of p s shaped (t ∷ ts) [] zip = absurd zip
tables-of p s shaped (t ∷ ts) (l ∷ ls) zip = (table-of p s t l shaped zip.0, tables-of p s shaped ts ls zip.1)

-- tables of a program's structures are over its vocabulary
pub tables-over : (program : Program) (ts : List StructureForm) (ls : List LogicalStructure)
    → AllZip (IsTableOf (program_of program)) ts ls → All (IsOver program.vocab) ts
tables-over program [] [] zip = All-nil (IsOver program.vocab)
tables-over program [] (l ∷ ls) zip = absurd zip
tables-over program (t ∷ ts) [] zip = absurd zip
tables-over program (t ∷ ts) (l ∷ ls) zip =
    All-cons (IsOver program.vocab) t ts (shaped-over program t zip.0.0) (tables-over program ts ls zip.1)

-- of a copy, in the words of what blur answers
pub blurred-of : {E : Type 0} (program : Program) (copy s : StructureForm) (r : Result StructureForm E) → copy ≡ s
    → IsOver program.vocab s → IfOk r (IsBlur (abstraction_preds program.vocab) copy) → IfOk r IsStructure
    → IfOk r (IsBlurOf (program_of program) s)
blurred-of program copy s (Ok t) same over blur is =
    blur-of program s t over (subst (λ u. IsBlur (abstraction_preds program.vocab) u t) same blur) is
blurred-of program copy s (Err e) same over blur is = tt

-- what coerce keeps is over the vocabulary
pub kept-over : (program : Program) (s t : StructureForm) (fate : Fate) → IsFate (program_of program) s fate
    → fate ≡ Kept t → IsOver program.vocab t
kept-over program s t fate is kept =
    let coerced : IsCoerced (program_of program) s t = subst (IsFate (program_of program) s) kept is
    in shaped-over program t coerced.shaped
