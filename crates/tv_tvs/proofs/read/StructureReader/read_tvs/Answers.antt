use Rattle.std.proofs.Common.{subst, List, Ok}
use Rattle.std.specs.Prelude.{IfOk, IfErr}
use Rattle.tv_lex.specs.Token.{spec_tokens}
use Rattle.tv_structure_form.specs.StructureForm.{StructureForm}
use Rattle.tv_lex.specs.Places.{StopsAtToken}
use Rattle.tv_tvs.specs.Meaning.{structures_place, Answers, IsStructuresCause, MeansStructs, structs_meant}
use Rattle.tv_tvs.specs.Views.{struct_trees}
use Rattle.tv_tvs.proofs.Answering.{no_text, text_answered, text_fault}
use Rattle.tv_tvs.proofs.Stops.{answer_stops, read_over, read_kept}
use Rattle.tv_tvs.proofs.read.StructureReader.read_tvs.Goals as goal

pub returns-in-Err-clause-fault : goal.returns-in-Err-clause-fault
returns-in-Err-clause-fault c =
    subst (λ ts. IsStructuresCause c.args.self.now (spec_tokens c.args.bytes.now ts) c.refusal.result) c.as_slice.ensures.value
    (no_text c.args.self.now (spec_tokens c.args.bytes.now c.as_slice.result.now) c.in-Err.fault c.refusal.result c.refusal.ensures.refused c.in-Err.ensures)

pub returns-in-Err-clause-place : goal.returns-in-Err-clause-place
returns-in-Err-clause-place c =
    subst (λ ts. StopsAtToken structures_place c.args.bytes.now ts c.refusal.result) c.as_slice-in-Err.ensures.value c.refusal.ensures.place

pub returns-in-Ok-clause-meant : goal.returns-in-Ok-clause-meant
returns-in-Ok-clause-meant c =
    let told : Answers (λ (ss : List StructureForm). ss) c.structures-in-Ok.result (structs_meant c.self.inside.vocab.now.preds (struct_trees c.args.bytes.now c.in-Ok.trees.items))
    = subst (λ ts. Answers (λ (ss : List StructureForm). ss) c.structures-in-Ok.result (structs_meant c.self.inside.vocab.now.preds (struct_trees c.args.bytes.now ts)))
    c.as_slice-in-Ok.ensures.value c.structures-in-Ok.ensures.meant
    in subst (λ ts. IfOk c.structures-in-Ok.result (λ ss. MeansStructs c.args.self.now (spec_tokens c.args.bytes.now ts) (Ok ss))) c.as_slice.ensures.value
    (text_answered c.args.self.now (spec_tokens c.args.bytes.now c.as_slice.result.now) (struct_trees c.args.bytes.now c.in-Ok.trees.items) c.structures-in-Ok.result c.in-Ok.ensures
    (subst (λ v. Answers (λ (ss : List StructureForm). ss) c.structures-in-Ok.result (structs_meant v.preds (struct_trees c.args.bytes.now c.in-Ok.trees.items))) c.self.view_is told))

pub returns-in-Ok-clause-fault : goal.returns-in-Ok-clause-fault
returns-in-Ok-clause-fault c =
    let told : Answers (λ (ss : List StructureForm). ss) c.structures-in-Ok.result (structs_meant c.self.inside.vocab.now.preds (struct_trees c.args.bytes.now c.in-Ok.trees.items))
    = subst (λ ts. Answers (λ (ss : List StructureForm). ss) c.structures-in-Ok.result (structs_meant c.self.inside.vocab.now.preds (struct_trees c.args.bytes.now ts)))
    c.as_slice-in-Ok.ensures.value c.structures-in-Ok.ensures.meant
    in subst (λ ts. IfErr c.structures-in-Ok.result (IsStructuresCause c.args.self.now (spec_tokens c.args.bytes.now ts))) c.as_slice.ensures.value
    (text_fault c.args.self.now (spec_tokens c.args.bytes.now c.as_slice.result.now) (struct_trees c.args.bytes.now c.in-Ok.trees.items) c.structures-in-Ok.result c.in-Ok.ensures
    (subst (λ v. Answers (λ (ss : List StructureForm). ss) c.structures-in-Ok.result (structs_meant v.preds (struct_trees c.args.bytes.now c.in-Ok.trees.items))) c.self.view_is told))

pub returns-in-Ok-clause-over : goal.returns-in-Ok-clause-over
returns-in-Ok-clause-over c = read_over c.args.self.now c.self.inside.vocab.now c.self.view_is c.structures-in-Ok.result c.structures-in-Ok.ensures.over

pub returns-in-Ok-clause-kept : goal.returns-in-Ok-clause-kept
returns-in-Ok-clause-kept c = read_kept c.self.inside.vocab.now c.structures-in-Ok.result c.structures-in-Ok.ensures.over

pub returns-in-Ok-clause-place : goal.returns-in-Ok-clause-place
returns-in-Ok-clause-place c =
    answer_stops (λ (ss : List StructureForm). ss) c.args.bytes.now c.args.tokens.now.list.items c.structures-in-Ok.result _ c.structures-in-Ok.ensures.meant
