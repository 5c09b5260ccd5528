use Rattle.std.proofs.Common.{◌==◌, if◌then◌else◌}
use Rattle.tv_kleene.specs.declared.K3.TheVariants.{No}
use Rattle.tv_structure_form.specs.StructureForm.{structure_of}
use Rattle.tv_eval_laws.specs.Value.{same_value}
use Rattle.tv_eval.proofs.AlongWords.{same-word, same_at}
use Rattle.tv_eval.proofs.leaf_words.same_as.Goals as goal

pub returns : goal.returns
returns c =
    same-word c.args.s.now.size c.args.chunk (λ w. if w == c.args.u then c.same.result else No)
    (λ w. same_value (structure_of c.args.s.now) w c.args.u) c.alone_at.result
    (c.alone_at.ensures c.args.s.now.size)
    (λ w lt. same_at (structure_of c.args.s.now) c.args.u w c.same.result c.same.ensures)
