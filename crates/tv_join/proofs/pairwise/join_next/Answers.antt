use Rattle.std.proofs.Common.{◌∙◌, ap, refl, sym}
use Rattle.tv_kleene.specs.Kleene.{join_of}
use Rattle.tv_kleene.proofs.Lattice.{join-same}
use Rattle.tv_structure_form.specs.StructureForm.{value_at}
use Rattle.tv_join.proofs.pairwise.join_next.Goals as goal

pub returns-then-counted-p-clause-changes : goal.returns-then-counted-p-clause-changes
returns-then-counted-p-clause-changes c = record {
  size = refl;
  over = refl;
  summaries = refl;
  fresh = refl;
  others = λ q tuple differ. refl;
}

pub returns-then-counted-p-clause-values : goal.returns-then-counted-p-clause-values
returns-then-counted-p-clause-values c tuple has =
    let k = value_at c.args.s.now c.args.p tuple
    in sym (ap (join_of k) (sym (c.requires.same c.if-counted-p.true tuple)) ∙ join-same k)
