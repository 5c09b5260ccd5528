use Rattle.std.proofs.Common.{ℕ, ◌≤◌, ◌<◌, ◌∙◌, ◌+◌, ap, sym, subst, arith}
use Rattle.tv_structure_form.specs.StructureForm.{structure_of, summary_at}
use Rattle.tv_focus_laws.specs.Counts.{vector_count, halves_at}
use Rattle.tv_focus.specs.Seen.{aim_of}
use Rattle.tv_focus.proofs.Few.{few_halves}
use Rattle.tv_focus.proofs.Folds.{sum_range_more}
use Rattle.tv_focus.proofs.count.largest_size.Goals as goal

pub vector_count-total-requires : goal.vector_count-total-requires
vector_count-total-requires c on =
    let below : c.loop-u.u < c.args.s.now.size = omega arith
    in let AtMost : ℕ → Type 0 = λ n. n ≤ 3
    in subst AtMost (sym c.halves_at.ensures)
    (few_halves c.args.s.now c.args.p.0 (aim_of c.args.aim.now) c.requires.few c.loop-u.u below (sym c.summary.ensures ∙ on))

pub loop-u-preserved : goal.loop-u-preserved
loop-u-preserved c =
    let f : ℕ → ℕ = λ u. vector_count (summary_at c.args.s.now u) (halves_at (structure_of c.args.s.now) c.args.p.0 (aim_of c.args.aim.now) u)
    in record {
      most = omega (arith, c.loop-u.invariant.most, c.vector_count-total.ensures.most);
      is = ap (λ n. n + c.vector_count-total.result) c.loop-u.invariant.is
          ∙ rw (c.vector_count-total.ensures.value, c.summary.ensures, c.halves_at.ensures) (sym (sum_range_more f c.loop-u.u));
    }
