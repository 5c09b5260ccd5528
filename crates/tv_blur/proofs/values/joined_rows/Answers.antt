use Rattle.std.proofs.Common.{◌≡◌, ◌<◌, ◌∙◌, ◌+◌, subst, sym, ap, length, get_or, arith}
use Rattle.tv_struct.specs.StructureRows.{row_at}
use Rattle.tv_struct.proofs.Library.{length-row_at}
use Rattle.tv_blur.proofs.JoinLaws.{behind}
use Rattle.tv_blur.proofs.RowLaws.{joined_start, joined_step, joined_end}
use Rattle.tv_blur.proofs.values.joined_rows.Goals as goal

pub loop-i-init : goal.loop-i-init
loop-i-init c =
    joined_start c.args.s.now c.args.p.0 c.args.members.now c.row-joined.result
    (c.row-joined.ensures ∙ ap (row_at c.args.s.now c.args.p.0) c.first.ensures)

pub row-requires-clause-individual : goal.row-requires-clause-individual
row-requires-clause-individual c =
    let member : get_or c.args.members.now (c.loop-i.i + 1) 0 ≡ get_or c.others-others.result.now c.loop-i.i 0
    = ap (λ us. get_or us (c.loop-i.i + 1) 0) c.others-others.ensures
    ∙ behind (get_or c.args.members.now 0 0) c.others-others.result.now c.loop-i.i
    in subst (λ u. u < c.args.s.now.size) member
    (c.requires.within (c.loop-i.i + 1) 0 (omega (arith, ap length c.others-others.ensures)))

pub join-joined-requires : goal.join-joined-requires
join-joined-requires c =
    c.loop-i.invariant.long
    ∙ sym (ap length c.row.ensures ∙ length-row_at c.args.s.now c.args.p.0 (get_or c.others-others.result.now c.loop-i.i 0))

pub loop-i-preserved : goal.loop-i-preserved
loop-i-preserved c =
    let member : get_or c.args.members.now (c.loop-i.i + 1) 0 ≡ get_or c.others-others.result.now c.loop-i.i 0
    = ap (λ us. get_or us (c.loop-i.i + 1) 0) c.others-others.ensures
    ∙ behind (get_or c.args.members.now 0 0) c.others-others.result.now c.loop-i.i
    in joined_step c.args.s.now c.args.p.0 c.args.members.now (c.loop-i.i + 1) c.loop-i.joined c.row.result c.join-joined.result
    c.loop-i.invariant (c.row.ensures ∙ ap (row_at c.args.s.now c.args.p.0) (sym member)) c.join-joined.ensures

pub returns : goal.returns
returns c = record {
  length = c.loop-i.invariant.long;
  values = joined_end c.args.s.now c.args.p.0 c.args.members.now (c.loop-i.i + 1) c.loop-i.joined c.loop-i.invariant
      (omega (arith, ap length c.others-others.ensures));
}
