use Rattle.std.proofs.Common.{arith, subst}
use Rattle.tv_kleene.specs.declared.K3.{K3}
use Rattle.tv_structure_form.specs.StructureForm.{summary_at}
use Rattle.tv_struct.specs.StructureRows.{flag_value}
use Rattle.tv_cover.specs.Glance.{value_near}
use Rattle.tv_cover.proofs.GlanceLaws.{IsProfileTo, profile-first, profile-more, profile-all, absent-near}
use Rattle.tv_cover.proofs.glance.profile_near.Goals as goal

pub loop-p-init : goal.loop-p-init
loop-p-init c =
    subst (λ (k : K3). IsProfileTo k (value_near c.args.s.now c.args.u) 1 c.put.new.self) c.summary_value.ensures
    (profile-first c.summary_value.result (value_near c.args.s.now c.args.u) c.of_no-profile.result c.put.new.self
    c.of_no-profile.ensures c.put.ensures)

pub loop-p-preserved : goal.loop-p-preserved
loop-p-preserved c =
    profile-more (flag_value (summary_at c.args.s.now c.args.u)) (value_near c.args.s.now c.args.u) c.loop-p.p
    c.loop-p.profile c.put-in-loop-p.new.self c.value_near.result c.loop-p.invariant
    (omega (arith, c.loop-p-test.true, c.min-p-end.ensures)) c.put-in-loop-p.ensures c.value_near.ensures

pub returns : goal.returns
returns c =
    profile-all (flag_value (summary_at c.args.s.now c.args.u)) (value_near c.args.s.now c.args.u) c.loop-p.p
    c.loop-p.profile c.loop-p.invariant
    (λ pred past lt.
    absent-near c.args.s.now c.args.u pred
    (omega (arith, c.loop-p-test.false, c.min-p-end.ensures, c.pred_count.ensures, past, lt)))
