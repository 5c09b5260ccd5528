use Rattle.std.proofs.Common.{arith}
use Rattle.tv_test_values.proofs.Settings.{first_setting}
use Rattle.tv_test_values.proofs.values.setting.setting_of.Goals as goal

pub returns-in-Two-To : goal.returns-in-Two-To
returns-in-Two-To c =
    first_setting c.args.program.now c.as_slice-actions.result.now c.as_slice-updates.result.now c.index-actions-0.result c.index-updates-0.result
    c.in-Two-To.v c.in-Two-To.w c.in-Two-To.formula c.made_scratches_fit.ensures.heights c.requires c.as_slice-actions.ensures
    (omega (arith, c.if-actions-eq0.false)) c.index-actions-0.is (omega (arith, c.if-len-gt0.false, c.len.ensures)) c.as_slice-updates.ensures
    (omega (arith, c.if-updates-eq0.false)) c.index-updates-0.is c.in-Two-To.is-0 c.in-Two-To.is-1
