use Rattle.std.proofs.Common.{◌≡◌, ◌∙◌, sym, ap}
use Rattle.tv_model.specs.Form.{form_of}
use Rattle.tv_model.specs.Program.{CFree, CTo, change_of}
use Rattle.tv_replay_step.proofs.Copied.{can-on, first-can, first-free, first-skipped}
use Rattle.tv_replay_step.proofs.free.+put_free.Goals as goal

pub copy_values-requires : goal.copy_values-requires
copy_values-requires t c =
    can-on c.args.values.now c.args.t.now c.put_free.new.t c.w-item.result.pred.0
    (first-can c.args.values.now c.args.updates.now c.w-item.result c.args.t.now c.in-len1-up.len_at_least c.w-item.is
    (ap change_of c.in-Free.is) c.requires)
    c.put_free.ensures.shaped

pub returns-in-Free : goal.returns-in-Free
returns-in-Free t c =
    first-free c.args.values.now c.args.updates.now c.w-item.result c.args.t.now c.put_free.new.t c.copy_values.new.t c.in-len1-up.len_at_least
    c.w-item.is (ap change_of c.in-Free.is) c.put_free.ensures c.copy_values.ensures

pub returns-in-To : goal.returns-in-To
returns-in-To t c =
    first-skipped c.args.values.now c.args.updates.now c.w-item.result c.args.t.now c.put_free.new.t c.in-len1-up.len_at_least
    c.w-item.is
    (λ e. let clash : CTo (form_of c.in-To.field-0) ≡ CFree = sym (ap change_of c.in-To.is) ∙ e in cc) c.put_free.ensures
