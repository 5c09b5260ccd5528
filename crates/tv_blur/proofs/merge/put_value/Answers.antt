use Rattle.std.proofs.Common.{◌∙◌, ap, sym}
use Rattle.std.specs.Prelude.{slice_get}
use Rattle.tv_blur.proofs.FillLaws.{none_merged, value_changes, value_merged, unchanged}
use Rattle.tv_blur.proofs.merge.put_value.Goals as goal

pub returns-in-No-clause-changes : goal.returns-in-No-clause-changes
returns-in-No-clause-changes c = unchanged c.args.p.0 c.args.t.now

pub returns-in-No-clause-values : goal.returns-in-No-clause-values
returns-in-No-clause-values c =
    none_merged c.args.classes.now c.args.s.now c.args.t.now c.args.p.0
    (ap (λ x. slice_get x c.args.p.0) c.requires.over ∙ c.requires.arity) c.requires.blank
    (sym c.get.ensures ∙ c.in-No.is)

pub returns-in_default-clause-changes : goal.returns-in_default-clause-changes
returns-in_default-clause-changes c =
    value_changes c.args.t.now c.args.p.0 c.get.result c.set.new.self c.size.ensures.kept
    (ap (λ x. slice_get x c.args.p.0) c.requires.over ∙ c.requires.arity) c.set.ensures.value

pub returns-in_default-clause-values : goal.returns-in_default-clause-values
returns-in_default-clause-values c =
    value_merged c.args.classes.now c.args.s.now c.args.t.now c.args.p.0 c.get.result c.set.new.self c.size.ensures.kept
    (ap (λ x. slice_get x c.args.p.0) c.requires.over ∙ c.requires.arity) c.set.ensures.value c.get.ensures
