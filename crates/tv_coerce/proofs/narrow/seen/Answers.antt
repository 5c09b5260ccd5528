-- By whether it rests on the variable.
use Rattle.std.proofs.Common.{arith, refl, subst, sym}
use Rattle.tv_kleene.specs.declared.K3.TheVariants.{Yes}
use Rattle.tv_eval_laws.specs.Value.{value}
use Rattle.tv_structure_form.specs.StructureForm.{structure_of}
use Rattle.std.proofs.Common.{◌≢◌}
use Rattle.tv_coerce.specs.Counting.{CountTells, IsBarring}
use Rattle.tv_coerce.proofs.Narrowing.{all-places}
use Rattle.tv_coerce.proofs.narrow.seen.Goals as goal

pub returns-else-rests_on-clause-long : goal.returns-else-rests_on-clause-long
returns-else-rests_on-clause-long c = (all-places Yes c.of.result c.of.ensures).0

pub returns-else-rests_on-clause-tells : goal.returns-else-rests_on-clause-tells
returns-else-rests_on-clause-tells c = λ w b m is e within.
    subst (CountTells (value (structure_of c.args.s.now) b m.form ≢ Yes) (IsBarring c.args.s.now b m))
    (sym ((all-places Yes c.of.result c.of.ensures).1 (b w) (omega (arith, within, c.requires.few.1)))) tt

pub returns-then-rests_on-clause-tells : goal.returns-then-rests_on-clause-tells
returns-then-rests_on-clause-tells c = λ w b m is e within.
    c.read_with.ensures.tells w c.args.v.0 b m is (c.if-rests_on.ensures refl) e within
