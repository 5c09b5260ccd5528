use Rattle.std.proofs.Common.{arith}
use Rattle.std.proofs.lemmas.Bool.{false≢true}
use Rattle.std.proofs.lemmas.List.{length-map}
use Rattle.tv_model.specs.Form.{form_of}
use Rattle.tv_model.specs.declared.formula.Var.{Var}
use Rattle.tv_coerce_members.specs.Members.{numbers_of}
use Rattle.tv_coerce_members.specs.declared.readings.Reading.TheVariants.{Other}
use Rattle.tv_coerce_members.proofs.Placing.{waits-less, waits-read}
use Rattle.tv_coerce_members.proofs.members.wait_with.Goals as goal

pub returns-then-free-clause-waits : goal.returns-then-free-clause-waits
returns-then-free-clause-waits c =
    waits-read c.args.v.0 (numbers_of c.args.rest.now) (form_of c.args.f.now) c.args.wait.left c.args.wait.reading c.reading_of.result
    (omega (arith, c.if-wait-rest.false, length-map c.args.rest.now (λ (v : Var). v.0))) c.reading_of.ensures c.requires.waits

pub returns-clause-waits : goal.returns-clause-waits
returns-clause-waits c =
    waits-less c.args.v.0 (numbers_of c.args.rest.now) (form_of c.args.f.now) c.args.wait.left c.args.wait.reading Other
    (omega (arith, c.if-wait-rest.false, length-map c.args.rest.now (λ (v : Var). v.0))) (λ is. false≢true (c.if-free.ensures.1 is))
    c.requires.waits
