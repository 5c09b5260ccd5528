use Rattle.std.proofs.Common.{arith}
use Rattle.std.proofs.lemmas.Bool.{false≢true}
use Rattle.tv_model.specs.Form.{form_of, IsFree}
use Rattle.tv_replay_judge.proofs.Walked.{settled-all, settled-more}
use Rattle.tv_replay_judge.proofs.trial.is_settled.Goals as goal

pub loop-v-preserved : goal.loop-v-preserved
loop-v-preserved c =
    settled-more (λ w. IsFree w (form_of c.args.f.now)) c.args.rest.now c.loop-v.v-index _ (omega (arith, c.loop-v-test.true))
    c.loop-v.invariant (λ free. false≢true (c.if-free.ensures.1 free))

pub returns : goal.returns
returns c yes_ =
    settled-all (λ w. IsFree w (form_of c.args.f.now)) c.args.rest.now c.loop-v.v-index (omega (arith, c.loop-v-test.false))
    c.loop-v.invariant
