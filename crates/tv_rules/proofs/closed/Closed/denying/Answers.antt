-- The rules of the list are all that came of the base rule.
use Rattle.std.proofs.Common.{◌≡◌, ◌∙◌, arith, get_or}
use Rattle.std.proofs.lemmas.List.{get_or_default}
use Rattle.std.proofs.lemmas.Option.{slice_get-get_or}
use Rattle.tv_rules.specs.Kin.{skip_of}
use Rattle.tv_rules.proofs.KinLaws.{none-there, one-more}
use Rattle.tv_rules.proofs.closed.Closed.denying.Goals as goal

pub skip-requires : goal.skip-requires
skip-requires c =
    let ns = c.kin-n-items.result.now
    in let k = c.loop-n.n-index
    in ((c.kin-n-items.ensures (get_or ns k 0)).0 (k, c.loop-n-test.true, get_or_default ns k (get_or ns k 0) 0 c.loop-n-test.true)).within

pub loop-n-preserved : goal.loop-n-preserved
loop-n-preserved c =
    one-more c.kin-n-items.result.now (λ n. skip_of c.args.self.now n ≡ c.args.member) c.loop-n.n-index _
    (slice_get-get_or c.kin-n-items.result.now c.loop-n.n-index _ c.loop-n-test.true)
    (λ same. c.if-skip-member.false (c.skip.ensures ∙ same)) c.loop-n.invariant

pub returns : goal.returns
returns c = λ n kin.
    none-there c.kin-n-items.result.now (λ n. skip_of c.args.self.now n ≡ c.args.member) c.loop-n.n-index
    (omega (arith, c.loop-n-test.false, c.loop-n.auto.n-index-end)) c.loop-n.invariant n ((c.kin-n-items.ensures n).1 kin)
