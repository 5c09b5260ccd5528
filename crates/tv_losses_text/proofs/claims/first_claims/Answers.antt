use Rattle.std.proofs.Common.{◌<◌, arith, length, subst}
use Rattle.tv_losses_unmet.specs.Unmet.{IsFound}
use Rattle.tv_lemmas.proofs.Lists.{All-found}
use Rattle.tv_model.specs.Program.{program_of}
use Rattle.tv_losses_text.specs.Reports.{IsFoundOf}
use Rattle.tv_losses_text.proofs.Claimed.{found-of, zip-all, zip-push}
use Rattle.tv_losses_text.proofs.claims.first_claims.Goals as goal

pub structure_at-s-requires : goal.structure_at-s-requires
structure_at-s-requires c =
    All-found (λ number. number < length c.args.structures.now) c.args.numbers.now c.loop-place.place
    c.number_at-number.result c.requires.within c.number_at-number.ensures

pub loop-place-preserved : goal.loop-place-preserved
loop-place-preserved c = record {
  found = zip-push (IsFoundOf (program_of c.args.declared.now) c.args.structures.now) c.args.numbers.now
      c.loop-place.claims.items c.push.new.self.items c.loop-place.place c.number_at-number.result
      c.in_ok-claim.claim (omega (arith, c.loop-place-test.true, c.loop-place.auto.place-end))
      c.number_at-number.ensures c.loop-place.invariant.found
      (found-of (program_of c.args.declared.now) c.args.structures.now c.number_at-number.result
      c.structure_at-s.result.now c.in_ok-claim.claim c.structure_at-s.ensures
      (subst (λ p. IsFound (program_of p) c.structure_at-s.result.now c.in_ok-claim.claim)
      c.loop-place.invariant.same c.in_ok-claim.ensures.found))
      c.in_ok-push.ensures.items;
  same = cc;
}

pub returns : goal.returns
returns c =
    zip-all (IsFoundOf (program_of c.args.declared.now) c.args.structures.now) c.args.numbers.now
    c.loop-place.claims.items c.loop-place.place
    (omega (arith, c.loop-place-test.false, c.loop-place.auto.place-end))
    c.loop-place.invariant.found
