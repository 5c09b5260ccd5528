use Rattle.std.proofs.Common.{◌∙◌, sym, refl, arith, map, true, slice_index_or}
use Rattle.std.proofs.lemmas.List.{length-map, length-set}
use Rattle.tv_model.specs.Program.{rule_of}
use Rattle.tv_rules.proofs.NotingLaws.{bases-within, flags-done, flags-next}
use Rattle.tv_rules.proofs.watch.standing_flags.Goals as goal

pub index_mut-requires : goal.index_mut-requires
index_mut-requires c =
    omega (
      arith,
      bases-within c.args.p.0 (map rule_of c.args.bases.now) c.args.with.now c.loop-number.number-index c.requires c.loop-number-test.true,
      length-map c.args.bases.now rule_of,
      c.loop-number.invariant.0,
    )

pub loop-number-preserved : goal.loop-number-preserved
loop-number-preserved c = (
  length-set c.loop-number.flags.items (slice_index_or c.args.with.now c.loop-number.number-index 0) true ∙ c.loop-number.invariant.0,
  flags-next c.loop-number.flags.items c.args.with.now c.loop-number.number-index
      (slice_index_or c.args.with.now c.loop-number.number-index 0) c.loop-number-test.true
      (omega (
        arith,
        bases-within c.args.p.0 (map rule_of c.args.bases.now) c.args.with.now c.loop-number.number-index c.requires
            c.loop-number-test.true,
        length-map c.args.bases.now rule_of,
        c.loop-number.invariant.0,
      ))
      refl c.loop-number.invariant.1,
)

pub returns : goal.returns
returns c =
    flags-done c.args.p.0 (map rule_of c.args.bases.now) c.loop-number.flags.items c.args.with.now c.loop-number.number-index
    c.loop-number-test.false (c.loop-number.invariant.0 ∙ sym (length-map c.args.bases.now rule_of)) c.requires
    c.loop-number.invariant.1
