use Rattle.std.proofs.Common.{◌≡◌, ◌<◌, ◌++◌, ◌∙◌, [], ap, length, arith}
use Rattle.std.specs.Prelude.{slice_index_or}
use Rattle.std.proofs.lemmas.List.{get_or_read}
use Rattle.tv_kleene.specs.declared.K3.TheVariants.{No}
use Rattle.tv_show.specs.Rows.{arrow_marked}
use Rattle.tv_show.proofs.Walked.{one_further, none_until}
use Rattle.tv_show.proofs.line.append_row.Goals as goal

pub loop-w-preserved : goal.loop-w-preserved
loop-w-preserved c =
    let w = c.in-Some.w
    in let below : w < length c.args.targets.now = omega (arith, c.in-Some.ensures.1, c.requires)
    in let target : c.as_slice.result.now ≡ slice_index_or c.args.targets.now w []
    = c.as_slice.ensures ∙ get_or_read c.args.targets.now w c.index-targets-w.result below c.index-targets-w.is []
    in (
      omega (arith, c.in-Some.ensures.1),
      c.in_ok-append_arrow.ensures ∙ (λ i. c.loop-w.out.items ++ arrow_marked c.args.name.now (target i) (c.get.ensures i))
          ∙ one_further (λ x. arrow_marked c.args.name.now (slice_index_or c.args.targets.now x []) (slice_index_or c.args.values.now x No))
          c.loop-w.from w c.args.out.now.items c.loop-w.out.items c.in-Some.ensures.0
          (λ x low less. ap (arrow_marked c.args.name.now (slice_index_or c.args.targets.now x [])) (c.in-Some.ensures.3 x low less))
          c.loop-w.invariant.1,
    )

pub returns : goal.returns
returns c =
    none_until (λ x. arrow_marked c.args.name.now (slice_index_or c.args.targets.now x []) (slice_index_or c.args.values.now x No))
    c.loop-w.from (length c.args.values.now) c.args.out.now.items c.loop-w.out.items c.loop-w.invariant.0
    (λ x low less. ap (arrow_marked c.args.name.now (slice_index_or c.args.targets.now x [])) (c.in_default.ensures x low less))
    c.loop-w.invariant.1
