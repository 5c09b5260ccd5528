use Rattle.std.proofs.Common.{◌≡◌, ◌++◌, ◌∙◌, ap, length, arith}
use Rattle.std.specs.Prelude.{codes}
use Rattle.std.proofs.lemmas.Fmt.{length-decimal-le}
use Rattle.std.proofs.lemmas.List.{length-append}
use Rattle.tv_tvs.specs.Canonical.{individual}
use Rattle.tv_tvs.proofs.individuals.name_with.Goals as goal

pub of-requires : goal.of-requires
of-requires c =
    let begun = c.in_ok-put_bytes.ensures ∙ ap (λ t. t ++ codes "i") c.clear.ensures
    in let digits = c.as_bytes.ensures.value ∙ c.format.ensures.text
    in let whole : c.as_slice.result.now ≡ individual c.args.u ++ c.args.end.now
    = c.as_slice.ensures ∙ c.in_ok-put.ensures
    ∙ ap (λ t. t ++ c.args.end.now) (c.in_ok-put_bytes-2.ensures ∙ (λ i. begun i ++ digits i))
    in omega (
      arith,
      length-decimal-le 3 c.args.u (omega arith) (omega (arith, c.requires.individual)) (omega (arith, c.requires.individual)),
      c.requires.end,
      length-append (individual c.args.u) c.args.end.now,
      ap length whole,
    )
