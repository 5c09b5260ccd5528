use Rattle.std.proofs.Common.{length, refl, sym, ◌∙◌, arith}
use Rattle.std.proofs.lemmas.Option.{slice_get_read}
use Rattle.tv_file_lines.proofs.lines.part_from.Goals as goal

pub returns-then-is_in-clause-found : goal.returns-then-is_in-clause-found
returns-then-is_in-clause-found c = (
  c.index-parts-number.result,
  slice_get_read c.args.parts.now (length c.args.parts.now) c.loop-number.number c.index-parts-number.result refl
      (omega (arith, c.loop-number-test.true)) c.index-parts-number.is,
  sym c.is_in.ensures ∙ c.if-is_in.true,
)
