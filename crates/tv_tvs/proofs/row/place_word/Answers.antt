use Rattle.std.proofs.Common.{◌++◌, ◌+◌, ◌∙◌, ap, arith, take, if◌then◌else◌}
use Rattle.std.specs.Prelude.{slice_index_or, codes}
use Rattle.tv_kleene.specs.declared.K3.TheVariants.{No}
use Rattle.tv_row.specs.Bits.{is_certain}
use Rattle.tv_tvs.specs.Canonical.{individual}
use Rattle.tv_tvs.specs.Rows.{behind, listed_name}
use Rattle.tv_tvs.proofs.Rooms.{placed_behind}
use Rattle.tv_tvs.proofs.RowTexts.{one_further, none_until, item_behind}
use Rattle.tv_tvs.proofs.row.place_word.Goals as goal

pub loop-i-preserved : goal.loop-i-preserved
loop-i-preserved c =
    let i = c.in-Some.i
    in let before = take c.loop-i.end c.loop-i.room
    in let value = slice_index_or c.args.values i No
    in let both = placed_behind _ _ _ _ _ _ _ _ c.place-last.ensures.placed c.place_last-end.ensures.placed
    in (
      omega (arith, c.in-Some.ensures.1),
      both.bytes
          ∙ ap (λ k. before ++ (c.args.prefix.now ++ (if k then listed_name (c.args.first + i) else (individual (c.args.first + i) ++ codes ":1/2, "))))
          (c.is_yes-known.ensures ∙ ap is_certain c.get.ensures)
          ∙ ap (λ t. before ++ t) (item_behind c.args.prefix.now (c.args.first + i) value c.in-Some.ensures.2)
          ∙ one_further (λ w. behind c.args.prefix.now (c.args.first + w) (slice_index_or c.args.values w No)) c.loop-i.from i before
          c.in-Some.ensures.0 (λ w low less. ap (behind c.args.prefix.now (c.args.first + w)) (c.in-Some.ensures.3 w low less))
          c.loop-i.invariant.1,
      omega (
        arith,
        c.place_last-end.ensures.short,
        c.place-last.ensures.placed.moved,
        c.place-last.ensures.short,
        c.loop-i.invariant.2,
        c.in-Some.ensures.0,
      ),
      both.length ∙ c.loop-i.invariant.3,
    )

pub returns-clause-text : goal.returns-clause-text
returns-clause-text c =
    none_until (λ w. behind c.args.prefix.now (c.args.first + w) (slice_index_or c.args.values w No)) c.loop-i.from 64
    (take c.loop-i.end c.loop-i.room) c.loop-i.invariant.0
    (λ w low less. ap (behind c.args.prefix.now (c.args.first + w)) (c.in_default.ensures w low less)) c.loop-i.invariant.1

pub returns-clause-fits : goal.returns-clause-fits
returns-clause-fits c =
    omega (arith, c.loop-i.invariant.0, c.loop-i.invariant.2, c.loop-i.invariant.3, c.requires.room)
