use Rattle.std.proofs.Common.{◌≡◌, ◌∙◌, List, replicate, ap, sym, subst, arith}
use Rattle.tv_kleene.specs.declared.K3.{K3}
use Rattle.tv_kleene.specs.declared.K3.TheVariants.{No}
use Rattle.tv_row.specs.Packed.{FillsWord, HoldsPacked, unpacked}
use Rattle.tv_row.proofs.PackedLaws.{cells_fill, no_holds, no_words, no_item}
use Rattle.tv_row.proofs.packed.PackedWords.of_no.Goals as goal

pub invariant_of-result : goal.invariant_of-result
invariant_of-result c =
    let items : c.in_ok-vec.field-0.items ≡ replicate c.div_ceil-kept.result (replicate 64 No)
    = c.in_ok-vec.ensures.items_if_clones_equal (λ y e. e) ∙ ap (replicate c.div_ceil-kept.result) (c.of.ensures ∙ no_item)
    in let Holds : List (List K3) → Type 0 = λ ws. HoldsPacked ws c.cells_for-cells.result c.args.count
    in subst Holds (sym items)
    (no_holds c.div_ceil-kept.result c.cells_for-cells.result c.args.count
    (subst FillsWord (sym c.cells_for-cells.ensures) (cells_fill c.args.columns)) c.requires (omega (arith, c.div_ceil-kept.ensures)))

pub returns : goal.returns
returns c =
    let items : c.in_ok-vec.field-0.items ≡ replicate c.div_ceil-kept.result (replicate 64 No)
    = c.in_ok-vec.ensures.items_if_clones_equal (λ y e. e) ∙ ap (replicate c.div_ceil-kept.result) (c.of.ensures ∙ no_item)
    in ap (λ ws. record { cells = c.cells_for-cells.result; words = ws })
    (ap (λ ws. unpacked ws c.cells_for-cells.result c.args.count) items
    ∙ no_words c.div_ceil-kept.result c.cells_for-cells.result c.args.count
    (subst FillsWord (sym c.cells_for-cells.ensures) (cells_fill c.args.columns)) c.requires (omega (arith, c.div_ceil-kept.ensures)))
    ∙ ap (λ n. record { cells = n; words = replicate c.args.count (replicate 64 No) }) c.cells_for-cells.ensures
