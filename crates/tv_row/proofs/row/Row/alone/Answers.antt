use Rattle.std.proofs.Common.{ℕ, ◌≡◌, ◌<◌, ◌≤◌, ◌+◌, ◌/◌, ◌%◌, ◌∙◌, List, [], ◌∷◌, length, get_or, ap, refl}
use Rattle.std.proofs.Common.{arith, zero, suc}
use Rattle.tv_kleene.specs.declared.K3.{K3}
use Rattle.tv_kleene.specs.declared.K3.TheVariants.{No}
use Rattle.tv_row.specs.Places.{AreWords, word_at, value_in}
use Rattle.tv_row.proofs.RowOps.{FilledTo, alone_filled, read_holds, read_row}
use Rattle.tv_row.proofs.row.Row.alone.Goals as goal

one_long : (word : List K3) → length word ≡ 64 → AreWords (word ∷ [])
one_long word long zero d lt = long
one_long word long (suc k) d lt = absurd (omega arith)

filled : (c : goal.After-alone) → FilledTo c.alone.result 1 (λ v. word_at (c.args.word ∷ []) (0 + v))
filled c =
    alone_filled c.alone.result (λ v. word_at (c.args.word ∷ []) (0 + v)) c.args.word c.alone.ensures
    refl

unused : (c : goal.After-alone) (column : ℕ) → c.args.size ≤ column → column < 64 → value_in (c.args.word ∷ []) 0 column ≡ No
unused c column past low =
    let at : 0 + column / 64 ≡ 0 = omega arith
    in let same : column % 64 ≡ column = omega arith
    in ap (λ p. get_or (word_at (c.args.word ∷ []) p) (column % 64) No) at ∙ ap (λ i. get_or c.args.word i No) same
    ∙ c.requires.unused column past low

pub invariant_of-result : goal.invariant_of-result
invariant_of-result c =
    read_holds (c.args.word ∷ []) c.alone.result 0 c.args.size 1 (one_long c.args.word c.requires.long) (omega (arith, c.requires.size.1))
    (omega (arith, c.requires.size.0, c.requires.size.1)) (λ column past low. unused c column past (omega (arith, low, c.requires.size.1)))
    (omega (arith, c.requires.size.0, c.requires.size.1)) (filled c)

pub returns : goal.returns
returns c =
    read_row (c.args.word ∷ []) c.alone.result 0 c.args.size 1 (one_long c.args.word c.requires.long) (omega (arith, c.requires.size.1))
    (omega (arith, c.requires.size.0, c.requires.size.1)) (λ column past low. unused c column past (omega (arith, low, c.requires.size.1)))
    (omega (arith, c.requires.size.0, c.requires.size.1)) (filled c)
