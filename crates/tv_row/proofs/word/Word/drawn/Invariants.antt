use Rattle.std.proofs.Common.{ℕ, ◌≡◌, ◌<◌, length, get_or, take}
use Rattle.tv_kleene.specs.declared.K3.TheVariants.{No}
use Rattle.tv_row.specs.Drawing.{drawn_by}
use Rattle.tv_row.proofs.word.Word.drawn.Given as goal

abbrev pub invariant-loop-run : goal.invariant-loop-run
invariant-loop-run l =
    ((c : ℕ) → c < 64 → get_or l.word c No ≡ drawn_by (λ i. get_or l.self i No) (take l.run-index l.runs) c)
    × (length l.word ≡ 64)
