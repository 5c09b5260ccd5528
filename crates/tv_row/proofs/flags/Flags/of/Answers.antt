use Rattle.std.proofs.Common.{ℕ, ◌≡◌, ◌∙◌, List, if◌then◌else◌, ap, sym, arith, rules}
use Rattle.tv_row.specs.FlagWords.{flags_in}
use Rattle.tv_row.proofs.FlagLaws.{flags_alike}
use Rattle.tv_row.proofs.flags.Flags.of.Goals as goal
use Rattle.tv_row.proofs.flags.Flags.of.Goals.{then-on, else-on}

pub returns : goal.returns
returns c =
    let word : c.if-on.word ≡ (if c.args.on then 18446744073709551615 else 0)
    = elim c.if-on.branch [
      | then-on w ↦ w.word-is ∙ sym (ap (λ on. if on then 18446744073709551615 else 0) w.if-on.true)
      | else-on w ↦ w.word-is ∙ sym (ap (λ on. if on then 18446744073709551615 else 0) w.if-on.false)
    ]
    in ap (λ (words : List ℕ). flags_in words c.args.count) (c.in_ok-vec.ensures.items_if_clones_equal (search rules))
    ∙ flags_alike c.args.count c.div_ceil.result c.args.on c.if-on.word word (omega (arith, c.div_ceil.ensures))
