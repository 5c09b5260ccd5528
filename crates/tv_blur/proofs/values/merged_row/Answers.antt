use Rattle.std.proofs.Common.{[], ap, length, subst, get_or, ◌≡◌, ◌≢◌, ◌∙◌, true, false, List, ℕ}
use Rattle.std.specs.Prelude.{Any}
use Rattle.std.proofs.lemmas.List.{get_or-replicate, get_or_read, length-replicate}
use Rattle.tv_kleene.specs.declared.K3.TheVariants.{No}
use Rattle.tv_blur.specs.Merged.{IsJoin}
use Rattle.tv_blur.specs.Classes.{IsAmongMembers}
use Rattle.tv_blur.proofs.RowLaws.{joined-none, merged_start, merged_step}
use Rattle.tv_blur.proofs.values.merged_row.Goals as goal

pub loop-w-init : goal.loop-w-init
loop-w-init c = merged_start c.args.row.now c.args.classes.now c.of-merged.result c.of-merged.ensures

pub loop-w-preserved : goal.loop-w-preserved
loop-w-preserved c =
    let members : c.index-classes-w.result ≡ get_or c.args.classes.now c.loop-w.w []
    = get_or_read c.args.classes.now c.loop-w.w c.index-classes-w.result c.loop-w-test.true c.index-classes-w.is []
    in let Joins : List ℕ → Type 0 = λ class. IsJoin (IsAmongMembers (λ u j. get_or c.args.row.now u No ≡ j) class) c.value_of.result
    in merged_step c.args.row.now c.args.classes.now c.loop-w.w c.loop-w.merged c.put_value.new.row c.value_of.result
    c.loop-w.invariant c.loop-w-test.true c.put_value.ensures (subst Joins members c.value_of.ensures)

pub returns-then-not-has_possible : goal.returns-then-not-has_possible
returns-then-not-has_possible c =
    let none : ¬ Any (λ k. k ≢ No) c.args.row.now
    = λ any. let has : c.has_possible.result ≡ true = c.has_possible.ensures.1 any
    in let hasnt : c.has_possible.result ≡ false = c.if-not-has_possible.true in cc
    in record {
      length = ap length c.of-merged.ensures ∙ length-replicate (length c.args.classes.now) No;
      values = λ w lt. rw (c.of-merged.ensures, get_or-replicate (length c.args.classes.now) w No No lt)
          (joined-none c.args.row.now (get_or c.args.classes.now w []) none (c.requires.some w [] lt));
    }
