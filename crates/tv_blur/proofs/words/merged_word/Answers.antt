use Rattle.std.proofs.Common.{[], List, ℕ, ◌≡◌, arith, get_or, subst}
use Rattle.std.proofs.lemmas.List.{get_or_read}
use Rattle.tv_kleene.specs.declared.K3.TheVariants.{No}
use Rattle.tv_blur.specs.Merged.{IsJoin}
use Rattle.tv_blur.specs.Classes.{IsAmongMembers}
use Rattle.tv_blur.proofs.WordLaws.{merged_in_start, merged_in_step}
use Rattle.tv_blur.proofs.words.merged_word.Goals as goal

pub loop-w-init : goal.loop-w-init
loop-w-init c = merged_in_start c.args.word c.args.classes.now c.of-merged.result c.of-merged.ensures

pub loop-w-preserved : goal.loop-w-preserved
loop-w-preserved c =
    let members : c.index-classes-w.result ≡ get_or c.args.classes.now c.loop-w.w []
    = get_or_read c.args.classes.now c.loop-w.w c.index-classes-w.result c.loop-w-test.true c.index-classes-w.is []
    in let Joins : List ℕ → Type 0 = λ class. IsJoin (IsAmongMembers (λ u j. get_or c.args.word u No ≡ j) class) c.value_in.result
    in merged_in_step c.args.word c.args.classes.now c.loop-w.w c.loop-w.merged c.with_value-merged.result c.value_in.result
    c.loop-w.invariant (omega (arith, c.loop-w-test.true, c.requires.few)) c.with_value-merged.ensures
    (subst Joins members c.value_in.ensures)
