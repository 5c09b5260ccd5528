use Rattle.std.proofs.Common.{◌≡◌, ◌∙◌, ap, arith, get_or, length, subst, sym}
use Rattle.std.proofs.lemmas.List.{length-replicate}
use Rattle.tv_kleene.specs.declared.K3.{K3}
use Rattle.tv_kleene.specs.declared.K3.TheVariants.{No}
use Rattle.tv_blur.specs.Merged.{IsJoin}
use Rattle.tv_blur.specs.Classes.{IsAmongMembers, class_at}
use Rattle.tv_blur.proofs.WordLaws.{first_word}
use Rattle.tv_blur.proofs.words.merged_in.Goals as goal

pub returns-clause-values : goal.returns-clause-values
returns-clause-values c w lt =
    let Joins : K3 → Type 0
    = λ k. IsJoin (IsAmongMembers (λ u j. get_or c.args.word u No ≡ j) (class_at c.args.classes.now w)) k
    in subst Joins
    (sym (first_word c.of-merged.result c.put_word.new.self c.merged_word.result c.put_word.ensures.values w
    (omega (arith, lt, c.requires.few))
    (omega (arith, lt, ap length c.of-merged.ensures ∙ length-replicate (length c.args.classes.now) No))))
    (c.merged_word.ensures w lt)
