use Rattle.tv_blur.proofs.WordLaws.{AreMergedIn}
use Rattle.tv_blur.proofs.words.merged_word.Given as goal

abbrev pub invariant-loop-w : goal.invariant-loop-w
invariant-loop-w l = AreMergedIn l.word l.classes l.w l.merged
