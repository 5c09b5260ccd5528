use Rattle.std.proofs.Common.{◌∷◌, take}
use Rattle.tv_blur.specs.Classes.{IsMask}
use Rattle.tv_blur.proofs.class.mask_of.Given as goal

abbrev pub invariant-loop-i : goal.invariant-loop-i
invariant-loop-i l = IsMask (l.first ∷ take l.i l.others) l.mask
