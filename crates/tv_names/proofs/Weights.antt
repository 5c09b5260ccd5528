-- A measure of trees for the walk through a formula.
use Rattle.std.proofs.Common.{ℕ, ◌+◌, length}
use Rattle.tv_tree.specs.Forms.{Form, FZero, FOne, FHalf, FSame, FDiffer, FAtom, FStar, FPlus, FParen, FNot}
use Rattle.tv_tree.specs.Forms.{FAnd, FOr, FImp, FIff, FCond, FExists, FForall, FTc}

abbrev pub weight : Form → ℕ
weight FZero = 0
weight FOne = 0
weight FHalf = 0
weight (FSame v w) = 0
weight (FDiffer v w) = 0
weight (FAtom n xs) = 0
weight (FStar n v w) = 0
weight (FPlus n v w) = 0
weight (FParen f) = weight f + 3
weight (FNot f) = weight f + 3
weight (FAnd f g) = weight f + weight g + 3
weight (FOr f g) = weight f + weight g + 3
weight (FImp f g) = weight f + weight g + 3
weight (FIff f g) = weight f + weight g + 3
weight (FCond f g h) = weight f + weight g + weight h + 3
weight (FExists xs f) = length xs + weight f + 3
weight (FForall xs f) = length xs + weight f + 3
weight (FTc from to left right f) = weight f + 3
