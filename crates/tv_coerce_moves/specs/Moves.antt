-- Which changes may make the value of a formula greater, or smaller. A change is told by a head: it gives the
-- head's predicate a value that meets the head, or, where the head is an equality, makes a summary an
-- ordinary individual.
use Rattle.std.specs.Prelude.{ℕ, ◌≡◌, ◌⊎◌, Bool, true, not}
use Rattle.tv_model.specs.Form.{Form, FZero, FOne, FAtom, FIsNew, FSame, FNot, FAnd, FOr, FIff, FCond}
use Rattle.tv_model.specs.Form.{FExists, FForall, FClosure, Mentions}
use Rattle.tv_model.specs.Program.{HeadForm, HNever, HAtom, HSame}

-- the head is an atom of the predicate q, negated or not
abbrev pub IsHeadOf : ℕ → HeadForm → Type 0
IsHeadOf q HNever = ⊥
IsHeadOf q (HAtom flag pred vars) = q ≡ pred
IsHeadOf q (HSame flag v w) = ⊥

-- the head is an equality, negated or not
abbrev pub IsEquality : HeadForm → Type 0
IsEquality HNever = ⊥
IsEquality (HAtom flag pred vars) = ⊥
IsEquality (HSame flag v w) = Unit {0}

-- an equality stands in the formula
abbrev pub HasEquality : Form → Type 0
HasEquality FZero = ⊥
HasEquality FOne = ⊥
HasEquality (FAtom q vars) = ⊥
HasEquality (FIsNew v) = ⊥
HasEquality (FSame v w) = Unit {0}
HasEquality (FNot f) = HasEquality f
HasEquality (FAnd f g) = HasEquality f ⊎ HasEquality g
HasEquality (FOr f g) = HasEquality f ⊎ HasEquality g
HasEquality (FIff f g) = HasEquality f ⊎ HasEquality g
HasEquality (FCond c f g) = HasEquality c ⊎ HasEquality f ⊎ HasEquality g
HasEquality (FExists v f) = HasEquality f
HasEquality (FForall v f) = HasEquality f
HasEquality (FClosure from to left right f) = HasEquality f

-- such changes make values of the predicate q greater, in the order of truth; or smaller, where up is false
abbrev pub Turns : HeadForm → (up : Bool) → ℕ → Type 0
Turns HNever up q = ⊥
Turns (HAtom flag pred vars) up q = (q ≡ pred) × (flag ≡ up)
Turns (HSame flag v w) up q = ⊥

-- the head's predicate stands in the formula; if the head is an equality, an equality does
abbrev pub Shows : HeadForm → Form → Type 0
Shows HNever f = ⊥
Shows (HAtom flag pred vars) f = Mentions pred f
Shows (HSame flag v w) f = HasEquality f

-- and may so make the value of the formula greater, or smaller; what stands in an equivalence, or is asked by
-- a condition, counts in both directions
abbrev pub MayMove : HeadForm → (up : Bool) → Form → Type 0
MayMove head up FZero = ⊥
MayMove head up FOne = ⊥
MayMove head up (FAtom q vars) = Turns head up q
MayMove head up (FIsNew v) = ⊥
MayMove head up (FSame v w) = IsEquality head × (up ≡ true)
MayMove head up (FNot f) = MayMove head (not up) f
MayMove head up (FAnd f g) = MayMove head up f ⊎ MayMove head up g
MayMove head up (FOr f g) = MayMove head up f ⊎ MayMove head up g
MayMove head up (FIff f g) = Shows head f ⊎ Shows head g
MayMove head up (FCond c f g) = Shows head c ⊎ MayMove head up f ⊎ MayMove head up g
MayMove head up (FExists v f) = MayMove head up f
MayMove head up (FForall v f) = MayMove head up f
MayMove head up (FClosure from to left right f) = MayMove head up f

-- such changes may make values of the other head's atom known; an equality's may make any head known, since
-- what is true of a summary alone needn't be
abbrev pub MayTell : (other head : HeadForm) → Type 0
MayTell other HNever = ⊥
MayTell other (HAtom flag pred vars) = IsHeadOf pred other
MayTell other (HSame flag v w) = Unit {0}
