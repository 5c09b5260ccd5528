-- A formula's value by two thresholds, each said as truth is: it is certainly true where its value is
-- Yes, and possibly true where its value isn't No.
use Rattle.std.specs.Prelude.{ℕ, ◌≡◌, ◌≢◌, ◌⊎◌, ◌↔◌, Bool, true, false, not, IsTrue, List, map, Some, All}
use Rattle.std.specs.Prelude.{Contains}
use Rattle.tv_kleene.specs.declared.K3.{K3}
use Rattle.tv_kleene.specs.declared.K3.TheVariants.{No, Yes}
use Rattle.tv_model.specs.Form.{Form, FZero, FOne, FAtom, FIsNew, FSame, FNot, FAnd, FOr, FIff, FCond}
use Rattle.tv_model.specs.Form.{FExists, FForall, FClosure}
use Rattle.tv_model.specs.Truth.{Assignment, put, IsWalk}
use Rattle.tv_embedding_laws.specs.LogicalStructure.{LogicalStructure}
use Rattle.tv_eval_laws.specs.Value.{value}

-- the value is Yes, or isn't No
abbrev pub Meets : (certain : Bool) → K3 → Type 0
Meets true x = x ≡ Yes
Meets false x = x ≢ No

-- the formula is certainly, or possibly, true in the structure under the assignment. A negation is
-- certainly true where its formula isn't even possibly true, and the other way round
abbrev pub IsTrueIn : (certain : Bool) → LogicalStructure → Assignment → Form → Type 0
IsTrueIn certain s a FZero = ⊥
IsTrueIn certain s a FOne = Unit {0}
IsTrueIn certain s a (FAtom pred vars) = Meets certain (s.value pred (map a vars))
IsTrueIn certain s a (FIsNew v) = s.fresh ≡ Some (a v)
IsTrueIn certain s a (FSame v w) = (a v ≡ a w) × (IsTrue certain → s.is_summary (a v) ≡ false)
IsTrueIn certain s a (FNot f) = ¬ IsTrueIn (not certain) s a f
IsTrueIn certain s a (FAnd f g) = IsTrueIn certain s a f × IsTrueIn certain s a g
IsTrueIn certain s a (FOr f g) = IsTrueIn certain s a f ⊎ IsTrueIn certain s a g
IsTrueIn certain s a (FIff f g) =
    ((¬ IsTrueIn (not certain) s a f) ⊎ IsTrueIn certain s a g)
    × ((¬ IsTrueIn (not certain) s a g) ⊎ IsTrueIn certain s a f)
IsTrueIn certain s a (FCond c f g) =
    (IsTrueIn certain s a c × IsTrueIn certain s a f)
    ⊎ ((¬ IsTrueIn (not certain) s a c) × IsTrueIn certain s a g)
IsTrueIn certain s a (FExists v f) = (u : ℕ) × Contains s.individuals u × IsTrueIn certain s (put a v u) f
IsTrueIn certain s a (FForall v f) = (u : ℕ) → Contains s.individuals u → IsTrueIn certain s (put a v u) f
IsTrueIn certain s a (FClosure from to left right f) =
    (stops : List ℕ) × All (Contains s.individuals) stops
    × IsWalk (λ u w. IsTrueIn certain s (put (put a left u) right w) f) (a from) stops (a to)

-- the value meets a threshold exactly where the formula is true in this way
abbrev pub ValuesMeetThresholds : Type 0
ValuesMeetThresholds =
    (certain : Bool) (s : LogicalStructure) (a : Assignment) (f : Form)
    → Meets certain (value s a f) ↔ IsTrueIn certain s a f
