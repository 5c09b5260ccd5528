-- What formulas say whose parts are shared.
use Rattle.tv_model.specs.Form.{Form, FZero, FOne, FAtom, FIsNew, FSame, FNot, FAnd, FOr, FIff, FCond}
use Rattle.tv_model.specs.Form.{FExists, FForall, FClosure, vars_of}
use Rattle.tv_delta_form.specs.declared.shape.Shape.{Shape}
use Rattle.tv_delta_form.specs.declared.shape.Shape.TheVariants.{Zero, One, Atom, IsNew, Same, Not', And'}
use Rattle.tv_delta_form.specs.declared.shape.Shape.TheVariants.{Or', Iff', Cond', Exists', Forall', Closure'}

abbrev pub shape_form : Shape → Form
shape_form Zero = FZero
shape_form One = FOne
shape_form (Atom p ts) = FAtom p.0 (vars_of ts)
shape_form (IsNew v) = FIsNew v.0
shape_form (Same v w) = FSame v.0 w.0
shape_form (Not' p f) = FNot (shape_form f)
shape_form (And' p f q g) = FAnd (shape_form f) (shape_form g)
shape_form (Or' p f q g) = FOr (shape_form f) (shape_form g)
shape_form (Iff' p f q g) = FIff (shape_form f) (shape_form g)
shape_form (Cond' p c q f r g) = FCond (shape_form c) (shape_form f) (shape_form g)
shape_form (Exists' v p f) = FExists v.0 (shape_form f)
shape_form (Forall' v p f) = FForall v.0 (shape_form f)
shape_form (Closure' from to left right p f) = FClosure from.0 to.0 left.0 right.0 (shape_form f)
