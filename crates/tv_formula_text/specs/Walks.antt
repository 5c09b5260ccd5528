-- What the walks of the code stand for.
use Rattle.tv_formula_text.specs.Formulas.{WalkForm}
use Rattle.tv_formula_text.specs.declared.formula.Walk.{Walk}

abbrev pub walk_of : Walk → WalkForm
walk_of w = record { pred = w.pred.0; from = w.from.0; to = w.to.0 }
