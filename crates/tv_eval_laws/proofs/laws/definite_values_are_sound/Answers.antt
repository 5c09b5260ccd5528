use Rattle.tv_eval_laws.proofs.InHeaps.{definite_values_are_sound}
use Rattle.tv_eval_laws.proofs.laws.definite_values_are_sound.Goals as goal

pub returns : goal.returns
returns c = λ f m h t a b e takes. definite_values_are_sound f m h t a b e takes
