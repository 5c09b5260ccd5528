use Rattle.std.proofs.Common.{◌≡◌, List, [], ◌∷◌, Result, Ok, Err, All, IfOk, subst}
use Rattle.std.proofs.lemmas.List.Elements.{All-head}
use Rattle.tv_texts.proofs.texts.start_in.Goals as goal

only-one : {T E : Type 0} (P Q : T → Type 0) (r : Result T E) (items : List T)
    → IfOk r (λ one. (items ≡ one ∷ []) × Q one) → All P items → IfOk r P
only-one P Q (Ok one) items is all = All-head P one [] (subst (All P) is.0 all)
only-one P Q (Err e) items is all = tt

pub returns-clause-over : goal.returns-clause-over
returns-clause-over c =
    only-one _ _ c.one_heap.result c.in_ok-structures.structures c.one_heap.ensures.heap c.in_ok-structures.ensures.over
