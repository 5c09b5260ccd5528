use Rattle.tv_update_laws.proofs.News.{some_choice_has_heap}
use Rattle.tv_update_laws.proofs.laws.some_choice_has_heap.Goals as goal

pub returns : goal.returns
returns c = λ p valid mode action at s picks new from middle is. some_choice_has_heap p valid mode action at s
    picks new from middle is
