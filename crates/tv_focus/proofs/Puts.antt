-- Tables that are written in parts.
use Rattle.std.proofs.Common.{◌≡◌, ◌+◌, ◌∷◌, length, map}
use Rattle.std.proofs.lemmas.List.Sums.{sum_by-cons}
use Rattle.tv_focus_laws.specs.Choices.{ChoiceForm, VectorSet}
use Rattle.tv_focus.specs.Puts.{copies_in}

pub copies_more : (set : VectorSet) (choice : ChoiceForm) → copies_in (set ∷ choice) ≡ length set + copies_in choice
copies_more set choice = sum_by-cons (λ n. n) (length set) (map length choice)
