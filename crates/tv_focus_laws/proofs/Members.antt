-- The individuals that the copies of a choice come of.
use Rattle.std.proofs.Common.{ℕ, ◌<◌, zero, suc, List, [], ◌∷◌, refl, arith, All, Contains}
use Rattle.std.proofs.lemmas.List.Elements.{All-nil, All-append, All-map}
use Rattle.tv_kleene.specs.declared.K3.{K3}
use Rattle.tv_focus_laws.specs.Choices.{ChoiceForm, MemberForm, members, members_of}

pub members-inside : (us : List ℕ) (choice : ChoiceForm)
    → All (λ (m : MemberForm). Contains us m.origin) (members us choice)
members-inside [] choice = All-nil (λ (m : MemberForm). Contains [] m.origin)
members-inside (u ∷ us) [] = All-nil (λ (m : MemberForm). Contains (u ∷ us) m.origin)
members-inside (u ∷ us) (set ∷ choice) =
    All-append (λ (m : MemberForm). Contains (u ∷ us) m.origin) (members_of u set) (members us choice)
    (All-map (λ (m : MemberForm). Contains (u ∷ us) m.origin)
    (λ (vector : List K3). record { origin = u; vector = vector }) set (λ k d lt. (0, omega arith, refl)))
    (λ k d lt. let there = members-inside us choice k d lt in (suc there.0, omega (arith, there.1), there.2))
