-- Parts that are read with marks in place of what is read later, and the parts that they stand for.
use Rattle.std.proofs.Common.{List, [], ◌∷◌, Bool}
use Rattle.std.specs.List.{AllZip}
use Rattle.tv_lex.specs.Token.{SpecToken}
use Rattle.tv_phrases.specs.Repeated.{Repeated}

module _ {M T : Type 0} (begins : List SpecToken → Bool) (IsMark : List SpecToken → M → List SpecToken → Type 0)
    (IsTree : List SpecToken → T → List SpecToken → Type 0) (StandsFor : M → T → Type 0) where
  pub trees_for : ((ts rest : List SpecToken) (m : M) → IsMark ts m rest → (t : T) × IsTree ts t rest × StandsFor m t)
      → (ts rest : List SpecToken) (marks : List M) → Repeated begins IsMark ts marks rest
      → (trees : List T) × Repeated begins IsTree ts trees rest × AllZip StandsFor marks trees
  trees_for tree ts rest [] are = ([], are, tt)
  trees_for tree ts rest (m ∷ marks) are =
      let one = tree ts are.0 m are.2
      in let others = trees_for tree are.0 rest marks are.3
      in (one.0 ∷ others.0, (are.0, are.1, one.1, others.1), (one.2, others.2))

  pub marks_for : ((ts rest : List SpecToken) (t : T) → IsTree ts t rest → (m : M) × IsMark ts m rest × StandsFor m t)
      → (ts rest : List SpecToken) (trees : List T) → Repeated begins IsTree ts trees rest
      → (marks : List M) × Repeated begins IsMark ts marks rest × AllZip StandsFor marks trees
  marks_for mark ts rest [] are = ([], are, tt)
  marks_for mark ts rest (t ∷ trees) are =
      let one = mark ts are.0 t are.2
      in let others = marks_for mark are.0 rest trees are.3
      in (one.0 ∷ others.0, (are.0, are.1, one.1, others.1), (one.2, others.2))
