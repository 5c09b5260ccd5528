-- Lemmas on one structure, for the crates above: a value depends only on what the free variables stand
-- for, individuals or not.
use Rattle.std.proofs.Common.{◌≡◌, inl, refl, sym, ap, ◌∙◌}
use Rattle.tv_kleene.proofs.Lattice.{LiesUnder-antisym}
use Rattle.tv_model.proofs.Lists.{map-agreed}
use Rattle.tv_embedding_laws.specs.LogicalStructure.{LogicalStructure}
use Rattle.tv_eval_laws.specs.Value.{value, mark_value, same_value}
use Rattle.tv_eval_laws.specs.Laws.{OnlyFreeVariablesMatter}
use Rattle.tv_eval_laws.proofs.Matched.{Matched, value-lies_under}

matched-itself : (s : LogicalStructure) → Matched (λ q. Unit {0}) (Unit {0}) (λ u w. u ≡ w) s s
matched-itself s = record {
  there = λ u at. (u, at, refl);
  back = λ u at. (u, at, refl);
  atoms = λ pred p vars a b same. inl (ap (s.value pred) (map-agreed a b vars same));
  same = λ u w x y p q. inl (ap (λ z. same_value s z w) p ∙ ap (λ z. same_value s x z) q);
  marks = λ named u w p. inl (ap (mark_value s.fresh) p);
}

pub only_free_variables_matter : OnlyFreeVariablesMatter
only_free_variables_matter s f a b same =
    LiesUnder-antisym (value s a f) (value s b f)
    (value-lies_under (λ q. Unit {0}) (Unit {0}) (λ u w. u ≡ w) s s (matched-itself s) a b f (λ q h. tt) (λ h. tt) same)
    (value-lies_under (λ q. Unit {0}) (Unit {0}) (λ u w. u ≡ w) s s (matched-itself s) b a f (λ q h. tt) (λ h. tt)
    (λ v free. sym (same v free)))
