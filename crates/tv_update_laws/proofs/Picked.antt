-- What an action gives depends only on what the picked variables stand for.
use Rattle.std.proofs.Common.{ℕ, ◌≡◌, List, map, Option, None, Some, refl, sym, ap, subst, ◌∙◌, Contains}
use Rattle.std.proofs.lemmas.List.{map-id}
use Rattle.std.proofs.lemmas.List.Elements.{All-contains, Contains-append_cases}
use Rattle.tv_model.specs.Form.{Form}
use Rattle.tv_model.specs.Program.{ProgramForm, ActionForm}
use Rattle.tv_model.specs.Truth.{Assignment, put_all}
use Rattle.tv_model.specs.Valid.{IsAction, IsPrecondition, free_occurrences}
use Rattle.tv_model.proofs.Lists.{map-agreed}
use Rattle.tv_model.proofs.Parts.{first-occurs}
use Rattle.tv_embedding_laws.specs.LogicalStructure.{LogicalStructure}
use Rattle.tv_eval_laws.proofs.Agreed.{only_free_variables_matter}
use Rattle.tv_update_laws.specs.Applied.{keep_value}
use Rattle.tv_update_laws.specs.Choices.{choices_of}
use Rattle.tv_update_laws.specs.Picks.{precondition_value}
use Rattle.tv_update_laws.specs.Laws.{OnlyPicksMatter}
use Rattle.tv_update_laws.proofs.Alike.{Alike, choices-alike, AreNew-alike}
use Rattle.tv_update_laws.proofs.Preconditions.{free-occurs}
use Rattle.tv_update_laws.proofs.Puts.{put_all-goes}

module _ (action : ActionForm) (a b : Assignment) (same : (v : ℕ) → Contains action.picks v → a v ≡ b v) where
  -- a structure is like itself, under picks that agree
  pub itself : (m : LogicalStructure) → Alike action (λ u. u) m m a b
  itself m = record {
    individuals = map-id m.individuals;
    injective = λ u w hu hw e. e;
    values = λ q tuple all. ap (m.value q) (sym (map-id tuple));
    summaries = λ u at. refl;
    formulas = λ f vars tuple over fits all.
        only_free_variables_matter m f (put_all a vars tuple) (put_all b vars (map (λ u. u) tuple)) (λ v free.
        put_all-goes (λ u w. u ≡ w) (λ u. u) vars tuple fits (λ k x lt. refl)
        (Contains action.picks) a b same v
        (Contains-append_cases vars action.picks v (over v free)));
  }

  unmapped : (uss : List (List ℕ)) → map (map (λ u. u)) uss ≡ uss
  unmapped uss = map-agreed (map (λ u. u)) (λ us. us) uss (λ us at. map-id us) ∙ map-id uss

  pre-same : (p : ProgramForm) (s : LogicalStructure) (pre : Option Form) → IsPrecondition p pre action.picks
      → precondition_value s a pre ≡ precondition_value s b pre
  pre-same p s None is = refl
  pre-same p s (Some f) is =
      only_free_variables_matter s f a b (λ v free.
      same v (subst (λ xs. Contains xs v) (sym is.1)
      (first-occurs (free_occurrences f) v (free-occurs f v free))))

pub only_picks_matter : OnlyPicksMatter
only_picks_matter p valid mode action at s a b same = record {
  given = λ ts given. (
    given.0,
    given.1,
    AreNew-alike p mode action is (λ u. u) given.0 given.0 a b
        (itself action a b same given.0) ts given.2,
  );
  choices = λ m.
      sym (unmapped action a b same (choices_of (keep_value m a action.retain) m.individuals))
      ∙ sym (choices-alike p mode action is (λ u. u) m m a b (itself action a b same m));
  precondition = pre-same action a b same p s action.pre is.precondition;
}
  where
    is : IsAction p action
    is = All-contains (IsAction p) p.actions action valid.actions at
