use Rattle.std.proofs.Common.{◌∙◌, List, max, ap, subst, refl, All}
use Rattle.tv_coerce_members.specs.declared.members.Member.{Member}
use Rattle.tv_coerce_members.proofs.Placing.{count-none, count-some}
use Rattle.tv_coerce_members.specs.Members.{AreLevels, IsPlacedIn, members_of, numbers_of}
use Rattle.tv_coerce_members.proofs.shapes.lay_out.Goals as goal

pub returns : goal.returns
returns c =
    let ms = c.in_ok-members.members
    in let levels : AreLevels (members_of ms) c.max.result c.in_ok-levels.levels
    = subst (λ (xs : List Member). AreLevels (members_of xs) c.max.result c.in_ok-levels.levels) c.as_slice-2.ensures c.in_ok-levels.ensures
    in record {
      variables = refl;
      forms = c.in_ok-members.ensures.forms;
      laid = record {
        placed = subst (λ vs. All (IsPlacedIn (numbers_of vs)) (members_of ms)) c.as_slice.ensures c.in_ok-members.ensures.placed;
        levels = λ before w is. subst (λ n. AreLevels (members_of ms) n c.in_ok-levels.levels)
            (c.max.ensures ∙ ap (λ n. max n 1) c.len.ensures ∙ count-some c.args.variables before w is) levels;
        level = λ none. subst (λ n. AreLevels (members_of ms) n c.in_ok-levels.levels)
            (c.max.ensures ∙ ap (λ n. max n 1) c.len.ensures ∙ count-none c.args.variables none) levels;
      };
    }
