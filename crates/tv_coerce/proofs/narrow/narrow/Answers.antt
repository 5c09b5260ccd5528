-- One variable more.
use Rattle.std.proofs.Common.{◌≡◌, ◌≤◌, ◌∙◌, arith, length, replicate, subst, sym}
use Rattle.std.proofs.lemmas.List.{get_or-replicate, length-replicate, length-set}
use Rattle.std.proofs.lemmas.Option.{get_or_from_slice_get, slice_get_within}
use Rattle.tv_kleene.specs.declared.K3.TheVariants.{Yes}
use Rattle.tv_coerce_members.specs.Members.{numbers_of}
use Rattle.tv_coerce.specs.Counting.{IsNarrowed, members_in, variables_in}
use Rattle.tv_coerce.proofs.Narrowing.{all-places, set-each, yes-tells}
use Rattle.tv_coerce.proofs.narrow.narrow.Goals as goal

pub loop-left-init : goal.loop-left-init
loop-left-init c =
    let trial = c.args.trial.now
    in let all = all-places Yes c.of-later.result c.of-later.ensures
    in (
      length-replicate 32 c.of-later.result,
      λ left word found.
          let same : word ≡ c.of-later.result
          = sym (get_or_from_slice_get (replicate 32 c.of-later.result) left word c.of-later.result found)
          ∙ get_or-replicate 32 left c.of-later.result c.of-later.result (omega (arith, slice_get_within (replicate 32 c.of-later.result) left word found, length-replicate 32 c.of-later.result))
          in subst (λ x. (trial.structure.now.size ≤ 64) × (length x ≡ 64)
          × IsNarrowed trial.structure.now (variables_in trial) (members_in trial) left x) (sym same) (
            c.requires.few.1,
            all.0,
            yes-tells trial (numbers_of c.args.before.now) trial.last.0 c.requires.variables c.requires.few.1 left
                c.of-later.result all.1,
          ),
    )

pub loop-left-preserved : goal.loop-left-preserved
loop-left-preserved c =
    let trial = c.args.trial.now
    in (
      length-set c.loop-left.later c.loop-left.left c.narrowed-word.result ∙ c.loop-left.invariant.0,
      set-each (λ left word. (trial.structure.now.size ≤ 64) × (length word ≡ 64)
          × IsNarrowed trial.structure.now (variables_in trial) (members_in trial) left word) c.loop-left.later c.loop-left.left
          c.narrowed-word.result (c.requires.few.1, c.narrowed-word.ensures.long, c.narrowed-word.ensures.narrowed) c.loop-left.invariant.1,
    )
