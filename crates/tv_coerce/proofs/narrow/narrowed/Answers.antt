-- What one variable more leaves.
use Rattle.std.proofs.Common.{◌<◌, ◌∙◌, ap, arith, get_or, length, subst, sym, true, false}
use Rattle.tv_kleene.specs.declared.K3.TheVariants.{No, Yes}
use Rattle.tv_kleene.specs.Kleene.{smaller_of}
use Rattle.tv_row.proofs.WordOps.{get_or-paired, length-paired}
use Rattle.tv_coerce_members.specs.Members.{AreSteps}
use Rattle.tv_coerce.specs.Counting.{IsLater, Tells, counted, members_in}
use Rattle.tv_coerce.proofs.Narrowing.{IsBehind, all-places, last-of, last-steps, last-told, later-told}
use Rattle.tv_coerce.proofs.Narrowing.{own-steps, own-told}
use Rattle.tv_coerce.proofs.Narrowing.{seen-last, seen-own, split, split-of, split-read, split-variable}
use Rattle.tv_coerce.proofs.Narrowing.{tells-both}
use Rattle.tv_coerce.proofs.narrow.narrowed.Goals as goal
use Rattle.tv_coerce.proofs.narrow.narrowed.Goals.{then-reads_some, else-reads_some}

pub loop-behind-init : goal.loop-behind-init
loop-behind-init c =
    let trial = c.args.trial.now
    in let all = all-places Yes c.of-all.result c.of-all.ensures
    in let read = split-read trial c.requires.trial c.args.before.now c.requires.variables c.args.left c.requires.left c.variable_before-v.result
    c.variable_before-v.ensures
    in (
      all.0,
      λ b of. subst (Tells (IsBehind c.args.left) trial.structure.now b (members_in trial))
          (sym (all.1 (b c.variable_before-v.result.0) (omega (
            arith,
            ap b read,
            split-of trial c.requires.trial c.args.before.now c.requires.variables c.args.left c.requires.left trial.structure.now.size b of,
            c.requires.few.1,
          )))) tt,
    )

pub best-leaves-requires-clause-long : goal.best-leaves-requires-clause-long
best-leaves-requires-clause-long c = (c.requires.later c.loop-behind.behind c.word_of.result c.word_of.ensures).1

pub best-leaves-requires-clause-can : goal.best-leaves-requires-clause-can
best-leaves-requires-clause-can c =
    let trial = c.args.trial.now
    in let before = c.args.before.now
    in let j = c.loop-behind.behind
    in let less : j < length before = omega (arith, c.loop-behind-test.true, c.requires.left)
    in (
      (split trial c.requires.trial before c.requires.variables j less).here,
      seen-own trial c.requires.trial before c.requires.variables j less c.requires.over c.as_slice-steps.result.now
          (subst (AreSteps (members_in trial) j false) (sym c.as_slice-steps.ensures)
          (own-steps trial c.requires.trial before c.requires.variables j less c.level_of-level.result.now c.level_of-level.ensures)),
    )

pub loop-behind-preserved : goal.loop-behind-preserved
loop-behind-preserved c =
    let trial = c.args.trial.now
    in let is = c.requires.trial
    in let s = trial.structure.now
    in let ms = members_in trial
    in let before = c.args.before.now
    in let vars = c.requires.variables
    in let left = c.args.left
    in let j = c.loop-behind.behind
    in let less : j < length before = omega (arith, c.loop-behind-test.true, c.requires.left)
    in let here = (split trial is before vars j less).here
    in let v = c.variable_before-v.result.0
    in let read = split-read trial is before vars left c.requires.left c.variable_before-v.result c.variable_before-v.ensures
    in let are = subst (AreSteps ms j false) (sym c.as_slice-steps.ensures)
    (own-steps trial is before vars j less c.level_of-level.result.now c.level_of-level.ensures)
    in let seen = seen-own trial is before vars j less c.requires.over c.as_slice-steps.result.now are
    in elim c.if-reads_some.branch [
      | then-reads_some w ↦ (
        ap length (w.word-is ∙ w.and-word.ensures)
            ∙ length-paired smaller_of c.loop-behind.word w.best-leaves.result (c.loop-behind.invariant.0 ∙ sym w.best-leaves.ensures.long)
            ∙ c.loop-behind.invariant.0,
        λ b of.
            let low : b v < s.size = omega (arith, ap b read, split-of trial is before vars left c.requires.left s.size b of)
            in let within : b here < s.size = split-of trial is before vars j less s.size b of
            in subst (Tells (IsBehind left) s b ms)
            (sym (ap (λ x. get_or x (b v) No) (w.word-is ∙ w.and-word.ensures)
            ∙ get_or-paired smaller_of c.loop-behind.word w.best-leaves.result (b v)
            (omega (arith, low, c.requires.few.1, c.loop-behind.invariant.0)) (omega (arith, low, c.requires.few.1, w.best-leaves.ensures.long))))
            (tells-both s b ms (IsBehind left) (get_or c.loop-behind.word (b v) No) (get_or w.best-leaves.result (b v) No)
            (c.loop-behind.invariant.1 b of)
            (own-told trial b left j c.loop-behind-test.true (get_or w.word_of.result (b here) No) (get_or w.best-leaves.result (b v) No)
            (subst (λ x. Tells (IsLater j) s b ms (get_or w.word_of.result (b x) No)) (split-variable trial is before vars j less)
            ((c.requires.later j w.word_of.result w.word_of.ensures).2 b of))
            (w.best-leaves.ensures.best j false here b are seen low within))),
      )
      | else-reads_some w ↦ (
        ap length w.word-is ∙ c.loop-behind.invariant.0,
        λ b of. subst (λ x. Tells (IsBehind left) s b ms (get_or x (b v) No)) (sym w.word-is) (c.loop-behind.invariant.1 b of),
      )
    ]

pub best-ends-requires-clause-long : goal.best-ends-requires-clause-long
best-ends-requires-clause-long c = (all-places Yes c.of-all.result c.of-all.ensures).0

pub best-ends-requires-clause-can : goal.best-ends-requires-clause-can
best-ends-requires-clause-can c =
    let trial = c.args.trial.now
    in let before = c.args.before.now
    in (
      trial.last.0,
      seen-last trial c.requires.trial before c.requires.variables c.args.left c.requires.left c.requires.over c.as_slice-last.result.now
          (subst (AreSteps (members_in trial) c.args.left true) (sym c.as_slice-last.ensures)
          (last-steps trial c.requires.trial before c.requires.variables c.args.left c.requires.left c.level_of.result.now c.level_of.ensures)),
    )

pub returns-clause-long : goal.returns-clause-long
returns-clause-long c =
    ap length c.counted.ensures
    ∙ length-paired counted c.loop-behind.word c.best-ends.result (c.loop-behind.invariant.0 ∙ sym c.best-ends.ensures.long)
    ∙ c.loop-behind.invariant.0

pub returns-clause-narrowed : goal.returns-clause-narrowed
returns-clause-narrowed c = λ b of.
    let trial = c.args.trial.now
    in let is = c.requires.trial
    in let s = trial.structure.now
    in let ms = members_in trial
    in let before = c.args.before.now
    in let vars = c.requires.variables
    in let left = c.args.left
    in let v = c.variable_before-v.result.0
    in let all = all-places Yes c.of-all.result c.of-all.ensures
    in let read = split-read trial is before vars left c.requires.left c.variable_before-v.result c.variable_before-v.ensures
    in let are = subst (AreSteps ms left true) (sym c.as_slice-last.ensures)
    (last-steps trial is before vars left c.requires.left c.level_of.result.now c.level_of.ensures)
    in let seen = seen-last trial is before vars left c.requires.left c.requires.over c.as_slice-last.result.now are
    in let low : b v < s.size = omega (arith, ap b read, split-of trial is before vars left c.requires.left s.size b of)
    in let within : b trial.last.0 < s.size = last-of trial is before vars left c.requires.left s.size b of
    in subst (λ x. Tells (IsLater left) s b ms (get_or c.counted.result (b x) No))
    (read ∙ sym (split-variable trial is before vars left c.requires.left))
    (subst (Tells (IsLater left) s b ms)
    (sym (ap (λ x. get_or x (b v) No) c.counted.ensures
    ∙ get_or-paired counted c.loop-behind.word c.best-ends.result (b v) (omega (arith, low, c.requires.few.1, c.loop-behind.invariant.0))
    (omega (arith, low, c.requires.few.1, c.best-ends.ensures.long))))
    (later-told trial b left (get_or c.loop-behind.word (b v) No) (get_or c.best-ends.result (b v) No) (c.loop-behind.invariant.1 b of)
    (last-told trial b left (get_or c.of-all.result (b trial.last.0) No) (get_or c.best-ends.result (b v) No)
    (all.1 (b trial.last.0) (omega (arith, within, c.requires.few.1)))
    (c.best-ends.ensures.best left true trial.last.0 b are seen low within))))
