use Rattle.std.proofs.Common.{ℕ, ◌≡◌, ◌<◌, ◌+◌, [], ◌∷◌, arith, get_or, List, ap, sym, subst, ◌∙◌}
use Rattle.std.specs.Prelude.{slice_get}
use Rattle.std.proofs.lemmas.List.{get_or_read}
use Rattle.tv_kleene.specs.declared.K3.TheVariants.{No}
use Rattle.tv_structure_form.specs.StructureForm.{value_at}
use Rattle.tv_blur.specs.Merged.{IsJoin}
use Rattle.tv_blur.specs.Classes.{IsAmongMembers, class_at}
use Rattle.tv_blur.proofs.FillLaws.{HasRows, rows_none, rows_more, rows_past, rows_all}
use Rattle.tv_blur.proofs.merge.put_words.Goals as goal
use Rattle.tv_blur.proofs.merge.put_words.Goals.{then-has_possible, else-has_possible}

pub loop-w-init : goal.loop-w-init
loop-w-init c = rows_none c.args.classes.now c.args.s.now c.args.p.0 c.args.t.now

pub set_row-requires-clause-arity : goal.set_row-requires-clause-arity
set_row-requires-clause-arity c =
    ap (λ x. slice_get x c.args.p.0) (c.loop-w.invariant.changes.over ∙ c.requires.over) ∙ c.requires.arity

pub set_row-requires-clause-size : goal.set_row-requires-clause-size
set_row-requires-clause-size c =
    c.merged_in.ensures.length ∙ sym (c.loop-w.invariant.changes.size ∙ c.requires.size)

pub loop-w-preserved : goal.loop-w-preserved
loop-w-preserved c =
    let members : c.index-classes-w.result ≡ class_at c.args.classes.now c.loop-w.w
    = get_or_read c.args.classes.now c.loop-w.w c.index-classes-w.result c.loop-w-test.true c.index-classes-w.is []
    in let Joins : List ℕ → Type 0
    = λ class. (v : ℕ) → v < c.args.s.now.size
    → IsJoin (IsAmongMembers (λ u j. value_at c.args.s.now c.args.p.0 (u ∷ v ∷ []) ≡ j) class) (get_or c.joined_words-joined.result v No)
    in let joins : Joins (class_at c.args.classes.now c.loop-w.w) = subst Joins members c.joined_words-joined.ensures.values
    in elim c.if-has_possible.branch [
      | then-has_possible w ↦ subst (HasRows c.args.classes.now c.args.s.now c.args.p.0 (c.loop-w.w + 1) c.args.t.now) (sym w.t-is)
          (rows_more c.args.classes.now c.args.s.now c.args.p.0 c.loop-w.w c.args.t.now c.loop-w.t w.set_row.new.self
          c.joined_words-joined.result w.merged_in.result c.requires.classes c.requires.size c.loop-w-test.true c.loop-w.invariant
          w.set_row.ensures.value w.set_row.ensures.over w.set_row.ensures.row w.set_row.ensures.others
          joins w.merged_in.ensures.values)
      | else-has_possible w ↦ subst (HasRows c.args.classes.now c.args.s.now c.args.p.0 (c.loop-w.w + 1) c.args.t.now) (sym w.t-is)
          (rows_past c.args.classes.now c.args.s.now c.args.p.0 c.loop-w.w c.args.t.now c.loop-w.t c.joined_words-joined.result
          c.requires.classes c.loop-w-test.true c.requires.blank c.loop-w.invariant joins
          (λ v lt. w.if-has_possible.ensures v (omega (arith, lt, c.size.ensures.size)) (omega (arith, lt, c.requires.fit.few))))
    ]

pub returns-clause-values : goal.returns-clause-values
returns-clause-values c =
    rows_all c.args.classes.now c.args.s.now c.args.p.0 c.loop-w.w c.args.t.now c.loop-w.t c.requires.size
    (ap (λ x. slice_get x c.args.p.0) (c.loop-w.invariant.changes.over ∙ c.requires.over) ∙ c.requires.arity)
    c.loop-w.invariant c.loop-w-test.false
