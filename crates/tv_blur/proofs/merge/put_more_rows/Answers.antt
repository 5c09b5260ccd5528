use Rattle.std.proofs.Common.{ℕ, ◌≡◌, ◌<◌, [], ◌∷◌, get_or, List, ap, sym, subst, ◌∙◌}
use Rattle.std.specs.Prelude.{slice_get}
use Rattle.std.proofs.lemmas.List.{get_or_read}
use Rattle.tv_kleene.specs.declared.K3.TheVariants.{No}
use Rattle.tv_structure_form.specs.StructureForm.{value_at}
use Rattle.tv_blur.specs.Merged.{IsJoin}
use Rattle.tv_blur.specs.Classes.{IsAmongMembers, class_at}
use Rattle.tv_blur.proofs.FillLaws.{rows_none, rows_more, rows_all}
use Rattle.tv_blur.proofs.merge.put_more_rows.Goals as goal

pub loop-w-init : goal.loop-w-init
loop-w-init c = rows_none c.args.classes.now c.args.s.now c.args.p.0 c.args.t.now

pub set_row-requires-clause-arity : goal.set_row-requires-clause-arity
set_row-requires-clause-arity c =
    ap (λ x. slice_get x c.args.p.0) (c.loop-w.invariant.changes.over ∙ c.requires.over) ∙ c.requires.arity

pub set_row-requires-clause-size : goal.set_row-requires-clause-size
set_row-requires-clause-size c =
    c.merged_row.ensures.length ∙ sym (c.loop-w.invariant.changes.size ∙ c.requires.size)

pub loop-w-preserved : goal.loop-w-preserved
loop-w-preserved c =
    let members : c.index-classes-w.result ≡ class_at c.args.classes.now c.loop-w.w
    = get_or_read c.args.classes.now c.loop-w.w c.index-classes-w.result c.loop-w-test.true c.index-classes-w.is []
    in let Joins : List ℕ → Type 0
    = λ class. (v : ℕ) → v < c.args.s.now.size
    → IsJoin (IsAmongMembers (λ u j. value_at c.args.s.now c.args.p.0 (u ∷ v ∷ []) ≡ j) class) (get_or c.joined_rows-joined.result v No)
    in rows_more c.args.classes.now c.args.s.now c.args.p.0 c.loop-w.w c.args.t.now c.loop-w.t c.set_row.new.self
    c.joined_rows-joined.result c.merged_row.result c.requires.classes c.requires.size c.loop-w-test.true c.loop-w.invariant
    c.set_row.ensures.value c.set_row.ensures.over c.set_row.ensures.row c.set_row.ensures.others
    (subst Joins members c.joined_rows-joined.ensures.values) c.merged_row.ensures.values

pub returns-clause-values : goal.returns-clause-values
returns-clause-values c =
    rows_all c.args.classes.now c.args.s.now c.args.p.0 c.loop-w.w c.args.t.now c.loop-w.t c.requires.size
    (ap (λ x. slice_get x c.args.p.0) (c.loop-w.invariant.changes.over ∙ c.requires.over) ∙ c.requires.arity)
    c.loop-w.invariant c.loop-w-test.false
