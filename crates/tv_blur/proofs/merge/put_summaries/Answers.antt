use Rattle.std.proofs.Common.{◌≡◌, ◌+◌, arith, ◌∙◌, ◌<◌, [], List, ℕ, ap, length, subst, sym, true}
use Rattle.std.specs.Prelude.{All}
use Rattle.std.proofs.lemmas.List.{get_or_read}
use Rattle.tv_blur.specs.Classes.{class_at, is_merged_summary}
use Rattle.tv_blur.proofs.FillLaws.{HasSummaries, length-summary_row, summaries_none, summaries_more}
use Rattle.tv_blur.proofs.FillLaws.{summaries_past, summaries_all}
use Rattle.tv_blur.proofs.merge.put_summaries.Goals as goal
use Rattle.tv_blur.proofs.merge.put_summaries.Goals.{then-is_summary, else-is_summary}

pub loop-w-init : goal.loop-w-init
loop-w-init c =
    summaries_none c.args.classes.now c.args.s.now c.args.t.now c.size.ensures.kept c.requires.size c.requires.over
    c.requires.fresh c.requires.plain c.requires.blank

pub is_summary-requires-clause-within : goal.is_summary-requires-clause-within
is_summary-requires-clause-within c k d lt =
    let Within : List ℕ → Type 0 = All (λ u. u < c.args.s.now.size)
    in let within : Within c.index-classes-w.result
    = subst Within (sym c.index-classes-w.is) (c.requires.classes.within c.loop-w.w c.index-classes-w.result c.loop-w-test.true)
    in let long : length c.summary_row-summaries.result ≡ c.args.s.now.size
    = ap length c.summary_row-summaries.ensures ∙ length-summary_row c.args.s.now
    in omega (arith, long, within k d lt)

pub loop-w-preserved : goal.loop-w-preserved
loop-w-preserved c =
    let members : c.index-classes-w.result ≡ class_at c.args.classes.now c.loop-w.w
    = get_or_read c.args.classes.now c.loop-w.w c.index-classes-w.result c.loop-w-test.true c.index-classes-w.is []
    in let is : c.is_summary.result ≡ is_merged_summary c.args.s.now (class_at c.args.classes.now c.loop-w.w)
    = c.is_summary.ensures c.args.s.now c.summary_row-summaries.ensures ∙ ap (is_merged_summary c.args.s.now) members
    in elim c.if-is_summary.branch [
      | then-is_summary w ↦ subst (HasSummaries c.args.classes.now c.args.s.now (c.loop-w.w + 1)) (sym w.t-is)
          (summaries_more c.args.classes.now c.args.s.now c.loop-w.w c.loop-w.t w.set_summary.new.self true
          c.loop-w.invariant c.loop-w-test.true w.set_summary.ensures.value w.set_summary.ensures.kept
          (sym w.if-is_summary.true ∙ is))
      | else-is_summary w ↦ subst (HasSummaries c.args.classes.now c.args.s.now (c.loop-w.w + 1)) (sym w.t-is)
          (summaries_past c.args.classes.now c.args.s.now c.loop-w.w c.loop-w.t c.loop-w.invariant
          (sym w.if-is_summary.false ∙ is))
    ]

pub returns-clause-merged : goal.returns-clause-merged
returns-clause-merged c = summaries_all c.args.classes.now c.args.s.now c.loop-w.w c.loop-w.t c.loop-w.invariant c.loop-w-test.false
