use Rattle.std.proofs.Common.{ap, get_or, set, arith, ◌∙◌}
use Rattle.tv_kleene.specs.declared.K3.TheVariants.{No}
use Rattle.tv_row.proofs.PlaceLaws.{length-row_of}
use Rattle.tv_row.proofs.RowOps.{length_seen}
use Rattle.tv_row.proofs.Chunks.{put-here, put-holds, put-elsewhere}
use Rattle.tv_row.proofs.row.Row.put_word.Goals as goal

pub places_in-count-requires : goal.places_in-count-requires
places_in-count-requires c = omega (arith, c.self.invariant.small, length_seen _ _ _ c.self.view_is)

pub with_run-requires-clause-some : goal.with_run-requires-clause-some
with_run-requires-clause-some c = omega (arith, length_seen _ _ _ c.self.view_is)

pub listed : goal.listed
listed c = omega (arith, c.self.invariant.small, c.self.invariant.as_many, length_seen _ _ _ c.self.view_is)

pub bounds-self-inside-chunk : goal.bounds-self-inside-chunk
bounds-self-inside-chunk c = omega (arith, c.self.invariant.small, length_seen _ _ _ c.self.view_is)

pub invariant_of-self : goal.invariant_of-self
invariant_of-self c =
    put-holds c.self.inside.words c.self.inside.size c.args.chunk c.places_in-count.result c.args.word c.with_run.result
    c.self.invariant (omega (arith, length_seen _ _ _ c.self.view_is)) c.places_in-count.ensures c.with_run.ensures.long
    c.with_run.ensures.taken (λ j out. c.with_run.ensures.kept j out ∙ ap (λ w. get_or w j No) c.of.ensures)

pub returns-clause-size : goal.returns-clause-size
returns-clause-size c = omega (
  arith,
  length_seen _ _ _ c.self.view_is,
  length-row_of (set c.self.inside.words c.args.chunk c.with_run.result) c.self.inside.size 0,
)

pub returns-clause-values : goal.returns-clause-values
returns-clause-values c = λ i lt within.
    put-here c.self.inside.words c.self.inside.size c.args.chunk c.places_in-count.result c.args.word c.with_run.result
    c.self.invariant (omega (arith, length_seen _ _ _ c.self.view_is)) c.places_in-count.ensures c.with_run.ensures.long
    c.with_run.ensures.taken (λ j out. c.with_run.ensures.kept j out ∙ ap (λ w. get_or w j No) c.of.ensures)
    i lt (omega (arith, within, length_seen _ _ _ c.self.view_is))

pub returns-clause-others : goal.returns-clause-others
returns-clause-others c = λ u out.
    put-elsewhere c.self.inside.words c.self.inside.size c.args.chunk c.places_in-count.result c.args.word c.with_run.result
    c.self.invariant (omega (arith, length_seen _ _ _ c.self.view_is)) c.places_in-count.ensures c.with_run.ensures.long
    c.with_run.ensures.taken (λ j out. c.with_run.ensures.kept j out ∙ ap (λ w. get_or w j No) c.of.ensures)
    u out ∙ ap (λ values. get_or values u No) c.self.view_is
