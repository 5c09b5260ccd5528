use Rattle.std.proofs.Common.{◌∙◌, rules, subst, sym}
use Rattle.tv_lemmas.proofs.Bools.{isnt_so}
use Rattle.tv_model.specs.Program.{program_of}
use Rattle.tv_model.specs.Run.{IsStart}
use Rattle.tv_replay_judge.specs.Ready.{IsReadyToEvaluate}
use Rattle.tv_two_valued.specs.TwoValued.{heap_of}
use Rattle.tv_heaps.proofs.JudgedLaws.{alike_unmet, over_program, ready_book, unlike_none}
use Rattle.tv_heaps.proofs.judged.is_start.Goals as goal

pub first_unlike-requires : goal.first_unlike-requires
first_unlike-requires c = record {
  ready = ready_book c.args.book.now c.args.scratch.now c.args.t.now c.requires.ready c.requires.over
      c.size.ensures.kept
      c.requires.two_valued;
}

pub first_unmet-requires-clause-ready : goal.first_unmet-requires-clause-ready
first_unmet-requires-clause-ready c =
    subst (IsReadyToEvaluate (program_of c.args.book.now.program.now) c.args.t.now) (sym c.first_unlike.ensures.scratch)
    (ready_book c.args.book.now c.args.scratch.now c.args.t.now c.requires.ready c.requires.over c.size.ensures.kept
    c.requires.two_valued)

pub returns-then-is_some-clause-start : goal.returns-then-is_some-clause-start
returns-then-is_some-clause-start c =
    isnt_so (IsStart (program_of c.args.book.now.program.now) (heap_of c.args.t.now))
    (unlike_none (program_of c.args.book.now.program.now) c.args.t.now c.first_unlike.result
    c.first_unlike.ensures.first
    (sym c.is_some.ensures ∙ c.if-is_some.true))

pub returns-clause-start : goal.returns-clause-start
returns-clause-start c =
    alike_unmet (program_of c.args.book.now.program.now) c.args.t.now c.size.ensures.kept
    (over_program c.args.book.now c.args.t.now c.requires.over, c.requires.unmarked) c.first_unlike.result
    c.first_unlike.ensures.first (sym c.is_some.ensures ∙ c.if-is_some.false) c.in_ok-unmet.unmet
    c.in_ok-unmet.ensures.first c.is_none.result (search rules)
