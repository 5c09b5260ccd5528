use Rattle.std.proofs.Common.{◌↔◌, IsTrue, refl, subst}
use Rattle.std.proofs.lemmas.Bool.{false≢true}
use Rattle.tv_embedding_laws.specs.Embedding.{IsHeapOf}
use Rattle.tv_model.specs.Program.{program_of}
use Rattle.tv_model.specs.Run.{IsStart}
use Rattle.tv_openings.specs.Gaps.{IsGapIn}
use Rattle.tv_structure_form.specs.StructureForm.{structure_of}
use Rattle.tv_two_valued.specs.TwoValued.{heap_of}
use Rattle.tv_heaps.specs.Listed.{wish_of}
use Rattle.tv_heaps.proofs.ListedLaws.{bare_leaf, over_vocab, same_ahead, split_gap, split_leaf}
use Rattle.tv_heaps.proofs.ListedLaws.{two_valued_opening}
use Rattle.tv_heaps.proofs.listed.sort_in.Goals as goal

pub is_start_in-requires-clause-over : goal.is_start_in-requires-clause-over
is_start_in-requires-clause-over c = over_vocab c.args.book.now c.args.t c.requires.waiting.over

pub is_start_in-requires-clause-unmarked : goal.is_start_in-requires-clause-unmarked
is_start_in-requires-clause-unmarked c = c.requires.waiting.unmarked

pub is_start_in-requires-clause-two_valued : goal.is_start_in-requires-clause-two_valued
is_start_in-requires-clause-two_valued c =
    two_valued_opening (wish_of c.args.book.now c.args.wanted.now) c.args.t c.requires.waiting
    (subst (IsGapIn c.args.t) c.in_default.is c.first_gap.ensures)

pub returns-in-Some-clause-split : goal.returns-in-Some-clause-split
returns-in-Some-clause-split c =
    split_gap (wish_of c.args.book.now c.args.wanted.now) c.args.t c.args.listed.now _ c.in-Some.gap c.requires.waiting
    c.in-Some.ensures c.requires.under_way c.in_ok-push_both.ensures refl

pub returns-then-not-branch-clause-split : goal.returns-then-not-branch-clause-split
returns-then-not-branch-clause-split c =
    let x = wish_of c.args.book.now c.args.wanted.now
    in let two = two_valued_opening x c.args.t c.requires.waiting
    (subst (IsGapIn c.args.t) c.in_default.is c.first_gap.ensures)
    in let start = subst (λ b. IsTrue b ↔ (IsStart x.program (heap_of c.args.t)
    × IsHeapOf (heap_of c.args.t) (structure_of x.above))) c.if-not-branch.true c.in_ok-is_start_in.ensures.start
    in same_ahead x c.args.t c.args.listed.now c.args.listed.now c.requires.under_way refl refl
    (bare_leaf x c.args.t c.requires.ready.valid c.requires.waiting two (λ both. false≢true (start.1 both)))

pub returns-clause-split : goal.returns-clause-split
returns-clause-split c =
    let x = wish_of c.args.book.now c.args.wanted.now
    in let two = two_valued_opening x c.args.t c.requires.waiting
    (subst (IsGapIn c.args.t) c.in_default.is c.first_gap.ensures)
    in let start = subst (λ b. IsTrue b ↔ (IsStart x.program (heap_of c.args.t)
    × IsHeapOf (heap_of c.args.t) (structure_of x.above))) c.if-not-branch.false c.in_ok-is_start_in.ensures.start
    in split_leaf x c.args.t c.args.listed.now _ c.requires.waiting two c.requires.under_way (start.0 refl).0
    (start.0 refl).1
    refl c.in_ok-push.ensures
