use Rattle.std.proofs.Common.{◌≡◌, ◌<◌, ◌+◌, ◌*◌, ◌/◌, ◌%◌, ◌∙◌, ap, sym, subst, get_or, arith}
use Rattle.tv_kleene.specs.declared.K3.TheVariants.{No}
use Rattle.tv_row.specs.Places.{word_at}
use Rattle.tv_struct.proofs.HeldLaws.{cells_room, now_listed, now_row, now_cell, now_columns, words_small}
use Rattle.tv_struct.proofs.planes.Planes.word.Goals as goal

pub start-start-requires-clause-predicate : goal.start-start-requires-clause-predicate
start-start-requires-clause-predicate c = now_listed c.self.inside.layout c.self.inside.words.words c.args.self.now c.self.view_is c.self.invariant.table c.args.p.0 c.requires.predicate

pub start-start-requires-clause-row : goal.start-start-requires-clause-row
start-start-requires-clause-row c = now_row c.self.inside.layout c.self.inside.words.words c.args.self.now c.self.view_is c.self.invariant.table c.args.p.0 c.requires.predicate c.args.row c.requires.row

pub front-requires : goal.front-requires
front-requires c = omega (
  arith,
  (now_cell c.self.inside.layout c.self.inside.words.words c.args.self.now c.self.view_is c.self.invariant.table c.args.p.0 c.requires.predicate c.args.row c.requires.row
      (64 * c.args.chunk) c.start-start.result c.requires.chunk c.start-start.ensures).0,
)

pub overflow_add-start : goal.overflow_add-start
overflow_add-start c = omega (
  arith,
  (now_cell c.self.inside.layout c.self.inside.words.words c.args.self.now c.self.view_is c.self.invariant.table c.args.p.0 c.requires.predicate c.args.row c.requires.row
      (64 * c.args.chunk) c.start-start.result c.requires.chunk c.start-start.ensures).0,
  c.self.invariant.table.as_many,
  (words_small c.self.inside.layout c.self.invariant.table.layout).1,
)

pub returns-clause-values : goal.returns-clause-values
returns-clause-values c = λ i lt within.
    let start = c.start-start.result
    in let words = c.self.inside.words.words
    in let at : start + (64 * c.args.chunk + i) / 64 ≡ start + c.args.chunk = omega arith
    in let low : (64 * c.args.chunk + i) % 64 ≡ i = omega arith
    in let room : i < c.self.inside.words.cells
    = subst (λ n. i < n) (sym c.self.invariant.room)
    (rw (← low)
    (cells_room c.self.inside.layout.size (get_or c.self.inside.layout.arities c.args.p.0 0) (64 * c.args.chunk + i)
    (omega (arith, within, now_columns c.self.inside.layout c.self.inside.words.words c.args.self.now c.self.view_is c.self.invariant.table c.args.p.0 c.requires.predicate c.args.row c.requires.row))))
    in c.front.ensures.values i room
    ∙ sym (ap (λ p. get_or (word_at words p) ((64 * c.args.chunk + i) % 64) No) at
    ∙ ap (λ j. get_or (word_at words (start + c.args.chunk)) j No) low)
    ∙ (now_cell c.self.inside.layout c.self.inside.words.words c.args.self.now c.self.view_is c.self.invariant.table c.args.p.0 c.requires.predicate c.args.row c.requires.row
    (64 * c.args.chunk + i) start within c.start-start.ensures).1
