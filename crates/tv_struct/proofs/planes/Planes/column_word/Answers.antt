use Rattle.std.proofs.Common.{◌≡◌, ◌<◌, ◌+◌, ◌*◌, ◌∙◌, ap, arith}
use Rattle.tv_row.specs.Places.{value_in}
use Rattle.tv_struct.specs.LayoutForm.{words_for}
use Rattle.tv_structure_form.specs.TableForm.{TableForm}
use Rattle.tv_struct.proofs.HeldLaws.{now_listed, now_row, now_line, now_column_part}
use Rattle.tv_struct.proofs.planes.Planes.column_word.Goals as goal

pub start-start-requires-clause-predicate : goal.start-start-requires-clause-predicate
start-start-requires-clause-predicate c = now_listed c.self.inside.layout c.self.inside.words.words c.args.self.now c.self.view_is c.self.invariant.table c.args.p.0 c.requires.predicate

pub start-start-requires-clause-row : goal.start-start-requires-clause-row
start-start-requires-clause-row c =
    now_row c.self.inside.layout c.self.inside.words.words c.args.self.now c.self.view_is c.self.invariant.table c.args.p.0 c.requires.predicate
    (64 * c.args.chunk)
    (now_line c.self.inside.layout c.self.inside.words.words c.args.self.now c.self.view_is c.self.invariant.table c.args.p.0 c.requires.predicate
    c.requires.arity (64 * c.args.chunk) c.requires.chunk)

pub column_word-requires-clause-words : goal.column_word-requires-clause-words
column_word-requires-clause-words c =
    let size : c.size-size.result ≡ c.args.self.now.size
    = c.size-size.ensures.size ∙ ap (λ (t : TableForm). t.size) c.self.view_is
    in let e : c.min-rows.result * c.width.result ≡ c.min-rows.result * words_for c.self.inside.layout.size
    = ap (λ n. c.min-rows.result * n) c.width.ensures
    in omega (
      arith,
      e,
      (now_column_part c.self.inside.layout c.self.inside.words.words c.args.self.now c.self.view_is c.self.invariant.table c.args.p.0 c.requires.predicate
          c.requires.arity c.args.column (64 * c.args.chunk) c.min-rows.result c.start-start.result c.requires.column
          (omega (arith, c.min-rows.ensures, size, c.requires.chunk)) (omega (arith, c.min-rows.ensures, size, c.requires.chunk))
          c.start-start.ensures).0,
    )

pub returns-clause-values : goal.returns-clause-values
returns-clause-values c = λ i low within.
    let size : c.size-size.result ≡ c.args.self.now.size
    = c.size-size.ensures.size ∙ ap (λ (t : TableForm). t.size) c.self.view_is
    in let lt : i < c.min-rows.result = omega (arith, c.min-rows.ensures, size, within, low)
    in c.column_word.ensures.values i lt
    ∙ ap (λ n. value_in c.self.inside.words.words (c.start-start.result + i * n) c.args.column) c.width.ensures
    ∙ (now_column_part c.self.inside.layout c.self.inside.words.words c.args.self.now c.self.view_is c.self.invariant.table c.args.p.0 c.requires.predicate
    c.requires.arity c.args.column (64 * c.args.chunk) c.min-rows.result c.start-start.result c.requires.column
    (omega (arith, c.min-rows.ensures, size, c.requires.chunk)) (omega (arith, c.min-rows.ensures, size, c.requires.chunk))
    c.start-start.ensures).1 i lt
