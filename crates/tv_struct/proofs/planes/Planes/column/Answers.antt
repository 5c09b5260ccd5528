use Rattle.std.proofs.Common.{ℕ, ◌≡◌, ◌+◌, ◌*◌, ◌∙◌, List, map, ap, arith}
use Rattle.std.specs.List.{range_with_len}
use Rattle.tv_kleene.specs.declared.K3.{K3}
use Rattle.tv_row.specs.Places.{value_in}
use Rattle.tv_struct.specs.LayoutForm.{words_for}
use Rattle.tv_struct.proofs.HeldLaws.{now_listed, now_column}
use Rattle.tv_struct.proofs.planes.Planes.column.Goals as goal

pub start-start-requires-clause-predicate : goal.start-start-requires-clause-predicate
start-start-requires-clause-predicate c = now_listed c.self.inside.layout c.self.inside.words.words c.args.self.now c.self.view_is c.self.invariant.table c.args.p.0 c.requires.predicate

pub column-requires-clause-words : goal.column-requires-clause-words
column-requires-clause-words c =
    let e : c.size-size.result * c.width.result ≡ c.self.inside.layout.size * words_for c.self.inside.layout.size
    = ap (λ n. n * c.width.result) c.size-size.ensures.size ∙ ap (λ n. c.self.inside.layout.size * n) c.width.ensures
    in omega (
      arith,
      e,
      (now_column c.self.inside.layout c.self.inside.words.words c.args.self.now c.self.view_is c.self.invariant.table c.args.p.0 c.requires.predicate c.requires.arity c.args.column c.start-start.result
          c.requires.column c.start-start.ensures).0,
    )

pub returns : goal.returns
returns c =
    let Column : ℕ → ℕ → List K3
    = λ size width. map (λ u. value_in c.self.inside.words.words (c.start-start.result + u * width) c.args.column) (range_with_len 0 size)
    in c.column.ensures
    ∙ ap (λ n. Column n c.width.result) c.size-size.ensures.size ∙ ap (λ n. Column c.self.inside.layout.size n) c.width.ensures
    ∙ (now_column c.self.inside.layout c.self.inside.words.words c.args.self.now c.self.view_is c.self.invariant.table c.args.p.0 c.requires.predicate c.requires.arity c.args.column c.start-start.result
    c.requires.column c.start-start.ensures).1
