use Rattle.std.proofs.Common.{◌+◌, ◌*◌, ◌/◌, ◌%◌, ◌∙◌, ◌≡◌, [], get_or, inl, ap, arith}
use Rattle.std.proofs.lemmas.List.{get_or_read}
use Rattle.tv_kleene.specs.declared.K3.TheVariants.{No}
use Rattle.tv_row.proofs.PackedLaws.{seen_place_within, seen_cells, seen_value}
use Rattle.tv_row.proofs.packed.PackedWords.pushed_cell.Goals as goal

pub index-requires : goal.index-requires
index-requires c =
    let at : c.place-at.result ≡ (c.args.start + c.args.column / 64) * c.self.inside.cells + c.args.column % 64
    = c.place-at.ensures ∙ ap (λ n. (c.args.start + c.args.column / 64) * n + c.args.column % 64) (seen_cells c.self.inside.items.items c.self.inside.cells c.self.inside.count c.args.self.now c.self.view_is)
    in omega (
      arith,
      at,
      c.self.inside.items.ok,
      seen_place_within c.self.inside.items.items c.self.inside.cells c.self.inside.count c.args.self.now c.self.view_is c.self.invariant (c.args.start + c.args.column / 64) (c.args.column % 64) c.requires.word c.requires.room,
    )

pub returns-clause-last : goal.returns-clause-last
returns-clause-last c =
    let at : c.place-at.result ≡ (c.args.start + c.args.column / 64) * c.self.inside.cells + c.args.column % 64
    = c.place-at.ensures ∙ ap (λ n. (c.args.start + c.args.column / 64) * n + c.args.column % 64) (seen_cells c.self.inside.items.items c.self.inside.cells c.self.inside.count c.args.self.now c.self.view_is)
    in let low : c.place-at.result % 64 + 0 ≡ c.place-at.result % 64 = omega arith
    in c.with_run.ensures.taken 0 (omega arith) ∙ ap (λ n. get_or c.index.result.now n No) low
    ∙ seen_value c.self.inside.items.items c.self.inside.cells c.self.inside.count c.args.self.now c.self.view_is c.self.invariant c.args.start c.args.column c.place-at.result c.index.result.now c.requires.word c.requires.room
    c.place-at.ensures
    (get_or_read c.self.inside.items.items (c.place-at.result / 64) c.index.result.now
    (omega (
      arith,
      at,
      seen_place_within c.self.inside.items.items c.self.inside.cells c.self.inside.count c.args.self.now c.self.view_is c.self.invariant (c.args.start + c.args.column / 64) (c.args.column % 64) c.requires.word c.requires.room,
    )) c.index.ensures [])

pub returns-clause-moved : goal.returns-clause-moved
returns-clause-moved c = λ i lt. c.with_run.ensures.kept i (inl (omega (arith, lt))) ∙ c.from.ensures.values i (omega (arith, lt))
