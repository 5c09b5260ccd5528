use Rattle.std.proofs.Common.{◌≡◌, ◌+◌, ◌*◌, ◌/◌, ◌%◌, ◌∙◌, List, [], ap, sym, subst, arith}
use Rattle.std.proofs.lemmas.List.{get_or_read}
use Rattle.tv_kleene.specs.declared.K3.{K3}
use Rattle.tv_row.specs.Packed.{PackedForm, HoldsPacked, unpacked}
use Rattle.tv_row.specs.Places.{with_value}
use Rattle.tv_row.proofs.PackedLaws.{seen_place_within, seen_many, seen_cells, seen_long, cell_holds, cell_is}
use Rattle.tv_row.proofs.PackedLaws.{placed_put}
use Rattle.tv_row.proofs.packed.PackedWords.put.Goals as goal

pub index-requires : goal.index-requires
index-requires c =
    let at : c.place-at.result ≡ (c.args.start + c.args.column / 64) * c.self.inside.cells + c.args.column % 64
    = c.place-at.ensures ∙ ap (λ n. (c.args.start + c.args.column / 64) * n + c.args.column % 64) (seen_cells c.self.inside.items.items c.self.inside.cells c.self.inside.count c.args.self.now c.self.view_is)
    in omega (
      arith,
      at,
      c.self.inside.items.ok,
      seen_place_within c.self.inside.items.items c.self.inside.cells c.self.inside.count c.args.self.now c.self.view_is c.self.invariant (c.args.start + c.args.column / 64) (c.args.column % 64) c.requires.word c.requires.room,
    )

pub index_mut-requires : goal.index_mut-requires
index_mut-requires c =
    let at : c.place-at.result ≡ (c.args.start + c.args.column / 64) * c.self.inside.cells + c.args.column % 64
    = c.place-at.ensures ∙ ap (λ n. (c.args.start + c.args.column / 64) * n + c.args.column % 64) (seen_cells c.self.inside.items.items c.self.inside.cells c.self.inside.count c.args.self.now c.self.view_is)
    in omega (
      arith,
      at,
      c.self.inside.items.ok,
      seen_place_within c.self.inside.items.items c.self.inside.cells c.self.inside.count c.args.self.now c.self.view_is c.self.invariant (c.args.start + c.args.column / 64) (c.args.column % 64) c.requires.word c.requires.room,
    )

pub invariant_of-self : goal.invariant_of-self
invariant_of-self c =
    let at : c.place-at.result ≡ (c.args.start + c.args.column / 64) * c.self.inside.cells + c.args.column % 64
    = c.place-at.ensures ∙ ap (λ n. (c.args.start + c.args.column / 64) * n + c.args.column % 64) (seen_cells c.self.inside.items.items c.self.inside.cells c.self.inside.count c.args.self.now c.self.view_is)
    in let Holds : List (List K3) → Type 0 = λ ws. HoldsPacked ws c.self.inside.cells c.self.inside.count
    in subst Holds
    (placed_put c.self.inside.items.items ((c.args.start + c.args.column / 64) * c.self.inside.cells + c.args.column % 64) c.place-at.result
    c.index.result.now c.with.result c.args.k at
    (get_or_read c.self.inside.items.items (c.place-at.result / 64) c.index.result.now
    (omega (
      arith,
      at,
      seen_place_within c.self.inside.items.items c.self.inside.cells c.self.inside.count c.args.self.now c.self.view_is c.self.invariant (c.args.start + c.args.column / 64) (c.args.column % 64) c.requires.word c.requires.room,
    )) c.index.ensures [])
    c.with.ensures)
    (cell_holds c.self.inside.items.items c.self.inside.cells c.self.inside.count c.self.invariant (c.args.start + c.args.column / 64) (c.args.column % 64) c.args.k
    (omega (arith, c.requires.word, seen_many c.self.inside.items.items c.self.inside.cells c.self.inside.count c.args.self.now c.self.view_is)) (omega (arith, c.requires.room, seen_cells c.self.inside.items.items c.self.inside.cells c.self.inside.count c.args.self.now c.self.view_is)))

pub returns-clause-value : goal.returns-clause-value
returns-clause-value c =
    let at : c.place-at.result ≡ (c.args.start + c.args.column / 64) * c.self.inside.cells + c.args.column % 64
    = c.place-at.ensures ∙ ap (λ n. (c.args.start + c.args.column / 64) * n + c.args.column % 64) (seen_cells c.self.inside.items.items c.self.inside.cells c.self.inside.count c.args.self.now c.self.view_is)
    in ap (λ ws. record { cells = c.self.inside.cells; words = ws })
    (ap (λ ws. unpacked ws c.self.inside.cells c.self.inside.count)
    (sym (placed_put c.self.inside.items.items ((c.args.start + c.args.column / 64) * c.self.inside.cells + c.args.column % 64) c.place-at.result
    c.index.result.now c.with.result c.args.k at
    (get_or_read c.self.inside.items.items (c.place-at.result / 64) c.index.result.now
    (omega (
      arith,
      at,
      seen_place_within c.self.inside.items.items c.self.inside.cells c.self.inside.count c.args.self.now c.self.view_is c.self.invariant (c.args.start + c.args.column / 64) (c.args.column % 64) c.requires.word c.requires.room,
    )) c.index.ensures [])
    c.with.ensures))
    ∙ cell_is c.self.inside.items.items c.self.inside.cells c.self.inside.count c.self.invariant (c.args.start + c.args.column / 64) (c.args.column % 64) c.args.k
    (omega (arith, c.requires.word, seen_many c.self.inside.items.items c.self.inside.cells c.self.inside.count c.args.self.now c.self.view_is)) (omega (arith, c.requires.room, seen_cells c.self.inside.items.items c.self.inside.cells c.self.inside.count c.args.self.now c.self.view_is)))
    ∙ ap (λ (f : PackedForm). record { cells = f.cells; words = with_value f.words c.args.start c.args.column c.args.k }) c.self.view_is

pub returns-clause-words : goal.returns-clause-words
returns-clause-words c = seen_long c.self.inside.items.items c.self.inside.cells c.self.inside.count c.args.self.now c.self.view_is
