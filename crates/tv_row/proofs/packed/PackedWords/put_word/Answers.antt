use Rattle.std.proofs.Common.{◌*◌, ◌/◌, ◌∙◌, [], set, ap, arith}
use Rattle.std.proofs.lemmas.List.{get_or_read}
use Rattle.tv_row.specs.Packed.{PackedForm}
use Rattle.tv_row.proofs.PackedLaws.{seen_place_small, seen_item_within, seen_many, seen_cells, run_holds}
use Rattle.tv_row.proofs.PackedLaws.{run_is}
use Rattle.tv_row.proofs.packed.PackedWords.put_word.Goals as goal

pub overflow_mul-at : goal.overflow_mul-at
overflow_mul-at c = omega (arith, seen_place_small c.self.inside.items.items c.self.inside.cells c.self.inside.count c.args.self.now c.self.view_is c.self.invariant c.args.place c.requires.place)

pub index-requires : goal.index-requires
index-requires c =
    omega (arith, c.self.inside.items.ok, seen_item_within c.self.inside.items.items c.self.inside.cells c.self.inside.count c.args.self.now c.self.view_is c.self.invariant c.args.place c.requires.place)

pub index_mut-requires : goal.index_mut-requires
index_mut-requires c =
    omega (arith, c.self.inside.items.ok, seen_item_within c.self.inside.items.items c.self.inside.cells c.self.inside.count c.args.self.now c.self.view_is c.self.invariant c.args.place c.requires.place)

pub invariant_of-self : goal.invariant_of-self
invariant_of-self c =
    run_holds c.self.inside.items.items c.self.inside.cells c.self.inside.count c.self.invariant c.args.place c.args.word c.with_run.result c.index.result.now
    (omega (arith, c.requires.place, seen_many c.self.inside.items.items c.self.inside.cells c.self.inside.count c.args.self.now c.self.view_is)) c.requires.long c.with_run.ensures.long
    (get_or_read c.self.inside.items.items ((c.args.place * c.self.inside.cells) / 64) c.index.result.now
    (seen_item_within c.self.inside.items.items c.self.inside.cells c.self.inside.count c.args.self.now c.self.view_is c.self.invariant c.args.place c.requires.place) c.index.ensures [])
    (λ i past low. c.requires.unused i (omega (arith, past, seen_cells c.self.inside.items.items c.self.inside.cells c.self.inside.count c.args.self.now c.self.view_is)) low)
    c.with_run.ensures.taken c.with_run.ensures.kept

pub returns : goal.returns
returns c =
    ap (λ ws. record { cells = c.self.inside.cells; words = ws })
    (run_is c.self.inside.items.items c.self.inside.cells c.self.inside.count c.self.invariant c.args.place c.args.word c.with_run.result c.index.result.now
    (omega (arith, c.requires.place, seen_many c.self.inside.items.items c.self.inside.cells c.self.inside.count c.args.self.now c.self.view_is)) c.requires.long c.with_run.ensures.long
    (get_or_read c.self.inside.items.items ((c.args.place * c.self.inside.cells) / 64) c.index.result.now
    (seen_item_within c.self.inside.items.items c.self.inside.cells c.self.inside.count c.args.self.now c.self.view_is c.self.invariant c.args.place c.requires.place) c.index.ensures [])
    (λ i past low. c.requires.unused i (omega (arith, past, seen_cells c.self.inside.items.items c.self.inside.cells c.self.inside.count c.args.self.now c.self.view_is)) low)
    c.with_run.ensures.taken c.with_run.ensures.kept)
    ∙ ap (λ (f : PackedForm). record { cells = f.cells; words = set f.words c.args.place c.args.word }) c.self.view_is
