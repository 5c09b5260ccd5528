use Rattle.std.proofs.Common.{◌∙◌, List, ap}
use Rattle.std.specs.BTreeSet.{insert_key}
use Rattle.tv_join.specs.declared.places.Place.{Place}
use Rattle.tv_join.proofs.Noting.{notes-inserted, place_cmp}
use Rattle.tv_join.proofs.places.Places.note.Goals as goal

pub returns : goal.returns
returns c =
    notes-inserted c.args.place c.args.self.now c.insert.new.self.keys
    (c.in_ok-insert.ensures.keys
    ∙ ap (λ (ks : List Place). insert_key place_cmp ks c.args.place) c.self.view_is)
