use Rattle.std.proofs.Common.{ℕ, [], ◌∷◌, ◌++◌, ◌≡◌, ◌∙◌, ◌<◌, List, length, set, Equal, ap}
use Rattle.std.specs.List.{insert}
use Rattle.std.proofs.lemmas.List.{get_or_read}
use Rattle.tv_blur.specs.Names.{name_cmp}
use Rattle.tv_blur.specs.Naming.{class_name, canonical_name_in}
use Rattle.tv_blur.proofs.Gathered.{gathered_known, gathered_new}
use Rattle.tv_blur.proofs.classes.gather.Goals as goal

pub returns-in_ok-add : goal.returns-in_ok-add
returns-in_ok-add c =
    let classes : List (List ℕ) = c.args.classes.now.items
    in let place : ℕ = c.place_for-place.result
    in let known : (place < length classes)
    × (name_cmp (class_name c.args.names.now classes place) (canonical_name_in c.args.names.now c.args.u) ≡ Equal)
    = rw c.deref-2.ensures.value at c.if-has_name.ensures
    in gathered_known c.args.names.now c.args.u place classes (set classes place c.add.new.self) c.requires.gathered known.0
    known.1
    (ap (λ members. set classes place members)
    (c.in_ok-add.ensures
    ∙ ap (λ members. members ++ c.args.u ∷ [])
    (get_or_read classes place c.index_mut.result.now known.0 c.index_mut.ensures.value [])))

pub returns-in_ok-insert : goal.returns-in_ok-insert
returns-in_ok-insert c =
    let classes : List (List ℕ) = c.args.classes.now.items
    in let place : ℕ = c.place_for-place.result
    in gathered_new c.args.names.now c.args.u place classes c.insert.new.self.items c.requires.gathered
    (rw c.deref.ensures.value at c.place_for-place.ensures.within) (rw c.deref.ensures.value at c.place_for-place.ensures.below)
    (rw c.deref.ensures.value at c.place_for-place.ensures.others) (rw c.deref-2.ensures.value at c.if-has_name.ensures)
    (c.in_ok-insert.ensures.items ∙ ap (λ members. insert classes place members) c.of.ensures)
