use Rattle.std.proofs.Common.{◌≡◌, ◌∙◌, List, [], ◌∷◌, ◌++◌, ap, map, true, false}
use Rattle.std.specs.List.{list_any}
use Rattle.std.proofs.lemmas.List.{map-append}
use Rattle.tv_structure_form.specs.StructureForm.{structure_of, value_at}
use Rattle.tv_kleene.specs.Kleene.{is_yes}
use Rattle.tv_focus_laws.specs.FocusAtoms.{AnchorsForm, is_anchored, anchors_of, ordinary}
use Rattle.tv_focus.specs.declared.anchors.Place.TheVariants.{First, Second}
use Rattle.tv_focus.specs.Anchored.{pair_of}
use Rattle.tv_focus.specs.Seen.{anchors_form}
use Rattle.tv_focus.proofs.Given.{within_of, by_first, by_second}
use Rattle.tv_focus.proofs.anchors.by_binary.Goals as goal

pub binary_anchors-requires-clause-anchors : goal.binary_anchors-requires-clause-anchors
binary_anchors-requires-clause-anchors c =
    rw (c.deref.ensures.value, c.in-Some-None.ensures.none.1, c.as_slice.ensures.value)
    (within_of c.args.s.now.size (map anchors_form c.args.given.now.items) c.in-Two.v.0 c.requires.within)

pub binary_anchors-requires-in-None-Some-clause-anchors :
    goal.binary_anchors-requires-in-None-Some-clause-anchors
binary_anchors-requires-in-None-Some-clause-anchors c =
    rw (c.deref-in-None-Some.ensures.value, c.in-None-Some.ensures'.none.1, c.as_slice-in-Two.ensures.value)
    (within_of c.args.s.now.size (map anchors_form c.args.given.now.items) c.in-Two.w.0 c.requires.within)

pub returns-in_ok-push-in-Some-None : goal.returns-in_ok-push-in-Some-None
returns-in_ok-push-in-Some-None c =
    let given : List AnchorsForm = map anchors_form c.args.given.now.items
    in let first : is_anchored given c.in-Two.v.0 ≡ true = rw (← c.as_slice.ensures.value) c.in-Some-None.ensures.none.0
    in let second : is_anchored given c.in-Two.w.0 ≡ false
    = rw (← c.as_slice-in-Two.ensures.value) c.in-Some-None.ensures'.none
    in rw (c.in-Two.is, by_first (structure_of c.args.s.now) given c.args.atom.pred.0 c.in-Two.v.0 c.in-Two.w.0 first second)
    (ap (map anchors_form) c.in_ok-push-in-Some-None.ensures.items
    ∙ map-append anchors_form c.args.given.now.items _
    ∙ ap (λ us. given ++ record { var = c.in-Two.w.0; anchors = us } ∷ [])
    (c.in_ok-individuals-in-Some-None.ensures
    ∙ ap (λ anchors. ordinary (structure_of c.args.s.now) (λ u. list_any (λ a. is_yes (value_at c.args.s.now c.args.atom.pred.0 (pair_of First a u))) anchors))
    (c.deref.ensures.value ∙ c.in-Some-None.ensures.none.1
    ∙ ap (λ xs. anchors_of (map anchors_form xs) c.in-Two.v.0) c.as_slice.ensures.value)))

pub returns-in_ok-push-in-None-Some : goal.returns-in_ok-push-in-None-Some
returns-in_ok-push-in-None-Some c =
    let given : List AnchorsForm = map anchors_form c.args.given.now.items
    in let first : is_anchored given c.in-Two.v.0 ≡ false = rw (← c.as_slice.ensures.value) c.in-None-Some.ensures.none
    in let second : is_anchored given c.in-Two.w.0 ≡ true
    = rw (← c.as_slice-in-Two.ensures.value) c.in-None-Some.ensures'.none.0
    in rw (c.in-Two.is, by_second (structure_of c.args.s.now) given c.args.atom.pred.0 c.in-Two.v.0 c.in-Two.w.0 first second)
    (ap (map anchors_form) c.in_ok-push-in-None-Some.ensures.items
    ∙ map-append anchors_form c.args.given.now.items _
    ∙ ap (λ us. given ++ record { var = c.in-Two.v.0; anchors = us } ∷ [])
    (c.in_ok-individuals-in-None-Some.ensures
    ∙ ap (λ anchors. ordinary (structure_of c.args.s.now) (λ u. list_any (λ a. is_yes (value_at c.args.s.now c.args.atom.pred.0 (pair_of Second a u))) anchors))
    (c.deref-in-None-Some.ensures.value ∙ c.in-None-Some.ensures'.none.1
    ∙ ap (λ xs. anchors_of (map anchors_form xs) c.in-Two.w.0) c.as_slice-in-Two.ensures.value)))
