-- The anchors that binary atoms give, and that anchors are individuals.
use Rattle.std.proofs.Common.{ℕ, ◌≡◌, ◌<◌, Bool, true, false, eqb, List, [], ◌∷◌, refl, All, get_or}
use Rattle.std.specs.Prelude.{fold, ◌&&◌, not}
use Rattle.std.specs.List.{range_with_len, list_any}
use Rattle.std.proofs.lemmas.Bool.{cond_both}
use Rattle.std.proofs.lemmas.List.Elements.{All-head, All-tail, All-nil, Contains-get_or}
use Rattle.tv_embedding_laws.specs.LogicalStructure.{LogicalStructure}
use Rattle.tv_structure_form.specs.StructureForm.{StructureForm, structure_of}
use Rattle.tv_structure_form.proofs.Library.{below-range}
use Rattle.tv_kleene.specs.Kleene.{is_yes}
use Rattle.tv_focus_laws.specs.FocusAtoms.{AtomForm, AnchorsForm, is_anchored, anchors_of, and_given}
use Rattle.tv_focus_laws.specs.FocusAtoms.{by_unary, by_binary, ordinary}
use Rattle.tv_focus_laws.proofs.Membership.{Contains-from_filter}
use Rattle.tv_focus_laws.proofs.Stages.{unary-are, binary-are, folded-are}
use Rattle.tv_focus.specs.declared.anchors.Place.TheVariants.{First, Second}
use Rattle.tv_focus.specs.Anchored.{pair_of, AreWithin, given_by_unary}

-- the individuals of a table are below its size
abbrev pub AreBelow : ℕ → List ℕ → Type 0
AreBelow size us = All (λ u. u < size) us

pub within_of : (size : ℕ) (given : List AnchorsForm) (v : ℕ) → AreWithin size given → AreBelow size (anchors_of given v)
within_of size [] v within = All-nil (λ u. u < size)
within_of size (one ∷ given) v within =
    cond_both (eqb one.var v) one.anchors (anchors_of given v) (AreBelow size)
    (λ e. All-head (λ (a : AnchorsForm). AreBelow size a.anchors) one given within)
    (λ e. within_of size given v (All-tail (λ (a : AnchorsForm). AreBelow size a.anchors) one given within))

ordinary_within : (s : StructureForm) (test : ℕ → Bool) → AreBelow s.size (ordinary (structure_of s) test)
ordinary_within s test k d lt =
    let passes : ℕ → Bool = λ u. not ((structure_of s).is_summary u) && test u
    in let one : ℕ = get_or (ordinary (structure_of s) test) k d
    in below-range s.size one
    (Contains-from_filter passes one (range_with_len 0 s.size) (Contains-get_or (ordinary (structure_of s) test) k d lt)).0

-- what is given so far is within
pub given_within : (s : StructureForm) (atoms more : List AtomForm)
    → AreWithin s.size (fold (λ given atom. by_binary (structure_of s) given atom.pred atom.vars)
    (given_by_unary (structure_of s) atoms) more)
given_within s atoms more =
    let P : AnchorsForm → Type 0 = λ one. AreBelow s.size one.anchors
    in let each : (v : ℕ) (test : ℕ → Bool) → P (record { var = v; anchors = ordinary (structure_of s) test })
    = λ v test. ordinary_within s test
    in folded-are P (λ given atom. by_binary (structure_of s) given atom.pred atom.vars)
    (λ given atom all. binary-are P (structure_of s) each given atom.pred atom.vars all)
    (given_by_unary (structure_of s) atoms) more
    (folded-are P (λ given atom. by_unary (structure_of s) given atom.pred atom.vars)
    (λ given atom all. unary-are P (structure_of s) each given atom.pred atom.vars all) [] atoms (All-nil P))

-- ---- one binary atom

pub by_first : (s : LogicalStructure) (given : List AnchorsForm) (pred v w : ℕ) → is_anchored given v ≡ true
    → is_anchored given w ≡ false
    → by_binary s given pred (v ∷ w ∷ [])
    ≡ and_given given w (ordinary s (λ u. list_any (λ a. is_yes (s.value pred (pair_of First a u))) (anchors_of given v)))
by_first s given pred v w first second = rw (first, second) refl

pub by_second : (s : LogicalStructure) (given : List AnchorsForm) (pred v w : ℕ) → is_anchored given v ≡ false
    → is_anchored given w ≡ true
    → by_binary s given pred (v ∷ w ∷ [])
    ≡ and_given given v (ordinary s (λ u. list_any (λ a. is_yes (s.value pred (pair_of Second a u))) (anchors_of given w)))
by_second s given pred v w first second = rw (first, second) refl
