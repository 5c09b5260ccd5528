-- Values that pass: that of the first pair, and those behind it.
use Rattle.std.proofs.Common.{ℕ, ◌≤◌, List, ◌∷◌, length, get_or, sym, subst, arith}
use Rattle.std.specs.List.{between}
use Rattle.std.proofs.lemmas.Slice.{first_rest}
use Rattle.tv_kleene.specs.declared.K3.{K3}
use Rattle.tv_structure_form.specs.StructureForm.{StructureForm, value_at}
use Rattle.tv_focus_laws.specs.Written.{vector_writes}
use Rattle.tv_focus_walk.specs.declared.fits.Test.{Test}
use Rattle.tv_focus_walk.specs.Walk.{Passes, PassAll}

pub pass-both : (test : Test) (c : StructureForm) (pred : ℕ) (tuple : ℕ → List ℕ) (anchors : List ℕ)
    (vector : List K3) (d : ℕ) (e : K3) → 1 ≤ length anchors → 1 ≤ length vector
    → Passes test (get_or vector 0 e) (value_at c pred (tuple (get_or anchors 0 d)))
    → PassAll test c pred
    (vector_writes tuple (between 1 (length anchors) anchors) (between 1 (length vector) vector))
    → PassAll test c pred (vector_writes tuple anchors vector)
pass-both test c pred tuple anchors vector d e some_anchors some_values first later =
    subst (λ us. PassAll test c pred (vector_writes tuple us vector))
    (sym (first_rest anchors d (omega (arith, some_anchors))))
    (subst (λ xs. PassAll test c pred
    (vector_writes tuple (get_or anchors 0 d ∷ between 1 (length anchors) anchors) xs))
    (sym (first_rest vector e (omega (arith, some_values))))
    (first, later))
