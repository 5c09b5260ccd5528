-- The values along a variable.
use Rattle.std.proofs.Common.{ℕ, ◌≡◌, ◌≢◌, ◌<◌, ◌≤◌, ◌+◌, List, [], ◌∷◌, length, map, get_or, set, refl, sym}
use Rattle.std.proofs.Common.{ap, ◌∙◌, ⊎_elim, subst, arith, eqb, eq-eqb, ne_eqb}
use Rattle.std.specs.List.{range_with_len}
use Rattle.std.specs.Prelude.{Bool, true, false, if◌then◌else◌}
use Rattle.std.proofs.lemmas.Bool.{cases_eq, cond-true, cond-false}
use Rattle.std.proofs.lemmas.List.{length-set, get_or-set_same, get_or-set_other}
use Rattle.std.proofs.lemmas.List.FromFn.{length-map-range_with_len, get_or-map-range_with_len}
use Rattle.tv_kleene.specs.declared.K3.{K3}
use Rattle.tv_kleene.specs.declared.K3.TheVariants.{No, Half, Yes}
use Rattle.tv_kleene.specs.Kleene.{negation_of}
use Rattle.tv_model.specs.Form.{Form, FClosure, IsFree}
use Rattle.tv_model.specs.Truth.{Assignment, put}
use Rattle.tv_structure_form.specs.StructureForm.{StructureForm, structure_of, value_at}
use Rattle.tv_embedding_laws.specs.LogicalStructure.{LogicalStructure}
use Rattle.tv_eval_laws.specs.Value.{value, best_walk, same_value}
use Rattle.tv_eval_laws.proofs.Rounds.{best_walk-same}
use Rattle.tv_row.specs.Places.{entry_in}
use Rattle.tv_eval_laws.proofs.Agreed.{only_free_variables_matter}

-- ---- the rows of a relation

-- a value of the list of all individuals
value-map : (g : ℕ → K3) (n u : ℕ) → u < n → get_or (map g (range_with_len 0 n)) u No ≡ g u
value-map g n u lt = get_or-map-range_with_len g 0 n u u No lt (omega arith)

-- one row more is put
pub rows_put : (rows new : List (List K3)) (n u : ℕ) (row : List K3) (edge : ℕ → ℕ → K3) → n ≤ length rows → u < n
    → row ≡ map (edge u) (range_with_len 0 n) → new ≡ set rows u row
    → ((v : ℕ) → v < u → length (get_or rows v []) ≡ n)
    → ((v x : ℕ) → v < u → x < n → entry_in rows v x ≡ edge v x)
    → (length new ≡ length rows)
    × ((v : ℕ) → v < u + 1 → length (get_or new v []) ≡ n)
    × ((v x : ℕ) → v < u + 1 → x < n → entry_in new v x ≡ edge v x)
rows_put rows new n u row edge wide lt is e lens values =
    let here : get_or new u [] ≡ row = ap (λ rs. get_or rs u []) e ∙ get_or-set_same rows u row [] (omega arith)
    in let there : (v : ℕ) → v ≢ u → get_or new v [] ≡ get_or rows v [] =
    λ v ne. ap (λ rs. get_or rs v []) e ∙ get_or-set_other rows u v row [] ne
    in (
      ap length e ∙ length-set rows u row,
      λ v lv. ⊎_elim
          (λ at. ap (λ i. length (get_or new i [])) at ∙ ap length (here ∙ is) ∙ length-map-range_with_len
          (edge u) 0 n)
          (λ ne. ap length (there v ne) ∙ lens v (omega arith))
          (cases_eq v u),
      λ v x lv lx. ⊎_elim
          (λ at. ap (λ i. entry_in new i x) at ∙ ap (λ r. get_or r x No) (here ∙ is) ∙ value-map (edge u) n x lx
          ∙ ap (λ i. edge i x) (sym at))
          (λ ne. ap (λ r. get_or r x No) (there v ne) ∙ values v x (omega arith) lx)
          (cases_eq v u),
    )

-- ---- assignments

pub put_same : (a : Assignment) (v u w : ℕ) → w ≡ v → put a v u w ≡ u
put_same a v u w e = cond-true (eqb w v) u (a w) (eq-eqb w v e)

pub put_other : (a : Assignment) (v u w : ℕ) → w ≢ v → put a v u w ≡ a w
put_other a v u w ne = cond-false (eqb w v) u (a w) (ne_eqb w v ne)

-- two variables may be put in either order
pub puts_commute : (s : StructureForm) (a : Assignment) (v w u x : ℕ) (f : Form) → w ≢ v
    → value (structure_of s) (put (put a w x) v u) f ≡ value (structure_of s) (put (put a v u) w x) f
puts_commute s a v w u x f apart =
    only_free_variables_matter (structure_of s) f (put (put a w x) v u) (put (put a v u) w x)
    (λ y free.
    ⊎_elim
    (λ at_v.
    let ne : y ≢ w = λ at_w. apart (sym at_w ∙ at_v)
    in put_same (put a w x) v u y at_v ∙ sym (put_other (put a v u) w x y ne ∙ put_same a v u y at_v))
    (λ not_v.
    put_other (put a w x) v u y not_v
    ∙ ⊎_elim
    (λ at_w. put_same a w x y at_w ∙ sym (put_same (put a v u) w x y at_w))
    (λ not_w. put_other a w x y not_w ∙ sym (put_other (put a v u) w x y not_w ∙ put_other a v u y not_v))
    (cases_eq y w))
    (cases_eq y v))

-- a variable that isn't free may be put
pub put_steady : (s : StructureForm) (a : Assignment) (v u : ℕ) (f : Form) → (¬ IsFree v f)
    → value (structure_of s) a f ≡ value (structure_of s) (put a v u) f
put_steady s a v u f steady =
    only_free_variables_matter (structure_of s) f a (put a v u)
    (λ w free. sym (put_other a v u w (λ e. steady (subst (λ n. IsFree n f) e free))))

-- the edges of a closure don't depend on a variable that isn't free in its body, or is its own
pub edges_steady : (s : StructureForm) (a : Assignment) (v u left right : ℕ) (f : Form)
    → (¬ ((v ≢ left) × (v ≢ right) × IsFree v f)) → (x y : ℕ)
    → value (structure_of s) (put (put a left x) right y) f ≡ value (structure_of s)
    (put (put (put a v u) left x) right y) f
edges_steady s a v u left right f steady x y =
    only_free_variables_matter (structure_of s) f (put (put a left x) right y) (put (put (put a v u) left x) right y)
    (λ z free.
    ⊎_elim
    (λ at_right. put_same (put a left x) right y z at_right ∙ sym
    (put_same (put (put a v u) left x) right y z at_right))
    (λ not_right.
    put_other (put a left x) right y z not_right
    ∙ ⊎_elim
    (λ at_left. put_same a left x z at_left ∙ sym (put_same (put a v u) left x z at_left))
    (λ not_left.
    put_other a left x z not_left
    ∙ sym (put_other (put a v u) left x z not_left ∙ put_other a v u z (λ e. not_v z free not_left not_right e)))
    (cases_eq z left)
    ∙ sym (put_other (put (put a v u) left x) right y z not_right))
    (cases_eq z right))
  where
    not_v : (z : ℕ) → IsFree z f → z ≢ left → z ≢ right → z ≢ v
    not_v z free not_left not_right e =
        steady ((λ l. not_left (e ∙ l)), (λ r. not_right (e ∙ r)), subst (λ n. IsFree n f) e free)

-- ---- atoms

pub atom_one : (s : StructureForm) (a : Assignment) (pred x v u : ℕ) → x ≡ v
    → value_at s pred (u ∷ []) ≡ value_at s pred (put a v u x ∷ [])
atom_one s a pred x v u e = ap (λ w. value_at s pred (w ∷ [])) (sym (put_same a v u x e))

pub atom_other : (s : StructureForm) (a : Assignment) (pred x v u : ℕ) → x ≢ v
    → value_at s pred (a x ∷ []) ≡ value_at s pred (put a v u x ∷ [])
atom_other s a pred x v u ne = ap (λ w. value_at s pred (w ∷ [])) (sym (put_other a v u x ne))

pub atom_two : (s : StructureForm) (a : Assignment) (pred x y v u w z : ℕ) → w ≡ put a v u x → z ≡ put a v u y
    → value_at s pred (w ∷ z ∷ []) ≡ value_at s pred (put a v u x ∷ put a v u y ∷ [])
atom_two s a pred x y v u w z e f = ap (λ p. value_at s pred (p ∷ z ∷ [])) e ∙ ap
    (λ q. value_at s pred (put a v u x ∷ q ∷ [])) f

-- ---- marks and equality

pub same_turned : (s : LogicalStructure) (u w : ℕ) → same_value s u w ≡ same_value s w u
same_turned s u w =
    ⊎_elim
    (λ e. ap (λ i. same_value s i w) e ∙ sym (ap (same_value s w) e))
    (λ ne. cond-false (eqb u w) (if s.is_summary u then Half else Yes) No (ne_eqb u w ne)
    ∙ sym (cond-false (eqb w u) (if s.is_summary w then Half else Yes) No (ne_eqb w u (λ e. ne (sym e)))))
    (cases_eq u w)

pub same_two : (s : LogicalStructure) (u w x y : ℕ) → u ≡ w → x ≡ y → same_value s u x ≡ same_value s w y
same_two s u w x y e f = ap (λ i. same_value s i x) e ∙ ap (same_value s w) f

-- each individual is one cell with itself, unless it is a summary
pub same_itself : (s : LogicalStructure) (u : ℕ)
    → negation_of (if s.is_summary u then Half else No) ≡ same_value s u u
same_itself s u =
    turned (s.is_summary u) ∙ sym (cond-true (eqb u u) (if s.is_summary u then Half else Yes) No (eq-eqb u u refl))
  where
    turned : (b : Bool) → negation_of (if b then Half else No) ≡ (if b then Half else Yes)
    turned true = refl
    turned false = refl

-- an individual is one cell with no other
pub same_other : (s : LogicalStructure) (u w : ℕ) → w ≢ u → No ≡ same_value s w u
same_other s u w ne = sym (cond-false (eqb w u) (if s.is_summary w then Half else Yes) No (ne_eqb w u ne))

-- ---- closures

pub closure_at : (s : StructureForm) (a : Assignment) (v u from to left right : ℕ) (f : Form)
    → (¬ ((v ≢ left) × (v ≢ right) × IsFree v f)) → (x y : ℕ) → x ≡ put a v u from → y ≡ put a v u to
    → best_walk (λ p q. value (structure_of s) (put (put a left p) right q) f) (range_with_len 0 s.size) x y
    ≡ value (structure_of s) (put a v u) (FClosure from to left right f)
closure_at s a v u from to left right f steady x y e g =
    let edge : ℕ → ℕ → K3 = λ p q. value (structure_of s) (put (put a left p) right q) f
    in let other : ℕ → ℕ → K3 = λ p q. value (structure_of s) (put (put (put a v u) left p) right q) f
    in best_walk-same (λ p. Unit {0}) edge other (λ p q hp hq. edges_steady s a v u left right f steady p q)
    (range_with_len 0 s.size) (λ k d lt. tt) x y tt tt
    ∙ ap (λ p. best_walk other (range_with_len 0 s.size) p y) e ∙ ap
    (best_walk other (range_with_len 0 s.size) (put a v u from)) g
