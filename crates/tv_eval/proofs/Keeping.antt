-- A closure whose body has no free variables but its own two has the same values under every assignment.
use Rattle.std.proofs.Common.{ℕ, ◌≡◌, ◌≢◌, ◌<◌, ◌+◌, ◌⊎◌, inl, inr, ⊎_elim, List, [], length}
use Rattle.std.proofs.Common.{set, get_or, Some, sym, ap, subst, arith, ◌∙◌, eqb, eq-eqb, ne_eqb}
use Rattle.std.specs.Prelude.{slice_get, unwrap_or, Option, None, IfSome}
use mathlib.Core.Path.{fun_ext}
use Rattle.tv_model.proofs.Assignments.{put-same, put-other}
use Rattle.tv_embedding_laws.specs.LogicalStructure.{LogicalStructure}
use Rattle.std.specs.List.{range_with_len}
use Rattle.std.proofs.lemmas.Bool.{cases_eq, cond-true, cond-false}
use Rattle.std.proofs.lemmas.List.{get_or-set_same, get_or-set_other}
use Rattle.tv_kleene.specs.declared.K3.{K3}
use Rattle.tv_model.specs.Form.{Form, form_of, IsFree}
use Rattle.tv_model.specs.Truth.{Assignment, put}
use Rattle.tv_structure_form.specs.StructureForm.{StructureForm, structure_of, arities_of}
use Rattle.tv_eval_laws.specs.Value.{value, best_walk}
use Rattle.tv_eval_laws.proofs.Agreed.{only_free_variables_matter}
use Rattle.tv_eval_laws.proofs.Rounds.{best_walk-same}
use Rattle.tv_model.specs.Valid.{IsFormulaOver}
use Rattle.tv_quantifiers.specs.declared.edges.Edges.{Edges}
use Rattle.tv_eval.specs.declared.kept.Kept.{Kept}
use Rattle.tv_eval.specs.HoldsClosure.{HoldsClosure}
use Rattle.tv_eval.specs.Keeps.{HoldsClosures, StandsAt}
use Rattle.tv_row.specs.Places.{entry_in}
use Rattle.tv_eval.specs.Along.{IsWordOf}
use Rattle.tv_quantifiers.specs.Rows.{IsSquare, IsPart, part_at}
use Rattle.tv_quantifiers.specs.declared.relation.Part.{Part}
use Rattle.tv_quantifiers.specs.declared.relation.Part.TheVariants.{From, To, Diagonal}
use Rattle.tv_quantifiers.proofs.Keeping.{any-default, put-here, put-elsewhere}
use Rattle.tv_eval.proofs.FreeBelow.{free-below}
use Rattle.tv_eval.proofs.AlongWords.{same-word}
use Rattle.tv_eval.proofs.Loops.{closed-value}

-- two assignments agree on the variables that are put
put-agrees : (a b : Assignment) (left right x y v : ℕ) → (v ≡ left) ⊎ (v ≡ right)
    → put (put a left x) right y v ≡ put (put b left x) right y v
put-agrees a b left right x y v own =
    ⊎_elim
    (λ e. cond-true (eqb v right) y (put a left x v) (eq-eqb v right e)
    ∙ sym (cond-true (eqb v right) y (put b left x v) (eq-eqb v right e)))
    (λ ne. cond-false (eqb v right) y (put a left x v) (ne_eqb v right ne)
    ∙ inner ne own
    ∙ sym (cond-false (eqb v right) y (put b left x v) (ne_eqb v right ne)))
    (cases_eq v right)
  where
    inner : v ≢ right → (v ≡ left) ⊎ (v ≡ right) → put a left x v ≡ put b left x v
    inner ne (inr e) = absurd (ne e)
    inner ne (inl e) =
        cond-true (eqb v left) x (a v) (eq-eqb v left e) ∙ sym (cond-true (eqb v left) x (b v) (eq-eqb v left e))

-- rows that hold such a closure under one assignment hold it under each
pub holds_under_each : (s : StructureForm) (a b : Assignment) (left right : ℕ) (f : Form) (rows : List (List K3))
    → IsFormulaOver (arities_of s) f
    → ((v : ℕ) → v < 32 → IsFree v f → (v ≡ left) ⊎ (v ≡ right))
    → HoldsClosure s a left right f rows → HoldsClosure s b left right f rows
holds_under_each s a b left right f rows over own h = record {
  square = h.square;
  entries = λ u w lu lw. h.entries u w lu lw
      ∙ best_walk-same (λ x. Unit {0})
      (λ x y. value (structure_of s) (put (put a left x) right y) f)
      (λ x y. value (structure_of s) (put (put b left x) right y) f)
      (λ x y hx hy. same x y) (range_with_len 0 s.size) (λ k d lt. tt) u w tt tt;
}
  where
    same : (x y : ℕ)
        → value (structure_of s) (put (put a left x) right y) f ≡ value (structure_of s)
        (put (put b left x) right y) f
    same x y =
        only_free_variables_matter (structure_of s) f (put (put a left x) right y) (put (put b left x) right y)
        (λ v free. put-agrees a b left right x y v (own v (free-below (arities_of s) f v over free) free))

-- edges that were filled in and closed are held
pub closed_are_held : (s : StructureForm) (a : Assignment) (left right : ℕ) (f : Form)
    (filled closed : List (List K3))
    → IsSquare s.size closed
    → ((u w : ℕ) → u < s.size → w < s.size → entry_in filled u w ≡ value (structure_of s)
    (put (put a left u) right w) f)
    → ((u w : ℕ) → u < s.size → w < s.size → entry_in closed u w ≡ best_walk (entry_in filled)
    (range_with_len 0 s.size) u w)
    → HoldsClosure s a left right f closed
closed_are_held s a left right f filled closed square fills closes = record {
  square = square;
  entries = λ u w lu lw.
      closed-value (λ x y. value (structure_of s) (put (put a left x) right y) f) (entry_in filled)
      (entry_in closed) s.size
      fills closes u w lu lw;
}

-- what is read of held edges are the closure's values
pub part_held : (s : StructureForm) (a : Assignment) (left right : ℕ) (f : Form) (rows : List (List K3))
    (n chunk : ℕ) (part : Part) (word : List K3)
    → n ≡ s.size → IsPart s.size part → HoldsClosure s a left right f rows
    → IsWordOf n chunk (part_at part (entry_in rows)) word
    → IsWordOf s.size chunk (part_at part (best_walk (λ x y. value (structure_of s) (put (put a left x) right y) f)
    (range_with_len 0 s.size))) word
part_held s a left right f rows n chunk part word e is h read =
    same-word s.size chunk (part_at part (entry_in rows)) (part_at part closed) word
    (subst (λ m. IsWordOf m chunk (part_at part (entry_in rows)) word) e read) (each part is)
  where
    closed : ℕ → ℕ → K3
    closed = best_walk (λ x y. value (structure_of s) (put (put a left x) right y) f) (range_with_len 0 s.size)

    each : (part : Part) → IsPart s.size part → (u : ℕ) → u < s.size → part_at part (entry_in rows) u ≡ part_at
        part closed u
    each (From x) is u lt = h.entries x u is lt
    each (To x) is u lt = h.entries u x lt is
    each Diagonal is u lt = h.entries u u lt lt

-- one more variable was looked at
pub own-next : (body : Form) (left right k : ℕ) → ((v : ℕ) → v < k → IsFree v body → (v ≡ left) ⊎ (v ≡ right))
    → (¬ ((k ≢ left) × (k ≢ right) × IsFree k body))
    → (v : ℕ) → v < k + 1 → IsFree v body → (v ≡ left) ⊎ (v ≡ right)
own-next body left right k before here v lt free =
    ⊎_elim
    (λ e. subst (λ n. (n ≡ left) ⊎ (n ≡ right)) (sym e) (own (subst (λ n. IsFree n body) e free)))
    (λ ne. before v (omega arith) free)
    (cases_eq v k)
  where
    own : IsFree k body → (k ≡ left) ⊎ (k ≡ right)
    own is =
        ⊎_elim inl
        (λ l. ⊎_elim inr (λ r. absurd (here (l, r, is))) (cases_eq k right))
        (cases_eq k left)

-- ---- values of quantified formulas

put-itself : (a : Assignment) (v u : ℕ) → u ≡ a v → put a v u ≡ a
put-itself a v u is = fun_ext (λ w. ⊎_elim
    (λ e. put-same a v u w e ∙ is ∙ ap a (sym e)) (λ ne. put-other a v u w ne) (cases_eq w v))

-- what is kept is the value where the variable stands for that individual
pub value-kept : (s : LogicalStructure) (a : Assignment) (v u : ℕ) (f : Form) (x : K3) → u ≡ a v
    → ((b : Assignment) → value s (put b v u) f ≡ x) → x ≡ value s a f
value-kept s a v u f x is told = sym (told a) ∙ ap (λ b. value s b f) (put-itself a v u is)

-- the value of a formula with one free variable is the same whatever the others stand for
pub keeps-value : (s : StructureForm) (a : Assignment) (v u : ℕ) (f : Form) (k : K3) → IsFormulaOver (arities_of s) f
    → u ≡ a v → ((w : ℕ) → w < 32 → IsFree w f → w ≡ v) → k ≡ value (structure_of s) a f
    → (b : Assignment) → value (structure_of s) (put b v u) f ≡ k
keeps-value s a v u f k over is alone exact b =
    only_free_variables_matter (structure_of s) f (put b v u) a
    (λ w free. let e : w ≡ v = alone w (free-below (arities_of s) f w over free) free
    in put-same b v u w e ∙ is ∙ ap a (sym e))
    ∙ sym exact

pub some-map : {X : Type 0} (o : Option X) (P Q : X → Type 0) → ((x : X) → P x → Q x) → IfSome o P → IfSome o Q
some-map None P Q each h = tt
some-map (Some x) P Q each h = each x h

-- ---- places

-- what stands at a place of the closure is held
pub found_is_held : (s : StructureForm) (a : Assignment) (kept : Kept) (rooms : List (List (List K3)))
    (k left right : ℕ) (body : Form)
    (room : List (List K3)) → HoldsClosures s kept rooms → StandsAt kept.closures k left right body → k < length rooms
    → room ≡ get_or rooms k room → HoldsClosure s a left right body room
found_is_held s a kept rooms k left right body room keeps stands lt is =
    let e : Edges = stands.edges
    in let read : get_or rooms k [] ≡ room = any-default rooms k [] room lt ∙ sym is
    in subst (λ n. HoldsClosure s a n right body room) stands.same_left
    (subst (λ n. HoldsClosure s a e.left.0 n body room) stands.same_right
    (subst (λ f. HoldsClosure s a e.left.0 e.right.0 f room) stands.same_body
    (subst (λ rows. HoldsClosure s a e.left.0 e.right.0 (form_of e.body.now) rows) read
    (keeps.each k e a stands.there))))

same-edges : (e other : Edges) → Some (Some e) ≡ Some (Some other) → e ≡ other
same-edges e other is = ap (λ o. unwrap_or (unwrap_or o (Some e)) e) is

-- one more closure is kept
pub keeps_one_more : (s : StructureForm) (a : Assignment) (kept : Kept) (rooms : List (List (List K3)))
    (place next : ℕ) (e : Edges)
    (rows : List (List K3)) → HoldsClosures s kept rooms → place < length kept.closures → place < length rooms
    → ((v : ℕ) → v < 32 → IsFree v (form_of e.body.now) → (v ≡ e.left.0) ⊎ (v ≡ e.right.0))
    → IsFormulaOver (arities_of s) (form_of e.body.now)
    → HoldsClosure s a e.left.0 e.right.0 (form_of e.body.now) rows
    → HoldsClosures s (record { closures = set kept.closures place (Some e); next = next; parts = kept.parts }) (set rooms place rows)
keeps_one_more s a kept rooms place next e rows keeps among within own over held = record {
  each = λ k other b at. ⊎_elim (λ here. new k other b at here) (λ apart. old k other b at apart) (cases_eq k place);
  parts = keeps.parts;
}
  where
    new : (k : ℕ) (other : Edges) (b : Assignment) → slice_get (set kept.closures place (Some e)) k ≡ Some
        (Some other) → k ≡ place
        → HoldsClosure s b other.left.0 other.right.0 (form_of other.body.now) (get_or (set rooms place rows) k [])
    new k other b at here =
        let there : slice_get (set kept.closures place (Some e)) place ≡ Some (Some other) =
        subst (λ n. slice_get (set kept.closures place (Some e)) n ≡ Some (Some other)) here at
        in let is : e ≡ other = same-edges e other (sym (put-here kept.closures place (Some e) among) ∙ there)
        in let read : rows ≡ get_or (set rooms place rows) k [] =
        sym (ap (λ n. get_or (set rooms place rows) n []) here ∙ get_or-set_same rooms place rows [] within)
        in subst (λ x. HoldsClosure s b x.left.0 x.right.0 (form_of x.body.now)
        (get_or (set rooms place rows) k [])) is
        (subst (λ r. HoldsClosure s b e.left.0 e.right.0 (form_of e.body.now) r) read
        (holds_under_each s a b e.left.0 e.right.0 (form_of e.body.now) rows over own held))

    old : (k : ℕ) (other : Edges) (b : Assignment) → slice_get (set kept.closures place (Some e)) k ≡ Some
        (Some other) → k ≢ place
        → HoldsClosure s b other.left.0 other.right.0 (form_of other.body.now) (get_or (set rooms place rows) k [])
    old k other b at apart =
        let there : slice_get kept.closures k ≡ Some (Some other) = sym
        (put-elsewhere kept.closures place k (Some e) apart) ∙ at
        in subst (λ r. HoldsClosure s b other.left.0 other.right.0 (form_of other.body.now) r)
        (sym (get_or-set_other rooms place k rows [] apart)) (keeps.each k other b there)
