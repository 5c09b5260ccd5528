-- What a statement does to a memory is a fair step of the compiled program.
use Rattle.std.proofs.Common.{ℕ, ◌≡◌, ◌≢◌, ◌↔◌, ◌⊎◌, ◌∙◌, List, [], ◌∷◌, ◌++◌, Bool, true, false, Option}
use Rattle.std.proofs.Common.{Some, None, Contains, inl, inr, ⊎_elim, refl, sym, subst, arith}
use Rattle.std.proofs.lemmas.Bool.{cases_eq}
use Rattle.tv_model.specs.Form.{Form, FZero, FIsNew, FAnd, FOr, FExists}
use Rattle.tv_model.specs.Heap.{Heap, Holds}
use Rattle.tv_model.specs.Program.{CTo}
use Rattle.tv_model.specs.Rules.{blank}
use Rattle.tv_model.specs.Step.{FairlySteps, with_new}
use Rattle.tv_model.specs.Truth.{Truth, put}
use Rattle.tv_model.specs.declared.program.Mode.{Mode}
use Rattle.tv_model.proofs.Lists.{pushed-cases, pushed-last, pushed-old}
use Rattle.tv_source.specs.Forms.{SourceForm, AssignForm, ANull, ANew, ACopy, ALoad, AStore, AClear, TestForm}
use Rattle.tv_source.specs.Forms.{TAny, TNull, TSame}
use Rattle.tv_source.specs.Valid.{IsVariableOf, IsFieldOf, IsAssignOf, IsTestOf}
use Rattle.tv_plang_laws.specs.Compiled.{assign_action, compiled, field_number, kept_elsewhere, leads, points}
use Rattle.tv_plang_laws.specs.Compiled.{sets_field, sets_variable, test_action}
use Rattle.tv_plang_laws.specs.Heaps.{IsHeapOfMemory}
use Rattle.tv_plang_laws.specs.Memories.{Memory, Assigns, Allocates, Links, Does, GoesWay}
use Rattle.tv_plang_laws.proofs.Changes.{CoreFollows, Follows, fairly-steps, no-update, not-updated, updated}
use Rattle.tv_plang_laws.proofs.Truths.{holds-first, is-cell, is-individual, one-value, none-some}
use Rattle.tv_plang_laws.proofs.Truths.{points-truly, test-enabled}

-- ---- what stays

-- a variable that has the same cell in both memories
variable-kept : (p : SourceForm) (m n : Memory) (h k : Heap) → IsHeapOfMemory p m h → IsHeapOfMemory p n k → (x : ℕ) → IsVariableOf p x
    → n.variable x ≡ m.variable x → (c : ℕ) → Holds k x (c ∷ []) ↔ Holds h x (c ∷ [])
variable-kept p m n h k is becomes x declared e c = (
  λ t. (is.variables x c declared).1 (sym e ∙ (becomes.variables x c declared).0 t),
  λ t. (becomes.variables x c declared).1 (e ∙ (is.variables x c declared).0 t),
)

-- a field that leads from the cell to the same in both memories
field-kept : (p : SourceForm) (m n : Memory) (h k : Heap) → IsHeapOfMemory p m h → IsHeapOfMemory p n k → (f : ℕ) → IsFieldOf p f
    → (c d : ℕ) → Contains m.cells c → Contains n.cells c → n.field f c ≡ m.field f c
    → Holds k (field_number p f) (c ∷ d ∷ []) ↔ Holds h (field_number p f) (c ∷ d ∷ [])
field-kept p m n h k is becomes f declared c d was at e = (
  λ t. (is.fields f c d declared was).1 (sym e ∙ (becomes.fields f c d declared at).0 t),
  λ t. (becomes.fields f c d declared at).1 (e ∙ (is.fields f c d declared was).0 t),
)

-- cells that are the same are the same individuals
same-individuals : (p : SourceForm) (m n : Memory) (h k : Heap) → IsHeapOfMemory p m h → IsHeapOfMemory p n k → n.cells ≡ m.cells
    → (u : ℕ) → Contains k.individuals u ↔ Contains h.individuals u
same-individuals p m n h k is becomes e u =
    let In : List ℕ → Type 0 = λ us. Contains us u
    in (
      λ at. is-individual p m h is u (subst In e (is-cell p n k becomes u at)),
      λ at. is-individual p n k becomes u (subst In (sym e) (is-cell p m h is u at)),
    )

-- ---- a variable is set

-- its predicate follows its formula, and all others stay
assigned-follows : (p : SourceForm) (x : ℕ) (f : Form) (middle k : Heap) → IsVariableOf p x
    → ((c : ℕ) → Contains k.individuals c → Holds k x (c ∷ []) ↔ Truth middle (put blank 0 c) f)
    → ((y : ℕ) → IsVariableOf p y → y ≢ x → (c : ℕ) → Holds k y (c ∷ []) ↔ Holds middle y (c ∷ []))
    → ((g : ℕ) → IsFieldOf p g → (c d : ℕ) → Contains k.individuals c
    → Holds k (field_number p g) (c ∷ d ∷ []) ↔ Holds middle (field_number p g) (c ∷ d ∷ []))
    → CoreFollows p (sets_variable x f) middle k
assigned-follows p x f middle k declared itself variables fields = record {
  variables = λ y y_declared c at. which y y_declared c at (cases_eq x y);
  fields = λ g g_declared c d at at_d.
      not-updated (record { pred = x; vars = 0 ∷ []; change = CTo f }) middle k (field_number p g) (c ∷ d ∷ [])
      (λ e. omega (arith, e, declared)) (fields g g_declared c d at);
  others = λ q behind. no-update (record { pred = x; vars = 0 ∷ []; change = CTo f }) q (λ e. omega (arith, e, declared, behind));
}
  where
    which : (y : ℕ) → IsVariableOf p y → (c : ℕ) → Contains k.individuals c → (x ≡ y) ⊎ (x ≡ y → ⊥)
        → Follows (sets_variable x f) middle k y (c ∷ [])
    which y y_declared c at (inl e) =
        let At : ℕ → Type 0 = λ z. Holds k z (c ∷ []) ↔ Truth middle (put blank 0 c) f
        in updated (record { pred = x; vars = 0 ∷ []; change = CTo f }) middle k y (c ∷ []) e (subst At e (itself c at))
    which y y_declared c at (inr ne) =
        not-updated (record { pred = x; vars = 0 ∷ []; change = CTo f }) middle k y (c ∷ []) ne
        (variables y y_declared (λ e. ne (sym e)) c)

-- a variable gets a value, whose cells are those of which the formula is true
assigns-follows : (p : SourceForm) (m n : Memory) (h k : Heap) → IsHeapOfMemory p m h → IsHeapOfMemory p n k → (x : ℕ) → IsVariableOf p x
    → (value : Option ℕ) → Assigns x value m n → (f : Form)
    → ((c : ℕ) → (value ≡ Some c) ↔ Truth h (put blank 0 c) f) → CoreFollows p (sets_variable x f) h k
assigns-follows p m n h k is becomes x declared value assigns f means =
    assigned-follows p x f h k declared
    (λ c at. (
      λ t. (means c).0 (sym assigns.assigned ∙ (becomes.variables x c declared).0 t),
      λ t. (becomes.variables x c declared).1 (assigns.assigned ∙ (means c).1 t),
    ))
    (λ y y_declared ne c. variable-kept p m n h k is becomes y y_declared (assigns.other_variables y ne) c)
    (λ g g_declared c d at.
    let cell : Contains n.cells c = is-cell p n k becomes c at
    in let In : List ℕ → Type 0 = λ us. Contains us c
    in let was : Contains m.cells c = subst In assigns.cells cell
    in field-kept p m n h k is becomes g g_declared c d was cell (assigns.fields g c was))

-- ---- a field is set

linked-follows : (p : SourceForm) (m n : Memory) (h k : Heap) → IsHeapOfMemory p m h → IsHeapOfMemory p n k → (f : ℕ) → IsFieldOf p f
    → (cell : ℕ) (value : Option ℕ) → Links f cell value m n → (g : Form)
    → ((d : ℕ) → (value ≡ Some d) ↔ Truth h (put (put blank 0 cell) 1 d) g)
    → ((c d : ℕ) → c ≢ cell → Holds h (field_number p f) (c ∷ d ∷ []) ↔ Truth h (put (put blank 0 c) 1 d) g)
    → CoreFollows p (sets_field p f g) h k
linked-follows p m n h k is becomes f declared cell value links g means elsewhere = record {
  variables = λ y y_declared c at.
      not-updated (record { pred = field_number p f; vars = 0 ∷ 1 ∷ []; change = CTo g }) h k y (c ∷ [])
      (λ e. omega (arith, e, y_declared)) (variable-kept p m n h k is becomes y y_declared (links.variables y) c);
  fields = λ e e_declared c d at at_d. which e e_declared c d (is-cell p n k becomes c at) (cases_eq f e);
  others = λ q behind.
      no-update (record { pred = field_number p f; vars = 0 ∷ 1 ∷ []; change = CTo g }) q (λ e. omega (arith, e, declared, behind));
}
  where
    was-cell : (c : ℕ) → Contains n.cells c → Contains m.cells c
    was-cell c at = let In : List ℕ → Type 0 = λ us. Contains us c in subst In links.cells at

    there : (c d : ℕ) → Contains n.cells c → (c ≡ cell) ⊎ (c ≡ cell → ⊥)
        → Holds k (field_number p f) (c ∷ d ∷ []) ↔ Truth h (put (put blank 0 c) 1 d) g
    there c d at (inl same) =
        let At : ℕ → Type 0 = λ u. Truth h (put (put blank 0 u) 1 d) g
        in let Leads : ℕ → Type 0 = λ u. n.field f u ≡ value
        in let value_there : n.field f c ≡ value = subst Leads (sym same) links.linked
        in (
          λ t. subst At (sym same) ((means d).0 (sym value_there ∙ (becomes.fields f c d declared at).0 t)),
          λ t. (becomes.fields f c d declared at).1 (value_there ∙ (means d).1 (subst At same t)),
        )
    there c d at (inr ne) =
        let kept = field-kept p m n h k is becomes f declared c d (was-cell c at) at (links.other_cells c ne (was-cell c at))
        in let same = elsewhere c d ne
        in (λ t. same.0 (kept.0 t), λ t. kept.1 (same.1 t))

    which : (e : ℕ) → IsFieldOf p e → (c d : ℕ) → Contains n.cells c → (f ≡ e) ⊎ (f ≡ e → ⊥)
        → Follows (sets_field p f g) h k (field_number p e) (c ∷ d ∷ [])
    which e e_declared c d at (inl same) =
        let At : ℕ → Type 0 = λ u. Holds k (field_number p u) (c ∷ d ∷ []) ↔ Truth h (put (put blank 0 c) 1 d) g
        in updated (record { pred = field_number p f; vars = 0 ∷ 1 ∷ []; change = CTo g }) h k (field_number p e) (c ∷ d ∷ [])
        (omega (arith, same)) (subst At same (there c d at (cases_eq c cell)))
    which e e_declared c d at (inr ne) =
        not-updated (record { pred = field_number p f; vars = 0 ∷ 1 ∷ []; change = CTo g }) h k (field_number p e) (c ∷ d ∷ [])
        (λ same. ne (omega (arith, same)))
        (field-kept p m n h k is becomes e e_declared c d (was-cell c at) at
        (links.other_fields e (λ same. ne (sym same)) c (was-cell c at)))

-- at other cells the formula says what was before
elsewhere-truly : (p : SourceForm) (m : Memory) (h : Heap) → IsHeapOfMemory p m h → (x f : ℕ) → IsVariableOf p x → (cell : ℕ)
    → m.variable x ≡ Some cell → (c d : ℕ) → c ≢ cell
    → Holds h (field_number p f) (c ∷ d ∷ []) ↔ Truth h (put (put blank 0 c) 1 d) (kept_elsewhere p x f)
elsewhere-truly p m h is x f declared cell e c d ne = (
  λ t. ((λ holds. ne (one-value (m.variable x) c cell ((is.variables x c declared).0 holds) e)), t),
  λ t. t.1,
)

-- ---- a cell is allocated

allocates-follows : (p : SourceForm) (m n : Memory) (h k : Heap) → IsHeapOfMemory p m h → IsHeapOfMemory p n k → (x : ℕ) → IsVariableOf p x
    → (cell : ℕ) → Allocates x cell m n → CoreFollows p (sets_variable x (FIsNew 0)) (with_new h cell) k
allocates-follows p m n h k is becomes x declared cell allocates =
    assigned-follows p x (FIsNew 0) (with_new h cell) k declared
    (λ c at. (
      λ t. sym allocates.assigned ∙ (becomes.variables x c declared).0 t,
      λ t. (becomes.variables x c declared).1 (allocates.assigned ∙ t),
    ))
    (λ y y_declared ne c. variable-kept p m n h k is becomes y y_declared (allocates.other_variables y ne) c)
    (λ g g_declared c d at. there g g_declared c d (is-cell p n k becomes c at))
  where
    there : (g : ℕ) → IsFieldOf p g → (c d : ℕ) → Contains n.cells c
        → Holds k (field_number p g) (c ∷ d ∷ []) ↔ Holds h (field_number p g) (c ∷ d ∷ [])
    there g g_declared c d at =
        let In : List ℕ → Type 0 = λ us. Contains us c
        in ⊎_elim
        (λ was. field-kept p m n h k is becomes g g_declared c d was at (allocates.old_fields g c was))
        (λ e. let Null : ℕ → Type 0 = λ u. n.field g u ≡ None
        in let null : n.field g c ≡ None = subst Null (sym e) (allocates.null_fields g)
        in (
          λ t. absurd (none-some (n.field g c) d null ((becomes.fields g c d g_declared at).0 t)),
          λ t. let there_ : Contains m.cells c = is-cell p m h is c (holds-first p m h is (field_number p g) c (d ∷ []) t)
              in let Out : ℕ → Type 0 = λ u. ¬ Contains m.cells u
              in absurd (subst Out (sym e) allocates.wasnt_there there_),
        ))
        (pushed-cases m.cells cell c (subst In allocates.cells at))

pushed-individuals : (p : SourceForm) (m n : Memory) (h k : Heap) → IsHeapOfMemory p m h → IsHeapOfMemory p n k → (cell : ℕ)
    → n.cells ≡ m.cells ++ cell ∷ [] → (u : ℕ) → Contains k.individuals u ↔ Contains (with_new h cell).individuals u
pushed-individuals p m n h k is becomes cell e u =
    let In : List ℕ → Type 0 = λ us. Contains us u
    in (
      λ at. ⊎_elim (λ old. pushed-old h.individuals cell u (is-individual p m h is u old)) (λ e2. pushed-last h.individuals cell u e2)
          (pushed-cases m.cells cell u (subst In e (is-cell p n k becomes u at))),
      λ at. is-individual p n k becomes u (subst In (sym e)
          (⊎_elim (λ old. pushed-old m.cells cell u (is-cell p m h is u old)) (λ e2. pushed-last m.cells cell u e2)
          (pushed-cases h.individuals cell u at))),
    )

-- ---- statements

pub assign-steps : (p : SourceForm) (mode : Mode) (m n : Memory) (h k : Heap) → IsHeapOfMemory p m h → IsHeapOfMemory p n k
    → (a : AssignForm) → IsAssignOf p a → Does a m n → FairlySteps (compiled p) mode (assign_action p a) blank h k
assign-steps p mode m n h k is becomes (ANull x) declared assigns =
    fairly-steps p mode m n h h k is becomes None [] [] false (sets_variable x FZero) tt refl
    (same-individuals p m n h k is becomes assigns.cells)
    (assigns-follows p m n h k is becomes x declared None assigns FZero (λ c. (λ e. absurd (cc e), λ t. absurd t)))
assign-steps p mode m n h k is becomes (ANew x) declared (cell, allocates) =
    fairly-steps p mode m n h (with_new h cell) k is becomes None [] [] true (sets_variable x (FIsNew 0)) tt
    (cell, (λ at. allocates.wasnt_there (is-cell p m h is cell at)), refl)
    (pushed-individuals p m n h k is becomes cell allocates.cells)
    (allocates-follows p m n h k is becomes x declared cell allocates)
assign-steps p mode m n h k is becomes (ACopy x y) declared assigns =
    fairly-steps p mode m n h h k is becomes None (points y 0 ∷ []) [] false (sets_variable x (points y 0)) tt refl
    (same-individuals p m n h k is becomes assigns.cells)
    (assigns-follows p m n h k is becomes x declared.0 (m.variable y) assigns (points y 0)
    (λ c. ((is.variables y c declared.1).1, (is.variables y c declared.1).0)))
assign-steps p mode m n h k is becomes (ALoad x y f) declared (cell, e, assigns) =
    let holds : Holds h y (cell ∷ []) = (is.variables y cell declared.1).1 e
    in let at : Contains h.individuals cell = holds-first p m h is y cell [] holds
    in let leads_to = λ (d : ℕ). is.fields f cell d declared.2 (is-cell p m h is cell at)
    in fairly-steps p mode m n h h k is becomes (assign_action p (ALoad x y f)).pre (assign_action p (ALoad x y f)).focus
    (assign_action p (ALoad x y f)).messages false (assign_action p (ALoad x y f)).updates
    ((points-truly p m h is y declared.1 blank).1 (cell, e)) refl
    (same-individuals p m n h k is becomes assigns.cells)
    (assigns-follows p m n h k is becomes x declared.0 (m.field f cell) assigns (FExists 1 (FAnd (points y 1) (leads p f 1 0)))
    (λ c. (
      λ value. (cell, at, (holds, (leads_to c).1 value)),
      λ t. let Leads : ℕ → Type 0 = λ u. Holds h (field_number p f) (u ∷ c ∷ [])
          in (leads_to c).0 (subst Leads (one-value (m.variable y) t.0 cell ((is.variables y t.0 declared.1).0 t.2.0) e) t.2.1),
    )))
assign-steps p mode m n h k is becomes (AStore x f y) declared (cell, e, links) =
    let holds : Holds h x (cell ∷ []) = (is.variables x cell declared.0).1 e
    in fairly-steps p mode m n h h k is becomes (assign_action p (AStore x f y)).pre (assign_action p (AStore x f y)).focus
    (assign_action p (AStore x f y)).messages false (assign_action p (AStore x f y)).updates
    ((points-truly p m h is x declared.0 blank).1 (cell, e)) refl
    (same-individuals p m n h k is becomes links.cells)
    (linked-follows p m n h k is becomes f declared.1 cell (m.variable y) links
    (FOr (FAnd (points x 0) (points y 1)) (kept_elsewhere p x f))
    (λ d. (
      λ value. inl (holds, (is.variables y d declared.2).1 value),
      λ t. ⊎_elim (λ s. (is.variables y d declared.2).0 s.1) (λ s. absurd (s.0 holds)) t,
    ))
    (λ c d ne. let kept = elsewhere-truly p m h is x f declared.0 cell e c d ne
    in (
      λ t. inr (kept.0 t),
      λ t. ⊎_elim (λ s. absurd (ne (one-value (m.variable x) c cell ((is.variables x c declared.0).0 s.0) e))) (λ s. kept.1 s) t,
    )))
assign-steps p mode m n h k is becomes (AClear x f) declared (cell, e, links) =
    let holds : Holds h x (cell ∷ []) = (is.variables x cell declared.0).1 e
    in fairly-steps p mode m n h h k is becomes (assign_action p (AClear x f)).pre (assign_action p (AClear x f)).focus
    (assign_action p (AClear x f)).messages false (assign_action p (AClear x f)).updates
    ((points-truly p m h is x declared.0 blank).1 (cell, e)) refl
    (same-individuals p m n h k is becomes links.cells)
    (linked-follows p m n h k is becomes f declared.1 cell None links (kept_elsewhere p x f)
    (λ d. (λ value. absurd (cc value), λ t. absurd (t.0 holds)))
    (elsewhere-truly p m h is x f declared.0 cell e))

-- a test changes nothing
stays-follows : (p : SourceForm) (m n : Memory) (h k : Heap) → IsHeapOfMemory p m h → IsHeapOfMemory p n k → n ≡ m → CoreFollows p [] h k
stays-follows p m n h k is becomes e = record {
  variables = λ x declared c at.
      let Same : Memory → Type 0 = λ l. l.variable x ≡ m.variable x
      in variable-kept p m n h k is becomes x declared (subst Same (sym e) refl) c;
  fields = λ f declared c d at at_d.
      let Same : Memory → Type 0 = λ l. l.field f c ≡ m.field f c
      in let In : Memory → Type 0 = λ l. Contains l.cells c
      in let cell : Contains n.cells c = is-cell p n k becomes c at
      in field-kept p m n h k is becomes f declared c d (subst In e cell) cell (subst Same (sym e) refl);
  others = λ q behind. refl;
}

pub test-steps : (p : SourceForm) (mode : Mode) (m n : Memory) (h k : Heap) → IsHeapOfMemory p m h → IsHeapOfMemory p n k
    → (way : Bool) (test : TestForm) → IsTestOf p test → GoesWay way test m → n ≡ m
    → FairlySteps (compiled p) mode (test_action way test) blank h k
test-steps p mode m n h k is becomes way test declared goes e = by test declared goes
  where
    same : (u : ℕ) → Contains k.individuals u ↔ Contains h.individuals u
    same = let Same : Memory → Type 0 = λ l. l.cells ≡ m.cells in same-individuals p m n h k is becomes (subst Same (sym e) refl)

    by : (test : TestForm) → IsTestOf p test → GoesWay way test m → FairlySteps (compiled p) mode (test_action way test) blank h k
    by TAny declared goes =
        fairly-steps p mode m n h h k is becomes None [] [] false [] tt refl same (stays-follows p m n h k is becomes e)
    by (TNull equal x) declared goes =
        fairly-steps p mode m n h h k is becomes (test_action way (TNull equal x)).pre (points x 0 ∷ []) [] false []
        (test-enabled p m h is way (TNull equal x) declared goes) refl same (stays-follows p m n h k is becomes e)
    by (TSame equal x y) declared goes =
        fairly-steps p mode m n h h k is becomes (test_action way (TSame equal x y)).pre (points x 0 ∷ points y 0 ∷ []) [] false []
        (test-enabled p m h is way (TSame equal x y) declared goes) refl same (stays-follows p m n h k is becomes e)
