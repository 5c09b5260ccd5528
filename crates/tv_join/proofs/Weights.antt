-- How far structures have risen.
use Rattle.std.proofs.Common.{ℕ, ◌≡◌, ◌≢◌, ◌<◌, ◌≤◌, ◌+◌, ◌*◌, ◌⊎◌, zero, suc, inl, inr, Bool, true, false}
use Rattle.std.proofs.Common.{List, [], ◌∷◌, length, get_or, refl, sym, ap, subst, ◌∙◌, arith, true≢false}
use Rattle.std.specs.Prelude.{All, IsTrue, sum_by}
use Rattle.std.specs.List.{AllZip}
use Rattle.std.proofs.lemmas.Bool.{cases_lt}
use Rattle.std.proofs.lemmas.List.{get_or-map, get_or_default, length-map}
use Rattle.std.proofs.lemmas.List.Elements.{All-head, All-tail, All-weaker}
use Rattle.std.proofs.lemmas.List.Sums.{sum_by-cons, sum_by-le}
use Rattle.std.proofs.Math.Nat.{add-mul, mul-le-mul_right}
use Rattle.tv_kleene.specs.declared.K3.{K3}
use Rattle.tv_kleene.specs.declared.K3.TheVariants.{No, Half, Yes}
use Rattle.tv_kleene.specs.Kleene.{LiesUnder}
use Rattle.tv_model.specs.Program.{PredForm}
use Rattle.tv_structure_form.specs.Halves.{half_of, half_of_flag, row_halves, plane_halves, half_count}
use Rattle.tv_structure_form.specs.TableForm.{PlaneForm, IsPlane, no_plane, value_in, cell, row_of, column_of}
use Rattle.tv_structure_form.specs.TableForm.{row_count, column_count}
use Rattle.tv_structure_form.specs.StructureForm.{StructureForm, IsStructure}
use Rattle.tv_structure_form.proofs.StructureLaws.{value_in-fits}
use Rattle.tv_work.specs.Task.{TaskForm}
use Rattle.tv_join.specs.Pairwise.{IsUnder}
use Rattle.tv_join.specs.Flags.{IsPlain}
use Rattle.tv_join.specs.Weight.{structure_weight, structures_weight, listing_weight, most_structure}

-- y weighs at least as much as x, and more where they differ
pub record IsRising {X : Type 0} (f : X → ℕ) (x y : X) : Type 0 where
  pub le : f x ≤ f y
  pub same : f y ≤ f x → x ≡ y

rising-list : {X : Type 0} (f : X → ℕ) (xs ys : List X) → AllZip (IsRising f) xs ys → IsRising (λ l. sum_by f l) xs ys
rising-list f [] [] all = record { le = omega arith; same = λ ge. refl }
rising-list f [] (y ∷ ys) all = absurd all
rising-list f (x ∷ xs) [] all = absurd all
rising-list f (x ∷ xs) (y ∷ ys) (one, all) =
    let rest : IsRising (λ l. sum_by f l) xs ys = rising-list f xs ys all
    in let left : sum_by f (x ∷ xs) ≡ f x + sum_by f xs = sum_by-cons f x xs
    in let right : sum_by f (y ∷ ys) ≡ f y + sum_by f ys = sum_by-cons f y ys
    in record {
      le = omega (arith, left, right, one.le, rest.le);
      same = λ ge.
          let first : x ≡ y = one.same (omega (arith, left, right, one.le, rest.le, ge))
          in let others : xs ≡ ys = rest.same (omega (arith, left, right, one.le, rest.le, ge))
          in λ i. first i ∷ others i;
    }

zip-from : {X : Type 0} (R : X → X → Type 0) (xs ys : List X) → length xs ≡ length ys
    → ((i : ℕ) (d e : X) → i < length xs → R (get_or xs i d) (get_or ys i e)) → AllZip R xs ys
zip-from R [] [] count each = tt
zip-from R [] (y ∷ ys) count each = absurd (omega (arith, count))
zip-from R (x ∷ xs) [] count each = absurd (omega (arith, count))
zip-from R (x ∷ xs) (y ∷ ys) count each =
    (each 0 x y (omega arith), zip-from R xs ys (omega (arith, count)) (λ i d e lt. each (suc i) d e (omega (arith, lt))))

rising-value : (x y : K3) → LiesUnder x y → IsRising half_of x y
rising-value x y (inl e) = record { le = omega (arith, ap half_of e); same = λ ge. e }
rising-value No y (inr e) =
    record { le = omega (arith, ap half_of e); same = λ ge. absurd (omega (arith, ap half_of e, ge)) }
rising-value Half y (inr e) = record { le = omega (arith, ap half_of e); same = λ ge. sym e }
rising-value Yes y (inr e) =
    record { le = omega (arith, ap half_of e); same = λ ge. absurd (omega (arith, ap half_of e, ge)) }

rising-flag : (a b : Bool) → (IsTrue a → IsTrue b) → IsRising half_of_flag a b
rising-flag true true up = record { le = omega arith; same = λ ge. refl }
rising-flag true false up = absurd (true≢false (sym (up refl)))
rising-flag false true up = record { le = omega arith; same = λ ge. absurd (omega (arith, ge)) }
rising-flag false false up = record { le = omega arith; same = λ ge. refl }

-- ---- planes

module _ (size : ℕ) (p q : PlaneForm) (is_p : IsPlane size p) (is_q : IsPlane size q) (arity : p.arity ≡ q.arity)
    (under : (tuple : List ℕ) → LiesUnder (value_in p tuple) (value_in q tuple)) where
  under-cell : (tuple : List ℕ) → length tuple ≡ p.arity
      → LiesUnder (cell p.rows (row_of tuple) (column_of tuple)) (cell q.rows (row_of tuple) (column_of tuple))
  under-cell tuple e =
      subst (λ k. LiesUnder k (cell q.rows (row_of tuple) (column_of tuple))) (value_in-fits p tuple e)
      (subst (LiesUnder (value_in p tuple)) (value_in-fits q tuple (e ∙ arity)) (under tuple))

  under-cells : (a : ℕ) → a ≡ p.arity → a ≤ 2 → (r c : ℕ) → r < row_count size a → c < column_count size a
      → LiesUnder (cell p.rows r c) (cell q.rows r c)
  under-cells zero e small r c row column =
      let first_row : r ≡ 0 = omega (arith, row)
      in let first_column : c ≡ 0 = omega (arith, column)
      in rw (first_row, first_column) (under-cell [] e)
  under-cells (suc zero) e small r c row column =
      let first_row : r ≡ 0 = omega (arith, row)
      in rw first_row (under-cell (c ∷ []) e)
  under-cells (suc (suc zero)) e small r c row column = under-cell (r ∷ c ∷ []) e
  under-cells (suc (suc (suc a))) e small r c row column = absurd (omega (arith, small))

  rising-rows : AllZip (IsRising row_halves) p.rows q.rows
  rising-rows = zip-from (IsRising row_halves) p.rows q.rows
      (is_p.rows ∙ ap (row_count size) arity ∙ sym is_q.rows) row
    where
      row : (r : ℕ) (d e : List K3) → r < length p.rows → IsRising row_halves (get_or p.rows r d) (get_or q.rows r e)
      row r d e lt =
          let lt_q : r < length q.rows = rw (is_q.rows, ← arity, ← is_p.rows) lt
          in let long_p : length (get_or p.rows r d) ≡ column_count size p.arity = is_p.columns r d lt
          in let long_q : length (get_or q.rows r e) ≡ column_count size q.arity = is_q.columns r e lt_q
          in rising-list half_of (get_or p.rows r d) (get_or q.rows r e)
          (zip-from (IsRising half_of) (get_or p.rows r d) (get_or q.rows r e)
          (long_p ∙ ap (column_count size) arity ∙ sym long_q)
          (λ c k l within.
          let within_q : c < length (get_or q.rows r e) = rw (long_q, ← arity, ← long_p) within
          in let at_p : cell p.rows r c ≡ get_or (get_or p.rows r d) c k
          = ap (λ l. get_or l c No) (get_or_default p.rows r [] d lt) ∙ get_or_default (get_or p.rows r d) c No k within
          in let at_q : cell q.rows r c ≡ get_or (get_or q.rows r e) c l
          = ap (λ m. get_or m c No) (get_or_default q.rows r [] e lt_q) ∙ get_or_default (get_or q.rows r e) c No l within_q
          in rising-value (get_or (get_or p.rows r d) c k) (get_or (get_or q.rows r e) c l)
          (subst (λ x. LiesUnder x (get_or (get_or q.rows r e) c l)) at_p
          (subst (LiesUnder (cell p.rows r c)) at_q
          (under-cells p.arity refl is_p.arity r c (rw (← is_p.rows) lt) (rw (← long_p) within))))))

  rising-plane : IsRising plane_halves p q
  rising-plane =
      let rows : IsRising (λ l. sum_by row_halves l) p.rows q.rows = rising-list row_halves p.rows q.rows rising-rows
      in record {
        le = rows.le;
        same = λ ge.
            let same_rows : p.rows ≡ q.rows = rows.same ge
            in λ i. record { arity = arity i; rows = same_rows i };
      }

-- ---- structures

module _ (s t : StructureForm) (is_s : IsStructure s) (is_t : IsStructure t) (fresh : s.fresh ≡ t.fresh)
    (under : IsUnder s t) where
  plane-count : length s.planes ≡ length t.planes
  plane-count = sym (length-map s.planes (λ (plane : PlaneForm). plane.arity)) ∙ ap length under.over
      ∙ length-map t.planes (λ (plane : PlaneForm). plane.arity)

  rising-planes : AllZip (IsRising plane_halves) s.planes t.planes
  rising-planes = zip-from (IsRising plane_halves) s.planes t.planes plane-count plane
    where
      plane : (k : ℕ) (d e : PlaneForm) → k < length s.planes
          → IsRising plane_halves (get_or s.planes k d) (get_or t.planes k e)
      plane k d e lt =
          let lt_t : k < length t.planes = rw (← plane-count) lt
          in let p = get_or s.planes k no_plane
          in let q = get_or t.planes k no_plane
          in let arity : p.arity ≡ q.arity
          = sym (get_or-map (λ (x : PlaneForm). x.arity) s.planes k no_plane 0 lt)
          ∙ ap (λ xs. get_or xs k 0) under.over ∙ get_or-map (λ (x : PlaneForm). x.arity) t.planes k no_plane 0 lt_t
          in let IsOf : ℕ → Type 0 = λ n. IsPlane n q
          in subst (λ x. IsRising plane_halves x (get_or t.planes k e)) (get_or_default s.planes k no_plane d lt)
          (subst (IsRising plane_halves p) (get_or_default t.planes k no_plane e lt_t)
          (rising-plane s.size p q (is_s.table.planes k no_plane lt)
          (subst IsOf (sym under.size) (is_t.table.planes k no_plane lt_t)) arity (λ tuple. under.values k tuple)))

  rising-flags : AllZip (IsRising half_of_flag) s.summaries t.summaries
  rising-flags = zip-from (IsRising half_of_flag) s.summaries t.summaries
      (is_s.summaries ∙ under.size ∙ sym is_t.summaries)
      (λ u d e lt.
      let lt_t : u < length t.summaries = omega (arith, lt, is_s.summaries, under.size, is_t.summaries)
      in subst (λ x. IsRising half_of_flag x (get_or t.summaries u e)) (get_or_default s.summaries u false d lt)
      (subst (IsRising half_of_flag (get_or s.summaries u false)) (get_or_default t.summaries u false e lt_t)
      (rising-flag (get_or s.summaries u false) (get_or t.summaries u false) (under.summaries u))))

  pub rising-structure : IsRising half_count s t
  rising-structure =
      let planes : IsRising (λ l. sum_by plane_halves l) s.planes t.planes = rising-list plane_halves s.planes t.planes rising-planes
      in let flags : IsRising (λ l. sum_by half_of_flag l) s.summaries t.summaries
      = rising-list half_of_flag s.summaries t.summaries rising-flags
      in record {
        le = omega (arith, planes.le, flags.le);
        same = λ ge.
            let same_planes : s.planes ≡ t.planes = planes.same (omega (arith, planes.le, flags.le, ge))
            in let same_flags : s.summaries ≡ t.summaries = flags.same (omega (arith, planes.le, flags.le, ge))
            in λ i. record { size = under.size i; summaries = same_flags i; planes = same_planes i; fresh = fresh i };
      }

  -- a structure that differs weighs more
  pub rises-strictly : t ≢ s → structure_weight s < structure_weight t
  rises-strictly apart = by (cases_lt (half_count s) (half_count t))
    where
      by : (half_count s < half_count t) ⊎ (half_count t ≤ half_count s) → structure_weight s < structure_weight t
      by (inl lt) = omega (arith, lt)
      by (inr ge) = absurd (apart (sym (rising-structure.same ge)))

-- ---- no structure weighs more than a bound

half-bound : (k : K3) → half_of k ≤ 1
half-bound No = omega arith
half-bound Half = omega arith
half-bound Yes = omega arith

flag-bound : (b : Bool) → half_of_flag b ≤ 1
flag-bound true = omega arith
flag-bound false = omega arith

all-of : {X : Type 0} (P : X → Type 0) (xs : List X) → ((x : X) → P x) → All P xs
all-of P xs each k d lt = each (get_or xs k d)

column-bound : (size a : ℕ) → size ≤ 256 → a ≤ 2 → column_count size a ≤ 256
column-bound size zero small low = omega arith
column-bound size (suc zero) small low = small
column-bound size (suc (suc zero)) small low = small
column-bound size (suc (suc (suc a))) small low = absurd (omega (arith, low))

row-bound : (size a : ℕ) → size ≤ 256 → a ≤ 2 → row_count size a ≤ 256
row-bound size zero small low = omega arith
row-bound size (suc zero) small low = omega arith
row-bound size (suc (suc zero)) small low = small
row-bound size (suc (suc (suc a))) small low = absurd (omega (arith, low))

plane-bound : (size : ℕ) (p : PlaneForm) → size ≤ 256 → IsPlane size p → plane_halves p ≤ 65536
plane-bound size p small is =
    let rows : sum_by row_halves p.rows ≤ length p.rows * 256
    = sum_by-le row_halves 256 p.rows (λ r d lt.
    let row = get_or p.rows r d
    in let count : sum_by half_of row ≤ length row * 1 = sum_by-le half_of 1 row (all-of (λ k. half_of k ≤ 1) row half-bound)
    in omega (arith, count, is.columns r d lt, column-bound size p.arity small is.arity))
    in omega (arith, rows, is.rows, row-bound size p.arity small is.arity)

pub weight-bound : (t : TaskForm) (s : StructureForm) → IsPlain t.program s → structure_weight s ≤ most_structure t
weight-bound t s plain =
    let planes : sum_by plane_halves s.planes ≤ length s.planes * 65536
    = sum_by-le plane_halves 65536 s.planes (λ k d lt.
    plane-bound s.size (get_or s.planes k d) plain.is.table.size (plain.is.table.planes k d lt))
    in let flags : sum_by half_of_flag s.summaries ≤ length s.summaries * 1
    = sum_by-le half_of_flag 1 s.summaries (all-of (λ b. half_of_flag b ≤ 1) s.summaries flag-bound)
    in let count : length s.planes ≡ length t.program.preds
    = sym (length-map s.planes (λ (plane : PlaneForm). plane.arity)) ∙ ap length plain.shaped.over
    ∙ length-map t.program.preds (λ (d : PredForm). d.arity)
    in omega (arith, planes, flags, count, plain.is.summaries, plain.is.table.size)

-- nor do so many
listing-bound : (m : ℕ) (listing : List (List StructureForm)) → All (All (λ s. structure_weight s ≤ m)) listing
    → listing_weight listing ≤ sum_by length listing * m
listing-bound m [] all = omega arith
listing-bound m (xs ∷ listing) all =
    let first : sum_by structure_weight xs ≤ length xs * m
    = sum_by-le structure_weight m xs (All-head (All (λ s. structure_weight s ≤ m)) xs listing all)
    in let rest : listing_weight listing ≤ sum_by length listing * m
    = listing-bound m listing (All-tail (All (λ s. structure_weight s ≤ m)) xs listing all)
    in let both : length xs * m + sum_by length listing * m ≡ (length xs + sum_by length listing) * m
    = sym (add-mul (length xs) (sum_by length listing) m)
    in let weight : listing_weight (xs ∷ listing) ≡ structures_weight xs + listing_weight listing
    = sum_by-cons structures_weight xs listing
    in let total : sum_by length (xs ∷ listing) * m ≡ (length xs + sum_by length listing) * m
    = ap (λ n. n * m) (sum_by-cons length xs listing)
    in omega (arith, first, rest, both, weight, total)

pub total-bound : (t : TaskForm) (listing : List (List StructureForm)) → All (All (IsPlain t.program)) listing
    → sum_by length listing ≤ t.max → listing_weight listing ≤ t.max * most_structure t
total-bound t listing plain within =
    let each : listing_weight listing ≤ sum_by length listing * most_structure t
    = listing-bound (most_structure t) listing
    (All-weaker (All (IsPlain t.program)) (All (λ s. structure_weight s ≤ most_structure t))
    (λ xs all. All-weaker (IsPlain t.program) (λ s. structure_weight s ≤ most_structure t) (weight-bound t) xs all) listing plain)
    in let most : sum_by length listing * most_structure t ≤ t.max * most_structure t
    = mul-le-mul_right (most_structure t) within
    in omega (arith, each, most)
