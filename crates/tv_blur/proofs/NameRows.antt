-- Names by rows: predicate after predicate, and compared row by row.
use Rattle.std.proofs.Common.{ℕ, ◌≡◌, ◌≢◌, ◌<◌, ◌≤◌, ◌+◌, Bool, true, false, List, [], ◌∷◌, ◌++◌, get_or}
use Rattle.std.proofs.Common.{length}
use Rattle.std.proofs.Common.{drop, Less, Equal, Greater, refl, sym, ap, subst, ◌∙◌, arith}
use Rattle.std.specs.Prelude.{IsTrue}
use Rattle.std.specs.declared.cmp.Ordering.{Ordering}
use Rattle.std.specs.Ordering.{ordering_then}
use Rattle.std.proofs.lemmas.List.{append-nil, drop_more, length-map, map-append, drop_all}
use Rattle.std.proofs.lemmas.List.Elements.{All-nil, All-push}
use Rattle.tv_lemmas.proofs.Orderings.{then_decided}
use Rattle.tv_kleene.specs.declared.K3.{K3}
use Rattle.tv_kleene.specs.declared.K3.TheVariants.{No}
use Rattle.tv_row.specs.Bits.{value_cmp}
use Rattle.tv_structure_form.specs.StructureForm.{StructureForm, structure_of, value_at}
use Rattle.tv_struct.specs.StructureRows.{unary_row}
use Rattle.tv_struct.proofs.Library.{get_or-unary_row, length-unary_row}
use Rattle.tv_blur.specs.Names.{canonical_name, name_cmp}
use Rattle.tv_blur.specs.Naming.{AddsRow, TellNames, name_in_rows}

-- ---- names one behind the other

then_assoc : (a b c : Ordering) → ordering_then a (ordering_then b c) ≡ ordering_then (ordering_then a b) c
then_assoc Less b c = refl
then_assoc Equal b c = refl
then_assoc Greater b c = refl

pub cmp_append : (xs ys more others : List K3) → length xs ≡ length ys
    → name_cmp (xs ++ more) (ys ++ others) ≡ ordering_then (name_cmp xs ys) (name_cmp more others)
cmp_append [] [] more others e = refl
cmp_append [] (y ∷ ys) more others e = absurd (omega arith)
cmp_append (x ∷ xs) [] more others e = absurd (omega arith)
cmp_append (x ∷ xs) (y ∷ ys) more others e =
    ap (ordering_then (value_cmp x y)) (cmp_append xs ys more others (omega arith))
    ∙ then_assoc (value_cmp x y) (name_cmp xs ys) (name_cmp more others)

then_tied : (o : Ordering) → ordering_then o Equal ≡ o
then_tied Less = refl
then_tied Equal = refl
then_tied Greater = refl

-- ---- one predicate more

-- how names compare by one more predicate
by_one_more : (preds : List ℕ) (s : StructureForm) (p u w : ℕ)
    → name_cmp (canonical_name (preds ++ p ∷ []) (structure_of s) u) (canonical_name (preds ++ p ∷ []) (structure_of s) w)
    ≡ ordering_then (name_cmp (canonical_name preds (structure_of s) u) (canonical_name preds (structure_of s) w))
    (name_cmp (value_at s p (u ∷ []) ∷ []) (value_at s p (w ∷ []) ∷ []))
by_one_more preds s p u w =
    ap (λ x. name_cmp x (canonical_name (preds ++ p ∷ []) (structure_of s) w)) (map-append (λ q. value_at s q (u ∷ [])) preds (p ∷ []))
    ∙ ap (name_cmp (canonical_name preds (structure_of s) u ++ value_at s p (u ∷ []) ∷ []))
    (map-append (λ q. value_at s q (w ∷ [])) preds (p ∷ []))
    ∙ cmp_append (canonical_name preds (structure_of s) u) (canonical_name preds (structure_of s) w)
    (value_at s p (u ∷ []) ∷ []) (value_at s p (w ∷ []) ∷ [])
    (length-map preds (λ q. value_at s q (u ∷ [])) ∙ sym (length-map preds (λ q. value_at s q (w ∷ []))))

-- and by one more row
by_row_more : (rows : List (List K3)) (row : List K3) (u w : ℕ)
    → name_cmp (name_in_rows (rows ++ row ∷ []) u) (name_in_rows (rows ++ row ∷ []) w)
    ≡ ordering_then (name_cmp (name_in_rows rows u) (name_in_rows rows w))
    (name_cmp (get_or row u No ∷ []) (get_or row w No ∷ []))
by_row_more rows row u w =
    ap (λ x. name_cmp x (name_in_rows (rows ++ row ∷ []) w)) (map-append (λ r. get_or r u No) rows (row ∷ []))
    ∙ ap (name_cmp (name_in_rows rows u ++ get_or row u No ∷ [])) (map-append (λ r. get_or r w No) rows (row ∷ []))
    ∙ cmp_append (name_in_rows rows u) (name_in_rows rows w) (get_or row u No ∷ []) (get_or row w No ∷ [])
    (length-map rows (λ r. get_or r u No) ∙ sym (length-map rows (λ r. get_or r w No)))

pub tell_none : (s : StructureForm) → TellNames [] s []
tell_none s = record { long = All-nil (λ row. length row ≡ s.size); alike = λ u w u_lt w_lt. refl }

tell_more : (preds : List ℕ) (s : StructureForm) (p : ℕ) (rows : List (List K3)) (row : List K3) → TellNames preds s rows
    → row ≡ unary_row s p → TellNames (preds ++ p ∷ []) s (rows ++ row ∷ [])
tell_more preds s p rows row tell is = record {
  long = All-push (λ r. length r ≡ s.size) rows row tell.long (ap length is ∙ length-unary_row s p);
  alike = λ u w u_lt w_lt.
      by_row_more rows row u w
      ∙ ap (λ o. ordering_then o (name_cmp (get_or row u No ∷ []) (get_or row w No ∷ []))) (tell.alike u w u_lt w_lt)
      ∙ ap (ordering_then (name_cmp (canonical_name preds (structure_of s) u) (canonical_name preds (structure_of s) w)))
      (ap (λ k. name_cmp (k ∷ []) (get_or row w No ∷ [])) (at u u_lt)
      ∙ ap (λ k. name_cmp (value_at s p (u ∷ []) ∷ []) (k ∷ [])) (at w w_lt))
      ∙ sym (by_one_more preds s p u w);
}
  where
    at : (u : ℕ) → u < s.size → get_or row u No ≡ value_at s p (u ∷ [])
    at u lt = ap (λ r. get_or r u No) is ∙ get_or-unary_row s p u lt

-- a predicate that is No at each individual tells nothing
tell_past : (preds : List ℕ) (s : StructureForm) (p : ℕ) (rows : List (List K3)) → TellNames preds s rows
    → ((u : ℕ) → u < s.size → value_at s p (u ∷ []) ≡ No) → TellNames (preds ++ p ∷ []) s rows
tell_past preds s p rows tell none = record {
  long = tell.long;
  alike = λ u w u_lt w_lt.
      tell.alike u w u_lt w_lt
      ∙ sym (by_one_more preds s p u w
      ∙ ap (ordering_then (name_cmp (canonical_name preds (structure_of s) u) (canonical_name preds (structure_of s) w)))
      (ap (λ k. name_cmp (k ∷ []) (value_at s p (w ∷ []) ∷ [])) (none u u_lt)
      ∙ ap (λ k. name_cmp (No ∷ []) (k ∷ [])) (none w w_lt))
      ∙ then_tied (name_cmp (canonical_name preds (structure_of s) u) (canonical_name preds (structure_of s) w)));
}

pub adds_row : (told : Bool) (s : StructureForm) (p : ℕ) (rows : List (List K3)) (row : List K3) → IsTrue told
    → row ≡ unary_row s p → AddsRow told s p rows (rows ++ row ∷ [])
adds_row true s p rows row on is preds tell = tell_more preds s p rows row tell is
adds_row false s p rows row on is preds tell = absurd (let e : false ≡ true = on in cc)

pub adds_none : (told : Bool) (s : StructureForm) (p : ℕ) (rows : List (List K3))
    → (IsTrue told → (u : ℕ) → u < s.size → value_at s p (u ∷ []) ≡ No) → AddsRow told s p rows rows
adds_none true s p rows none preds tell = tell_past preds s p rows tell (none refl)
adds_none false s p rows none preds tell = subst (λ ps. TellNames ps s rows) (sym (append-nil preds)) tell

-- ---- comparing row by row

-- the rows from i on tell as much as all
abbrev pub TellAll : (rows : List (List K3)) (u w i : ℕ) → Type 0
TellAll rows u w i =
    name_cmp (name_in_rows (drop i rows) u) (name_in_rows (drop i rows) w)
    ≡ name_cmp (name_in_rows rows u) (name_in_rows rows w)

at_row : (rows : List (List K3)) (u w i : ℕ) (row : List K3) → i < length rows → row ≡ get_or rows i row
    → name_cmp (name_in_rows (drop i rows) u) (name_in_rows (drop i rows) w)
    ≡ ordering_then (value_cmp (get_or row u No) (get_or row w No))
    (name_cmp (name_in_rows (drop (i + 1) rows) u) (name_in_rows (drop (i + 1) rows) w))
at_row rows u w i row lt is =
    ap (λ rs. name_cmp (name_in_rows rs u) (name_in_rows rs w))
    (drop_more rows i row lt ∙ ap (λ r. r ∷ drop (i + 1) rows) (sym is))

pub row_ties : (rows : List (List K3)) (u w i : ℕ) (row : List K3) → TellAll rows u w i → i < length rows
    → row ≡ get_or rows i row → value_cmp (get_or row u No) (get_or row w No) ≡ Equal → TellAll rows u w (i + 1)
row_ties rows u w i row tell lt is tied =
    sym (at_row rows u w i row lt is
    ∙ ap (λ o. ordering_then o (name_cmp (name_in_rows (drop (i + 1) rows) u) (name_in_rows (drop (i + 1) rows) w))) tied)
    ∙ tell

pub row_decides : (rows : List (List K3)) (u w i : ℕ) (row : List K3) → TellAll rows u w i → i < length rows
    → row ≡ get_or rows i row → value_cmp (get_or row u No) (get_or row w No) ≢ Equal
    → value_cmp (get_or row u No) (get_or row w No) ≡ name_cmp (name_in_rows rows u) (name_in_rows rows w)
row_decides rows u w i row tell lt is differ =
    sym (then_decided (value_cmp (get_or row u No) (get_or row w No))
    (name_cmp (name_in_rows (drop (i + 1) rows) u) (name_in_rows (drop (i + 1) rows) w)) differ)
    ∙ sym (at_row rows u w i row lt is) ∙ tell

pub rows_tie : (rows : List (List K3)) (u w i : ℕ) → TellAll rows u w i → length rows ≤ i
    → Equal ≡ name_cmp (name_in_rows rows u) (name_in_rows rows w)
rows_tie rows u w i tell all =
    sym (ap (λ rs. name_cmp (name_in_rows rs u) (name_in_rows rs w)) (drop_all i rows all)) ∙ tell
