-- Walks over predicates and over rows, and what is written on the way.
use Rattle.std.proofs.Common.{◌≡◌, ◌≢◌, ℕ, zero, suc, ◌<◌, ◌≤◌, ◌+◌, ◌-◌, Bool, true, false, List, [], ◌∷◌}
use Rattle.std.proofs.Common.{◌++◌, map, length}
use Rattle.std.proofs.Common.{refl, sym, ap, ◌∙◌, arith, if◌then◌else◌, eqb, cond, append_assoc}
use Rattle.std.specs.Prelude.{codes, drop, slice_index_or, filter, Some, None}
use Rattle.std.specs.List.{flat_map, range_with_len}
use Rattle.std.proofs.lemmas.List.{append-nil}
use Rattle.std.proofs.lemmas.List.FromFn.{length-map-range_with_len, get_or-map-range_with_len}
use Rattle.std.proofs.lemmas.Grind.{flat_map-append}
use Rattle.std.proofs.lemmas.List.Folds.{flat_map-map}
use Rattle.tv_kleene.specs.declared.K3.{K3}
use Rattle.tv_kleene.specs.declared.K3.TheVariants.{No, Half, Yes}
use Rattle.tv_lemmas.proofs.Lists.{range_more, flat_map-range}
use Rattle.tv_model.specs.declared.program.Pred.{Pred}
use Rattle.tv_row.specs.Bits.{is_certain}
use Rattle.tv_model.specs.declared.program.Vocab.{Vocab}
use Rattle.tv_structure_form.specs.StructureForm.{StructureForm, value_at, summary_at}
use Rattle.tv_show.specs.Texts.{marked, joined, valued, arrow_text, of_arity}
use Rattle.tv_show.specs.Line.{yes_places, target_text, row_texts, individual_text, opening, closing}
use Rattle.tv_show.specs.Line.{telling, numbered, unary_texts, node_text, arrow_texts, nullary_texts, line_of}
use Rattle.tv_show.specs.Named.{only}
use Rattle.tv_show.specs.Rows.{each_pred, unary_marked, nullary_marked, arrow_marked, row_marked}
use Rattle.tv_show.specs.Rows.{binary_marked}

-- ---- predicates

marked_append : (mark : List ℕ) (xs ys : List (List ℕ)) → marked mark (xs ++ ys) ≡ marked mark xs ++ marked mark ys
marked_append mark xs ys = flat_map-append (λ text. mark ++ text) xs ys

-- the texts of predicates, each behind a mark, are those that are written one by one
pub each_marked : (mark : List ℕ) (arity : ℕ) (say : ℕ → List ℕ → List (List ℕ)) (text : ℕ → List ℕ → List ℕ)
    → ((p : ℕ) (name : List ℕ) → text p name ≡ marked mark (say p name)) → (p : ℕ) (preds : List Pred)
    → each_pred arity text p preds ≡ marked mark (of_arity arity say p preds)
each_marked mark arity say text same p [] = refl
each_marked mark arity say text same p (pred ∷ preds) =
    (λ i. here (eqb pred.arity arity) i ++ each_marked mark arity say text same (p + 1) preds i)
    ∙ sym (marked_append mark (if eqb pred.arity arity then say p pred.name else []) (of_arity arity say (p + 1) preds))
  where
    here : (b : Bool) → (if b then text p pred.name else []) ≡ marked mark (if b then say p pred.name else [])
    here true = same p pred.name
    here false = refl

-- ---- individuals

-- one turn of a loop over individuals
pub turned : {X : Type 0} (f : ℕ → List X) (before out : List X) (u : ℕ) → out ≡ before ++ flat_map f (range_with_len 0 u)
    → out ++ f u ≡ before ++ flat_map f (range_with_len 0 (u + 1))
turned f before out u so_far =
    let number : 0 + u ≡ u = omega arith
    in ap (λ xs. xs ++ f u) so_far ∙ append_assoc before (flat_map f (range_with_len 0 u)) (f u)
    ∙ ap (λ xs. before ++ xs) (ap (λ xs. flat_map f (range_with_len 0 u) ++ xs) (sym (append-nil (f u)))
    ∙ sym (flat_map-append f (range_with_len 0 u) (u ∷ []))
    ∙ ap (λ w. flat_map f (range_with_len 0 u ++ w ∷ [])) (sym number) ∙ ap (flat_map f) (sym (range_more 0 u)))

skipped : {X : Type 0} (f : ℕ → List X) (a n : ℕ) → ((c : ℕ) → a ≤ c → c < a + n → f c ≡ [])
    → flat_map f (range_with_len 0 a) ≡ flat_map f (range_with_len 0 (a + n))
skipped f a zero none = let e : a ≡ a + 0 = omega arith in ap (λ m. flat_map f (range_with_len 0 m)) e
skipped f a (suc n) none =
    let e : a + n + 1 ≡ a + suc n = omega arith
    in skipped f a n (λ c from less. none c from (omega (arith, less)))
    ∙ sym (append-nil (flat_map f (range_with_len 0 (a + n))))
    ∙ ap (λ t. flat_map f (range_with_len 0 (a + n)) ++ t) (sym (none (a + n) (omega arith) (omega arith)))
    ∙ turned f [] (flat_map f (range_with_len 0 (a + n))) (a + n) refl
    ∙ ap (λ m. flat_map f (range_with_len 0 m)) e

-- nothing is written of the individuals up to an end
pub none_until : {X : Type 0} (f : ℕ → List X) (from end : ℕ) (before out : List X) → from ≤ end
    → ((c : ℕ) → from ≤ c → c < end → f c ≡ []) → out ≡ before ++ flat_map f (range_with_len 0 from)
    → out ≡ before ++ flat_map f (range_with_len 0 end)
none_until f from end before out le none so_far =
    let e : from + (end - from) ≡ end = omega (arith, le)
    in so_far ∙ ap (λ xs. before ++ xs) (skipped f from (end - from) (λ c low less. none c low (omega (arith, less, le)))
    ∙ ap (λ m. flat_map f (range_with_len 0 m)) e)

-- the next of which something is
pub one_further : {X : Type 0} (f : ℕ → List X) (from u : ℕ) (before out : List X) → from ≤ u
    → ((c : ℕ) → from ≤ c → c < u → f c ≡ []) → out ≡ before ++ flat_map f (range_with_len 0 from)
    → out ++ f u ≡ before ++ flat_map f (range_with_len 0 (u + 1))
one_further f from u before out le none so_far = turned f before out u (none_until f from u before out le none so_far)

-- individuals, each behind a mark
pub individuals_marked : (mark : List ℕ) (f : ℕ → List ℕ) (size : ℕ)
    → flat_map (λ u. mark ++ f u) (range_with_len 0 size) ≡ marked mark (map f (range_with_len 0 size))
individuals_marked mark f size = sym (flat_map-map (λ text. mark ++ text) f (range_with_len 0 size))

-- ---- rows

marked-flat_map : {X : Type 0} (mark : List ℕ) (f : X → List (List ℕ)) (xs : List X)
    → flat_map (λ x. marked mark (f x)) xs ≡ marked mark (flat_map f xs)
marked-flat_map mark f [] = refl
marked-flat_map mark f (x ∷ xs) =
    ap (λ t. marked mark (f x) ++ t) (marked-flat_map mark f xs) ∙ sym (marked_append mark (f x) (flat_map f xs))

-- the arrows of a binary predicate from an individual
pub row_written : (preds : List Pred) (s : StructureForm) (u p : ℕ) (name : List ℕ) (targets : List (List ℕ))
    → targets ≡ map (target_text preds s) (range_with_len 0 s.size)
    → row_marked name targets (map (λ w. value_at s p (u ∷ w ∷ [])) (range_with_len 0 s.size)) ≡ marked (codes "&") (row_texts preds s u p name)
row_written preds s u p name targets are =
    let values : List K3 = map (λ w. value_at s p (u ∷ w ∷ [])) (range_with_len 0 s.size)
    in ap (λ n. flat_map (λ w. arrow_marked name (slice_index_or targets w []) (slice_index_or values w No)) (range_with_len 0 n))
    (length-map-range_with_len (λ w. value_at s p (u ∷ w ∷ [])) 0 s.size)
    ∙ flat_map-range (λ w. arrow_marked name (slice_index_or targets w []) (slice_index_or values w No))
    (λ w. arrow_marked name (target_text preds s w) (value_at s p (u ∷ w ∷ []))) 0 s.size (λ w low less.
    let below : w < s.size = omega (arith, less)
    in let target : slice_index_or targets w [] ≡ target_text preds s w
    = ap (λ texts. slice_index_or texts w []) are ∙ get_or-map-range_with_len (target_text preds s) 0 s.size w w [] below (omega arith)
    in let value : slice_index_or values w No ≡ value_at s p (u ∷ w ∷ [])
    = get_or-map-range_with_len (λ x. value_at s p (u ∷ x ∷ [])) 0 s.size w w No below (omega arith)
    in (λ i. arrow_marked name (target i) (value i)))
    ∙ marked-flat_map (codes "&") (λ w. map (λ n. arrow_text n (target_text preds s w)) (valued name (value_at s p (u ∷ w ∷ [])))) (range_with_len 0 s.size)

-- ---- the places of Yes

places_are : (row : List K3) (us : List ℕ) → flat_map (λ u. if is_certain (slice_index_or row u No) then u ∷ [] else []) us
    ≡ filter (λ u. is_certain (slice_index_or row u No)) us
places_are row [] = refl
places_are row (u ∷ us) = go (is_certain (slice_index_or row u No)) (places_are row us)
  where
    go : (b : Bool) → flat_map (λ u. if is_certain (slice_index_or row u No) then u ∷ [] else []) us ≡ filter (λ u. is_certain (slice_index_or row u No)) us
        → (if b then u ∷ [] else []) ++ flat_map (λ u. if is_certain (slice_index_or row u No) then u ∷ [] else []) us
        ≡ cond b (u ∷ filter (λ u. is_certain (slice_index_or row u No)) us) (filter (λ u. is_certain (slice_index_or row u No)) us)
    go true same = ap (λ us. u ∷ us) same
    go false same = same

uncertain : (k : K3) → k ≢ Yes → is_certain k ≡ false
uncertain No other = refl
uncertain Half other = refl
uncertain Yes other = absurd (other refl)

module _ (row : List K3) where
  abbrev place : ℕ → List ℕ
  place u = if is_certain (slice_index_or row u No) then u ∷ [] else []

  no_place : (c : ℕ) → slice_index_or row c No ≢ Yes → place c ≡ []
  no_place c other = ap (λ b. if b then c ∷ [] else []) (uncertain (slice_index_or row c No) other)

  yes_place : (c : ℕ) → slice_index_or row c No ≡ Yes → place c ≡ c ∷ []
  yes_place c is_yes = ap (λ k. if is_certain k then c ∷ [] else []) is_yes

  pub no_yes : ((c : ℕ) → 0 ≤ c → c < length row → slice_index_or row c No ≢ Yes) → only (yes_places row) ≡ None
  no_yes none =
      let places : [] ≡ flat_map place (range_with_len 0 (length row))
      = none_until place 0 (length row) [] [] (omega arith) (λ c low less. no_place c (none c low less)) refl
      in ap only (sym (places ∙ places_are row (range_with_len 0 (length row))))

  up_to : (first : ℕ) → slice_index_or row first No ≡ Yes → ((c : ℕ) → 0 ≤ c → c < first → slice_index_or row c No ≢ Yes)
      → first ∷ [] ≡ flat_map place (range_with_len 0 (first + 1))
  up_to first is_yes none =
      sym (yes_place first is_yes) ∙ one_further place 0 first [] [] (omega arith) (λ c low less. no_place c (none c low less)) refl

  pub one_yes : (first : ℕ) → first < length row → slice_index_or row first No ≡ Yes
      → ((c : ℕ) → 0 ≤ c → c < first → slice_index_or row c No ≢ Yes)
      → ((c : ℕ) → first + 1 ≤ c → c < length row → slice_index_or row c No ≢ Yes) → only (yes_places row) ≡ Some first
  one_yes first below is_yes before behind =
      let places : first ∷ [] ≡ flat_map place (range_with_len 0 (length row))
      = none_until place (first + 1) (length row) [] (first ∷ []) (omega (arith, below)) (λ c low less. no_place c (behind c low less))
      (up_to first is_yes before)
      in ap only (sym (places ∙ places_are row (range_with_len 0 (length row))))

  longer : (a n : ℕ) (x y : ℕ) (xs : List ℕ) → x ∷ y ∷ xs ≡ flat_map place (range_with_len 0 a)
      → (ys : List ℕ) × (x ∷ y ∷ ys ≡ flat_map place (range_with_len 0 (a + n)))
  longer a zero x y xs so_far = let e : a ≡ a + 0 = omega arith in (xs, so_far ∙ ap (λ m. flat_map place (range_with_len 0 m)) e)
  longer a (suc n) x y xs so_far =
      let e : a + 1 + n ≡ a + suc n = omega arith
      in let rest = longer (a + 1) n x y (xs ++ place a) (turned place [] (x ∷ y ∷ xs) a so_far)
      in (rest.0, rest.1 ∙ ap (λ m. flat_map place (range_with_len 0 m)) e)

  pub two_yes : (first second : ℕ) → slice_index_or row first No ≡ Yes
      → ((c : ℕ) → 0 ≤ c → c < first → slice_index_or row c No ≢ Yes) → first + 1 ≤ second → second < length row
      → slice_index_or row second No ≡ Yes → ((c : ℕ) → first + 1 ≤ c → c < second → slice_index_or row c No ≢ Yes)
      → only (yes_places row) ≡ None
  two_yes first second is_yes before after below second_yes between =
      let two : (first ∷ []) ++ place second ≡ flat_map place (range_with_len 0 (second + 1))
      = one_further place (first + 1) second [] (first ∷ []) after (λ c low less. no_place c (between c low less)) (up_to first is_yes before)
      in let both : first ∷ second ∷ [] ≡ flat_map place (range_with_len 0 (second + 1))
      = ap (λ us. first ∷ us) (sym (yes_place second second_yes)) ∙ two
      in let all = longer (second + 1) (length row - (second + 1)) first second [] both
      in let e : second + 1 + (length row - (second + 1)) ≡ length row = omega (arith, below)
      in let places = all.1 ∙ ap (λ m. flat_map place (range_with_len 0 m)) e ∙ places_are row (range_with_len 0 (length row))
      in ap only (sym places)

-- ---- the parts of a line, put together

-- an individual with all that is said of it
pub node_written : (preds : List Pred) (s : StructureForm) (u : ℕ) (f : Bool) (said : List ℕ) → f ≡ summary_at s u
    → said ≡ marked (codes "&") (numbered u (telling s u 0 preds)) ++ each_pred 1 (unary_marked s u) 0 preds
    → opening f ++ (drop 1 said ++ closing f) ≡ node_text preds s u
node_written preds s u f said is_f says =
    let texts : said ≡ marked (codes "&") (numbered u (telling s u 0 preds) ++ unary_texts preds s u)
    = says ∙ (λ i. marked (codes "&") (numbered u (telling s u 0 preds))
    ++ each_marked (codes "&") 1 (λ p name. valued name (value_at s p (u ∷ []))) (unary_marked s u) (λ p name. refl) 0 preds i)
    ∙ sym (marked_append (codes "&") (numbered u (telling s u 0 preds)) (unary_texts preds s u))
    in (λ i. opening (is_f i) ++ (drop 1 (texts i) ++ closing (is_f i)))

-- the arrows of an individual
pub arrows_written : (preds : List Pred) (s : StructureForm) (u : ℕ) (targets : List (List ℕ)) (said : List ℕ)
    → targets ≡ map (target_text preds s) (range_with_len 0 s.size) → said ≡ each_pred 2 (binary_marked s targets u) 0 preds
    → said ≡ marked (codes "&") (arrow_texts preds s u)
arrows_written preds s u targets said are says =
    says ∙ each_marked (codes "&") 2 (row_texts preds s u) (binary_marked s targets u) (λ p name. row_written preds s u p name targets are) 0 preds

pub individual_written : (preds : List Pred) (s : StructureForm) (u : ℕ) (targets : List (List ℕ)) (out begun node said : List ℕ)
    → targets ≡ map (target_text preds s) (range_with_len 0 s.size) → begun ≡ out ++ codes "  " → node ≡ begun ++ node_text preds s u
    → said ≡ each_pred 2 (binary_marked s targets u) 0 preds → node ++ drop 1 said ≡ out ++ (codes "  " ++ individual_text preds s u)
individual_written preds s u targets out begun node said are begins nodes says =
    (λ i. nodes i ++ drop 1 (arrows_written preds s u targets said are says i))
    ∙ ap (λ t. (t ++ node_text preds s u) ++ joined (arrow_texts preds s u)) begins
    ∙ append_assoc (out ++ codes "  ") (node_text preds s u) (joined (arrow_texts preds s u))
    ∙ append_assoc out (codes "  ") (individual_text preds s u)

pub line_written : (vocab : Vocab) (s : StructureForm) (out individuals : List ℕ)
    → individuals ≡ out ++ flat_map (λ u. codes "  " ++ individual_text vocab.preds s u) (range_with_len 0 s.size)
    → individuals ++ each_pred 0 (nullary_marked s) 0 vocab.preds ≡ out ++ line_of vocab s
line_written vocab s out individuals are =
    (λ i. are i ++ each_marked (codes "  ") 0 (λ p name. valued name (value_at s p [])) (nullary_marked s) (λ p name. refl) 0 vocab.preds i)
    ∙ append_assoc out (flat_map (λ u. codes "  " ++ individual_text vocab.preds s u) (range_with_len 0 s.size)) (marked (codes "  ") (nullary_texts vocab.preds s))
    ∙ ap (λ t. out ++ t) (ap (λ t. t ++ marked (codes "  ") (nullary_texts vocab.preds s)) (individuals_marked (codes "  ") (individual_text vocab.preds s) s.size)
    ∙ sym (marked_append (codes "  ") (map (individual_text vocab.preds s) (range_with_len 0 s.size)) (nullary_texts vocab.preds s)))

-- one turn of the loop over them
pub individuals_turn : (preds : List Pred) (s : StructureForm) (u : ℕ) (before out : List ℕ)
    → out ≡ before ++ flat_map (λ w. codes "  " ++ individual_text preds s w) (range_with_len 0 u)
    → out ++ (codes "  " ++ individual_text preds s u) ≡ before ++ flat_map (λ w. codes "  " ++ individual_text preds s w) (range_with_len 0 (u + 1))
individuals_turn preds s u before out so_far = turned (λ w. codes "  " ++ individual_text preds s w) before out u so_far
