-- How names compare to the next ones', predicate after predicate.
use Rattle.std.proofs.Common.{ℕ, Bool, true, false, take, ◌≡◌, ◌≢◌, ◌⊎◌, ◌<◌, ◌+◌, ◌-◌, inl, inr, List, []}
use Rattle.std.proofs.Common.{◌∷◌, ◌++◌, get_or, length, map, replicate, Less, Equal, Greater, refl, sym, ap}
use Rattle.std.proofs.Common.{subst, ◌∙◌, arith, drop, All, ◌≤◌, ◌*◌, ⊎_elim}
use Rattle.std.specs.Ordering.{ordering_then}
use Rattle.std.proofs.lemmas.Bool.{cases_eq, cases_lt}
use Rattle.std.specs.Prelude.{IsTrue, MatchBool, if◌then◌else◌}
use Rattle.std.proofs.lemmas.List.{append-nil, get_or-replicate, length-map, length-replicate, map-append}
use Rattle.std.proofs.lemmas.List.{take-append-drop, get_or_default, get_or_past, get_or-take, length-take-le}
use Rattle.tv_lemmas.proofs.Orderings.{then_nothing}
use Rattle.tv_kleene.specs.declared.K3.{K3}
use Rattle.tv_kleene.specs.declared.K3.TheVariants.{No, Half, Yes}
use Rattle.tv_model.specs.declared.program.Pred.{Pred}
use Rattle.tv_row.specs.Bits.{padded, value_cmp}
use Rattle.tv_row.proofs.RowOps.{no_place, no_word}
use Rattle.tv_structure_form.specs.StructureForm.{StructureForm, kept_from, structure_of, value_at}
use Rattle.tv_struct.specs.StructureRows.{unary_row}
use Rattle.tv_struct.proofs.Library.{get_or-unary_row}
use Rattle.tv_blur.specs.Names.{is_abstraction, canonical_name, name_cmp}
use Rattle.tv_blur.specs.Blur.{FollowsNames}
use Rattle.tv_blur.specs.Rising.{AddsRises, Falls, TellsRises, order_told, order_to_next, values_to_next}
use Rattle.tv_blur.proofs.ClassLaws.{abstraction_more}
use Rattle.tv_blur.proofs.FillLaws.{word_held}
use Rattle.tv_blur.proofs.NameRows.{cmp_append}

-- ---- one individual

pub then_less : (k : K3) → ordering_then (order_told k) Less ≡ Less
then_less No = refl
then_less Half = refl
then_less Yes = refl

pub then_greater : (k : K3) → k ≢ No → ordering_then (order_told k) Greater ≡ order_told k
then_greater No ne = absurd (ne refl)
then_greater Half ne = refl
then_greater Yes ne = refl

pub told_less : (k : K3) → k ≢ No → order_told k ≡ Less
told_less No ne = absurd (ne refl)
told_less Half ne = refl
told_less Yes ne = refl

-- ---- one individual after the other

pub adds_none : (values rises : List K3) → AddsRises values 0 rises rises
adds_none values rises = record { long = refl; first = λ u lt. absurd (omega arith); rest = λ u le. refl }

pub adds_more : (values : List K3) (n : ℕ) (old rises new : List K3) → AddsRises values n old rises
    → length new ≡ length rises
    → order_to_next new n ≡ ordering_then (order_to_next rises n) (values_to_next values n)
    → ((w : ℕ) → w ≢ n → get_or new w No ≡ get_or rises w No)
    → AddsRises values (n + 1) old new
adds_more values n old rises new adds long here others = record {
  long = long ∙ adds.long;
  first = λ u lt. first u lt (cases_eq u n);
  rest = λ u past. others u (λ e. omega (arith, e, past)) ∙ adds.rest u (omega (arith, past));
}
  where
    first : (u : ℕ) → u < n + 1 → (u ≡ n) ⊎ (u ≢ n)
        → order_to_next new u ≡ ordering_then (order_to_next old u) (values_to_next values u)
    first u lt (inl same) =
        subst (λ x. order_to_next new x ≡ ordering_then (order_to_next old x) (values_to_next values x)) (sym same)
        (here ∙ ap (λ k. ordering_then (order_told k) (values_to_next values n)) (adds.rest n (omega arith)))
    first u lt (inr differ) = ap order_told (others u differ) ∙ adds.first u (omega (arith, lt, differ))

-- individuals whose values are those of the next ones tell nothing
pub adds_past : (values : List K3) (n m : ℕ) (old rises : List K3) → AddsRises values n old rises → n ≤ m
    → ((w : ℕ) → n ≤ w → w < m → values_to_next values w ≡ Equal) → AddsRises values m old rises
adds_past values n m old rises adds le same = record {
  long = adds.long;
  first = λ u lt. ⊎_elim (λ before. adds.first u before)
      (λ past. ap order_told (adds.rest u past) ∙ sym (then_nothing (order_to_next old u))
      ∙ ap (ordering_then (order_to_next old u)) (sym (same u past lt)))
      (cases_lt u n);
  rest = λ u past. adds.rest u (omega (arith, le, past));
}

-- values that are both No compare as equal
pub no_values : (values : List K3) (w : ℕ) → get_or values w No ≡ No → get_or values (w + 1) No ≡ No
    → values_to_next values w ≡ Equal
no_values values w e f = rw (e, f) refl

-- a predicate that is No at each individual tells nothing
pub nowhere_adds : (s : StructureForm) (p : ℕ) (rises : List K3) → ((u : ℕ) → u < s.size → value_at s p (u ∷ []) ≡ No)
    → length rises ≡ s.size - 1 → AddsRises (unary_row s p) (length rises) rises rises
nowhere_adds s p rises none long =
    adds_past (unary_row s p) 0 (length rises) rises rises (adds_none (unary_row s p) rises) (omega arith)
    (λ w from lt. no_values (unary_row s p) w (no w (omega (arith, lt, long))) (no (w + 1) (omega (arith, lt, long))))
  where
    no : (u : ℕ) → u < s.size → get_or (unary_row s p) u No ≡ No
    no u lt = get_or-unary_row s p u lt ∙ none u lt

-- ---- one predicate after the other

pub rises_none : (s : StructureForm) (rises : List K3) → rises ≡ replicate (s.size - 1) No → TellsRises [] s rises
rises_none s rises is = record {
  long = ap length is ∙ length-replicate (s.size - 1) No;
  orders = λ u lt. sym (ap order_told (ap (λ r. get_or r u No) is ∙ get_or-replicate (s.size - 1) u No No lt));
}

name_more : (preds : List ℕ) (s : StructureForm) (p u : ℕ)
    → canonical_name (preds ++ p ∷ []) (structure_of s) u ≡ canonical_name preds (structure_of s) u ++ value_at s p (u ∷ []) ∷ []
name_more preds s p u = map-append (λ q. value_at s q (u ∷ [])) preds (p ∷ [])

-- how names compare by one more predicate
order_more : (preds : List ℕ) (s : StructureForm) (p u : ℕ) (old : List K3) → TellsRises preds s old → u < s.size - 1
    → name_cmp (canonical_name (preds ++ p ∷ []) (structure_of s) u) (canonical_name (preds ++ p ∷ []) (structure_of s) (u + 1))
    ≡ ordering_then (order_to_next old u) (values_to_next (unary_row s p) u)
order_more preds s p u old tells lt =
    ap (λ x. name_cmp x (canonical_name (preds ++ p ∷ []) (structure_of s) (u + 1))) (name_more preds s p u)
    ∙ ap (name_cmp (name u ++ value u ∷ [])) (name_more preds s p (u + 1))
    ∙ cmp_append (name u) (name (u + 1)) (value u ∷ []) (value (u + 1) ∷ [])
    (length-map preds (λ q. value_at s q (u ∷ [])) ∙ sym (length-map preds (λ q. value_at s q ((u + 1) ∷ []))))
    ∙ ap (ordering_then (name_cmp (name u) (name (u + 1)))) (then_nothing (value_cmp (value u) (value (u + 1))))
    ∙ ap (λ o. ordering_then o (value_cmp (value u) (value (u + 1)))) (tells.orders u lt)
    ∙ ap (ordering_then (order_to_next old u))
    (ap (λ k. value_cmp k (value (u + 1))) (sym (get_or-unary_row s p u (omega (arith, lt))))
    ∙ ap (value_cmp (get_or (unary_row s p) u No)) (sym (get_or-unary_row s p (u + 1) (omega (arith, lt)))))
  where
    name : ℕ → List K3
    name x = canonical_name preds (structure_of s) x

    value : ℕ → K3
    value x = value_at s p (x ∷ [])

pub rises_more : (preds : List ℕ) (s : StructureForm) (p n : ℕ) (old new : List K3) → TellsRises preds s old
    → n ≡ length old → AddsRises (unary_row s p) n old new → TellsRises (preds ++ p ∷ []) s new
rises_more preds s p n old new tells all adds = record {
  long = adds.long ∙ tells.long;
  orders = λ u lt. order_more preds s p u old tells lt ∙ sym (adds.first u (omega (arith, lt, all, tells.long)));
}

-- a predicate by which individuals may be told apart
rises_if : (preds : List ℕ) (s : StructureForm) (p : ℕ) (old new : List K3) (told : Bool) → TellsRises preds s old
    → MatchBool told (AddsRises (unary_row s p) (length old) old new) (new ≡ old)
    → TellsRises (preds ++ (if told then p ∷ [] else [])) s new
rises_if preds s p old new true tells adds = rises_more preds s p (length old) old new tells refl adds
rises_if preds s p old new false tells same =
    subst (λ ps. TellsRises ps s new) (sym (append-nil preds)) (subst (TellsRises preds s) (sym same) tells)

pub rises_next : (preds : List Pred) (s : StructureForm) (p : ℕ) (pred : Pred) (old new : List K3) → p < length preds
    → pred ≡ get_or preds p pred → TellsRises (kept_from 0 (take p (map is_abstraction preds))) s old
    → MatchBool (is_abstraction pred) (AddsRises (unary_row s p) (length old) old new) (new ≡ old)
    → TellsRises (kept_from 0 (take (p + 1) (map is_abstraction preds))) s new
rises_next preds s p pred old new lt is tells adds =
    subst (λ ps. TellsRises ps s new)
    (sym (abstraction_more preds p pred lt
    ∙ ap (λ x. kept_from 0 (take p (map is_abstraction preds)) ++ (if is_abstraction x then p ∷ [] else [])) (sym is)))
    (rises_if (kept_from 0 (take p (map is_abstraction preds))) s p old new (is_abstraction pred) tells adds)

-- where all rise, each name is below the next
pub rises_all : (preds : List ℕ) (s : StructureForm) (rises : List K3) → TellsRises preds s rises
    → ((u : ℕ) → u < length rises → get_or rises u No ≢ No)
    → (k : ℕ) → k + 1 < s.size → name_cmp (canonical_name preds (structure_of s) k) (canonical_name preds (structure_of s) (k + 1)) ≡ Less
rises_all preds s rises tells all k lt =
    let less : k < s.size - 1 = omega (arith, lt)
    in tells.orders k less ∙ told_less (get_or rises k No) (all k (omega (arith, less, tells.long)))

-- ---- where the structure isn't blurred

-- where a predicate is told, its values add
pub told_adds : (told : Bool) (values old new : List K3) → IsTrue told → AddsRises values (length old) old new
    → MatchBool told (AddsRises values (length old) old new) (new ≡ old)
told_adds true values old new on adds = adds
told_adds false values old new on adds = absurd (let e : false ≡ true = on in cc)

-- where individuals aren't told apart by it, all stays
pub untold : (told : Bool) (Adds Same : Type 0) → told ≡ false → Same → MatchBool told Adds Same
untold told Adds Same is same = subst (λ b. MatchBool b Adds Same) (sym is) same

-- where it isn't told, nothing is added
pub passed_adds : (told : Bool) (s : StructureForm) (p : ℕ) (rises : List K3)
    → (IsTrue told → (u : ℕ) → u < s.size → value_at s p (u ∷ []) ≡ No) → length rises ≡ s.size - 1
    → MatchBool told (AddsRises (unary_row s p) (length rises) rises rises) (rises ≡ rises)
passed_adds true s p rises none long = nowhere_adds s p rises (none refl) long
passed_adds false s p rises none long = refl

-- what falls of what was told before falls of what is told now
pub falls_before : (values : List K3) (n : ℕ) (old rises : List K3) → AddsRises values n old rises → n < length old
    → ordering_then (order_to_next rises n) (values_to_next values n) ≡ Greater → Falls values old
falls_before values n old rises adds lt greater =
    (n, lt, ap (λ k. ordering_then (order_told k) (values_to_next values n)) (sym (adds.rest n (omega arith))) ∙ greater)

kept_from_append : (n : ℕ) (xs ys : List Bool) → kept_from n (xs ++ ys) ≡ kept_from n xs ++ kept_from (n + length xs) ys
kept_from_append n [] ys = ap (λ m. kept_from m ys) (omega arith)
kept_from_append n (true ∷ xs) ys =
    ap (λ us. n ∷ us) (kept_from_append (n + 1) xs ys ∙ ap (λ m. kept_from (n + 1) xs ++ kept_from m ys) (omega arith))
kept_from_append n (false ∷ xs) ys =
    kept_from_append (n + 1) xs ys ∙ ap (λ m. kept_from (n + 1) xs ++ kept_from m ys) (omega arith)

-- names that fall by their first values fall
greater_more : (preds more : List ℕ) (s : StructureForm) (u w : ℕ)
    → name_cmp (canonical_name preds (structure_of s) u) (canonical_name preds (structure_of s) w) ≡ Greater
    → name_cmp (canonical_name (preds ++ more) (structure_of s) u) (canonical_name (preds ++ more) (structure_of s) w) ≡ Greater
greater_more preds more s u w greater =
    ap (λ x. name_cmp x (canonical_name (preds ++ more) (structure_of s) w)) (map-append (λ q. value_at s q (u ∷ [])) preds more)
    ∙ ap (name_cmp (canonical_name preds (structure_of s) u ++ canonical_name more (structure_of s) u))
    (map-append (λ q. value_at s q (w ∷ [])) preds more)
    ∙ cmp_append (canonical_name preds (structure_of s) u) (canonical_name preds (structure_of s) w)
    (canonical_name more (structure_of s) u) (canonical_name more (structure_of s) w)
    (length-map preds (λ q. value_at s q (u ∷ [])) ∙ sym (length-map preds (λ q. value_at s q (w ∷ []))))
    ∙ ap (λ o. ordering_then o (name_cmp (canonical_name more (structure_of s) u) (canonical_name more (structure_of s) w))) greater

-- names that rise by their first values rise
less_more : (preds more : List ℕ) (s : StructureForm) (u w : ℕ)
    → name_cmp (canonical_name preds (structure_of s) u) (canonical_name preds (structure_of s) w) ≡ Less
    → name_cmp (canonical_name (preds ++ more) (structure_of s) u) (canonical_name (preds ++ more) (structure_of s) w) ≡ Less
less_more preds more s u w less =
    ap (λ x. name_cmp x (canonical_name (preds ++ more) (structure_of s) w)) (map-append (λ q. value_at s q (u ∷ [])) preds more)
    ∙ ap (name_cmp (canonical_name preds (structure_of s) u ++ canonical_name more (structure_of s) u))
    (map-append (λ q. value_at s q (w ∷ [])) preds more)
    ∙ cmp_append (canonical_name preds (structure_of s) u) (canonical_name preds (structure_of s) w)
    (canonical_name more (structure_of s) u) (canonical_name more (structure_of s) w)
    (length-map preds (λ q. value_at s q (u ∷ [])) ∙ sym (length-map preds (λ q. value_at s q (w ∷ []))))
    ∙ ap (λ o. ordering_then o (name_cmp (canonical_name more (structure_of s) u) (canonical_name more (structure_of s) w))) less

-- where all rise by the first predicates, they rise by all
pub rises_enough : (flags : List Bool) (s : StructureForm) (rises : List K3) (n : ℕ) → TellsRises (kept_from 0 (take n flags)) s rises
    → ((u : ℕ) → u < length rises → get_or rises u No ≢ No)
    → (k : ℕ) → k + 1 < s.size
    → name_cmp (canonical_name (kept_from 0 flags) (structure_of s) k) (canonical_name (kept_from 0 flags) (structure_of s) (k + 1)) ≡ Less
rises_enough flags s rises n tells all k lt =
    let first : List ℕ = kept_from 0 (take n flags)
    in let more : List ℕ = kept_from (0 + length (take n flags)) (drop n flags)
    in let whole : kept_from 0 flags ≡ first ++ more
    = ap (kept_from 0) (sym (take-append-drop n flags)) ∙ kept_from_append 0 (take n flags) (drop n flags)
    in ap (λ ps. name_cmp (canonical_name ps (structure_of s) k) (canonical_name ps (structure_of s) (k + 1))) whole
    ∙ less_more first more s k (k + 1) (rises_all first s rises tells all k lt)

-- where the values of the next predicate fall, names aren't in order
pub falls_out : (preds : List Pred) (s : StructureForm) (p : ℕ) (pred : Pred) (old : List K3) → p < length preds
    → pred ≡ get_or preds p pred → is_abstraction pred ≡ true
    → TellsRises (kept_from 0 (take p (map is_abstraction preds))) s old → Falls (unary_row s p) old
    → ¬ FollowsNames (kept_from 0 (map is_abstraction preds)) (structure_of s) s.size (λ u. u)
falls_out preds s p pred old lt is told tells (u, within, greater) follows =
    let flags : List Bool = map is_abstraction preds
    in let first : List ℕ = kept_from 0 (take p flags)
    in let more : List ℕ = kept_from (0 + length (take (p + 1) flags)) (drop (p + 1) flags)
    in let inside : u < s.size - 1 = omega (arith, within, tells.long)
    in let next : kept_from 0 (take (p + 1) flags) ≡ first ++ p ∷ []
    = abstraction_more preds p pred lt
    ∙ ap (λ x. first ++ (if is_abstraction x then p ∷ [] else [])) (sym is)
    ∙ ap (λ b. first ++ (if b then p ∷ [] else [])) told
    in let all : kept_from 0 flags ≡ (first ++ p ∷ []) ++ more
    = ap (kept_from 0) (sym (take-append-drop (p + 1) flags))
    ∙ kept_from_append 0 (take (p + 1) flags) (drop (p + 1) flags) ∙ ap (λ ps. ps ++ more) next
    in let falls : name_cmp (canonical_name (kept_from 0 flags) (structure_of s) u) (canonical_name (kept_from 0 flags) (structure_of s) (u + 1)) ≡ Greater
    = ap (λ ps. name_cmp (canonical_name ps (structure_of s) u) (canonical_name ps (structure_of s) (u + 1))) all
    ∙ greater_more (first ++ p ∷ []) more s u (u + 1) (order_more first s p u old tells inside ∙ greater)
    in let rises : name_cmp (canonical_name (kept_from 0 flags) (structure_of s) u) (canonical_name (kept_from 0 flags) (structure_of s) (u + 1)) ≡ Less
    = (follows u (u + 1) (omega (arith, inside)) (omega (arith, inside))).0 (omega arith)
    in cc

-- where names are in order, all rise
pub all_rise : (preds : List ℕ) (s : StructureForm) (rises : List K3) → TellsRises preds s rises
    → FollowsNames preds (structure_of s) s.size (λ u. u) → All (λ k. k ≢ No) rises
all_rise preds s rises tells follows u d lt =
    let inside : u < s.size - 1 = omega (arith, lt, tells.long)
    in let less : order_to_next rises u ≡ Less
    = sym (tells.orders u inside) ∙ (follows u (u + 1) (omega (arith, inside)) (omega (arith, inside))).0 (omega arith)
    in λ no. let equal : order_to_next rises u ≡ Equal
    = ap order_told (get_or_default rises u No d lt ∙ no) in cc

-- ---- in one word

-- the word holds the values of the predicate
abbrev pub HoldsPred : (s : StructureForm) (pred : ℕ) (word : List K3) → Type 0
HoldsPred s pred word = (i : ℕ) → i < 64 → 64 * 0 + i < s.size → get_or word i No ≡ value_at s pred ((64 * 0 + i) ∷ [])

pub rises_none_in : (s : StructureForm) (rises : List K3) → s.size ≤ 64 → rises ≡ padded 0 (replicate 64 No)
    → TellsRises [] s (take (s.size - 1) rises)
rises_none_in s rises few is = record {
  long = length-take-le (s.size - 1) rises (omega (arith, few, ap length is ∙ no_word));
  orders = λ u lt. sym (ap order_told (get_or-take (s.size - 1) rises u No lt ∙ ap (λ r. get_or r u No) is
      ∙ no_place u (omega (arith, few, lt))));
}

values_in : (s : StructureForm) (p : ℕ) (word : List K3) (u : ℕ) → s.size ≤ 64 → HoldsPred s p word → u + 1 < s.size
    → values_to_next word u ≡ values_to_next (unary_row s p) u
values_in s p word u few holds lt =
    ap (λ k. value_cmp k (get_or word (u + 1) No)) (at u (omega (arith, lt)))
    ∙ ap (value_cmp (get_or (unary_row s p) u No)) (at (u + 1) lt)
  where
    at : (x : ℕ) → x < s.size → get_or word x No ≡ get_or (unary_row s p) x No
    at x low = word_held s p word few holds x low ∙ sym (get_or-unary_row s p x low)

order_in : (m : ℕ) (rises : List K3) (u : ℕ) → u < m → order_to_next (take m rises) u ≡ order_to_next rises u
order_in m rises u lt = ap order_told (get_or-take m rises u No lt)

pub falls_in : (values : List K3) (n m : ℕ) (old rises : List K3) → AddsRises values n old rises → n < m → m ≤ length old
    → ordering_then (order_to_next rises n) (values_to_next values n) ≡ Greater → Falls values (take m old)
falls_in values n m old rises adds lt within greater = (
  n,
  omega (arith, lt, length-take-le m old within),
  ap (λ o. ordering_then o (values_to_next values n)) (order_in m old n lt ∙ ap order_told (sym (adds.rest n (omega arith)))) ∙ greater,
)

pub falls_word : (s : StructureForm) (p : ℕ) (word rises : List K3) → s.size ≤ 64 → HoldsPred s p word → length rises ≡ 64
    → Falls word (take (s.size - 1) rises) → Falls (unary_row s p) (take (s.size - 1) rises)
falls_word s p word rises few holds long (u, lt, greater) =
    let inside : u < s.size - 1 = omega (arith, lt, length-take-le (s.size - 1) rises (omega (arith, few, long)))
    in (
      u,
      lt,
      ap (ordering_then (order_to_next (take (s.size - 1) rises) u)) (sym (values_in s p word u few holds (omega (arith, inside))))
          ∙ greater,
    )

pub adds_word : (s : StructureForm) (p : ℕ) (word old new : List K3) → s.size ≤ 64 → HoldsPred s p word → length old ≡ 64
    → AddsRises word (s.size - 1) old new
    → AddsRises (unary_row s p) (length (take (s.size - 1) old)) (take (s.size - 1) old) (take (s.size - 1) new)
adds_word s p word old new few holds long adds = record {
  long = length-take-le m new (omega (arith, few, long, adds.long)) ∙ sym size;
  first = λ u lt.
      let inside : u < m = omega (arith, lt, size)
      in order_in m new u inside ∙ adds.first u inside
      ∙ ap (λ o. ordering_then o (values_to_next word u)) (sym (order_in m old u inside))
      ∙ ap (ordering_then (order_to_next (take m old) u)) (values_in s p word u few holds (omega (arith, inside)));
  rest = λ u past.
      get_or_past (take m new) u No (omega (arith, past, size, length-take-le m new (omega (arith, few, long, adds.long))))
      ∙ sym (get_or_past (take m old) u No past);
}
  where
    m : ℕ
    m = s.size - 1

    size : length (take m old) ≡ m
    size = length-take-le m old (omega (arith, few, long))
