-- A report fails one demand first.
use Rattle.std.proofs.Common.{◌≡◌, ◌≢◌, ◌<◌, ℕ, List, [], ◌∷◌, inl, inr, refl, sym, ap, ◌∙◌, arith}
use Rattle.std.specs.Prelude.{slice_index}
use Rattle.tv_judge.specs.Judged.{Case, Demand, Covering, Stepping, Saying, demand_order, StandsBefore}
use Rattle.tv_judge.specs.Judged.{FailsFirst, IsRejection, IsClosedReport}
use Rattle.tv_listing.specs.declared.analysis.Item.TheVariants as item
use Rattle.tv_listing.specs.declared.analysis.Rejection.{Rejection}
use Rattle.tv_listing.specs.declared.analysis.Rejection.TheVariants.{Initial, Result, Message}

-- neither list is before the other
same_lists : (xs ys : List ℕ) → ¬ StandsBefore xs ys → ¬ StandsBefore ys xs → xs ≡ ys
same_lists [] [] h k = refl
same_lists [] (y ∷ ys) h k = absurd (h tt)
same_lists (x ∷ xs) [] h k = absurd (k tt)
same_lists (x ∷ xs) (y ∷ ys) h k =
    let above : ¬ (x < y) = λ lt. h (inl lt) in
    let below : ¬ (y < x) = λ lt. k (inl lt) in
    let first : x ≡ y = omega (arith, above, below) in
    let rest : xs ≡ ys = same_lists xs ys (λ before. h (inr (first, before))) (λ before. k (inr (sym first, before))) in
    rw (first, rest) refl

-- two demands that fail first stand at one place
pub one_place : (c : Case) (d e : Demand) → FailsFirst c d → FailsFirst c e → demand_order d ≡ demand_order e
one_place c d e h k = same_lists (demand_order d) (demand_order e)
    (λ before. k.first d before h.fails) (λ before. h.first e before k.fails)

module _ (c : Case) where
  initials : (n m : ℕ) → FailsFirst c (Covering (item.Initial n)) → FailsFirst c (Covering (item.Initial m)) → n ≡ m
  initials n m h k = ap (λ xs. slice_index xs 1) (one_place c _ _ h k)

  not_first : {A : Type 0} (d e : Demand) (i x y : ℕ) → slice_index (demand_order d) i ≡ x → slice_index (demand_order e) i ≡ y → x ≢ y
      → FailsFirst c d → FailsFirst c e → A
  not_first d e i x y p q differ h k =
      absurd (differ (sym p ∙ ap (λ xs. slice_index xs i) (one_place c d e h k) ∙ q))

  -- a report is rejected for one reason
  pub one_rejection : (r s : Rejection) → IsRejection c r → IsRejection c s → r ≡ s
  one_rejection (Initial n) (Initial m) h k = ap Initial (initials n m h k)
  one_rejection (Initial n) (Result edge structure result) h k =
      not_first (Covering (item.Initial n)) (Covering (item.Result edge structure result)) 0 0 1 refl refl (λ e. absurd cc) h k
  one_rejection (Initial n) (Message edge number) h k =
      not_first (Covering (item.Initial n)) (Saying edge k.0 number) 0 0 1 refl refl (λ e. absurd cc) h k.1
  one_rejection (Result edge structure result) (Initial n) h k =
      not_first (Covering (item.Result edge structure result)) (Covering (item.Initial n)) 0 1 0 refl refl (λ e. absurd cc) h k
  one_rejection (Result a b d) (Result e f g) h k =
      let same = one_place c (Covering (item.Result a b d)) (Covering (item.Result e f g)) h k in
      let edges : a ≡ e = ap (λ xs. slice_index xs 1) same in
      let structures : b ≡ f = ap (λ xs. slice_index xs 2) same in
      let results : d ≡ g = ap (λ xs. slice_index xs 4) same in
      rw (edges, structures, results) refl
  one_rejection (Result a b d) (Message edge number) h k =
      not_first (Covering (item.Result a b d)) (Saying edge k.0 number) 3 1 2 refl refl (λ e. absurd cc) h k.1
  one_rejection (Message edge number) (Initial n) h k =
      not_first (Saying edge h.0 number) (Covering (item.Initial n)) 0 1 0 refl refl (λ e. absurd cc) h.1 k
  one_rejection (Message edge number) (Result a b d) h k =
      not_first (Saying edge h.0 number) (Covering (item.Result a b d)) 3 2 1 refl refl (λ e. absurd cc) h.1 k
  one_rejection (Message a b) (Message d e) h k =
      let same = one_place c (Saying a h.0 b) (Saying d k.0 e) h.1 k.1 in
      let edges : a ≡ d = ap (λ xs. slice_index xs 1) same in
      let numbers : b ≡ e = ap (λ xs. slice_index xs 4) same in
      rw (edges, numbers) refl

  -- where a step meets a budget first, the report isn't rejected
  pub stops_unrejected : (edge structure : ℕ) (r : Rejection) → FailsFirst c (Stepping edge structure) → IsRejection c r → ⊥
  stops_unrejected edge structure (Initial n) h k =
      not_first (Stepping edge structure) (Covering (item.Initial n)) 0 1 0 refl refl (λ e. absurd cc) h k
  stops_unrejected edge structure (Result a b d) h k =
      not_first (Stepping edge structure) (Covering (item.Result a b d)) 3 0 1 refl refl (λ e. absurd cc) h k
  stops_unrejected edge structure (Message a b) h k =
      not_first (Stepping edge structure) (Saying a k.0 b) 3 0 2 refl refl (λ e. absurd cc) h k.1

  -- a closed report isn't rejected
  pub closed_unrejected : (r : Rejection) → IsClosedReport c → IsRejection c r → ⊥
  closed_unrejected (Initial n) closed h = h.fails.unmet (closed.items (item.Initial n) h.fails.s h.fails.targets h.fails.there)
  closed_unrejected (Result edge structure result) closed h =
      h.fails.unmet (closed.items (item.Result edge structure result) h.fails.s h.fails.targets h.fails.there)
  closed_unrejected (Message edge number) closed h =
      h.1.fails.1 (closed.messages edge h.0 number h.1.fails.0)
