-- Sets of numbers of rules, as flags.
use Rattle.std.proofs.Common.{ℕ, zero, suc, ◌≡◌, ◌≢◌, ◌<◌, ◌≤◌, ◌+◌, ◌⊎◌, ◌∙◌, Bool, true, false, List, []}
use Rattle.std.proofs.Common.{◌∷◌, length, slice_get, Some, Contains, All}
use Rattle.std.proofs.Common.{⊎_elim, inl, inr, subst, sym, refl, arith, get_or, take, slice_set}
use Rattle.std.specs.Prelude.{slice_index_or}
use Rattle.std.proofs.lemmas.Bool.{cases_eq}
use Rattle.std.proofs.lemmas.List.Sums.{sum_by-set}
use Rattle.std.proofs.lemmas.List.{get_or-set_other, length-set, take_all, take_more}
use Rattle.tv_model.proofs.Lists.{Contains-here, Contains-there, Contains-none, Contains-cases}
use Rattle.tv_model.proofs.Lists.{All-from_contains, pushed-last, pushed-old, slice_get-below}
use Rattle.tv_model.specs.Program.{RuleForm}
use Rattle.tv_rules.specs.Standing.{AreNumbersOf}
use Rattle.tv_coerce.specs.RuleSets.{HasFewer, HasMore, IsIn, IsRuleThat, flag_count, member_count}

-- nothing is put in
pub more_none : (old new : List Bool) → new ≡ old → HasMore (Contains []) old new
more_none old new e = rw e (record {
  exact = λ n. (λ at. inl at, ⊎_elim (λ at. at) (λ at. absurd (Contains-none n at)));
  count = refl;
})

-- a number is put in, and then the others
pub more_next : (n : ℕ) (rest : List ℕ) (old mid new : List Bool) → HasMore (λ m. m ≡ n) old mid
    → HasMore (Contains rest) mid new → HasMore (Contains (n ∷ rest)) old new
more_next n rest old mid new first others = record {
  exact = λ m. (
    λ at. ⊎_elim
        (λ was. ⊎_elim (λ l. inl l) (λ e. inr (subst (Contains (n ∷ rest)) (sym e) (Contains-here n rest))) ((first.exact m).0 was))
        (λ k. inr (Contains-there n m rest k)) ((others.exact m).0 at),
    λ at. (others.exact m).1 (⊎_elim
        (λ was. inl ((first.exact m).1 (inl was)))
        (λ k. ⊎_elim (λ e. inl ((first.exact m).1 (inr (sym e)))) (λ r. inr r) (Contains-cases n m rest k)) at),
  );
  count = others.count ∙ first.count;
}

-- the numbers of rules are within a set for the rules
pub numbers_within : (IsSo : RuleForm → Type 0) (rules : List RuleForm) (numbers : List ℕ) (set : List Bool)
    → AreNumbersOf IsSo rules numbers → length set ≡ length rules → All (λ n. n < length set) numbers
numbers_within IsSo rules numbers set of same =
    All-from_contains (λ n. n < length set) numbers
    (λ n at.
    let found : (rule : RuleForm) × (slice_get rules n ≡ Some rule) × IsSo rule = (of.exact n).0 at
    in let below : n < length rules = slice_get-below rules n found.0 found.1
    in omega (arith, below, same))

-- putting in the numbers of the rules that are so
pub more_rules : (IsSo : RuleForm → Type 0) (rules : List RuleForm) (numbers : List ℕ) (old new : List Bool)
    → AreNumbersOf IsSo rules numbers → HasMore (Contains numbers) old new → HasMore (IsRuleThat IsSo rules) old new
more_rules IsSo rules numbers old new of more = record {
  exact = λ n. (
    λ at. ⊎_elim (λ l. inl l) (λ k. inr ((of.exact n).0 k)) ((more.exact n).0 at),
    λ at. (more.exact n).1 (⊎_elim (λ l. inl l) (λ k. inr ((of.exact n).1 k)) at),
  );
  count = more.count;
}

-- ---- numbers are taken out

flag-fewer : (set : List Bool) (n : ℕ) → n < length set → member_count (slice_set set n false) ≤ member_count set
flag-fewer set n below = omega (arith, sum_by-set flag_count set n false false below)

pub one_gone : (n : ℕ) (old new : List Bool) → n < length old → new ≡ slice_set old n false → HasFewer (λ m. m ≡ n) old new
one_gone n old new below e = rw e (record {
  kept = λ m at. ⊎_elim (λ here. absurd (gone m here at)) (λ ne. subst (λ b. b ≡ true) (other m ne) at) (cases_eq m n);
  lost = λ m was out. ⊎_elim (λ here. here) (λ ne. absurd (out (subst (λ b. b ≡ true) (sym (other m ne)) was))) (cases_eq m n);
  count = length-set old n false;
  fewer = flag-fewer old n below;
})
  where
    other : (m : ℕ) → m ≢ n → slice_index_or (slice_set old n false) m false ≡ slice_index_or old m false
    other m ne = get_or-set_other old n m false false ne

    gone : (m : ℕ) → m ≡ n → IsIn (slice_set old n false) m → ⊥
    gone m here at = never old n (subst (λ k. IsIn (slice_set old n false) k) here at)
      where
        never : (set : List Bool) (k : ℕ) → IsIn (slice_set set k false) k → ⊥
        never [] k at' = absurd (cc at')
        never (b ∷ set) zero at' = absurd (cc at')
        never (b ∷ set) (suc k) at' = never set k at'

pub none_gone : (numbers : List ℕ) (set : List Bool) → HasFewer (Contains (take 0 numbers)) set set
none_gone numbers set = record {
  kept = λ m at. at;
  lost = λ m was out. absurd (out was);
  count = refl;
  fewer = omega arith;
}

pub more_gone : (numbers : List ℕ) (k d : ℕ) (old mid new : List Bool) → k < length numbers
    → HasFewer (Contains (take k numbers)) old mid → HasFewer (λ m. m ≡ get_or numbers k d) mid new
    → HasFewer (Contains (take (k + 1) numbers)) old new
more_gone numbers k d old mid new below first next = record {
  kept = λ m at. first.kept m (next.kept m at);
  lost = λ m was out. ⊎_elim (λ there. has m (inr (next.lost m there out))) (λ gone. has m (inl (first.lost m was gone))) (flag m);
  count = next.count ∙ first.count;
  fewer = omega (arith, first.fewer, next.fewer);
}
  where
    has : (m : ℕ) → Contains (take k numbers) m ⊎ (m ≡ get_or numbers k d) → Contains (take (k + 1) numbers) m
    has m at =
        subst (λ ns. Contains ns m) (sym (take_more numbers k d below))
        (⊎_elim (pushed-old (take k numbers) (get_or numbers k d) m) (λ e. pushed-last (take k numbers) (get_or numbers k d) m e) at)

    flag : (m : ℕ) → IsIn mid m ⊎ ¬ IsIn mid m
    flag m = at (get_or mid m false)
      where
        at : (b : Bool) → (b ≡ true) ⊎ (b ≢ true)
        at true = inl refl
        at false = inr (λ e. absurd (cc e))

pub all_gone : (numbers : List ℕ) (k : ℕ) (old new : List Bool) → length numbers ≤ k → HasFewer (Contains (take k numbers)) old new
    → HasFewer (Contains numbers) old new
all_gone numbers k old new whole fewer =
    subst (λ ns. HasFewer (Contains ns) old new) (take_all k numbers whole) fewer
