-- The rules that see a change are put into a set.
use Rattle.std.proofs.Common.{ℕ, ◌≡◌, ◌<◌, ◌≤◌, ◌+◌, ◌∙◌, inl, inr, ⊎_elim, Bool, List, Some, slice_get}
use Rattle.std.proofs.Common.{Contains, get_or, length, take, Option, None}
use Rattle.std.proofs.Common.{refl, subst, sym}
use Rattle.std.proofs.lemmas.List.{take_all, take_more}
use Rattle.std.proofs.lemmas.Option.{same_Some}
use Rattle.tv_model.proofs.Lists.{Contains-none, pushed-cases}
use Rattle.tv_model.specs.Program.{HeadForm, RuleForm}
use Rattle.tv_coerce.specs.declared.noted.Ask.{Ask}
use Rattle.tv_rules.specs.Seen.{Sees}
use Rattle.tv_coerce_moves.specs.declared.list.Occurrence.{Occurrence}
use Rattle.tv_rules.specs.Moved.{IsMovedOf}
use Rattle.tv_coerce.specs.RuleSets.{AreOf, HasAtLeast, HasMore, IsRuleThat, IsSeenTo, SeesRule, SeesSome}

pub least-fewer : (A B : ℕ → Type 0) (old new : List Bool) → ((n : ℕ) → B n → A n) → HasAtLeast A old new → HasAtLeast B old new
least-fewer A B old new fewer least = record {
  kept = least.kept;
  those = λ n at. least.those n (fewer n at);
  count = least.count;
}

module _ (IsSo : ℕ → Type 0) where
  pub one_in : (n : ℕ) (old new : List Bool) → HasMore (λ m. m ≡ n) old new → HasAtLeast (AreOf (λ m. m ≡ n) IsSo) old new
  one_in n old new more = record {
    kept = λ m was. (more.exact m).1 (inl was);
    those = λ m at. (more.exact m).1 (inr at.0);
    count = more.count;
  }

  pub one_out : (n : ℕ) (old new : List Bool) → new ≡ old → ¬ IsSo n → HasAtLeast (AreOf (λ m. m ≡ n) IsSo) old new
  one_out n old new e not_so = rw e (record {
    kept = λ m was. was;
    those = λ m at. absurd (not_so (subst IsSo at.0 at.1));
    count = refl;
  })

  pub least-next : (numbers : List ℕ) (i d : ℕ) (old mid new : List Bool) → i < length numbers
      → HasAtLeast (AreOf (Contains (take i numbers)) IsSo) old mid
      → HasAtLeast (AreOf (λ m. m ≡ get_or numbers i d) IsSo) mid new
      → HasAtLeast (AreOf (Contains (take (i + 1) numbers)) IsSo) old new
  least-next numbers i d old mid new below before here = record {
    kept = λ m was. here.kept m (before.kept m was);
    those = λ m at. ⊎_elim (λ o. here.kept m (before.those m (o, at.1))) (λ e. here.those m (e, at.1))
        (pushed-cases (take i numbers) (get_or numbers i d) m (subst (λ ns. Contains ns m) (take_more numbers i d below) at.0));
    count = here.count ∙ before.count;
  }

  pub least-whole : (numbers : List ℕ) (i : ℕ) (old new : List Bool) → length numbers ≤ i
      → HasAtLeast (AreOf (Contains (take i numbers)) IsSo) old new → HasAtLeast (AreOf (Contains numbers) IsSo) old new
  least-whole numbers i old new all least =
      subst (λ ns. HasAtLeast (AreOf (Contains ns) IsSo) old new) (take_all i numbers all) least

-- ---- occurrences, one after the other

-- one of the first occurrences moves the rule, of so many of them
abbrev pub IsMovedByFirst : ℕ → List RuleForm → List Occurrence → ℕ → Type 0
IsMovedByFirst count bases occurrences n =
    (k : ℕ) × (occurrence : Occurrence) × (k < count) × (slice_get occurrences k ≡ Some occurrence) × IsMovedOf bases occurrence n

-- ---- rules that ask, one after the other

-- the rules that see what the first of those may change are in the set, and those that see what one of these
-- two may change
pub record IsWokenUpTo (rules : List RuleForm) (asks : List Ask) (i : ℕ) (last other : Option ℕ) (old new : List Bool) : Type 0 where
  pub least : HasAtLeast (IsRuleThat (SeesSome rules (take i asks)) rules) old new
  pub at_last : IsSeenTo rules last new
  pub at_other : IsSeenTo rules other new

pub woken-none : (rules : List RuleForm) (asks : List Ask) (set : List Bool) → IsWokenUpTo rules asks 0 None None set set
woken-none rules asks set = record {
  least = record {
    kept = λ m was. was;
    those = λ m at. absurd (Contains-none at.2.0 at.2.1);
    count = refl;
  };
  at_last = λ n m e at. absurd (cc e);
  at_other = λ n m e at. absurd (cc e);
}

module _ (rules : List RuleForm) (asks : List Ask) (i : ℕ) (d : Ask) (last other : Option ℕ) (old mid new : List Bool)
    (below : i < length asks) (before : IsWokenUpTo rules asks i last other old mid)
    (here : HasAtLeast (IsRuleThat (SeesRule rules (get_or asks i d).number) rules) mid new) where
  still-seen-to : (one : Option ℕ) → IsSeenTo rules one mid → IsSeenTo rules one new
  still-seen-to one seen n m e at = here.kept m (seen n m e at)

  least-of-more : HasAtLeast (IsRuleThat (SeesSome rules (take (i + 1) asks)) rules) old new
  least-of-more = record {
    kept = λ m was. here.kept m (before.least.kept m was);
    those = λ m at. ⊎_elim
        (λ o. here.kept m (before.least.those m (at.0, at.1, (at.2.0, o, at.2.2))))
        (λ e. here.those m (at.0, at.1, subst (λ ask. SeesRule rules ask.number at.0) e at.2.2))
        (pushed-cases (take i asks) (get_or asks i d) at.2.0 (subst (λ xs. Contains xs at.2.0) (take_more asks i d below) at.2.1));
    count = here.count ∙ before.least.count;
  }

  -- the same rule asked before
  pub woken-again : IsWokenUpTo rules asks (i + 1) last other old new
  woken-again = record {
    least = least-of-more;
    at_last = still-seen-to last before.at_last;
    at_other = still-seen-to other before.at_other;
  }

  -- another one did
  pub woken-next : IsWokenUpTo rules asks (i + 1) (Some (get_or asks i d).number) last old new
  woken-next = record {
    least = least-of-more;
    at_last = λ n m e at. here.those m (subst (λ k. IsRuleThat (SeesRule rules k) rules m) (sym (same_Some (get_or asks i d).number n e)) at);
    at_other = still-seen-to last before.at_last;
  }

pub woken-whole : (rules : List RuleForm) (asks : List Ask) (i : ℕ) (last other : Option ℕ) (old new : List Bool) → length asks ≤ i
    → IsWokenUpTo rules asks i last other old new → HasAtLeast (IsRuleThat (SeesSome rules asks) rules) old new
woken-whole rules asks i last other old new all woken =
    subst (λ xs. HasAtLeast (IsRuleThat (SeesSome rules xs) rules) old new) (take_all i asks all) woken.least

-- those that see what a rule of that head may change see what the rule may
pub seeing-rule : (rules : List RuleForm) (n : ℕ) (head : HeadForm) (old new : List Bool)
    → ((rule : RuleForm) → slice_get rules n ≡ Some rule → head ≡ rule.head)
    → HasAtLeast (IsRuleThat (Sees head) rules) old new → HasAtLeast (IsRuleThat (SeesRule rules n) rules) old new
seeing-rule rules n head old new heads least = record {
  kept = least.kept;
  those = λ m at. least.those m (at.0, at.1, subst (λ h. Sees h at.0) (sym (heads at.2.0 at.2.1)) at.2.2);
  count = least.count;
}
