-- Individuals that leave nothing to be asked for, as was narrowed.
use Rattle.std.proofs.Common.{ℕ, ◌≡◌, ◌≢◌, ◌<◌, ◌≤◌, ◌+◌, ◌-◌, ◌*◌, ◌⊎◌, inl, inr, ⊎_elim, Bool, true, false}
use Rattle.std.proofs.Common.{List}
use Rattle.std.proofs.Common.{[], ◌∷◌, ◌++◌, length, get_or, Option, Some, slice_get, refl, sym, ap}
use Rattle.std.proofs.Common.{subst, ◌∙◌, arith}
use Rattle.std.proofs.lemmas.Option.{same_Some}
use Rattle.tv_kleene.specs.declared.K3.{K3}
use Rattle.tv_kleene.specs.declared.K3.TheVariants.{No, Half, Yes}
use Rattle.tv_model.specs.Form.{IsFree}
use Rattle.tv_model.specs.Truth.{Assignment, put}
use Rattle.tv_model.proofs.Lists.{Contains-cases, pushed-cases}
use Rattle.tv_row.specs.Bits.{greatest_in}
use Rattle.tv_coerce_members.specs.Members.{MemberForm}
use Rattle.tv_eval.specs.AssignmentForm.{assignment_of}
use Rattle.tv_structure_form.specs.StructureForm.{StructureForm, structure_of}
use Rattle.tv_structure_form.proofs.Library.{below-range}
use Rattle.tv_coerce.specs.Counting.{AreLeft, AreOf, IsAt, IsCounted, IsFrom, IsIdle, IsWalkStart, Lacks}
use Rattle.tv_coerce.specs.Counting.{counted}
use Rattle.tv_coerce.specs.Counting.{IsLater, IsSome, Tells, members_in}
use Rattle.tv_coerce.specs.Counting.{variables_in}
use Rattle.tv_coerce.specs.Opened.{IsGoingOn, IsLaterShut}
use Rattle.tv_coerce.specs.Trying.{GoesOn, IsTrial, rule_at}
use Rattle.tv_stable_laws.specs.Stable.{IsHeadMet}
use Rattle.tv_coerce.specs.Walks.{AreTriedFor, GoesOnIn, IsBetween}
use Rattle.tv_coerce.specs.declared.trial.Trial.{Trial}
use Rattle.tv_coerce.proofs.Counts.{counted-half, counted-no}
use Rattle.tv_coerce.proofs.Narrowing.{idle-counted, not-yes, variable-left}
use Rattle.tv_coerce.proofs.Placing.{idle-agreed, idle-met, idle-weaker, kin-free, kin-variable, lacks-agreed}
use Rattle.tv_coerce.proofs.Placing.{lacks-weaker}
use Rattle.tv_coerce.proofs.Placing.{last-free, left-free, left-on, left-out, member-free}
use Rattle.tv_coerce.proofs.Placing.{own-kin, own-out}
use Rattle.tv_coerce.proofs.Walking.{IsAll, half-of, no-or-not, none-some, own-half, own-passed, put-from}

module _ (trial : Trial) (is : IsTrial trial) (v : ℕ) (rest : List ℕ) (places : List (Option ℕ)) (tail : List K3)
    (start : IsWalkStart trial (v ∷ rest) places tail) where
  abbrev s : StructureForm
  s = trial.structure.now

  abbrev ms : List MemberForm
  ms = members_in trial

  abbrev on : AreLeft trial rest
  on = left-on trial v rest start.left

  -- one individual is shut out
  module _ (u : ℕ) (k : K3) (some : k ≢ No)
      (own : k ≡ Half → Lacks (IsAt (length rest) false) s (put (assignment_of places) v u) ms)
      (b : Assignment)
      (goes : GoesOn (variables_in trial) (v ∷ rest ++ trial.last.0 ∷ []) (assignment_of places) b)
      (here : b v ≡ u) (j : ℕ) (low : j < 64) (last : 64 * trial.chunk + j ≡ b trial.last.0)
      (inside : 64 * trial.chunk + j < s.size) where
    abbrev before : Assignment
    before = put (assignment_of places) trial.last.0 (64 * trial.chunk + j)

    before-same : (n : ℕ) (o : MemberForm) → slice_get ms n ≡ Some o → length (v ∷ rest) ≤ o.left → (x : ℕ) → IsFree x o.form
        → before x ≡ b x
    before-same n o there enough x free =
        put-from (assignment_of places) b trial.last.0 (64 * trial.chunk + j) x last
        (λ ne. goes x (kin-variable trial is trial.number (own-kin trial is) x (member-free trial is n o there x free))
        (λ has. ⊎_elim (λ behind. left-out trial is (v ∷ rest) start.left n o there enough x behind free) ne
        (pushed-cases (v ∷ rest) trial.last.0 x has)))

    own-same : (n : ℕ) (o : MemberForm) → slice_get ms n ≡ Some o → IsAt (length rest) false o → (x : ℕ) → IsFree x o.form
        → put (assignment_of places) v u x ≡ b x
    own-same n o there at x free =
        put-from (assignment_of places) b v u x (sym here)
        (λ ne. goes x (kin-variable trial is trial.number (own-kin trial is) x (member-free trial is n o there x free))
        (λ has. ⊎_elim (λ e. ne (sym e))
        (λ behind. own-out trial is rest on n o there at.1 (omega (arith, at.0)) x behind free)
        (Contains-cases v x (rest ++ trial.last.0 ∷ []) has)))

    lacks-before : get_or tail j No ≡ Half → Lacks (IsFrom (length (v ∷ rest))) s b ms
    lacks-before e = lacks-agreed s before b ms (IsFrom (length (v ∷ rest))) before-same (start.half j low inside e)

    lacks-own : k ≡ Half → Lacks (IsAt (length rest) false) s b ms
    lacks-own e = lacks-agreed s (put (assignment_of places) v u) b ms (IsAt (length rest) false) own-same (own e)

    from-before : (o : MemberForm) → IsFrom (length (v ∷ rest)) o → IsFrom (length rest) o
    from-before o enough = omega (arith, enough)

    from-own : (flag : Bool) (o : MemberForm) → IsAt (length rest) flag o → IsFrom (length rest) o
    from-own flag o at = omega (arith, at.0)

    apart-left : (one other : MemberForm) (x y : ℕ) → slice_get ms x ≡ Some one → slice_get ms y ≡ Some other
        → (Those : MemberForm → Type 0) → Those one → ¬ Those other → x ≢ y
    apart-left one other x y here' there Those is-one is-no same =
        is-no (subst Those (same_Some one other (sym here' ∙ ap (slice_get ms) same ∙ there)) is-one)

    two-before : (flag : Bool) → Lacks (IsFrom (length (v ∷ rest))) s b ms → Lacks (IsAt (length rest) flag) s b ms
        → IsIdle (IsFrom (length rest)) s b ms
    two-before flag one other = inr (record {
      one = lacks-weaker s b ms (IsFrom (length (v ∷ rest))) (IsFrom (length rest)) from-before one;
      other = lacks-weaker s b ms (IsAt (length rest) flag) (IsFrom (length rest)) (from-own flag) other;
      apart = apart-left one.member other.member one.number other.number one.there other.there (IsFrom (length (v ∷ rest))) one.those
          (λ enough. absurd (omega (arith, enough, other.those.0)));
    })

    -- by what was narrowed
    module _ (within : AreOf s.size (variables_in trial) b) (i : ℕ) (is-i : b v ≡ i)
        (shut : IsLaterShut trial.later.now (length rest) i tail k) where
      abbrev g : K3
      g = greatest_in tail

      later-told : Tells (IsLater (length rest)) s b ms (get_or shut.word i No)
      later-told =
          subst (λ x. Tells (IsLater (length rest)) s b ms (get_or shut.word x No))
          (ap b (variable-left trial v rest start.left) ∙ is-i)
          ((start.narrowed (length rest) shut.word shut.there).2 b within)

      later-some : (y : K3) → y ≢ Yes → Tells (IsLater (length rest)) s b ms y → Lacks (IsLater (length rest)) s b ms ⊎ IsIdle IsSome s b ms
      later-some No other told = inr (idle-weaker s b ms (IsLater (length rest)) IsSome (λ o some'. tt) told)
      later-some Half other told = inl told
      later-some Yes other told = absurd (other refl)

      later-none : (y : K3) → y ≡ No → Tells (IsLater (length rest)) s b ms y → IsIdle IsSome s b ms
      later-none No e told = idle-weaker s b ms (IsLater (length rest)) IsSome (λ o some'. tt) told
      later-none Half e told = absurd (cc e)
      later-none Yes e told = absurd (cc e)

      some-idle : IsIdle (IsFrom (length rest)) s b ms → IsIdle IsSome s b ms
      some-idle = idle-weaker s b ms (IsFrom (length rest)) IsSome (λ o some'. tt)

      tail-none : get_or tail j No ≡ No → IsIdle IsSome s b ms
      tail-none e = some-idle
          (idle-weaker s b ms (IsFrom (length (v ∷ rest))) (IsFrom (length rest)) from-before
          (idle-agreed s before b ms (IsFrom (length (v ∷ rest))) before-same (start.idle j low inside e)))

      -- what was counted by then, as far as it isn't Yes
      tail-some : g ≢ Yes → Lacks (IsFrom (length (v ∷ rest))) s b ms ⊎ IsIdle IsSome s b ms
      tail-some other = at (no-or-not (get_or tail j No))
        where
          at : (get_or tail j No ≡ No) ⊎ (get_or tail j No ≢ No) → Lacks (IsFrom (length (v ∷ rest))) s b ms ⊎ IsIdle IsSome s b ms
          at (inl e) = inr (tail-none e)
          at (inr ne) = inl (lacks-before (half-of (get_or tail j No) ne (not-yes tail j other)))

      two-later : (Those : MemberForm → Type 0) → ((o : MemberForm) → Those o → ¬ IsLater (length rest) o)
          → Lacks Those s b ms → Lacks (IsLater (length rest)) s b ms → IsIdle IsSome s b ms
      two-later Those apart one other =
          idle-counted s b ms Those (IsLater (length rest)) IsSome (λ o some'. tt) (λ o some'. tt) apart one other

      before-later : (o : MemberForm) → IsFrom (length (v ∷ rest)) o → ¬ IsLater (length rest) o
      before-later o enough (inl less) = absurd (omega (arith, enough, less))
      before-later o enough (inr at) = absurd (omega (arith, enough, at.0))

      own-later : (o : MemberForm) → IsAt (length rest) false o → ¬ IsLater (length rest) o
      own-later o at (inl less) = absurd (omega (arith, at.0, less))
      own-later o at (inr two) = let clash : true ≡ false = sym two.1 ∙ at.1 in absurd (cc)

      pub later-idle : IsIdle IsSome s b ms
      later-idle = at (no-or-not (counted k g))
        where
          from-tail : Lacks (IsFrom (length (v ∷ rest))) s b ms ⊎ IsIdle IsSome s b ms → k ≡ Half → IsIdle IsSome s b ms
          from-tail (inl one) e = some-idle (two-before false one (lacks-own e))
          from-tail (inr idle) e = idle

          first : (g ≡ No) ⊎ ((k ≡ Half) × (g ≢ Yes)) → IsIdle IsSome s b ms
          first (inl e) = tail-none (none-some tail e j)
          first (inr two) = from-tail (tail-some two.1) two.0

          both : Lacks (IsFrom (length (v ∷ rest))) s b ms ⊎ IsIdle IsSome s b ms → Lacks (IsLater (length rest)) s b ms
              → IsIdle IsSome s b ms
          both (inl one) other = two-later (IsFrom (length (v ∷ rest))) before-later one other
          both (inr idle) other = idle

          by-half : (k ≡ Half) ⊎ (g ≡ Half) → Lacks (IsLater (length rest)) s b ms → IsIdle IsSome s b ms
          by-half (inl e) other = two-later (IsAt (length rest) false) own-later (lacks-own e) other
          by-half (inr e) other = both (tail-some (λ yes. let clash : Half ≡ Yes = sym e ∙ yes in absurd (cc))) other

          second : (get_or shut.word i No ≡ No) ⊎ ((counted k g ≡ Half) × (get_or shut.word i No ≢ Yes)) → IsIdle IsSome s b ms
          second (inl e) = later-none (get_or shut.word i No) e later-told
          second (inr two) =
              ⊎_elim (by-half (counted-half k g two.0)) (λ idle. idle) (later-some (get_or shut.word i No) two.1 later-told)

          at : (counted k g ≡ No) ⊎ (counted k g ≢ No) → IsIdle IsSome s b ms
          at (inl e) = first (counted-no k g some e)
          at (inr ne) = second (counted-no (counted k g) (get_or shut.word i No) ne shut.none)

  -- individuals that aren't left
  pub open-passed : (chunk : ℕ) (all own alive : List K3) → IsAll s.size chunk Yes all
      → IsCounted s.size (assignment_of places) v chunk (λ b. Lacks (IsAt (length rest) false) s b ms)
      (λ b. IsIdle (IsAt (length rest) false) s b ms) all own
      → IsGoingOn trial.later.now (length rest) tail own alive
      → 64 * chunk < s.size
      → (from end : ℕ) → end ≤ 64 → ((i : ℕ) → from ≤ i → i < end → get_or alive i No ≡ No)
      → AreTriedFor trial
      (λ b. GoesOnIn trial (v ∷ rest ++ trial.last.0 ∷ []) (assignment_of places) b
      × IsBetween v (64 * chunk + from) (64 * chunk + end) b)
  open-passed chunk all own alive whole so_far going nonempty from end few ruled n kin b (goes, between) individuals body =
      let i : ℕ = b v - 64 * chunk
      in let is-i : 64 * chunk + i ≡ b v = omega (arith, between.0)
      in let low : i < 64 = omega (arith, is-i, between.1, few)
      in at i is-i low (ruled i (omega (arith, is-i, between.0)) (omega (arith, is-i, between.1))) (no-or-not (get_or own i No))
    where
      within-v : b v < s.size
      within-v = below-range s.size (b v)
          (individuals v (kin-free trial is n kin v (left-free trial is (v ∷ rest) start.left v (0, omega arith, refl))))

      within-last : b trial.last.0 < s.size
      within-last = below-range s.size (b trial.last.0)
          (individuals trial.last.0 (kin-free trial is n kin trial.last.0 (last-free trial is rest on)))

      within-all : AreOf s.size (variables_in trial) b
      within-all x has = below-range s.size (b x) (individuals x (((is.kin n kin).free x).0 has))

      half : (i : ℕ) → 64 * chunk + i ≡ b v → i < 64 → get_or own i No ≡ Half
          → Lacks (IsAt (length rest) false) s (put (assignment_of places) v (64 * chunk + i)) ms
      half i is-i low = own-half s places v chunk ms (length rest) all own whole so_far i low (omega (arith, is-i, within-v))

      by-later : (j : ℕ) → 64 * trial.chunk + j ≡ b trial.last.0 → (i : ℕ) → 64 * chunk + i ≡ b v → i < 64 → get_or own i No ≢ No → get_or alive i No ≡ No
          → IsHeadMet (structure_of s) b (rule_at trial.closed.now n).head
      by-later j is-j i is-i low some is-none =
          let shut : IsLaterShut trial.later.now (length rest) i tail (get_or own i No)
          = going.shut i low some is-none
          in let few-all : s.size ≤ 64 = (start.narrowed (length rest) shut.word shut.there).0
          in idle-met trial is n kin b body IsSome
          (later-idle (64 * chunk + i) (get_or own i No) some (half i is-i low) b goes.0 (sym is-i) j (omega (arith, is-j, goes.1.1)) is-j
          (omega (arith, is-j, within-last)) within-all i (omega (arith, is-i, nonempty, few-all)) shut)

      at : (i : ℕ) → 64 * chunk + i ≡ b v → i < 64 → get_or alive i No ≡ No → (get_or own i No ≡ No) ⊎ (get_or own i No ≢ No)
          → IsHeadMet (structure_of s) b (rule_at trial.closed.now n).head
      at i is-i low is-none (inl e) =
          own-passed trial is v chunk rest places all own start.left whole so_far i (i + 1) (omega (arith, low))
          (λ x after less. let same : x ≡ i = omega (arith, after, less) in subst (λ y. get_or own y No ≡ No) (sym same) e)
          n kin b (goes.0, (omega (arith, is-i), omega (arith, is-i))) individuals body
      at i is-i low is-none (inr some) =
          let j : ℕ = b trial.last.0 - 64 * trial.chunk
          in let is-j : 64 * trial.chunk + j ≡ b trial.last.0 = omega (arith, goes.1.0)
          in by-later j is-j i is-i low some is-none
