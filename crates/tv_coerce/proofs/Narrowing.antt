-- What is narrowed of the variables before a walk.
use Rattle.std.proofs.Common.{ℕ, ◌≡◌, ◌≢◌, ◌<◌, ◌≤◌, ◌+◌, ◌-◌, ◌*◌, ◌⊎◌, inl, inr, zero, suc, Bool}
use Rattle.std.proofs.Common.{true, false}
use Rattle.std.proofs.Common.{List, [], ◌∷◌, ◌++◌, length, get_or, Some, slice_get, refl, sym, ap}
use Rattle.std.proofs.Common.{subst}
use Rattle.std.proofs.Common.{◌∙◌, arith}
use Rattle.std.specs.Prelude.{All, Contains, slice_set}
use Rattle.std.proofs.Common.{ltb, replicate}
use Rattle.std.proofs.lemmas.Bool.{cases_eq, cond-true, lt-ltb}
use Rattle.std.proofs.lemmas.List.{append_assoc, get_or-map, get_or-set_other, get_or-set_same}
use Rattle.std.proofs.lemmas.List.{get_or_default, length-append}
use Rattle.std.proofs.lemmas.List.{get_or-replicate, length-map, length-replicate, length-set}
use Rattle.std.proofs.lemmas.List.Elements.{Contains-append_right}
use Rattle.std.proofs.lemmas.Option.{get_or_from_slice_get, same_Some, slice_get-get_or, slice_get_within}
use Rattle.tv_kleene.specs.declared.K3.{K3}
use Rattle.tv_kleene.specs.declared.K3.TheVariants.{No, Half, Yes}
use Rattle.tv_kleene.specs.Kleene.{IsAtMost, larger_of, smaller_of}
use Rattle.tv_row.specs.Bits.{greatest_in, padded, paired}
use Rattle.tv_row.proofs.WordOps.{get_or-padded, get_or-paired, length-padded, length-paired}
use Rattle.tv_model.specs.Form.{Form, FAtom, FSame}
use Rattle.tv_model.specs.Truth.{Assignment, put}
use Rattle.tv_model.specs.Valid.{IsFormulaOver}
use Rattle.tv_model.specs.declared.formula.Var.{Var}
use Rattle.tv_coerce_members.specs.Members.{AreSteps, IsReadAs, IsSteppedBy, MemberForm, is_literal}
use Rattle.tv_coerce_members.specs.Members.{numbers_of, signed}
use Rattle.tv_coerce_members.specs.declared.levels.Level.{Level}
use Rattle.tv_coerce_members.specs.declared.levels.Step.{Step}
use Rattle.tv_eval_laws.specs.Value.{value}
use Rattle.tv_eval_laws.proofs.Agreed.{only_free_variables_matter}
use Rattle.tv_eval.specs.Along.{IsWordAlong}
use Rattle.tv_structure_form.specs.StructureForm.{StructureForm, arities_of, structure_of}
use Rattle.tv_coerce.specs.Counting.{AreLeft, AreOf, CountTells, IsAt, IsBarring, IsBest, IsIdle}
use Rattle.tv_coerce.specs.Counting.{IsLater, IsNarrowed, IsSeen}
use Rattle.tv_coerce.specs.Counting.{Lacks, Tells, counted, members_in, variable_at, variables_in}
use Rattle.tv_coerce.specs.Opened.{IsGoingOn}
use Rattle.tv_coerce.specs.Trying.{IsTrial}
use Rattle.tv_coerce.specs.declared.trial.Trial.{Trial}
use Rattle.tv_coerce.proofs.Counts.{count-tells}
use Rattle.tv_coerce.proofs.Placing.{idle-weaker, lacks-weaker, left-on, left-placed, left-waits, level-last}
use Rattle.tv_coerce.proofs.Placing.{level-own}
use Rattle.tv_coerce.proofs.Placing.{level-there, some-and}
use Rattle.tv_coerce.proofs.Walking.{put-from}

-- ---- values

larger-yes : (k : K3) → larger_of k Yes ≡ Yes
larger-yes No = refl
larger-yes Half = refl
larger-yes Yes = refl

-- where the greatest value isn't Yes none is
pub not-yes : (word : List K3) (i : ℕ) → greatest_in word ≢ Yes → get_or word i No ≢ Yes
not-yes [] i other = λ e. absurd (cc e)
not-yes (k ∷ word) zero other = λ e. other (ap (λ x. larger_of x (greatest_in word)) e)
not-yes (k ∷ word) (suc i) other = not-yes word i (λ e. other (ap (larger_of k) e ∙ larger-yes k))

under-larger : (k g : K3) → IsAtMost k (larger_of k g)
under-larger No g = refl
under-larger Half No = refl
under-larger Half Half = refl
under-larger Half Yes = refl
under-larger Yes g = refl

under-more : (x k g : K3) → IsAtMost x g → IsAtMost x (larger_of k g)
under-more No k g at = refl
under-more Half No g at = at
under-more Half Half No at = refl
under-more Half Half Half at = refl
under-more Half Half Yes at = refl
under-more Half Yes g at = refl
under-more Yes No g at = at
under-more Yes Half No at = absurd (cc at)
under-more Yes Half Half at = absurd (cc at)
under-more Yes Half Yes at = refl
under-more Yes Yes g at = refl

pub at-most-greatest : (word : List K3) (i : ℕ) → IsAtMost (get_or word i No) (greatest_in word)
at-most-greatest [] i = refl
at-most-greatest (k ∷ word) zero = under-larger k (greatest_in word)
at-most-greatest (k ∷ word) (suc i) = under-more (get_or word i No) k (greatest_in word) (at-most-greatest word i)

-- ---- what values tell

barring-lacks : (s : StructureForm) (b : Assignment) (m : MemberForm) → IsBarring s b m → value (structure_of s) b m.form ≢ Yes
barring-lacks s b m (inl none) = λ yes. let clash : No ≡ Yes = sym none ∙ yes in absurd (cc)
barring-lacks s b m (inr other) = other.1

module _ (s : StructureForm) (b : Assignment) (ms : List MemberForm) where
  -- where no rule asks for anything, a member isn't Yes
  idle-lacks : (Those : MemberForm → Type 0) → IsIdle Those s b ms → Lacks Those s b ms
  idle-lacks Those (inl one) = record {
    number = one.number;
    member = one.member;
    there = one.there;
    those = one.those;
    lacks = barring-lacks s b one.member one.bars;
  }
  idle-lacks Those (inr two) = two.one

  -- a greater value tells no more
  pub tells-less : (Those : MemberForm → Type 0) (x y : K3) → IsAtMost x y → Tells Those s b ms x → Tells Those s b ms y
  tells-less Those No No at told = told
  tells-less Those No Half at told = idle-lacks Those told
  tells-less Those No Yes at told = tt
  tells-less Those Half No at told = absurd (cc at)
  tells-less Those Half Half at told = told
  tells-less Those Half Yes at told = tt
  tells-less Those Yes No at told = absurd (cc at)
  tells-less Those Yes Half at told = absurd (cc at)
  tells-less Those Yes Yes at told = tt

  -- it tells of more members too
  pub tells-weaker : (Those Others : MemberForm → Type 0) → ((m : MemberForm) → Those m → Others m) → (k : K3)
      → Tells Those s b ms k → Tells Others s b ms k
  tells-weaker Those Others weaker No idle = idle-weaker s b ms Those Others weaker idle
  tells-weaker Those Others weaker Half one = lacks-weaker s b ms Those Others weaker one
  tells-weaker Those Others weaker Yes none = tt

  -- the smaller of two values tells what both do
  pub tells-both : (Those : MemberForm → Type 0) (x y : K3) → Tells Those s b ms x → Tells Those s b ms y
      → Tells Those s b ms (smaller_of x y)
  tells-both Those No y one other = one
  tells-both Those Half No one other = other
  tells-both Those Half Half one other = one
  tells-both Those Half Yes one other = one
  tells-both Those Yes y one other = other

  -- two of which each is one of other members
  module _ (P Q R : MemberForm → Type 0) (first : (m : MemberForm) → P m → R m) (second : (m : MemberForm) → Q m → R m)
      (apart : (m : MemberForm) → P m → ¬ Q m) where
    pub idle-counted : Lacks P s b ms → Lacks Q s b ms → IsIdle R s b ms
    idle-counted one other = inr (record {
      one = lacks-weaker s b ms P R first one;
      other = lacks-weaker s b ms Q R second other;
      apart = λ same. apart other.member
          (subst P (same_Some one.member other.member (sym one.there ∙ ap (slice_get ms) same ∙ other.there)) one.those) other.those;
    })

    -- counted together they tell what both do
    pub tells-counted : (x y : K3) → Tells P s b ms x → Tells Q s b ms y → Tells R s b ms (counted x y)
    tells-counted No y one other = idle-weaker s b ms P R first one
    tells-counted Half No one other = idle-weaker s b ms Q R second other
    tells-counted Half Half one other = idle-counted one other
    tells-counted Half Yes one other = lacks-weaker s b ms P R first one
    tells-counted Yes No one other = idle-weaker s b ms Q R second other
    tells-counted Yes Half one other = lacks-weaker s b ms Q R second other
    tells-counted Yes Yes one other = tt

-- ---- what is seen of a member

signed-literal : (flag : Bool) (f g : Form) → f ≡ signed flag g → is_literal (signed flag g) ≡ true → is_literal f ≡ true
signed-literal flag f g is literal = ap is_literal is ∙ literal

atom-literal : (flag : Bool) (p : ℕ) (vars : List ℕ) → is_literal (signed flag (FAtom p vars)) ≡ true
atom-literal true p vars = refl
atom-literal false p vars = refl

same-literal : (flag : Bool) (x y : ℕ) → is_literal (signed flag (FSame x y)) ≡ true
same-literal true x y = refl
same-literal false x y = refl

pub atom-read : (flag : Bool) (f : Form) (p : ℕ) (vars : List ℕ) → f ≡ signed flag (FAtom p vars) → is_literal f ≡ true
atom-read flag f p vars is = ap is_literal is ∙ atom-literal flag p vars

pub same-read : (flag : Bool) (f : Form) (x y : ℕ) → (f ≡ signed flag (FSame x y)) ⊎ (f ≡ signed flag (FSame y x)) → is_literal f ≡ true
same-read flag f x y (inl is) = ap is_literal is ∙ same-literal flag x y
same-read flag f x y (inr is) = ap is_literal is ∙ same-literal flag y x

-- a literal's values along w tell how it counts under the assignment
pub along-tells : (s : StructureForm) (b : Assignment) (w : ℕ) (m : MemberForm) (word : List K3) → is_literal m.form ≡ true
    → IsWordAlong s b w 0 m.form word → b w < s.size → s.size ≤ 64
    → CountTells (value (structure_of s) b m.form ≢ Yes) (IsBarring s b m) (get_or word (b w) No)
along-tells s b w m word literal along within few =
    count-tells s b m true (get_or word (b w) No) literal
    (only_free_variables_matter (structure_of s) m.form b (put b w (64 * 0 + b w))
    (λ x free. sym (put-from b b w (64 * 0 + b w) x (omega arith) (λ ne. refl)))
    ∙ sym (along.each (b w) (omega (arith, within, few)) (omega (arith, within))))

-- ---- the variables before the last

at-place : (done rest : List ℕ) (v : ℕ) → get_or (done ++ v ∷ rest) (length done) 0 ≡ v
at-place [] rest v = refl
at-place (x ∷ done) rest v = at-place done rest v

pub variable-left : (trial : Trial) (v : ℕ) (rest : List ℕ) → AreLeft trial (v ∷ rest) → variable_at (variables_in trial) (length rest) ≡ v
variable-left trial v rest left =
    ap (λ n. get_or (variables_in trial) n 0) same
    ∙ ap (λ xs. get_or xs (length left.0) 0) left.1
    ∙ at-place left.0 (rest ++ trial.last.0 ∷ []) v
  where
    same : length (variables_in trial) - (length rest + 2) ≡ length left.0
    same = omega (
      arith,
      ap length left.1,
      length-append left.0 (v ∷ rest ++ trial.last.0 ∷ []),
      length-append rest (trial.last.0 ∷ []),
    )

-- the variable of a list behind which so many stand
pub record IsSplit (xs : List ℕ) (left : ℕ) : Type 0 where
  pub done : List ℕ
  pub here : ℕ
  pub rest : List ℕ
  pub all : xs ≡ done ++ (here ∷ rest)
  pub long : length rest ≡ left

split-at : (xs : List ℕ) (left : ℕ) → left < length xs → IsSplit xs left
split-at [] left less = absurd (omega (arith, less))
split-at (x ∷ xs) left less = at (cases_eq left (length xs)) (λ ne. split-at xs left (omega (arith, less, ne)))
  where
    more : IsSplit xs left → IsSplit (x ∷ xs) left
    more behind = record {
      done = x ∷ behind.done;
      here = behind.here;
      rest = behind.rest;
      all = ap (λ ys. x ∷ ys) behind.all;
      long = behind.long;
    }

    at : (left ≡ length xs) ⊎ (left ≢ length xs) → (left ≢ length xs → IsSplit xs left) → IsSplit (x ∷ xs) left
    at (inl e) on = record { done = []; here = x; rest = xs; all = refl; long = sym e }
    at (inr ne) on = more (on ne)

module _ (trial : Trial) (is : IsTrial trial) (before : List Var)
    (vars : variables_in trial ≡ numbers_of before ++ trial.last.0 ∷ []) (left : ℕ) (less : left < length before) where
  pub split : IsSplit (numbers_of before) left
  split = split-at (numbers_of before) left (omega (arith, less, length-map before (λ (x : Var). x.0)))

  pub split-left : AreLeft trial (split.here ∷ split.rest)
  split-left = (
    split.done,
    vars ∙ ap (λ xs. xs ++ trial.last.0 ∷ []) split.all ∙ append_assoc split.done (split.here ∷ split.rest) (trial.last.0 ∷ []),
  )

  pub split-variable : variable_at (variables_in trial) left ≡ split.here
  split-variable =
      ap (variable_at (variables_in trial)) (sym split.long) ∙ variable-left trial split.here split.rest split-left

  -- it is the one that is read off
  pub split-read : (v : Var) → slice_get before (length before - (left + 1)) ≡ Some v → v.0 ≡ split.here
  split-read v found =
      ap (λ (x : Var). x.0) (sym (get_or_from_slice_get before (length before - (left + 1)) v v found))
      ∙ sym (get_or-map (λ (x : Var). x.0) before (length before - (left + 1)) v 0 (omega (arith, less)))
      ∙ ap (λ n. get_or (numbers_of before) n 0) same
      ∙ ap (λ xs. get_or xs (length split.done) 0) split.all
      ∙ at-place split.done split.rest split.here
    where
      same : length before - (left + 1) ≡ length split.done
      same = omega (
        arith,
        length-map before (λ (x : Var). x.0),
        ap length split.all,
        length-append split.done (split.here ∷ split.rest),
        split.long,
      )

  pub split-of : (size : ℕ) (b : Assignment) → AreOf size (variables_in trial) b → b split.here < size
  unfolding split-left split
  split-of size b of =
      of split.here (subst (λ xs. Contains xs split.here) (sym split-left.1)
      (Contains-append_right split.done (split.here ∷ split.rest ++ trial.last.0 ∷ []) split.here (0, omega arith, refl)))

  pub last-of : (size : ℕ) (b : Assignment) → AreOf size (variables_in trial) b → b trial.last.0 < size
  last-of size b of =
      of trial.last.0 (subst (λ xs. Contains xs trial.last.0) (sym vars)
      (Contains-append_right (numbers_of before) (trial.last.0 ∷ []) trial.last.0 (0, omega arith, refl)))

  on : AreLeft trial split.rest
  on = left-on trial split.here split.rest split-left

  -- its level
  pub level-within : left < length trial.shape.now.levels
  level-within = subst (λ n. n < length trial.shape.now.levels) split.long (level-there trial is split.rest on)

  pub own-steps : (l : Level) → slice_get trial.shape.now.levels left ≡ Some l → AreSteps (members_in trial) left false l.own
  own-steps l found =
      subst (λ n. AreSteps (members_in trial) n false l.own) split.long
      (level-own trial is split.rest on l (subst (λ n. slice_get trial.shape.now.levels n ≡ Some l) (sym split.long) found))

  pub last-steps : (l : Level) → slice_get trial.shape.now.levels left ≡ Some l → AreSteps (members_in trial) left true l.last
  last-steps l found =
      subst (λ n. AreSteps (members_in trial) n true l.last) split.long
      (level-last trial is split.rest on l (subst (λ n. slice_get trial.shape.now.levels n ≡ Some l) (sym split.long) found))

  module _ (over : (k : ℕ) (m : MemberForm) → slice_get (members_in trial) k ≡ Some m → IsFormulaOver (arities_of trial.structure.now) m.form)
      (steps : List Step) where
    -- the members of the variable itself
    pub seen-own : AreSteps (members_in trial) left false steps → All (IsSeen trial split.here) steps
    seen-own are k d within =
        let number : ℕ = (get_or steps k d).member
        in let found : (m : MemberForm) × (slice_get (members_in trial) number ≡ Some m) × IsSteppedBy left false (get_or steps k d) m
        = some-and (slice_get (members_in trial) number) (IsSteppedBy left false (get_or steps k d)) (are.each k d within)
        in record {
          member = found.0;
          there = found.1;
          formula = over number found.0 found.1;
          read = subst (λ r. IsReadAs split.here r found.0.form) found.2.2
              ((left-waits trial is (split.here ∷ split.rest) split-left number found.0 found.1).1 found.2.1 (found.2.0 ∙ sym split.long));
        }

    -- those of the last one
    pub seen-last : AreSteps (members_in trial) left true steps → All (IsSeen trial trial.last.0) steps
    seen-last are k d within =
        let number : ℕ = (get_or steps k d).member
        in let found : (m : MemberForm) × (slice_get (members_in trial) number ≡ Some m) × IsSteppedBy left true (get_or steps k d) m
        = some-and (slice_get (members_in trial) number) (IsSteppedBy left true (get_or steps k d)) (are.each k d within)
        in record {
          member = found.0;
          there = found.1;
          formula = over number found.0 found.1;
          read = subst (λ r. IsReadAs trial.last.0 r found.0.form) found.2.2
              ((left-placed trial is split.rest on number found.0 found.1).along found.2.1);
        }

-- ---- one variable

-- a member that is tested once fewer variables are left
abbrev pub IsBehind : (left : ℕ) → MemberForm → Type 0
IsBehind left m = m.left < left

-- it waits for those that are left
abbrev pub IsToldBehind : (trial : Trial) → (left v : ℕ) → List K3 → Type 0
IsToldBehind trial left v word =
    (b : Assignment) → AreOf trial.structure.now.size (variables_in trial) b
    → Tells (IsBehind left) trial.structure.now b (members_in trial) (get_or word (b v) No)

module _ (trial : Trial) (b : Assignment) (left : ℕ) where
  abbrev s : StructureForm
  s = trial.structure.now

  abbrev ms : List MemberForm
  ms = members_in trial

  -- what the members of a later variable leave, with what is left of it
  pub own-told : (j : ℕ) → j < left → (begun best : K3) → Tells (IsLater j) s b ms begun → IsBest trial j false b begun best
      → Tells (IsBehind left) s b ms best
  own-told j less begun best told is =
      tells-less s b ms (IsBehind left) (counted begun is.own) best is.most
      (tells-counted s b ms (IsLater j) (IsAt j false) (IsBehind left) behind (λ m at. omega (arith, at.0, less)) apart begun is.own told is.tells)
    where
      behind : (m : MemberForm) → IsLater j m → m.left < left
      behind m (inl fewer) = omega (arith, fewer, less)
      behind m (inr at) = omega (arith, at.0, less)

      apart : (m : MemberForm) → IsLater j m → ¬ IsAt j false m
      apart m (inl fewer) at = absurd (omega (arith, fewer, at.0))
      apart m (inr two) at = let clash : true ≡ false = sym two.1 ∙ at.1 in absurd (cc)

  -- what those of the last variable leave
  pub last-told : (begun best : K3) → begun ≡ Yes → IsBest trial left true b begun best → Tells (IsAt left true) s b ms best
  last-told begun best sure is =
      tells-less s b ms (IsAt left true) is.own best (subst (λ k. IsAtMost (counted k is.own) best) sure is.most) is.tells

  pub later-told : (x y : K3) → Tells (IsBehind left) s b ms x → Tells (IsAt left true) s b ms y → Tells (IsLater left) s b ms (counted x y)
  later-told =
      tells-counted s b ms (IsBehind left) (IsAt left true) (IsLater left) (λ m less. inl less) (λ m at. inr at)
      (λ m less at. absurd (omega (arith, less, at.0)))

-- ---- the words

pub set-each : {X : Type 0} (P : ℕ → X → Type 0) (xs : List X) (i : ℕ) (x : X) → P i x
    → ((k : ℕ) (y : X) → slice_get xs k ≡ Some y → P k y) → (k : ℕ) (y : X) → slice_get (slice_set xs i x) k ≡ Some y → P k y
set-each P xs i x here all k y found = at (cases_eq k i)
  where
    within : k < length xs
    within = omega (arith, slice_get_within (slice_set xs i x) k y found, length-set xs i x)

    at : (k ≡ i) ⊎ (k ≢ i) → P k y
    at (inl e) =
        subst (λ n. P n y) (sym e)
        (subst (P i) (sym (get_or-set_same xs i x x (omega (arith, within, e)))
        ∙ ap (λ n. get_or (slice_set xs i x) n x) (sym e) ∙ get_or_from_slice_get (slice_set xs i x) k y x found) here)
    at (inr ne) =
        all k y (slice_get-get_or xs k x within
        ∙ ap Some (sym (get_or-set_other xs i k x x ne) ∙ get_or_from_slice_get (slice_set xs i x) k y x found))

pub yes-tells : (trial : Trial) (last : List ℕ) (w : ℕ) → variables_in trial ≡ last ++ w ∷ [] → trial.structure.now.size ≤ 64
    → (left : ℕ) (word : List K3) → ((i : ℕ) → i < 64 → get_or word i No ≡ Yes)
    → IsNarrowed trial.structure.now (variables_in trial) (members_in trial) left word
yes-tells trial last w vars few left word sure b of =
    let inside : length (variables_in trial) - (left + 2) < length (variables_in trial)
    = omega (arith, ap length vars, length-append last (w ∷ []))
    in let within : b (variable_at (variables_in trial) left) < trial.structure.now.size
    = of (variable_at (variables_in trial) left) (
      length (variables_in trial) - (left + 2),
      inside,
      get_or_default (variables_in trial) (length (variables_in trial) - (left + 2))
          (variable_at (variables_in trial) left) 0 inside,
    )
    in subst (Tells (IsLater left) trial.structure.now b (members_in trial)) (sym (sure (b (variable_at (variables_in trial) left)) (omega (arith, within, few)))) tt

-- the word that has one value everywhere
pub all-places : (k : K3) (word : List K3) → word ≡ padded 64 (replicate 64 k)
    → (length word ≡ 64) × ((i : ℕ) → i < 64 → get_or word i No ≡ k)
all-places k word whole = (
  ap length whole ∙ length-padded 64 (replicate 64 k) (omega arith) (length-replicate 64 k),
  λ i low. ap (λ w. get_or w i No) whole
      ∙ get_or-padded 64 (replicate 64 k) i (omega arith) (length-replicate 64 k) low
      ∙ cond-true (ltb i 64) (get_or (replicate 64 k) i No) No (lt-ltb i 64 low) ∙ get_or-replicate 64 i k No low,
)

-- an individual has the greatest value of a word
pub best-at : (word begun seen both new : List K3) (u i : ℕ) (g : K3) → length word ≡ 64 → length begun ≡ 64 → length seen ≡ 64
    → u < 64 → i < 64 → both ≡ paired counted begun seen → g ≡ greatest_in both → new ≡ slice_set word u g
    → IsAtMost (counted (get_or begun i No) (get_or seen i No)) (get_or new u No)
best-at word begun seen both new u i g long long-begun long-seen low-u low both-is g-is new-is =
    subst (λ x. IsAtMost x (get_or new u No))
    (ap (λ w. get_or w i No) both-is ∙ get_or-paired counted begun seen i (omega (arith, low, long-begun)) (omega (arith, low, long-seen)))
    (subst (IsAtMost (get_or both i No))
    (sym (ap (λ w. get_or w u No) new-is ∙ get_or-set_same word u g No (omega (arith, low-u, long)) ∙ g-is))
    (at-most-greatest both i))

-- one value more, of a word that was counted
pub going-shut : (later : List (List K3)) (left : ℕ) (tail ways word greatest first new : List K3) (g : K3) → length ways ≡ 64 → length word ≡ 64
    → slice_get later left ≡ Some word → g ≡ greatest_in tail → greatest ≡ padded 64 (replicate 64 g)
    → first ≡ paired counted ways greatest → new ≡ paired counted first word → IsGoingOn later left tail ways new
going-shut later left tail ways word greatest first new g long long-word there g-is greatest-is first-is new-is = record {
  some = λ i low some none. some (value-at i low ∙ ap (λ x. counted (counted x g) (get_or word i No)) none);
  shut = λ i low some none. record {
    word = word;
    there = there;
    none = ap (λ x. counted (counted (get_or ways i No) x) (get_or word i No)) (sym g-is) ∙ sym (value-at i low) ∙ none;
  };
}
  where
    places : (length greatest ≡ 64) × ((i : ℕ) → i < 64 → get_or greatest i No ≡ g)
    places = all-places g greatest greatest-is

    long-first : length first ≡ 64
    long-first = ap length first-is ∙ length-paired counted ways greatest (long ∙ sym places.0) ∙ long

    value-at : (i : ℕ) → i < 64 → get_or new i No ≡ counted (counted (get_or ways i No) g) (get_or word i No)
    value-at i low =
        ap (λ w. get_or w i No) new-is
        ∙ get_or-paired counted first word i (omega (arith, low, long-first)) (omega (arith, low, long-word))
        ∙ ap (λ x. counted x (get_or word i No))
        (ap (λ w. get_or w i No) first-is
        ∙ get_or-paired counted ways greatest i (omega (arith, low, long)) (omega (arith, low, places.0))
        ∙ ap (counted (get_or ways i No)) (places.1 i low))
