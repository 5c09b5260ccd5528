-- Caps: values that a formula doesn't exceed, whatever some of its variables stand for.
use Rattle.std.proofs.Common.{ℕ, ◌≡◌, ◌≢◌, ◌<◌, ◌≤◌, ◌+◌, ◌-◌, ◌*◌, ◌⊎◌, ⊎_elim, inl, inr, List, [], ◌∷◌}
use Rattle.std.proofs.Common.{length}
use Rattle.std.proofs.Common.{get_or, set, map, cond, zero, suc, replicate, min, refl, sym, ap, subst, ◌∙◌}
use Rattle.std.proofs.Common.{arith}
use Rattle.std.specs.List.{range_with_len}
use Rattle.std.proofs.lemmas.Bool.{cases_eq, cases_lt, lt-ltb, le-ltb}
use Rattle.std.proofs.lemmas.List.{length-set, get_or-set_same, get_or-set_other}
use Rattle.tv_kleene.specs.declared.K3.{K3}
use Rattle.tv_kleene.specs.declared.K3.TheVariants.{No, Half, Yes}
use Rattle.tv_kleene.specs.Kleene.{smaller_of, larger_of, negation_of}
use Rattle.tv_model.specs.Form.{Form, FAnd, FOr, IsFree, height}
use Rattle.tv_model.specs.Truth.{Assignment, put}
use Rattle.tv_model.specs.Valid.{IsFormulaOver}
use Rattle.tv_structure_form.specs.StructureForm.{StructureForm, structure_of}
use Rattle.tv_row.specs.Bits.{paired, padded}
use Rattle.tv_row.proofs.WordOps.{length-paired, get_or-paired, length-padded, get_or-padded}
use Rattle.tv_eval_laws.specs.Value.{value, greatest_of}
use Rattle.tv_eval_laws.proofs.Agreed.{only_free_variables_matter}
use Rattle.tv_quantifiers.specs.Quantified.{quantified, turned}
use Rattle.tv_quantifiers.specs.Sets.{IsOutside}
use Rattle.tv_quantifiers.specs.declared.quantifier.Quantifier.{Quantifier}
use Rattle.tv_quantifiers.specs.declared.quantifier.Quantifier.TheVariants.{Exists, Forall}
use Rattle.tv_quantifiers.specs.declared.variables.Variables.{Variables}
use Rattle.tv_quantifiers.proofs.Quantifying.{quantified-value, turned-twice}
use Rattle.tv_eval.specs.Along.{IsWordOf}
use Rattle.tv_eval.specs.Caps.{IsRuledOut, IsCapWord}
use Rattle.tv_eval.proofs.AlongLaws.{put_same, put_other, puts_commute}
use Rattle.tv_eval.proofs.AlongWords.{JoinedTo, of-constant, of-mapped}
use Rattle.tv_eval.proofs.Loops.{greatest-next, larger-none}

-- ---- words

-- Yes rules nothing out
pub caps-all : (n chunk : ℕ) (Out : ℕ → Type 0) (word : List K3) → IsWordOf n chunk (λ u. Yes) word
    → IsCapWord n chunk Out word
caps-all n chunk Out word all = record {
  long = all.long;
  each = λ i low within no. let yes : get_or word i No ≡ Yes = all.each i low within in cc;
}

pub caps-none : (n chunk : ℕ) (Out : ℕ → Type 0) (word : List K3) → word ≡ padded 64 (replicate 64 Yes)
    → IsCapWord n chunk Out word
caps-none n chunk Out word is =
    caps-all n chunk Out word (of-constant n chunk 64 Yes (λ u. Yes) word is (omega arith) (omega arith) (λ u. refl))

either-none : (x y : K3) → smaller_of x y ≡ No → (x ≡ No) ⊎ (y ≡ No)
either-none No y e = inl refl
either-none Half No e = inr refl
either-none Half Half e = cc
either-none Half Yes e = cc
either-none Yes y e = inr e

-- what one of two words rules out
pub caps-both : (n chunk : ℕ) (Out Other : ℕ → Type 0) (x y word : List K3) → IsCapWord n chunk Out x
    → IsCapWord n chunk Other y → ((u : ℕ) → Other u → Out u) → word ≡ paired smaller_of x y
    → IsCapWord n chunk Out word
caps-both n chunk Out Other x y word a b into is =
    let wide : length x ≡ 64 = a.long
    in let other : length y ≡ 64 = b.long
    in record {
      long = ap length is ∙ length-paired smaller_of x y (wide ∙ sym other) ∙ wide;
      each = λ i low within no. ⊎_elim
          (λ e. a.each i low within e)
          (λ e. into (64 * chunk + i) (b.each i low within e))
          (either-none (get_or x i No) (get_or y i No)
          (sym (get_or-paired smaller_of x y i (omega arith) (omega arith)) ∙ ap (λ ks. get_or ks i No) (sym is) ∙ no));
    }

-- the values of a formula, turned
pub caps-values : (n chunk count : ℕ) (q : Quantifier) (g : ℕ → K3) (Out : ℕ → Type 0) (x word : List K3)
    → IsWordOf n chunk g x → count ≡ min 64 (n - 64 * chunk) → word ≡ padded count (map (turned q) x)
    → ((u : ℕ) → turned q (g u) ≡ No → Out u) → IsCapWord n chunk Out word
caps-values n chunk count q g Out x word a e is into =
    let values : IsWordOf n chunk (λ u. turned q (g u)) word = of-mapped n chunk count (turned q) g x word a e is
    in record {
      long = values.long;
      each = λ i low within no. into (64 * chunk + i) (sym (values.each i low within) ∙ no);
    }

-- ---- rows

-- the words before are there
pub record HasCaps (n chunk : ℕ) (Out : ℕ → Type 0) (row : List K3) : Type 0 where
  pub long : length row ≡ n
  pub done : (u : ℕ) → u < 64 * chunk → u < n → get_or row u No ≡ No → Out u

pub caps-next : (n chunk : ℕ) (Out : ℕ → Type 0) (row new word : List K3) → HasCaps n chunk Out row
    → IsCapWord n chunk Out word → length new ≡ length row
    → ((i : ℕ) → i < 64 → 64 * chunk + i < length row → get_or new (64 * chunk + i) No ≡ get_or word i No)
    → ((u : ℕ) → (u < 64 * chunk) ⊎ (64 * chunk + 64 ≤ u) → get_or new u No ≡ get_or row u No)
    → HasCaps n (chunk + 1) Out new
caps-next n chunk Out row new word before is size values others = record {
  long = size ∙ before.long;
  done = λ u lt within no. ⊎_elim
      (λ early. before.done u early within (sym (others u (inl early)) ∙ no))
      (λ late.
      let i : ℕ = u - 64 * chunk
      in let at : 64 * chunk + i ≡ u = omega arith
      in let long : length row ≡ n = before.long
      in subst Out at (is.each i (omega arith) (omega arith)
      (sym (values i (omega arith) (omega arith)) ∙ ap (λ p. get_or new p No) at ∙ no)))
      (cases_lt u (64 * chunk));
}

-- ---- parts of a formula

none-right : (x y : K3) → y ≡ No → smaller_of x y ≡ No
none-right No y e = refl
none-right Half No e = refl
none-right Half Half e = cc
none-right Half Yes e = cc
none-right Yes y e = e

all-left : (x y : K3) → negation_of x ≡ No → negation_of (larger_of x y) ≡ No
all-left No y e = cc
all-left Half y e = cc
all-left Yes y e = refl

all-right : (x y : K3) → negation_of y ≡ No → negation_of (larger_of x y) ≡ No
all-right No y e = e
all-right Half No e = cc
all-right Half Half e = cc
all-right Half Yes e = refl
all-right Yes y e = refl

none-of : (g : ℕ → K3) (us : List ℕ) → ((u : ℕ) → g u ≡ No) → greatest_of g us ≡ No
none-of g [] none = refl
none-of g (u ∷ us) none = rw (none u) (none-of g us none)

-- a conjunction, or a disjunction for "for all"
abbrev pub IsJoint : Quantifier → (whole f g : Form) → Type 0
IsJoint q whole f g = ((q ≡ Exists) × (whole ≡ FAnd f g)) ⊎ ((q ≡ Forall) × (whole ≡ FOr f g))

pub joint-over : (arities : List ℕ) (q : Quantifier) (whole f g : Form) → IsJoint q whole f g
    → IsFormulaOver arities whole → IsFormulaOver arities f × IsFormulaOver arities g
joint-over arities q whole f g (inl is) over = subst (λ k. IsFormulaOver arities k) is.1 over
joint-over arities q whole f g (inr is) over = subst (λ k. IsFormulaOver arities k) is.1 over

pub joint-free : (q : Quantifier) (whole f g : Form) (v : ℕ) → IsJoint q whole f g → IsFree v f ⊎ IsFree v g
    → IsFree v whole
joint-free q whole f g v (inl is) free = subst (λ k. IsFree v k) (sym is.1) free
joint-free q whole f g v (inr is) free = subst (λ k. IsFree v k) (sym is.1) free

module _ (s : StructureForm) (a : Assignment) (hidden : Variables) (w x : ℕ) where
  out-and-left : (f g : Form) → IsRuledOut s a hidden w Exists f x → IsRuledOut s a hidden w Exists (FAnd f g) x
  out-and-left f g out b agree = ap (λ k. smaller_of k (value (structure_of s) (put b w x) g)) (out b agree)

  out-and-right : (f g : Form) → IsRuledOut s a hidden w Exists g x → IsRuledOut s a hidden w Exists (FAnd f g) x
  out-and-right f g out b agree =
      none-right (value (structure_of s) (put b w x) f) (value (structure_of s) (put b w x) g) (out b agree)

  out-or-left : (f g : Form) → IsRuledOut s a hidden w Forall f x → IsRuledOut s a hidden w Forall (FOr f g) x
  out-or-left f g out b agree =
      all-left (value (structure_of s) (put b w x) f) (value (structure_of s) (put b w x) g) (out b agree)

  out-or-right : (f g : Form) → IsRuledOut s a hidden w Forall g x → IsRuledOut s a hidden w Forall (FOr f g) x
  out-or-right f g out b agree =
      all-right (value (structure_of s) (put b w x) f) (value (structure_of s) (put b w x) g) (out b agree)

  -- under a quantifier of the same kind, whose variable is hidden too
  pub out-under : (q : Quantifier) (y : ℕ) (f : Form) (more : Variables) → w ≢ y
      → ((z : ℕ) → IsOutside more z → (z ≢ y) × IsOutside hidden z)
      → IsRuledOut s a more w q f x → IsRuledOut s a hidden w q (quantified q y f) x
  out-under q y f more apart fewer out b agree =
      let g : ℕ → K3 = λ u. turned q (value (structure_of s) (put (put b w x) y u) f)
      in let each : (u : ℕ) → g u ≡ No = λ u.
      ap (turned q) (sym (puts_commute s b w y x u f (λ e. apart (sym e))))
      ∙ out (put b y u) (λ z outside. put_other b y u z (fewer z outside).0 ∙ agree z (fewer z outside).1)
      in ap (turned q) (sym (quantified-value q (structure_of s) (put b w x) y f))
      ∙ turned-twice q (greatest_of g (range_with_len 0 s.size))
      ∙ none-of g (range_with_len 0 s.size) each

  -- a formula without hidden variables
  pub out-seen : (q : Quantifier) (f : Form) → ((v : ℕ) → IsFree v f → IsOutside hidden v)
      → turned q (value (structure_of s) (put a w x) f) ≡ No → IsRuledOut s a hidden w q f x
  out-seen q f seen is b agree =
      ap (turned q) (only_free_variables_matter (structure_of s) f (put b w x) (put a w x)
      (λ v free. ⊎_elim
      (λ e. put_same b w x v e ∙ sym (put_same a w x v e))
      (λ ne. put_other b w x v ne ∙ agree v (seen v free) ∙ sym (put_other a w x v ne))
      (cases_eq v w)))
      ∙ is

  pub joint-left : (q : Quantifier) (whole f g : Form) → IsJoint q whole f g → IsRuledOut s a hidden w q f x
      → IsRuledOut s a hidden w q whole x
  joint-left q whole f g (inl is) out =
      subst (λ r. IsRuledOut s a hidden w r whole x) (sym is.0) (subst (λ k. IsRuledOut s a hidden w Exists k x)
      (sym is.1) (out-and-left f g (subst (λ r. IsRuledOut s a hidden w r f x) is.0 out)))
  joint-left q whole f g (inr is) out =
      subst (λ r. IsRuledOut s a hidden w r whole x) (sym is.0) (subst (λ k. IsRuledOut s a hidden w Forall k x)
      (sym is.1) (out-or-left f g (subst (λ r. IsRuledOut s a hidden w r f x) is.0 out)))

  pub joint-right : (q : Quantifier) (whole f g : Form) → IsJoint q whole f g → IsRuledOut s a hidden w q g x
      → IsRuledOut s a hidden w q whole x
  joint-right q whole f g (inl is) out =
      subst (λ r. IsRuledOut s a hidden w r whole x) (sym is.0) (subst (λ k. IsRuledOut s a hidden w Exists k x)
      (sym is.1) (out-and-right f g (subst (λ r. IsRuledOut s a hidden w r g x) is.0 out)))
  joint-right q whole f g (inr is) out =
      subst (λ r. IsRuledOut s a hidden w r whole x) (sym is.0) (subst (λ k. IsRuledOut s a hidden w Forall k x)
      (sym is.1) (out-or-right f g (subst (λ r. IsRuledOut s a hidden w r g x) is.0 out)))

-- ---- the loops

-- the first values of caps
pub caps-first : (n chunk count : ℕ) (Out : ℕ → Type 0) (word new : List K3) → IsCapWord n chunk Out word
    → count ≡ min 64 (n - 64 * chunk) → new ≡ padded count word → IsCapWord n chunk Out new
caps-first n chunk count Out word new caps e is = record {
  long = ap length is ∙ length-padded count word (omega arith) caps.long;
  each = λ i low within no. caps.each i low within
      (sym (ap (λ ks. get_or ks i No) is
      ∙ get_or-padded count word i (omega arith) caps.long low
      ∙ ap (λ t. cond t (get_or word i No) No) (lt-ltb i count (omega arith))) ∙ no);
}

caps-into : (n chunk : ℕ) (Out Other : ℕ → Type 0) (word : List K3) → IsCapWord n chunk Out word
    → ((u : ℕ) → Out u → Other u) → IsCapWord n chunk Other word
caps-into n chunk Out Other word caps into = record {
  long = caps.long;
  each = λ i low within no. into (64 * chunk + i) (caps.each i low within no);
}

-- of the first values one isn't No
pub lies-within : (n chunk count i : ℕ) (word new : List K3) → length word ≡ 64 → count ≡ min 64 (n - 64 * chunk)
    → new ≡ padded count word → i < 64 → get_or new i No ≢ No → 64 * chunk + i < n
lies-within n chunk count i word new long e is low some = ⊎_elim
    (λ lt. omega arith)
    (λ past. absurd (some (ap (λ ks. get_or ks i No) is
    ∙ get_or-padded count word i (omega arith) long low
    ∙ ap (λ t. cond t (get_or word i No) No) (le-ltb i count past))))
    (cases_lt i count)

-- turned, a value that is No when turned
pub turned-none : (q : Quantifier) (k : K3) → turned q k ≡ No → turned q No ≡ k
turned-none q k is = ap (turned q) (sym is) ∙ turned-twice q k

-- the first i values are there, and the others are k yet
pub record StandsTo (n chunk i : ℕ) (k : K3) (g : ℕ → K3) (word : List K3) : Type 0 where
  pub long : length word ≡ 64
  pub done : (j : ℕ) → j < i → 64 * chunk + j < n → get_or word j No ≡ g (64 * chunk + j)
  pub left : (j : ℕ) → j < 64 → 64 * chunk + j < n → i ≤ j → get_or word j No ≡ k

pub stands-skip : (n chunk i at : ℕ) (k : K3) (g : ℕ → K3) (word : List K3) → StandsTo n chunk i k g word → i ≤ at → at ≤ 64
    → ((j : ℕ) → i ≤ j → j < at → 64 * chunk + j < n → k ≡ g (64 * chunk + j)) → StandsTo n chunk at k g word
stands-skip n chunk i at k g word stands up low between = record {
  long = stands.long;
  done = λ j lt within. ⊎_elim
      (λ early. stands.done j early within)
      (λ late. stands.left j (omega arith) within (omega arith) ∙ between j (omega arith) lt within)
      (cases_lt j i);
  left = λ j small within le. ⊎_elim
      (λ early. absurd (omega arith))
      (λ late. stands.left j small within (omega arith))
      (cases_lt j i);
}

pub stands-next : (n chunk i : ℕ) (k x : K3) (g : ℕ → K3) (word new : List K3) → StandsTo n chunk i k g word → i < 64
    → new ≡ set word i x → x ≡ g (64 * chunk + i) → StandsTo n chunk (i + 1) k g new
stands-next n chunk i k x g word new before low is e = record {
  long = ap length is ∙ length-set word i x ∙ before.long;
  done = λ j lt within. ap (λ ks. get_or ks j No) is
      ∙ ⊎_elim
      (λ at. ap (λ p. get_or (set word i x) p No) at ∙ get_or-set_same word i x No (omega (arith, before.long)) ∙ e
      ∙ ap (λ p. g (64 * chunk + p)) (sym at))
      (λ ne. get_or-set_other word i j x No ne ∙ before.done j (omega arith) within)
      (cases_eq j i);
  left = λ j small within le. ap (λ ks. get_or ks j No) is
      ∙ get_or-set_other word i j x No (λ at. omega arith) ∙ before.left j small within (omega arith);
}

pub stands-all : (n chunk i : ℕ) (k : K3) (g : ℕ → K3) (word : List K3) → StandsTo n chunk i k g word → 64 ≤ i
    → IsWordOf n chunk g word
stands-all n chunk i k g word stands le = record {
  long = stands.long;
  each = λ j low within. stands.done j (omega arith) within;
}

module _ (n chunk count : ℕ) (q : Quantifier) (h : ℕ → K3) (front none word : List K3)
    (caps : IsCapWord n chunk (λ u. turned q (h u) ≡ No) front) (e : count ≡ min 64 (n - 64 * chunk))
    (empty : none ≡ padded 64 (replicate 64 No)) (is : word ≡ padded count (map (turned q) none)) where
  turned-empty : IsWordOf n chunk (λ u. turned q No) word
  turned-empty = of-mapped n chunk count (turned q) (λ u. No) none word
      (of-constant n chunk 64 No (λ u. No) none empty (omega arith) (omega arith) (λ u. refl)) e is

  -- none is found yet
  pub stands-none : StandsTo n chunk 0 (turned q No) h word
  stands-none = record {
    long = turned-empty.long;
    done = λ j lt within. absurd (omega arith);
    left = λ j low within at. turned-empty.each j low within;
  }

-- individuals of whom nothing comes
joined-past : (n chunk x : ℕ) (g : ℕ → ℕ → K3) (found : List K3) → JoinedTo n chunk x g found → x < n
    → ((u : ℕ) → g u x ≡ No) → JoinedTo n chunk (x + 1) g found
joined-past n chunk x g found joined lt none = record {
  long = joined.long;
  each = λ i low within.
      greatest-next (g (64 * chunk + i)) n x (get_or found i No) (get_or found i No)
      (greatest_of (g (64 * chunk + i)) (range_with_len 0 n)) lt (joined.each i low within)
      (sym (ap (larger_of (get_or found i No)) (none (64 * chunk + i)) ∙ larger-none (get_or found i No)));
}

joined-many : (n chunk x k : ℕ) (g : ℕ → ℕ → K3) (found : List K3) → JoinedTo n chunk x g found → x + k ≤ n
    → ((c : ℕ) → x ≤ c → c < x + k → (u : ℕ) → g u c ≡ No) → JoinedTo n chunk (x + k) g found
joined-many n chunk x zero g found joined le none =
    let e : x ≡ x + zero = omega arith in subst (λ y. JoinedTo n chunk y g found) e joined
joined-many n chunk x (suc k) g found joined le none =
    let e : x + 1 + k ≡ x + suc k = omega arith
    in subst (λ y. JoinedTo n chunk y g found) e
    (joined-many n chunk (x + 1) k g found
    (joined-past n chunk x g found joined (omega arith) (none x (omega arith) (omega arith)))
    (omega arith) (λ c low lt. none c (omega arith) (omega arith)))

pub joined-skip : (n chunk from x : ℕ) (g : ℕ → ℕ → K3) (found : List K3) → JoinedTo n chunk from g found → from ≤ x
    → x ≤ n → ((c : ℕ) → from ≤ c → c < x → (u : ℕ) → g u c ≡ No) → JoinedTo n chunk x g found
joined-skip n chunk from x g found joined le end none =
    let e : from + (x - from) ≡ x = omega arith
    in subst (λ y. JoinedTo n chunk y g found) e
    (joined-many n chunk from (x - from) g found joined (omega arith) (λ c low lt. none c low (omega arith)))

-- ---- a quantifier over w, along v

pub height-quantified : (q : Quantifier) (w : ℕ) (f : Form) → height (quantified q w f) ≡ height f + 1
height-quantified Exists w f = omega arith
height-quantified Forall w f = omega arith

module _ (s : StructureForm) (a : Assignment) (v w : ℕ) (q : Quantifier) (f : Form) (hidden : Variables) where
  -- what is ruled out for v, whatever w stands for
  front-rules : w ≢ v → ((z : ℕ) → IsOutside hidden z → z ≢ w) → (u : ℕ) → IsRuledOut s a hidden v q f u
      → turned q (value (structure_of s) (put a v u) (quantified q w f)) ≡ No
  front-rules apart outside u out =
      let g : ℕ → K3 = λ x. turned q (value (structure_of s) (put (put a v u) w x) f)
      in let each : (x : ℕ) → g x ≡ No = λ x. ap (turned q) (sym (puts_commute s a v w u x f apart))
      ∙ out (put a w x) (λ z o. put_other a w x z (outside z o))
      in ap (turned q) (sym (quantified-value q (structure_of s) (put a v u) w f))
      ∙ turned-twice q (greatest_of g (range_with_len 0 s.size))
      ∙ none-of g (range_with_len 0 s.size) each

  -- what is ruled out for w, whatever v stands for
  pub caps-rule : ((z : ℕ) → IsOutside hidden z → z ≢ v) → (x : ℕ) → IsRuledOut s a hidden w q f x
      → (u : ℕ) → turned q (value (structure_of s) (put (put a v u) w x) f) ≡ No
  caps-rule outside x out u = out (put a v u) (λ z o. put_other a v u z (outside z o))

  pub front-caps : w ≢ v → ((z : ℕ) → IsOutside hidden z → z ≢ w) → (chunk count : ℕ) (word new : List K3)
      → IsCapWord s.size chunk (IsRuledOut s a hidden v q f) word → count ≡ min 64 (s.size - 64 * chunk)
      → new ≡ padded count word
      → IsCapWord s.size chunk (λ u. turned q (value (structure_of s) (put a v u) (quantified q w f)) ≡ No) new
  front-caps apart outside chunk count word new caps e is =
      caps-into s.size chunk (IsRuledOut s a hidden v q f)
      (λ u. turned q (value (structure_of s) (put a v u) (quantified q w f)) ≡ No) new
      (caps-first s.size chunk count (IsRuledOut s a hidden v q f) word new caps e is) (front-rules apart outside)
