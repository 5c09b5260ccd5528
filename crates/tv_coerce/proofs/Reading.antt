-- What is read of a literal for the individuals that a variable may stand for.
use Rattle.std.proofs.Common.{ℕ, ◌≡◌, ◌≢◌, ◌<◌, ◌≤◌, ◌+◌, ◌*◌, ◌==◌, if◌then◌else◌, inl, inr, ◌⊎◌, Bool, true}
use Rattle.std.proofs.Common.{false, List, []}
use Rattle.std.proofs.Common.{◌∷◌}
use Rattle.std.proofs.Common.{length, get_or, Option, Some, slice_get, refl, sym, ap, subst, ◌∙◌, arith}
use Rattle.std.specs.Prelude.{IsSomeAnd, option_map, slice_set}
use Rattle.std.proofs.lemmas.Bool.{cases_eq, cases_lt, cond-false, cond-true, eq-eqb, ne_eqb}
use Rattle.std.proofs.lemmas.List.{get_or-set_other, get_or-set_same, length-map}
use Rattle.std.proofs.lemmas.Option.{same_Some, slice_get-get_or, slice_get-map, slice_get_read}
use Rattle.std.proofs.lemmas.Option.{slice_get_within}
use Rattle.tv_kleene.specs.declared.K3.{K3}
use Rattle.tv_kleene.specs.declared.K3.TheVariants.{No}
use Rattle.tv_model.specs.Form.{Form, FAtom, FSame, FExists, IsFree}
use Rattle.tv_model.specs.Truth.{Assignment, put}
use Rattle.tv_model.specs.Valid.{IsFormulaOver}
use Rattle.tv_coerce_members.specs.Members.{MemberForm, is_literal, member_of, members_of, signed}
use Rattle.tv_coerce_members.specs.declared.members.Member.{Member}
use Rattle.tv_eval_laws.specs.Value.{value, same_value}
use Rattle.tv_eval.specs.Along.{IsWordAlong, IsWordOf}
use Rattle.tv_eval.specs.AssignmentForm.{IsAssigned, assignment_of, individual_for}
use Rattle.tv_eval.specs.Bound.{bound_structure}
use Rattle.tv_eval.specs.Formulas.{AreAssigned}
use Rattle.tv_eval.specs.declared.evaluator.Evaluator.{Evaluator}
use Rattle.tv_eval.proofs.AlongLaws.{atom_one, atom_two, put_same, put_other, same_two, same_turned}
use Rattle.tv_eval.proofs.AlongWords.{same-word}
use Rattle.tv_structure_form.specs.StructureForm.{StructureForm, structure_of, value_at}
use Rattle.tv_coerce.specs.CountedWords.{IsAlong}
use Rattle.tv_coerce.specs.Counting.{IsReadOf, signed_value}
use Rattle.tv_coerce.specs.declared.places.Along.{Along}
use Rattle.tv_coerce.proofs.Heads.{placed}

-- ---- the member of a step

pub same-member : (ms : List MemberForm) (k : ℕ) (m n : MemberForm) → slice_get ms k ≡ Some m → slice_get ms k ≡ Some n
    → (P : MemberForm → Type 0) → P m → P n
same-member ms k m n there at P = subst P (same_Some m n (sym there ∙ at))

pub indexed-member : (xs ms : List Member) (k : ℕ) (x : Member) (m : MemberForm) → xs ≡ ms → x ≡ get_or xs k x
    → slice_get (members_of ms) k ≡ Some m → member_of (get_or xs k x) ≡ m
indexed-member xs ms k x m same is there =
    let within : k < length xs = omega (
      arith,
      slice_get_within (members_of ms) k m there,
      length-map ms member_of,
      ap length same,
    )
    in let found : slice_get ms k ≡ Some x
    = ap (λ ys. slice_get ys k) (sym same) ∙ slice_get_read xs (length xs) k x refl within is
    in ap member_of (sym is) ∙ same_Some (member_of x) m (sym (slice_get-map member_of ms k ∙ ap (option_map
    member_of) found) ∙ there)

-- the member at a number, as it is read
pub member-at : (xs ms : List Member) (k : ℕ) (x : Member) → xs ≡ ms → k < length xs
    → slice_get (members_of ms) k ≡ Some (member_of (get_or xs k x))
member-at xs ms k x same within =
    slice_get-map member_of ms k ∙ ap (option_map member_of) (ap (λ ys. slice_get ys k) (sym same) ∙
    slice_get-get_or xs k x within)

-- ---- a literal, which may be negated

pub over-signed : (arities : List ℕ) (flag : Bool) (f g : Form) → f ≡ signed flag g → IsFormulaOver arities f → IsFormulaOver arities g
over-signed arities true f g is over = subst (IsFormulaOver arities) is over
over-signed arities false f g is over = subst (IsFormulaOver arities) is over

free-signed : (flag : Bool) (f g : Form) (x : ℕ) → f ≡ signed flag g → IsFree x g → IsFree x f
free-signed true f g x is free = subst (IsFree x) (sym is) free
free-signed false f g x is free = subst (IsFree x) (sym is) free

pub literal-atom : (flag : Bool) (f : Form) (p : ℕ) (vars : List ℕ) → f ≡ signed flag (FAtom p vars) → is_literal f ≡ true
literal-atom true f p vars is = ap is_literal is
literal-atom false f p vars is = ap is_literal is

-- what the other variable stands for
pub other-within : (size : ℕ) (places : List (Option ℕ)) (flag : Bool) (f g : Form) (v x : ℕ) → AreAssigned size places (FExists v f)
    → f ≡ signed flag g → x ≢ v → IsFree x g → assignment_of places x < size
other-within size places flag f g v x assigned is apart free =
    placed size (individual_for places x) (assigned x (apart, free-signed flag f g x is free))

pub same-within : (v size : ℕ) (places : List (Option ℕ)) (flag : Bool) (f : Form) (x : ℕ) → AreAssigned size places
    (FExists v f)
    → (f ≡ signed flag (FSame v x)) ⊎ (f ≡ signed flag (FSame x v)) → x ≢ v → assignment_of places x < size
same-within v size places flag f x assigned (inl e) apart = other-within size places flag f (FSame v x) v x assigned
    e apart (inr refl)
same-within v size places flag f x assigned (inr e) apart = other-within size places flag f (FSame x v) v x assigned
    e apart (inl refl)

-- an individual put for the variable
pub with-assigned : (size : ℕ) (old new : List (Option ℕ)) (v u : ℕ) (f : Form) → u < size
    → ((w : ℕ) → individual_for new w ≡ (if w == v then Some u else individual_for old w))
    → AreAssigned size old (FExists v f) → AreAssigned size new f
with-assigned size old new v u f small is at w free = case (cases_eq w v)
  where
    case : (w ≡ v) ⊎ (w ≢ v) → IsAssigned size new w
    case (inl e) = subst (λ o. IsSomeAnd o (λ x. x < size)) (sym (is w ∙ cond-true (w == v) (Some u) (individual_for old w) (eq-eqb w v e))) small
    case (inr ne) = subst (λ o. IsSomeAnd o (λ x. x < size)) (sym (is w ∙ cond-false (w == v) (Some u) (individual_for old w) (ne_eqb w v ne)))
        (at w (ne, free))

module _ (s : StructureForm) (a : Assignment) (v chunk : ℕ) where
  -- the individuals so far have the formula's values
  abbrev pub ReadUpTo : Form → (word values : List K3) → ℕ → Type 0
  ReadUpTo f word values from =
      (x : ℕ) → x < from → 64 * chunk + x < s.size → get_or word x No ≢ No
      → get_or values x No ≡ value (structure_of s) (put a v (64 * chunk + x)) f

  -- one more
  pub read-more : (f : Form) (word values : List K3) (from i : ℕ) (k : K3) → ReadUpTo f word values from → length values ≡ 64
      → i < 64 → ((x : ℕ) → from ≤ x → x < i → get_or word x No ≡ No)
      → (64 * chunk + i < s.size → k ≡ value (structure_of s) (put a v (64 * chunk + i)) f)
      → ReadUpTo f word (slice_set values i k) (i + 1)
  read-more f word values from i k so_far long low between here x less within some = case (cases_eq x i)
    where
      old : x ≢ i → (x < from) ⊎ (from ≤ x) → get_or values x No ≡ value (structure_of s) (put a v (64 * chunk + x)) f
      old ne (inl before) = so_far x before within some
      old ne (inr after) = absurd (some (between x after (omega (arith, less, ne))))

      case : (x ≡ i) ⊎ (x ≢ i) → get_or (slice_set values i k) x No ≡ value (structure_of s) (put a v (64 * chunk + x)) f
      case (inl e) =
          ap (λ y. get_or (slice_set values i k) y No) e ∙ get_or-set_same values i k No (omega (arith, low, long))
          ∙ here (subst (λ y. 64 * chunk + y < s.size) e within) ∙ ap (λ y. value (structure_of s) (put a v (64 * chunk + y)) f) (sym e)
      case (inr ne) = get_or-set_other values i x k No ne ∙ old ne (cases_lt x from)

  -- what has the values of all individuals has those of some
  pub read-of : (f : Form) (word values : List K3) → IsWordAlong s a v chunk f values → IsReadOf s a v chunk f word
      values
  read-of f word values along = record { long = along.long; each = λ i low within some. along.each i low within }

  pub signed-along : (flag : Bool) (f g : Form) (base word : List K3) → f ≡ signed flag g → IsWordAlong s a v chunk
      g base
      → ((h : ℕ → K3) → IsWordOf s.size chunk h base → IsWordOf s.size chunk (λ u. signed_value flag (h u)) word)
      → IsWordAlong s a v chunk f word
  signed-along true f g base word is along turned =
      subst (λ x. IsWordAlong s a v chunk x word) (sym is) (turned (λ u. value (structure_of s) (put a v u) g) along)
  signed-along false f g base word is along turned =
      subst (λ x. IsWordAlong s a v chunk x word) (sym is) (turned (λ u. value (structure_of s) (put a v u) g) along)

  -- ---- atoms

  pub alone-along : (p : ℕ) (word : List K3) → length word ≡ 64
      → ((i : ℕ) → i < 64 → 64 * chunk + i < s.size → get_or word i No ≡ value_at s p ((64 * chunk + i) ∷ []))
      → IsWordAlong s a v chunk (FAtom p (v ∷ [])) word
  alone-along p word long values = record {
    long = long;
    each = λ i low within. values i low within ∙ atom_one s a p v v (64 * chunk + i) refl;
  }

  pub second-along : (p x at : ℕ) (word : List K3) → x ≢ v → at ≡ a x → length word ≡ 64
      → ((i : ℕ) → i < 64 → 64 * chunk + i < s.size → get_or word i No ≡ value_at s p (at ∷ (64 * chunk + i) ∷ []))
      → IsWordAlong s a v chunk (FAtom p (x ∷ v ∷ [])) word
  second-along p x at word apart is long values = record {
    long = long;
    each = λ i low within.
        let u : ℕ = 64 * chunk + i
        in values i low within
        ∙ atom_two s a p x v v u at u (is ∙ sym (put_other a v u x apart)) (sym (put_same a v u v refl));
  }

  pub first-along : (p x at : ℕ) (word : List K3) → x ≢ v → at ≡ a x → length word ≡ 64
      → ((i : ℕ) → i < 64 → 64 * chunk + i < s.size → get_or word i No ≡ value_at s p ((64 * chunk + i) ∷ at ∷ []))
      → IsWordAlong s a v chunk (FAtom p (v ∷ x ∷ [])) word
  first-along p x at word apart is long values = record {
    long = long;
    each = λ i low within.
        let u : ℕ = 64 * chunk + i
        in values i low within
        ∙ atom_two s a p v x v u u at (sym (put_same a v u v refl)) (is ∙ sym (put_other a v u x apart));
  }

  -- ---- equalities

  pub same-along : (flag : Bool) (f : Form) (x at : ℕ) (base word : List K3) → x ≢ v → at ≡ a x
      → (f ≡ signed flag (FSame v x)) ⊎ (f ≡ signed flag (FSame x v))
      → IsWordOf s.size chunk (λ w. same_value (structure_of s) w at) base
      → ((h : ℕ → K3) → IsWordOf s.size chunk h base → IsWordOf s.size chunk (λ u. signed_value flag (h u)) word)
      → IsWordAlong s a v chunk f word
  same-along flag f x at base word apart is (inl e) same turned =
      signed-along flag f (FSame v x) base word e
      (same-word s.size chunk (λ w. same_value (structure_of s) w at)
      (λ u. value (structure_of s) (put a v u) (FSame v x)) base same
      (λ u within. same_two (structure_of s) u (put a v u v) at (put a v u x) (sym (put_same a v u v refl))
      (is ∙ sym (put_other a v u x apart)))) turned
  same-along flag f x at base word apart is (inr e) same turned =
      signed-along flag f (FSame x v) base word e
      (same-word s.size chunk (λ w. same_value (structure_of s) w at)
      (λ u. value (structure_of s) (put a v u) (FSame x v)) base same
      (λ u within. same_turned (structure_of s) u at
      ∙ same_two (structure_of s) at (put a v u x) u (put a v u v) (is ∙ sym (put_other a v u x apart))
      (sym (put_same a v u v refl)))) turned

-- ---- on a word

-- the next word may be counted on too
pub along-kept : (x : Along) (e now : Evaluator) (old new : List K3) → now ≡ e → length new ≡ 64 → IsAlong x e
    old → IsAlong x now new
along-kept x e now old new same long along = record {
  structure = ap bound_structure same ∙ along.structure;
  chunk = along.chunk;
  long = long;
}
