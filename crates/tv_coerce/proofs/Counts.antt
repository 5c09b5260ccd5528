-- Members are counted: by words of individuals, and one by one.
use Rattle.std.proofs.Common.{ℕ, ◌≡◌, ◌≢◌, ◌<◌, ◌+◌, ◌*◌, ◌⊎◌, inl, inr, ⊎_elim, Bool, true, false, List, []}
use Rattle.std.proofs.Common.{◌∷◌}
use Rattle.std.proofs.Common.{length, get_or, Option, None, Some, slice_get, refl, sym, ap, subst, ◌∙◌, arith}
use Rattle.std.specs.Prelude.{IsSomeAnd}
use Rattle.std.proofs.lemmas.Option.{same_Some, slice_get-get_or, slice_get_within}
use Rattle.tv_kleene.specs.declared.K3.{K3}
use Rattle.tv_kleene.specs.declared.K3.TheVariants.{No, Half, Yes}
use Rattle.tv_kleene.specs.Kleene.{larger_of, smaller_of}
use Rattle.tv_row.specs.Bits.{paired, yes_unless_no}
use Rattle.tv_row.proofs.WordOps.{length-paired, get_or-paired}
use Rattle.tv_model.specs.Truth.{Assignment, put}
use Rattle.tv_coerce_members.specs.Members.{AreSteps, IsSteppedBy, MemberForm, is_literal}
use Rattle.tv_coerce_members.specs.declared.levels.Step.{Step}
use Rattle.tv_eval_laws.specs.Value.{value}
use Rattle.tv_structure_form.specs.StructureForm.{StructureForm, structure_of}
use Rattle.tv_coerce.specs.Counting.{CountTells, IsAt, IsBarring, IsCounted, IsIdle, IsReadOf, Lacks}
use Rattle.tv_coerce.specs.Counting.{count_of, counted}
use Rattle.tv_coerce.specs.Steps.{CountedBy, IdleStep, LacksStep}

-- ---- values

no-or-some : (x : K3) → (x ≡ No) ⊎ (x ≢ No)
no-or-some No = inl refl
no-or-some Half = inr (λ e. absurd (cc e))
no-or-some Yes = inr (λ e. absurd (cc e))

pub counted-some : (x y : K3) → counted x y ≢ No → x ≢ No
counted-some No y some = some
counted-some Half y some = λ e. absurd (cc e)
counted-some Yes y some = λ e. absurd (cc e)

pub counted-no : (x y : K3) → x ≢ No → counted x y ≡ No → (y ≡ No) ⊎ ((x ≡ Half) × (y ≢ Yes))
counted-no No y some e = absurd (some refl)
counted-no Half No some e = inl refl
counted-no Half Half some e = inr (refl, λ f. absurd (cc f))
counted-no Half Yes some e = absurd (cc e)
counted-no Yes y some e = inl e

pub counted-half : (x y : K3) → counted x y ≡ Half → (x ≡ Half) ⊎ (y ≡ Half)
counted-half No y e = absurd (cc e)
counted-half Half y e = inl refl
counted-half Yes y e = inr e

pub counted-yes : (x : K3) → counted x Yes ≡ x
counted-yes No = refl
counted-yes Half = refl
counted-yes Yes = refl

pub sure-half : (x : K3) → x ≢ No → yes_unless_no x x ≡ No → x ≡ Half
sure-half No some e = absurd (some refl)
sure-half Half some e = refl
sure-half Yes some e = absurd (cc e)

pub sure-yes : (x : K3) → yes_unless_no x x ≢ No → x ≡ Yes
sure-yes No other = absurd (other refl)
sure-yes Half other = absurd (other refl)
sure-yes Yes other = refl

-- how a member counts
count-no : (literal : Bool) (k : K3) → count_of literal k ≡ No → (k ≡ No) ⊎ ((literal ≡ false) × (k ≢ Yes))
count-no true k e = inl e
count-no false No e = inl refl
count-no false Half e = inr (refl, λ f. absurd (cc f))
count-no false Yes e = absurd (cc e)

count-lacks : (literal : Bool) (k : K3) → count_of literal k ≢ Yes → k ≢ Yes
count-lacks true k other = other
count-lacks false No other = λ e. absurd (cc e)
count-lacks false Half other = λ e. absurd (cc e)
count-lacks false Yes other = other

pub count-tells : (s : StructureForm) (a : Assignment) (m : MemberForm) (literal : Bool) (k : K3) → is_literal m.form ≡ literal
    → value (structure_of s) a m.form ≡ k
    → CountTells (value (structure_of s) a m.form ≢ Yes) (IsBarring s a m) (count_of literal k)
count-tells s a m literal k is found = at (count_of literal k) refl
  where
    at : (c : K3) → count_of literal k ≡ c → CountTells (value (structure_of s) a m.form ≢ Yes) (IsBarring s a m) c
    at No e = ⊎_elim (λ no. inl (found ∙ no)) (λ other. inr (is ∙ other.0, λ yes. other.1 (sym found ∙ yes))) (count-no literal k e)
    at Half e = λ yes. count-lacks literal k (λ f. let clash : Half ≡ Yes = sym e ∙ f in absurd (cc)) (sym found ∙ yes)
    at Yes e = tt

-- ---- words by bits

by-bits : (x y : K3) → smaller_of (yes_unless_no (larger_of x y) (smaller_of x y)) (smaller_of x y) ≡ counted x y
by-bits No No = refl
by-bits No Half = refl
by-bits No Yes = refl
by-bits Half No = refl
by-bits Half Half = refl
by-bits Half Yes = refl
by-bits Yes No = refl
by-bits Yes Half = refl
by-bits Yes Yes = refl

pub words-by-bits : (word along : List K3)
    → paired smaller_of (paired yes_unless_no (paired larger_of word along) (paired smaller_of word along)) (paired smaller_of word along)
    ≡ paired counted word along
words-by-bits [] along = refl
words-by-bits (x ∷ word) [] = refl
words-by-bits (x ∷ word) (y ∷ along) =
    ap (λ k. k ∷ paired smaller_of (paired yes_unless_no (paired larger_of word along) (paired smaller_of word along)) (paired smaller_of word along))
    (by-bits x y)
    ∙ ap (λ ks. counted x y ∷ ks) (words-by-bits word along)

definite-bits : (x y : K3) → smaller_of x (yes_unless_no y y) ≡ counted x (count_of false y)
definite-bits No No = refl
definite-bits No Half = refl
definite-bits No Yes = refl
definite-bits Half No = refl
definite-bits Half Half = refl
definite-bits Half Yes = refl
definite-bits Yes No = refl
definite-bits Yes Half = refl
definite-bits Yes Yes = refl

-- ---- one member

module _ (s : StructureForm) (a : Assignment) (v chunk : ℕ) (m : MemberForm) (word along : List K3)
    (long : length word ≡ 64) (is : IsReadOf s a v chunk m.form word along) where
  -- the new word has how the member counts, whether or not it is a literal
  one-counted : (literal : Bool) (new : List K3) → is_literal m.form ≡ literal → length new ≡ 64
      → ((i : ℕ) → i < 64 → get_or new i No ≡ counted (get_or word i No) (count_of literal (get_or along i No)))
      → IsCounted s.size a v chunk (λ b. value (structure_of s) b m.form ≢ Yes) (λ b. IsBarring s b m) word new
  one-counted literal new kind same each = record {
    long = same;
    some = λ i low some. counted-some (get_or word i No) (count_of literal (get_or along i No)) (λ e. some (each i low ∙ e));
    no = λ i low within some none. at i low within some (counted-no (get_or word i No) (count_of literal (get_or along i No)) some
        (sym (each i low) ∙ none));
    half = λ i low within is-half. ⊎_elim (λ was. inl was)
        (λ here. inr (λ yes. count-lacks literal (get_or along i No)
        (λ f. let clash : Half ≡ Yes = sym here ∙ f in absurd (cc))
        (is.each i low within (counted-some (get_or word i No) (count_of literal (get_or along i No))
        (λ e. let clash : Half ≡ No = sym is-half ∙ each i low ∙ e in absurd (cc))) ∙ yes)))
        (counted-half (get_or word i No) (count_of literal (get_or along i No)) (sym (each i low) ∙ is-half));
  }
    where
      at : (i : ℕ) → i < 64 → 64 * chunk + i < s.size → get_or word i No ≢ No
          → (count_of literal (get_or along i No) ≡ No) ⊎ ((get_or word i No ≡ Half) × (count_of literal (get_or along i No) ≢ Yes))
          → IsBarring s (put a v (64 * chunk + i)) m
          ⊎ ((get_or word i No ≡ Half) × (value (structure_of s) (put a v (64 * chunk + i)) m.form ≢ Yes))
      at i low within some (inl none) =
          inl (⊎_elim (λ e. inl (sym (is.each i low within some) ∙ e))
          (λ other. inr (kind ∙ other.0, λ yes. other.1 (is.each i low within some ∙ yes)))
          (count-no literal (get_or along i No) none))
      at i low within some (inr two) =
          inr (two.0, λ yes. count-lacks literal (get_or along i No) two.1 (is.each i low within some ∙ yes))

  pair-at : (op : K3 → K3 → K3) (i : ℕ) → i < 64 → get_or (paired op word along) i No ≡ op (get_or word i No) (get_or along i No)
  pair-at op i low = get_or-paired op word along i (omega (arith, low, long)) (omega (arith, low, is.long))

  pub literal-counted : is_literal m.form ≡ true
      → IsCounted s.size a v chunk (λ b. value (structure_of s) b m.form ≢ Yes) (λ b. IsBarring s b m) word (paired counted word along)
  literal-counted kind =
      one-counted true (paired counted word along) kind (length-paired counted word along (long ∙ sym is.long) ∙ long)
      (λ i low. pair-at counted i low)

  pub other-counted : is_literal m.form ≡ false
      → IsCounted s.size a v chunk (λ b. value (structure_of s) b m.form ≢ Yes) (λ b. IsBarring s b m) word
      (paired smaller_of word (paired yes_unless_no along along))
  other-counted kind =
      one-counted false (paired smaller_of word (paired yes_unless_no along along)) kind
      (length-paired smaller_of word (paired yes_unless_no along along) (long ∙ sym whole) ∙ long)
      (λ i low. get_or-paired smaller_of word (paired yes_unless_no along along) i (omega (arith, low, long)) (omega (arith, low, whole))
      ∙ ap (smaller_of (get_or word i No)) (get_or-paired yes_unless_no along along i (omega (arith, low, is.long)) (omega (arith, low, is.long)))
      ∙ definite-bits (get_or word i No) (get_or along i No))
    where
      whole : length (paired yes_unless_no along along) ≡ 64
      whole = length-paired yes_unless_no along along refl ∙ is.long

-- ---- the members so far

some-and : {X : Type 0} (o : Option X) (P : X → Type 0) → IsSomeAnd o P → (x : X) × (o ≡ Some x) × P x
some-and None P none = absurd none
some-and (Some x) P holds = (x, refl, holds)

module _ (s : StructureForm) (ms : List MemberForm) (steps : List Step) (b : Assignment) where
  abbrev lacks-later : (count : ℕ) → LacksStep s ms steps count b → LacksStep s ms steps (count + 1) b
  lacks-later count one = record {
    at = one.at;
    step = one.step;
    member = one.member;
    before = omega (arith, one.before);
    found = one.found;
    there = one.there;
    lacks = one.lacks;
  }

  idle-later : (count : ℕ) → IdleStep s ms steps count b → IdleStep s ms steps (count + 1) b
  idle-later count (inl one) = inl one
  idle-later count (inr two) = inr (record { one = lacks-later count two.one; other = lacks-later count two.other; apart = two.apart })

  module _ (count : ℕ) (step : Step) (m : MemberForm) (found : slice_get steps count ≡ Some step) (there : slice_get ms step.member ≡ Some m) where
    bars-here : IsBarring s b m → IdleStep s ms steps (count + 1) b
    bars-here bars = inl (record { at = count; step = step; member = m; found = found; there = there; bars = bars })

    abbrev lacks-here : value (structure_of s) b m.form ≢ Yes → LacksStep s ms steps (count + 1) b
    lacks-here lacks = record {
      at = count;
      step = step;
      member = m;
      before = omega arith;
      found = found;
      there = there;
      lacks = lacks;
    }

    lacks-too : LacksStep s ms steps count b → value (structure_of s) b m.form ≢ Yes → IdleStep s ms steps (count + 1) b
    lacks-too one lacks = inr (record {
      one = lacks-later count one;
      other = lacks-here lacks;
      apart = λ e. absurd (omega (arith, e, one.before));
    })

  -- the steps are those of a level
  module _ (left : ℕ) (last : Bool) (are : AreSteps ms left last steps) (count : ℕ) where
    pub at-level : (j : ℕ) (st : Step) (m : MemberForm) → slice_get steps j ≡ Some st → slice_get ms st.member ≡ Some m → IsAt left last m
    at-level j st m found there =
        let within : j < length steps = slice_get_within steps j st found
        in let same : get_or steps j st ≡ st = same_Some (get_or steps j st) st (sym (slice_get-get_or steps j st within) ∙ found)
        in let placed : (x : MemberForm) × (slice_get ms st.member ≡ Some x) × IsSteppedBy left last st x
        = some-and (slice_get ms st.member) (IsSteppedBy left last st)
        (subst (λ (y : Step). IsSomeAnd (slice_get ms y.member) (IsSteppedBy left last y)) same (are.each j st within))
        in let is : placed.0 ≡ m = same_Some placed.0 m (sym placed.1 ∙ there)
        in (ap (λ x. x.left) (sym is) ∙ placed.2.0, ap (λ x. x.last) (sym is) ∙ placed.2.1)

    abbrev pub level-lacks : LacksStep s ms steps count b → Lacks (IsAt left last) s b ms
    level-lacks one = record {
      number = one.step.member;
      member = one.member;
      there = one.there;
      those = at-level one.at one.step one.member one.found one.there;
      lacks = one.lacks;
    }

    pub level-idle : IdleStep s ms steps count b → IsIdle (IsAt left last) s b ms
    level-idle (inl one) = inl (record {
      number = one.step.member;
      member = one.member;
      there = one.there;
      those = at-level one.at one.step one.member one.found one.there;
      bars = one.bars;
    })
    level-idle (inr two) = inr (record {
      one = level-lacks two.one;
      other = level-lacks two.other;
      apart = λ same. two.apart (are.apart two.one.at two.other.at two.one.step two.other.step two.one.found two.other.found same);
    })

-- ---- the word so far

module _ (s : StructureForm) (a : Assignment) (v chunk : ℕ) (ms : List MemberForm) (steps : List Step) where
  pub counted-begins : (word : List K3) → length word ≡ 64 → CountedBy s a v chunk ms steps 0 word word
  counted-begins word long = record {
    long = long;
    some = λ i low some. some;
    no = λ i low within some none. absurd (some none);
    half = λ i low within is. inl is;
  }

  pub counted-more : (count : ℕ) (step : Step) (m : MemberForm) (word now new : List K3) → slice_get steps count ≡ Some step
      → slice_get ms step.member ≡ Some m → CountedBy s a v chunk ms steps count word now
      → IsCounted s.size a v chunk (λ b. value (structure_of s) b m.form ≢ Yes) (λ b. IsBarring s b m) now new
      → CountedBy s a v chunk ms steps (count + 1) word new
  counted-more count step m word now new found there so_far next = record {
    long = next.long;
    some = λ i low some. so_far.some i low (next.some i low some);
    no = λ i low within some none. none-at i low within some none (no-or-some (get_or now i No));
    half = λ i low within is. ⊎_elim
        (λ was. ⊎_elim (λ e. inl e) (λ one. inr (lacks-later s ms steps (here i) count one)) (so_far.half i low within was))
        (λ lacks. inr (lacks-here s ms steps (here i) count step m found there lacks)) (next.half i low within is);
  }
    where
      here : ℕ → Assignment
      here i = put a v (64 * chunk + i)

      turned : (i : ℕ) → (get_or word i No ≡ Half) ⊎ LacksStep s ms steps count (here i)
          → value (structure_of s) (here i) m.form ≢ Yes
          → IdleStep s ms steps (count + 1) (here i) ⊎ ((get_or word i No ≡ Half) × LacksStep s ms steps (count + 1) (here i))
      turned i (inl was) lacks = inr (was, lacks-here s ms steps (here i) count step m found there lacks)
      turned i (inr one) lacks = inl (lacks-too s ms steps (here i) count step m found there one lacks)

      none-at : (i : ℕ) → i < 64 → 64 * chunk + i < s.size → get_or word i No ≢ No → get_or new i No ≡ No
          → (get_or now i No ≡ No) ⊎ (get_or now i No ≢ No)
          → IdleStep s ms steps (count + 1) (here i) ⊎ ((get_or word i No ≡ Half) × LacksStep s ms steps (count + 1) (here i))
      none-at i low within some none (inl was) =
          ⊎_elim (λ idle. inl (idle-later s ms steps (here i) count idle))
          (λ two. inr (two.0, lacks-later s ms steps (here i) count two.1)) (so_far.no i low within some was)
      none-at i low within some none (inr was) =
          ⊎_elim (λ bars. inl (bars-here s ms steps (here i) count step m found there bars))
          (λ two. turned i (so_far.half i low within two.0) two.1) (next.no i low within was none)

  pub counted-whole : (left : ℕ) (last : Bool) → AreSteps ms left last steps → (count : ℕ) (word new : List K3)
      → CountedBy s a v chunk ms steps count word new
      → IsCounted s.size a v chunk (λ b. Lacks (IsAt left last) s b ms) (λ b. IsIdle (IsAt left last) s b ms) word new
  counted-whole left last are count word new so_far = record {
    long = so_far.long;
    some = so_far.some;
    no = λ i low within some none. ⊎_elim
        (λ idle. inl (level-idle s ms steps (put a v (64 * chunk + i)) left last are count idle))
        (λ two. inr (two.0, level-lacks s ms steps (put a v (64 * chunk + i)) left last are count two.1))
        (so_far.no i low within some none);
    half = λ i low within is. ⊎_elim (λ was. inl was)
        (λ one. inr (level-lacks s ms steps (put a v (64 * chunk + i)) left last are count one)) (so_far.half i low within is);
  }

-- ---- the count so far

abbrev pub TellsBy : StructureForm → Assignment → List MemberForm → (steps : List Step) → (count : ℕ) → K3 → Type 0
TellsBy s b ms steps count k = CountTells (LacksStep s ms steps count b) (IdleStep s ms steps count b) k

module _ (s : StructureForm) (b : Assignment) (ms : List MemberForm) (steps : List Step) where
  pub tells-more : (count : ℕ) (step : Step) (m : MemberForm) (now own : K3) → slice_get steps count ≡ Some step
      → slice_get ms step.member ≡ Some m → now ≢ No → TellsBy s b ms steps count now
      → CountTells (value (structure_of s) b m.form ≢ Yes) (IsBarring s b m) own
      → TellsBy s b ms steps (count + 1) (counted now own)
  tells-more count step m No own found there some so_far tells = absurd (some refl)
  tells-more count step m Half No found there some so_far tells = bars-here s ms steps b count step m found there tells
  tells-more count step m Half Half found there some so_far tells = lacks-too s ms steps b count step m found there so_far tells
  tells-more count step m Half Yes found there some so_far tells = lacks-later s ms steps b count so_far
  tells-more count step m Yes No found there some so_far tells = bars-here s ms steps b count step m found there tells
  tells-more count step m Yes Half found there some so_far tells = lacks-here s ms steps b count step m found there tells
  tells-more count step m Yes Yes found there some so_far tells = tt

  -- whether or not they rule everything out so far
  pub tells-next : (count : ℕ) (step : Step) (m : MemberForm) (now own : K3) → slice_get steps count ≡ Some step
      → slice_get ms step.member ≡ Some m → TellsBy s b ms steps count now
      → CountTells (value (structure_of s) b m.form ≢ Yes) (IsBarring s b m) own
      → TellsBy s b ms steps (count + 1) (counted now own)
  tells-next count step m No own found there so_far tells = idle-later s ms steps b count so_far
  tells-next count step m Half own found there so_far tells = tells-more count step m Half own found there (λ e. absurd (cc e)) so_far tells
  tells-next count step m Yes own found there so_far tells = tells-more count step m Yes own found there (λ e. absurd (cc e)) so_far tells

  pub tells-whole : (left : ℕ) (last : Bool) → AreSteps ms left last steps → (count : ℕ) (k : K3) → TellsBy s b ms steps count k
      → CountTells (Lacks (IsAt left last) s b ms) (IsIdle (IsAt left last) s b ms) k
  tells-whole left last are count No idle = level-idle s ms steps b left last are count idle
  tells-whole left last are count Half one = level-lacks s ms steps b left last are count one
  tells-whole left last are count Yes none = tt
