-- Runs whose parts hang together like a chain: what their evaluation needs, and what its steps find.
use Rattle.std.proofs.Common.{ℕ, ◌≡◌, ◌<◌, ◌≤◌, ◌+◌, ◌-◌, ◌*◌, ⊎_elim, inl, inr, suc, zero}
use Rattle.std.proofs.Common.{min}
use Rattle.std.proofs.Common.{Bool, true, false, not, List, [], ◌∷◌, ◌++◌, length, map, get_or, set}
use Rattle.std.proofs.Common.{drop, replicate}
use Rattle.std.proofs.Common.{Option, refl, sym, ap, subst, ◌∙◌, arith}
use Rattle.std.specs.Prelude.{if◌then◌else◌}
use Rattle.std.specs.List.{range_with_len}
use Rattle.std.proofs.lemmas.Bool.{cases_eq, false≢true}
use Rattle.std.proofs.lemmas.List.{length-drop, length-set, get_or-set_same, get_or-set_other}
use Rattle.std.proofs.lemmas.List.{length-replicate}
use Rattle.std.proofs.lemmas.List.FromFn.{fill_by_all, length-map-range_with_len}
use Rattle.tv_kleene.specs.declared.K3.{K3}
use Rattle.tv_kleene.specs.declared.K3.TheVariants.{No, Yes}
use Rattle.tv_kleene.specs.Kleene.{smaller_of}
use Rattle.tv_kleene.proofs.Lattice.{smaller-assoc, smaller-yes}
use Rattle.tv_model.specs.Form.{Form, FZero, FOne, FAtom, FIsNew, FSame, FNot, FAnd, FOr, FIff, FCond}
use Rattle.tv_model.specs.Form.{FExists, FForall, FClosure, IsFree}
use Rattle.tv_model.specs.Truth.{Assignment, put}
use Rattle.tv_model.specs.Valid.{IsFormulaOver, IsVariable}
use Rattle.tv_row.specs.Bits.{paired, padded}
use Rattle.tv_structure_form.specs.StructureForm.{StructureForm, structure_of, arities_of}
use Rattle.tv_embedding_laws.specs.LogicalStructure.{LogicalStructure}
use Rattle.tv_eval_laws.specs.Value.{value}
use Rattle.tv_quantifiers.specs.declared.quantifier.Quantifier.{Quantifier}
use Rattle.tv_quantifiers.specs.declared.quantifier.Quantifier.TheVariants.{Exists, Forall}
use Rattle.tv_quantifiers.specs.declared.runs.Level.{Level}
use Rattle.tv_quantifiers.specs.Quantified.{turned}
use Rattle.tv_quantifiers.specs.Runs.{under_run}
use Rattle.tv_model.specs.Free.{is_free}
use Rattle.tv_quantifiers.specs.Chains.{Signed, AreLinked, IsLinked, is_outside, is_taken}
use Rattle.tv_quantifiers.specs.Chains.{least_part}
use Rattle.tv_quantifiers.specs.Chains.{across, best, parts_of, pushed}
use Rattle.tv_model.proofs.FreeTests.{and-parts, from-free}
use Rattle.tv_quantifiers.proofs.Linking.{NotAmong, linked-first, linked-step, outside-among}
use Rattle.tv_quantifiers.proofs.Quantifying.{turned-twice}
use Rattle.tv_quantifiers.proofs.Running.{range-all}
use Rattle.tv_quantifiers.proofs.Opening.{formula-under, free-over, nesting-under}
use Rattle.tv_quantifiers.proofs.Pushing.{least-append, smaller-swap}
use Rattle.tv_eval.specs.Along.{IsWordOf}
use Rattle.tv_eval.specs.CanEvaluate.{CanEvaluate}
use Rattle.tv_eval.specs.Formulas.{HasRooms, nesting}
use Rattle.tv_eval.specs.Linked.{CanTake, rest_along}
use Rattle.tv_eval.proofs.AlongWords.{of-mapped, of-paired, same-word}
use Rattle.tv_eval.proofs.Parts.{IsPut, can-put, fewer_levels}

-- ---- parts of a formula

-- g is a part of f that may be evaluated where f may
pub record IsPartOf (g f : Form) : Type 0 where
  pub over : (arities : List ℕ) → IsFormulaOver arities f → IsFormulaOver arities g
  pub free : (v : ℕ) → IsFree v g → IsFree v f
  pub fewer : nesting g ≤ nesting f

part-itself : (f : Form) → IsPartOf f f
part-itself f = record { over = λ arities is. is; free = λ v at. at; fewer = omega arith }

part-within : (h g f : Form) → IsPartOf g f → IsPartOf h g → IsPartOf h f
part-within h g f outer inner = record {
  over = λ arities is. inner.over arities (outer.over arities is);
  free = λ v at. outer.free v (inner.free v at);
  fewer = omega (arith, outer.fewer, inner.fewer);
}

negated : (f : Form) → IsPartOf f (FNot f)
negated f = record { over = λ arities is. is; free = λ v at. at; fewer = omega arith }

and-left : (f g : Form) → IsPartOf f (FAnd f g)
and-left f g = record { over = λ arities is. is.0; free = λ v at. inl at; fewer = omega arith }

and-right : (f g : Form) → IsPartOf g (FAnd f g)
and-right f g = record { over = λ arities is. is.1; free = λ v at. inr at; fewer = omega arith }

or-left : (f g : Form) → IsPartOf f (FOr f g)
or-left f g = record { over = λ arities is. is.0; free = λ v at. inl at; fewer = omega arith }

or-right : (f g : Form) → IsPartOf g (FOr f g)
or-right f g = record { over = λ arities is. is.1; free = λ v at. inr at; fewer = omega arith }

abbrev pub ArePartsOf : Form → List Signed → Type 0
ArePartsOf f [] = Unit {0}
ArePartsOf f (p ∷ ps) = IsPartOf p.form f × ArePartsOf f ps

parts-append : (f : Form) (ps qs : List Signed) → ArePartsOf f ps → ArePartsOf f qs → ArePartsOf f (ps ++ qs)
parts-append f [] qs front back = back
parts-append f (p ∷ ps) qs front back = (front.0, parts-append f ps qs front.1 back)

parts-within : (g f : Form) (ps : List Signed) → IsPartOf g f → ArePartsOf g ps → ArePartsOf f ps
parts-within g f [] outer is = tt
parts-within g f (p ∷ ps) outer is = (part-within p.form g f outer is.0, parts-within g f ps outer is.1)

pub parts-are : (sign : Quantifier) (f : Form) → ArePartsOf f (parts_of sign f)
parts-are Exists FZero = (part-itself FZero, tt)
parts-are Exists FOne = (part-itself FOne, tt)
parts-are Exists (FAtom q vars) = (part-itself (FAtom q vars), tt)
parts-are Exists (FIsNew v) = (part-itself (FIsNew v), tt)
parts-are Exists (FSame v w) = (part-itself (FSame v w), tt)
parts-are Exists (FNot f) = parts-within f (FNot f) (parts_of Forall f) (negated f) (parts-are Forall f)
parts-are Exists (FAnd f g) = parts-append (FAnd f g) (parts_of Exists f) (parts_of Exists g) (parts-within f (FAnd f g) (parts_of Exists f) (and-left f g) (parts-are Exists f)) (parts-within g (FAnd f g) (parts_of Exists g) (and-right f g) (parts-are Exists g))
parts-are Exists (FOr f g) = (part-itself (FOr f g), tt)
parts-are Exists (FIff f g) = (part-itself (FIff f g), tt)
parts-are Exists (FCond c f g) = (part-itself (FCond c f g), tt)
parts-are Exists (FExists v f) = (part-itself (FExists v f), tt)
parts-are Exists (FForall v f) = (part-itself (FForall v f), tt)
parts-are Exists (FClosure from to left right f) = (part-itself (FClosure from to left right f), tt)
parts-are Forall FZero = (part-itself FZero, tt)
parts-are Forall FOne = (part-itself FOne, tt)
parts-are Forall (FAtom q vars) = (part-itself (FAtom q vars), tt)
parts-are Forall (FIsNew v) = (part-itself (FIsNew v), tt)
parts-are Forall (FSame v w) = (part-itself (FSame v w), tt)
parts-are Forall (FNot f) = parts-within f (FNot f) (parts_of Exists f) (negated f) (parts-are Exists f)
parts-are Forall (FAnd f g) = (part-itself (FAnd f g), tt)
parts-are Forall (FOr f g) = parts-append (FOr f g) (parts_of Forall f) (parts_of Forall g) (parts-within f (FOr f g) (parts_of Forall f) (or-left f g) (parts-are Forall f)) (parts-within g (FOr f g) (parts_of Forall g) (or-right f g) (parts-are Forall g))
parts-are Forall (FIff f g) = (part-itself (FIff f g), tt)
parts-are Forall (FCond c f g) = (part-itself (FCond c f g), tt)
parts-are Forall (FExists v f) = (part-itself (FExists v f), tt)
parts-are Forall (FForall v f) = (part-itself (FForall v f), tt)
parts-are Forall (FClosure from to left right f) = (part-itself (FClosure from to left right f), tt)

-- ---- what stands under a run

free-in-run : (v : ℕ) (ls : List Level) (f : Form) → NotAmong v ls → IsFree v f → IsFree v (under_run ls f)
free-in-run v [] f among at = at
free-in-run v (l ∷ ls) f among at =
    free-over l.quantifier l.var.0 v (under_run ls f) (among.0, free-in-run v ls f among.1 at)

over-in-run : (arities : List ℕ) (ls : List Level) (f : Form) → IsFormulaOver arities (under_run ls f) → IsFormulaOver arities f
over-in-run arities [] f is = is
over-in-run arities (l ∷ ls) f is =
    over-in-run arities ls f (formula-under l.quantifier arities l.var.0 (under_run ls f) is).1

nesting-in-run : (ls : List Level) (f : Form) → nesting (under_run ls f) ≡ nesting f
nesting-in-run [] f = refl
nesting-in-run (l ∷ ls) f = nesting-under l.quantifier l.var.0 (under_run ls f) ∙ nesting-in-run ls f

variable-in-run : (arities : List ℕ) (j : ℕ) (ls rest : List Level) (l : Level) (f : Form) → drop j ls ≡ l ∷ rest
    → IsFormulaOver arities (under_run ls f) → IsVariable l.var.0
variable-in-run arities zero ls rest l f e is =
    (formula-under l.quantifier arities l.var.0 (under_run rest f)
    (subst (λ xs. IsFormulaOver arities (under_run xs f)) e is)).0
variable-in-run arities (suc j) [] rest l f e is = absurd (omega (arith, ap length e))
variable-in-run arities (suc j) (x ∷ xs) rest l f e is =
    variable-in-run arities j xs rest l f e (formula-under x.quantifier arities x.var.0 (under_run xs f) is).1

pub drop-next : {X : Type 0} → (j : ℕ) (xs : List X) → drop 1 (drop j xs) ≡ drop (suc j) xs
drop-next zero xs = refl
drop-next (suc j) [] = refl
drop-next (suc j) (x ∷ xs) = drop-next j xs

outside-drop : (j : ℕ) (ls : List Level) (f : Form) → is_outside ls f ≡ true → is_outside (drop j ls) f ≡ true
outside-drop zero ls f e = e
outside-drop (suc j) [] f e = refl
outside-drop (suc j) (l ∷ ls) f e = outside-drop j ls f (and-parts (not (is_free l.var.0 f)) (is_outside ls f) e).1

first-free : (l : Level) (ls : List Level) (f : Form) → is_outside (l ∷ ls) f ≡ true → is_free l.var.0 f ≡ true → ⊥
first-free l ls f apart free =
    clash (is_free l.var.0 f) (and-parts (not (is_free l.var.0 f)) (is_outside ls f) apart).0 free
  where
    clash : (b : Bool) → not b ≡ true → b ≡ true → ⊥
    clash true n is = false≢true n
    clash false n is = false≢true is

-- ---- what is taken at a quantifier speaks of its variable, of the one before it, and of none else of the run

behind-first : (j : ℕ) (xs inner : List Level) (outer l : Level) (f : Form) → drop j xs ≡ outer ∷ l ∷ inner
    → is_outside (drop 1 xs) f ≡ true → is_free l.var.0 f ≡ true → ⊥
behind-first zero [] inner outer l f e apart free = absurd (omega (arith, ap length e))
behind-first (suc j) [] inner outer l f e apart free = absurd (omega (arith, ap length e))
behind-first j (y ∷ ys) inner outer l f e apart free =
    let at : drop j ys ≡ l ∷ inner = sym (drop-next j (y ∷ ys)) ∙ ap (drop 1) e
    in first-free l inner f (subst (λ ls. is_outside ls f ≡ true) at (outside-drop j ys f apart)) free

among-two : (j : ℕ) (ls inner : List Level) (outer l : Level) (f : Form) (w : ℕ) → drop j ls ≡ outer ∷ l ∷ inner
    → IsLinked ls f → is_free l.var.0 f ≡ true → NotAmong w (outer ∷ l ∷ inner) → IsFree w f → NotAmong w ls
among-two zero ls inner outer l f w e linked free among at = subst (NotAmong w) (sym e) among
among-two (suc j) [] inner outer l f w e linked free among at = tt
among-two (suc j) (x ∷ xs) inner outer l f w e linked free among at = (
  λ same. behind-first j xs inner outer l f e
      (linked.0 (from-free x.var.0 f (subst (λ v. IsFree v f) same at))) free,
  among-two j xs inner outer l f w e linked.1 free among at,
)

module _ (s : StructureForm) (a : List (Option ℕ)) (sizes : List ℕ) (ls : List Level) (f : Form)
    (can : CanEvaluate s a sizes (under_run ls f)) where
  rooms-for : (g : Form) → IsPartOf g f → HasRooms s.size (nesting g) sizes
  rooms-for g part =
      fewer_levels s.size (nesting g) (nesting (under_run ls f)) sizes
      (omega (arith, part.fewer, nesting-in-run ls f)) can.rooms

  pub can-take-two : (j : ℕ) (inner : List Level) (outer l : Level) (is_first : Bool) (ps : List Signed)
      → drop j ls ≡ outer ∷ l ∷ inner → is_first ≡ false → AreLinked ls ps → ArePartsOf f ps
      → CanTake s a sizes (is_taken is_first l.var.0 inner) (λ g. FExists outer.var.0 (FExists l.var.0 g)) ps
  can-take-two j inner outer l is_first [] e first linked parts = tt
  can-take-two j inner outer l is_first (p ∷ ps) e first linked parts = (
    λ taken.
        let both : (is_free l.var.0 p.form ≡ true) × (is_outside inner p.form ≡ true) =
        and-parts (is_free l.var.0 p.form) (is_outside inner p.form)
        (subst (λ b. is_taken b l.var.0 inner p.form ≡ true) first taken)
        in record {
          formula = (
            variable-in-run (arities_of s) j ls (l ∷ inner) outer f e can.formula,
            (
              variable-in-run (arities_of s) (suc j) ls inner l f (sym (drop-next j ls) ∙ ap (drop 1) e) can.formula,
              parts.0.over (arities_of s) (over-in-run (arities_of s) ls f can.formula),
            ),
          );
          assigned = λ w free. can.assigned w (free-in-run w ls f
              (among-two j ls inner outer l p.form w e linked.0 both.0
              (free.0, (free.1.0, outside-among w inner p.form both.1 free.1.1)) free.1.1)
              (parts.0.free w free.1.1));
          rooms = rooms-for p.form parts.0;
        },
    can-take-two j inner outer l is_first ps e first linked.1 parts.1,
  )

  pub can-take-first : (inner : List Level) (l : Level) (is_first : Bool) (ps : List Signed)
      → drop 0 ls ≡ l ∷ inner → is_first ≡ true → ArePartsOf f ps
      → CanTake s a sizes (is_taken is_first l.var.0 inner) (λ g. FExists l.var.0 g) ps
  can-take-first inner l is_first [] e first parts = tt
  can-take-first inner l is_first (p ∷ ps) e first parts = (
    λ taken.
        let apart : is_outside inner p.form ≡ true = subst (λ b. is_taken b l.var.0 inner p.form ≡ true) first taken
        in record {
          formula = (
            variable-in-run (arities_of s) 0 ls inner l f e can.formula,
            parts.0.over (arities_of s) (over-in-run (arities_of s) ls f can.formula),
          );
          assigned = λ w free. can.assigned w (free-in-run w ls f
              (subst (NotAmong w) (sym e) (free.0, outside-among w inner p.form apart free.1))
              (parts.0.free w free.1));
          rooms = rooms-for p.form parts.0;
        },
    can-take-first inner l is_first ps e first parts.1,
  )

  pub outer-variable : (j : ℕ) (rest : List Level) (l : Level) → drop j ls ≡ l ∷ rest → l.var.0 < 32
  outer-variable j rest l e = variable-in-run (arities_of s) j ls rest l f e can.formula

pub take-split : (s : StructureForm) (a : List (Option ℕ)) (sizes : List ℕ) (chosen : Form → Bool) (around : Form → Form)
    (ps qs : List Signed) → CanTake s a sizes chosen around (ps ++ qs)
    → CanTake s a sizes chosen around ps × CanTake s a sizes chosen around qs
take-split s a sizes chosen around [] qs can = (tt, can)
take-split s a sizes chosen around (p ∷ ps) qs can =
    let rest : CanTake s a sizes chosen around ps × CanTake s a sizes chosen around qs =
    take-split s a sizes chosen around ps qs can.1
    in ((can.0, rest.0), rest.1)

-- with an individual put for the outer variable
pub take-put : (s : StructureForm) (a b : List (Option ℕ)) (sizes : List ℕ) (chosen : Form → Bool) (v w u : ℕ)
    (ps : List Signed) → CanTake s a sizes chosen (λ g. FExists v (FExists w g)) ps → u < s.size → IsPut a v u b
    → CanTake s b sizes chosen (λ g. FExists w g) ps
take-put s a b sizes chosen v w u [] can lt is = tt
take-put s a b sizes chosen v w u (p ∷ ps) can lt is =
    (λ taken. can-put s a b sizes v u (FExists w p.form) (can.0 taken) lt is, take-put s a b sizes chosen v w u ps can.1 lt is)

pub linked-drop : (j : ℕ) (ls : List Level) (ps : List Signed) → AreLinked ls ps → AreLinked (drop j ls) ps
linked-drop j ls [] linked = tt
linked-drop j ls (p ∷ ps) linked = (one j ls p.form linked.0, linked-drop j ls ps linked.1)
  where
    one : (j : ℕ) (ls : List Level) (f : Form) → IsLinked ls f → IsLinked (drop j ls) f
    one zero ls f is = is
    one (suc j) [] f is = tt
    one (suc j) (l ∷ ls) f is = one j ls f is.1

-- ---- words

module _ (n k : ℕ) (chosen : Form → Bool) (s : LogicalStructure) (b : ℕ → Assignment) where
  -- the least of the chosen parts' values, and those of g
  abbrev pub IsLeastWord : (ps : List Signed) (x y : List K3) → Type 0
  IsLeastWord ps x y =
      (g : ℕ → K3) → IsWordOf n k g x → IsWordOf n k (λ u. smaller_of (least_part chosen s (b u) ps) (g u)) y

  pub least-two : (ps qs : List Signed) (x y z : List K3) → IsLeastWord ps x y → IsLeastWord qs y z → IsLeastWord (ps ++ qs) x z
  least-two ps qs x y z first second g is =
      same-word n k (λ u. smaller_of (least_part chosen s (b u) qs) (smaller_of (least_part chosen s (b u) ps) (g u)))
      (λ u. smaller_of (least_part chosen s (b u) (ps ++ qs)) (g u)) z
      (second (λ u. smaller_of (least_part chosen s (b u) ps) (g u)) (first g is))
      (λ u lt. swap (least_part chosen s (b u) qs) (least_part chosen s (b u) ps) (g u)
      ∙ sym (ap (λ v. smaller_of v (g u)) (least-append chosen s (b u) ps qs)))
    where
      swap : (x y z : K3) → smaller_of x (smaller_of y z) ≡ smaller_of (smaller_of y x) z
      swap x y z = smaller-swap x y z ∙ sym (smaller-assoc y x z)

  -- a part that isn't chosen
  pub least-other : (p : Signed) (x : List K3) → chosen p.form ≡ false → IsLeastWord (p ∷ []) x x
  least-other p x other g is =
      same-word n k g (λ u. smaller_of (least_part chosen s (b u) (p ∷ [])) (g u)) x is
      (λ u lt. sym (ap (λ t. smaller_of (smaller_of (if t then turned p.sign (value s (b u) p.form) else Yes) Yes) (g u)) other))

  -- a chosen part
  pub least-chosen : (p : Signed) (count : ℕ) (x values cut y : List K3) → chosen p.form ≡ true
      → count ≡ min 64 (n - 64 * k) → IsWordOf n k (λ u. value s (b u) p.form) values
      → cut ≡ padded count (map (turned p.sign) values) → y ≡ paired smaller_of cut x → IsLeastWord (p ∷ []) x y
  least-chosen p count x values cut y this e at turns both g is =
      same-word n k (λ u. smaller_of (turned p.sign (value s (b u) p.form)) (g u))
      (λ u. smaller_of (least_part chosen s (b u) (p ∷ [])) (g u)) y
      (of-paired n k smaller_of (λ u. turned p.sign (value s (b u) p.form)) g cut x y
      (of-mapped n k count (turned p.sign) (λ u. value s (b u) p.form) values cut at e turns) is both)
      (λ u lt. ap (λ v. smaller_of v (g u)) (sym (smaller-yes (turned p.sign (value s (b u) p.form)))
      ∙ ap (λ t. smaller_of (if t then turned p.sign (value s (b u) p.form) else Yes) Yes) (sym this)))

-- ---- rows

-- the row behind the last quantifier
pub rest-none : (s : StructureForm) (a : Assignment) (sign : Quantifier) (v size : ℕ) (ps : List Signed) (row : List K3)
    → row ≡ replicate size Yes → size ≡ s.size → row ≡ rest_along s a sign v [] ps
rest-none s a sign v size ps row is e = is ∙ ap (λ n. replicate n Yes) e ∙ all s.size 0
  where
    all : (n from : ℕ) → replicate n Yes ≡ map (λ (u : ℕ). Yes) (range_with_len from n)
    all zero from = refl
    all (suc n) from = ap (λ ks. Yes ∷ ks) (all n (from + 1))

pub none-left : (k : ℕ) (ls inner : List Level) (l : Level) → drop k ls ≡ l ∷ inner → length ls ≤ k + 1 → inner ≡ []
none-left k ls [] l e le = refl
none-left k ls (x ∷ inner) l e le =
    let long : length ls - k ≡ length (l ∷ x ∷ inner) = sym (length-drop k ls) ∙ ap length e
    in absurd (omega (arith, long))

-- the values before u are there
pub record HasValues (n u : ℕ) (g : ℕ → K3) (row : List K3) : Type 0 where
  pub long : length row ≡ n
  pub done : (w : ℕ) → w < u → get_or row w No ≡ g w

pub values-none : (n size : ℕ) (g : ℕ → K3) (row : List K3) → row ≡ replicate size No → size ≡ n → HasValues n 0 g row
values-none n size g row is e = record {
  long = ap length is ∙ length-replicate size No ∙ e;
  done = λ w lt. absurd (omega arith);
}

pub values-next : (n u : ℕ) (g : ℕ → K3) (row new : List K3) (k : K3) → HasValues n u g row → u < n → k ≡ g u
    → new ≡ set row u k → HasValues n (u + 1) g new
values-next n u g row new k before lt is e = record {
  long = ap length e ∙ length-set row u k ∙ before.long;
  done = λ w le. ⊎_elim
      (λ same. ap (λ r. get_or r w No) e ∙ ap (λ i. get_or (set row u k) i No) same
      ∙ get_or-set_same row u k No (omega (arith, before.long)) ∙ is ∙ ap g (sym same))
      (λ ne. ap (λ r. get_or r w No) e ∙ get_or-set_other row u w k No ne ∙ before.done w (omega arith))
      (cases_eq w u);
}

pub values-all : (n u : ℕ) (g : ℕ → K3) (row : List K3) → HasValues n u g row → n ≤ u → row ≡ map g (range_with_len 0 n)
values-all n u g row has le = fill_by_all g row n No has.long (λ w lt. has.done w (omega arith))

-- ---- the loop from the innermost quantifier outwards

pub two-behind : (j k : ℕ) (ls rest inner : List Level) (outer l : Level) → suc j ≡ k → drop j ls ≡ outer ∷ rest
    → drop k ls ≡ l ∷ inner → drop j ls ≡ outer ∷ l ∷ inner
two-behind j k ls rest inner outer l next e f =
    let behind : rest ≡ l ∷ inner =
    sym (ap (drop 1) e) ∙ drop-next j ls ∙ ap (λ i. drop i ls) next ∙ f
    in e ∙ ap (λ xs. outer ∷ xs) behind

module _ (s : StructureForm) (a : Assignment) (sign : Quantifier) (ps : List Signed) where
  abbrev row-behind : List Level → List K3
  row-behind [] = []
  row-behind (l ∷ ls) = rest_along s a sign l.var.0 ls ps

  pub rest-same : (ls rest inner : List Level) (outer l : Level) (row : List K3) → ls ≡ outer ∷ rest → ls ≡ l ∷ inner
      → row ≡ rest_along s a sign outer.var.0 rest ps → row ≡ rest_along s a sign l.var.0 inner ps
  rest-same ls rest inner outer l row e f is = is ∙ ap row-behind (sym e ∙ f)

pub rest-long : (s : StructureForm) (a : Assignment) (sign : Quantifier) (v : ℕ) (ls : List Level) (ps : List Signed)
    (row : List K3) → row ≡ rest_along s a sign v ls ps → length row ≡ s.size
rest-long s a sign v ls ps row is =
    ap length is ∙ length-map-range_with_len (λ u. pushed sign (structure_of s) (put a v u) ls ps) 0 s.size

-- the value at the first quantifier is that of the whole run
pub linked-whole : (s : StructureForm) (a : Assignment) (sign : Quantifier) (f : Form) (ls inner : List Level) (level : Level)
    (is_first : Bool) (row : List K3) (found whole : K3) → 0 < s.size → drop 0 ls ≡ level ∷ inner → is_first ≡ true
    → row ≡ rest_along s a sign level.var.0 inner (parts_of sign f)
    → found ≡ best (across sign level.quantifier) (λ w. smaller_of
    (least_part (is_taken is_first level.var.0 inner) (structure_of s) (put a level.var.0 w) (parts_of sign f))
    (get_or row w No)) (range_with_len 0 s.size)
    → whole ≡ turned sign found → whole ≡ value (structure_of s) a (under_run ls f)
linked-whole s a sign f ls inner level is_first row found whole some e first is finds turns =
    let q : Quantifier = across sign level.quantifier
    in let v : ℕ = level.var.0
    in turns
    ∙ ap (turned sign) (finds
    ∙ ap (λ b. best q (λ w. smaller_of (least_part (is_taken b v inner) (structure_of s) (put a v w) (parts_of sign f))
    (get_or row w No)) (range_with_len 0 s.size)) first
    ∙ linked-first sign f (structure_of s) s.size level inner a (parts_of sign f) row refl (range-all s.size some) refl is)
    ∙ turned-twice sign (value (structure_of s) a (under_run (level ∷ inner) f))
    ∙ ap (λ xs. value (structure_of s) a (under_run xs f)) (sym e)

-- the value at a quantifier within is that of what is left behind the outer one
pub linked-next : (s : StructureForm) (a b : Assignment) (sign : Quantifier) (inner : List Level) (outer level : Level)
    (is_first : Bool) (ps : List Signed) (row : List K3) (u : ℕ) (found : K3) → b ≡ put a outer.var.0 u
    → is_first ≡ false → AreLinked (outer ∷ level ∷ inner) ps → row ≡ rest_along s a sign level.var.0 inner ps
    → found ≡ best (across sign level.quantifier) (λ w. smaller_of
    (least_part (is_taken is_first level.var.0 inner) (structure_of s) (put b level.var.0 w) ps) (get_or row w No))
    (range_with_len 0 s.size)
    → found ≡ pushed sign (structure_of s) (put a outer.var.0 u) (level ∷ inner) ps
linked-next s a b sign inner outer level is_first ps row u found here first linked is finds =
    let q : Quantifier = across sign level.quantifier
    in let v : ℕ = level.var.0
    in finds
    ∙ ap (λ c. best q (λ w. smaller_of (least_part (is_taken is_first v inner) (structure_of s) (put c v w) ps)
    (get_or row w No)) (range_with_len 0 s.size)) here
    ∙ ap (λ t. best q (λ w. smaller_of (least_part (is_taken t v inner) (structure_of s) (put (put a outer.var.0 u) v w) ps)
    (get_or row w No)) (range_with_len 0 s.size)) first
    ∙ linked-step sign (structure_of s) s.size outer level inner a u ps row refl linked is
