-- A run goes on from the innermost quantifier outwards.
use Rattle.std.proofs.Common.{ap, sym, subst, ◌∙◌}
use Rattle.std.proofs.Common.{arith, ℕ, suc, ◌≡◌, ◌≤◌, ◌<◌, ◌+◌, ◌-◌, ◌*◌, ◌⊎◌, ⊎_elim, List, [], ◌∷◌, refl}
use Rattle.std.proofs.Math.Nat.{suc-mul}
use Rattle.std.specs.List.{range_with_len}
use Rattle.tv_kleene.specs.declared.K3.{K3}
use Rattle.tv_kleene.specs.declared.K3.TheVariants.{Yes}
use Rattle.tv_kleene.specs.Kleene.{larger_of}
use Rattle.tv_model.specs.Form.{Form}
use Rattle.tv_model.specs.Truth.{Assignment, put}
use Rattle.tv_embedding_laws.specs.LogicalStructure.{LogicalStructure}
use Rattle.tv_eval_laws.specs.Value.{value, greatest_of}
use Rattle.tv_quantifiers.specs.declared.runs.Level.{Level}
use Rattle.tv_quantifiers.specs.declared.quantifier.Quantifier.{Quantifier}
use Rattle.tv_quantifiers.specs.Quantified.{turned}
use Rattle.tv_quantifiers.specs.Runs.{AreFresh, AreWithin, under_run, placed, owed, turns, left}
use Rattle.tv_quantifiers.proofs.Quantifying.{quantified-value}
use Rattle.tv_kleene.proofs.Lattice.{larger-assoc, larger-no}

range-front : (k n : ℕ) → k < n → range_with_len k (n - k) ≡ k ∷ range_with_len (k + 1) (n - (k + 1))
range-front k n lt = let e : n - k ≡ suc (n - (k + 1)) = omega arith in rw e refl

pub range-all : (n : ℕ) → 0 < n → range_with_len 0 n ≡ 0 ∷ range_with_len (0 + 1) (n - (0 + 1))
range-all n some =
    let e : n - 0 ≡ n = omega arith
    in subst (λ k. range_with_len 0 k ≡ 0 ∷ range_with_len (0 + 1) (n - (0 + 1))) e (range-front 0 n some)

-- Yes is the greatest, and behind the last individual there is none
pub known : (q : Quantifier) (found here : K3) (g : ℕ → K3) (at size : ℕ)
    → (larger_of found here ≡ Yes) ⊎ (size ≤ at + 1)
    → turned q (larger_of found (larger_of here (greatest_of g (range_with_len (at + 1) (size - (at + 1))))))
    ≡ turned q (larger_of found here)
known q found here g at size why = ap (turned q) (⊎_elim
    (λ yes. sym (larger-assoc found here (behind at)) ∙ ap (λ k. larger_of k (behind at)) yes ∙ sym yes)
    (λ last. let none : size - (at + 1) ≡ 0 = omega arith
    in ap (λ k. larger_of found (larger_of here (greatest_of g (range_with_len (at + 1) k)))) none
    ∙ ap (larger_of found) (larger-no here)) why)
  where
    behind : ℕ → K3
    behind u = greatest_of g (range_with_len (u + 1) (size - (u + 1)))

-- what is found with the individual at hand, and then the next one and those behind it
pub goes_on : (q : Quantifier) (found here : K3) (g : ℕ → K3) (at size : ℕ) → at + 1 < size
    → turned q (larger_of found (larger_of here (greatest_of g (range_with_len (at + 1) (size - (at + 1))))))
    ≡ turned q (larger_of (larger_of found here)
    (larger_of (g (at + 1)) (greatest_of g (range_with_len (at + 1 + 1) (size - (at + 1 + 1))))))
goes_on q found here g at size lt = ap (turned q)
    (ap (λ us. larger_of found (larger_of here (greatest_of g us))) (range-front (at + 1) size lt)
    ∙ sym (larger-assoc found here (larger_of (g (at + 1)) (greatest_of g (range_with_len (at + 1 + 1) (size - (at + 1 + 1)))))))

module _ (s : LogicalStructure) (size : ℕ) (all : s.individuals ≡ range_with_len 0 size) where
  -- a run of which nothing is found owes the value of the formula under its quantifiers
  pub owed-fresh : (ls : List Level) (a : Assignment) (f : Form) → 0 < size → AreFresh ls
      → owed s size a ls f (value s (placed a ls) f) ≡ value s a (under_run ls f)
  owed-fresh [] a f some fresh = refl
  owed-fresh (l ∷ ls) a f some fresh =
      let g : ℕ → K3 = λ u. turned l.quantifier (value s (put a l.var.0 u) (under_run ls f))
      in let inner : owed s size (put a l.var.0 l.at) ls f (value s (placed (put a l.var.0 l.at) ls) f)
      ≡ value s (put a l.var.0 l.at) (under_run ls f) = owed-fresh ls (put a l.var.0 l.at) f some fresh.2
      in let behind : ℕ → K3 = λ u. greatest_of g (range_with_len (u + 1) (size - (u + 1)))
      in ap (λ k. turned l.quantifier (larger_of l.found (larger_of (turned l.quantifier k) (behind l.at)))) inner
      ∙ ap (λ k. turned l.quantifier (larger_of k (larger_of (g l.at) (behind l.at)))) fresh.1
      ∙ ap (λ u. turned l.quantifier (larger_of (g u) (behind u))) fresh.0
      ∙ ap (λ us. turned l.quantifier (greatest_of g us)) (sym (range-all size some) ∙ sym all)
      ∙ quantified-value l.quantifier s a l.var.0 (under_run ls f)

  -- the innermost quantifiers are done, and this one goes on
  pub moved-on : (l next : Level) (ls new : List Level) (a : Assignment) (f : Form) (k inner : K3)
      → next.quantifier ≡ l.quantifier → next.var ≡ l.var → next.at ≡ l.at + 1 → next.at < size
      → next.found ≡ larger_of l.found (turned l.quantifier inner)
      → owed s size (put a l.var.0 l.at) ls f k ≡ inner → AreFresh new → under_run new f ≡ under_run ls f
      → owed s size a (l ∷ ls) f k ≡ owed s size a (next ∷ new) f (value s (placed a (next ∷ new)) f)
  moved-on l next ls new a f k inner qs vs ats lt founds inners fresh same =
      let q : Quantifier = l.quantifier
      in let g : Form → ℕ → K3 = λ h u. turned q (value s (put a l.var.0 u) h)
      in let behind : Form → ℕ → K3 = λ h u. greatest_of (g h) (range_with_len (u + 1) (size - (u + 1)))
      in let some : 0 < size = omega arith
      in let now : owed s size (put a next.var.0 next.at) new f (value s (placed (put a next.var.0 next.at) new) f)
      ≡ value s (put a next.var.0 next.at) (under_run new f) = owed-fresh new (put a next.var.0 next.at) f some fresh
      in let lt' : l.at + 1 < size = subst (λ u. u < size) ats lt
      in ap (λ x. turned q (larger_of l.found (larger_of (turned q x) (behind (under_run ls f) l.at)))) inners
      ∙ goes_on q l.found (turned q inner) (g (under_run ls f)) l.at size lt'
      ∙ ap (λ x. turned q (larger_of x (larger_of (g (under_run ls f) (l.at + 1)) (behind (under_run ls f) (l.at + 1))))) (sym founds)
      ∙ ap (λ u. turned q (larger_of next.found (larger_of (g (under_run ls f) u) (behind (under_run ls f) u)))) (sym ats)
      ∙ ap (λ h. turned q (larger_of next.found (larger_of (g h next.at) (behind h next.at)))) (sym same)
      ∙ ap (λ v. whole q v.0 next.at (value s (put a v.0 next.at) (under_run new f))) (sym vs)
      ∙ ap (λ x. whole q next.var.0 next.at x) (sym now)
      ∙ ap (λ r. whole r next.var.0 next.at (owed s size (put a next.var.0 next.at) new f (value s (placed (put a next.var.0 next.at) new) f))) (sym qs)
    where
      whole : Quantifier → ℕ → ℕ → K3 → K3
      whole r v u x = turned r (larger_of next.found (larger_of (turned r x)
          (greatest_of (λ w. turned r (value s (put a v w) (under_run new f))) (range_with_len (u + 1) (size - (u + 1))))))

  -- the inner quantifiers go on, and this one waits
  pub inner-on : (l : Level) (ls new : List Level) (a : Assignment) (f : Form) (k j : K3)
      → owed s size (put a l.var.0 l.at) ls f k ≡ owed s size (put a l.var.0 l.at) new f j
      → under_run new f ≡ under_run ls f
      → owed s size a (l ∷ ls) f k ≡ owed s size a (l ∷ new) f j
  inner-on l ls new a f k j inner same =
      ap (λ x. part x (under_run ls f)) inner ∙ ap (λ h. part (owed s size (put a l.var.0 l.at) new f j) h) (sym same)
    where
      part : K3 → Form → K3
      part x h = turned l.quantifier (larger_of l.found (larger_of (turned l.quantifier x)
          (greatest_of (λ u. turned l.quantifier (value s (put a l.var.0 u) h)) (range_with_len (l.at + 1) (size - (l.at + 1))))))

-- this one is done
pub done-with : (s : LogicalStructure) (size : ℕ) (l : Level) (ls : List Level) (a : Assignment) (f : Form) (k inner : K3)
    → owed s size (put a l.var.0 l.at) ls f k ≡ inner
    → (larger_of l.found (turned l.quantifier inner) ≡ Yes) ⊎ (size ≤ l.at + 1)
    → owed s size a (l ∷ ls) f k ≡ turned l.quantifier (larger_of l.found (turned l.quantifier inner))
done-with s size l ls a f k inner is why =
    let g : ℕ → K3 = λ u. turned l.quantifier (value s (put a l.var.0 u) (under_run ls f))
    in ap (λ x. turned l.quantifier (larger_of l.found (larger_of (turned l.quantifier x)
    (greatest_of g (range_with_len (l.at + 1) (size - (l.at + 1))))))) is
    ∙ known l.quantifier l.found (turned l.quantifier inner) g l.at size why

-- what a run of which nothing is found is looked at
pub left-fresh : (size : ℕ) (ls : List Level) → 0 < size → AreFresh ls → left size ls + 1 ≡ turns size ls
left-fresh size [] some fresh = refl
left-fresh size (l ∷ ls) some fresh =
    let inner : left size ls + 1 ≡ turns size ls = left-fresh size ls some fresh.2
    in let at : l.at ≡ 0 = fresh.0
    in let t : ℕ = turns size ls
    in rw at (more size t (left size ls) some inner)
  where
    rest : (n t k : ℕ) → k + 1 ≡ t → n * t + k + 1 ≡ suc n * t
    rest n t k e = omega (arith, e, suc-mul n t)

    more : (n t k : ℕ) → 0 < n → k + 1 ≡ t → (n - (0 + 1)) * t + k + 1 ≡ n * t
    more n t k some e =
        let one : n ≡ suc (n - (0 + 1)) = omega arith
        in rest (n - (0 + 1)) t k e ∙ ap (λ m. m * t) (sym one)

fewer-on : (size at next t before now : ℕ) → next ≡ at + 1 → next < size → now + 1 ≡ t
    → (size - (next + 1)) * t + now < (size - (at + 1)) * t + before
fewer-on size at next t before now e lt fresh =
    let one : size - (at + 1) ≡ suc (size - (next + 1)) = omega (arith, e)
    in rw one (step (size - (next + 1)) t before now fresh)
  where
    step : (m t before now : ℕ) → now + 1 ≡ t → m * t + now < suc m * t + before
    step m t before now e = omega (arith, e, suc-mul m t)

-- fewer lists of individuals are left where the inner quantifiers go on
pub inner-fewer : (size : ℕ) (old : List Level) (l : Level) (ls new : List Level) → old ≡ l ∷ ls
    → turns size new ≡ turns size ls → left size new < left size ls
    → (size - (l.at + 1)) * turns size new + left size new < left size old
inner-fewer size old l ls new e same fewer = rw (e, same) (omega (arith, fewer))

-- and where this one does
pub outer-fewer : (size : ℕ) (old : List Level) (l next : Level) (ls new : List Level) → old ≡ l ∷ ls
    → turns size new ≡ turns size ls → next.at ≡ l.at + 1 → next.at < size → AreFresh new
    → (size - (next.at + 1)) * turns size new + left size new < left size old
outer-fewer size old l next ls new e same at lt fresh =
    rw (e, ← same) (fewer-on size l.at next.at (turns size new) (left size ls) (left size new) at lt
    (left-fresh size new (omega (arith, lt)) fresh))

pub fresh-within : (size : ℕ) (ls : List Level) → 0 < size → AreFresh ls → AreWithin size ls
fresh-within size [] some fresh = tt
fresh-within size (l ∷ ls) some fresh =
    (subst (λ u. u < size) (sym fresh.0) some, fresh-within size ls some fresh.2)
