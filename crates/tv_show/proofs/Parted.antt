-- Texts that were put together are taken apart again, where they hold none of the bytes that part them.
use Rattle.std.proofs.Common.{◌≡◌, ℕ, List, [], ◌∷◌, ◌++◌, refl, sym, subst, ◌∙◌, append_assoc}
use Rattle.std.specs.Prelude.{codes}
use Rattle.std.specs.List.{AllByRecursion}
use Rattle.std.proofs.lemmas.List.{append_cancel_left}
use Rattle.tv_show.specs.Texts.{marked, joined}

-- ---- lists up to a stop

abbrev pub Free : {X : Type 0} → (X → Type 0) → List X → Type 0
Free Stop xs = AllByRecursion (λ x. Stop x → ⊥) xs

abbrev pub Ends : {X : Type 0} → (X → Type 0) → List X → Type 0
Ends Stop [] = Unit {0}
Ends Stop (x ∷ xs) = Stop x

pub free_append : {X : Type 0} (Stop : X → Type 0) (a b : List X) → Free Stop a → Free Stop b → Free Stop (a ++ b)
free_append Stop [] b fa fb = fb
free_append Stop (x ∷ a) b fa fb = (fa.0, free_append Stop a b fa.1 fb)

-- what stands before a stop is one
pub cut : {X : Type 0} (Stop : X → Type 0) (a b r q : List X) → Free Stop a → Free Stop b → Ends Stop r → Ends Stop q
    → a ++ r ≡ b ++ q → (a ≡ b) × (r ≡ q)
cut Stop [] [] r q fa fb er eq same = (refl, same)
cut Stop [] (y ∷ b) [] q fa fb er eq same = absurd (cc same)
cut Stop [] (y ∷ b) (x ∷ r) q fa fb er eq same =
    let head : x ≡ y = cc same in absurd (fb.0 (subst Stop head er))
cut Stop (x ∷ a) [] r [] fa fb er eq same = absurd (cc same)
cut Stop (x ∷ a) [] r (y ∷ q) fa fb er eq same =
    let head : x ≡ y = cc same in absurd (fa.0 (subst Stop (sym head) eq))
cut Stop (x ∷ a) (y ∷ b) r q fa fb er eq same =
    let head : x ≡ y = cc same
    in let rest : a ++ r ≡ b ++ q = cc same
    in let parts = cut Stop a b r q fa.1 fb.1 er eq rest
    in ((λ i. head i ∷ parts.0 i), parts.1)

-- ---- texts without a byte

abbrev pub FreeOf : ℕ → List ℕ → Type 0
FreeOf c text = Free (λ b. b ≡ c) text

abbrev pub AllFreeOf : ℕ → List (List ℕ) → Type 0
AllFreeOf c texts = AllByRecursion (FreeOf c) texts

abbrev pub IsFull : List ℕ → Type 0
IsFull [] = ⊥
IsFull (x ∷ xs) = Unit {0}

abbrev pub Opens : ℕ → List ℕ → Type 0
Opens c [] = ⊥
Opens c (x ∷ xs) = x ≡ c

pub full_append : (a b : List ℕ) → IsFull a → IsFull (a ++ b)
full_append [] b full = absurd full
full_append (x ∷ a) b full = tt

pub free_shut : (c : ℕ) (text : List ℕ) → FreeOf c text → Opens c text → ⊥
free_shut c [] free opens = opens
free_shut c (x ∷ xs) free opens = free.0 opens

-- all of two lists, one behind the other
pub all_append : {X : Type 0} (P : X → Type 0) (xs ys : List X) → AllByRecursion P xs → AllByRecursion P ys → AllByRecursion P (xs ++ ys)
all_append P [] ys all others = others
all_append P (x ∷ xs) ys all others = (all.0, all_append P xs ys all.1 others)

pub marked_free : (c : ℕ) (mark : List ℕ) (texts : List (List ℕ)) → FreeOf c mark → AllFreeOf c texts → FreeOf c (marked mark texts)
marked_free c mark [] free all = tt
marked_free c mark (x ∷ xs) free all =
    free_append (λ b. b ≡ c) (mark ++ x) (marked mark xs) (free_append (λ b. b ≡ c) mark x free all.0) (marked_free c mark xs free all.1)

pub joined_free : (c : ℕ) (texts : List (List ℕ)) → FreeOf c (codes "&") → AllFreeOf c texts → FreeOf c (joined texts)
joined_free c [] free all = tt
joined_free c (x ∷ xs) free all = free_append (λ b. b ≡ c) x (marked (codes "&") xs) all.0 (marked_free c (codes "&") xs free all.1)

-- ---- texts behind marks

marked_ends : (c : ℕ) (mark : List ℕ) (texts : List (List ℕ)) → Ends (λ b. b ≡ c) (marked (c ∷ mark) texts)
marked_ends c mark [] = tt
marked_ends c mark (x ∷ xs) = refl

pub marked_tells : (c : ℕ) (mark : List ℕ) (xs ys : List (List ℕ)) → AllFreeOf c xs → AllFreeOf c ys
    → marked (c ∷ mark) xs ≡ marked (c ∷ mark) ys → xs ≡ ys
marked_tells c mark [] [] fx fy same = refl
marked_tells c mark [] (y ∷ ys) fx fy same = absurd (cc same)
marked_tells c mark (x ∷ xs) [] fx fy same = absurd (cc same)
marked_tells c mark (x ∷ xs) (y ∷ ys) fx fy same =
    let behind : (mark ++ x) ++ marked (c ∷ mark) xs ≡ (mark ++ y) ++ marked (c ∷ mark) ys = cc same
    in let whole = sym (append_assoc mark x (marked (c ∷ mark) xs)) ∙ behind ∙ append_assoc mark y (marked (c ∷ mark) ys)
    in let texts : x ++ marked (c ∷ mark) xs ≡ y ++ marked (c ∷ mark) ys = append_cancel_left mark _ _ whole
    in let parts = cut (λ b. b ≡ c) x y (marked (c ∷ mark) xs) (marked (c ∷ mark) ys) fx.0 fy.0 (marked_ends c mark xs) (marked_ends c mark ys) texts
    in let rest = marked_tells c mark xs ys fx.1 fy.1 parts.1
    in (λ i. parts.0 i ∷ rest i)

pub joined_tells : (xs ys : List (List ℕ)) → AllFreeOf 38 xs → AllFreeOf 38 ys → AllByRecursion IsFull xs → AllByRecursion IsFull ys
    → joined xs ≡ joined ys → xs ≡ ys
joined_tells [] [] fx fy full_x full_y same = refl
joined_tells [] ([] ∷ ys) fx fy full_x full_y same = absurd full_y.0
joined_tells [] ((b ∷ y) ∷ ys) fx fy full_x full_y same = absurd (cc same)
joined_tells ([] ∷ xs) [] fx fy full_x full_y same = absurd full_x.0
joined_tells ((b ∷ x) ∷ xs) [] fx fy full_x full_y same = absurd (cc same)
joined_tells (x ∷ xs) (y ∷ ys) fx fy full_x full_y same =
    let parts = cut (λ b. b ≡ 38) x y (marked (codes "&") xs) (marked (codes "&") ys) fx.0 fy.0 (marked_ends 38 [] xs) (marked_ends 38 [] ys) same
    in let rest = marked_tells 38 [] xs ys fx.1 fy.1 parts.1
    in (λ i. parts.0 i ∷ rest i)

-- ---- texts that begin with a byte, and others behind them

shut_end : (c : ℕ) (texts : List (List ℕ)) → AllByRecursion (λ t. Opens c t → ⊥) texts → Ends (λ t. Opens c t → ⊥) texts
shut_end c [] all = tt
shut_end c (x ∷ xs) all = all.0

open_free : (c : ℕ) (texts : List (List ℕ)) → AllByRecursion (Opens c) texts → Free (λ t. Opens c t → ⊥) texts
open_free c [] all = tt
open_free c (x ∷ xs) all = ((λ shut. shut all.0), open_free c xs all.1)

pub sections : (c : ℕ) (xs ys ns ms : List (List ℕ)) → AllByRecursion (Opens c) xs → AllByRecursion (Opens c) ys
    → AllByRecursion (λ t. Opens c t → ⊥) ns → AllByRecursion (λ t. Opens c t → ⊥) ms → xs ++ ns ≡ ys ++ ms → (xs ≡ ys) × (ns ≡ ms)
sections c xs ys ns ms ox oy sn sm same =
    cut (λ t. Opens c t → ⊥) xs ys ns ms (open_free c xs ox) (open_free c ys oy) (shut_end c ns sn) (shut_end c ms sm) same
