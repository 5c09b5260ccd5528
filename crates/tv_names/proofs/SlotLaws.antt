-- Steps over the numbers of an item.
use Rattle.std.proofs.Common.{◌≡◌, ℕ, zero, suc, ◌+◌, ◌<◌, ◌≤◌, Bool, not, get_or, set, List, [], ◌∷◌, length}
use Rattle.std.proofs.Common.{map, refl, ap, sym, ◌∙◌, cond, arith, zero-add}
use Rattle.std.specs.List.{position_or_len, position}
use Rattle.std.proofs.lemmas.List.{length-map, map-set, get_or-map}
use Rattle.tv_names.specs.declared.naming.Slot.{Slot}
use Rattle.tv_names.specs.Copies.{slot_of}
use Rattle.std.proofs.Common.{Some, Ok, false}
use Rattle.tv_names.specs.Naming.{SlotForm, NamingForm, is_vacant, filled, kept_slot, kept_from, hidden_slot}
use Rattle.tv_names.specs.Naming.{hidden}

position_or_len_over : {A B : Type 0} (f : A → B) (p : B → Bool) (xs : List A) → position_or_len p (map f xs) ≡ position_or_len (λ x. p (f x)) xs
position_or_len_over f p [] = refl
position_or_len_over f p (x ∷ xs) = ap (λ n. cond (not (p (f x))) (1 + n) 0) (position_or_len_over f p xs)

pub position_over : {A B : Type 0} (f : A → B) (p : B → Bool) (xs : List A) → position p (map f xs) ≡ position (λ x. p (f x)) xs
position_over f p xs = rw (position_or_len_over f p xs, length-map xs f) refl

-- the list in which the first elements, as many as k, are changed by f of their numbers, which begin with n
abbrev pub changed : {X : Type 0} → (ℕ → X → X) → ℕ → ℕ → List X → List X
changed f n zero xs = xs
changed f n (suc k) [] = []
changed f n (suc k) (x ∷ xs) = f n x ∷ changed f (n + 1) k xs

changed_here : {X : Type 0} (f : ℕ → X → X) (n k : ℕ) (xs : List X) (d : X) → get_or (changed f n k xs) k d ≡ get_or xs k d
changed_here f n zero xs d = refl
changed_here f n (suc k) [] d = refl
changed_here f n (suc k) (x ∷ xs) d = changed_here f (n + 1) k xs d

pub changed_more : {X : Type 0} (f : ℕ → X → X) (n k : ℕ) (xs : List X) (d : X) → k < length xs → set (changed f n k xs) k (f (n + k) (get_or xs k d)) ≡ changed f n (k + 1) xs
changed_more f n zero [] d lt = absurd (omega arith)
changed_more f n zero (x ∷ xs) d lt = let e : n + 0 ≡ n = omega arith in rw e refl
changed_more f n (suc k) [] d lt = absurd (omega arith)
changed_more f n (suc k) (x ∷ xs) d lt =
    let e : n + suc k ≡ (n + 1) + k = omega arith in
    let g : suc k + 1 ≡ suc (k + 1) = omega arith in
    rw (e, g) (ap (λ ys. f n x ∷ ys) (changed_more f (n + 1) k xs d (omega arith)))

pub changed_all : {X : Type 0} (g : X → X) (n k : ℕ) (xs : List X) → length xs ≤ k → changed (λ m x. g x) n k xs ≡ map g xs
changed_all g n zero [] le = refl
changed_all g n zero (x ∷ xs) le = absurd (omega arith)
changed_all g n (suc k) [] le = refl
changed_all g n (suc k) (x ∷ xs) le = ap (λ ys. g x ∷ ys) (changed_all g (n + 1) k xs (omega arith))

pub changed_kept : (flags : List Bool) (n k : ℕ) (xs : List SlotForm) → length xs ≤ k → changed (λ m slot. kept_slot (get_or flags m false) slot) n k xs ≡ kept_from n flags xs
changed_kept flags n zero [] le = refl
changed_kept flags n zero (x ∷ xs) le = absurd (omega arith)
changed_kept flags n (suc k) [] le = refl
changed_kept flags n (suc k) (x ∷ xs) le = ap (λ ys. kept_slot (get_or flags n false) x ∷ ys) (changed_kept flags (n + 1) k xs (omega arith))

pub filled_some : (slot : SlotForm) (s : NamingForm) (n : ℕ) → Some n ≡ position is_vacant s.slots → filled slot s ≡ Ok (n, record s { slots = set s.slots n slot })
unfolding filled
filled_some slot s n e = rw (sym e) refl

-- one slot more is changed
pub slot_changed : (f : ℕ → SlotForm → SlotForm) (k : ℕ) (olds items : List Slot) (y d : Slot) → map slot_of items ≡ changed f 0 k (map slot_of olds) → k < length olds → k < length items → slot_of y ≡ f k (slot_of (get_or items k d)) → map slot_of (set items k y) ≡ changed f 0 (k + 1) (map slot_of olds)
slot_changed f k olds items y d so_far lt here_lt is =
    let os = map slot_of olds in
    let short : k < length os = omega (arith, length-map olds slot_of, lt) in
    let read : slot_of (get_or items k d) ≡ get_or os k (slot_of d) = sym (get_or-map slot_of items k d (slot_of d) here_lt) ∙ ap (λ (zs : List SlotForm). get_or zs k (slot_of d)) so_far ∙ changed_here f 0 k os (slot_of d) in
    let here : slot_of y ≡ f (0 + k) (get_or os k (slot_of d)) = is ∙ ap (λ (z : SlotForm). f k z) read ∙ ap (λ (m : ℕ). f m (get_or os k (slot_of d))) (sym (zero-add k)) in
    map-set slot_of items k y ∙ ap (λ (zs : List SlotForm). set zs k (slot_of y)) so_far ∙ ap (λ (z : SlotForm). set (changed f 0 k os) k z) here ∙ changed_more f 0 k os (slot_of d) short

pub hidden_all : (name : List ℕ) (k : ℕ) (olds items : List Slot) → map slot_of items ≡ changed (λ n slot. hidden_slot name slot) 0 k (map slot_of olds) → length olds ≤ k → map slot_of items ≡ hidden name (map slot_of olds)
hidden_all name k olds items so_far le = so_far ∙ changed_all (hidden_slot name) 0 k (map slot_of olds) (omega (arith, length-map olds slot_of, le))

pub kept_all : (flags : List Bool) (k : ℕ) (olds items : List Slot) → map slot_of items ≡ changed (λ n slot. kept_slot (get_or flags n false) slot) 0 k (map slot_of olds) → length olds ≤ k → map slot_of items ≡ kept_from 0 flags (map slot_of olds)
kept_all flags k olds items so_far le = so_far ∙ changed_kept flags 0 k (map slot_of olds) (omega (arith, length-map olds slot_of, le))
