-- A body that gave nothing for one member gives nothing for the others, where its sets don't mention the variable.
use Rattle.std.proofs.Common.{◌≡◌, ℕ, ◌+◌, ◌<◌, ◌≤◌, Bool, true, false, not, cond, ◌&&◌, ◌||◌, get_or, List}
use Rattle.std.proofs.Common.{[], ◌∷◌, ◌++◌, length, map, drop, refl, sym, ap, subst, ◌∙◌, Result, Ok, Err}
use Rattle.std.proofs.Common.{Bor, inl, inr, ◌⊎◌, arith, nat_eq, eqb-true}
use Rattle.std.specs.Str.{bytes_eq}
use Rattle.std.proofs.lemmas.List.{drop_more, drop_all, length_push}
use Rattle.tv_tree.specs.Names.{is_among}
use Rattle.tv_tree.specs.Forms.{SetForm, SNamed, SMembers, SParen, SPlus, SMinus, Nest, Single, Foreach}
use Rattle.tv_tree.specs.Forms.{Nests, no_nest, with_nest, DeclForm, DSet, DPred, DRule, UpdateForm}
use Rattle.tv_tree.specs.Copies.{term_of, step_of, set_of, nests}
use Rattle.tv_tree.specs.declared.trees.SetSign.{SetSign}
use Rattle.tv_tree.specs.declared.trees.SetStep.{SetStep}
use Rattle.tv_tree.specs.declared.trees.SetTree.{SetTree, out-SetTree}
use Rattle.tv_tree.proofs.Unfolds.{step_of_parts}
use Rattle.tv_flat.specs.FlatForm.{nodes, pred_nodes}
use Rattle.tv_flat.specs.Replaced.{Binding, bound, replaced, flat_pred, flat_rule, flat_update}
use Rattle.tv_flat.proofs.BindingLaws.{replaced_bound}
use Rattle.tv_expand.specs.declared.error.ExpandError.{ExpandError}
use Rattle.tv_expand.specs.declared.error.ExpandError.TheVariants.{NameTwice}
use Rattle.tv_expand.specs.Outcome.{◌>>=◌, each}
use Rattle.tv_expand.specs.Sets.{Sets, find_set, members_of, with_members}
use Rattle.tv_expand.specs.Idle.{is_apart_set, is_apart_nest, is_apart, declared_count, update_count}
use Rattle.tv_expand.specs.Expansion.{unrolled, unrolled_nest, counted, Declared, with_set, with_pred}
use Rattle.tv_expand.specs.Expansion.{with_rule, declared, Block, updated}
use Rattle.tv_expand.specs.Views.{names_of}
use Rattle.tv_expand.proofs.KeepLaws.{bind_ok}
use Rattle.tv_expand.proofs.SetTests.{all_steps, first_passes, first_refused, step_passes, step_refused}
use Rattle.tv_expand.proofs.SetTests.{steps_pass}
use Rattle.std.specs.Prelude.{is_some}
use Rattle.std.proofs.lemmas.Bool.{and_parts}

-- ---- bindings that differ at one word

-- the two put in the same for each other word
abbrev pub Agree : List ℕ → Binding → Binding → Type 0
Agree var b c = (w : List ℕ) → bytes_eq var w ≡ false → replaced b w ≡ replaced c w

bound_agree : (b : Binding) (var x y : List ℕ) → Agree var (bound b var x) (bound b var y)
bound_agree b var x y = λ w other.
    let left = replaced_bound b w (var, x) in
    let right = replaced_bound b w (var, y) in
    sym left ∙ (rw other refl ∙ right)

inner_agree : (b c : Binding) (var v z : List ℕ) → Agree var b c → Agree var (bound b v z) (bound c v z)
inner_agree b c var v z agree = λ w other.
    sym (replaced_bound b w (v, z)) ∙ (ap (λ (found : List ℕ). cond (bytes_eq v w) z found) (agree w other) ∙ replaced_bound c w (v, z))

words_agree : (b c : Binding) (var : List ℕ) (xs : List (List ℕ)) → Agree var b c → not (is_among xs var) ≡ true → map (replaced b) xs ≡ map (replaced c) xs
words_agree b c var [] agree h = refl
words_agree b c var (x ∷ xs) agree h = by (bytes_eq var x) refl (words_agree b c var xs agree) h
  where
    by : (t : Bool) → bytes_eq var x ≡ t → (not (is_among xs var) ≡ true → map (replaced b) xs ≡ map (replaced c) xs) → not (t || is_among xs var) ≡ true → map (replaced b) (x ∷ xs) ≡ map (replaced c) (x ∷ xs)
    by true e rest k = cc
    by false e rest k = rw (agree x e, rest k) refl

members_agree : (sets : Sets) (b c : Binding) (var : List ℕ) (s : SetForm) → Agree var b c → is_apart_set var s ≡ true → members_of sets b s ≡ members_of sets c s
members_agree sets b c var (SNamed name) agree h = refl
members_agree sets b c var (SMembers xs) agree h = ap (λ ys. Ok (with_members [] ys)) (words_agree b c var xs agree h)
members_agree sets b c var (SParen s) agree h = members_agree sets b c var s agree h
members_agree sets b c var (SPlus s t) agree h =
    let p = and_parts (is_apart_set var s) (is_apart_set var t) h in
    rw (members_agree sets b c var s agree p.0, members_agree sets b c var t agree p.1) refl
members_agree sets b c var (SMinus s t) agree h =
    let p = and_parts (is_apart_set var s) (is_apart_set var t) h in
    rw (members_agree sets b c var s agree p.0, members_agree sets b c var t agree p.1) refl

-- ---- states that only grow

module _ {S : Type 0} (size : S → ℕ) where
  -- the state as it was, or a larger one
  abbrev pub Later : S → S → Type 0
  Later s t = (t ≡ s) ⊎ (size s < size t)

  later_on : (r s t : S) → Later r s → Later s t → Later r t
  later_on r s t (inl h) (inl k) = inl (k ∙ h)
  later_on r s t (inl h) (inr k) = inr (subst (λ (q : S). size q < size t) h k)
  later_on r s t (inr h) (inl k) = inr (subst (λ (q : S). size r < size q) (sym k) h)
  later_on r s t (inr h) (inr k) = inr (omega arith)

  there_and_back : (s t : S) → Later s t → Later t s → t ≡ s
  there_and_back s t (inl h) k = h
  there_and_back s t (inr h) (inl k) = sym k
  there_and_back s t (inr h) (inr k) = absurd (omega arith)

  each_later : {Y : Type 0} (step : Y → S → Result S ExpandError) → ((y : Y) (s t : S) → step y s ≡ Ok t → Later s t) → (ys : List Y) (s t : S) → each step ys s ≡ Ok t → Later s t
  each_later step later [] s t h = let same : s ≡ t = cc in inl (sym same)
  each_later step later (y ∷ ys) s t h =
      let first = bind_ok (step y s) (each step ys) t h in
      later_on s first.0 t (later y s first.0 first.1) (each_later step later ys first.0 t first.2)

  -- steps that leave the state as it is, and others that do so where these do
  each_still : {Y : Type 0} (step other : Y → S → Result S ExpandError) → ((y : Y) (s t : S) → step y s ≡ Ok t → Later s t) → (s : S) → ((y : Y) → step y s ≡ Ok s → other y s ≡ Ok s) → (ys : List Y) → each step ys s ≡ Ok s → each other ys s ≡ Ok s
  each_still step other later s still [] h = refl
  each_still step other later s still (y ∷ ys) h =
      let first = bind_ok (step y s) (each step ys) s h in
      let same : first.0 ≡ s = there_and_back s first.0 (later y s first.0 first.1) (each_later step later ys first.0 s first.2) in
      rw (still y (subst (λ (t : S). step y s ≡ Ok t) same first.1))
      (each_still step other later s still ys (subst (λ (t : S). each step ys t ≡ Ok s) same first.2))

module _ {X S : Type 0} (sets : S → Sets) (single : Binding → X → S → Result S ExpandError) (size : S → ℕ) (grows : (b : Binding) (x : X) (s t : S) → single b x s ≡ Ok t → size s < size t) where
  mutual
    nest_later : (b : Binding) (d : Nest X) (s t : S) → unrolled_nest sets single b d s ≡ Ok t → Later size s t
    nest_later b (Single x) s t h = inr (grows b x s t h)
    nest_later b (Foreach var members body) s t h =
        let found = bind_ok (members_of (sets s) b members) (λ xs. each (λ x. unrolled sets single (bound b var x) body) xs s) t h in
        each_later size (λ x. unrolled sets single (bound b var x) body) (λ x r q k. nests_later (bound b var x) body r q k) found.0 s t found.2

    nests_later : (b : Binding) (ds : Nests X) (s t : S) → unrolled sets single b ds s ≡ Ok t → Later size s t
    nests_later b no_nest s t h = let same : s ≡ t = cc in inl (sym same)
    nests_later b (with_nest d ds) s t h =
        let first = bind_ok (unrolled_nest sets single b d s) (unrolled sets single b ds) t h in
        later_on size s first.0 t (nest_later b d s first.0 first.1) (nests_later b ds first.0 t first.2)

  mutual
    nest_still : (b c : Binding) (var : List ℕ) (d : Nest X) (s : S) → Agree var b c → is_apart_nest var d ≡ true → unrolled_nest sets single b d s ≡ Ok s → unrolled_nest sets single c d s ≡ Ok s
    nest_still b c var (Single x) s agree apart h = let more = grows b x s s h in absurd (omega arith)
    nest_still b c var (Foreach v members body) s agree apart h =
        let p = and_parts (is_apart_set var members) (is_apart var body) apart in
        let found = bind_ok (members_of (sets s) b members) (λ xs. each (λ x. unrolled sets single (bound b v x) body) xs s) s h in
        rw (← members_agree (sets s) b c var members agree p.0, found.1)
        (each_still size (λ x. unrolled sets single (bound b v x) body) (λ x. unrolled sets single (bound c v x) body)
        (λ x r q k. nests_later (bound b v x) body r q k) s
        (λ x k. nests_still (bound b v x) (bound c v x) var body s (inner_agree b c var v x agree) p.1 k) found.0 found.2)

    nests_still : (b c : Binding) (var : List ℕ) (ds : Nests X) (s : S) → Agree var b c → is_apart var ds ≡ true → unrolled sets single b ds s ≡ Ok s → unrolled sets single c ds s ≡ Ok s
    nests_still b c var no_nest s agree apart h = refl
    nests_still b c var (with_nest d ds) s agree apart h =
        let p = and_parts (is_apart_nest var d) (is_apart var ds) apart in
        let first = bind_ok (unrolled_nest sets single b d s) (unrolled sets single b ds) s h in
        let same : first.0 ≡ s = there_and_back size s first.0 (nest_later b d s first.0 first.1) (nests_later b ds first.0 s first.2) in
        rw (nest_still b c var d s agree p.0 (subst (λ (t : S). unrolled_nest sets single b d s ≡ Ok t) same first.1))
        (nests_still b c var ds s agree p.1 (subst (λ (t : S). unrolled sets single b ds t ≡ Ok s) same first.2))

  still_for_all : (b : Binding) (var x : List ℕ) (body : Nests X) (s : S) → is_apart var body ≡ true → unrolled sets single (bound b var x) body s ≡ Ok s → (words : List (List ℕ)) → each (λ y. unrolled sets single (bound b var y) body) words s ≡ Ok s
  still_for_all b var x body s apart h [] = refl
  still_for_all b var x body s apart h (y ∷ words) =
      rw (nests_still (bound b var x) (bound b var y) var body s (bound_agree b var x y) apart h) (still_for_all b var x body s apart h words)

  -- what a body gives for all further members, where it gave nothing for one
  pub same_for_all : (b : Binding) (var : List ℕ) (body : Nests X) (words : List (Bor (List ℕ))) (i : ℕ) (d : Bor (List ℕ)) (s t : S) → i < length words → is_apart var body ≡ true → unrolled sets single (bound b var (get_or words i d).now) body s ≡ Ok t → size t ≡ size s → each (λ y. unrolled sets single (bound b var y) body) (names_of (drop i words)) s ≡ Ok t
  same_for_all b var body words i d s t below apart goes alike =
      elim (nests_later (bound b var (get_or words i d).now) body s t goes) [
        | inl same ↦
            let still : unrolled sets single (bound b var (get_or words i d).now) body t ≡ Ok t = subst (λ (q : S). unrolled sets single (bound b var (get_or words i d).now) body q ≡ Ok t) (sym same) goes in
            rw (drop_more words i d below, goes) (still_for_all b var (get_or words i d).now body t apart still (names_of (drop (i + 1) words)))
        | inr more ↦ absurd (omega arith)
      ]

-- ---- what the states count

pub updated_grows : (b : Binding) (u : UpdateForm) (s t : Block) → updated b u s ≡ Ok t → update_count s < update_count t
updated_grows b u s t h =
    let got = bind_ok (counted (nodes u.body) s.room) (λ room. Ok (record { updates = s.updates ++ Single (flat_update b u) ∷ []; room = room })) t h in
    let same : s.updates ++ Single (flat_update b u) ∷ [] ≡ t.updates = cc (got.2) in
    let long = length_push s.updates (Single (flat_update b u)) in
    let e = ap length same in
    omega arith

pub declared_grows : (b : Binding) (x : DeclForm) (s t : Declared) → declared b x s ≡ Ok t → declared_count s < declared_count t
declared_grows b (DSet name members) s t h = by (is_some (find_set s.sets name)) h
  where
    by : (seen : Bool) → cond {A = Result Declared ExpandError} seen (Err NameTwice) (members_of s.sets b members >>= λ xs. Ok (with_set s name xs)) ≡ Ok t → declared_count s < declared_count t
    by true k = cc
    by false k =
        let got = bind_ok (members_of s.sets b members) (λ xs. Ok (with_set s name xs)) t k in
        let same : with_set s name got.0 ≡ t = cc (got.2) in
        let long = length_push s.sets (name, got.0) in
        subst (λ (q : Declared). declared_count s < declared_count q) same (omega arith)
declared_grows b (DPred p) s t h =
    let got = bind_ok (counted (pred_nodes p) s.room) (λ room. Ok (with_pred s (flat_pred b p) room)) t h in
    let same : with_pred s (flat_pred b p) got.0 ≡ t = cc (got.2) in
    let long = length_push s.preds (flat_pred b p) in
    subst (λ (q : Declared). declared_count s < declared_count q) same (omega arith)
declared_grows b (DRule f g) s t h =
    let got = bind_ok (counted (nodes f + nodes g) s.room) (λ room. Ok (with_rule s (flat_rule b f g) room)) t h in
    let same : with_rule s (flat_rule b f g) got.0 ≡ t = cc (got.2) in
    let long = length_push s.rules (flat_rule b f g) in
    subst (λ (q : Declared). declared_count s < declared_count q) same (omega arith)

-- three counts that are all the same
pub three_same : (a b c d e f : ℕ) → true ≡ (nat_eq a b && (nat_eq c d && nat_eq e f)) → a + c + e ≡ b + d + f
three_same a b c d e f h =
    let p = and_parts (nat_eq a b) (nat_eq c d && nat_eq e f) (sym h) in
    let q = and_parts (nat_eq c d) (nat_eq e f) p.1 in
    let x = eqb-true a b p.0 in
    let y = eqb-true c d q.0 in
    let z = eqb-true e f q.1 in
    omega arith

-- ---- the tests, step by step

abbrev pub is_apart_step : List ℕ → SetSign × SetForm → Bool
is_apart_step word s = is_apart_set word s.1

module _ (word : List ℕ) where
  pub first_apart : (s : SetTree) → is_apart_set word (term_of (out-SetTree s).first) ≡ true → all_steps (is_apart_step word) (map step_of (out-SetTree s).more.items) ≡ is_apart_set word (set_of s)
  first_apart s h = first_passes (is_apart_set word) (is_apart_step word) (λ s t. refl) (λ s t. refl) s h

  pub first_there : (s : SetTree) → is_apart_set word (term_of (out-SetTree s).first) ≡ false → is_apart_set word (set_of s) ≡ false
  first_there s h = first_refused (is_apart_set word) (is_apart_step word) (λ s t. refl) (λ s t. refl) s h

  pub further_apart : (more : List SetStep) (i : ℕ) (s : SetStep) → i < length more → s ≡ get_or more i s → is_apart_set word (term_of s.term) ≡ true → all_steps (is_apart_step word) (map step_of (drop (i + 1) more)) ≡ all_steps (is_apart_step word) (map step_of (drop i more))
  further_apart more i s below is h = step_passes (is_apart_step word) more i s below is (rw (step_of_parts s) h)

  pub further_there : (more : List SetStep) (i : ℕ) (s : SetStep) → i < length more → s ≡ get_or more i s → is_apart_set word (term_of s.term) ≡ false → all_steps (is_apart_step word) (map step_of (drop i more)) ≡ false
  further_there more i s below is h = step_refused (is_apart_step word) more i s below is (rw (step_of_parts s) h)

  pub all_apart_sets : (more : List SetStep) (i : ℕ) → length more ≤ i → all_steps (is_apart_step word) (map step_of (drop i more)) ≡ true
  all_apart_sets more i past = steps_pass (is_apart_step word) more i past

module _ {X D : Type 0} (word : List ℕ) (view : D → Nest X) where
  pub apart_more : (ds : List D) (i : ℕ) (d : D) → i < length ds → d ≡ get_or ds i d → is_apart_nest word (view d) ≡ true → is_apart word (nests (map view (drop (i + 1) ds))) ≡ is_apart word (nests (map view (drop i ds)))
  apart_more ds i d below is h = sym (rw (drop_more ds i d below, ← is, h) refl)

  pub apart_stops : (ds : List D) (i : ℕ) (d : D) → i < length ds → d ≡ get_or ds i d → is_apart_nest word (view d) ≡ false → is_apart word (nests (map view (drop i ds))) ≡ false
  apart_stops ds i d below is h = rw (drop_more ds i d below, ← is, h) refl

  pub apart_done : (ds : List D) (i : ℕ) → length ds ≤ i → is_apart word (nests (map view (drop i ds))) ≡ true
  apart_done ds i past = rw (drop_all i ds past) refl
