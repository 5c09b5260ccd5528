-- Declarations with marks declare what they declare without, and tell an origin for each rule.
use Rattle.std.proofs.Common.{◌≡◌, ℕ, ◌+◌, ◌<◌, ◌≤◌, List, [], ◌∷◌, ◌++◌, length, map, drop, get_or, refl}
use Rattle.std.proofs.Common.{sym, ap}
use Rattle.std.proofs.Common.{subst, ◌∙◌, Bool, true, false, ◌&&◌, ◌||◌, Result, Ok, Err, arith}
use Rattle.std.proofs.Common.{cond}
use Rattle.std.specs.Prelude.{All, is_some}
use Rattle.std.proofs.lemmas.List.{append-nil, drop-drop, drop_more, drop_all, length-drop, length_push}
use Rattle.std.proofs.lemmas.List.Elements.{All-append, All-cons, All-drop, All-get_or, All-nil}
use Rattle.tv_tree.specs.Forms.{Nest, Single, Foreach, Nests, no_nest, with_nest, DeclForm, DSet, DPred}
use Rattle.tv_tree.specs.Forms.{DRule, ProgramForm}
use Rattle.tv_tree.specs.Copies.{decl_of, nests}
use Rattle.tv_tree.specs.declared.trees.Decl.{Decl}
use Rattle.tv_flat.specs.FlatForm.{FlatForm, nodes, pred_nodes}
use Rattle.tv_flat.specs.Replaced.{Binding, bound, flat_pred, flat_rule}
use Rattle.tv_expand.specs.declared.error.ExpandError.{ExpandError}
use Rattle.tv_expand.specs.Outcome.{◌>>=◌, each, FailsExpansion}
use Rattle.tv_expand.specs.declared.error.ExpandError.TheVariants.{NameTwice}
use Rattle.tv_expand.specs.Sets.{Sets, find_set, members_of}
use Rattle.tv_expand.specs.Idle.{declared_count, is_apart, is_apart_nest, is_apart_set, is_declared_set}
use Rattle.tv_expand.specs.Idle.{is_empty_set, is_idle, is_idle_nest}
use Rattle.tv_expand.specs.Expansion.{Declared, all_declared, counted, declared, flat_form_of, limits}
use Rattle.tv_expand.specs.Expansion.{nothing_declared, nothing_wired, sets_in, unrolled_nest, wired}
use Rattle.tv_expand.specs.Expansion.{with_action}
use Rattle.tv_expand.specs.Expansion.{with_pred, with_rule, with_set}
use Rattle.tv_expand.specs.Origins.{EachRuleHasOrigin, Noted, all_noted, marked, marked_nest, declared_from}
use Rattle.tv_expand.specs.Origins.{nothing_noted}
use Rattle.tv_expand.specs.Origins.{own_origins, rule_origins, sets_noted, written, written_in, written_once}
use Rattle.tv_expand.proofs.ApartLaws.{declared_grows}
use Rattle.tv_expand.proofs.KeepLaws.{bind_ok}
use Rattle.tv_expand.proofs.SetLaws.{fails_then}

-- ---- what is tested of declarations is so with marks

mutual
  pub idle_marked : (sets : Sets) (marks : List ℕ) (d : Nest DeclForm)
      → is_idle_nest sets (marked_nest marks d) ≡ is_idle_nest sets d
  idle_marked sets marks (Single d) = refl
  idle_marked sets marks (Foreach var members body) =
      ap (λ it. is_empty_set sets members || (is_declared_set sets members && it)) (all_idle_marked sets marks body)

  all_idle_marked : (sets : Sets) (marks : List ℕ) (ds : Nests DeclForm)
      → is_idle sets (marked marks ds) ≡ is_idle sets ds
  all_idle_marked sets marks no_nest = refl
  all_idle_marked sets marks (with_nest d ds) =
      rw (idle_marked sets marks d, all_idle_marked sets (drop (written_in d) marks) ds) refl

mutual
  nest_apart_marked : (word : List ℕ) (marks : List ℕ) (d : Nest DeclForm)
      → is_apart_nest word (marked_nest marks d) ≡ is_apart_nest word d
  nest_apart_marked word marks (Single d) = refl
  nest_apart_marked word marks (Foreach var members body) =
      ap (λ it. is_apart_set word members && it) (apart_marked word marks body)

  pub apart_marked : (word : List ℕ) (marks : List ℕ) (ds : Nests DeclForm)
      → is_apart word (marked marks ds) ≡ is_apart word ds
  apart_marked word marks no_nest = refl
  apart_marked word marks (with_nest d ds) =
      rw (nest_apart_marked word marks d, apart_marked word (drop (written_in d) marks) ds) refl

-- ---- how much is declared

abbrev pub noted_count : Noted → ℕ
noted_count s = declared_count s.declared

pub noted_grows : (b : Binding) (x : List ℕ × DeclForm) (s t : Noted) → declared_from b x s ≡ Ok t
    → noted_count s < noted_count t
noted_grows b x s t h =
    let made = bind_ok (declared b x.1 s.declared)
    (λ it. Ok (record { declared = it; origins = s.origins ++ own_origins x.0 x.1 })) t h in
    let same : made.0 ≡ t.declared = cc (made.2) in
    subst (λ (d : Declared). declared_count s.declared < declared_count d) same
    (declared_grows b x.1 s.declared made.0 made.1)

-- ---- one declaration more

pub marked_more : (ds : List Decl) (i : ℕ) (d : Decl) (marks : List ℕ) (b : Binding) (s t : Noted) → i < length ds
    → d ≡ get_or ds i d → unrolled_nest sets_noted declared_from b (marked_nest marks (decl_of d)) s ≡ Ok t
    → all_noted b (marked (drop (written_in (decl_of d)) marks) (nests (map decl_of (drop (i + 1) ds)))) t
    ≡ all_noted b (marked marks (nests (map decl_of (drop i ds)))) s
marked_more ds i d marks b s t below is goes = sym (rw (drop_more ds i d below, ← is, goes) refl)

pub marked_fails : (ds : List Decl) (i : ℕ) (d : Decl) (marks : List ℕ) (b : Binding) (s : Noted) (e : ExpandError)
    → i < length ds → d ≡ get_or ds i d
    → FailsExpansion e (unrolled_nest sets_noted declared_from b (marked_nest marks (decl_of d)) s)
    → FailsExpansion e (all_noted b (marked marks (nests (map decl_of (drop i ds)))) s)
marked_fails ds i d marks b s e below is h =
    rw (drop_more ds i d below, ← is)
    (fails_then e (unrolled_nest sets_noted declared_from b (marked_nest marks (decl_of d)) s)
    (all_noted b (marked (drop (written_in (decl_of d)) marks) (nests (map decl_of (drop (i + 1) ds))))) h)

pub marked_done : (ds : List Decl) (i : ℕ) (marks : List ℕ) (b : Binding) (s : Noted) → length ds ≤ i
    → all_noted b (marked marks (nests (map decl_of (drop i ds)))) s ≡ Ok s
marked_done ds i marks b s past = rw (drop_all i ds past) refl

-- ---- the marks behind declarations

pub behind_more : (ds : List Decl) (i : ℕ) (d : Decl) (marks : List ℕ) → i < length ds → d ≡ get_or ds i d
    → drop (written (nests (map decl_of (drop (i + 1) ds)))) (drop (written_in (decl_of d)) marks)
    ≡ drop (written (nests (map decl_of (drop i ds)))) marks
behind_more ds i d marks below is =
    rw (drop_more ds i d below, ← is)
    (drop-drop (written (nests (map decl_of (drop (i + 1) ds)))) (written_in (decl_of d)) marks)

pub behind_done : (ds : List Decl) (i : ℕ) (marks : List ℕ) → length ds ≤ i
    → drop (written (nests (map decl_of (drop i ds)))) marks ≡ marks
behind_done ds i marks past = rw (drop_all i ds past) refl

-- ---- what is declared without marks

-- what a step with marks declares
abbrev pub declared_by : Result Noted ExpandError → Result Declared ExpandError
declared_by out = out >>= λ s. Ok s.declared

single_forgets : (b : Binding) (marks : List ℕ) (d : DeclForm) (s : Noted)
    → declared_by (declared_from b (marks, d) s) ≡ declared b d s.declared
single_forgets b marks d s = by (declared b d s.declared)
  where
    by : (made : Result Declared ExpandError)
        → declared_by (made >>= λ it. Ok (record { declared = it; origins = s.origins ++ own_origins marks d })) ≡ made
    by (Ok it) = refl
    by (Err e) = refl

-- two ways on from what was declared that agree
then_forgets : (out : Result Noted ExpandError) (next : Noted → Result Noted ExpandError)
    (plain : Declared → Result Declared ExpandError) → ((t : Noted) → declared_by (next t) ≡ plain t.declared)
    → declared_by (out >>= next) ≡ (declared_by out >>= plain)
then_forgets (Ok t) next plain agree = agree t
then_forgets (Err e) next plain agree = refl

found_forgets : (found : Result (List (List ℕ)) ExpandError) (next : List (List ℕ) → Result Noted ExpandError)
    (plain : List (List ℕ) → Result Declared ExpandError) → ((xs : List (List ℕ)) → declared_by (next xs) ≡ plain xs)
    → declared_by (found >>= next) ≡ (found >>= plain)
found_forgets (Ok xs) next plain agree = agree xs
found_forgets (Err e) next plain agree = refl

each_forgets : {X : Type 0} (step : X → Noted → Result Noted ExpandError)
    (plain : X → Declared → Result Declared ExpandError)
    → ((x : X) (s : Noted) → declared_by (step x s) ≡ plain x s.declared) → (xs : List X) (s : Noted)
    → declared_by (each step xs s) ≡ each plain xs s.declared
each_forgets step plain one [] s = refl
each_forgets step plain one (x ∷ xs) s =
    then_forgets (step x s) (each step xs) (each plain xs) (λ t. each_forgets step plain one xs t)
    ∙ ap (λ (out : Result Declared ExpandError). out >>= each plain xs) (one x s)

mutual
  nest_forgets : (b : Binding) (marks : List ℕ) (d : Nest DeclForm) (s : Noted)
      → declared_by (unrolled_nest sets_noted declared_from b (marked_nest marks d) s)
      ≡ unrolled_nest sets_in declared b d s.declared
  nest_forgets b marks (Single d) s = single_forgets b marks d s
  nest_forgets b marks (Foreach var members body) s =
      found_forgets (members_of s.declared.sets b members)
      (λ xs. each (λ x. all_noted (bound b var x) (marked marks body)) xs s)
      (λ xs. each (λ x. all_declared (bound b var x) body) xs s.declared)
      (λ xs. each_forgets (λ x. all_noted (bound b var x) (marked marks body)) (λ x. all_declared (bound b var x) body)
      (λ x t. nests_forget (bound b var x) marks body t) xs s)

  pub nests_forget : (b : Binding) (marks : List ℕ) (ds : Nests DeclForm) (s : Noted)
      → declared_by (all_noted b (marked marks ds) s) ≡ all_declared b ds s.declared
  nests_forget b marks no_nest s = refl
  nests_forget b marks (with_nest d ds) s =
      then_forgets (unrolled_nest sets_noted declared_from b (marked_nest marks d) s)
      (all_noted b (marked (drop (written_in d) marks) ds))
      (all_declared b ds) (λ t. nests_forget b (drop (written_in d) marks) ds t)
      ∙ ap (λ (out : Result Declared ExpandError). out >>= all_declared b ds) (nest_forgets b marks d s)

pub declared_so : (marks : List ℕ) (ds : Nests DeclForm) (s : Noted)
    → all_noted [] (marked marks ds) nothing_noted ≡ Ok s → all_declared [] ds (nothing_declared limits) ≡ Ok s.declared
declared_so marks ds s h = sym (nests_forget [] marks ds nothing_noted) ∙ ap declared_by h

pub declared_fails : (e : ExpandError) (marks : List ℕ) (ds : Nests DeclForm)
    → FailsExpansion e (all_noted [] (marked marks ds) nothing_noted)
    → FailsExpansion e (all_declared [] ds (nothing_declared limits))
declared_fails e marks ds h =
    subst (λ (out : Result Declared ExpandError). FailsExpansion e out) (nests_forget [] marks ds nothing_noted)
    (fails_then e (all_noted [] (marked marks ds) nothing_noted) (λ s. Ok s.declared) h)

-- ---- as many origins as rules

abbrev IsEven : Noted → Type 0
IsEven s = length s.origins ≡ length s.declared.rules

single_even : (b : Binding) (d : List ℕ × DeclForm) (s t : Noted) → declared_from b d s ≡ Ok t → IsEven s → IsEven t
single_even b (marks, DSet name members) s t h even = by (is_some (find_set s.declared.sets name)) h
  where
    by : (seen : Bool) → ((cond {A = Result Declared ExpandError} seen (Err NameTwice)
        (members_of s.declared.sets b members >>= λ xs. Ok (with_set s.declared name xs)))
        >>= λ made. Ok (record { declared = made; origins = s.origins ++ [] })) ≡ Ok t → IsEven t
    by true k = cc
    by false k =
        let made = bind_ok (members_of s.declared.sets b members >>= λ xs. Ok (with_set s.declared name xs))
        (λ it. Ok (record { declared = it; origins = s.origins ++ [] })) t k in
        let found = bind_ok (members_of s.declared.sets b members)
        (λ xs. Ok (with_set s.declared name xs)) made.0 made.1 in
        let same : s.origins ++ [] ≡ t.origins = cc (made.2) in
        let declared : made.0 ≡ t.declared = cc (made.2) in
        let rules : with_set s.declared name found.0 ≡ made.0 = cc (found.2) in
        sym (ap length same) ∙ (ap length (append-nil s.origins)
        ∙ (even ∙ ap (λ (d : Declared). length d.rules) (rules ∙ declared)))
single_even b (marks, DPred p) s t h even =
    let made = bind_ok (counted (pred_nodes p) s.declared.room >>= λ room. Ok
    (with_pred s.declared (flat_pred b p) room))
    (λ it. Ok (record { declared = it; origins = s.origins ++ [] })) t h in
    let got = bind_ok (counted (pred_nodes p) s.declared.room)
    (λ room. Ok (with_pred s.declared (flat_pred b p) room)) made.0 made.1 in
    let same : s.origins ++ [] ≡ t.origins = cc (made.2) in
    let declared : made.0 ≡ t.declared = cc (made.2) in
    let rules : with_pred s.declared (flat_pred b p) got.0 ≡ made.0 = cc (got.2) in
    sym (ap length same) ∙ (ap length (append-nil s.origins)
    ∙ (even ∙ ap (λ (d : Declared). length d.rules) (rules ∙ declared)))
single_even b (marks, DRule f g) s t h even =
    let made = bind_ok (counted (nodes f + nodes g) s.declared.room >>= λ room. Ok
    (with_rule s.declared (flat_rule b f g) room))
    (λ it. Ok (record { declared = it; origins = s.origins ++ get_or marks 0 0 ∷ [] })) t h in
    let got = bind_ok (counted (nodes f + nodes g) s.declared.room)
    (λ room. Ok (with_rule s.declared (flat_rule b f g) room)) made.0 made.1 in
    let same : s.origins ++ get_or marks 0 0 ∷ [] ≡ t.origins = cc (made.2) in
    let declared : made.0 ≡ t.declared = cc (made.2) in
    let rules : with_rule s.declared (flat_rule b f g) got.0 ≡ made.0 = cc (got.2) in
    let long = length_push s.origins (get_or marks 0 0) in
    let more = length_push s.declared.rules (flat_rule b f g) in
    let there : length t.origins ≡ length (s.origins ++ get_or marks 0 0 ∷ []) = sym (ap length same) in
    let behind : length (with_rule s.declared (flat_rule b f g) got.0).rules ≡ length t.declared.rules
    = ap (λ (d : Declared). length d.rules) (rules ∙ declared) in
    omega (arith, there, long, even, more, behind)

each_even : {X : Type 0} (step : X → Noted → Result Noted ExpandError)
    → ((x : X) (s t : Noted) → step x s ≡ Ok t → IsEven s → IsEven t) → (xs : List X) (s t : Noted)
    → each step xs s ≡ Ok t → IsEven s → IsEven t
each_even step one [] s t h even = let same : s ≡ t = cc in subst IsEven same even
each_even step one (x ∷ xs) s t h even =
    let first = bind_ok (step x s) (each step xs) t h in
    each_even step one xs first.0 t first.2 (one x s first.0 first.1 even)

mutual
  nest_even : (b : Binding) (d : Nest (List ℕ × DeclForm)) (s t : Noted)
      → unrolled_nest sets_noted declared_from b d s ≡ Ok t
      → IsEven s → IsEven t
  nest_even b (Single d) s t h even = single_even b d s t h even
  nest_even b (Foreach var members body) s t h even =
      let found = bind_ok (members_of s.declared.sets b members)
      (λ xs. each (λ x. all_noted (bound b var x) body) xs s) t h in
      each_even (λ x. all_noted (bound b var x) body)
      (λ x r q k e. nests_even (bound b var x) body r q k e) found.0 s t found.2 even

  nests_even : (b : Binding) (ds : Nests (List ℕ × DeclForm)) (s t : Noted) → all_noted b ds s ≡ Ok t
      → IsEven s → IsEven t
  nests_even b no_nest s t h even = let same : s ≡ t = cc in subst IsEven same even
  nests_even b (with_nest d ds) s t h even =
      let first = bind_ok (unrolled_nest sets_noted declared_from b d s) (all_noted b ds) t h in
      nests_even b ds first.0 t first.2 (nest_even b d s first.0 first.1 even)

-- where all is declared without marks, it is with marks
noted_there : (out : Result Noted ExpandError) (d : Declared) → declared_by out ≡ Ok d
    → (s : Noted) × (out ≡ Ok s) × (s.declared ≡ d)
noted_there (Ok s) d h = (s, refl, cc)
noted_there (Err e) d h = cc

abbrev told : Result Noted ExpandError → Result (List ℕ) ExpandError
told out = out >>= λ s. Ok s.origins

pub rules_have_origins : EachRuleHasOrigin
rules_have_origins = λ marks t f expands.
    let first = bind_ok (all_declared [] t.decls (nothing_declared limits))
    (λ d. each with_action t.actions [] >>= λ actions.
    each (wired d.sets actions) t.edges (nothing_wired d.room) >>= λ w. Ok (flat_form_of d w)) f expands in
    let second = bind_ok (each with_action t.actions []) (λ actions.
    each (wired first.0.sets actions) t.edges (nothing_wired first.0.room) >>= λ w. Ok
    (flat_form_of first.0 w)) f first.2 in
    let third = bind_ok (each (wired first.0.sets second.0) t.edges (nothing_wired first.0.room))
    (λ w. Ok (flat_form_of first.0 w)) f second.2 in
    let flat : first.0.rules ≡ f.rules = cc (third.2) in
    let out = all_noted [] (marked marks t.decls) nothing_noted in
    let there = noted_there out first.0 (nests_forget [] marks t.decls nothing_noted ∙ first.1) in
    let even = nests_even [] (marked marks t.decls) nothing_noted there.0 there.1 refl in (
      there.0.origins,
      ap told there.1,
      even ∙ (ap (λ (d : Declared). length d.rules) there.2 ∙ ap length flat),
    )

-- ---- origins are marks, where there are enough

own_marks : (P : ℕ → Type 0) (marks : List ℕ) (d : DeclForm) → written_once d ≤ length marks → All P marks
    → All P (own_origins marks d)
own_marks P marks (DSet name members) enough all = All-nil P
own_marks P marks (DPred p) enough all = All-nil P
own_marks P marks (DRule f g) enough all =
    All-cons P (get_or marks 0 0) [] (All-get_or P marks 0 0 (omega (arith, enough)) all) (All-nil P)

each_among : {X : Type 0} (P : ℕ → Type 0) (step : X → Noted → Result Noted ExpandError)
    → ((x : X) (s t : Noted) → step x s ≡ Ok t → All P s.origins → All P t.origins) → (xs : List X) (s t : Noted)
    → each step xs s ≡ Ok t → All P s.origins → All P t.origins
each_among P step one [] s t h all = let same : s ≡ t = cc in subst (λ (n : Noted). All P n.origins) same all
each_among P step one (x ∷ xs) s t h all =
    let first = bind_ok (step x s) (each step xs) t h in
    each_among P step one xs first.0 t first.2 (one x s first.0 first.1 all)

mutual
  nest_among : (P : ℕ → Type 0) (b : Binding) (marks : List ℕ) (d : Nest DeclForm) (s t : Noted)
      → written_in d ≤ length marks → All P marks → unrolled_nest sets_noted declared_from b
      (marked_nest marks d) s ≡ Ok t
      → All P s.origins → All P t.origins
  nest_among P b marks (Single d) s t enough marked_all h all =
      let made = bind_ok (declared b d s.declared)
      (λ it. Ok (record { declared = it; origins = s.origins ++ own_origins marks d })) t h in
      let same : s.origins ++ own_origins marks d ≡ t.origins = cc (made.2) in
      subst (All P) same (All-append P s.origins (own_origins marks d) all (own_marks P marks d enough marked_all))
  nest_among P b marks (Foreach var members body) s t enough marked_all h all =
      let found = bind_ok (members_of s.declared.sets b members)
      (λ xs. each (λ x. all_noted (bound b var x) (marked marks body)) xs s) t h in
      each_among P (λ x. all_noted (bound b var x) (marked marks body))
      (λ x r q k e. nests_among P (bound b var x) marks body r q enough marked_all k e) found.0 s t found.2 all

  pub nests_among : (P : ℕ → Type 0) (b : Binding) (marks : List ℕ) (ds : Nests DeclForm) (s t : Noted)
      → written ds ≤ length marks → All P marks → all_noted b (marked marks ds) s ≡ Ok t
      → All P s.origins → All P t.origins
  nests_among P b marks no_nest s t enough marked_all h all =
      let same : s ≡ t = cc in subst (λ (n : Noted). All P n.origins) same all
  nests_among P b marks (with_nest d ds) s t enough marked_all h all =
      let first = bind_ok (unrolled_nest sets_noted declared_from b (marked_nest marks d) s)
      (all_noted b (marked (drop (written_in d) marks) ds)) t h in
      nests_among P b (drop (written_in d) marks) ds first.0 t (omega (arith, enough, length-drop (written_in d) marks))
      (All-drop P (written_in d) marks marked_all) first.2
      (nest_among P b marks d s first.0 (omega (arith, enough)) marked_all first.1 all)

pub origins_among : (P : ℕ → Type 0) (marks : List ℕ) (t : ProgramForm) (origins : List ℕ)
    → rule_origins marks t ≡ Ok origins → written t.decls ≤ length marks → All P marks → All P origins
origins_among P marks t origins h enough all =
    let made = bind_ok (all_noted [] (marked marks t.decls) nothing_noted) (λ s. Ok s.origins) origins h in
    let same : made.0.origins ≡ origins = cc (made.2) in
    subst (All P) same (nests_among P [] marks t.decls nothing_noted made.0 enough all made.1 (All-nil P))
