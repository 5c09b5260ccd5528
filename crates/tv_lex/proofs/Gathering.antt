-- Steps of gathering a text.
use Rattle.std.proofs.Common.{◌≡◌, ℕ, zero, suc, ◌+◌, ◌-◌, ◌<◌, ◌≤◌, List, [], ◌∷◌, ◌++◌, Option, Some, None}
use Rattle.std.proofs.Common.{Result, Ok, Err, Bool, false, nat_lt, eqb, is_some, length, take, drop, min, ap}
use Rattle.std.proofs.Common.{sym}
use Rattle.std.proofs.Common.{refl, ◌∙◌, subst, inl, inr, zero-add, arith, append_assoc, length-append}
use Rattle.std.specs.List.{prefix_len}
use Rattle.std.proofs.lemmas.Bool.{cases_Bool, cond-true, cond-false, lt-ltb, le-ltb, eqb-true, not_from_true}
use Rattle.std.proofs.lemmas.Bool.{not_from_false}
use Rattle.std.proofs.lemmas.List.{append-nil}
use Rattle.tv_outside.specs.Told.{Held, content_of, HoldsName, IsContent}
use Rattle.tv_outside.specs.Count.{count_max, counted}
use Rattle.tv_outside.specs.Outcome.{ReadCause}
use Rattle.tv_outside.specs.declared.read.ReadError.{ReadError}
use Rattle.tv_outside.specs.declared.read.ReadError.TheVariants.{Failed as ReadFailed, TooLong as ReadTooLong}
use Rattle.tv_outside.specs.declared.read.ReadError.TheVariants.{Memory as ReadMemory}
use Rattle.tv_lex.specs.Bytes.{stays_on_line}
use Rattle.tv_lex.specs.Include.{lines_of, onto, include_name, inner_name}
use Rattle.tv_lex.specs.Gather.{longest_gathered, deepest_include, Event, Begin, Give, Refuse, come_to}
use Rattle.tv_lex.specs.Gather.{BeginsBy, BeginsAtMost, BeginsUpTo, gathered, GivesBytes}
use Rattle.tv_lex.specs.Gather.{Puts, PutCause, Gathers, GatherCause}
use Rattle.tv_lex.specs.Gather.{file_events, content_events, line_events, one_line, opens, named_events}
use Rattle.tv_lex.specs.Gather.{included, below, gather_error}
use Rattle.tv_lex.proofs.Begins.{begins_at_most, begins_within, counted-counted, counted-le, counted-more}
use Rattle.tv_lex.specs.declared.gatherer.GatherError.{GatherError}
use Rattle.tv_lex.specs.declared.gatherer.GatherError.TheVariants.{Failed, TooLong, Unended, IncludeForm}
use Rattle.tv_lex.specs.declared.gatherer.GatherError.TheVariants.{IncludeDepth, Memory}

pub gives_bytes : (old bytes new : List ℕ) → new ≡ old ++ bytes → length old + length bytes ≤ longest_gathered → GivesBytes old bytes (Ok new)
gives_bytes old bytes new e fits after =
    let len : length (old ++ bytes) ≡ length old + length bytes = length-append old bytes in
    cond-false _ (Err TooLong) (gathered (old ++ bytes) after) (le-ltb longest_gathered (length (old ++ bytes)) (omega arith)) ∙ ap (λ text. gathered text after) (sym e)

pub gives_too_long : (old bytes : List ℕ) → longest_gathered < length old + length bytes → GivesBytes old bytes (Err TooLong)
gives_too_long old bytes long after =
    let len : length (old ++ bytes) ≡ length old + length bytes = length-append old bytes in
    cond-true _ (Err TooLong) (gathered (old ++ bytes) after) (lt-ltb longest_gathered (length (old ++ bytes)) (omega arith))

-- ---- causes

pub cause_within : (e : GatherError) (told : Option Held) (inner outer : Held → List Event) (mid old : List ℕ) (steady_mid steady : Type 0) (before between now : ℕ) → PutCause e told inner mid steady_mid between now → (steady → steady_mid) → before ≤ between → ((fault : GatherError) → Puts told inner mid (Err fault) → Puts told outer old (Err fault)) → PutCause e told outer old steady before now
cause_within Failed told inner outer mid old steady_mid steady before between now cause stays le step = ((λ fresh. let rose : between < now = cause.0 fresh in omega arith), λ s. step Failed (cause.1 (stays s)))
cause_within TooLong told inner outer mid old steady_mid steady before between now cause stays le step = step TooLong cause
cause_within Unended told inner outer mid old steady_mid steady before between now cause stays le step = step Unended cause
cause_within IncludeForm told inner outer mid old steady_mid steady before between now cause stays le step = step IncludeForm cause
cause_within IncludeDepth told inner outer mid old steady_mid steady before between now cause stays le step = step IncludeDepth cause
cause_within Memory told inner outer mid old steady_mid steady before between now cause stays le step = tt

-- ---- one line

-- ---- one include

pub include_form : (told : Option Held) (name line old : List ℕ) (left : ℕ) → include_name line ≡ None → Puts told (λ held. included (below held left) name line) old (Err IncludeForm)
include_form None name line old left is = tt
include_form (Some held) name line old left is = λ after. ap (λ o. gathered old (named_events (below held left) name o ++ after)) is

below-positive : (held : Held) (left : ℕ) (inner : List ℕ) → 0 < left → below held left inner ≡ file_events held (left - 1) inner
below-positive held zero inner h = absurd (omega arith)
below-positive held (suc left) inner h = let e : left ≡ suc left - 1 = omega arith in ap (λ n. file_events held n inner) e

-- an include line gives what the named file gives, and a line feed
include_events : (held : Held) (name line old written inner : List ℕ) (left : ℕ) (after : List Event) → include_name line ≡ Some written → 0 < left → inner ≡ inner_name name written → gathered old (included (below held left) name line ++ after) ≡ gathered old (file_events held (left - 1) inner ++ (Give (10 ∷ []) ∷ after))
include_events held name line old written inner left after is some named =
    ap (λ o. gathered old (named_events (below held left) name o ++ after)) is
    ∙ ap (gathered old) (append_assoc (below held left (inner_name name written)) (Give (10 ∷ []) ∷ []) after)
    ∙ ap (λ n. gathered old (below held left n ++ (Give (10 ∷ []) ∷ after))) (sym named)
    ∙ ap (λ es. gathered old (es ++ (Give (10 ∷ []) ∷ after))) (below-positive held left inner some)

pub include_put : (told : Option Held) (name line old mid written inner : List ℕ) (left : ℕ) (r : Result (List ℕ) GatherError) → include_name line ≡ Some written → 0 < left → inner ≡ inner_name name written → Puts told (λ held. file_events held (left - 1) inner) old (Ok mid) → GivesBytes mid (10 ∷ []) r → Puts told (λ held. included (below held left) name line) old r
include_put None name line old mid written inner left r is some named puts gives = tt
include_put (Some held) name line old mid written inner left r is some named puts gives = λ after.
    include_events held name line old written inner left after is some named ∙ puts (Give (10 ∷ []) ∷ after) ∙ gives after

pub include_refused : (told : Option Held) (name line old written inner : List ℕ) (left : ℕ) (fault : GatherError) → include_name line ≡ Some written → 0 < left → inner ≡ inner_name name written → Puts told (λ held. file_events held (left - 1) inner) old (Err fault) → Puts told (λ held. included (below held left) name line) old (Err fault)
include_refused None name line old written inner left fault is some named puts = tt
include_refused (Some held) name line old written inner left fault is some named puts = λ after.
    include_events held name line old written inner left after is some named ∙ puts (Give (10 ∷ []) ∷ after)

-- ---- one file

file_events-is : (held : Held) (left : ℕ) (name : List ℕ) → file_events held left name ≡ Begin ∷ content_events (included (below held left) name) (content_of held name)
unfolding file_events
file_events-is held zero name = refl
file_events-is held (suc left) name = refl

missing : (held : Held) (left : ℕ) (name old : List ℕ) (content : Option (List ℕ)) → content_of held name ≡ content → (content ≡ None) → (after : List Event) → gathered old (file_events held left name ++ after) ≡ Err Failed
missing held left name old content is none after = ap (λ es. gathered old (es ++ after)) (file_events-is held left name ∙ ap (λ o. Begin ∷ content_events (included (below held left) name) o) (is ∙ none))

pub read_cause : (e : ReadError) (told : Option Held) (name old : List ℕ) (left : ℕ) (steady : Type 0) (before now : ℕ) → ReadCause e told name longest_gathered steady before now → PutCause (gather_error e) told (λ held. file_events held left name) old steady before now
read_cause ReadFailed told name old left steady before now cause = (cause.0, λ s. not_held told (cause.1 s))
  where
    not_held : (told : Option Held) → ¬ HoldsName told name → Puts told (λ held. file_events held left name) old (Err Failed)
    not_held None never = tt
    not_held (Some held) never = λ after. go held (content_of held name) refl never after
      where
        go : (held : Held) (content : Option (List ℕ)) → content_of held name ≡ content → ¬ HoldsName (Some held) name → (after : List Event) → gathered old (file_events held left name ++ after) ≡ Err Failed
        go held None is never after = missing held left name old None is refl after
        go held (Some content) is never after = absurd (never (ap (λ (o : Option (List ℕ)). is_some o) is))
read_cause ReadTooLong None name old left steady before now cause = tt
read_cause ReadTooLong (Some held) name old left steady before now cause = λ after.
    ap (λ es. gathered old (es ++ after)) (file_events-is held left name ∙ ap (λ es. Begin ∷ es) (ap (content_events (included (below held left) name)) cause.1 ∙ cond-true _ (Refuse TooLong ∷ []) (line_events (included (below held left) name) false (lines_of cause.0)) (lt-ltb longest_gathered (length cause.0) cause.2)))
read_cause ReadMemory told name old left steady before now cause = tt

-- a file that is short enough gives what its lines give
file_events-content : (held : Held) (left : ℕ) (name content : List ℕ) → content_of held name ≡ Some content → length content ≤ longest_gathered → file_events held left name ≡ Begin ∷ line_events (included (below held left) name) false (lines_of content)
file_events-content held left name content is fits =
    file_events-is held left name
    ∙ ap (λ es. Begin ∷ es) (ap (content_events (included (below held left) name)) is ∙ cond-false _ (Refuse TooLong ∷ []) (line_events (included (below held left) name) false (lines_of content)) (le-ltb longest_gathered (length content) fits))

-- the file up to a place gave this text, and these lines are left
abbrev pub Putting : Option Held → List ℕ → ℕ → List ℕ → Bool → List ℕ → List ℕ → Type 0
Putting None name left old inside rest out = Unit {0}
Putting (Some held) name left old inside rest out = (after : List Event) → gathered old (file_events held left name ++ after) ≡ gathered out (line_events (included (below held left) name) inside (lines_of rest) ++ after)

pub putting_start : (told : Option Held) (name old content : List ℕ) (left : ℕ) → IsContent told name content → length content ≤ longest_gathered → Putting told name left old false content old
putting_start None name old content left is fits = tt
putting_start (Some held) name old content left is fits = λ after.
    ap (λ es. gathered old (es ++ after)) (file_events-content held left name content is fits)

-- the first line, and the others
first_line : (b : ℕ) (xs : List ℕ) (n : ℕ) → n ≡ min (prefix_len stays_on_line (b ∷ xs) + 1) (length (b ∷ xs)) → lines_of (b ∷ xs) ≡ take n (b ∷ xs) ∷ lines_of (drop n (b ∷ xs))
first_line b [] n is =
    let one : n ≡ 1 = min_one n (prefix_len stays_on_line (b ∷ [])) 0 is refl in
    subst (λ k. lines_of (b ∷ []) ≡ take k (b ∷ []) ∷ lines_of (drop k (b ∷ []))) (sym one) (elim (cases_Bool (eqb b 10)) [
      | inl e ↦ cond-true (eqb b 10) _ _ e ∙ ap (λ d. (d ∷ []) ∷ []) (sym (eqb-true b 10 e))
      | inr e ↦ cond-false (eqb b 10) _ _ e
    ])
  where
    min_one : (n m k : ℕ) → n ≡ min (m + 1) (suc k) → k ≡ 0 → n ≡ 1
    min_one n m k is none = omega arith
first_line b (c ∷ cs) n is = elim (cases_Bool (eqb b 10)) [
  | inl e ↦
      let none : prefix_len stays_on_line (b ∷ c ∷ cs) ≡ 0 = cond-false (stays_on_line b) _ _ (not_from_true _ e) in
      let one : n ≡ 1 = omega arith in
      subst (λ k. lines_of (b ∷ c ∷ cs) ≡ take k (b ∷ c ∷ cs) ∷ lines_of (drop k (b ∷ c ∷ cs))) (sym one) (cond-true (eqb b 10) _ _ e ∙ ap (λ d. (d ∷ []) ∷ lines_of (c ∷ cs)) (sym (eqb-true b 10 e)))
  | inr e ↦
      let more : prefix_len stays_on_line (b ∷ c ∷ cs) ≡ 1 + prefix_len stays_on_line (c ∷ cs) = cond-true (stays_on_line b) _ _ (not_from_false _ e) in
      let m = min (prefix_len stays_on_line (c ∷ cs) + 1) (length (c ∷ cs)) in
      let longer : n ≡ suc m = omega arith in
      let inner = first_line c cs m refl in
      subst (λ k. lines_of (b ∷ c ∷ cs) ≡ take k (b ∷ c ∷ cs) ∷ lines_of (drop k (b ∷ c ∷ cs))) (sym longer) (cond-false (eqb b 10) _ _ e ∙ ap (onto b) inner)
]

pub line_cut : (rest line behind : List ℕ) (n : ℕ) → 0 < length rest → n ≡ min (prefix_len stays_on_line rest + 1) (length rest) → line ≡ take n rest → behind ≡ drop n rest → lines_of rest ≡ line ∷ lines_of behind
line_cut [] line behind n some len is_line is_behind = absurd (omega arith)
line_cut (b ∷ xs) line behind n some len is_line is_behind = first_line b xs n len ∙ (λ i. sym is_line i ∷ lines_of (sym is_behind i))

-- the line at hand, and then those behind it
line_events-first : (held : Held) (name rest line behind out : List ℕ) (left : ℕ) (inside : Bool) (after : List Event) → lines_of rest ≡ line ∷ lines_of behind → gathered out (line_events (included (below held left) name) inside (lines_of rest) ++ after) ≡ gathered out (one_line (included (below held left) name) inside line ++ (line_events (included (below held left) name) (opens inside line) (lines_of behind) ++ after))
line_events-first held name rest line behind out left inside after cut =
    ap (λ ls. gathered out (line_events (included (below held left) name) inside ls ++ after)) cut
    ∙ ap (gathered out) (append_assoc (one_line (included (below held left) name) inside line) (line_events (included (below held left) name) (opens inside line) (lines_of behind)) after)

pub putting_more : (told : Option Held) (name old rest out line behind more : List ℕ) (left : ℕ) (inside next : Bool) → Putting told name left old inside rest out → lines_of rest ≡ line ∷ lines_of behind → next ≡ opens inside line → Puts told (λ held. one_line (included (below held left) name) inside line) out (Ok more) → Putting told name left old next behind more
putting_more None name old rest out line behind more left inside next putting cut is_next puts = tt
putting_more (Some held) name old rest out line behind more left inside next putting cut is_next puts = λ after.
    putting after ∙ line_events-first held name rest line behind out left inside after cut
    ∙ puts (line_events (included (below held left) name) (opens inside line) (lines_of behind) ++ after)
    ∙ ap (λ b. gathered more (line_events (included (below held left) name) b (lines_of behind) ++ after)) (sym is_next)

pub putting_refused : (told : Option Held) (name old rest out line behind : List ℕ) (left : ℕ) (inside : Bool) (fault : GatherError) → Putting told name left old inside rest out → lines_of rest ≡ line ∷ lines_of behind → Puts told (λ held. one_line (included (below held left) name) inside line) out (Err fault) → Puts told (λ held. file_events held left name) old (Err fault)
putting_refused None name old rest out line behind left inside fault putting cut puts = tt
putting_refused (Some held) name old rest out line behind left inside fault putting cut puts = λ after.
    putting after ∙ line_events-first held name rest line behind out left inside after cut
    ∙ puts (line_events (included (below held left) name) (opens inside line) (lines_of behind) ++ after)

pub line_cause : (e : GatherError) (told mid_told : Option Held) (name old rest out line behind : List ℕ) (left : ℕ) (inside : Bool) (steady_mid steady : Type 0) (before between now : ℕ) → mid_told ≡ told → Putting told name left old inside rest out → lines_of rest ≡ line ∷ lines_of behind → PutCause e mid_told (λ held. one_line (included (below held left) name) inside line) out steady_mid between now → (steady → steady_mid) → before ≤ between → PutCause e told (λ held. file_events held left name) old steady before now
line_cause e told mid_told name old rest out line behind left inside steady_mid steady before between now same putting cut cause stays le =
    cause_within e told (λ held. one_line (included (below held left) name) inside line) (λ held. file_events held left name) out old steady_mid steady before between now
    (subst (λ t. PutCause e t (λ held. one_line (included (below held left) name) inside line) out steady_mid between now) same cause) stays le
    (λ fault puts. putting_refused told name old rest out line behind left inside fault putting cut puts)

pub line_more : (told mid_told : Option Held) (name old rest out line behind more : List ℕ) (left : ℕ) (inside next : Bool) → mid_told ≡ told → Putting told name left old inside rest out → lines_of rest ≡ line ∷ lines_of behind → next ≡ opens inside line → Puts mid_told (λ held. one_line (included (below held left) name) inside line) out (Ok more) → Putting told name left old next behind more
line_more told mid_told name old rest out line behind more left inside next same putting cut is_next puts =
    putting_more told name old rest out line behind more left inside next putting cut is_next (subst (λ t. Puts t (λ held. one_line (included (below held left) name) inside line) out (Ok more)) same puts)

-- ---- how often files are come_to

-- what comes behind a text that is put goes on from it
come-behind : (old mid : List ℕ) (xs ys : List Event) → gathered old xs ≡ Ok mid → come_to old (xs ++ ys) ≡ come_to old xs + come_to mid ys
come-behind old mid [] ys e = let same : old ≡ mid = cc in ap (λ text. come_to text ys) same ∙ sym (zero-add (come_to mid ys))
come-behind old mid (Begin ∷ xs) ys e = let h : come_to old (xs ++ ys) ≡ come_to old xs + come_to mid ys = come-behind old mid xs ys e in omega arith
come-behind old mid (Refuse fault ∷ xs) ys e = absurd (let both : Err fault ≡ Ok mid = e in cc)
come-behind old mid (Give bytes ∷ xs) ys e =
    let long = nat_lt longest_gathered (length (old ++ bytes)) in
    elim (cases_Bool long) [
      | inl t ↦ absurd (let both : Err TooLong ≡ Ok mid = sym (cond-true long (Err TooLong) (gathered (old ++ bytes) xs) t) ∙ e in cc)
      | inr f ↦
          cond-false long 0 (come_to (old ++ bytes) (xs ++ ys)) f
          ∙ come-behind (old ++ bytes) mid xs ys (sym (cond-false long (Err TooLong) (gathered (old ++ bytes) xs) f) ∙ e)
          ∙ ap (λ n. n + come_to mid ys) (sym (cond-false long 0 (come_to (old ++ bytes) xs) f))
    ]

-- what comes behind a refusal isn't come to
come-until : (old : List ℕ) (xs ys : List Event) (fault : GatherError) → gathered old xs ≡ Err fault → come_to old (xs ++ ys) ≡ come_to old xs
come-until old [] ys fault e = absurd (let both : Ok old ≡ Err fault = e in cc)
come-until old (Begin ∷ xs) ys fault e = ap (λ n. 1 + n) (come-until old xs ys fault e)
come-until old (Refuse other ∷ xs) ys fault e = refl
come-until old (Give bytes ∷ xs) ys fault e =
    let long = nat_lt longest_gathered (length (old ++ bytes)) in
    elim (cases_Bool long) [
      | inl t ↦ cond-true long 0 (come_to (old ++ bytes) (xs ++ ys)) t ∙ sym (cond-true long 0 (come_to (old ++ bytes) xs) t)
      | inr f ↦
          cond-false long 0 (come_to (old ++ bytes) (xs ++ ys)) f
          ∙ come-until (old ++ bytes) xs ys fault (sym (cond-false long (Err TooLong) (gathered (old ++ bytes) xs) f) ∙ e)
          ∙ sym (cond-false long 0 (come_to (old ++ bytes) xs) f)
    ]

-- and no front comes to more than the whole
come-front : (old : List ℕ) (xs ys : List Event) → come_to old xs ≤ come_to old (xs ++ ys)
come-front old [] ys = omega arith
come-front old (Begin ∷ xs) ys = let h = come-front old xs ys in omega (arith, h)
come-front old (Refuse fault ∷ xs) ys = omega arith
come-front old (Give bytes ∷ xs) ys =
    let long = nat_lt longest_gathered (length (old ++ bytes)) in
    elim (cases_Bool long) [
      | inl t ↦ rewritten 0 _ _ _ (cond-true long 0 (come_to (old ++ bytes) xs) t) (cond-true long 0 (come_to (old ++ bytes) (xs ++ ys)) t) (omega arith)
      | inr f ↦ rewritten (come_to (old ++ bytes) xs) _ _ _ (cond-false long 0 (come_to (old ++ bytes) xs) f) (cond-false long 0 (come_to (old ++ bytes) (xs ++ ys)) f) (come-front (old ++ bytes) xs ys)
    ]
  where
    rewritten : (a b c d : ℕ) → c ≡ a → d ≡ b → a ≤ b → c ≤ d
    rewritten a b c d p q le = omega (arith, p, q, le)

come-bytes : (old bytes : List ℕ) → come_to old (Give bytes ∷ []) ≡ 0
come-bytes old bytes =
    let long = nat_lt longest_gathered (length (old ++ bytes)) in
    elim (cases_Bool long) [
      | inl t ↦ cond-true long 0 0 t
      | inr f ↦ cond-false long 0 0 f
    ]

-- what is put, alone
put_alone : (old : List ℕ) (xs : List Event) (r : Result (List ℕ) GatherError) → gathered old (xs ++ []) ≡ r → gathered old xs ≡ r
put_alone old xs r e = ap (gathered old) (sym (append-nil xs)) ∙ e

-- an exact count serves any answer
pub up_to : {T : Type 0} (r : Result T GatherError) (told : Option Held) (times : Held → ℕ) (old new : ℕ) → BeginsBy told times old new → BeginsUpTo r told times old new
up_to (Ok value) told times old new h = h
up_to (Err Failed) told times old new h = begins_at_most told times old new h
up_to (Err TooLong) told times old new h = h
up_to (Err Unended) told times old new h = h
up_to (Err IncludeForm) told times old new h = h
up_to (Err IncludeDepth) told times old new h = h
up_to (Err Memory) told times old new h = begins_at_most told times old new h

within : (told : Option Held) (text : List ℕ) (inner outer : Held → List Event) (old new : ℕ) → ((held : Held) → (behind : List Event) × (outer held ≡ inner held ++ behind)) → BeginsAtMost told (λ held. come_to text (inner held)) old new → BeginsAtMost told (λ held. come_to text (outer held)) old new
within told text inner outer old new split h =
    begins_within told (λ held. come_to text (inner held)) (λ held. come_to text (outer held)) old new
    (λ held. let s = split held in subst (λ es. come_to text (inner held) ≤ come_to text es) (sym s.1) (come-front text (inner held) s.0)) h

until : (fault : GatherError) (told : Option Held) (text : List ℕ) (inner outer : Held → List Event) (old new : ℕ) → Puts told inner text (Err fault) → ((held : Held) → (behind : List Event) × (outer held ≡ inner held ++ behind)) → BeginsBy told (λ held. come_to text (inner held)) old new → BeginsBy told (λ held. come_to text (outer held)) old new
until fault None text inner outer old new puts split h = tt
until fault (Some held) text inner outer old new puts split h = λ below_top.
    let s = split held in
    h below_top ∙ ap (counted old) (sym (ap (come_to text) s.1 ∙ come-until text (inner held) s.0 fault (put_alone text (inner held) (Err fault) (puts []))))

-- a fault in front of more events
pub front_begins : (T U : Type 0) (e : GatherError) (told : Option Held) (text : List ℕ) (inner outer : Held → List Event) (steady : Type 0) (before after old new : ℕ) → PutCause e told inner text steady before after → ((held : Held) → (behind : List Event) × (outer held ≡ inner held ++ behind)) → BeginsUpTo {T = T} (Err e) told (λ held. come_to text (inner held)) old new → BeginsUpTo {T = U} (Err e) told (λ held. come_to text (outer held)) old new
front_begins T U Failed told text inner outer steady before after old new cause split h = within told text inner outer old new split h
front_begins T U Memory told text inner outer steady before after old new cause split h = within told text inner outer old new split h
front_begins T U TooLong told text inner outer steady before after old new cause split h = until TooLong told text inner outer old new cause split h
front_begins T U Unended told text inner outer steady before after old new cause split h = until Unended told text inner outer old new cause split h
front_begins T U IncludeForm told text inner outer steady before after old new cause split h = until IncludeForm told text inner outer old new cause split h
front_begins T U IncludeDepth told text inner outer steady before after old new cause split h = until IncludeDepth told text inner outer old new cause split h

-- ---- an include line that begins files

-- what an include line gives: what the named file gives, and a line feed
pub include_is : (held : Held) (name line written inner : List ℕ) (left : ℕ) → include_name line ≡ Some written → 0 < left → inner ≡ inner_name name written → included (below held left) name line ≡ file_events held (left - 1) inner ++ (Give (10 ∷ []) ∷ [])
include_is held name line written inner left is some named =
    ap (named_events (below held left) name) is
    ∙ ap (λ n. below held left n ++ (Give (10 ∷ []) ∷ [])) (sym named)
    ∙ ap (λ es. es ++ (Give (10 ∷ []) ∷ [])) (below-positive held left inner some)

pub include_begins : (told : Option Held) (name line text mid written inner : List ℕ) (left old new : ℕ) → include_name line ≡ Some written → 0 < left → inner ≡ inner_name name written → Puts told (λ held. file_events held (left - 1) inner) text (Ok mid) → BeginsBy told (λ held. come_to text (file_events held (left - 1) inner)) old new → BeginsBy told (λ held. come_to text (included (below held left) name line)) old new
include_begins None name line text mid written inner left old new is some named puts h = tt
include_begins (Some held) name line text mid written inner left old new is some named puts h = λ below_top.
    let file = file_events held (left - 1) inner in
    let whole : come_to text (file ++ (Give (10 ∷ []) ∷ [])) ≡ come_to text file + come_to mid (Give (10 ∷ []) ∷ []) = come-behind text mid file (Give (10 ∷ []) ∷ []) (put_alone text file (Ok mid) (puts [])) in
    let feed : come_to mid (Give (10 ∷ []) ∷ []) ≡ 0 = come-bytes mid (10 ∷ []) in
    let all : come_to text (file ++ (Give (10 ∷ []) ∷ [])) ≡ come_to text file = summed _ _ _ whole feed in
    h below_top ∙ ap (counted old) (sym (ap (come_to text) (include_is held name line written inner left is some named) ∙ all))
  where
    summed : (a b c : ℕ) → a ≡ b + c → c ≡ 0 → a ≡ b
    summed a b c p q = omega (arith, p, q)

-- ---- the lines of a file

-- the lines that are left come to as many files as the count is to rise
abbrev pub Beginning : Option Held → List ℕ → ℕ → List ℕ → Bool → List ℕ → List ℕ → ℕ → ℕ → Type 0
Beginning None name left text inside rest out old now = Unit {0}
Beginning (Some held) name left text inside rest out old now = old ≤ count_max → (now ≤ count_max) × (counted now (come_to out (line_events (included (below held left) name) inside (lines_of rest))) ≡ counted old (come_to text (file_events held left name)))

pub beginning_start : (told : Option Held) (name content text : List ℕ) (left old now : ℕ) → IsContent told name content → length content ≤ longest_gathered → now ≡ counted old 1 → Beginning told name left text false content text old now
beginning_start None name content text left old now is fits one = tt
beginning_start (Some held) name content text left old now is fits one = λ below_top.
    let lines = line_events (included (below held left) name) false (lines_of content) in (
      subst (λ k. k ≤ count_max) (sym one) (counted-le old 1),
      ap (λ k. counted k (come_to text lines)) one ∙ counted-counted old 1 (come_to text lines) ∙ ap (λ es. counted old (come_to text es)) (sym (file_events-content held left name content is fits)),
    )

pub beginning_more : (told mid_told : Option Held) (name text rest line behind out more : List ℕ) (left : ℕ) (inside next : Bool) (old now later : ℕ) → mid_told ≡ told → Beginning told name left text inside rest out old now → lines_of rest ≡ line ∷ lines_of behind → next ≡ opens inside line → Puts mid_told (λ held. one_line (included (below held left) name) inside line) out (Ok more) → BeginsBy mid_told (λ held. come_to out (one_line (included (below held left) name) inside line)) now later → Beginning told name left text next behind more old later
beginning_more told mid_told name text rest line behind out more left inside next old now later same beginning cut is_next puts begins =
    go told beginning
    (subst (λ t. Puts t (λ held. one_line (included (below held left) name) inside line) out (Ok more)) same puts)
    (subst (λ t. BeginsBy t (λ held. come_to out (one_line (included (below held left) name) inside line)) now later) same begins)
  where
    go : (told : Option Held) → Beginning told name left text inside rest out old now → Puts told (λ held. one_line (included (below held left) name) inside line) out (Ok more) → BeginsBy told (λ held. come_to out (one_line (included (below held left) name) inside line)) now later → Beginning told name left text next behind more old later
    go None beginning puts begins = tt
    go (Some held) beginning puts begins = λ below_top.
        let here = beginning below_top in
        let first = one_line (included (below held left) name) inside line in
        let others = line_events (included (below held left) name) (opens inside line) (lines_of behind) in (
          subst (λ k. k ≤ count_max) (sym (begins here.0)) (counted-le now (come_to out first)),
          ap (λ b. counted later (come_to more (line_events (included (below held left) name) b (lines_of behind)))) is_next
              ∙ ap (λ k. counted k (come_to more others)) (begins here.0)
              ∙ counted-counted now (come_to out first) (come_to more others)
              ∙ ap (counted now) (sym (come-behind out more first others (put_alone out first (Ok more) (puts []))))
              ∙ ap (λ ls. counted now (come_to out (line_events (included (below held left) name) inside ls))) (sym cut)
              ∙ here.1,
        )

whole_exact : (told : Option Held) (name text rest out : List ℕ) (left : ℕ) (inside : Bool) (old now later : ℕ) → Beginning told name left text inside rest out old now → BeginsBy told (λ held. come_to out (line_events (included (below held left) name) inside (lines_of rest))) now later → BeginsBy told (λ held. come_to text (file_events held left name)) old later
whole_exact None name text rest out left inside old now later beginning h = tt
whole_exact (Some held) name text rest out left inside old now later beginning h = λ below_top. let here = beginning below_top in h here.0 ∙ here.1

whole_most : (told : Option Held) (name text rest out : List ℕ) (left : ℕ) (inside : Bool) (old now later : ℕ) → Beginning told name left text inside rest out old now → BeginsAtMost told (λ held. come_to out (line_events (included (below held left) name) inside (lines_of rest))) now later → BeginsAtMost told (λ held. come_to text (file_events held left name)) old later
whole_most None name text rest out left inside old now later beginning h = tt
whole_most (Some held) name text rest out left inside old now later beginning h = λ below_top. let here = beginning below_top in subst (λ k. later ≤ k) here.1 (h here.0)

-- what is said of the lines that are left, said of the whole file
pub whole_begins : {T : Type 0} (r : Result T GatherError) (told : Option Held) (name text rest out : List ℕ) (left : ℕ) (inside : Bool) (old now later : ℕ) → Beginning told name left text inside rest out old now → BeginsUpTo r told (λ held. come_to out (line_events (included (below held left) name) inside (lines_of rest))) now later → BeginsUpTo r told (λ held. come_to text (file_events held left name)) old later
whole_begins (Ok value) told name text rest out left inside old now later beginning h = whole_exact told name text rest out left inside old now later beginning h
whole_begins (Err Failed) told name text rest out left inside old now later beginning h = whole_most told name text rest out left inside old now later beginning h
whole_begins (Err TooLong) told name text rest out left inside old now later beginning h = whole_exact told name text rest out left inside old now later beginning h
whole_begins (Err Unended) told name text rest out left inside old now later beginning h = whole_exact told name text rest out left inside old now later beginning h
whole_begins (Err IncludeForm) told name text rest out left inside old now later beginning h = whole_exact told name text rest out left inside old now later beginning h
whole_begins (Err IncludeDepth) told name text rest out left inside old now later beginning h = whole_exact told name text rest out left inside old now later beginning h
whole_begins (Err Memory) told name text rest out left inside old now later beginning h = whole_most told name text rest out left inside old now later beginning h

-- a fault at a line
pub line_begins : (T U : Type 0) (e : GatherError) (told mid_told : Option Held) (name text rest line behind out : List ℕ) (left : ℕ) (inside : Bool) (steady : Type 0) (before after old now later : ℕ) → mid_told ≡ told → Beginning told name left text inside rest out old now → lines_of rest ≡ line ∷ lines_of behind → PutCause e mid_told (λ held. one_line (included (below held left) name) inside line) out steady before after → BeginsUpTo {T = T} (Err e) mid_told (λ held. come_to out (one_line (included (below held left) name) inside line)) now later → BeginsUpTo {T = U} (Err e) told (λ held. come_to text (file_events held left name)) old later
line_begins T U e told mid_told name text rest line behind out left inside steady before after old now later same beginning cut cause begins =
    whole_begins {T = U} (Err e) told name text rest out left inside old now later beginning
    (front_begins T U e told out (λ held. one_line (included (below held left) name) inside line) (λ held. line_events (included (below held left) name) inside (lines_of rest)) steady before after now later
    (subst (λ t. PutCause e t (λ held. one_line (included (below held left) name) inside line) out steady before after) same cause)
    (λ held. (line_events (included (below held left) name) (opens inside line) (lines_of behind), ap (line_events (included (below held left) name) inside) cut))
    (subst (λ t. BeginsUpTo {T = T} (Err e) t (λ held. come_to out (one_line (included (below held left) name) inside line)) now later) same begins))

begun_once : (told : Option Held) (name text : List ℕ) (left old new : ℕ) → new ≡ counted old 1 → BeginsAtMost told (λ held. come_to text (file_events held left name)) old new
begun_once None name text left old new one = tt
begun_once (Some held) name text left old new one = λ below_top.
    subst (λ es. new ≤ counted old (come_to text es)) (sym (file_events-is held left name))
    (subst (λ k. k ≤ counted old (come_to text (Begin ∷ content_events (included (below held left) name) (content_of held name)))) (sym one) (counted-more old 1 (come_to text (Begin ∷ content_events (included (below held left) name) (content_of held name))) (omega arith)))

-- a file that isn't read is come_to
pub unread_begins : (T : Type 0) (e : ReadError) (told : Option Held) (name text : List ℕ) (left : ℕ) (steady : Type 0) (before after old new : ℕ) → ReadCause e told name longest_gathered steady before after → new ≡ counted old 1 → BeginsUpTo {T = T} (Err (gather_error e)) told (λ held. come_to text (file_events held left name)) old new
unread_begins T ReadFailed told name text left steady before after old new cause one = begun_once told name text left old new one
unread_begins T ReadMemory told name text left steady before after old new cause one = begun_once told name text left old new one
unread_begins T ReadTooLong None name text left steady before after old new cause one = tt
unread_begins T ReadTooLong (Some held) name text left steady before after old new cause one = λ below_top.
    one ∙ ap (counted old) (sym (ap (come_to text) (file_events-is held left name ∙ ap (λ es. Begin ∷ es) (ap (content_events (included (below held left) name)) cause.1 ∙ cond-true _ (Refuse TooLong ∷ []) (line_events (included (below held left) name) false (lines_of cause.0)) (lt-ltb longest_gathered (length cause.0) cause.2)))))

-- ---- the whole text

pub gathers_text : (told : Option Held) (name text : List ℕ) → Puts told (λ held. file_events held deepest_include name) [] (Ok text) → Gathers told name (Ok text)
gathers_text None name text puts = tt
gathers_text (Some held) name text puts = ap (gathered []) (sym (append-nil (file_events held deepest_include name))) ∙ puts []

gathers_fault : (told : Option Held) (name : List ℕ) (fault : GatherError) → Puts told (λ held. file_events held deepest_include name) [] (Err fault) → Gathers told name (Err fault)
gathers_fault None name fault puts = tt
gathers_fault (Some held) name fault puts = ap (gathered []) (sym (append-nil (file_events held deepest_include name))) ∙ puts []

pub gather_cause : (e : GatherError) (told : Option Held) (name : List ℕ) (steady : Type 0) (before now : ℕ) → PutCause e told (λ held. file_events held deepest_include name) [] steady before now → GatherCause e told name steady before now
gather_cause Failed told name steady before now cause = (cause.0, λ s. gathers_fault told name Failed (cause.1 s))
gather_cause TooLong told name steady before now cause = gathers_fault told name TooLong cause
gather_cause Unended told name steady before now cause = gathers_fault told name Unended cause
gather_cause IncludeForm told name steady before now cause = gathers_fault told name IncludeForm cause
gather_cause IncludeDepth told name steady before now cause = gathers_fault told name IncludeDepth cause
gather_cause Memory told name steady before now cause = tt
