-- What is left of a run behind a variable doesn't depend on the variables before that one, where the parts are
-- linked.
use Rattle.std.proofs.Common.{ℕ, ◌≡◌, ◌≢◌, ◌+◌, ◌-◌, ⊎_elim, Bool, true, false, not, ◌&&◌}
use Rattle.std.proofs.Common.{List, [], ◌∷◌, ◌++◌, refl, sym, ap, subst, ◌∙◌, arith, get_or, map}
use Rattle.std.specs.Prelude.{if◌then◌else◌}
use Rattle.std.specs.List.{range_with_len}
use Rattle.std.proofs.lemmas.Bool.{cases_eq, false≢true}
use Rattle.std.proofs.lemmas.List.FromFn.{get_or-map-range_with_len}
use Rattle.tv_kleene.specs.declared.K3.{K3}
use Rattle.tv_kleene.specs.declared.K3.TheVariants.{No, Yes}
use Rattle.tv_kleene.specs.Kleene.{smaller_of}
use Rattle.tv_model.specs.Form.{Form, IsFree}
use Rattle.tv_model.specs.Truth.{Assignment, put}
use Rattle.tv_model.proofs.Assignments.{put-same, put-other}
use Rattle.tv_embedding_laws.specs.LogicalStructure.{LogicalStructure}
use Rattle.tv_eval_laws.specs.Value.{value}
use Rattle.tv_eval_laws.proofs.Agreed.{only_free_variables_matter}
use Rattle.tv_quantifiers.specs.declared.quantifier.Quantifier.{Quantifier}
use Rattle.tv_quantifiers.specs.declared.runs.Level.{Level}
use Rattle.tv_quantifiers.specs.Quantified.{turned}
use Rattle.tv_quantifiers.specs.Runs.{under_run}
use Rattle.tv_model.specs.Free.{is_free}
use Rattle.tv_quantifiers.specs.Chains.{Signed, AreLinked, across, best, is_outside, is_taken}
use Rattle.tv_quantifiers.specs.Chains.{least_part}
use Rattle.tv_quantifiers.specs.Chains.{parts_of, pushed}
use Rattle.tv_model.proofs.FreeTests.{and-parts, from-free}
use Rattle.tv_quantifiers.proofs.Pushing.{best-alike, best-within, pushed-first}

pub linked-append : (ls : List Level) (ps qs : List Signed) → AreLinked ls ps → AreLinked ls qs → AreLinked ls (ps ++ qs)
linked-append ls [] qs front back = back
linked-append ls (p ∷ ps) qs front back = (front.0, linked-append ls ps qs front.1 back)

-- the variable isn't one of the levels'
abbrev pub NotAmong : ℕ → List Level → Type 0
NotAmong v [] = Unit {0}
NotAmong v (l ∷ ls) = (v ≢ l.var.0) × NotAmong v ls

-- what speaks of none of the levels' variables speaks of others
pub outside-among : (v : ℕ) (ls : List Level) (f : Form) → is_outside ls f ≡ true → IsFree v f → NotAmong v ls
outside-among v [] f apart at = tt
outside-among v (l ∷ ls) f apart at =
    let both : (not (is_free l.var.0 f) ≡ true) × (is_outside ls f ≡ true) = and-parts (not (is_free l.var.0 f)) (is_outside ls f) apart
    in (
      λ e. not-both (is_free l.var.0 f) both.0 (from-free l.var.0 f (subst (λ w. IsFree w f) e at)),
      outside-among v ls f both.1 at,
    )
  where
    not-both : (b : Bool) → not b ≡ true → b ≡ true → ⊥
    not-both true apart is = false≢true apart
    not-both false apart is = false≢true is

-- the assignments say the same of what the parts speak of that aren't outside of the levels, the levels' own
-- variables aside
abbrev pub SpeakAlike : List Level → Assignment → Assignment → List Signed → Type 0
SpeakAlike ls a b [] = Unit {0}
SpeakAlike ls a b (p ∷ ps) =
    (is_outside ls p.form ≡ false → (v : ℕ) → IsFree v p.form → NotAmong v ls → a v ≡ b v) × SpeakAlike ls a b ps

puts-alike : (a b : Assignment) (v u w : ℕ) → (w ≢ v → a w ≡ b w) → put a v u w ≡ put b v u w
puts-alike a b v u w same =
    ⊎_elim (λ e. put-same a v u w e ∙ sym (put-same b v u w e))
    (λ ne. put-other a v u w ne ∙ same ne ∙ sym (put-other b v u w ne)) (cases_eq w v)

and-false : (x y : Bool) → y ≡ false → (x && y) ≡ false
and-false true y e = e
and-false false y e = refl

speak-inside : (l : Level) (ls : List Level) (a b : Assignment) (u : ℕ) (ps : List Signed) → SpeakAlike (l ∷ ls) a b ps
    → SpeakAlike ls (put a l.var.0 u) (put b l.var.0 u) ps
speak-inside l ls a b u [] same = tt
speak-inside l ls a b u (p ∷ ps) same = (
  λ apart v at among. puts-alike a b l.var.0 u v
      (λ ne. same.0 (and-false (not (is_free l.var.0 p.form)) (is_outside ls p.form) apart) v at (ne, among)),
  speak-inside l ls a b u ps same.1,
)

chosen-alike : (t : Bool) (q : Quantifier) (x y : K3) → (t ≡ true → x ≡ y)
    → (if t then turned q x else Yes) ≡ (if t then turned q y else Yes)
chosen-alike true q x y same = ap (turned q) (same refl)
chosen-alike false q x y same = refl

taken-apart : (b c : Bool) → b ≡ true → (not b && c) ≡ false
taken-apart true c e = refl
taken-apart false c e = absurd (false≢true e)

taken-alike : (s : LogicalStructure) (l : Level) (ls : List Level) (a b : Assignment) (u : ℕ) (ps : List Signed)
    → SpeakAlike (l ∷ ls) a b ps
    → least_part (is_taken false l.var.0 ls) s (put a l.var.0 u) ps
    ≡ least_part (is_taken false l.var.0 ls) s (put b l.var.0 u) ps
taken-alike s l ls a b u [] same = refl
taken-alike s l ls a b u (p ∷ ps) same =
    ap (λ x. smaller_of x (least_part (is_taken false l.var.0 ls) s (put a l.var.0 u) ps))
    (chosen-alike (is_taken false l.var.0 ls p.form) p.sign (value s (put a l.var.0 u) p.form) (value s (put b l.var.0 u) p.form)
    (λ taken.
    let both : (is_free l.var.0 p.form ≡ true) × (is_outside ls p.form ≡ true) =
    and-parts (is_free l.var.0 p.form) (is_outside ls p.form) taken
    in only_free_variables_matter s p.form (put a l.var.0 u) (put b l.var.0 u)
    (λ w at. puts-alike a b l.var.0 u w
    (λ ne. same.0 (taken-apart (is_free l.var.0 p.form) (is_outside ls p.form) both.0) w at
    (ne, outside-among w ls p.form both.1 at)))))
    ∙ ap (smaller_of (if is_taken false l.var.0 ls p.form then turned p.sign (value s (put b l.var.0 u) p.form) else Yes))
    (taken-alike s l ls a b u ps same.1)

-- what is left of a run depends on what its parts speak of
pushed-alike : (sign : Quantifier) (s : LogicalStructure) (ls : List Level) (a b : Assignment) (ps : List Signed)
    → SpeakAlike ls a b ps → pushed sign s a ls ps ≡ pushed sign s b ls ps
pushed-alike sign s [] a b ps same = refl
pushed-alike sign s (l ∷ ls) a b ps same =
    let v : ℕ = l.var.0
    in best-alike (across sign l.quantifier)
    (λ u. smaller_of (least_part (is_taken false v ls) s (put a v u) ps) (pushed sign s (put a v u) ls ps))
    (λ u. smaller_of (least_part (is_taken false v ls) s (put b v u) ps) (pushed sign s (put b v u) ls ps))
    s.individuals
    (λ u. ap (λ x. smaller_of x (pushed sign s (put a v u) ls ps)) (taken-alike s l ls a b u ps same)
    ∙ ap (smaller_of (least_part (is_taken false v ls) s (put b v u) ps))
    (pushed-alike sign s ls (put a v u) (put b v u) ps (speak-inside l ls a b u ps same)))

-- linked parts that speak of the levels inside don't speak of the outer one
speak-linked : (outer level : Level) (inner : List Level) (a : Assignment) (u w : ℕ) (ps : List Signed)
    → AreLinked (outer ∷ level ∷ inner) ps
    → SpeakAlike inner (put (put a outer.var.0 u) level.var.0 w) (put a level.var.0 w) ps
speak-linked outer level inner a u w [] linked = tt
speak-linked outer level inner a u w (p ∷ ps) linked = (
  λ apart v at among. puts-alike (put a outer.var.0 u) a level.var.0 w v
      (λ _. put-other a outer.var.0 u v
      (λ e. false≢true (sym apart ∙ linked.0.0 (from-free outer.var.0 p.form (subst (λ x. IsFree x p.form) e at))))),
  speak-linked outer level inner a u w ps linked.1,
)

-- the row of what is left behind the level, and the parts that stand at it, give what is left behind the outer one
pub linked-step : (sign : Quantifier) (s : LogicalStructure) (n : ℕ) (outer level : Level) (inner : List Level)
    (a : Assignment) (u : ℕ) (ps : List Signed) (row : List K3) → s.individuals ≡ range_with_len 0 n
    → AreLinked (outer ∷ level ∷ inner) ps
    → row ≡ map (λ w. pushed sign s (put a level.var.0 w) inner ps) (range_with_len 0 n)
    → best (across sign level.quantifier) (λ w. smaller_of
    (least_part (is_taken false level.var.0 inner) s (put (put a outer.var.0 u) level.var.0 w) ps) (get_or row w No))
    (range_with_len 0 n)
    ≡ pushed sign s (put a outer.var.0 u) (level ∷ inner) ps
linked-step sign s n outer level inner a u ps row all linked is =
    let v : ℕ = level.var.0
    in let b : Assignment = put a outer.var.0 u
    in let here : ℕ → K3 = λ w. least_part (is_taken false v inner) s (put b v w) ps
    in best-within (across sign level.quantifier) (λ w. smaller_of (here w) (get_or row w No))
    (λ w. smaller_of (here w) (pushed sign s (put b v w) inner ps)) n
    (λ w lt. ap (smaller_of (here w)) (ap (λ r. get_or r w No) is
    ∙ get_or-map-range_with_len (λ x. pushed sign s (put a v x) inner ps) 0 n w w No lt (omega arith)
    ∙ sym (pushed-alike sign s inner (put b v w) (put a v w) ps (speak-linked outer level inner a u w ps linked))))
    ∙ ap (best (across sign level.quantifier) (λ w. smaller_of (here w) (pushed sign s (put b v w) inner ps))) (sym all)

-- at the first quantifier they give the value of the whole run
pub linked-first : (sign : Quantifier) (f : Form) (s : LogicalStructure) (n : ℕ) (level : Level) (inner : List Level)
    (a : Assignment) (ps : List Signed) (row : List K3) → s.individuals ≡ range_with_len 0 n
    → s.individuals ≡ 0 ∷ range_with_len (0 + 1) (n - (0 + 1))
    → ps ≡ parts_of sign f
    → row ≡ map (λ w. pushed sign s (put a level.var.0 w) inner ps) (range_with_len 0 n)
    → best (across sign level.quantifier) (λ w. smaller_of
    (least_part (is_taken true level.var.0 inner) s (put a level.var.0 w) ps) (get_or row w No)) (range_with_len 0 n)
    ≡ turned sign (value s a (under_run (level ∷ inner) f))
linked-first sign f s n level inner a ps row all some parts is =
    let v : ℕ = level.var.0
    in let here : ℕ → K3 = λ w. least_part (is_taken true v inner) s (put a v w) ps
    in best-within (across sign level.quantifier) (λ w. smaller_of (here w) (get_or row w No))
    (λ w. smaller_of (here w) (pushed sign s (put a v w) inner ps)) n
    (λ w lt. ap (smaller_of (here w)) (ap (λ r. get_or r w No) is
    ∙ get_or-map-range_with_len (λ x. pushed sign s (put a v x) inner ps) 0 n w w No lt (omega arith)))
    ∙ ap (best (across sign level.quantifier) (λ w. smaller_of (here w) (pushed sign s (put a v w) inner ps))) (sym all)
    ∙ ap (λ qs. best (across sign level.quantifier) (λ w. smaller_of (least_part (is_taken true v inner) s (put a v w) qs)
    (pushed sign s (put a v w) inner qs)) s.individuals) parts
    ∙ sym (pushed-first sign f s 0 (range_with_len (0 + 1) (n - (0 + 1))) some level inner a)
