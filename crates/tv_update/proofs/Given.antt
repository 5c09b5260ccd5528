-- What is made of a middle structure is what the action gives.
use Rattle.std.proofs.Common.{ℕ, ◌≡◌, ◌+◌, Bool, true, false, List, [], ◌∷◌, length, get_or, map, filter}
use Rattle.std.proofs.Common.{replicate, Option, None, Some, ⊎_elim, refl, sym, ap, subst, ◌∙◌, arith, All}
use Rattle.std.proofs.Common.{Contains, IsTrue}
use Rattle.std.specs.List.{range_with_len, AllZip}
use Rattle.std.proofs.lemmas.Bool.{cases_Bool, cond-true, cond-false, false≢true}
use Rattle.std.proofs.lemmas.List.Elements.{All-map, All-nil, All-cons, All-append, All-contains}
use Rattle.std.proofs.lemmas.List.FromFn.{length-map-range_with_len}
use Rattle.tv_kleene.specs.declared.K3.{K3}
use Rattle.tv_kleene.specs.declared.K3.TheVariants.{No, Half, Yes}
use Rattle.tv_model.specs.declared.program.Mode.{Mode}
use Rattle.tv_model.specs.Program.{ProgramForm, KindForm, KCore, KDefined, ActionForm, UpdateForm}
use Rattle.tv_model.specs.Truth.{Assignment}
use Rattle.tv_model.proofs.Decided.{Contains-decided}
use Rattle.tv_model.proofs.Lists.{Contains-here, Contains-there}
use Rattle.tv_structure_form.specs.Origins.{AreKept}
use Rattle.tv_structure_form.specs.StructureForm.{StructureForm, IsStructure, structure_of, value_at, without}
use Rattle.tv_structure_form.specs.StructureForm.{kept_from, unmarked}
use Rattle.tv_structure_form.specs.Laws.{DrawnReads}
use Rattle.tv_structure_form.proofs.Library.{AreIndividuals-range}
use Rattle.tv_structure_form.proofs.OriginLaws.{are_kept}
use Rattle.tv_structure_form.proofs.StructureLaws.{drawn_reads}
use Rattle.tv_update_laws.specs.Applied.{keep_value, defined_value, kind_at, update_at, IsChanged, new_value}
use Rattle.tv_update_laws.specs.Applied.{IsNew}
use Rattle.tv_update_laws.specs.Choices.{stays_in}
use Rattle.tv_update_laws.specs.Tables.{flag_at, origin_at, IsKeptPart, IsGivenOver}
use Rattle.tv_update_laws.proofs.Choices.{IsNew-same}
use Rattle.tv_update_laws.proofs.Facts.{any-found, any-none}
use Rattle.tv_update_laws.proofs.Filters.{kept-origin}
use Rattle.tv_update_laws.proofs.Tables.{tables_are_kept}
use Rattle.tv_update.specs.Kept.{with_flag, flag_choices}
use Rattle.tv_update.specs.New.{IsFinished, AreFinished}
use Rattle.tv_update.specs.Plan.{IsPlan}
use Rattle.tv_update.specs.Staying.{AllStay}
use Rattle.tv_update.specs.Update.{IsGivenOf}
use Rattle.tv_update.specs.Updated.{updated_or, AreMade, keep_values}
use Rattle.tv_update.proofs.KeptLaws.{kept_choices, choices_of_yes}

-- what has been made: the middle structure, the updated one, the plan and the structure of a choice
pub record Making (p : ProgramForm) (mode : Mode) (action : ActionForm) (picks : Assignment)
    (m updated : StructureForm) (order : List ℕ) : Type 0 where
  pub is : IsStructure updated
  pub made : AreMade p mode m picks action.updates m updated
  pub plan : IsPlan p mode action order

module _ (p : ProgramForm) (mode : Mode) (action : ActionForm) (picks : Assignment)
    (m updated : StructureForm) (order : List ℕ)
    (c : Making p mode action picks m updated order) (flags : List Bool) (t : StructureForm)
    (done : IsFinished p order updated flags t) (long : length flags ≡ m.size) where
  abbrev t0 : StructureForm
  t0 = without updated flags

  abbrev origin : ℕ → ℕ
  origin = origin_at flags

  kept : IsKeptPart (flag_at flags) origin (structure_of updated) (structure_of t0)
  kept = tables_are_kept updated c.is flags (long ∙ sym c.made.like.size)

  size : t.size ≡ t0.size
  size = done.evaluated.like.size

  old : (u : ℕ) → Contains (range_with_len 0 t.size) u → Contains (range_with_len 0 t0.size) u
  old u at = subst (λ n. Contains (range_with_len 0 n) u) size at

  -- where an individual comes from is one of the middle structure's
  from : (u : ℕ) → Contains (range_with_len 0 t.size) u → Contains (range_with_len 0 m.size) (origin u)
  from u at =
      subst (λ n. Contains (range_with_len 0 n) (origin u)) c.made.like.size
      (kept-origin origin (range_with_len 0 t0.size) (range_with_len 0 updated.size)
      (flag_at flags) kept.origins u (old u at)).0

  module _ (q : ℕ) (tuple : List ℕ) (all : All (Contains (range_with_len 0 t.size)) tuple) where
    abbrev origins : List ℕ
    origins = map origin tuple

    -- the updated value that the tuple comes from
    before : value_at t0 q tuple ≡ updated_or (structure_of m) picks (update_at p mode action q) origins
        (value_at m q origins)
    before =
        kept.values q tuple (λ k d lt. old _ (all k d lt))
        ∙ c.made.values q origins
        (AreIndividuals-range m.size origins
        (All-map (Contains (range_with_len 0 m.size)) origin tuple (λ k d lt. from _ (all k d lt))))

    untouched : ¬ Contains order q
        → value_at t q tuple ≡ updated_or (structure_of m) picks (update_at p mode action q) origins
        (value_at m q origins)
    untouched none = done.evaluated.others q tuple none ∙ before

    Changed : Option UpdateForm → KindForm → Type 0
    Changed used kind = IsTrue (c.plan.changed q) → IsChanged action c.plan.changed used kind

    by_case : (used : Option UpdateForm) → update_at p mode action q ≡ used → (kind : KindForm)
        → kind_at p q ≡ kind → value_at t q tuple ≡ new_value (structure_of m) (structure_of t) picks
        (c.plan.changed q) used kind q origins tuple
    by_case (Some w) u kind k =
        untouched (λ at. let clash : Some w ≡ None = sym u ∙ ((c.plan.members q).0 at).1 in absurd (cc))
        ∙ ap (λ o. updated_or (structure_of m) picks o origins (value_at m q origins)) u
    by_case None u KCore k =
        untouched (λ at.
        let At : Option UpdateForm → Type 0 = λ o. IsChanged action c.plan.changed o (kind_at p q)
        in let Of : KindForm → Type 0 = λ x. IsChanged action c.plan.changed None x
        in subst Of k (subst At u ((c.plan.are_changed q).0 ((c.plan.members q).0 at).0)))
        ∙ ap (λ o. updated_or (structure_of m) picks o origins (value_at m q origins)) u
    by_case None u (KDefined vars body) k =
        ⊎_elim
        (λ on. done.evaluated.values q ((c.plan.members q).1 (on, u)) vars body k tuple
        (AreIndividuals-range t0.size tuple (λ i d lt. old _ (all i d lt)))
        ∙ sym (cond-true (c.plan.changed q) (defined_value (structure_of t) vars body tuple)
        (value_at m q origins) on))
        (λ off. untouched (λ at. false≢true (sym off ∙ ((c.plan.members q).0 at).0))
        ∙ ap (λ o. updated_or (structure_of m) picks o origins (value_at m q origins)) u
        ∙ sym (cond-false (c.plan.changed q) (defined_value (structure_of t) vars body tuple)
        (value_at m q origins) off))
        (cases_Bool (c.plan.changed q))

  finished-is-new : IsNew p mode action picks (structure_of m) (flag_at flags) (structure_of t)
  finished-is-new = record {
    origin = origin;
    origins =
        ap (λ n. map origin (range_with_len 0 n)) size ∙ kept.origins
        ∙ ap (λ n. filter (flag_at flags) (range_with_len 0 n)) c.made.like.size;
    differ = λ u w hu hw e. kept.differ u w (old u hu) (old w hw) e;
    changed = c.plan.changed;
    are_changed = c.plan.are_changed;
    values = λ q tuple all. by_case q tuple all (update_at p mode action q) refl (kind_at p q) refl;
    summaries = λ u at.
        ap (λ xs. get_or xs u false) done.evaluated.like.summaries ∙ kept.summaries u (old u at)
        ∙ ap (λ xs. get_or xs (origin u) false) c.made.like.summaries;
    no_mark = done.evaluated.like.fresh ∙ kept.no_mark;
  }

  finished-is-over : IsGivenOver m t
  finished-is-over =
      let reads : DrawnReads updated = drawn_reads updated c.is
      in record {
        is = done.is;
        over = done.evaluated.like.over ∙ reads.arities (kept_from 0 flags) None ∙ c.made.like.over;
        unmarked = done.evaluated.like.fresh ∙ kept.no_mark;
      }

-- who is among those whose flag is set
stays-flagged : (flags : List Bool) (u : ℕ) → flag_at flags u ≡ stays_in (kept_from 0 flags) u
stays-flagged flags u =
    let are : AreKept flags = are_kept flags
    in ⊎_elim
    (λ at. (are.flagged u).0 at ∙ sym (any-found u (kept_from 0 flags) at))
    (λ none. not-set (flag_at flags u) (λ on. none ((are.flagged u).1 on))
    ∙ sym (any-none u (kept_from 0 flags) none))
    (Contains-decided (kept_from 0 flags) u)
  where
    not-set : (b : Bool) → (IsTrue b → ⊥) → b ≡ false
    not-set true never = absurd (never refl)
    not-set false never = refl

-- each choice has a flag for each value
flag-front : (n : ℕ) (later : List (List Bool)) (b : Bool) → All (λ flags. length flags ≡ n) later
    → All (λ flags. length flags ≡ n + 1) (map (λ flags. b ∷ flags) later)
flag-front n later b all =
    All-map (λ flags. length flags ≡ n + 1) (λ flags. b ∷ flags) later (λ i d lt. omega (arith, all i d lt))

flag-more : (n : ℕ) (k : K3) (later : List (List Bool)) → All (λ flags. length flags ≡ n) later
    → All (λ flags. length flags ≡ n + 1) (with_flag k later)
flag-more n No later all = flag-front n later false all
flag-more n Half later all =
    All-append (λ flags. length flags ≡ n + 1) (map (λ flags. false ∷ flags) later)
    (map (λ flags. true ∷ flags) later)
    (flag-front n later false all) (flag-front n later true all)
flag-more n Yes later all = flag-front n later true all

flag-count : (ks : List K3) → All (λ flags. length flags ≡ length ks) (flag_choices ks)
flag-count [] = All-cons (λ flags. length flags ≡ 0) [] [] refl (All-nil (λ flags. length flags ≡ 0))
flag-count (k ∷ ks) =
    let more : length ks + 1 ≡ length (k ∷ ks) = omega arith
    in subst (λ n. All (λ flags. length flags ≡ n) (flag_choices (k ∷ ks))) more
    (flag-more (length ks) k (flag_choices ks) (flag-count ks))

pub flags_fit : (m : StructureForm) (picks : Assignment) (action : ActionForm)
    → All (λ flags. length flags ≡ m.size) (flag_choices (keep_values m picks action.retain))
flags_fit m picks action =
    subst (λ n. All (λ flags. length flags ≡ n) (flag_choices (keep_values m picks action.retain)))
    (length-map-range_with_len (keep_value (structure_of m) picks action.retain) 0 m.size)
    (flag-count (keep_values m picks action.retain))

-- ---- all of them

one-by-one : (p : ProgramForm) (mode : Mode) (action : ActionForm) (picks : Assignment)
    (m updated : StructureForm) (order : List ℕ)
    → Making p mode action picks m updated order → (choices : List (List Bool))
    → ((flags : List Bool) → Contains choices flags → length flags ≡ m.size)
    → (ts : List StructureForm) → AreFinished p order updated choices ts
    → AllZip (λ us t. IsNew p mode action picks (structure_of m) (stays_in us) t) (map (kept_from 0) choices)
    (map structure_of ts)
one-by-one p mode action picks m updated order c [] long [] done = tt
one-by-one p mode action picks m updated order c [] long (t ∷ ts) done = absurd done
one-by-one p mode action picks m updated order c (flags ∷ choices) long [] done = absurd done
one-by-one p mode action picks m updated order c (flags ∷ choices) long (t ∷ ts) done = (
  IsNew-same p mode action picks (structure_of m) (flag_at flags) (stays_in (kept_from 0 flags))
      (λ u at. stays-flagged flags u) (structure_of t)
      (finished-is-new p mode action picks m updated order c flags t done.0
      (long flags (Contains-here flags choices))),
  one-by-one p mode action picks m updated order c choices
      (λ fs at. long fs (Contains-there flags fs choices at)) ts done.1,
)

all-over : (p : ProgramForm) (mode : Mode) (action : ActionForm) (picks : Assignment)
    (m updated : StructureForm) (order : List ℕ)
    → Making p mode action picks m updated order → (choices : List (List Bool))
    → ((flags : List Bool) → Contains choices flags → length flags ≡ m.size)
    → (ts : List StructureForm) → AreFinished p order updated choices ts → All (IsGivenOver m) ts
all-over p mode action picks m updated order c [] long [] done = All-nil (IsGivenOver m)
all-over p mode action picks m updated order c [] long (t ∷ ts) done = absurd done
all-over p mode action picks m updated order c (flags ∷ choices) long [] done = absurd done
all-over p mode action picks m updated order c (flags ∷ choices) long (t ∷ ts) done =
    All-cons (IsGivenOver m) t ts
    (finished-is-over p mode action picks m updated order c flags t done.0
    (long flags (Contains-here flags choices)))
    (all-over p mode action picks m updated order c choices
    (λ fs at. long fs (Contains-there flags fs choices at)) ts done.1)

pub finished_are_given : (p : ProgramForm) (mode : Mode) (action : ActionForm) (picks : Assignment)
    (m updated : StructureForm) (order : List ℕ) (ts : List StructureForm) → IsStructure updated
    → AreMade p mode m picks action.updates m updated → IsPlan p mode action order
    → AreFinished p order updated (flag_choices (keep_values m picks action.retain)) ts
    → IsGivenOf p mode action picks m ts
finished_are_given p mode action picks m updated order ts is made plan done = record {
  given = subst (λ uss. AllZip (λ us t. IsNew p mode action picks (structure_of m) (stays_in us) t) uss
      (map structure_of ts))
      (kept_choices (keep_value (structure_of m) picks action.retain) 0 m.size)
      (one-by-one p mode action picks m updated order c choices long ts done);
  over = all-over p mode action picks m updated order c choices long ts done;
}
  where
    c : Making p mode action picks m updated order
    c = record { is = is; made = made; plan = plan }

    choices : List (List Bool)
    choices = flag_choices (keep_values m picks action.retain)

    long : (flags : List Bool) → Contains (flag_choices (keep_values m picks action.retain)) flags
        → length flags ≡ m.size
    long flags at = All-contains (λ fs. length fs ≡ m.size)
        (flag_choices (keep_values m picks action.retain)) flags (flags_fit m picks action) at

-- where all stay, the updated structure is all that is given
whole_is_given : (p : ProgramForm) (mode : Mode) (action : ActionForm) (picks : Assignment)
    (m updated : StructureForm) (order : List ℕ) (ts : List StructureForm) → IsStructure updated
    → AreMade p mode m picks action.updates m updated → IsPlan p mode action order
    → AllStay (keep_values m picks action.retain)
    → AreFinished p order updated (replicate updated.size true ∷ []) ts → IsGivenOf p mode action picks m ts
whole_is_given p mode action picks m updated order ts is made plan whole done =
    let count : updated.size ≡ length (keep_values m picks action.retain)
    = made.like.size ∙ sym (length-map-range_with_len (keep_value (structure_of m) picks action.retain) 0 m.size)
    in let one : replicate updated.size true ∷ [] ≡ flag_choices (keep_values m picks action.retain)
    = ap (λ n. replicate n true ∷ []) count ∙ sym (choices_of_yes (keep_values m picks action.retain) whole)
    in finished_are_given p mode action picks m updated order ts is made plan
    (subst (λ choices. AreFinished p order updated choices ts) one done)

-- individuals are taken from a structure as from the one without its mark
from_marked : (p : ProgramForm) (order : List ℕ) (updated : StructureForm) (flags : List Bool) (ts : List StructureForm)
    → AreFinished p order (unmarked updated) (flags ∷ []) ts → AreFinished p order updated (flags ∷ []) ts
from_marked p order updated flags [] done = done
from_marked p order updated flags (t ∷ []) (one, rest) = (record { is = one.is; evaluated = one.evaluated }, rest)
from_marked p order updated flags (t ∷ u ∷ ts) (one, rest) = (record { is = one.is; evaluated = one.evaluated }, rest)

-- where all stay, the updated structure without its mark is all that is given
pub unmarked_is_given : (p : ProgramForm) (mode : Mode) (action : ActionForm) (picks : Assignment)
    (m updated new : StructureForm) (order : List ℕ) (ts : List StructureForm) → IsStructure updated
    → AreMade p mode m picks action.updates m updated → IsPlan p mode action order
    → AllStay (keep_values m picks action.retain) → new ≡ unmarked updated
    → AreFinished p order new (replicate new.size true ∷ []) ts → IsGivenOf p mode action picks m ts
unmarked_is_given p mode action picks m updated new order ts is made plan whole e done =
    whole_is_given p mode action picks m updated order ts is made plan whole
    (from_marked p order updated (replicate updated.size true) ts
    (subst (λ (s : StructureForm). AreFinished p order s (replicate s.size true ∷ []) ts) e done))
