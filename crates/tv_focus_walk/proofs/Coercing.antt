-- Coerce of what a walk makes.
use Rattle.std.proofs.Common.{◌≡◌, Bool, List, [], ◌∷◌, length, Option, None}
use Rattle.std.proofs.Common.{Some}
use Rattle.std.proofs.Common.{inl, inr, refl, sym, ap, subst, ◌∙◌, arith, All, Contains, get_or}
use Rattle.std.proofs.lemmas.List.Elements.{All-contains, Contains-get_or}
use Rattle.std.proofs.lemmas.List.FromFn.{length-range_with_len}
use Rattle.tv_model.proofs.Lists.{Contains-map, slice_get-contains}
use Rattle.tv_embedding_laws.proofs.EmbeddingLaws.{EmbedsOn-id}
use Rattle.tv_model.specs.Program.{RuleForm}
use Rattle.tv_stable_laws.specs.Laws.{IsPlainRule}
use Rattle.tv_stable_laws.specs.Stable.{IsStable, IsStableUnder, IsGreatestStable, HasNoStable}
use Rattle.tv_structure_form.specs.StructureForm.{StructureForm, IsStructure, structure_of, arities_of}
use Rattle.tv_eval.specs.ScratchForm.{ScratchForm}
use Rattle.tv_rules.specs.Closing.{closed_rules}
use Rattle.tv_rules.specs.EntryForms.{rules_of}
use Rattle.tv_rules.proofs.Ranges.{rules_are_plain}
use Rattle.tv_coerce.specs.Coerced.{CoercesTo, IsCoercedTable}
use Rattle.tv_coerce.specs.Ready.{CanCoerce}
use Rattle.tv_coerce.specs.RuleSets.{IsStableBut}
use Rattle.tv_coerce.proofs.Ready.{closed_rules_can_be_tried}
use Rattle.tv_focus_laws.specs.Choices.{AimForm, ChoiceForm, choices, chosen}
use Rattle.tv_focus_laws.specs.Counts.{AreCounted}
use Rattle.tv_focus_laws.specs.Tables.{ShowsOver}
use Rattle.tv_focus_laws.proofs.Counts.{choices_are_counted}
use Rattle.tv_focus_step_laws.specs.Above.{IsSmallChoice, IsSplitSoFar, HasChoice, CoercesAlike}
use Rattle.tv_focus_step_laws.proofs.Above.{whole_coerce_alike}
use Rattle.tv_focus_step_laws.proofs.Embedding.{choice-shows}
use Rattle.tv_focus.specs.Puts.{IsChoiceOf}
use Rattle.tv_step_laws.specs.Transfer.{Coerces}
use Rattle.tv_step_laws.proofs.Shapes.{shaped-over}
use Rattle.tv_focus_walk.specs.declared.walk.Walk.{Walk}
use Rattle.tv_focus_walk.specs.declared.since.Since.{Since}
use Rattle.tv_focus_walk.specs.Walk.{AddsCoerced, ArePlain, CanWalk, HasRest, HasRulesSince, IsAbove, IsReady}
use Rattle.tv_focus_walk.specs.Walk.{IsUnchanged, walk_aim, walk_pred, walk_program, walk_table}
use Rattle.tv_focus_walk.proofs.Signs.{nothing-seen}

pub small-choice : (w : Walk) (scratch : ScratchForm) (choice : ChoiceForm) → CanWalk w scratch
    → IsChoiceOf w.from.now (walk_pred w) (walk_aim w) choice
    → IsSmallChoice w.from.now (walk_pred w) (walk_aim w) choice
small-choice w scratch choice can of =
    let counted : AreCounted (structure_of w.from.now) (walk_pred w) (walk_aim w)
    = choices_are_counted (structure_of w.from.now) (walk_pred w) (walk_aim w)
    in record { listed = of.listed; few = omega (arith, counted.most choice of.listed, can.choosing.small) }

pub can-coerce : (w : Walk) (scratch : ScratchForm) (t : StructureForm) → CanWalk w scratch
    → arities_of t ≡ arities_of w.from.now → IsStructure t → CanCoerce (rules_of w.closed.now) t scratch
can-coerce w scratch t can over is =
    subst (λ rules. CanCoerce rules t scratch) (sym can.rules)
    (closed_rules_can_be_tried w.program.now t scratch can.valid
    (over ∙ shaped-over w.program.now w.from.now can.shaped) is can.room)

-- ---- a choice

pub choice-table : (w : Walk) (scratch : ScratchForm) (choice : ChoiceForm) → CanWalk w scratch
    → IsChoiceOf w.from.now (walk_pred w) (walk_aim w) choice
    → ShowsOver w.from.now (walk_table w choice) (chosen (structure_of w.from.now) (walk_pred w) (walk_aim w) choice)
choice-table w scratch choice can of =
    choice-shows w.from.now (walk_pred w) (walk_aim w) choice can.choosing.aim (small-choice w scratch choice can of)

-- a choice's table is one of those in which only the rules that wait may be unmet
pub choice-rest : (w : Walk) (scratch : ScratchForm) (choice : ChoiceForm) → CanWalk w scratch
    → IsChoiceOf w.from.now (walk_pred w) (walk_aim w) choice
    → IsStableBut (rules_of w.closed.now) w.waiting.now (walk_table w choice)
choice-rest w scratch choice can of =
    All-contains (IsStableBut (rules_of w.closed.now) w.waiting.now) _ (walk_table w choice) can.rest
    (Contains-map (walk_table w) choice (choices (structure_of w.from.now) (walk_pred w) (walk_aim w)) of.listed)

pub none-coerces : (w : Walk) (scratch : ScratchForm) (t : StructureForm) (found : Option StructureForm)
    → CanWalk w scratch → CoercesTo (rules_of w.closed.now) t found → found ≡ None
    → Coerces (walk_program w) t []
none-coerces w scratch t found can to is =
    inl (
      subst (λ rules. HasNoStable rules (structure_of t)) can.rules
          (subst (CoercesTo (rules_of w.closed.now) t) is to),
      refl,
    )

pub some-coerces : (w : Walk) (scratch : ScratchForm) (t d : StructureForm) (found : Option StructureForm)
    → CanWalk w scratch → arities_of t ≡ arities_of w.from.now → CoercesTo (rules_of w.closed.now) t found
    → found ≡ Some d → Coerces (walk_program w) t (d ∷ [])
some-coerces w scratch t d found can over to is =
    let table : IsCoercedTable (rules_of w.closed.now) t d = subst (CoercesTo (rules_of w.closed.now) t) is to
    in inr (
      d,
      record {
        greatest = subst (λ rules. IsGreatestStable rules (structure_of t) (structure_of d)) can.rules table.greatest;
        shaped = record {
          over = table.over ∙ over ∙ can.shaped.over;
          planes = table.is.table.planes;
          summaries = table.is.summaries;
        };
        mark = table.mark;
      },
      refl,
    )

-- a stable structure is what coerce makes of it
pub stable-coerces : (w : Walk) (scratch : ScratchForm) (begun : ChoiceForm) (c : StructureForm) → CanWalk w scratch
    → IsSplitSoFar w.from.now begun c → IsStable (closed_rules (walk_program w)) (structure_of c)
    → Coerces (walk_program w) c (c ∷ [])
stable-coerces w scratch begun c can so stable = inr (
  c,
  record {
    greatest = record {
      below = (refl, EmbedsOn-id (λ pred. Unit {0}) (structure_of c));
      stable = stable;
      greatest = λ u below is. below;
    };
    shaped = record {
      over = so.over ∙ can.shaped.over;
      planes = so.is.table.planes;
      summaries = so.is.summaries;
    };
    mark = refl;
  },
  refl,
)

-- ---- a choice that the structure at hand has

made-alike : (w : Walk) (scratch : ScratchForm) (c : StructureForm) (aim : AimForm) (since : Since)
    (choice : ChoiceForm) → CanWalk w scratch → IsReady w choice c aim since → IsAbove w choice c choice
    → HasChoice c (walk_pred w) aim 0 choice
    → CoercesAlike (closed_rules (walk_program w)) w.from.now (walk_pred w) (walk_aim w) choice c
made-alike w scratch c aim since choice can ready above has =
    whole_coerce_alike (closed_rules (walk_program w)) w.from.now (walk_pred w) (walk_aim w) choice c
    (rules_are_plain (walk_program w) can.valid) can.choosing.aim (small-choice w scratch choice can above.of)
    ready.so above.leads (subst (λ a. HasChoice c (walk_pred w) a 0 choice) ready.aimed has)

made-coerces : (w : Walk) (scratch : ScratchForm) (c : StructureForm) (aim : AimForm) (since : Since)
    (choice : ChoiceForm) (own : List StructureForm) → CanWalk w scratch → IsReady w choice c aim since
    → IsAbove w choice c choice → HasChoice c (walk_pred w) aim 0 choice → Coerces (walk_program w) c own
    → Coerces (walk_program w) (walk_table w choice) own
made-coerces w scratch c aim since choice own can ready above has (inl (none, is)) =
    inl ((made-alike w scratch c aim since choice can ready above has).none none, is)
made-coerces w scratch c aim since choice own can ready above has (inr (d, coerced, is)) =
    let alike : CoercesAlike (closed_rules (walk_program w)) w.from.now (walk_pred w) (walk_aim w) choice c
    = made-alike w scratch c aim since choice can ready above has
    in inr (
      d,
      record {
        greatest = alike.kept d coerced.greatest;
        shaped = coerced.shaped;
        mark = coerced.mark ∙ alike.mark;
      },
      is,
    )

-- what comes of the structure at hand comes of the choice
pub made-adds : (w : Walk) (scratch : ScratchForm) (c : StructureForm) (aim : AimForm) (since : Since)
    (choice : ChoiceForm) (old new : List StructureForm) → CanWalk w scratch → IsReady w choice c aim since
    → IsAbove w choice c choice → HasChoice c (walk_pred w) aim 0 choice → AddsCoerced w (c ∷ []) old new
    → AddsCoerced w (walk_table w choice ∷ []) old new
made-adds w scratch c aim since choice old new can ready above has (own, (one, rest, made, later, all), is) = (
  own,
  (one, rest, made-coerces w scratch c aim since choice one can ready above has made, later, all),
  is,
)

-- ---- rules that wait

-- those that may be unmet
pub rest-waits : (w : Walk) (since : Since) (c : StructureForm) (set : List Bool) → HasRest w since c
    → HasRulesSince w since set → IsStableBut (rules_of w.closed.now) set c
rest-waits w since c set rest has n rule there out =
    rest rule (slice_get-contains (rules_of w.closed.now) n rule there) (has.blind n rule there out)

-- none, where nothing was done
pub rest-stable : (w : Walk) (scratch : ScratchForm) (since : Since) (c : StructureForm) → CanWalk w scratch
    → HasRest w since c → IsUnchanged since → IsStable (closed_rules (walk_program w)) (structure_of c)
rest-stable w scratch since c can rest none =
    subst (λ rules. IsStable rules (structure_of c)) can.rules
    (λ k d lt. rest (get_or (rules_of w.closed.now) k d) (Contains-get_or (rules_of w.closed.now) k d lt)
    (nothing-seen w since (get_or (rules_of w.closed.now) k d) none.no none.yes none.copies none.any))

pub stable-rest : (w : Walk) (scratch : ScratchForm) (since : Since) (c : StructureForm) → CanWalk w scratch
    → IsStable (closed_rules (walk_program w)) (structure_of c) → HasRest w since c
stable-rest w scratch since c can stable rule at blind =
    All-contains (IsStableUnder (structure_of c)) (closed_rules (walk_program w)) rule stable
    (subst (λ rules. Contains rules rule) can.rules at)

pub are-plain : (w : Walk) (scratch : ScratchForm) → CanWalk w scratch → ArePlain w
are-plain w scratch can =
    subst (λ rules. All IsPlainRule rules) (sym can.rules) (rules_are_plain (walk_program w) can.valid)

-- the individuals of what coerce finds
pub coerced-size : (t d : StructureForm) (rules : List RuleForm)
    → IsGreatestStable rules (structure_of t) (structure_of d) → d.size ≡ t.size
coerced-size t d rules greatest =
    sym (length-range_with_len 0 d.size) ∙ ap length greatest.below.0 ∙ length-range_with_len 0 t.size
