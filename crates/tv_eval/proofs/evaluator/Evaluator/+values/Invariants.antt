-- Each function goes down the formula.
use Rattle.std.proofs.Common.{ℕ, ◌≡◌, ◌+◌, ◌-◌, ◌*◌, ◌<◌, ◌≤◌, max, List, [], ◌∷◌, drop, length, get_or}
use Rattle.tv_model.specs.Form.{form_of, height}
use Rattle.tv_model.specs.Truth.{put}
use Rattle.tv_row.specs.Places.{entry_in}
use Rattle.tv_structure_form.specs.StructureForm.{structure_of}
use Rattle.tv_eval_laws.specs.Value.{value, greatest_of}
use Rattle.std.specs.List.{range_with_len}
use Rattle.tv_kleene.specs.declared.K3.{K3}
use Rattle.tv_kleene.specs.declared.K3.TheVariants.{No}
use Rattle.tv_kleene.specs.Kleene.{larger_of, smaller_of}
use Rattle.tv_eval.specs.AssignmentForm.{assignment_of}
use Rattle.tv_eval.specs.EvaluatorForm.{sizes_in}
use Rattle.tv_eval.specs.CanEvaluate.{CanEvaluate}
use Rattle.tv_quantifiers.specs.Quantified.{turned}
use Rattle.tv_quantifiers.specs.Runs.{AreWithin, left, owed, placed, under_run}
use Rattle.tv_eval.proofs.AlongWords.{HasWords, JoinedTo}
use Rattle.tv_eval.proofs.Capping.{StandsTo}
use Rattle.tv_eval.proofs.Parts.{IsLike}
use Rattle.tv_eval.proofs.Linked.{HasValues}
use Rattle.tv_eval.specs.Linked.{rest_along}
use Rattle.tv_quantifiers.specs.Chains.{is_taken, least_part, parts_of, pushed}
use Rattle.tv_quantifiers.specs.declared.runs.Level.{Level}
use Rattle.tv_eval.proofs.evaluator.Evaluator.+values.Given as goal

abbrev pub decreases-value_of : goal.decreases-value_of
decreases-value_of l = 16 * height (form_of l.f.now) + 1

abbrev pub decreases-value_by_parts : goal.decreases-value_by_parts
decreases-value_by_parts l = 16 * height (form_of l.f.now)

abbrev pub decreases-both : goal.decreases-both
decreases-both l = 16 * max (height (form_of l.g.now)) (height (form_of l.h.now)) + 7

abbrev pub decreases-either : goal.decreases-either
decreases-either l = 16 * max (height (form_of l.g.now)) (height (form_of l.h.now)) + 7

abbrev pub decreases-alike : goal.decreases-alike
decreases-alike l = 16 * max (height (form_of l.g.now)) (height (form_of l.h.now)) + 7

abbrev pub decreases-choice : goal.decreases-choice
decreases-choice l =
    16 * max (height (form_of l.c.now)) (max (height (form_of l.g.now)) (height (form_of l.h.now))) + 7

abbrev pub decreases-quantify : goal.decreases-quantify
decreases-quantify l = 16 * height (form_of l.body.now) + 13

abbrev pub decreases-quantify_anew : goal.decreases-quantify_anew
decreases-quantify_anew l = 16 * height (form_of l.body.now) + 12

abbrev pub decreases-quantify_few : goal.decreases-quantify_few
decreases-quantify_few l = 16 * height (form_of l.body.now) + 11

abbrev pub decreases-words_negated : goal.decreases-words_negated
decreases-words_negated l = 16 * height (form_of l.g.now) + 7

abbrev pub decreases-closure : goal.decreases-closure
decreases-closure l = 16 * height (form_of l.edges.body.now) + 10

abbrev pub decreases-closed_part : goal.decreases-closed_part
decreases-closed_part l = 16 * height (form_of l.edges.body.now) + 9

abbrev pub decreases-fill : goal.decreases-fill
decreases-fill l = 16 * height (form_of l.edges.body.now) + 8

abbrev pub decreases-row_of : goal.decreases-row_of
decreases-row_of l = 16 * height (form_of l.f.now) + 7

abbrev pub decreases-row_of_few : goal.decreases-row_of_few
decreases-row_of_few l = 16 * height (form_of l.f.now) + 6

abbrev pub decreases-word_of : goal.decreases-word_of
decreases-word_of l = 16 * height (form_of l.f.now) + 5

abbrev pub decreases-word_by_parts : goal.decreases-word_by_parts
decreases-word_by_parts l = 16 * height (form_of l.f.now) + 4

abbrev pub decreases-by_values : goal.decreases-by_values
decreases-by_values l = 16 * height (form_of l.f.now) + 2

abbrev pub decreases-words_both : goal.decreases-words_both
decreases-words_both l = 16 * max (height (form_of l.g.now)) (height (form_of l.h.now)) + 7

abbrev pub decreases-words_either : goal.decreases-words_either
decreases-words_either l = 16 * max (height (form_of l.g.now)) (height (form_of l.h.now)) + 7

-- the rows so far have their edges
abbrev pub invariant-fill-loop-u : goal.invariant-fill-loop-u
invariant-fill-loop-u l =
    (l.self ≡ l.initial.self)
    × (length l.relation ≡ length l.initial.relation)
    × ((v : ℕ) → v < l.u → length (get_or l.relation v []) ≡ l.initial.self.structure.size)
    × ((v x : ℕ) → v < l.u → x < l.initial.self.structure.size
    → entry_in l.relation v x
    ≡ value (structure_of l.initial.self.structure) (put (put (assignment_of l.a) l.edges.left.0 v) l.edges.right.0 x)
    (form_of l.edges.body.now))
    × IsLike l.a l.edges.left.0 l.here

-- the values so far are found, and the others are those of individuals that are ruled out
abbrev pub invariant-by_values-loop-i : goal.invariant-by_values-loop-i
invariant-by_values-loop-i l =
    (l.self ≡ l.initial.self)
    × StandsTo l.initial.self.structure.size l.chunk l.from (turned l.fn.q No)
    (λ u. value (structure_of l.initial.self.structure) (put (assignment_of l.a) l.v.0 u) (form_of l.f)) l.values
    × IsLike l.a l.v.0 l.here
    × (l.from ≤ 64)

abbrev pub decreases-by_values-loop-i : goal.decreases-by_values-loop-i
decreases-by_values-loop-i l = 64 - l.from

abbrev pub decreases-words_alike : goal.decreases-words_alike
decreases-words_alike l = 16 * max (height (form_of l.g.now)) (height (form_of l.h.now)) + 7

abbrev pub decreases-words_choice : goal.decreases-words_choice
decreases-words_choice l = 16 * max (height (form_of l.c.now))
    (max (height (form_of l.g.now)) (height (form_of l.h.now))) + 7

abbrev pub decreases-quantified_word : goal.decreases-quantified_word
decreases-quantified_word l = 16 * height (form_of l.body.now) + 19

abbrev pub decreases-joined_words : goal.decreases-joined_words
decreases-joined_words l = 16 * height (form_of l.body.now) + 17

abbrev pub decreases-closure_word : goal.decreases-closure_word
decreases-closure_word l = 16 * height (form_of l.edges.body.now) + 11

-- the greatest value of the words so far, with the greatest of the others, gives the whole
abbrev pub invariant-quantify_anew-loop-chunk : goal.invariant-quantify_anew-loop-chunk
invariant-quantify_anew-loop-chunk l =
    let g : ℕ → K3 = λ u. turned l.q (value (structure_of l.initial.self.structure) (put (assignment_of l.a) l.v.0 u) (form_of l.body))
    in (l.self ≡ l.initial.self)
    × (larger_of l.found (greatest_of g (range_with_len (64 * l.chunk) (l.initial.self.structure.size - 64 * l.chunk)))
    ≡ greatest_of g (range_with_len 0 l.initial.self.structure.size))

-- the values of the words so far are in the row
abbrev pub invariant-row_of-loop-chunk : goal.invariant-row_of-loop-chunk
invariant-row_of-loop-chunk l =
    (l.self ≡ l.initial.self)
    × HasWords l.initial.self.structure.size l.chunk
    (λ u. value (structure_of l.initial.self.structure) (put (assignment_of l.a) l.v.0 u) (form_of l.f)) l.values

-- for each individual the values of those so far are joined
abbrev pub invariant-joined_words-loop-x : goal.invariant-joined_words-loop-x
invariant-joined_words-loop-x l =
    (l.self ≡ l.initial.self)
    × JoinedTo l.initial.self.structure.size l.chunk l.from
    (λ u x. turned l.q (value (structure_of l.initial.self.structure) (put (put (assignment_of l.a) l.v.0 u) l.w.0 x) (form_of l.body)))
    l.found
    × IsLike l.a l.w.0 l.here
    × (l.from ≤ length l.caps)

abbrev pub decreases-joined_words-loop-x : goal.decreases-joined_words-loop-x
decreases-joined_words-loop-x l = length l.caps - l.from

abbrev pub decreases-run : goal.decreases-run
decreases-run l = 16 * height (form_of l.body.now) + 11

abbrev pub decreases-one_by_one : goal.decreases-one_by_one
decreases-one_by_one l = 16 * height (form_of l.part.now) + 5

-- what is found with what is owed gives the whole
abbrev pub invariant-one_by_one-loop-whole : goal.invariant-one_by_one-loop-whole
invariant-one_by_one-loop-whole l =
    (l.self ≡ l.initial.self)
    × AreWithin l.initial.self.structure.size l.levels
    × CanEvaluate l.initial.self.structure l.a (sizes_in l.initial.self) (under_run l.levels (form_of l.part))
    × (owed (structure_of l.initial.self.structure) l.initial.self.structure.size (assignment_of l.a) l.levels (form_of l.part)
    (value (structure_of l.initial.self.structure) (placed (assignment_of l.a) l.levels) (form_of l.part))
    ≡ value (structure_of l.initial.self.structure) (assignment_of l.a) (under_run l.initial.levels (form_of l.part)))

abbrev pub decreases-one_by_one-loop-whole : goal.decreases-one_by_one-loop-whole
decreases-one_by_one-loop-whole l = left l.initial.self.structure.size l.levels

abbrev pub decreases-link_by_link : goal.decreases-link_by_link
decreases-link_by_link l = 16 * height (form_of l.part.now) + 9

-- the row has the values of what is left behind the quantifier at hand
abbrev pub invariant-link_by_link-loop-k : goal.invariant-link_by_link-loop-k
invariant-link_by_link-loop-k l =
    (l.self ≡ l.initial.self)
    × (l.k < length l.levels)
    × ((level : Level) (inner : List Level) → drop l.k l.levels ≡ level ∷ inner
    → l.row ≡ rest_along l.initial.self.structure (assignment_of l.a) l.sign level.var.0 inner (parts_of l.sign (form_of l.part)))

abbrev pub decreases-link_by_link-loop-k : goal.decreases-link_by_link-loop-k
decreases-link_by_link-loop-k l = l.k

-- the values so far are those of what is left behind the outer quantifier
abbrev pub invariant-linked_row-loop-u : goal.invariant-linked_row-loop-u
invariant-linked_row-loop-u l =
    (l.self ≡ l.initial.self)
    × HasValues l.initial.self.structure.size l.u (λ w. pushed l.sign (structure_of l.initial.self.structure) (put (assignment_of l.a) l.outer.var.0 w)
    (l.link.level ∷ l.link.inner.now) (parts_of l.sign (form_of l.part))) l.values
    × IsLike l.a l.outer.var.0 l.here

-- the greatest value of the words so far, with the greatest of the others, gives the whole
abbrev pub invariant-linked_value-loop-chunk : goal.invariant-linked_value-loop-chunk
invariant-linked_value-loop-chunk l =
    let g : ℕ → K3 = λ u. turned l.q (smaller_of
    (least_part (is_taken l.link.is_first l.link.level.var.0 l.link.inner.now) (structure_of l.initial.self.structure)
    (put (assignment_of l.a) l.link.level.var.0 u) (parts_of l.sign (form_of l.part))) (get_or l.row u No))
    in (l.self ≡ l.initial.self)
    × (larger_of l.most (greatest_of g (range_with_len (64 * l.chunk) (l.initial.self.structure.size - 64 * l.chunk)))
    ≡ greatest_of g (range_with_len 0 l.initial.self.structure.size))

abbrev pub decreases-linked_row : goal.decreases-linked_row
decreases-linked_row l = 16 * height (form_of l.part.now) + 8

abbrev pub decreases-linked_value : goal.decreases-linked_value
decreases-linked_value l = 16 * height (form_of l.part.now) + 7

abbrev pub decreases-linked_word : goal.decreases-linked_word
decreases-linked_word l = 16 * height (form_of l.f.now) + 6
