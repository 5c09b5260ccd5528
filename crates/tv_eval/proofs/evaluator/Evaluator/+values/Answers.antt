-- The values of the parts make up the value of the whole.
use Rattle.std.proofs.Common.{rules, List, ⊎_elim, ℕ, ◌≡◌, ◌<◌, ◌≤◌, ◌+◌, ◌-◌, ◌*◌, ◌∙◌, inl, inr, [], length}
use Rattle.std.proofs.Common.{map}
use Rattle.std.proofs.Common.{min, get_or, drop, ◌∷◌, ne_eqb}
use Rattle.std.proofs.Common.{refl}
use Rattle.std.proofs.Common.{sym, ap, subst, arith}
use Rattle.std.specs.List.{range_with_len}
use Rattle.std.specs.Prelude.{true, false}
use Rattle.tv_kleene.specs.declared.K3.{K3}
use Rattle.tv_kleene.specs.declared.K3.TheVariants.{No, Yes}
use Rattle.tv_kleene.specs.Kleene.{smaller_of, larger_of, negation_of}
use Rattle.tv_model.specs.Form.{Form, FExists, FClosure, form_of, height}
use Rattle.tv_model.specs.Truth.{Assignment, put}
use Rattle.tv_row.specs.Places.{entry_in}
use Rattle.tv_structure_form.specs.StructureForm.{arities_of, structure_of}
use Rattle.tv_eval_laws.specs.Value.{value, greatest_of, best_walk}
use Rattle.tv_eval.specs.Along.{IsWordOf, values_along}
use Rattle.tv_eval.specs.AssignmentForm.{assignment_of}
use Rattle.tv_eval.specs.CanEvaluate.{CanEvaluate}
use Rattle.tv_eval.specs.EvaluatorForm.{sizes_in, with_one_back, with_one_out}
use Rattle.tv_eval.proofs.Rooms.{SplitsRooms, back-again, can-same, chunk-same, rooms-split, word-same}
use Rattle.tv_struct.specs.StructureRows.{HasArity}
use Rattle.tv_structure_form.specs.StructureForm.{value_at}
use Rattle.tv_eval.specs.Formulas.{nesting}
use Rattle.tv_eval.specs.HoldsClosure.{HoldsClosure}
use Rattle.tv_quantifiers.specs.Quantified.{quantified, turned}
use Rattle.tv_quantifiers.specs.declared.quantifier.Quantifier.TheVariants.{Exists}
use Rattle.tv_quantifiers.specs.Rows.{IsSquare, part_at}
use Rattle.tv_quantifiers.specs.declared.relation.Part.TheVariants.{From, To, Diagonal}
use Rattle.tv_eval.proofs.AlongLaws.{atom_two, rows_put, put_same, put_other, put_steady, puts_commute}
use Rattle.tv_eval.proofs.AlongLaws.{closure_at}
use Rattle.tv_eval.proofs.AlongWords.{JoinedTo, same-word, of-paired, of-mapped, mapped-word}
use Rattle.tv_eval.proofs.AlongWords.{both-none, none-both, either-all, all-either}
use Rattle.tv_eval.proofs.AlongWords.{then-all, then-none}
use Rattle.tv_eval.proofs.AlongWords.{joined-none, joined-next, joined-all, joined-yes, greatest-chunk}
use Rattle.tv_eval.proofs.AlongWords.{greatest-chunks, word-reads, words-none, words-next, words-all}
use Rattle.tv_eval.proofs.Capping.{joined-skip, caps-all, caps-first, caps-rule, front-caps}
use Rattle.tv_eval.proofs.Capping.{lies-within}
use Rattle.tv_eval.proofs.Capping.{stands-none, stands-skip, stands-next, stands-all, turned-none}
use Rattle.tv_eval.proofs.Capping.{height-quantified}
use Rattle.tv_eval.proofs.Runs.{whole-parts}
use Rattle.tv_eval.specs.Caps.{IsCapRow, IsCapWord, IsRuledOut}
use Rattle.tv_eval.proofs.Keeping.{closed_are_held, part_held}
use Rattle.tv_eval.proofs.Loops.{greatest-yes, told-equal}
use Rattle.tv_eval.proofs.Parts.{individual_of, can-put, like-itself, like-again}
use Rattle.tv_eval.proofs.Parts.{put-again, total-again, row-iff, row-cond, row-put}
use Rattle.tv_eval.proofs.Parts.{row-steady}
use Rattle.tv_quantifiers.proofs.Quantifying.{quantified-value}
use Rattle.tv_quantifiers.specs.Runs.{under_run}
use Rattle.tv_quantifiers.proofs.Running.{fresh-within, owed-fresh, range-all}
use Rattle.tv_quantifiers.proofs.Opening.{formula-over}
use Rattle.tv_model.specs.Valid.{IsFormulaOver}
use Rattle.tv_eval.proofs.Runs.{are-variables, can-open}
use Rattle.tv_eval.proofs.Linked.{can-take-first, can-take-two, least-chosen, least-other, least-two}
use Rattle.tv_eval.proofs.Linked.{linked-drop}
use Rattle.tv_eval.proofs.Linked.{linked-next, linked-whole, none-left, outer-variable, parts-are, rest-long}
use Rattle.tv_eval.proofs.Linked.{rest-none, rest-same, take-put, take-split, two-behind, values-all}
use Rattle.tv_eval.proofs.Linked.{values-next}
use Rattle.tv_eval.proofs.Linked.{values-none}
use Rattle.tv_eval.specs.Linked.{CanTake, rest_along}
use Rattle.tv_quantifiers.specs.Chains.{AreLinked, across, best, is_taken, least_part, parts_of, pushed}
use Rattle.tv_quantifiers.specs.Runs.{AreFresh}
use Rattle.tv_eval.proofs.evaluator.Evaluator.+values.Goals as goal

pub value_by_parts-returns-in-Exists-clause-exact : goal.value_by_parts-returns-in-Exists-clause-exact
value_by_parts-returns-in-Exists-clause-exact t c =
    rw (c.in-Exists.is, ← c.deref-in-Exists.ensures) c.quantify.ensures.exact

pub value_by_parts-returns-in-Forall-clause-exact : goal.value_by_parts-returns-in-Forall-clause-exact
value_by_parts-returns-in-Forall-clause-exact t c =
    rw (c.in-Forall.is, ← c.deref-in-Forall.ensures) c.quantify-in-Forall.ensures.exact

pub value_by_parts-returns-in-Closure-clause-exact : goal.value_by_parts-returns-in-Closure-clause-exact
value_by_parts-returns-in-Closure-clause-exact t c =
    rw (c.in-Closure.is, ← c.deref-in-Closure.ensures) c.closure.ensures.exact

pub closure-returns-clause-exact : goal.closure-returns-clause-exact
closure-returns-clause-exact t c =
    let edge : ℕ → ℕ → K3 = (best_walk (λ x y. value (structure_of c.args.self.now.structure)
    (put (put (assignment_of c.args.a.now) c.args.edges.left.0 x) c.args.edges.right.0 y)
    (form_of c.args.edges.body.now)) (range_with_len 0 c.args.self.now.structure.size))
    in word-reads c.args.self.now.structure.size c.at-to.result (part_at (From c.at.result) edge) c.closed_part-word.result
    c.get.result c.closed_part-word.ensures.exact c.get.ensures
    (omega (
      arith,
      c.at-to.ensures,
      individual_of c.args.self.now.structure.size c.args.a.now c.args.to.0
          (c.requires.parts.assigned c.args.to.0 (inr (inl refl))),
    ))
    ∙ ap (λ x. edge x c.at-to.result) c.at.ensures
    ∙ ap (edge (assignment_of c.args.a.now c.args.from.0)) c.at-to.ensures

pub fill-put_rows-requires-clause-arity : goal.fill-put_rows-requires-clause-arity
fill-put_rows-requires-clause-arity t c =
    subst (λ s. HasArity s c.in-Some.pred.0 2) (sym c.structure.ensures)
    (subst (IsFormulaOver (arities_of c.args.self.now.structure)) c.in-Some.ensures.0 c.requires.body.formula.1.1).0

pub fill-returns-in-Some-clause-edges : goal.fill-returns-in-Some-clause-edges
fill-returns-in-Some-clause-edges t c = λ u w lu lw.
    let edges : (u w : ℕ) → u < c.args.self.now.structure.size → w < c.args.self.now.structure.size
    → entry_in c.put_rows.new.relation u w ≡ value_at c.args.self.now.structure c.in-Some.pred.0 (u ∷ w ∷ []) =
    subst (λ s. (u w : ℕ) → u < s.size → w < s.size
    → entry_in c.put_rows.new.relation u w ≡ value_at s c.in-Some.pred.0 (u ∷ w ∷ [])) c.structure.ensures
    c.put_rows.ensures.edges
    in let a : Assignment = assignment_of c.args.a.now
    in let left : ℕ = c.args.edges.left.0
    in let right : ℕ = c.args.edges.right.0
    in subst (λ k. entry_in c.put_rows.new.relation u w
    ≡ value (structure_of c.args.self.now.structure) (put (put a left u) right w) k) (sym c.in-Some.ensures.0)
    (edges u w lu lw
    ∙ atom_two c.args.self.now.structure (put a left u) c.in-Some.pred.0 left right right w u w
    (sym (put_other (put a left u) right w left c.in-Some.ensures.1 ∙ put_same a left u left refl))
    (sym (put_same (put a left u) right w right refl)))

pub fill-loop-u-init : goal.fill-loop-u-init
fill-loop-u-init t c = (
  refl,
  refl,
  λ v lt. absurd (omega arith),
  λ v x lt lx. absurd (omega arith),
  like-itself c.args.a.now c.args.edges.left.0,
)

pub fill-row_of-row-requires : goal.fill-row_of-row-requires
fill-row_of-row-requires t c = (
  search rules,
  can-same (sym c.loop-u.invariant.0) c.set.new.self (FExists c.args.edges.right.0 (form_of c.args.edges.body.now))
      (can-put c.args.self.now.structure c.args.a.now c.set.new.self (sizes_in c.args.self.now) c.args.edges.left.0 c.loop-u.u
      (FExists c.args.edges.right.0 (form_of c.args.edges.body.now)) c.requires.body (omega (arith, c.size-individuals.ensures.size))
      (put-again c.args.a.now c.loop-u.here c.set.new.self c.args.edges.left.0 c.loop-u.u c.loop-u.invariant.4
      c.set.ensures.places)),
)

pub fill-loop-u-preserved : goal.fill-loop-u-preserved
fill-loop-u-preserved t c =
    let edge : ℕ → ℕ → K3 = (λ x y. value (structure_of c.args.self.now.structure)
    (put (put (assignment_of c.args.a.now) c.args.edges.left.0 x) c.args.edges.right.0 y)
    (form_of c.args.edges.body.now))
    in let along : c.row_of-row.result ≡ map (edge c.loop-u.u) (range_with_len 0 c.args.self.now.structure.size) =
    c.row_of-row.ensures.exact
    ∙ ap (λ e. values_along e.structure (assignment_of c.set.new.self) c.args.edges.right.0 (form_of c.args.edges.body.now)) c.loop-u.invariant.0
    ∙ ap (λ b. values_along c.args.self.now.structure b c.args.edges.right.0
    (form_of c.args.edges.body.now)) (total-again c.args.a.now c.loop-u.here c.set.new.self c.args.edges.left.0 c.loop-u.u
    c.loop-u.invariant.4 c.set.ensures.places)
    in let put : (length c.put_row.new.self ≡ length c.loop-u.relation)
    × ((v : ℕ) → v < c.loop-u.u + 1 → length (get_or c.put_row.new.self v []) ≡ c.args.self.now.structure.size)
    × ((v x : ℕ) → v < c.loop-u.u + 1 → x < c.args.self.now.structure.size → entry_in c.put_row.new.self v x ≡ edge v x) =
    rows_put c.loop-u.relation c.put_row.new.self c.args.self.now.structure.size c.loop-u.u c.row_of-row.result edge
    (omega arith) (omega (arith, c.size-individuals.ensures.size)) along
    c.put_row.ensures c.loop-u.invariant.2 c.loop-u.invariant.3
    in (
      c.row_of-row.ensures.same ∙ c.loop-u.invariant.0,
      put.0 ∙ c.loop-u.invariant.1,
      put.1,
      put.2,
      like-again c.args.a.now c.loop-u.here c.set.new.self c.args.edges.left.0 c.loop-u.u c.loop-u.invariant.4
          c.set.ensures.places,
    )

pub row_of_few-returns-clause-exact : goal.row_of_few-returns-clause-exact
row_of_few-returns-clause-exact t c =
    let g : ℕ → K3 = λ u. value (structure_of c.args.self.now.structure) (put (assignment_of c.args.a.now) c.args.v.0 u)
    (form_of c.args.f.now)
    in words-all c.args.self.now.structure.size 1 g c.put_word.new.self
    (words-next c.args.self.now.structure.size 0 g c.of-values.result c.put_word.new.self c.word_of-word.result
    (words-none c.args.self.now.structure.size c.size-individuals.result g c.of-values.result c.of-values.ensures c.size-individuals.ensures.size)
    c.word_of-word.ensures.exact c.put_word.ensures.size c.put_word.ensures.values c.put_word.ensures.others)
    (omega arith)

pub row_of-loop-chunk-init : goal.row_of-loop-chunk-init
row_of-loop-chunk-init t c = (
  refl,
  words-none c.args.self.now.structure.size c.size-individuals.result (λ u. value (structure_of c.args.self.now.structure) (put (assignment_of c.args.a.now) c.args.v.0 u)
      (form_of c.args.f.now))
      c.of-values.result c.of-values.ensures c.size-individuals.ensures.size,
)

pub row_of-word_of-word-requires : goal.row_of-word_of-word-requires
row_of-word_of-word-requires t c = (
  search rules,
  (
    can-same (sym c.loop-chunk.invariant.0) c.args.a.now (FExists c.args.v.0 (form_of c.args.f.now)) c.requires.parts,
    subst (λ e. 64 * c.loop-chunk.chunk < e.structure.size) (sym c.loop-chunk.invariant.0)
        (omega (arith, c.chunks-chunk-end.ensures.each c.loop-chunk.chunk (omega arith), c.size-individuals.ensures.size)),
  ),
)

pub row_of-loop-chunk-preserved : goal.row_of-loop-chunk-preserved
row_of-loop-chunk-preserved t c = (
  c.word_of-word.ensures.same ∙ c.loop-chunk.invariant.0,
  words-next c.args.self.now.structure.size c.loop-chunk.chunk (λ u. value (structure_of c.args.self.now.structure) (put (assignment_of c.args.a.now) c.args.v.0 u)
      (form_of c.args.f.now))
      c.loop-chunk.values c.put_word.new.self c.word_of-word.result c.loop-chunk.invariant.1
      (word-same c.loop-chunk.invariant.0 (assignment_of c.args.a.now) c.args.v.0 c.loop-chunk.chunk (form_of c.args.f.now) c.word_of-word.result c.word_of-word.ensures.exact) c.put_word.ensures.size c.put_word.ensures.values c.put_word.ensures.others,
)

pub row_of-returns-clause-exact : goal.row_of-returns-clause-exact
row_of-returns-clause-exact t c =
    words-all c.args.self.now.structure.size c.loop-chunk.chunk (λ u. value (structure_of c.args.self.now.structure) (put (assignment_of c.args.a.now) c.args.v.0 u)
    (form_of c.args.f.now))
    c.loop-chunk.values c.loop-chunk.invariant.1 (omega (arith, c.chunks-chunk-end.ensures.all))

pub word_by_parts-returns-in-Zero-clause-exact : goal.word_by_parts-returns-in-Zero-clause-exact
word_by_parts-returns-in-Zero-clause-exact t c =
    rw c.in-Zero.is (c.constant_word.ensures c.args.self.now.structure.size c.args.chunk)

pub word_by_parts-returns-in-One-clause-exact : goal.word_by_parts-returns-in-One-clause-exact
word_by_parts-returns-in-One-clause-exact t c =
    rw c.in-One.is (c.constant_word-in-One.ensures c.args.self.now.structure.size c.args.chunk)

pub words_negated-returns-clause-exact : goal.words_negated-returns-clause-exact
words_negated-returns-clause-exact t c =
    of-mapped c.args.self.now.structure.size c.args.chunk c.places.result negation_of
    (λ u. value (structure_of c.args.self.now.structure) (put (assignment_of c.args.a.now) c.args.v.0 u) (form_of c.args.g.now))
    c.word_of.result c.not.result c.word_of.ensures.exact (c.places.ensures.value ∙ (rw c.size-individuals.ensures.size refl))
    c.not.ensures

pub words_both-returns-then-eq-clause-exact : goal.words_both-returns-then-eq-clause-exact
words_both-returns-then-eq-clause-exact t c =
    none-both c.args.self.now.structure.size c.args.chunk (λ u. value (structure_of c.args.self.now.structure) (put (assignment_of c.args.a.now) c.args.v.0 u) (form_of c.args.h.now))
    c.word_of-second.result c.word_of-second.ensures.exact
    (λ u. value (structure_of c.args.self.now.structure) (put (assignment_of c.args.a.now) c.args.v.0 u) (form_of c.args.g.now))
    (sym c.greatest.ensures ∙ told-equal c.greatest.result No c.eq.result c.eq.ensures.same c.if-eq.true)

pub words_both-returns-then-is_literal-clause-exact : goal.words_both-returns-then-is_literal-clause-exact
words_both-returns-then-is_literal-clause-exact t c =
    of-paired c.args.self.now.structure.size c.args.chunk smaller_of (λ u. value (structure_of c.args.self.now.structure) (put (assignment_of c.args.a.now) c.args.v.0 u) (form_of c.args.g.now))
    (λ u. value (structure_of c.args.self.now.structure) (put (assignment_of c.args.a.now) c.args.v.0 u) (form_of c.args.h.now))
    c.word_of.result c.word_of-second.result c.and.result (word-same c.word_of-second.ensures.same (assignment_of c.args.a.now) c.args.v.0 c.args.chunk (form_of c.args.g.now) c.word_of.result c.word_of.ensures.exact) c.word_of-second.ensures.exact c.and.ensures

pub words_both-returns-then-eq-2-clause-exact : goal.words_both-returns-then-eq-2-clause-exact
words_both-returns-then-eq-2-clause-exact t c =
    both-none c.args.self.now.structure.size c.args.chunk (λ u. value (structure_of c.args.self.now.structure) (put (assignment_of c.args.a.now) c.args.v.0 u) (form_of c.args.g.now))
    c.word_of-first.result c.word_of-first.ensures.exact
    (λ u. value (structure_of c.args.self.now.structure) (put (assignment_of c.args.a.now) c.args.v.0 u) (form_of c.args.h.now))
    (sym c.greatest-2.ensures ∙ told-equal c.greatest-2.result No c.eq-2.result c.eq-2.ensures.same c.if-eq-2.true)

pub words_both-returns-clause-exact : goal.words_both-returns-clause-exact
words_both-returns-clause-exact t c =
    of-paired c.args.self.now.structure.size c.args.chunk smaller_of (λ u. value (structure_of c.args.self.now.structure) (put (assignment_of c.args.a.now) c.args.v.0 u) (form_of c.args.g.now))
    (λ u. value (structure_of c.args.self.now.structure) (put (assignment_of c.args.a.now) c.args.v.0 u) (form_of c.args.h.now))
    c.word_of-first.result c.word_of-2.result c.and-2.result c.word_of-first.ensures.exact
    (word-same c.word_of-first.ensures.same (assignment_of c.args.a.now) c.args.v.0 c.args.chunk (form_of c.args.h.now) c.word_of-2.result c.word_of-2.ensures.exact) c.and-2.ensures

pub words_either-returns-then-eq-clause-exact : goal.words_either-returns-then-eq-clause-exact
words_either-returns-then-eq-clause-exact t c =
    all-either c.args.self.now.structure.size c.args.chunk (λ u. value (structure_of c.args.self.now.structure) (put (assignment_of c.args.a.now) c.args.v.0 u) (form_of c.args.h.now))
    c.word_of-second.result c.word_of-second.ensures.exact
    (λ u. value (structure_of c.args.self.now.structure) (put (assignment_of c.args.a.now) c.args.v.0 u) (form_of c.args.g.now))
    c.places-count.result (c.places-count.ensures.value ∙ (rw c.size.ensures.size refl)) (sym c.least.ensures ∙ told-equal c.least.result Yes c.eq.result c.eq.ensures.same c.if-eq.true)

pub words_either-returns-then-is_literal-clause-exact : goal.words_either-returns-then-is_literal-clause-exact
words_either-returns-then-is_literal-clause-exact t c =
    of-paired c.args.self.now.structure.size c.args.chunk larger_of (λ u. value (structure_of c.args.self.now.structure) (put (assignment_of c.args.a.now) c.args.v.0 u) (form_of c.args.g.now))
    (λ u. value (structure_of c.args.self.now.structure) (put (assignment_of c.args.a.now) c.args.v.0 u) (form_of c.args.h.now))
    c.word_of.result c.word_of-second.result c.or.result (word-same c.word_of-second.ensures.same (assignment_of c.args.a.now) c.args.v.0 c.args.chunk (form_of c.args.g.now) c.word_of.result c.word_of.ensures.exact) c.word_of-second.ensures.exact c.or.ensures

pub words_either-returns-then-eq-2-clause-exact : goal.words_either-returns-then-eq-2-clause-exact
words_either-returns-then-eq-2-clause-exact t c =
    either-all c.args.self.now.structure.size c.args.chunk (λ u. value (structure_of c.args.self.now.structure) (put (assignment_of c.args.a.now) c.args.v.0 u) (form_of c.args.g.now))
    c.word_of-first.result c.word_of-first.ensures.exact
    (λ u. value (structure_of c.args.self.now.structure) (put (assignment_of c.args.a.now) c.args.v.0 u) (form_of c.args.h.now))
    c.places-count.result (c.places-count.ensures.value ∙ (rw c.size.ensures.size refl)) (sym c.least-2.ensures ∙ told-equal c.least-2.result Yes c.eq-2.result c.eq-2.ensures.same c.if-eq-2.true)

pub words_either-returns-clause-exact : goal.words_either-returns-clause-exact
words_either-returns-clause-exact t c =
    of-paired c.args.self.now.structure.size c.args.chunk larger_of (λ u. value (structure_of c.args.self.now.structure) (put (assignment_of c.args.a.now) c.args.v.0 u) (form_of c.args.g.now))
    (λ u. value (structure_of c.args.self.now.structure) (put (assignment_of c.args.a.now) c.args.v.0 u) (form_of c.args.h.now))
    c.word_of-first.result c.word_of-2.result c.or-2.result c.word_of-first.ensures.exact
    (word-same c.word_of-first.ensures.same (assignment_of c.args.a.now) c.args.v.0 c.args.chunk (form_of c.args.h.now) c.word_of-2.result c.word_of-2.ensures.exact) c.or-2.ensures

pub words_alike-word_of-second-requires : goal.words_alike-word_of-second-requires
words_alike-word_of-second-requires t c = (
  search rules,
  (can-same (sym c.word_of-first.ensures.same) c.args.a.now (FExists c.args.v.0 (form_of c.args.h.now)) (row-iff c.args.self.now.structure c.args.a.now (sizes_in c.args.self.now) c.args.v.0 (form_of c.args.g.now) (form_of c.args.h.now) c.requires.parts).1, chunk-same (sym c.word_of-first.ensures.same) c.args.chunk c.requires.chunk),
)

pub words_alike-returns-clause-exact : goal.words_alike-returns-clause-exact
words_alike-returns-clause-exact t c =
    let n : ℕ = c.args.self.now.structure.size
    in let k : ℕ = c.args.chunk
    in let g : ℕ → K3 = (λ u. value (structure_of c.args.self.now.structure) (put (assignment_of c.args.a.now) c.args.v.0 u)
    (form_of c.args.g.now))
    in let h : ℕ → K3 = (λ u. value (structure_of c.args.self.now.structure) (put (assignment_of c.args.a.now) c.args.v.0 u)
    (form_of c.args.h.now))
    in let count : c.places-count.result ≡ min 64 (n - 64 * k) = (c.places-count.ensures.value ∙ (rw c.size.ensures.size refl))
    in of-paired n k smaller_of (λ u. larger_of (negation_of (g u)) (h u)) (λ u. larger_of (negation_of (h u)) (g u))
    c.or-forth.result c.or.result c.and.result
    (of-paired n k larger_of (λ u. negation_of (g u)) h c.not.result c.word_of-second.result c.or-forth.result
    (of-mapped n k c.places-count.result negation_of g c.word_of-first.result c.not.result c.word_of-first.ensures.exact count
    c.not.ensures) (word-same c.word_of-first.ensures.same (assignment_of c.args.a.now) c.args.v.0 c.args.chunk (form_of c.args.h.now) c.word_of-second.result c.word_of-second.ensures.exact) c.or-forth.ensures)
    (of-paired n k larger_of (λ u. negation_of (h u)) g c.not-2.result c.word_of-first.result c.or.result
    (of-mapped n k c.places-count.result negation_of h c.word_of-second.result c.not-2.result (word-same c.word_of-first.ensures.same (assignment_of c.args.a.now) c.args.v.0 c.args.chunk (form_of c.args.h.now) c.word_of-second.result c.word_of-second.ensures.exact) count
    c.not-2.ensures) c.word_of-first.ensures.exact c.or.ensures)
    c.and.ensures

pub words_choice-word_of-requires : goal.words_choice-word_of-requires
words_choice-word_of-requires t c = (
  search rules,
  (can-same (sym c.word_of-condition.ensures.same) c.args.a.now (FExists c.args.v.0 (form_of c.args.g.now)) (row-cond c.args.self.now.structure c.args.a.now (sizes_in c.args.self.now) c.args.v.0 (form_of c.args.c.now) (form_of c.args.g.now) (form_of c.args.h.now) c.requires.parts).1, chunk-same (sym c.word_of-condition.ensures.same) c.args.chunk c.requires.chunk),
)

pub words_choice-word_of-requires-then-eq-2 : goal.words_choice-word_of-requires-then-eq-2
words_choice-word_of-requires-then-eq-2 t c = (
  search rules,
  (can-same (sym c.word_of-condition.ensures.same) c.args.a.now (FExists c.args.v.0 (form_of c.args.h.now)) (row-cond c.args.self.now.structure c.args.a.now (sizes_in c.args.self.now) c.args.v.0 (form_of c.args.c.now) (form_of c.args.g.now) (form_of c.args.h.now) c.requires.parts).2, chunk-same (sym c.word_of-condition.ensures.same) c.args.chunk c.requires.chunk),
)

pub words_choice-word_of-first-requires : goal.words_choice-word_of-first-requires
words_choice-word_of-first-requires t c = (
  search rules,
  (can-same (sym c.word_of-condition.ensures.same) c.args.a.now (FExists c.args.v.0 (form_of c.args.g.now)) (row-cond c.args.self.now.structure c.args.a.now (sizes_in c.args.self.now) c.args.v.0 (form_of c.args.c.now) (form_of c.args.g.now) (form_of c.args.h.now) c.requires.parts).1, chunk-same (sym c.word_of-condition.ensures.same) c.args.chunk c.requires.chunk),
)

pub words_choice-word_of-second-requires : goal.words_choice-word_of-second-requires
words_choice-word_of-second-requires t c = (
  search rules,
  (can-same (sym (c.word_of-first.ensures.same ∙ c.word_of-condition.ensures.same)) c.args.a.now (FExists c.args.v.0 (form_of c.args.h.now)) (row-cond c.args.self.now.structure c.args.a.now (sizes_in c.args.self.now) c.args.v.0 (form_of c.args.c.now) (form_of c.args.g.now) (form_of c.args.h.now) c.requires.parts).2, chunk-same (sym (c.word_of-first.ensures.same ∙ c.word_of-condition.ensures.same)) c.args.chunk c.requires.chunk),
)

pub words_choice-returns-then-eq-clause-exact : goal.words_choice-returns-then-eq-clause-exact
words_choice-returns-then-eq-clause-exact t c =
    then-all c.args.self.now.structure.size c.args.chunk (λ u. value (structure_of c.args.self.now.structure) (put (assignment_of c.args.a.now) c.args.v.0 u)
    (form_of c.args.c.now))
    c.word_of-condition.result c.word_of-condition.ensures.exact
    (λ u. value (structure_of c.args.self.now.structure) (put (assignment_of c.args.a.now) c.args.v.0 u)
    (form_of c.args.g.now))
    (λ u. value (structure_of c.args.self.now.structure) (put (assignment_of c.args.a.now) c.args.v.0 u)
    (form_of c.args.h.now))
    c.word_of.result c.places-count.result (c.places-count.ensures.value ∙ (rw c.size.ensures.size refl))
    (sym c.least.ensures ∙ told-equal c.least.result Yes c.eq.result c.eq.ensures.same c.if-eq.true) (word-same c.word_of-condition.ensures.same (assignment_of c.args.a.now) c.args.v.0 c.args.chunk (form_of c.args.g.now) c.word_of.result c.word_of.ensures.exact)

pub words_choice-returns-then-eq-2-clause-exact : goal.words_choice-returns-then-eq-2-clause-exact
words_choice-returns-then-eq-2-clause-exact t c =
    then-none c.args.self.now.structure.size c.args.chunk (λ u. value (structure_of c.args.self.now.structure) (put (assignment_of c.args.a.now) c.args.v.0 u)
    (form_of c.args.c.now))
    c.word_of-condition.result c.word_of-condition.ensures.exact
    (λ u. value (structure_of c.args.self.now.structure) (put (assignment_of c.args.a.now) c.args.v.0 u)
    (form_of c.args.g.now))
    (λ u. value (structure_of c.args.self.now.structure) (put (assignment_of c.args.a.now) c.args.v.0 u)
    (form_of c.args.h.now))
    c.word_of-then-eq-2.result (sym c.greatest.ensures ∙ told-equal c.greatest.result No c.eq-2.result c.eq-2.ensures.same c.if-eq-2.true)
    (word-same c.word_of-condition.ensures.same (assignment_of c.args.a.now) c.args.v.0 c.args.chunk (form_of c.args.h.now) c.word_of-then-eq-2.result c.word_of-then-eq-2.ensures.exact)

pub words_choice-returns-clause-exact : goal.words_choice-returns-clause-exact
words_choice-returns-clause-exact t c =
    let n : ℕ = c.args.self.now.structure.size
    in let k : ℕ = c.args.chunk
    in let condition : ℕ → K3 = (λ u. value (structure_of c.args.self.now.structure) (put (assignment_of c.args.a.now) c.args.v.0 u)
    (form_of c.args.c.now))
    in let g : ℕ → K3 = (λ u. value (structure_of c.args.self.now.structure) (put (assignment_of c.args.a.now) c.args.v.0 u)
    (form_of c.args.g.now))
    in let h : ℕ → K3 = (λ u. value (structure_of c.args.self.now.structure) (put (assignment_of c.args.a.now) c.args.v.0 u)
    (form_of c.args.h.now))
    in of-paired n k larger_of (λ u. smaller_of (condition u) (g u)) (λ u. smaller_of (negation_of (condition u)) (h u))
    c.and-then.result c.and-otherwise.result c.or.result
    (of-paired n k smaller_of condition g c.word_of-condition.result c.word_of-first.result c.and-then.result
    c.word_of-condition.ensures.exact (word-same c.word_of-condition.ensures.same (assignment_of c.args.a.now) c.args.v.0 c.args.chunk (form_of c.args.g.now) c.word_of-first.result c.word_of-first.ensures.exact) c.and-then.ensures)
    (of-paired n k smaller_of (λ u. negation_of (condition u)) h c.not.result c.word_of-second.result
    c.and-otherwise.result
    (of-mapped n k c.places-count.result negation_of condition c.word_of-condition.result c.not.result
    c.word_of-condition.ensures.exact (c.places-count.ensures.value ∙ (rw c.size.ensures.size refl)) c.not.ensures)
    (word-same (c.word_of-first.ensures.same ∙ c.word_of-condition.ensures.same) (assignment_of c.args.a.now) c.args.v.0 c.args.chunk (form_of c.args.h.now) c.word_of-second.result c.word_of-second.ensures.exact) c.and-otherwise.ensures)
    c.or.ensures

pub closure_word-returns-then-to-v-clause-exact : goal.closure_word-returns-then-to-v-clause-exact
closure_word-returns-then-to-v-clause-exact t c =
    same-word c.args.self.now.structure.size c.args.chunk (part_at (Diagonal) (best_walk (λ x y. value (structure_of c.args.self.now.structure)
    (put (put (assignment_of c.args.a.now) c.args.edges.left.0 x) c.args.edges.right.0 y)
    (form_of c.args.edges.body.now)) (range_with_len 0 c.args.self.now.structure.size)))
    (λ u. value (structure_of c.args.self.now.structure) (put (assignment_of c.args.a.now) c.args.v.0 u)
    (FClosure c.args.from.0 c.args.to.0 c.args.edges.left.0 c.args.edges.right.0
    (form_of c.args.edges.body.now)))
    c.closed_part.result c.closed_part.ensures.exact
    (λ u lt. closure_at c.args.self.now.structure (assignment_of c.args.a.now) c.args.v.0 u c.args.from.0 c.args.to.0
    c.args.edges.left.0 c.args.edges.right.0 (form_of c.args.edges.body.now) c.requires.steady u u
    (sym (put_same (assignment_of c.args.a.now) c.args.v.0 u c.args.from.0 c.if-from-v.true))
    (sym (put_same (assignment_of c.args.a.now) c.args.v.0 u c.args.to.0 c.if-to-v.true)))

pub closure_word-returns-then-from-v-clause-exact : goal.closure_word-returns-then-from-v-clause-exact
closure_word-returns-then-from-v-clause-exact t c =
    same-word c.args.self.now.structure.size c.args.chunk (part_at (To c.at.result) (best_walk (λ x y. value (structure_of c.args.self.now.structure)
    (put (put (assignment_of c.args.a.now) c.args.edges.left.0 x) c.args.edges.right.0 y)
    (form_of c.args.edges.body.now)) (range_with_len 0 c.args.self.now.structure.size)))
    (λ u. value (structure_of c.args.self.now.structure) (put (assignment_of c.args.a.now) c.args.v.0 u)
    (FClosure c.args.from.0 c.args.to.0 c.args.edges.left.0 c.args.edges.right.0
    (form_of c.args.edges.body.now)))
    c.closed_part-then-from-v.result c.closed_part-then-from-v.ensures.exact
    (λ u lt. closure_at c.args.self.now.structure (assignment_of c.args.a.now) c.args.v.0 u c.args.from.0 c.args.to.0
    c.args.edges.left.0 c.args.edges.right.0 (form_of c.args.edges.body.now) c.requires.steady u c.at.result
    (sym (put_same (assignment_of c.args.a.now) c.args.v.0 u c.args.from.0 c.if-from-v.true))
    (c.at.ensures ∙ sym (put_other (assignment_of c.args.a.now) c.args.v.0 u c.args.to.0 c.if-to-v.false)))

pub closure_word-returns-then-to-v-2-clause-exact : goal.closure_word-returns-then-to-v-2-clause-exact
closure_word-returns-then-to-v-2-clause-exact t c =
    same-word c.args.self.now.structure.size c.args.chunk (part_at (From c.at-then-to-v-2.result) (best_walk (λ x y. value (structure_of c.args.self.now.structure)
    (put (put (assignment_of c.args.a.now) c.args.edges.left.0 x) c.args.edges.right.0 y)
    (form_of c.args.edges.body.now)) (range_with_len 0 c.args.self.now.structure.size)))
    (λ u. value (structure_of c.args.self.now.structure) (put (assignment_of c.args.a.now) c.args.v.0 u)
    (FClosure c.args.from.0 c.args.to.0 c.args.edges.left.0 c.args.edges.right.0
    (form_of c.args.edges.body.now)))
    c.closed_part-then-to-v-2.result c.closed_part-then-to-v-2.ensures.exact
    (λ u lt. closure_at c.args.self.now.structure (assignment_of c.args.a.now) c.args.v.0 u c.args.from.0 c.args.to.0
    c.args.edges.left.0 c.args.edges.right.0 (form_of c.args.edges.body.now) c.requires.steady c.at-then-to-v-2.result u
    (c.at-then-to-v-2.ensures ∙ sym (put_other (assignment_of c.args.a.now) c.args.v.0 u c.args.from.0 c.if-from-v.false))
    (sym (put_same (assignment_of c.args.a.now) c.args.v.0 u c.args.to.0 c.if-to-v-2.true)))

pub closure_word-returns-clause-exact : goal.closure_word-returns-clause-exact
closure_word-returns-clause-exact t c =
    let f : Form = FClosure c.args.from.0 c.args.to.0 c.args.edges.left.0 c.args.edges.right.0
    (form_of c.args.edges.body.now)
    in same-word c.args.self.now.structure.size c.args.chunk (λ u. c.closure.result)
    (λ u. value (structure_of c.args.self.now.structure) (put (assignment_of c.args.a.now) c.args.v.0 u) f)
    c.constant_word.result (c.constant_word.ensures c.args.self.now.structure.size c.args.chunk)
    (λ u lt. c.closure.ensures.exact
    ∙ put_steady c.args.self.now.structure (assignment_of c.args.a.now) c.args.v.0 u f
    (⊎_elim (λ e. c.if-from-v.false (sym e))
    (λ other. ⊎_elim (λ e. c.if-to-v-2.false (sym e)) c.requires.steady other)))

pub quantify_anew-loop-chunk-init : goal.quantify_anew-loop-chunk-init
quantify_anew-loop-chunk-init t c =
    let g : ℕ → K3 = λ u. turned c.args.q (value (structure_of c.args.self.now.structure)
    (put (assignment_of c.args.a.now) c.args.v.0 u) (form_of c.args.body.now))
    in let whole : c.args.self.now.structure.size - 64 * 0 ≡ c.args.self.now.structure.size = omega arith
    in (refl, ap (λ m. greatest_of g (range_with_len 0 m)) whole)

pub quantify_anew-word_of-word-requires : goal.quantify_anew-word_of-word-requires
quantify_anew-word_of-word-requires t c = (
  search rules,
  (
    can-same (sym c.loop-chunk.invariant.0) c.args.a.now (FExists c.args.v.0 (form_of c.args.body.now)) c.requires.parts,
    subst (λ e. 64 * c.loop-chunk.chunk < e.structure.size) (sym c.loop-chunk.invariant.0)
        (omega (arith, c.chunks-chunk-end.ensures.each c.loop-chunk.chunk (omega arith), c.size-individuals.ensures.size)),
  ),
)

pub quantify_anew-loop-chunk-preserved : goal.quantify_anew-loop-chunk-preserved
quantify_anew-loop-chunk-preserved t c =
    let h : ℕ → K3 = λ u. value (structure_of c.args.self.now.structure) (put (assignment_of c.args.a.now) c.args.v.0 u)
    (form_of c.args.body.now)
    in let g : ℕ → K3 = λ u. turned c.args.q (h u)
    in let all : List ℕ = range_with_len 0 c.args.self.now.structure.size
    in let k : ℕ = c.loop-chunk.chunk
    in let next : larger_of c.or-found.result
    (greatest_of g (range_with_len (64 * (k + 1)) (c.args.self.now.structure.size - 64 * (k + 1)))) ≡ greatest_of g all =
    greatest-chunk c.args.self.now.structure.size k c.places.result g (map (turned c.args.q) c.word_of-word.result)
    (omega (arith, c.chunks-chunk-end.ensures.each k (omega arith), c.size-individuals.ensures.size)) (c.places.ensures.value ∙ (rw c.size-individuals.ensures.size refl))
    (mapped-word c.args.self.now.structure.size k (turned c.args.q) h c.word_of-word.result (word-same c.loop-chunk.invariant.0 (assignment_of c.args.a.now) c.args.v.0 k (form_of c.args.body.now) c.word_of-word.result c.word_of-word.ensures.exact))
    c.loop-chunk.found c.greatest.result c.or-found.result (greatest_of g all) c.turned_word-turned.result
    c.turned_word-turned.ensures c.greatest.ensures c.or-found.ensures c.loop-chunk.invariant.1
    in (c.word_of-word.ensures.same ∙ c.loop-chunk.invariant.0, next)

pub quantify_anew-returns-then-eq-clause-exact : goal.quantify_anew-returns-then-eq-clause-exact
quantify_anew-returns-then-eq-clause-exact t c =
    let h : ℕ → K3 = λ u. value (structure_of c.args.self.now.structure) (put (assignment_of c.args.a.now) c.args.v.0 u)
    (form_of c.args.body.now)
    in let g : ℕ → K3 = λ u. turned c.args.q (h u)
    in let all : List ℕ = range_with_len 0 c.args.self.now.structure.size
    in let k : ℕ = c.loop-chunk.chunk
    in let next : larger_of c.or-found.result
    (greatest_of g (range_with_len (64 * (k + 1)) (c.args.self.now.structure.size - 64 * (k + 1)))) ≡ greatest_of g all =
    greatest-chunk c.args.self.now.structure.size k c.places.result g (map (turned c.args.q) c.word_of-word.result)
    (omega (arith, c.chunks-chunk-end.ensures.each k (omega arith), c.size-individuals.ensures.size)) (c.places.ensures.value ∙ (rw c.size-individuals.ensures.size refl))
    (mapped-word c.args.self.now.structure.size k (turned c.args.q) h c.word_of-word.result (word-same c.loop-chunk.invariant.0 (assignment_of c.args.a.now) c.args.v.0 k (form_of c.args.body.now) c.word_of-word.result c.word_of-word.ensures.exact))
    c.loop-chunk.found c.greatest.result c.or-found.result (greatest_of g all) c.turned_word-turned.result
    c.turned_word-turned.ensures c.greatest.ensures c.or-found.ensures c.loop-chunk.invariant.1
    in c.turned.ensures
    ∙ ap (turned c.args.q) (greatest-yes g (range_with_len (64 * (k + 1)) (c.args.self.now.structure.size - 64 * (k + 1)))
    c.or-found.result (greatest_of g all) next (told-equal c.or-found.result Yes c.eq.result c.eq.ensures.same c.if-eq.true))
    ∙ quantified-value c.args.q (structure_of c.args.self.now.structure) (assignment_of c.args.a.now) c.args.v.0
    (form_of c.args.body.now)

pub quantify_anew-returns-clause-exact : goal.quantify_anew-returns-clause-exact
quantify_anew-returns-clause-exact t c =
    let g : ℕ → K3 = λ u. turned c.args.q (value (structure_of c.args.self.now.structure)
    (put (assignment_of c.args.a.now) c.args.v.0 u) (form_of c.args.body.now))
    in c.turned-2.ensures
    ∙ ap (turned c.args.q) (greatest-chunks c.args.self.now.structure.size c.loop-chunk.chunk g c.loop-chunk.found
    (greatest_of g (range_with_len 0 c.args.self.now.structure.size)) (omega (arith, c.chunks-chunk-end.ensures.all, c.size-individuals.ensures.size))
    c.loop-chunk.invariant.1)
    ∙ quantified-value c.args.q (structure_of c.args.self.now.structure) (assignment_of c.args.a.now) c.args.v.0
    (form_of c.args.body.now)

pub quantify_few-returns-clause-exact : goal.quantify_few-returns-clause-exact
quantify_few-returns-clause-exact t c =
    let n : ℕ = c.args.self.now.structure.size
    in let h : ℕ → K3 = λ u. value (structure_of c.args.self.now.structure) (put (assignment_of c.args.a.now) c.args.v.0 u)
    (form_of c.args.body.now)
    in let g : ℕ → K3 = λ u. turned c.args.q (h u)
    in let whole : K3 = greatest_of g (range_with_len 0 n)
    in let all : n - 64 * 0 ≡ n = omega arith
    in let next : larger_of c.greatest.result (greatest_of g (range_with_len (64 * (0 + 1)) (n - 64 * (0 + 1))))
    ≡ whole =
    greatest-chunk n 0 c.places.result g (map (turned c.args.q) c.word_of-word.result) (omega arith)
    (c.places.ensures.value ∙ (rw c.size-individuals.ensures.size refl))
    (mapped-word n 0 (turned c.args.q) h c.word_of-word.result c.word_of-word.ensures.exact)
    No c.greatest.result c.greatest.result whole c.turned_word-turned.result
    c.turned_word-turned.ensures c.greatest.ensures refl (ap (λ m. greatest_of g (range_with_len 0 m)) all)
    in c.turned.ensures
    ∙ ap (turned c.args.q) (greatest-chunks n 1 g c.greatest.result whole (omega arith) next)
    ∙ quantified-value c.args.q (structure_of c.args.self.now.structure) (assignment_of c.args.a.now) c.args.v.0
    (form_of c.args.body.now)

pub by_values-loop-i-init : goal.by_values-loop-i-init
by_values-loop-i-init t c =
    let count : c.places-count.result ≡ min 64 (c.args.self.now.structure.size - 64 * c.args.chunk) =
    c.places-count.ensures.value ∙ (rw c.size.ensures.size refl)
    in (
      refl,
      stands-none c.args.self.now.structure.size c.args.chunk c.places-count.result c.args.q (λ u. value (structure_of c.args.self.now.structure) (put (assignment_of c.args.a.now) c.args.v.0 u) (form_of c.args.f.now)) c.args.front c.of.result c.turned_word-values.result
          c.requires.front count c.of.ensures c.turned_word-values.ensures,
      like-itself c.args.a.now c.args.v.0,
      omega arith,
    )

pub by_values-value_of-requires-in-Some : goal.by_values-value_of-requires-in-Some
by_values-value_of-requires-in-Some t c =
    let count : c.places-count.result ≡ min 64 (c.args.self.now.structure.size - 64 * c.args.chunk) =
    c.places-count.ensures.value ∙ (rw c.size.ensures.size refl)
    in let lt : 64 * c.args.chunk + c.in-Some.i < c.args.self.now.structure.size =
    lies-within c.args.self.now.structure.size c.args.chunk c.places-count.result c.in-Some.i c.args.front c.first-asked.result c.requires.front.long count
    c.first-asked.ensures c.in-Some.ensures.1 c.in-Some.ensures.2
    in (
      search rules,
      can-same (sym c.loop-i.invariant.0) c.set.new.self (form_of c.args.f.now)
          (can-put c.args.self.now.structure c.args.a.now c.set.new.self (sizes_in c.args.self.now) c.args.v.0 (64 * c.args.chunk + c.in-Some.i)
          (form_of c.args.f.now) c.requires.parts lt
          (put-again c.args.a.now c.loop-i.here c.set.new.self c.args.v.0 (64 * c.args.chunk + c.in-Some.i) c.loop-i.invariant.2
          c.set.ensures.places)),
    )

pub by_values-loop-i-preserved : goal.by_values-loop-i-preserved
by_values-loop-i-preserved t c =
    let count : c.places-count.result ≡ min 64 (c.args.self.now.structure.size - 64 * c.args.chunk) =
    c.places-count.ensures.value ∙ (rw c.size.ensures.size refl)
    in let asked : IsCapWord c.args.self.now.structure.size c.args.chunk (λ u. turned c.args.q (value (structure_of c.args.self.now.structure) (put (assignment_of c.args.a.now) c.args.v.0 u) (form_of c.args.f.now)) ≡ No) c.first-asked.result =
    caps-first c.args.self.now.structure.size c.args.chunk c.places-count.result (λ u. turned c.args.q (value (structure_of c.args.self.now.structure) (put (assignment_of c.args.a.now) c.args.v.0 u) (form_of c.args.f.now)) ≡ No) c.args.front c.first-asked.result c.requires.front count
    c.first-asked.ensures
    in let u : ℕ = 64 * c.args.chunk + c.in-Some.i
    in let low : c.in-Some.i < 64 = c.in-Some.ensures.1
    in (
      c.value_of-in-Some.ensures.same ∙ c.loop-i.invariant.0,
      stands-next c.args.self.now.structure.size c.args.chunk c.in-Some.i (turned c.args.q No) c.value_of-in-Some.result (λ u. value (structure_of c.args.self.now.structure) (put (assignment_of c.args.a.now) c.args.v.0 u) (form_of c.args.f.now)) c.loop-i.values c.with-values.result
          (stands-skip c.args.self.now.structure.size c.args.chunk c.loop-i.from c.in-Some.i (turned c.args.q No) (λ u. value (structure_of c.args.self.now.structure) (put (assignment_of c.args.a.now) c.args.v.0 u) (form_of c.args.f.now)) c.loop-i.values c.loop-i.invariant.1
          c.in-Some.ensures.0 (omega arith)
          (λ j late below within. turned-none c.args.q (value (structure_of c.args.self.now.structure) (put (assignment_of c.args.a.now) c.args.v.0 (64 * c.args.chunk + j)) (form_of c.args.f.now))
          (asked.each j (omega arith) within (c.in-Some.ensures.3 j late below))))
          low c.with-values.ensures
          (c.value_of-in-Some.ensures.exact
          ∙ ap (λ e. value (structure_of e.structure) (assignment_of c.set.new.self) (form_of c.args.f.now)) c.loop-i.invariant.0
          ∙ ap (λ b. value (structure_of c.args.self.now.structure) b (form_of c.args.f.now))
          (total-again c.args.a.now c.loop-i.here c.set.new.self c.args.v.0 u c.loop-i.invariant.2 c.set.ensures.places)),
      like-again c.args.a.now c.loop-i.here c.set.new.self c.args.v.0 u c.loop-i.invariant.2 c.set.ensures.places,
      omega (arith, low),
    )

pub by_values-returns-clause-exact : goal.by_values-returns-clause-exact
by_values-returns-clause-exact t c =
    let count : c.places-count.result ≡ min 64 (c.args.self.now.structure.size - 64 * c.args.chunk) =
    c.places-count.ensures.value ∙ (rw c.size.ensures.size refl)
    in let asked : IsCapWord c.args.self.now.structure.size c.args.chunk (λ u. turned c.args.q (value (structure_of c.args.self.now.structure) (put (assignment_of c.args.a.now) c.args.v.0 u) (form_of c.args.f.now)) ≡ No) c.first-asked.result =
    caps-first c.args.self.now.structure.size c.args.chunk c.places-count.result (λ u. turned c.args.q (value (structure_of c.args.self.now.structure) (put (assignment_of c.args.a.now) c.args.v.0 u) (form_of c.args.f.now)) ≡ No) c.args.front c.first-asked.result c.requires.front count
    c.first-asked.ensures
    in stands-all c.args.self.now.structure.size c.args.chunk 64 (turned c.args.q No) (λ u. value (structure_of c.args.self.now.structure) (put (assignment_of c.args.a.now) c.args.v.0 u) (form_of c.args.f.now)) c.loop-i.values
    (stands-skip c.args.self.now.structure.size c.args.chunk c.loop-i.from 64 (turned c.args.q No) (λ u. value (structure_of c.args.self.now.structure) (put (assignment_of c.args.a.now) c.args.v.0 u) (form_of c.args.f.now)) c.loop-i.values c.loop-i.invariant.1
    c.loop-i.invariant.3 (omega arith)
    (λ j late below within. turned-none c.args.q (value (structure_of c.args.self.now.structure) (put (assignment_of c.args.a.now) c.args.v.0 (64 * c.args.chunk + j)) (form_of c.args.f.now))
    (asked.each j (omega arith) within (c.in_default.ensures j late below))))
    (omega arith)

pub by_values-value_of-requires : goal.by_values-value_of-requires
by_values-value_of-requires t c = (
  search rules,
  row-steady c.args.self.now.structure c.args.a.now (sizes_in c.args.self.now) c.args.v.0 (form_of c.args.f.now) c.requires.parts
      (λ free. let yes : c.free.result ≡ true = c.free.ensures.1 free
      in let no : c.free.result ≡ false = c.if-not-free.true in cc),
)

pub by_values-returns-then-not-free-clause-exact : goal.by_values-returns-then-not-free-clause-exact
by_values-returns-then-not-free-clause-exact t c =
    same-word c.args.self.now.structure.size c.args.chunk (λ u. c.value_of.result) (λ u. value (structure_of c.args.self.now.structure) (put (assignment_of c.args.a.now) c.args.v.0 u) (form_of c.args.f.now))
    c.constant_word.result (c.constant_word.ensures c.args.self.now.structure.size c.args.chunk)
    (λ u lt. c.value_of.ensures.exact
    ∙ put_steady c.args.self.now.structure (assignment_of c.args.a.now) c.args.v.0 u (form_of c.args.f.now)
    (λ free. let yes : c.free.result ≡ true = c.free.ensures.1 free
    in let no : c.free.result ≡ false = c.if-not-free.true in cc))

pub quantified_word-by_values-requires : goal.quantified_word-by_values-requires
quantified_word-by_values-requires t c =
    let high : height (form_of c.args.f.now) ≡ height (form_of c.args.body.now) + 1 = ap height c.requires.whole ∙ height-quantified c.args.q c.args.w.0 (form_of c.args.body.now)
    in (
      omega (arith, high, c.decreases),
      (
        subst (λ k. CanEvaluate c.args.self.now.structure c.args.a.now (sizes_in c.args.self.now) (FExists c.args.v.0 k)) (sym c.requires.whole) (whole-parts c.args.q c.args.self.now.structure c.args.a.now (sizes_in c.args.self.now) c.args.v.0 c.args.w.0 (form_of c.args.body.now) c.requires.parts),
        (c.requires.chunk, (caps-all c.args.self.now.structure.size c.args.chunk (λ u. turned c.args.q (value (structure_of c.args.self.now.structure) (put (assignment_of c.args.a.now) c.args.v.0 u) (form_of c.args.f.now)) ≡ No) c.constant_word-front.result (c.constant_word-front.ensures c.args.self.now.structure.size c.args.chunk))),
      ),
    )

pub quantified_word-by_values-requires-then-has_few : goal.quantified_word-by_values-requires-then-has_few
quantified_word-by_values-requires-then-has_few t c =
    let count : c.places-count.result ≡ min 64 (c.args.self.now.structure.size - 64 * c.args.chunk) =
    c.places-count.ensures.value ∙ (rw c.size.ensures.size refl)
    in let caps : IsCapWord c.args.self.now.structure.size c.args.chunk (λ u. turned c.args.q (value (structure_of c.args.self.now.structure) (put (assignment_of c.args.a.now) c.args.v.0 u)
    (quantified c.args.q c.args.w.0 (form_of c.args.body.now))) ≡ No) c.first-front.result =
    front-caps c.args.self.now.structure (assignment_of c.args.a.now) c.args.v.0 c.args.w.0 c.args.q (form_of c.args.body.now) c.with-2.result c.if-w-v.false
    (λ z outside. (c.with-2.ensures.outside z outside).0) c.args.chunk c.places-count.result c.cap_word.result
    c.first-front.result (subst (λ s. IsCapWord s.size c.args.chunk (IsRuledOut s (assignment_of c.args.a.now) c.with-2.result c.args.v.0 c.args.q (form_of c.args.body.now)) c.cap_word.result) c.structure-s.ensures c.cap_word.ensures) count c.first-front.ensures
    in let high : height (form_of c.args.f.now) ≡ height (form_of c.args.body.now) + 1 = ap height c.requires.whole ∙ height-quantified c.args.q c.args.w.0 (form_of c.args.body.now)
    in (
      omega (arith, high, c.decreases),
      (
        subst (λ k. CanEvaluate c.args.self.now.structure c.args.a.now (sizes_in c.args.self.now) (FExists c.args.v.0 k)) (sym c.requires.whole) (whole-parts c.args.q c.args.self.now.structure c.args.a.now (sizes_in c.args.self.now) c.args.v.0 c.args.w.0 (form_of c.args.body.now) c.requires.parts),
        (c.requires.chunk, (subst (λ k. IsCapWord c.args.self.now.structure.size c.args.chunk (λ u. turned c.args.q (value (structure_of c.args.self.now.structure) (put (assignment_of c.args.a.now) c.args.v.0 u) k) ≡ No) c.first-front.result) (sym c.requires.whole) caps)),
      ),
    )

pub quantified_word-by_values-requires-then-is_slower : goal.quantified_word-by_values-requires-then-is_slower
quantified_word-by_values-requires-then-is_slower t c =
    let count : c.places-count.result ≡ min 64 (c.args.self.now.structure.size - 64 * c.args.chunk) =
    c.places-count.ensures.value ∙ (rw c.size.ensures.size refl)
    in let caps : IsCapWord c.args.self.now.structure.size c.args.chunk (λ u. turned c.args.q (value (structure_of c.args.self.now.structure) (put (assignment_of c.args.a.now) c.args.v.0 u)
    (quantified c.args.q c.args.w.0 (form_of c.args.body.now))) ≡ No) c.first-front.result =
    front-caps c.args.self.now.structure (assignment_of c.args.a.now) c.args.v.0 c.args.w.0 c.args.q (form_of c.args.body.now) c.with-2.result c.if-w-v.false
    (λ z outside. (c.with-2.ensures.outside z outside).0) c.args.chunk c.places-count.result c.cap_word.result
    c.first-front.result (subst (λ s. IsCapWord s.size c.args.chunk (IsRuledOut s (assignment_of c.args.a.now) c.with-2.result c.args.v.0 c.args.q (form_of c.args.body.now)) c.cap_word.result) c.structure-s.ensures c.cap_word.ensures) count c.first-front.ensures
    in let high : height (form_of c.args.f.now) ≡ height (form_of c.args.body.now) + 1 = ap height c.requires.whole ∙ height-quantified c.args.q c.args.w.0 (form_of c.args.body.now)
    in (
      omega (arith, high, c.decreases),
      (
        subst (λ k. CanEvaluate c.args.self.now.structure c.args.a.now (sizes_in c.args.self.now) (FExists c.args.v.0 k)) (sym c.requires.whole) (whole-parts c.args.q c.args.self.now.structure c.args.a.now (sizes_in c.args.self.now) c.args.v.0 c.args.w.0 (form_of c.args.body.now) c.requires.parts),
        (c.requires.chunk, (subst (λ k. IsCapWord c.args.self.now.structure.size c.args.chunk (λ u. turned c.args.q (value (structure_of c.args.self.now.structure) (put (assignment_of c.args.a.now) c.args.v.0 u) k) ≡ No) c.first-front.result) (sym c.requires.whole) caps)),
      ),
    )

pub word_by_parts-by_values-requires : goal.word_by_parts-by_values-requires
word_by_parts-by_values-requires t c = (
  search rules,
  (
    c.requires.parts,
    (
      c.requires.chunk,
      caps-all c.args.self.now.structure.size c.args.chunk
          (λ u. turned Exists (value (structure_of c.args.self.now.structure) (put (assignment_of c.args.a.now) c.args.v.0 u) (form_of c.args.f.now)) ≡ No)
          c.constant_word-front.result (c.constant_word-front.ensures c.args.self.now.structure.size c.args.chunk),
    ),
  ),
)

pub closed_part-fill-requires : goal.closed_part-fill-requires
closed_part-fill-requires t c =
    let body : Form = form_of c.args.edges.body.now
    in let parts : SplitsRooms c.args.self.now.structure.size (nesting body) c.args.self.now =
    rooms-split c.args.self.now.structure.size (nesting body) c.args.self.now c.requires.room
    in let out : c.take_room-relation.new.self ≡ with_one_out c.args.self.now =
    c.take_room-relation.ensures.taken ∙ ap with_one_out c.kept_part.ensures.same
    in let long : length c.take_room-relation.result ≡ c.args.self.now.room.size =
    c.take_room-relation.ensures.size ∙ ap (λ e. e.room.size) c.kept_part.ensures.same
    in (
      search rules,
      (
        can-same (sym out) c.args.a.now (FExists c.args.edges.left.0 (FExists c.args.edges.right.0 body))
            (record { formula = c.requires.body.formula; assigned = c.requires.body.assigned; rooms = parts.behind }),
        subst (λ e. e.structure.size ≤ length c.take_room-relation.result) (sym out)
            (subst (λ n. c.args.self.now.structure.size ≤ n) (sym long) parts.first),
      ),
    )

pub closed_part-returns-clause-exact : goal.closed_part-returns-clause-exact
closed_part-returns-clause-exact t c =
    let body : Form = form_of c.args.edges.body.now
    in let here : c.fill.new.self ≡ with_one_out c.args.self.now =
    c.fill.ensures.same ∙ c.take_room-relation.ensures.taken ∙ ap with_one_out c.kept_part.ensures.same
    in let square : IsSquare c.args.self.now.structure.size c.fill.new.relation =
    subst (λ e. IsSquare e.structure.size c.fill.new.relation)
    (c.take_room-relation.ensures.taken ∙ ap with_one_out c.kept_part.ensures.same) c.fill.ensures.square
    in let edges : (u w : ℕ) → u < c.args.self.now.structure.size → w < c.args.self.now.structure.size
    → entry_in c.fill.new.relation u w ≡ value (structure_of c.args.self.now.structure)
    (put (put (assignment_of c.args.a.now) c.args.edges.left.0 u) c.args.edges.right.0 w) body =
    subst (λ e. (u w : ℕ) → u < e.structure.size → w < e.structure.size
    → entry_in c.fill.new.relation u w ≡ value (structure_of e.structure)
    (put (put (assignment_of c.args.a.now) c.args.edges.left.0 u) c.args.edges.right.0 w) body)
    (c.take_room-relation.ensures.taken ∙ ap with_one_out c.kept_part.ensures.same) c.fill.ensures.edges
    in let Closed : ℕ → Type 0 = λ k. (x y : ℕ) → x < k → y < k
    → entry_in c.close.new.self x y ≡ best_walk (entry_in c.fill.new.relation) (range_with_len 0 k) x y
    in let held : HoldsClosure c.args.self.now.structure (assignment_of c.args.a.now) c.args.edges.left.0
    c.args.edges.right.0 body c.close.new.self =
    closed_are_held c.args.self.now.structure (assignment_of c.args.a.now) c.args.edges.left.0 c.args.edges.right.0 body
    c.fill.new.relation c.close.new.self
    (subst (λ k. IsSquare k c.close.new.self) c.size-individuals.ensures.size c.close.ensures.square) edges
    (subst Closed c.size-individuals.ensures.size c.close.ensures.closed)
    in part_held c.args.self.now.structure (assignment_of c.args.a.now) c.args.edges.left.0 c.args.edges.right.0 body
    c.close.new.self c.size-individuals.result c.args.chunk c.args.part c.part-word.result
    c.size-individuals.ensures.size c.requires.part held c.part-word.ensures

pub closed_part-returns-in-Some-clause-exact : goal.closed_part-returns-in-Some-clause-exact
closed_part-returns-in-Some-clause-exact t c =
    c.in-Some.ensures.exact (assignment_of c.args.a.now)

pub quantified_word-joined_words-requires : goal.quantified_word-joined_words-requires
quantified_word-joined_words-requires t c =
    let capped : IsCapRow c.args.self.now.structure.size (IsRuledOut c.args.self.now.structure (assignment_of c.args.a.now) c.with.result c.args.w.0 c.args.q (form_of c.args.body.now)) c.cap_row-caps.result =
    subst (λ s. IsCapRow s.size (IsRuledOut s (assignment_of c.args.a.now) c.with.result c.args.w.0 c.args.q (form_of c.args.body.now)) c.cap_row-caps.result) c.structure-s.ensures c.cap_row-caps.ensures
    in (
      search rules,
      (
        c.requires.parts,
        (
          c.requires.chunk,
          (
            c.if-w-v.false,
            record {
              long = capped.long;
              each = λ x lt no u. caps-rule c.args.self.now.structure (assignment_of c.args.a.now) c.args.v.0 c.args.w.0 c.args.q
                  (form_of c.args.body.now) c.with.result (λ z outside. (c.with.ensures.outside z outside).0) x
                  (capped.each x lt no) u;
            },
          ),
        ),
      ),
    )

pub quantified_word-joined_words-requires-2 : goal.quantified_word-joined_words-requires-2
quantified_word-joined_words-requires-2 t c =
    let capped : IsCapRow c.args.self.now.structure.size (IsRuledOut c.args.self.now.structure (assignment_of c.args.a.now) c.with-3.result c.args.w.0 c.args.q (form_of c.args.body.now)) c.cap_row-caps-2.result =
    subst (λ s. IsCapRow s.size (IsRuledOut s (assignment_of c.args.a.now) c.with-3.result c.args.w.0 c.args.q (form_of c.args.body.now)) c.cap_row-caps-2.result) c.structure-s.ensures c.cap_row-caps-2.ensures
    in (
      search rules,
      (
        c.requires.parts,
        (
          c.requires.chunk,
          (
            c.if-w-v.false,
            record {
              long = capped.long;
              each = λ x lt no u. caps-rule c.args.self.now.structure (assignment_of c.args.a.now) c.args.v.0 c.args.w.0 c.args.q
                  (form_of c.args.body.now) c.with-3.result (λ z outside. (c.with-3.ensures.outside z outside).0) x
                  (capped.each x lt no) u;
            },
          ),
        ),
      ),
    )

pub joined_words-loop-x-init : goal.joined_words-loop-x-init
joined_words-loop-x-init t c = (
  refl,
  joined-none c.args.self.now.structure.size c.args.chunk (λ u x. turned c.args.q (value (structure_of c.args.self.now.structure)
      (put (put (assignment_of c.args.a.now) c.args.v.0 u) c.args.w.0 x) (form_of c.args.body.now)))
      c.of-found.result c.of-found.ensures,
  like-itself c.args.a.now c.args.w.0,
  omega arith,
)

pub joined_words-word_of-word-requires : goal.joined_words-word_of-word-requires
joined_words-word_of-word-requires t c =
    let lt : c.in-Some.x < c.args.self.now.structure.size = omega (arith, c.in-Some.ensures.1, c.requires.caps.long)
    in (
      search rules,
      (
        can-same (sym c.loop-x.invariant.0) c.set.new.self (FExists c.args.v.0 (form_of c.args.body.now))
            (row-put c.args.self.now.structure c.args.a.now c.set.new.self (sizes_in c.args.self.now) c.args.v.0 c.args.w.0
            c.in-Some.x (form_of c.args.body.now) c.requires.parts lt
            (put-again c.args.a.now c.loop-x.here c.set.new.self c.args.w.0 c.in-Some.x c.loop-x.invariant.2
            c.set.ensures.places)),
        chunk-same (sym c.loop-x.invariant.0) c.args.chunk c.requires.chunk,
      ),
    )

pub joined_words-loop-x-preserved : goal.joined_words-loop-x-preserved
joined_words-loop-x-preserved t c =
    let g : ℕ → ℕ → K3 = λ u x. turned c.args.q (value (structure_of c.args.self.now.structure)
    (put (put (assignment_of c.args.a.now) c.args.v.0 u) c.args.w.0 x) (form_of c.args.body.now))
    in let count : c.places-count.result ≡ min 64 (c.args.self.now.structure.size - 64 * c.args.chunk) =
    c.places-count.ensures.value ∙ (rw c.size.ensures.size refl)
    in let lt : c.in-Some.x < c.args.self.now.structure.size = omega (arith, c.in-Some.ensures.1, c.requires.caps.long)
    in let skipped : JoinedTo c.args.self.now.structure.size c.args.chunk c.in-Some.x g c.loop-x.found =
    joined-skip c.args.self.now.structure.size c.args.chunk c.loop-x.from c.in-Some.x g c.loop-x.found c.loop-x.invariant.1 c.in-Some.ensures.0 (omega arith)
    (λ y low below u. c.requires.caps.each y (omega arith) (c.in-Some.ensures.3 y low below) u)
    in let h : ℕ → K3 = λ u. value (structure_of c.args.self.now.structure) (put (assignment_of c.set.new.self) c.args.v.0 u) (form_of c.args.body.now)
    in let here : (u : ℕ) → turned c.args.q (h u) ≡ g u c.in-Some.x = λ u. ap (turned c.args.q)
    (ap (λ b. value (structure_of c.args.self.now.structure) (put b c.args.v.0 u) (form_of c.args.body.now))
    (total-again c.args.a.now c.loop-x.here c.set.new.self c.args.w.0 c.in-Some.x c.loop-x.invariant.2
    c.set.ensures.places)
    ∙ puts_commute c.args.self.now.structure (assignment_of c.args.a.now) c.args.v.0 c.args.w.0 u c.in-Some.x (form_of c.args.body.now) c.requires.apart)
    in let row : IsWordOf c.args.self.now.structure.size c.args.chunk (λ u. g u c.in-Some.x) c.turned_word.result =
    same-word c.args.self.now.structure.size c.args.chunk (λ u. turned c.args.q (h u)) (λ u. g u c.in-Some.x) c.turned_word.result
    (of-mapped c.args.self.now.structure.size c.args.chunk c.places-count.result (turned c.args.q) h c.word_of-word.result
    c.turned_word.result (word-same c.loop-x.invariant.0 (assignment_of c.set.new.self) c.args.v.0 c.args.chunk (form_of c.args.body.now) c.word_of-word.result c.word_of-word.ensures.exact) count c.turned_word.ensures) (λ u lt. here u)
    in let next : JoinedTo c.args.self.now.structure.size c.args.chunk (c.in-Some.x + 1) g c.or-found.result =
    joined-next c.args.self.now.structure.size c.args.chunk c.in-Some.x g c.loop-x.found c.turned_word.result
    c.or-found.result lt row skipped c.or-found.ensures
    in (
      c.word_of-word.ensures.same ∙ c.loop-x.invariant.0,
      next,
      like-again c.args.a.now c.loop-x.here c.set.new.self c.args.w.0 c.in-Some.x c.loop-x.invariant.2
          c.set.ensures.places,
      omega (arith, c.in-Some.ensures.1),
    )

pub joined_words-returns-then-eq-clause-exact : goal.joined_words-returns-then-eq-clause-exact
joined_words-returns-then-eq-clause-exact t c =
    let g : ℕ → ℕ → K3 = λ u x. turned c.args.q (value (structure_of c.args.self.now.structure)
    (put (put (assignment_of c.args.a.now) c.args.v.0 u) c.args.w.0 x) (form_of c.args.body.now))
    in let count : c.places-count.result ≡ min 64 (c.args.self.now.structure.size - 64 * c.args.chunk) =
    c.places-count.ensures.value ∙ (rw c.size.ensures.size refl)
    in let lt : c.in-Some.x < c.args.self.now.structure.size = omega (arith, c.in-Some.ensures.1, c.requires.caps.long)
    in let skipped : JoinedTo c.args.self.now.structure.size c.args.chunk c.in-Some.x g c.loop-x.found =
    joined-skip c.args.self.now.structure.size c.args.chunk c.loop-x.from c.in-Some.x g c.loop-x.found c.loop-x.invariant.1 c.in-Some.ensures.0 (omega arith)
    (λ y low below u. c.requires.caps.each y (omega arith) (c.in-Some.ensures.3 y low below) u)
    in let h : ℕ → K3 = λ u. value (structure_of c.args.self.now.structure) (put (assignment_of c.set.new.self) c.args.v.0 u) (form_of c.args.body.now)
    in let here : (u : ℕ) → turned c.args.q (h u) ≡ g u c.in-Some.x = λ u. ap (turned c.args.q)
    (ap (λ b. value (structure_of c.args.self.now.structure) (put b c.args.v.0 u) (form_of c.args.body.now))
    (total-again c.args.a.now c.loop-x.here c.set.new.self c.args.w.0 c.in-Some.x c.loop-x.invariant.2
    c.set.ensures.places)
    ∙ puts_commute c.args.self.now.structure (assignment_of c.args.a.now) c.args.v.0 c.args.w.0 u c.in-Some.x (form_of c.args.body.now) c.requires.apart)
    in let row : IsWordOf c.args.self.now.structure.size c.args.chunk (λ u. g u c.in-Some.x) c.turned_word.result =
    same-word c.args.self.now.structure.size c.args.chunk (λ u. turned c.args.q (h u)) (λ u. g u c.in-Some.x) c.turned_word.result
    (of-mapped c.args.self.now.structure.size c.args.chunk c.places-count.result (turned c.args.q) h c.word_of-word.result
    c.turned_word.result (word-same c.loop-x.invariant.0 (assignment_of c.set.new.self) c.args.v.0 c.args.chunk (form_of c.args.body.now) c.word_of-word.result c.word_of-word.ensures.exact) count c.turned_word.ensures) (λ u lt. here u)
    in let next : JoinedTo c.args.self.now.structure.size c.args.chunk (c.in-Some.x + 1) g c.or-found.result =
    joined-next c.args.self.now.structure.size c.args.chunk c.in-Some.x g c.loop-x.found c.turned_word.result
    c.or-found.result lt row skipped c.or-found.ensures
    in same-word c.args.self.now.structure.size c.args.chunk
    (λ u. turned c.args.q (greatest_of (g u) (range_with_len 0 c.args.self.now.structure.size)))
    (λ u. value (structure_of c.args.self.now.structure) (put (assignment_of c.args.a.now) c.args.v.0 u) (quantified c.args.q c.args.w.0 (form_of c.args.body.now))) c.turned_word-then-eq.result
    (of-mapped c.args.self.now.structure.size c.args.chunk c.places-count.result (turned c.args.q)
    (λ u. greatest_of (g u) (range_with_len 0 c.args.self.now.structure.size)) c.or-found.result c.turned_word-then-eq.result
    (joined-yes c.args.self.now.structure.size c.args.chunk (c.in-Some.x + 1) g c.or-found.result next
    c.places-count.result count (sym c.least.ensures ∙ told-equal c.least.result Yes c.eq.result c.eq.ensures.same c.if-eq.true)) count c.turned_word-then-eq.ensures)
    (λ u lt. quantified-value c.args.q (structure_of c.args.self.now.structure) (put (assignment_of c.args.a.now) c.args.v.0 u) c.args.w.0 (form_of c.args.body.now))

pub joined_words-returns-clause-exact : goal.joined_words-returns-clause-exact
joined_words-returns-clause-exact t c =
    let g : ℕ → ℕ → K3 = λ u x. turned c.args.q (value (structure_of c.args.self.now.structure)
    (put (put (assignment_of c.args.a.now) c.args.v.0 u) c.args.w.0 x) (form_of c.args.body.now))
    in let count : c.places-count.result ≡ min 64 (c.args.self.now.structure.size - 64 * c.args.chunk) =
    c.places-count.ensures.value ∙ (rw c.size.ensures.size refl)
    in let long : length c.args.caps.now ≡ c.args.self.now.structure.size = c.requires.caps.long
    in let joined : JoinedTo c.args.self.now.structure.size c.args.chunk c.args.self.now.structure.size g c.loop-x.found =
    joined-skip c.args.self.now.structure.size c.args.chunk c.loop-x.from c.args.self.now.structure.size g c.loop-x.found c.loop-x.invariant.1 (omega (arith, c.loop-x.invariant.3)) (omega arith)
    (λ y low below u. c.requires.caps.each y below (c.in_default.ensures y low (omega arith)) u)
    in same-word c.args.self.now.structure.size c.args.chunk
    (λ u. turned c.args.q (greatest_of (g u) (range_with_len 0 c.args.self.now.structure.size)))
    (λ u. value (structure_of c.args.self.now.structure) (put (assignment_of c.args.a.now) c.args.v.0 u) (quantified c.args.q c.args.w.0 (form_of c.args.body.now))) c.turned_word-2.result
    (of-mapped c.args.self.now.structure.size c.args.chunk c.places-count.result (turned c.args.q)
    (λ u. greatest_of (g u) (range_with_len 0 c.args.self.now.structure.size)) c.loop-x.found c.turned_word-2.result
    (joined-all c.args.self.now.structure.size c.args.chunk c.args.self.now.structure.size g c.loop-x.found joined (omega arith)) count c.turned_word-2.ensures)
    (λ u lt. quantified-value c.args.q (structure_of c.args.self.now.structure) (put (assignment_of c.args.a.now) c.args.v.0 u) c.args.w.0 (form_of c.args.body.now))

pub closure_word-closure-requires : goal.closure_word-closure-requires
closure_word-closure-requires t c = (
  search rules,
  row-steady c.args.self.now.structure c.args.a.now (sizes_in c.args.self.now) c.args.v.0
      (FClosure c.args.from.0 c.args.to.0 c.args.edges.left.0 c.args.edges.right.0
      (form_of c.args.edges.body.now)) c.requires.parts
      (⊎_elim (λ e. c.if-from-v.false (sym e))
      (λ other. ⊎_elim (λ e. c.if-to-v-2.false (sym e)) c.requires.steady other)),
)

pub run-link_by_link-requires : goal.run-link_by_link-requires
run-link_by_link-requires t c = (
  omega (arith, c.opened-levels.ensures.part, c.decreases),
  (
    subst (λ ls. CanEvaluate c.args.self.now.structure c.args.a.now (sizes_in c.args.self.now) (under_run ls (form_of c.opened-levels.result.1.now)))
        (sym c.as_slice-chain.ensures.value) (can-open c.args.q c.args.self.now.structure c.args.a.now (sizes_in c.args.self.now) c.args.v.0 (form_of c.args.body.now) (form_of c.opened-levels.result.1.now) c.opened-levels.result.0.items c.requires.parts c.opened-levels.ensures.run),
    (c.requires.some, (omega arith, (c.are_linked.ensures c.if-are_linked.true))),
  ),
)

pub run-returns-then-are_linked-clause-exact : goal.run-returns-then-are_linked-clause-exact
run-returns-then-are_linked-clause-exact t c =
    c.link_by_link.ensures.exact
    ∙ ap (λ ls. value (structure_of c.args.self.now.structure) (assignment_of c.args.a.now) (under_run ls (form_of c.opened-levels.result.1.now))) c.as_slice-chain.ensures.value
    ∙ c.opened-levels.ensures.run.values (structure_of c.args.self.now.structure) (assignment_of c.args.a.now) 0 (range_with_len (0 + 1) (c.args.self.now.structure.size - (0 + 1))) (range-all c.args.self.now.structure.size c.requires.some)

pub run-one_by_one-requires : goal.run-one_by_one-requires
run-one_by_one-requires t c = (
  omega (arith, c.opened-levels.ensures.part, c.decreases),
  (
    subst (λ ls. CanEvaluate c.args.self.now.structure c.args.a.now (sizes_in c.args.self.now) (under_run ls (form_of c.opened-levels.result.1.now)))
        (sym c.as_mut_slice.ensures.value) (can-open c.args.q c.args.self.now.structure c.args.a.now (sizes_in c.args.self.now) c.args.v.0 (form_of c.args.body.now) (form_of c.opened-levels.result.1.now) c.opened-levels.result.0.items c.requires.parts c.opened-levels.ensures.run),
    (c.requires.some, (subst AreFresh (sym c.as_mut_slice.ensures.value) c.opened-levels.ensures.run.fresh)),
  ),
)

pub run-returns-clause-exact : goal.run-returns-clause-exact
run-returns-clause-exact t c =
    c.one_by_one.ensures.exact
    ∙ ap (λ ls. value (structure_of c.args.self.now.structure) (assignment_of c.args.a.now) (under_run ls (form_of c.opened-levels.result.1.now))) c.as_mut_slice.ensures.value
    ∙ c.opened-levels.ensures.run.values (structure_of c.args.self.now.structure) (assignment_of c.args.a.now) 0 (range_with_len (0 + 1) (c.args.self.now.structure.size - (0 + 1))) (range-all c.args.self.now.structure.size c.requires.some)

pub one_by_one-loop-whole-init : goal.one_by_one-loop-whole-init
one_by_one-loop-whole-init t c = (
  refl,
  fresh-within c.args.self.now.structure.size c.args.levels.now c.requires.some c.requires.fresh,
  c.requires.parts,
  owed-fresh (structure_of c.args.self.now.structure) c.args.self.now.structure.size refl c.args.levels.now (assignment_of c.args.a.now) (form_of c.args.part.now) c.requires.some c.requires.fresh,
)

pub one_by_one-at_hand-here-requires : goal.one_by_one-at_hand-here-requires
one_by_one-at_hand-here-requires t c =
    are-variables (arities_of c.args.self.now.structure) c.loop-whole.levels (form_of c.args.part.now) c.loop-whole.invariant.2.formula

pub one_by_one-value_of-value-requires : goal.one_by_one-value_of-value-requires
one_by_one-value_of-value-requires t c = (
  omega (arith, c.decreases),
  can-same (sym c.loop-whole.invariant.0) c.at_hand-here.result (form_of c.args.part.now)
      (c.at_hand-here.ensures.parts c.args.self.now.structure (sizes_in c.args.self.now) (form_of c.args.part.now) c.loop-whole.invariant.1
      c.loop-whole.invariant.2),
)

pub link_by_link-loop-k-init : goal.link_by_link-loop-k-init
link_by_link-loop-k-init t c = (
  refl,
  omega arith,
  λ level inner e.
      subst (λ ls. c.of-row.result ≡ rest_along c.args.self.now.structure (assignment_of c.args.a.now) c.args.sign level.var.0 ls (parts_of c.args.sign (form_of c.args.part.now)))
      (sym (none-left (length c.args.levels.now - 1) c.args.levels.now inner level e (omega arith)))
      (rest-none c.args.self.now.structure (assignment_of c.args.a.now) c.args.sign level.var.0 c.size-individuals.result (parts_of c.args.sign (form_of c.args.part.now))
      c.of-row.result c.of-row.ensures c.size-individuals.ensures.size),
)

pub link_by_link-linked_row-row-requires : goal.link_by_link-linked_row-row-requires
link_by_link-linked_row-row-requires t c =
    let k : ℕ = c.loop-k.k
    in let behind : drop (k - 1) c.args.levels.now ≡ c.at.result.level ∷ c.at-link.result.level ∷ c.at-link.result.inner.now =
    two-behind (k - 1) k c.args.levels.now c.at.result.inner.now c.at-link.result.inner.now c.at.result.level
    c.at-link.result.level (omega arith) c.at.ensures.levels c.at-link.ensures.levels
    in let inside : c.at-link.result.is_first ≡ false = c.at-link.ensures.first ∙ ne_eqb k 0 (λ e. omega arith)
    in (
      search rules,
      (
        subst (λ e. CanTake e.structure c.args.a.now (sizes_in e)
            (is_taken c.at-link.result.is_first c.at-link.result.level.var.0 c.at-link.result.inner.now)
            (λ g. FExists c.at.result.level.var.0 (FExists c.at-link.result.level.var.0 g)) (parts_of c.args.sign (form_of c.args.part.now)))
            (sym c.loop-k.invariant.0)
            (can-take-two c.args.self.now.structure c.args.a.now (sizes_in c.args.self.now) c.args.levels.now (form_of c.args.part.now) c.requires.parts
            (k - 1) c.at-link.result.inner.now c.at.result.level c.at-link.result.level c.at-link.result.is_first
            (parts_of c.args.sign (form_of c.args.part.now)) behind inside c.requires.linked (parts-are c.args.sign (form_of c.args.part.now))),
        (
          outer-variable c.args.self.now.structure c.args.a.now (sizes_in c.args.self.now) c.args.levels.now (form_of c.args.part.now) c.requires.parts
              (k - 1) c.at.result.inner.now c.at.result.level c.at.ensures.levels,
          (
            inside,
            (
              subst (λ ls. AreLinked ls (parts_of c.args.sign (form_of c.args.part.now))) behind
                  (linked-drop (k - 1) c.args.levels.now (parts_of c.args.sign (form_of c.args.part.now)) c.requires.linked),
              subst (λ e. c.loop-k.row ≡ rest_along e.structure (assignment_of c.args.a.now) c.args.sign c.at-link.result.level.var.0 c.at-link.result.inner.now (parts_of c.args.sign (form_of c.args.part.now))) (sym c.loop-k.invariant.0)
                  (c.loop-k.invariant.2 c.at-link.result.level c.at-link.result.inner.now c.at-link.ensures.levels),
            ),
          ),
        ),
      ),
    )

pub link_by_link-loop-k-preserved : goal.link_by_link-loop-k-preserved
link_by_link-loop-k-preserved t c =
    let k : ℕ = c.loop-k.k
    in let behind : drop (k - 1) c.args.levels.now ≡ c.at.result.level ∷ c.at-link.result.level ∷ c.at-link.result.inner.now =
    two-behind (k - 1) k c.args.levels.now c.at.result.inner.now c.at-link.result.inner.now c.at.result.level
    c.at-link.result.level (omega arith) c.at.ensures.levels c.at-link.ensures.levels
    in (
      c.linked_row-row.ensures.same ∙ c.loop-k.invariant.0,
      omega arith,
      λ level inner e. rest-same c.args.self.now.structure (assignment_of c.args.a.now) c.args.sign (parts_of c.args.sign (form_of c.args.part.now))
          (drop (k - 1) c.args.levels.now) (c.at-link.result.level ∷ c.at-link.result.inner.now) inner c.at.result.level level
          c.linked_row-row.result behind e
          (c.linked_row-row.ensures.exact ∙ ap (λ e. rest_along e.structure (assignment_of c.args.a.now) c.args.sign c.at.result.level.var.0 (c.at-link.result.level ∷ c.at-link.result.inner.now) (parts_of c.args.sign (form_of c.args.part.now))) c.loop-k.invariant.0),
    )

pub link_by_link-linked_value-requires : goal.link_by_link-linked_value-requires
link_by_link-linked_value-requires t c =
    let none : c.loop-k.k ≡ 0 = omega arith
    in (
      search rules,
      (
        subst (λ e. CanTake e.structure c.args.a.now (sizes_in e)
            (is_taken c.at-first.result.is_first c.at-first.result.level.var.0 c.at-first.result.inner.now)
            (λ g. FExists c.at-first.result.level.var.0 g) (parts_of c.args.sign (form_of c.args.part.now)))
            (sym c.loop-k.invariant.0)
            (can-take-first c.args.self.now.structure c.args.a.now (sizes_in c.args.self.now) c.args.levels.now (form_of c.args.part.now) c.requires.parts
            c.at-first.result.inner.now c.at-first.result.level c.at-first.result.is_first
            (parts_of c.args.sign (form_of c.args.part.now)) c.at-first.ensures.levels c.at-first.ensures.first (parts-are c.args.sign (form_of c.args.part.now))),
        rest-long c.args.self.now.structure (assignment_of c.args.a.now) c.args.sign c.at-first.result.level.var.0 c.at-first.result.inner.now
            (parts_of c.args.sign (form_of c.args.part.now)) c.loop-k.row
            (c.loop-k.invariant.2 c.at-first.result.level c.at-first.result.inner.now
            (subst (λ j. drop j c.args.levels.now ≡ c.at-first.result.level ∷ c.at-first.result.inner.now) (sym none)
            c.at-first.ensures.levels))
            ∙ sym (ap (λ e. e.structure.size) c.loop-k.invariant.0),
      ),
    )

pub link_by_link-returns-clause-exact : goal.link_by_link-returns-clause-exact
link_by_link-returns-clause-exact t c =
    let none : c.loop-k.k ≡ 0 = omega arith
    in linked-whole c.args.self.now.structure (assignment_of c.args.a.now) c.args.sign (form_of c.args.part.now) c.args.levels.now c.at-first.result.inner.now c.at-first.result.level
    c.at-first.result.is_first c.loop-k.row c.linked_value.result c.turned.result c.requires.some c.at-first.ensures.levels
    c.at-first.ensures.first
    (c.loop-k.invariant.2 c.at-first.result.level c.at-first.result.inner.now
    (subst (λ j. drop j c.args.levels.now ≡ c.at-first.result.level ∷ c.at-first.result.inner.now) (sym none)
    c.at-first.ensures.levels))
    (c.linked_value.ensures.exact ∙ ap (λ e. best (across c.args.sign c.at-first.result.level.quantifier) (λ u. smaller_of (least_part (is_taken c.at-first.result.is_first c.at-first.result.level.var.0 c.at-first.result.inner.now) (structure_of e.structure) (put (assignment_of c.args.a.now) c.at-first.result.level.var.0 u) (parts_of c.args.sign (form_of c.args.part.now))) (get_or c.loop-k.row u No)) (range_with_len 0 e.structure.size)) c.loop-k.invariant.0) c.turned.ensures

pub linked_row-loop-u-init : goal.linked_row-loop-u-init
linked_row-loop-u-init t c = (
  refl,
  values-none c.args.self.now.structure.size c.size-individuals.result (λ w. pushed c.args.sign (structure_of c.args.self.now.structure) (put (assignment_of c.args.a.now) c.args.outer.var.0 w)
      (c.args.link.level ∷ c.args.link.inner.now) (parts_of c.args.sign (form_of c.args.part.now))) c.of-values.result c.of-values.ensures c.size-individuals.ensures.size,
  like-itself c.args.a.now c.args.outer.var.0,
)

pub linked_row-linked_value-value-requires : goal.linked_row-linked_value-value-requires
linked_row-linked_value-value-requires t c = (
  search rules,
  (
    subst (λ e. CanTake e.structure c.set.new.self (sizes_in e) (is_taken c.args.link.is_first c.args.link.level.var.0 c.args.link.inner.now) (λ g. FExists c.args.link.level.var.0 g)
        (parts_of c.args.sign (form_of c.args.part.now))) (sym c.loop-u.invariant.0)
        (take-put c.args.self.now.structure c.args.a.now c.set.new.self (sizes_in c.args.self.now) (is_taken c.args.link.is_first c.args.link.level.var.0 c.args.link.inner.now) c.args.outer.var.0
        c.args.link.level.var.0 c.loop-u.u (parts_of c.args.sign (form_of c.args.part.now)) c.requires.parts (omega (arith, c.size-individuals.ensures.size))
        (put-again c.args.a.now c.loop-u.here c.set.new.self c.args.outer.var.0 c.loop-u.u c.loop-u.invariant.2
        c.set.ensures.places)),
    rest-long c.args.self.now.structure (assignment_of c.args.a.now) c.args.sign c.args.link.level.var.0 c.args.link.inner.now (parts_of c.args.sign (form_of c.args.part.now))
        c.args.row.now c.requires.row ∙ sym (ap (λ e. e.structure.size) c.loop-u.invariant.0),
  ),
)

pub linked_row-loop-u-preserved : goal.linked_row-loop-u-preserved
linked_row-loop-u-preserved t c = (
  c.linked_value-value.ensures.same ∙ c.loop-u.invariant.0,
  values-next c.args.self.now.structure.size c.loop-u.u (λ w. pushed c.args.sign (structure_of c.args.self.now.structure) (put (assignment_of c.args.a.now) c.args.outer.var.0 w)
      (c.args.link.level ∷ c.args.link.inner.now) (parts_of c.args.sign (form_of c.args.part.now))) c.loop-u.values c.set-in-loop-u.new.self
      c.linked_value-value.result c.loop-u.invariant.1 (omega (arith, c.size-individuals.ensures.size))
      (linked-next c.args.self.now.structure (assignment_of c.args.a.now) (assignment_of c.set.new.self) c.args.sign c.args.link.inner.now c.args.outer c.args.link.level
      c.args.link.is_first (parts_of c.args.sign (form_of c.args.part.now)) c.args.row.now c.loop-u.u c.linked_value-value.result
      (total-again c.args.a.now c.loop-u.here c.set.new.self c.args.outer.var.0 c.loop-u.u c.loop-u.invariant.2
      c.set.ensures.places)
      c.requires.inner c.requires.linked c.requires.row (c.linked_value-value.ensures.exact ∙ ap (λ e. best (across c.args.sign c.args.link.level.quantifier) (λ u. smaller_of (least_part (is_taken c.args.link.is_first c.args.link.level.var.0 c.args.link.inner.now) (structure_of e.structure) (put (assignment_of c.set.new.self) c.args.link.level.var.0 u) (parts_of c.args.sign (form_of c.args.part.now))) (get_or c.args.row.now u No)) (range_with_len 0 e.structure.size)) c.loop-u.invariant.0))
      c.set-in-loop-u.ensures,
  like-again c.args.a.now c.loop-u.here c.set.new.self c.args.outer.var.0 c.loop-u.u c.loop-u.invariant.2
      c.set.ensures.places,
)

pub linked_row-returns-clause-exact : goal.linked_row-returns-clause-exact
linked_row-returns-clause-exact t c =
    values-all c.args.self.now.structure.size c.loop-u.u (λ w. pushed c.args.sign (structure_of c.args.self.now.structure) (put (assignment_of c.args.a.now) c.args.outer.var.0 w)
    (c.args.link.level ∷ c.args.link.inner.now) (parts_of c.args.sign (form_of c.args.part.now))) c.loop-u.values c.loop-u.invariant.1 (omega (arith, c.size-individuals.ensures.size))

pub linked_value-loop-chunk-init : goal.linked_value-loop-chunk-init
linked_value-loop-chunk-init t c =
    let h : ℕ → K3 = λ u. smaller_of (least_part (is_taken c.args.link.is_first c.args.link.level.var.0 c.args.link.inner.now) (structure_of c.args.self.now.structure) (put (assignment_of c.args.a.now) c.args.link.level.var.0 u)
    (parts_of c.args.sign (form_of c.args.part.now))) (get_or c.args.row.now u No)
    in let g : ℕ → K3 = λ u. turned c.across-q.result (h u)
    in let whole : c.args.self.now.structure.size - 64 * 0 ≡ c.args.self.now.structure.size = omega arith
    in (refl, ap (λ m. greatest_of g (range_with_len 0 m)) whole)

pub linked_value-linked_word-word-requires : goal.linked_value-linked_word-word-requires
linked_value-linked_word-word-requires t c = (
  search rules,
  (
    subst (λ e. CanTake e.structure c.args.a.now (sizes_in e) (is_taken c.args.link.is_first c.args.link.level.var.0 c.args.link.inner.now) (λ g. FExists c.args.link.level.var.0 g)
        (parts_of c.args.sign (form_of c.args.part.now))) (sym c.loop-chunk.invariant.0) c.requires.parts,
    chunk-same (sym c.loop-chunk.invariant.0) c.loop-chunk.chunk
        (omega (arith, c.chunks-chunk-end.ensures.each c.loop-chunk.chunk (omega arith), c.size-individuals.ensures.size)),
  ),
)

pub linked_value-loop-chunk-preserved : goal.linked_value-loop-chunk-preserved
linked_value-loop-chunk-preserved t c =
    let h : ℕ → K3 = λ u. smaller_of (least_part (is_taken c.args.link.is_first c.args.link.level.var.0 c.args.link.inner.now) (structure_of c.args.self.now.structure) (put (assignment_of c.args.a.now) c.args.link.level.var.0 u)
    (parts_of c.args.sign (form_of c.args.part.now))) (get_or c.args.row.now u No)
    in let g : ℕ → K3 = λ u. turned c.across-q.result (h u)
    in let all : List ℕ = range_with_len 0 c.args.self.now.structure.size
    in let k : ℕ = c.loop-chunk.chunk
    in let behind : IsWordOf c.args.self.now.structure.size k (λ u. get_or c.args.row.now u No) c.word-behind.result =
    record {
      long = c.word-behind.ensures.long;
      each = λ i low within. c.word-behind.ensures.values i low (omega (arith, c.requires.row));
    }
    in let next : larger_of c.or-most.result
    (greatest_of g (range_with_len (64 * (k + 1)) (c.args.self.now.structure.size - 64 * (k + 1)))) ≡ greatest_of g all =
    greatest-chunk c.args.self.now.structure.size k c.places.result g (map (turned c.across-q.result) c.linked_word-word.result)
    (omega (arith, c.chunks-chunk-end.ensures.each k (omega arith), c.size-individuals.ensures.size)) (c.places.ensures.value ∙ (rw c.size-individuals.ensures.size refl))
    (mapped-word c.args.self.now.structure.size k (turned c.across-q.result) h c.linked_word-word.result
    ((subst (λ e. (g : ℕ → K3) → IsWordOf e.structure.size k g c.word-behind.result → IsWordOf e.structure.size k (λ u. smaller_of (least_part (is_taken c.args.link.is_first c.args.link.level.var.0 c.args.link.inner.now) (structure_of e.structure) (put (assignment_of c.args.a.now) c.args.link.level.var.0 u) (parts_of c.args.sign (form_of c.args.part.now))) (g u)) c.linked_word-word.result) c.loop-chunk.invariant.0 c.linked_word-word.ensures.exact) (λ u. get_or c.args.row.now u No) behind))
    c.loop-chunk.most c.greatest.result c.or-most.result (greatest_of g all) c.turned_word-turned.result
    c.turned_word-turned.ensures c.greatest.ensures c.or-most.ensures c.loop-chunk.invariant.1
    in (c.linked_word-word.ensures.same ∙ c.loop-chunk.invariant.0, next)

pub linked_value-returns-then-eq-clause-exact : goal.linked_value-returns-then-eq-clause-exact
linked_value-returns-then-eq-clause-exact t c =
    let h : ℕ → K3 = λ u. smaller_of (least_part (is_taken c.args.link.is_first c.args.link.level.var.0 c.args.link.inner.now) (structure_of c.args.self.now.structure) (put (assignment_of c.args.a.now) c.args.link.level.var.0 u)
    (parts_of c.args.sign (form_of c.args.part.now))) (get_or c.args.row.now u No)
    in let g : ℕ → K3 = λ u. turned c.across-q.result (h u)
    in let all : List ℕ = range_with_len 0 c.args.self.now.structure.size
    in let k : ℕ = c.loop-chunk.chunk
    in let behind : IsWordOf c.args.self.now.structure.size k (λ u. get_or c.args.row.now u No) c.word-behind.result =
    record {
      long = c.word-behind.ensures.long;
      each = λ i low within. c.word-behind.ensures.values i low (omega (arith, c.requires.row));
    }
    in let next : larger_of c.or-most.result
    (greatest_of g (range_with_len (64 * (k + 1)) (c.args.self.now.structure.size - 64 * (k + 1)))) ≡ greatest_of g all =
    greatest-chunk c.args.self.now.structure.size k c.places.result g (map (turned c.across-q.result) c.linked_word-word.result)
    (omega (arith, c.chunks-chunk-end.ensures.each k (omega arith), c.size-individuals.ensures.size)) (c.places.ensures.value ∙ (rw c.size-individuals.ensures.size refl))
    (mapped-word c.args.self.now.structure.size k (turned c.across-q.result) h c.linked_word-word.result
    ((subst (λ e. (g : ℕ → K3) → IsWordOf e.structure.size k g c.word-behind.result → IsWordOf e.structure.size k (λ u. smaller_of (least_part (is_taken c.args.link.is_first c.args.link.level.var.0 c.args.link.inner.now) (structure_of e.structure) (put (assignment_of c.args.a.now) c.args.link.level.var.0 u) (parts_of c.args.sign (form_of c.args.part.now))) (g u)) c.linked_word-word.result) c.loop-chunk.invariant.0 c.linked_word-word.ensures.exact) (λ u. get_or c.args.row.now u No) behind))
    c.loop-chunk.most c.greatest.result c.or-most.result (greatest_of g all) c.turned_word-turned.result
    c.turned_word-turned.ensures c.greatest.ensures c.or-most.ensures c.loop-chunk.invariant.1
    in c.turned.ensures
    ∙ ap (turned c.across-q.result) (greatest-yes g (range_with_len (64 * (k + 1)) (c.args.self.now.structure.size - 64 * (k + 1)))
    c.or-most.result (greatest_of g all) next (told-equal c.or-most.result Yes c.eq.result c.eq.ensures.same c.if-eq.true))
    ∙ ap (λ q. best q h all) c.across-q.ensures

pub linked_value-returns-clause-exact : goal.linked_value-returns-clause-exact
linked_value-returns-clause-exact t c =
    let h : ℕ → K3 = λ u. smaller_of (least_part (is_taken c.args.link.is_first c.args.link.level.var.0 c.args.link.inner.now) (structure_of c.args.self.now.structure) (put (assignment_of c.args.a.now) c.args.link.level.var.0 u)
    (parts_of c.args.sign (form_of c.args.part.now))) (get_or c.args.row.now u No)
    in let g : ℕ → K3 = λ u. turned c.across-q.result (h u)
    in let all : List ℕ = range_with_len 0 c.args.self.now.structure.size
    in c.turned-2.ensures
    ∙ ap (turned c.across-q.result) (greatest-chunks c.args.self.now.structure.size c.loop-chunk.chunk g c.loop-chunk.most
    (greatest_of g all) (omega (arith, c.chunks-chunk-end.ensures.all, c.size-individuals.ensures.size)) c.loop-chunk.invariant.1)
    ∙ ap (λ q. best q h all) c.across-q.ensures

pub linked_word-returns-then-eq-clause-exact : goal.linked_word-returns-then-eq-clause-exact
linked_word-returns-then-eq-clause-exact t c g is =
    none-both c.args.self.now.structure.size c.args.chunk g c.args.word is
    (λ u. least_part (is_taken c.args.link.is_first c.args.link.level.var.0 c.args.link.inner.now) (structure_of c.args.self.now.structure) (put (assignment_of c.args.a.now) c.args.link.level.var.0 u) (parts_of c.args.sign (form_of c.args.f.now)))
    (sym c.greatest.ensures ∙ told-equal c.greatest.result No c.eq.result c.eq.ensures.same c.if-eq.true)

pub linked_word-linked_word-first-requires : goal.linked_word-linked_word-first-requires
linked_word-linked_word-first-requires t c =
    (omega (arith, c.in-Two.ensures.lower.0, c.decreases), ((take-split c.args.self.now.structure c.args.a.now (sizes_in c.args.self.now) (is_taken c.args.link.is_first c.args.link.level.var.0 c.args.link.inner.now) (λ g. FExists c.args.link.level.var.0 g) (parts_of c.args.sign (form_of c.in-Two.g.now)) (parts_of c.args.sign (form_of c.in-Two.h.now)) (subst (CanTake c.args.self.now.structure c.args.a.now (sizes_in c.args.self.now) (is_taken c.args.link.is_first c.args.link.level.var.0 c.args.link.inner.now) (λ g. FExists c.args.link.level.var.0 g)) c.in-Two.ensures.parts c.requires.parts)).0, c.requires.chunk))

pub linked_word-linked_word-requires : goal.linked_word-linked_word-requires
linked_word-linked_word-requires t c = (
  omega (arith, c.in-Two.ensures.lower.1, c.decreases),
  (
    subst (λ e. CanTake e.structure c.args.a.now (sizes_in e) (is_taken c.args.link.is_first c.args.link.level.var.0 c.args.link.inner.now) (λ g. FExists c.args.link.level.var.0 g) (parts_of c.args.sign (form_of c.in-Two.h.now))) (sym c.linked_word-first.ensures.same)
        (take-split c.args.self.now.structure c.args.a.now (sizes_in c.args.self.now) (is_taken c.args.link.is_first c.args.link.level.var.0 c.args.link.inner.now) (λ g. FExists c.args.link.level.var.0 g) (parts_of c.args.sign (form_of c.in-Two.g.now)) (parts_of c.args.sign (form_of c.in-Two.h.now)) (subst (CanTake c.args.self.now.structure c.args.a.now (sizes_in c.args.self.now) (is_taken c.args.link.is_first c.args.link.level.var.0 c.args.link.inner.now) (λ g. FExists c.args.link.level.var.0 g)) c.in-Two.ensures.parts c.requires.parts)).1,
    chunk-same (sym c.linked_word-first.ensures.same) c.args.chunk c.requires.chunk,
  ),
)

pub linked_word-returns-in-Two-clause-exact : goal.linked_word-returns-in-Two-clause-exact
linked_word-returns-in-Two-clause-exact t c g is =
    subst (λ ps. IsWordOf c.args.self.now.structure.size c.args.chunk (λ u. smaller_of (least_part (is_taken c.args.link.is_first c.args.link.level.var.0 c.args.link.inner.now) (structure_of c.args.self.now.structure)
    (put (assignment_of c.args.a.now) c.args.link.level.var.0 u) ps) (g u)) c.linked_word.result) (sym c.in-Two.ensures.parts)
    (least-two c.args.self.now.structure.size c.args.chunk (is_taken c.args.link.is_first c.args.link.level.var.0 c.args.link.inner.now) (structure_of c.args.self.now.structure) (λ u. put (assignment_of c.args.a.now) c.args.link.level.var.0 u) (parts_of c.args.sign (form_of c.in-Two.g.now))
    (parts_of c.args.sign (form_of c.in-Two.h.now)) c.args.word c.linked_word-first.result c.linked_word.result
    c.linked_word-first.ensures.exact (subst (λ e. (g : ℕ → K3) → IsWordOf e.structure.size c.args.chunk g c.linked_word-first.result → IsWordOf e.structure.size c.args.chunk (λ u. smaller_of (least_part (is_taken c.args.link.is_first c.args.link.level.var.0 c.args.link.inner.now) (structure_of e.structure) (put (assignment_of c.args.a.now) c.args.link.level.var.0 u) (parts_of c.args.sign (form_of c.in-Two.h.now))) (g u)) c.linked_word.result) c.linked_word-first.ensures.same c.linked_word.ensures.exact) g is)

pub linked_word-linked_word-requires-in-Negated : goal.linked_word-linked_word-requires-in-Negated
linked_word-linked_word-requires-in-Negated t c = (
  omega (arith, c.in-Negated.ensures.lower, c.decreases),
  (
    subst (CanTake c.args.self.now.structure c.args.a.now (sizes_in c.args.self.now) (is_taken c.args.link.is_first c.args.link.level.var.0 c.args.link.inner.now) (λ g. FExists c.args.link.level.var.0 g))
        (c.in-Negated.ensures.parts ∙ ap (λ sign. parts_of sign (form_of c.in-Negated.g.now)) (sym c.other.ensures.other))
        c.requires.parts,
    c.requires.chunk,
  ),
)

pub linked_word-returns-in-Negated-clause-exact : goal.linked_word-returns-in-Negated-clause-exact
linked_word-returns-in-Negated-clause-exact t c g is =
    subst (λ ps. IsWordOf c.args.self.now.structure.size c.args.chunk (λ u. smaller_of (least_part (is_taken c.args.link.is_first c.args.link.level.var.0 c.args.link.inner.now) (structure_of c.args.self.now.structure)
    (put (assignment_of c.args.a.now) c.args.link.level.var.0 u) ps) (g u)) c.linked_word-in-Negated.result)
    (sym (c.in-Negated.ensures.parts ∙ ap (λ sign. parts_of sign (form_of c.in-Negated.g.now)) (sym c.other.ensures.other)))
    (c.linked_word-in-Negated.ensures.exact g is)

pub linked_word-returns-then-not-takes-clause-exact : goal.linked_word-returns-then-not-takes-clause-exact
linked_word-returns-then-not-takes-clause-exact t c g is =
    subst (λ ps. IsWordOf c.args.self.now.structure.size c.args.chunk (λ u. smaller_of (least_part (is_taken c.args.link.is_first c.args.link.level.var.0 c.args.link.inner.now) (structure_of c.args.self.now.structure)
    (put (assignment_of c.args.a.now) c.args.link.level.var.0 u) ps) (g u)) c.args.word) (sym c.in-Whole.ensures.parts)
    (least-other c.args.self.now.structure.size c.args.chunk (is_taken c.args.link.is_first c.args.link.level.var.0 c.args.link.inner.now) (structure_of c.args.self.now.structure) (λ u. put (assignment_of c.args.a.now) c.args.link.level.var.0 u)
    (record { sign = c.args.sign; form = form_of c.args.f.now }) c.args.word (sym c.takes.ensures ∙ c.if-not-takes.true) g is)

pub linked_word-word_of-values-requires : goal.linked_word-word_of-values-requires
linked_word-word_of-values-requires t c =
    let can : CanTake c.args.self.now.structure c.args.a.now (sizes_in c.args.self.now) (is_taken c.args.link.is_first c.args.link.level.var.0 c.args.link.inner.now) (λ g. FExists c.args.link.level.var.0 g)
    (record { sign = c.args.sign; form = form_of c.args.f.now } ∷ []) =
    subst (CanTake c.args.self.now.structure c.args.a.now (sizes_in c.args.self.now) (is_taken c.args.link.is_first c.args.link.level.var.0 c.args.link.inner.now) (λ g. FExists c.args.link.level.var.0 g))
    c.in-Whole.ensures.parts c.requires.parts
    in (search rules, (can.0 (sym c.takes.ensures ∙ c.if-not-takes.false), c.requires.chunk))

pub linked_word-returns-else-not-takes-clause-exact : goal.linked_word-returns-else-not-takes-clause-exact
linked_word-returns-else-not-takes-clause-exact t c g is =
    subst (λ ps. IsWordOf c.args.self.now.structure.size c.args.chunk (λ u. smaller_of (least_part (is_taken c.args.link.is_first c.args.link.level.var.0 c.args.link.inner.now) (structure_of c.args.self.now.structure)
    (put (assignment_of c.args.a.now) c.args.link.level.var.0 u) ps) (g u)) c.and.result) (sym c.in-Whole.ensures.parts)
    (least-chosen c.args.self.now.structure.size c.args.chunk (is_taken c.args.link.is_first c.args.link.level.var.0 c.args.link.inner.now) (structure_of c.args.self.now.structure) (λ u. put (assignment_of c.args.a.now) c.args.link.level.var.0 u)
    (record { sign = c.args.sign; form = form_of c.args.f.now }) c.places.result c.args.word c.word_of-values.result
    c.turned_word.result c.and.result (sym c.takes.ensures ∙ c.if-not-takes.false) (c.places.ensures.value ∙ (rw c.size-individuals.ensures.size refl))
    c.word_of-values.ensures.exact c.turned_word.ensures c.and.ensures g is)

pub quantify-returns-in-Some-clause-exact : goal.quantify-returns-in-Some-clause-exact
quantify-returns-in-Some-clause-exact t c =
    c.in-Some.ensures.value
    ∙ ap (λ e. value (structure_of e.structure) (assignment_of c.args.a.now) (form_of c.args.f.now)) c.turn-since.ensures
    ∙ ap (value (structure_of c.args.self.now.structure) (assignment_of c.args.a.now)) c.requires.whole

pub quantify-quantify_anew-k-requires : goal.quantify-quantify_anew-k-requires
quantify-quantify_anew-k-requires t c = (
  search rules,
  can-same (sym (c.kept_value.ensures.same ∙ c.turn-since.ensures)) c.args.a.now (FExists c.args.v.0 (form_of c.args.body.now)) c.requires.parts,
)

pub fill-put_rows-requires-clause-size : goal.fill-put_rows-requires-clause-size
fill-put_rows-requires-clause-size t c =
    subst (λ s. s.size ≤ length c.args.relation.now) (sym c.structure.ensures) c.requires.size

pub fill-returns-in-Some-clause-square : goal.fill-returns-in-Some-clause-square
fill-returns-in-Some-clause-square t c =
    subst (λ s. IsSquare s.size c.put_rows.new.relation) c.structure.ensures c.put_rows.ensures.square

pub quantify-offer_value-requires-clause-formula : goal.quantify-offer_value-requires-clause-formula
quantify-offer_value-requires-clause-formula t c =
    subst (λ e. IsFormulaOver (arities_of e.structure) (form_of c.args.f.now))
    (sym (c.quantify_anew-k.ensures.same ∙ c.kept_value.ensures.same ∙ c.turn-since.ensures))
    (subst (IsFormulaOver (arities_of c.args.self.now.structure)) (sym c.requires.whole)
    (formula-over c.args.q (arities_of c.args.self.now.structure) c.args.v.0 (form_of c.args.body.now) c.requires.parts.formula))

pub quantify-offer_value-requires-clause-value : goal.quantify-offer_value-requires-clause-value
quantify-offer_value-requires-clause-value t c =
    c.quantify_anew-k.ensures.exact
    ∙ ap (λ e. value (structure_of e.structure) (assignment_of c.args.a.now) (quantified c.args.q c.args.v.0 (form_of c.args.body.now))) (sym c.quantify_anew-k.ensures.same)
    ∙ ap (value (structure_of c.quantify_anew-k.new.self.structure) (assignment_of c.args.a.now)) (sym c.requires.whole)

pub quantify-returns-clause-exact : goal.quantify-returns-clause-exact
quantify-returns-clause-exact t c =
    c.quantify_anew-k.ensures.exact
    ∙ ap (λ e. value (structure_of e.structure) (assignment_of c.args.a.now) (quantified c.args.q c.args.v.0 (form_of c.args.body.now))) (c.kept_value.ensures.same ∙ c.turn-since.ensures)

pub closed_part-take_room-relation-requires : goal.closed_part-take_room-relation-requires
closed_part-take_room-relation-requires t c =
    subst (λ e. 0 < e.room.levels) (sym c.kept_part.ensures.same)
    (rooms-split c.args.self.now.structure.size (nesting (form_of c.args.edges.body.now)) c.args.self.now c.requires.room).some

pub closed_part-close-requires : goal.closed_part-close-requires
closed_part-close-requires t c =
    let body : Form = form_of c.args.edges.body.now
    in let here : c.fill.new.self ≡ with_one_out c.args.self.now =
    c.fill.ensures.same ∙ c.take_room-relation.ensures.taken ∙ ap with_one_out c.kept_part.ensures.same
    in let square : IsSquare c.args.self.now.structure.size c.fill.new.relation =
    subst (λ e. IsSquare e.structure.size c.fill.new.relation)
    (c.take_room-relation.ensures.taken ∙ ap with_one_out c.kept_part.ensures.same) c.fill.ensures.square
    in subst (λ k. IsSquare k c.fill.new.relation) (sym c.size-individuals.ensures.size) square

pub closed_part-offer-requires-clause-body : goal.closed_part-offer-requires-clause-body
closed_part-offer-requires-clause-body t c =
    let body : Form = form_of c.args.edges.body.now
    in let here : c.fill.new.self ≡ with_one_out c.args.self.now =
    c.fill.ensures.same ∙ c.take_room-relation.ensures.taken ∙ ap with_one_out c.kept_part.ensures.same
    in let square : IsSquare c.args.self.now.structure.size c.fill.new.relation =
    subst (λ e. IsSquare e.structure.size c.fill.new.relation)
    (c.take_room-relation.ensures.taken ∙ ap with_one_out c.kept_part.ensures.same) c.fill.ensures.square
    in subst (λ e. IsFormulaOver (arities_of e.structure) body) (sym here) c.requires.body.formula.1.1

pub closed_part-offer-requires-clause-closed : goal.closed_part-offer-requires-clause-closed
closed_part-offer-requires-clause-closed t c =
    let body : Form = form_of c.args.edges.body.now
    in let here : c.fill.new.self ≡ with_one_out c.args.self.now =
    c.fill.ensures.same ∙ c.take_room-relation.ensures.taken ∙ ap with_one_out c.kept_part.ensures.same
    in let square : IsSquare c.args.self.now.structure.size c.fill.new.relation =
    subst (λ e. IsSquare e.structure.size c.fill.new.relation)
    (c.take_room-relation.ensures.taken ∙ ap with_one_out c.kept_part.ensures.same) c.fill.ensures.square
    in let edges : (u w : ℕ) → u < c.args.self.now.structure.size → w < c.args.self.now.structure.size
    → entry_in c.fill.new.relation u w ≡ value (structure_of c.args.self.now.structure)
    (put (put (assignment_of c.args.a.now) c.args.edges.left.0 u) c.args.edges.right.0 w) body =
    subst (λ e. (u w : ℕ) → u < e.structure.size → w < e.structure.size
    → entry_in c.fill.new.relation u w ≡ value (structure_of e.structure)
    (put (put (assignment_of c.args.a.now) c.args.edges.left.0 u) c.args.edges.right.0 w) body)
    (c.take_room-relation.ensures.taken ∙ ap with_one_out c.kept_part.ensures.same) c.fill.ensures.edges
    in let Closed : ℕ → Type 0 = λ k. (x y : ℕ) → x < k → y < k
    → entry_in c.close.new.self x y ≡ best_walk (entry_in c.fill.new.relation) (range_with_len 0 k) x y
    in let held : HoldsClosure c.args.self.now.structure (assignment_of c.args.a.now) c.args.edges.left.0
    c.args.edges.right.0 body c.close.new.self =
    closed_are_held c.args.self.now.structure (assignment_of c.args.a.now) c.args.edges.left.0 c.args.edges.right.0 body
    c.fill.new.relation c.close.new.self
    (subst (λ k. IsSquare k c.close.new.self) c.size-individuals.ensures.size c.close.ensures.square) edges
    (subst Closed c.size-individuals.ensures.size c.close.ensures.closed)
    in subst (λ e. HoldsClosure e.structure (assignment_of c.args.a.now) c.args.edges.left.0 c.args.edges.right.0 body
    c.close.new.self) (sym here) held

pub closed_part-give_room-requires-clause-size : goal.closed_part-give_room-requires-clause-size
closed_part-give_room-requires-clause-size t c =
    let body : Form = form_of c.args.edges.body.now
    in let here : c.fill.new.self ≡ with_one_out c.args.self.now =
    c.fill.ensures.same ∙ c.take_room-relation.ensures.taken ∙ ap with_one_out c.kept_part.ensures.same
    in let square : IsSquare c.args.self.now.structure.size c.fill.new.relation =
    subst (λ e. IsSquare e.structure.size c.fill.new.relation)
    (c.take_room-relation.ensures.taken ∙ ap with_one_out c.kept_part.ensures.same) c.fill.ensures.square
    in c.offer.ensures.size ∙ c.close.ensures.size ∙ c.fill.ensures.size ∙ c.take_room-relation.ensures.size
    ∙ ap (λ e. e.room.size) c.kept_part.ensures.same ∙ sym (ap (λ e. e.room.size) (c.offer.ensures.same ∙ here))

pub closed_part-give_room-requires-clause-spare : goal.closed_part-give_room-requires-clause-spare
closed_part-give_room-requires-clause-spare t c =
    let body : Form = form_of c.args.edges.body.now
    in let here : c.fill.new.self ≡ with_one_out c.args.self.now =
    c.fill.ensures.same ∙ c.take_room-relation.ensures.taken ∙ ap with_one_out c.kept_part.ensures.same
    in let square : IsSquare c.args.self.now.structure.size c.fill.new.relation =
    subst (λ e. IsSquare e.structure.size c.fill.new.relation)
    (c.take_room-relation.ensures.taken ∙ ap with_one_out c.kept_part.ensures.same) c.fill.ensures.square
    in let some : 0 < c.args.self.now.spare + 1 = omega arith
    in subst (λ e. 0 < e.spare) (sym (c.offer.ensures.same ∙ here)) some

pub closed_part-returns-clause-same : goal.closed_part-returns-clause-same
closed_part-returns-clause-same t c =
    let body : Form = form_of c.args.edges.body.now
    in let here : c.fill.new.self ≡ with_one_out c.args.self.now =
    c.fill.ensures.same ∙ c.take_room-relation.ensures.taken ∙ ap with_one_out c.kept_part.ensures.same
    in let square : IsSquare c.args.self.now.structure.size c.fill.new.relation =
    subst (λ e. IsSquare e.structure.size c.fill.new.relation)
    (c.take_room-relation.ensures.taken ∙ ap with_one_out c.kept_part.ensures.same) c.fill.ensures.square
    in c.give_room.ensures ∙ ap with_one_back (c.offer.ensures.same ∙ here)
    ∙ back-again c.args.self.now
    (rooms-split c.args.self.now.structure.size (nesting body) c.args.self.now c.requires.room).some

pub one_by_one-returns-in-Some-clause-same : goal.one_by_one-returns-in-Some-clause-same
one_by_one-returns-in-Some-clause-same t c =
    c.value_of-value.ensures.same ∙ c.loop-whole.invariant.0
