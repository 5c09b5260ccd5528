-- What is listed while structures are looked at.
use Rattle.std.proofs.Common.{ℕ, ◌≡◌, ◌≢◌, ◌<◌, ◌≤◌, ◌⊎◌, List, [], ◌∷◌, ◌++◌, map, length, Option, None}
use Rattle.std.proofs.Common.{Some}
use Rattle.std.proofs.Common.{All, Contains, append-nil, append_assoc, inl, inr, refl, sym, ap, subst, ◌∙◌}
use Rattle.std.proofs.Common.{⊎_elim, arith}
use Rattle.std.specs.List.{range_with_len}
use Rattle.std.proofs.lemmas.Bool.{false_from_ne_true, false≢true}
use Rattle.std.proofs.lemmas.List.Elements.{All-nil, All-cons, All-append, All-push, All-contains}
use Rattle.std.proofs.lemmas.List.Elements.{Contains-append_left, Contains-append_right}
use Rattle.std.proofs.lemmas.List.FromFn.{length-range_with_len}
use Rattle.tv_kleene.specs.declared.K3.{K3}
use Rattle.tv_kleene.specs.declared.K3.TheVariants.{No, Half, Yes}
use Rattle.tv_lemmas.proofs.Lists.{All-left, All-right}
use Rattle.tv_model.specs.Heap.{Heap}
use Rattle.tv_model.specs.Program.{ProgramForm, RuleForm, program_of}
use Rattle.tv_model.specs.Rules.{IsHeap, MeetsRule}
use Rattle.tv_model.specs.Run.{IsStart}
use Rattle.tv_model.specs.Valid.{IsValid}
use Rattle.tv_model.proofs.Lists.{Contains-here, Contains-there, Contains-none, pushed-cases, pushed-old}
use Rattle.tv_model.proofs.Lists.{pushed-last}
use Rattle.tv_model.proofs.Parts.{arities-same}
use Rattle.tv_coerce.specs.Coerced.{CoercesTo, CoercesHeaps}
use Rattle.tv_embedding_laws.specs.Embedding.{IsHeapOf}
use Rattle.tv_openings.specs.declared.gap.Gap.{Gap}
use Rattle.tv_openings.specs.Gaps.{IsGap}
use Rattle.tv_openings.specs.Openings.{AreAllOpenings, IsPlainOpening}
use Rattle.tv_rules.specs.Closing.{closed_rules}
use Rattle.tv_rules.proofs.MetByHeaps.{closed_rules_are_met}
use Rattle.tv_start_laws.specs.Copies.{IsHeapCopy}
use Rattle.tv_start_laws.proofs.Beginning.{copies_keep_starts}
use Rattle.tv_start_laws.proofs.Copying.{copy-back, lies-kept}
use Rattle.tv_start_laws.proofs.Leaves.{leaves_are_copies}
use Rattle.tv_struct.specs.TupleForm.{tuple_of}
use Rattle.tv_structure_form.specs.StructureForm.{StructureForm, IsStructure, structure_of, arities_of}
use Rattle.tv_structure_form.specs.StructureForm.{summary_at, value_at}
use Rattle.tv_structure_form.specs.StructureForm.{IsOver, with_value}
use Rattle.tv_structure_form.proofs.Library.{Contains-range}
use Rattle.tv_two_valued.specs.Laws.{IsOfProgram}
use Rattle.tv_two_valued.specs.TwoValued.{IsTwoValued, heap_of}
use Rattle.tv_two_valued.proofs.Heaps.{heap-of_program}
use Rattle.tv_heaps.specs.Heaps.{IsHeapIn, AreHeapsIn}
use Rattle.tv_heaps.specs.Listed.{Wish, IsWaitingFor, IsWanted, HasCopyAmong, IsUnderWay, IsAhead, HasSplit}
use Rattle.tv_heaps.specs.Listed.{NarrowsTo}
use Rattle.tv_heaps.specs.Listed.{HasLookedAtAll}
use Rattle.tv_heaps.specs.declared.listed.Listed.{Listed}
use Rattle.tv_heaps.specs.declared.rulebook.Rulebook.{Rulebook}
use Rattle.tv_heaps.proofs.Branches.{both_ways, valued_opening}

-- ---- coerce

pub narrows : (x : Wish) (rules : List RuleForm) → rules ≡ closed_rules x.program → IsValid x.program
    → (w : StructureForm)
    → IsWaitingFor x w → (found : Option StructureForm) → CoercesTo rules w found → CoercesHeaps rules w found
    → NarrowsTo x w found
narrows x rules same valid w waiting found coerced heaps = at found coerced heaps
  where
    meets : (h : Heap) → IsWanted x h → All (MeetsRule h) rules
    meets h wanted =
        subst (All (MeetsRule h)) (sym same) (closed_rules_are_met x.program h valid wanted.0.concrete wanted.0.meets)

    at : (o : Option StructureForm) → CoercesTo rules w o → CoercesHeaps rules w o → NarrowsTo x w o
    at None is none = λ h wanted lies. none h (meets h wanted) lies
    at (Some t) is stay =
        let size : t.size ≡ w.size
        = sym (length-range_with_len 0 t.size) ∙ ap length is.greatest.below.0 ∙ length-range_with_len 0 w.size
        in (
          record {
            is = is.is;
            over = is.over ∙ waiting.over;
            unmarked = is.mark ∙ waiting.unmarked;
            ordinary = λ u lt. false_from_ne_true (summary_at t u) (λ summary.
                false≢true (sym (waiting.ordinary u (subst (λ n. u < n) size lt))
                ∙ is.greatest.below.1.summaries u (Contains-range t.size u lt) summary));
            small = subst (λ n. n ≤ x.cells) (sym size) waiting.small;
          },
          λ h wanted lies. stay h (meets h wanted) lies,
        )

-- a structure over the predicates of the program is one over the vocabulary
pub over_vocab : (book : Rulebook) (w : StructureForm)
    → arities_of w ≡ map (λ d. d.arity) (program_of book.program.now).preds
    → IsOver book.program.now.vocab w
over_vocab book w over = over ∙ arities-same book.program.now.vocab.preds

-- ---- what is ahead

pub ahead_more : (old new : Listed) (ws heaps : List StructureForm) → new.waiting.items ≡ old.waiting.items ++ ws
    → new.found ≡ old.found ++ heaps → (h : Heap) → IsAhead old h → IsAhead new h
ahead_more old new ws heaps more also h (inl (w, at, lies)) =
    inl (
      w,
      subst (λ (xs : List StructureForm). Contains xs w) (sym more)
          (Contains-append_left old.waiting.items ws w at),
      lies,
    )
ahead_more old new ws heaps more also h (inr (t, at, copy)) =
    inr (
      t,
      subst (λ (xs : List StructureForm). Contains xs t) (sym also)
          (Contains-append_left old.found heaps t at),
      copy,
    )

nothing_more : (xs : List StructureForm) → xs ≡ xs ++ []
nothing_more xs = sym (append-nil xs)

pub same_ahead : (x : Wish) (t : StructureForm) (old new : Listed) → IsUnderWay x old
    → new.waiting.items ≡ old.waiting.items
    → new.found ≡ old.found → ((h : Heap) → IsWanted x h → ¬ IsHeapOf h (structure_of t)) → HasSplit x t old new
same_ahead x t old new under same also none = record {
  under_way = record {
    waiting = subst (All (IsWaitingFor x)) (sym same) under.waiting;
    found = subst (All (IsHeapIn x.program x.cells x.above)) (sym also) under.found;
  };
  kept = ahead_more old new [] [] (same ∙ nothing_more old.waiting.items) (also ∙ nothing_more old.found);
  split = λ h wanted lies. absurd (none h wanted lies);
}

-- ---- an unknown value

-- the structure with the value at the entry
abbrev pub valued : StructureForm → Gap → K3 → StructureForm
valued t gap k = with_value t gap.pred.0 (tuple_of gap.tuple) k

-- the structure with each of the values is put behind the others
pub both_pushed : (t : StructureForm) (gap : Gap) (one none set unset : StructureForm)
    (old middle new : List StructureForm)
    → one ≡ t → none ≡ t → set ≡ with_value one gap.pred.0 (tuple_of gap.tuple) Yes
    → unset ≡ with_value none gap.pred.0 (tuple_of gap.tuple) No → middle ≡ old ++ set ∷ [] → new ≡ middle ++ unset ∷ []
    → new ≡ old ++ valued t gap Yes ∷ valued t gap No ∷ []
both_pushed t gap one none set unset old middle new is_t also set_is unset_is first second =
    second ∙ ap (λ (xs : List StructureForm). xs ++ unset ∷ []) first ∙ append_assoc old (set ∷ []) (unset ∷ [])
    ∙ ap (λ (y : StructureForm). old ++ y ∷ unset ∷ []) (set_is ∙ ap (λ (s : StructureForm). valued s gap Yes) is_t)
    ∙ ap (λ (y : StructureForm). old ++ valued t gap Yes ∷ y ∷ []) (unset_is ∙ ap (λ
    (s : StructureForm). valued s gap No) also)

valued-waits : (x : Wish) (t : StructureForm) (gap : Gap) (k : K3) → IsWaitingFor x t → IsGap t gap
    → IsWaitingFor x (valued t gap k)
valued-waits x t gap k waiting is =
    valued_opening (map (λ d. d.arity) x.program.preds) x.cells t gap.pred.0 (tuple_of gap.tuple) k waiting is.entry

pub split_gap : (x : Wish) (t : StructureForm) (old new : Listed) (gap : Gap) → IsWaitingFor x t → IsGap t gap
    → IsUnderWay x old → new.waiting.items ≡ old.waiting.items ++ valued t gap Yes ∷ valued t gap No ∷ []
    → new.found ≡ old.found → HasSplit x t old new
split_gap x t old new gap waiting is under more same =
    let both : List StructureForm = valued t gap Yes ∷ valued t gap No ∷ []
    in record {
      under_way = record {
        waiting = subst (All (IsWaitingFor x)) (sym more)
            (All-append (IsWaitingFor x) old.waiting.items both under.waiting
            (All-cons (IsWaitingFor x) (valued t gap Yes) (valued t gap No ∷ []) (valued-waits x t gap Yes waiting is)
            (All-cons (IsWaitingFor x) (valued t gap No) [] (valued-waits x t gap No waiting is)
            (All-nil (IsWaitingFor x)))));
        found = subst (All (IsHeapIn x.program x.cells x.above)) (sym same) under.found;
      };
      kept = ahead_more old new both [] more (same ∙ nothing_more old.found);
      split = λ h wanted lies.
          ⊎_elim (λ yes. inl (
            valued t gap Yes,
            there (valued t gap Yes) (Contains-here (valued t gap Yes) (valued t gap No ∷ [])),
            yes,
          ))
          (λ not. inl (
            valued t gap No,
            there (valued t gap No)
                (Contains-there (valued t gap Yes) (valued t gap No) (valued t gap No ∷ []) (Contains-here
                (valued t gap No) [])),
            not,
          ))
          (both_ways t gap.pred.0 (tuple_of gap.tuple) waiting.is waiting.ordinary is.entry h
          wanted.0.is_heap.individuals_differ lies);
    }
  where
    there : (w : StructureForm) → Contains (valued t gap Yes ∷ valued t gap No ∷ []) w → Contains new.waiting.items w
    there w at =
        subst (λ (xs : List StructureForm). Contains xs w) (sym more)
        (Contains-append_right old.waiting.items (valued t gap Yes ∷ valued t gap No ∷ []) w at)

-- ---- a heap

pub two_valued_opening : (x : Wish) (t : StructureForm) → IsWaitingFor x t
    → ((q : ℕ) (tuple : List ℕ) → value_at t q tuple ≢ Half) → IsTwoValued t
two_valued_opening x t waiting known = record { values = known; summaries = waiting.ordinary }

pub of_program : (x : Wish) (t : StructureForm) → IsWaitingFor x t → IsOfProgram x.program t
of_program x t waiting = (waiting.over, waiting.unmarked)

pub split_leaf : (x : Wish) (t : StructureForm) (old new : Listed) → IsWaitingFor x t → IsTwoValued t → IsUnderWay x old
    → IsStart x.program (heap_of t) → IsHeapOf (heap_of t) (structure_of x.above)
    → new.waiting.items ≡ old.waiting.items → new.found ≡ old.found ++ t ∷ [] → HasSplit x t old new
split_leaf x t old new waiting two under start lies same more = record {
  under_way = record {
    waiting = subst (All (IsWaitingFor x)) (sym same) under.waiting;
    found = subst (All (IsHeapIn x.program x.cells x.above)) (sym more)
        (All-push (IsHeapIn x.program x.cells x.above) old.found t under.found heap);
  };
  kept = ahead_more old new [] (t ∷ []) (same ∙ nothing_more old.waiting.items) more;
  split = λ h wanted embeds. inr (
    t,
    subst (λ (xs : List StructureForm). Contains xs t) (sym more) (pushed-last old.found t t refl),
    leaves_are_copies x.program t waiting.is two (of_program x t waiting) h wanted.0.is_heap embeds,
  );
}
  where
    heap : IsHeapIn x.program x.cells x.above t
    heap = record {
      is = waiting.is;
      over = of_program x t waiting;
      two_valued = two;
      small = waiting.small;
      start = start;
      lies = lies;
    }

-- a leaf that is no start heap below the structure has no wanted heap
pub bare_leaf : (x : Wish) (t : StructureForm) → IsValid x.program → IsWaitingFor x t → IsTwoValued t
    → ¬ (IsStart x.program (heap_of t) × IsHeapOf (heap_of t) (structure_of x.above))
    → (h : Heap) → IsWanted x h → ¬ IsHeapOf h (structure_of t)
bare_leaf x t valid waiting two not h wanted embeds =
    at (leaves_are_copies x.program t waiting.is two (of_program x t waiting) h wanted.0.is_heap embeds)
  where
    at : IsHeapCopy (heap_of t) h → ⊥
    at (r, s, by) =
        let back : IsHeapCopy h (heap_of t) = (s, r, copy-back r s (heap_of t) h by)
        in let heap : IsHeap x.program (heap_of t) = heap-of_program x.program t waiting.is (of_program x t waiting)
        in not (
          copies_keep_starts x.program valid h (heap_of t) back heap wanted.0,
          lies-kept s r h (heap_of t) (copy-back r s (heap_of t) h by) (structure_of x.above) wanted.2,
        )

-- ---- one after the other

pub split_narrowed : (x : Wish) (w t : StructureForm) (old new : Listed) → NarrowsTo x w (Some t) → HasSplit x t old new
    → HasSplit x w old new
split_narrowed x w t old new narrow split = record {
  under_way = split.under_way;
  kept = split.kept;
  split = λ h wanted lies. split.split h wanted (narrow.1 h wanted lies);
}

-- what is left when the last of those that wait is taken off
pub record IsPopped (old rest : Listed) (w : StructureForm) : Type 0 where
  pub waiting : old.waiting.items ≡ rest.waiting.items ++ w ∷ []
  pub found : rest.found ≡ old.found

pub popped_under_way : (x : Wish) (old rest : Listed) (w : StructureForm) → IsPopped old rest w → IsUnderWay x old
    → IsUnderWay x rest
popped_under_way x old rest w popped under = record {
  waiting = All-left (IsWaitingFor x) rest.waiting.items (w ∷ [])
      (subst (All (IsWaitingFor x)) popped.waiting under.waiting);
  found = subst (All (IsHeapIn x.program x.cells x.above)) (sym popped.found) under.found;
}

pub popped_waiting : (x : Wish) (old rest : Listed) (w : StructureForm) → IsPopped old rest w → IsUnderWay x old
    → IsWaitingFor x w
popped_waiting x old rest w popped under =
    All-contains (IsWaitingFor x) (w ∷ []) w
    (All-right (IsWaitingFor x) rest.waiting.items (w ∷ [])
    (subst (All (IsWaitingFor x)) popped.waiting under.waiting))
    (Contains-here w [])

pub popped_ahead : (x : Wish) (old rest new : Listed) (w : StructureForm) → IsPopped old rest w → HasSplit x w rest new
    → (h : Heap) → IsWanted x h → IsAhead old h → IsAhead new h
popped_ahead x old rest new w popped split h wanted (inr (t, at, copy)) =
    split.kept h (inr (t, subst (λ (xs : List StructureForm). Contains xs t) (sym popped.found) at, copy))
popped_ahead x old rest new w popped split h wanted (inl (v, at, lies)) =
    ⊎_elim (λ before. split.kept h (inl (v, before, lies)))
    (λ same. split.split h wanted (subst (λ (y : StructureForm). IsHeapOf h (structure_of y)) same lies))
    (pushed-cases rest.waiting.items w v (subst (λ (xs : List StructureForm). Contains xs v) popped.waiting at))

none_contained : (xs : List StructureForm) → length xs ≡ 0 → (w : StructureForm) → ¬ Contains xs w
none_contained xs none w at = omega (arith, none, at.1)

pub looked_at_all : (x : Wish) (old last new : Listed) → IsUnderWay x last
    → ((h : Heap) → IsWanted x h → IsAhead old h → IsAhead last h) → length last.waiting.items ≡ 0
    → new.waiting.items ≡ last.waiting.items → new.found ≡ last.found → HasLookedAtAll x old new
looked_at_all x old last new under ahead none same also = record {
  under_way = record {
    waiting = subst (All (IsWaitingFor x)) (sym same) under.waiting;
    found = subst (All (IsHeapIn x.program x.cells x.above)) (sym also) under.found;
  };
  found = λ h wanted before. at h (ahead h wanted before);
}
  where
    at : (h : Heap) → IsAhead last h → HasCopyAmong new.found h
    at h (inl (w, there, lies)) = absurd (none_contained last.waiting.items none w there)
    at h (inr (t, there, copy)) = (t, subst (λ (xs : List StructureForm). Contains xs t) (sym also) there, copy)

-- ---- all of it

pub begun : (x : Wish) (first : Listed) → arities_of x.above ≡ map (λ d. d.arity) x.program.preds
    → AreAllOpenings x.above x.cells first.waiting.items → first.found ≡ [] → IsUnderWay x first
begun x first over openings none = record {
  waiting = subst (λ arities. All (IsPlainOpening arities x.cells) first.waiting.items) over openings.each;
  found = subst (All (IsHeapIn x.program x.cells x.above)) (sym none) (All-nil (IsHeapIn x.program x.cells x.above));
}

pub all_heaps : (x : Wish) (first last : Listed) → AreAllOpenings x.above x.cells first.waiting.items
    → HasLookedAtAll x first last → AreHeapsIn x.program x.cells x.above last.found
all_heaps x first last openings done = record {
  each = done.under_way.found;
  all = λ h start few lies.
      done.found h (start, few, lies) (inl (openings.all h start.is_heap.individuals_differ few lies));
}
