-- What structures in tables are, once an individual is added, and once some are dropped.
use Rattle.std.proofs.Common.{ℕ, ◌≡◌, ◌<◌, ◌≤◌, ◌+◌, ◌++◌, ◌⊎◌, Bool, true, false, List, [], ◌∷◌, length}
use Rattle.std.proofs.Common.{get_or, map, filter, Some, None, inl, inr, refl, sym, ap, subst, ◌∙◌, arith}
use Rattle.std.proofs.Common.{suc}
use Rattle.std.specs.Prelude.{AllPairs}
use Rattle.std.specs.List.{range_with_len}
use Rattle.std.proofs.lemmas.Bool.{cases_lt, cond-true, cond-false}
use Rattle.std.proofs.lemmas.List.Elements.{All-contains, All-from_recursion, recursion_from_All}
use Rattle.std.proofs.lemmas.List.FromFn.{length-range_with_len, get_or-range_with_len}
use Rattle.std.proofs.lemmas.List.FromFn.{length-map-range_with_len, get_or-map-range_with_len}
use Rattle.std.proofs.lemmas.List.Kept.{AllPairs-from_increasing}
use Rattle.std.proofs.lemmas.List.{same_lists, get_or_default}
use Rattle.tv_lemmas.proofs.Lists.{range_more}
use Rattle.tv_structure_form.specs.TableForm.{AreIndividuals}
use Rattle.tv_structure_form.specs.StructureForm.{StructureForm, IsStructure, structure_of, summary_at}
use Rattle.tv_structure_form.specs.StructureForm.{with_new}
use Rattle.tv_structure_form.specs.StructureForm.{arities_of, kept_from}
use Rattle.tv_structure_form.specs.Laws.{DrawnReads}
use Rattle.tv_structure_form.proofs.OriginLaws.{are_kept}
use Rattle.tv_structure_form.proofs.DrawnLaws.{summary_at-past}
use Rattle.tv_structure_form.proofs.StructureLaws.{drawn_reads}
use Rattle.tv_structure_form.proofs.Library.{below-range, AreIndividuals-range}
use Rattle.tv_update_laws.specs.Applied.{IsGrown}
use Rattle.tv_update_laws.specs.Tables.{flag_at, middle_table, TablesAreMiddle, TablesAreKept}

-- the middle table is over the predicates of the structure
pub over-middle : (b : Bool) (s : StructureForm) → IsStructure s → arities_of (middle_table b s) ≡ arities_of s
over-middle false s is = refl
over-middle true s is =
    let reads : DrawnReads s = drawn_reads s is in reads.arities (range_with_len 0 (s.size + 1)) (Some s.size)

-- ---- a further individual

-- the individuals of a structure with a new one
grown-individuals : (s : StructureForm)
    → range_with_len 0 (with_new s).size ≡ range_with_len 0 s.size ++ s.size ∷ []
grown-individuals s =
    let last : 0 + s.size ≡ s.size = omega arith
    in ap (range_with_len 0) (length-range_with_len 0 (s.size + 1)) ∙ range_more 0 s.size
    ∙ ap (λ n. range_with_len 0 s.size ++ n ∷ []) last

tables_grow : (s : StructureForm) → IsStructure s → IsGrown (structure_of s) (structure_of (with_new s))
tables_grow s is = record {
  further = s.size;
  is_further = λ at. let k : s.size < s.size = below-range s.size s.size at in omega arith;
  individuals = grown-individuals s;
  values = λ q tuple all.
      reads.with_new q tuple (recursion_from_All (λ u. u < s.size + 1) tuple (λ k d lt.
      let b : get_or tuple k d < s.size = below-range s.size _ (all k d lt) in omega arith));
  no_values = λ q tuple all at.
      reads.with_new q tuple
      (subst (λ n. AreIndividuals n tuple) (length-range_with_len 0 (s.size + 1))
      (AreIndividuals-range (with_new s).size tuple all))
      ∙ reads.past_end q tuple (λ within.
      let k : s.size < s.size =
      All-contains (λ u. u < s.size) tuple s.size (All-from_recursion (λ u. u < s.size) tuple within) at
      in omega arith);
  summaries = λ u at. let k : u < s.size = below-range s.size u at in summary u (omega arith);
  ordinary = summary s.size (omega arith) ∙ summary_at-past s s.size is (omega arith);
  mark = refl;
}
  where
    reads : DrawnReads s
    reads = drawn_reads s is

    summary : (u : ℕ) → u < s.size + 1 → summary_at (with_new s) u ≡ summary_at s u
    summary u lt =
        reads.summaries (range_with_len 0 (s.size + 1)) (Some s.size) u
        (rw (length-range_with_len 0 (s.size + 1)) lt)
        ∙ ap (summary_at s) (get_or-range_with_len 0 (s.size + 1) u 0 lt ∙ omega arith)

pub tables_are_middle : TablesAreMiddle
tables_are_middle false s is = refl
tables_are_middle true s is = tables_grow s is

-- ---- kept individuals

-- the places of set flags are the numbers that pass
pub kept-range : (n : ℕ) (keep : List Bool) (test : ℕ → Bool)
    → ((w : ℕ) → w < length keep → test (n + w) ≡ get_or keep w false)
    → kept_from n keep ≡ filter test (range_with_len n (length keep))
kept-range n [] test same = refl
kept-range n (b ∷ keep) test same =
    go b (ap test first ∙ same 0 (omega arith)) (kept-range (n + 1) keep test (λ w lt.
    let e : n + 1 + w ≡ n + suc w = omega arith in ap test e ∙ same (suc w) (omega arith)))
  where
    first : n ≡ n + 0
    first = omega arith

    later : List ℕ
    later = filter test (range_with_len (n + 1) (length keep))

    go : (c : Bool) → test n ≡ c → kept_from (n + 1) keep ≡ later
        → kept_from n (c ∷ keep) ≡ filter test (n ∷ range_with_len (n + 1) (length keep))
    go true e rest = ap (λ us. n ∷ us) rest ∙ sym (cond-true (test n) (n ∷ later) later e)
    go false e rest = rest ∙ sym (cond-false (test n) (n ∷ later) later e)

-- a list is read at its places
read-back : (us : List ℕ) → map (λ u. get_or us u 0) (range_with_len 0 (length us)) ≡ us
read-back us =
    same_lists (map (λ u. get_or us u 0) (range_with_len 0 (length us))) us
    (length-map-range_with_len (λ u. get_or us u 0) 0 (length us))
    (λ k d lt. let within : k < length us = rw
    (← length-map-range_with_len (λ u. get_or us u 0) 0 (length us)) lt
    in get_or-map-range_with_len (λ u. get_or us u 0) 0 (length us) k k d within (omega arith)
    ∙ get_or_default us k 0 d within)

pub tables_are_kept : TablesAreKept
tables_are_kept s is keep size = record {
  origins =
      read-back places
      ∙ kept-range 0 keep (flag_at keep) (λ w lt. let e : 0 + w ≡ w = omega arith in ap (flag_at keep) e)
      ∙ ap (λ n. filter (flag_at keep) (range_with_len 0 n)) size;
  differ = λ u w hu hw same.
      apart u w (below-range (length places) u hu) (below-range (length places) w hw) same (cases_lt u w)
      (cases_lt w u);
  values = λ q tuple all. reads.values places None q tuple (AreIndividuals-range (length places) tuple all);
  summaries = λ u at. reads.summaries places None u (below-range (length places) u at);
  no_mark = refl;
}
  where
    places : List ℕ
    places = kept_from 0 keep

    reads : DrawnReads s
    reads = drawn_reads s is

    rise : AllPairs (λ x y. x < y) (kept_from 0 keep)
    rise = AllPairs-from_increasing (kept_from 0 keep) (are_kept keep).increasing

    apart : (u w : ℕ) → u < length (kept_from 0 keep) → w < length (kept_from 0 keep)
        → get_or (kept_from 0 keep) u 0 ≡ get_or (kept_from 0 keep) w 0
        → (u < w) ⊎ (w ≤ u) → (w < u) ⊎ (u ≤ w) → u ≡ w
    apart u w hu hw same (inl lt) other = absurd (omega (arith, rise u w 0 lt hw))
    apart u w hu hw same (inr ge) (inl lt) = absurd (omega (arith, rise w u 0 lt hu))
    apart u w hu hw same (inr ge) (inr le) = omega arith
