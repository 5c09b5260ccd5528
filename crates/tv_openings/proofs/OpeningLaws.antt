-- Structures with several copies of individuals, without summaries.
use Rattle.std.proofs.Common.{ℕ, suc, ◌≡◌, ◌≢◌, ◌<◌, ◌≤◌, ◌+◌, false, List, [], ◌∷◌, ◌++◌, length, get_or}
use Rattle.std.proofs.Common.{Option, None, Some}
use Rattle.std.proofs.Common.{All, AllPairs, Contains, refl, sym, ap, subst, ◌∙◌, arith}
use Rattle.std.specs.Prelude.{sum, take}
use Rattle.std.specs.List.{range_with_len}
use Rattle.std.specs.Option.{option_map}
use Rattle.std.proofs.lemmas.List.{get_or_default}
use Rattle.std.proofs.lemmas.List.Elements.{All-nil, All-cons}
use Rattle.tv_kleene.specs.declared.K3.TheVariants.{No}
use Rattle.tv_model.specs.Heap.{Heap}
use Rattle.tv_model.proofs.Lists.{Contains-none, pushed-old, pushed-last}
use Rattle.tv_embedding_laws.specs.Embedding.{IsHeapOf}
use Rattle.tv_structure_form.specs.StructureForm.{StructureForm, IsStructure, structure_of, arities_of}
use Rattle.tv_structure_form.specs.StructureForm.{summary_at}
use Rattle.tv_structure_form.specs.StructureForm.{value_at, split, copies_from}
use Rattle.tv_structure_form.specs.TableForm.{arities_in}
use Rattle.tv_structure_form.proofs.OriginLaws.{copies_count}
use Rattle.tv_structure_form.proofs.StructureLaws.{drawn_reads}
use Rattle.tv_start_laws.specs.Starts.{FitsBelow, IsSetTo, ArePartSizes, fibre_sizes}
use Rattle.tv_start_laws.proofs.Branching.{set-below}
use Rattle.tv_start_laws.proofs.Fibring.{fibres_are_copies, ordinaries_fit}
use Rattle.tv_openings.specs.Openings.{IsCleared, IsPlainOpening, LiesInOne, AreAllOpenings}
use Rattle.tv_openings.specs.Parts.{ArePartsFrom, HavePlace, AreAllParts}

-- ---- numbers of copies

pub parts_long : (s : StructureForm) (n : ℕ) (parts : List ℕ) → ArePartsFrom s n parts → length parts + n ≡ s.size
parts_long s n [] here = let none : length {A = ℕ} [] ≡ 0 = refl in omega (arith, here, none)
parts_long s n (part ∷ parts) from =
    let rest : length parts + (n + 1) ≡ s.size = parts_long s (n + 1) parts from.3
    in let more : length (part ∷ parts) ≡ suc (length parts) = refl
    in omega (arith, rest, more)

pub parts_some : (s : StructureForm) (n : ℕ) (parts : List ℕ) → ArePartsFrom s n parts → All (λ part. 1 ≤ part) parts
parts_some s n [] here = All-nil (λ part. 1 ≤ part)
parts_some s n (part ∷ parts) from =
    All-cons (λ x. 1 ≤ x) part parts (omega (arith, from.1)) (parts_some s (n + 1) parts from.3)

-- the individual n + u may have so many copies
abbrev Suits : StructureForm → (n u part : ℕ) → Type 0
Suits s n u part = (0 < part) × (summary_at s (n + u) ≡ false → part ≡ 1)

sizes-from : (s : StructureForm) (n : ℕ) (parts : List ℕ) → length parts + n ≡ s.size
    → ((u : ℕ) → u < length parts → Suits s n u (get_or parts u 0)) → ArePartsFrom s n parts
sizes-from s n [] long each = let none : length {A = ℕ} [] ≡ 0 = refl in omega (arith, long, none)
sizes-from s n (part ∷ parts) long each =
    let more : length (part ∷ parts) ≡ suc (length parts) = refl
    in let first : Suits s n 0 part = each 0 (omega (arith, more))
    in (
      omega (arith, long, more),
      first.0,
      (λ e. first.1 (subst (λ k. summary_at s k ≡ false) (let same : n ≡ n + 0 = omega arith in same) e)),
      sizes-from s (n + 1) parts (omega (arith, long, more)) (λ u lt.
          let later : Suits s n (suc u) (get_or parts u 0) = each (suc u) (omega (arith, lt, more))
          in let same : n + 1 + u ≡ n + suc u = omega arith
          in (later.0, λ e. later.1 (subst (λ k. summary_at s k ≡ false) same e))),
    )

pub sizes_place : (s : StructureForm) (cells : ℕ) (parts : List ℕ) → ArePartSizes s parts → sum parts ≤ cells
    → HavePlace s cells 0 parts
sizes_place s cells parts are le = (
  sizes-from s 0 parts (omega (arith, are.one_part_each)) (λ u lt.
      let under : u < s.size = omega (arith, lt, are.one_part_each)
      in let same : 0 + u ≡ u = omega arith
      in (are.some u under, λ e. are.ordinary u under (subst (λ k. summary_at s k ≡ false) same e))),
  omega (arith, le),
)

-- ---- a cleared structure

cleared-set : (t w : StructureForm) → IsCleared t w → IsSetTo (structure_of t) 0 [] No (structure_of w)
cleared-set t w is = record {
  individuals = ap (range_with_len 0) is.size;
  there = λ tuple at. absurd (Contains-none tuple at);
  elsewhere = λ q tuple not.
      ap (λ planes. value_at (record w { planes = planes }) q tuple) is.planes;
}

pub cleared_fits : (t w : StructureForm) → IsCleared t w → (h : Heap) → AllPairs ◌≢◌ h.individuals
    → FitsBelow h (structure_of t) → IsHeapOf h (structure_of w)
cleared_fits t w is h apart (k, copy, below) =
    (ordinaries_fit w is.is is.ordinary h apart).1 (
      k,
      copy,
      set-below k (structure_of t) below 0 [] No (λ tuple at. absurd (Contains-none tuple at)) (structure_of w)
          (cleared-set t w is),
    )

mark-none : (parts : List ℕ) (o : Option ℕ) → o ≡ None → option_map (λ u. sum (take u parts)) o ≡ None
mark-none parts None e = refl
mark-none parts (Some u) e = absurd (cc e)

pub cleared_opening : (s w : StructureForm) (cells : ℕ) (parts : List ℕ) → IsStructure s → s.fresh ≡ None
    → HavePlace s cells 0 parts → IsCleared (split s parts) w → IsPlainOpening (arities_of s) cells w
cleared_opening s w cells parts structure unmarked have is = record {
  is = is.is;
  over =
      ap arities_in is.planes ∙ (drawn_reads s structure).arities (copies_from 0 parts) (split s parts).fresh;
  unmarked = is.fresh ∙ mark-none parts s.fresh unmarked;
  ordinary = is.ordinary;
  small =
      let many : w.size ≡ sum parts = is.size ∙ copies_count 0 parts
      in omega (arith, many, have.1);
}

-- ---- all of them

-- each heap that fits below the split by one of the first lists embeds in one of the structures
abbrev pub AreFoundTo : StructureForm → (lists : List (List ℕ)) → (count : ℕ) → (ws : List StructureForm) → Type 0
AreFoundTo s lists count ws =
    (k : ℕ) → k < count → (h : Heap) → AllPairs ◌≢◌ h.individuals
    → FitsBelow h (structure_of (split s (get_or lists k []))) → LiesInOne ws h

pub openings_all : (s : StructureForm) (cells : ℕ) (lists : List (List ℕ)) (count : ℕ) (ws : List StructureForm)
    → IsStructure s → AreAllParts s cells 0 lists → length lists ≤ count → All (IsPlainOpening (arities_of s) cells) ws
    → AreFoundTo s lists count ws → AreAllOpenings s cells ws
openings_all s cells lists count ws structure whole long each found = record { each = each; all = all }
  where
    all : (h : Heap) → AllPairs ◌≢◌ h.individuals → length h.individuals ≤ cells → IsHeapOf h (structure_of s)
        → LiesInOne ws h
    all h apart small (f, e) =
        let parts : List ℕ = fibre_sizes f h.individuals 0 s.size
        in let copied = fibres_are_copies s structure h apart f e
        in let few : sum (fibre_sizes f h.individuals 0 s.size) ≤ cells = omega (arith, copied.cells, small)
        in let at = whole.all parts (sizes_place s cells parts copied.are few)
        in let is : get_or lists at.0 [] ≡ parts = get_or_default lists at.0 [] parts at.1 ∙ at.2
        in found at.0 (omega (arith, at.1, long)) h apart
        (subst (λ (x : List ℕ). FitsBelow h (structure_of (split s x))) (sym is) copied.below)

pub openings_more : (s : StructureForm) (lists : List (List ℕ)) (k : ℕ) (parts : List ℕ)
    (ws more : List StructureForm)
    (w : StructureForm) → get_or lists k [] ≡ parts → IsCleared (split s parts) w → AreFoundTo s lists k ws
    → more ≡ ws ++ w ∷ []
    → (h : Heap) → AllPairs ◌≢◌ h.individuals → FitsBelow h
    (structure_of (split s (get_or lists k []))) → LiesInOne more h
openings_more s lists k parts ws more w there cleared before is h apart fits = (
  w,
  subst (λ (xs : List StructureForm). Contains xs w) (sym is) (pushed-last ws w w refl),
  cleared_fits (split s parts) w cleared h apart
      (subst (λ (x : List ℕ). FitsBelow h (structure_of (split s x))) there fits),
)

pub found_still : (ws more : List StructureForm) (w : StructureForm) → more ≡ ws ++ w ∷ []
    → (h : Heap) → LiesInOne ws h
    → LiesInOne more h
found_still ws more w is h (x, at, lies) =
    (x, subst (λ (xs : List StructureForm). Contains xs x) (sym is) (pushed-old ws w x at), lies)
