-- Heaps of a program, definitions and rules under other names.
use Rattle.std.proofs.Common.{ℕ, ◌≡◌, ◌≢◌, ◌↔◌, ◌<◌, List, map, length, get_or, All, AllPairs, Contains, inl}
use Rattle.std.proofs.Common.{sym, ap, subst, ◌∙◌, arith}
use Rattle.std.specs.Option.{option_map}
use Rattle.std.proofs.lemmas.List.{length-map, get_or-map}
use Rattle.std.proofs.lemmas.List.Elements.{All-contains}
use Rattle.tv_model.specs.Heap.{Heap, IsTuple, extent}
use Rattle.tv_model.specs.Program.{ProgramForm, KindForm, KCore, KDefined, RuleForm}
use Rattle.tv_model.specs.Rules.{IsHeap, IsConcrete, MeetsDefinition, MeetsRule, MeetsProgram, blank}
use Rattle.tv_model.specs.Rules.{head_formula, property_rules}
use Rattle.tv_model.specs.Truth.{Assignment, Truth, put_all}
use Rattle.tv_model.specs.Valid.{IsValid, IsPred, IsKind}
use Rattle.tv_model.proofs.Lists.{Contains-map_back, All-from_contains, slice_get-contains}
use Rattle.tv_renaming_laws.specs.Renamed.{renamed, IsRenaming}
use Rattle.tv_renaming_laws.proofs.Names.{all-among, all-among_back, among-back, extent-renamed}
use Rattle.tv_renaming_laws.proofs.Names.{holds-renamed, put_all-own, truth-renamed, tuple-there}

-- ---- the shape

differ-renamed : (r s : ℕ → ℕ) → IsRenaming r s → (xs : List ℕ) → AllPairs ◌≢◌ xs → AllPairs ◌≢◌ (map r xs)
differ-renamed r s is xs apart i j d lt within same =
    let top : j < length xs = subst (λ n. j < n) (length-map xs r) within
    in let low : i < length xs = omega (arith, lt, top)
    in let a : get_or (map r xs) i d ≡ r (get_or xs i d) = get_or-map r xs i d d low
    in let b : get_or (map r xs) j d ≡ r (get_or xs j d) = get_or-map r xs j d d top
    in apart i j d lt top (sym (is.back (get_or xs i d)) ∙ ap s (sym a ∙ same ∙ b) ∙ is.back (get_or xs j d))

pub tuple-renamed : (r s : ℕ → ℕ) → IsRenaming r s → (h : Heap) (n : ℕ) (us : List ℕ) → IsTuple h n us → IsTuple (renamed r h) n (map r us)
tuple-renamed r s is h n us (long, all) = (length-map us r ∙ long, all-among r s is h.individuals us all)

pub tuple-of_old : (r s : ℕ → ℕ) → IsRenaming r s → (h : Heap) (n : ℕ) (ws : List ℕ) → IsTuple (renamed r h) n ws → IsTuple h n (map s ws)
tuple-of_old r s is h n ws (long, all) = (length-map ws s ∙ long, all-among_back r s is h.individuals ws all)

pub heap-renamed : (p : ProgramForm) (r s : ℕ → ℕ) → IsRenaming r s → (h : Heap) → IsHeap p h → IsHeap p (renamed r h)
heap-renamed p r s is h heap = record {
  individuals_differ = differ-renamed r s is h.individuals heap.individuals_differ;
  one_extent_each = length-map h.extents (λ (tuples : List (List ℕ)). map (λ tuple. map r tuple) tuples) ∙ heap.one_extent_each;
  tuples_fit = λ q d found.
      All-from_contains (IsTuple (renamed r h) d.arity) (extent (renamed r h) q) (λ ws at.
      let from : (us : List ℕ) × Contains (extent h q) us × (map r us ≡ ws)
      = Contains-map_back (λ tuple. map r tuple) (extent h q) ws (subst (λ ts. Contains ts ws) (extent-renamed r h q) at)
      in subst (IsTuple (renamed r h) d.arity) from.2
      (tuple-renamed r s is h d.arity from.0 (All-contains (IsTuple h d.arity) (extent h q) from.0 (heap.tuples_fit q d found) from.1)));
  no_mark = ap (option_map r) heap.no_mark;
}

-- ---- definitions

definition-renamed : (p : ProgramForm) (r s : ℕ → ℕ) → IsRenaming r s → (h : Heap) (q arity : ℕ) (kind : KindForm) → IsKind p arity kind → (us : List ℕ)
    → length us ≡ arity → MeetsDefinition h q kind us → MeetsDefinition (renamed r h) q kind (map r us)
definition-renamed p r s is h q arity KCore valid us long meets = meets
definition-renamed p r s is h q arity (KDefined vars body) valid us long meets =
    let count : length vars ≡ length us = valid.0.0 ∙ sym long
    in let truth : Truth h (put_all blank vars us) body ↔ Truth (renamed r h) (put_all blank vars (map r us)) body
    = truth-renamed r s is h (put_all blank vars us) (put_all blank vars (map r us)) body
    (λ v free. put_all-own r vars us blank blank count v (inl (valid.2 v free)))
    in let holds = holds-renamed r s is h q us
    in (λ t. truth.0 (meets.0 (holds.1 t)), λ t. holds.0 (meets.1 (truth.1 t)))

pub concrete-renamed : (p : ProgramForm) → IsValid p → (r s : ℕ → ℕ) → IsRenaming r s → (h : Heap) → IsConcrete p h → IsConcrete p (renamed r h)
concrete-renamed p valid r s is h concrete q d found ws fits =
    let old : IsTuple h d.arity (map s ws) = tuple-of_old r s is h d.arity ws fits
    in let pred : IsPred p d = All-contains (IsPred p) p.preds d valid.preds (slice_get-contains p.preds q d found)
    in subst (MeetsDefinition (renamed r h) q d.kind) (tuple-there r s is ws)
    (definition-renamed p r s is h q d.arity d.kind pred.kind (map s ws) old.0 (concrete q d found (map s ws) old))

-- ---- rules

pub rule-renamed : (r s : ℕ → ℕ) → IsRenaming r s → (h : Heap) (rule : RuleForm) → MeetsRule h rule → MeetsRule (renamed r h) rule
rule-renamed r s is h rule meets b given body =
    let a : Assignment = λ v. s (b v)
    in let agrees : (v : ℕ) → b v ≡ r (a v) = λ v. sym (is.there (b v))
    in (truth-renamed r s is h a b (head_formula rule.head) (λ v free. agrees v)).0
    (meets a (λ v free. (among-back r s is h.individuals (b v)).0 (given v free))
    ((truth-renamed r s is h a b rule.body (λ v free. agrees v)).1 body))

rules-renamed : (r s : ℕ → ℕ) → IsRenaming r s → (h : Heap) (rules : List RuleForm) → All (MeetsRule h) rules → All (MeetsRule (renamed r h)) rules
rules-renamed r s is h rules all k d lt = rule-renamed r s is h (get_or rules k d) (all k d lt)

pub meets-renamed : (p : ProgramForm) (r s : ℕ → ℕ) → IsRenaming r s → (h : Heap) → MeetsProgram p h → MeetsProgram p (renamed r h)
meets-renamed p r s is h meets = record {
  rules = rules-renamed r s is h p.rules meets.rules;
  properties = λ q d found. rules-renamed r s is h (property_rules q d.props) (meets.properties q d found);
}
