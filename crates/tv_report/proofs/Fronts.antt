-- Texts that stand in front of a text, one after the other; and listings of structures without marks.
use Rattle.std.proofs.Common.{◌≡◌, ℕ, suc, ◌+◌, ◌<◌, ◌≤◌, ◌^◌, List, [], ◌∷◌, ◌++◌, length, map, take}
use Rattle.std.proofs.Common.{replicate, Some}
use Rattle.std.proofs.Common.{ap, sym, refl, ◌∙◌, subst, ◌⊎◌, inl, inr, arith, append_assoc}
use Rattle.std.proofs.lemmas.Grind.{flat_map-append}
use Rattle.std.proofs.lemmas.List.{take_more, take_all, append-nil, length-replicate, get_or-replicate}
use Rattle.std.proofs.lemmas.List.{get_or_default}
use Rattle.std.proofs.lemmas.Bool.{cases_lt}
use Rattle.std.proofs.lemmas.List.Elements.{All-push, All-set}
use Rattle.std.proofs.lemmas.Option.{slice_get_within, get_or_from_slice_get, slice_get-get_or}
use Rattle.std.specs.Prelude.{All, slice_get, codes}
use Rattle.std.specs.List.{flat_map, zip}
use Rattle.tv_listing.specs.ListingForm.{at_node, appended}
use Rattle.tv_listing.specs.Listed.{IsListing}
use Rattle.tv_listing.specs.declared.analysis.Analysis.{Analysis}
use Rattle.tv_listing.specs.declared.analysis.MessageLine.{MessageLine}
use Rattle.tv_model.specs.Program.{ProgramForm, program_of}
use Rattle.tv_model.specs.Valid.{IsValid}
use Rattle.tv_model.specs.declared.program.Program.{Program}
use Rattle.tv_model.specs.declared.program.Vocab.{Vocab}
use Rattle.tv_report.specs.Laws.{without_marks, IsReadable, ReportsAreReadAgain}
use Rattle.tv_report.specs.Lines.{IsMessageLine, message_key}
use Rattle.tv_report.specs.Meaning.{IsReportText}
use Rattle.tv_report.specs.Once.{AreOnce, GoesOn}
use Rattle.tv_report.specs.Text.{report_text, node_line, node_text, nodes_text, message_text, map_text}
use Rattle.tv_report.proofs.OnceLaws.{goes_keys, goes_once}
use Rattle.tv_report.proofs.Lists.{zipped_at, zipped_length}
use Rattle.tv_structure_form.specs.StructureForm.{StructureForm, unmarked}
use Rattle.tv_tvs.specs.Canonical.{canonical_text}
use Rattle.tv_tvs.specs.Targets.{IsRead}

-- ---- texts in front

pub next_front : {X : Type 0} (f : X → List ℕ) (xs : List X) (i : ℕ) (x : X) (bytes rest next : List ℕ) → slice_get xs i ≡ Some x
    → bytes ≡ flat_map f (take i xs) ++ rest → rest ≡ f x ++ next → bytes ≡ flat_map f (take (i + 1) xs) ++ next
next_front f xs i x bytes rest next at so_far is =
    let whole : flat_map f (take (i + 1) xs) ≡ flat_map f (take i xs) ++ f x
    = ap (flat_map f) (take_more xs i x (slice_get_within xs i x at) ∙ ap (λ y. take i xs ++ y ∷ []) (get_or_from_slice_get xs i x x at))
    ∙ flat_map-append f (take i xs) (x ∷ []) ∙ ap (λ t. flat_map f (take i xs) ++ t) (append-nil (f x))
    in so_far ∙ ap (λ t. flat_map f (take i xs) ++ t) is ∙ sym (append_assoc (flat_map f (take i xs)) (f x) next) ∙ ap (λ t. t ++ next) (sym whole)

pub all_fronts : {X : Type 0} (f : X → List ℕ) (xs : List X) (i : ℕ) (bytes rest : List ℕ) → length xs ≤ i
    → bytes ≡ flat_map f (take i xs) ++ rest → bytes ≡ flat_map f xs ++ rest
all_fronts f xs i bytes rest le so_far = so_far ∙ ap (λ ys. flat_map f ys ++ rest) (take_all i xs le)

-- ---- nodes

-- a node's line, written in an empty room and found in front, and the texts of its structures behind it
pub node_front : (vocab : Vocab) (name : List ℕ) (ss : List StructureForm) (count : ℕ) (old new bytes text inside rest : List ℕ)
    → count ≡ length ss → old ≡ [] → new ≡ old ++ node_line name count → text ≡ new → bytes ≡ text ++ inside
    → inside ≡ flat_map (canonical_text vocab) ss ++ rest → bytes ≡ node_text vocab name ss ++ rest
node_front vocab name ss count old new bytes text inside rest counted empty written shown is next =
    is ∙ ap (λ t. t ++ inside) (shown ∙ written ∙ ap (λ t. t ++ node_line name count) empty ∙ ap (node_line name) counted)
    ∙ ap (λ t. node_line name (length ss) ++ t) next ∙ sym (append_assoc (node_line name (length ss)) (flat_map (canonical_text vocab) ss) rest)

abbrev pub node_of : Vocab → List ℕ × List StructureForm → List ℕ
node_of vocab node = node_text vocab node.0 node.1

pub next_node : (vocab : Vocab) (names : List (List ℕ)) (listing : List (List StructureForm)) (i : ℕ) (name bytes rest next : List ℕ) → slice_get names i ≡ Some name
    → i < length listing → bytes ≡ flat_map (node_of vocab) (take i (zip names listing)) ++ rest
    → rest ≡ node_text vocab name (at_node listing i) ++ next → bytes ≡ flat_map (node_of vocab) (take (i + 1) (zip names listing)) ++ next
next_node vocab names listing i name bytes rest next at lt so_far is =
    next_front (node_of vocab) (zip names listing) i (name, at_node listing i) bytes rest next
    (zipped_at names listing i name (at_node listing i) at (slice_get-get_or listing i [] lt)) so_far is

pub all_nodes : (vocab : Vocab) (names : List (List ℕ)) (listing : List (List StructureForm)) (i : ℕ) (bytes rest : List ℕ) → length names ≤ i
    → bytes ≡ flat_map (node_of vocab) (take i (zip names listing)) ++ rest → bytes ≡ nodes_text vocab names listing ++ rest
all_nodes vocab names listing i bytes rest le so_far =
    let few = zipped_length names listing
    in all_fronts (node_of vocab) (zip names listing) i bytes rest (omega (arith, few, le)) so_far

pub all_few : (listing : List (List StructureForm)) (n : ℕ) → length listing ≤ n → ((k : ℕ) → k < n → length (at_node listing k) < 2 ^ 32)
    → All (λ structures. length structures < 2 ^ 32) listing
all_few listing n le few = λ k d lt. subst (λ structures. length structures < 2 ^ 32) (get_or_default listing k [] d lt) (few k (omega (arith, lt, le)))

-- one more place
pub few_more : (listing : List (List StructureForm)) (n : ℕ) → ((k : ℕ) → k < n → length (at_node listing k) < 2 ^ 32)
    → length (at_node listing n) < 2 ^ 32 → (k : ℕ) → k < n + 1 → length (at_node listing k) < 2 ^ 32
few_more listing n few last k lt = at (cases_lt k n)
  where
    at : (k < n) ⊎ (n ≤ k) → length (at_node listing k) < 2 ^ 32
    at (inl less) = few k less
    at (inr more) = let same : n ≡ k = omega (arith, more, lt) in subst (λ j. length (at_node listing j) < 2 ^ 32) same last

-- ---- listings

pub read_more : (vocab : Vocab) (listing : List (List StructureForm)) (node : ℕ) (s : StructureForm) → node < length listing
    → All (All (IsRead vocab)) listing → IsRead vocab s → All (All (IsRead vocab)) (appended listing node s)
read_more vocab listing node s lt all is =
    All-set (All (IsRead vocab)) listing node (at_node listing node ++ s ∷ []) (All-push (IsRead vocab) (at_node listing node) s (all node [] lt) is) all

pub read_none : (vocab : Vocab) (listing : List (List StructureForm)) (n : ℕ) → listing ≡ replicate n [] → All (All (IsRead vocab)) listing
read_none vocab listing n is = subst (All (All (IsRead vocab))) (sym is) each
  where
    none : List StructureForm
    none = []

    each : All (All (IsRead vocab)) (replicate n [])
    each k d lt =
        let count = length-replicate n none
        in let few : k < n = omega (arith, lt, count)
        in subst (All (IsRead vocab)) (sym (get_or-replicate n k none d few)) (λ i e less. absurd (omega (arith, less)))

without_mark : (vocab : Vocab) (ss : List StructureForm) → All (IsRead vocab) ss → map unmarked ss ≡ ss
without_mark vocab [] all = refl
without_mark vocab (s ∷ ss) all =
    let is = all 0 s (omega arith)
    in let one : unmarked s ≡ s = ap (λ f. record s { fresh = f }) (sym is.fresh)
    in ap (λ t. t ∷ map unmarked ss) one ∙ ap (λ ts. s ∷ ts) (without_mark vocab ss (λ k d lt. all (suc k) d (omega (arith, lt))))

without_any : (vocab : Vocab) (listing : List (List StructureForm)) → All (All (IsRead vocab)) listing → map (map unmarked) listing ≡ listing
without_any vocab [] all = refl
without_any vocab (ss ∷ listing) all =
    ap (λ t. t ∷ map (map unmarked) listing) (without_mark vocab ss (all 0 ss (omega arith)))
    ∙ ap (λ ts. ss ∷ ts) (without_any vocab listing (λ k d lt. all (suc k) d (omega (arith, lt))))

pub is_listing : (program : Program) (listing : List (List StructureForm)) → length listing ≡ length program.nodes
    → All (λ structures. length structures < 2 ^ 32) listing → All (All (IsRead program.vocab)) listing → IsListing program listing
is_listing program listing nodes counts all = record {
  nodes = nodes;
  counts = counts;
  structures = λ k d lt j s less. let is = all k d lt j s less in (is.structure, is.over);
}

-- ---- messages

pub message_noted : (p : ProgramForm) (lines more : List MessageLine) (line : MessageLine) (old new : List (ℕ × ℕ))
    → GoesOn (IsMessageLine p) message_key old new line → old ≡ map message_key lines → AreOnce (IsMessageLine p) message_key lines
    → more ≡ lines ++ line ∷ [] → (new ≡ map message_key more) × AreOnce (IsMessageLine p) message_key more
message_noted p lines more line old new goes seen once is = (
  goes_keys (IsMessageLine p) message_key lines line old new seen goes ∙ ap (map message_key) (sym is),
  subst (AreOnce (IsMessageLine p) message_key) (sym is) (goes_once (IsMessageLine p) message_key lines line old new once seen goes),
)

-- ---- the report

pub is_report : ReportsAreReadAgain → (program : Program) (a : Analysis) (bytes nodes messages end : List ℕ) → IsValid (program_of program)
    → IsListing program a.listing → All (All (IsRead program.vocab)) a.listing
    → AreOnce (IsMessageLine (program_of program)) message_key a.messages → a.maps ≡ [] → bytes ≡ codes "tvla report 2\n" ++ nodes
    → nodes ≡ nodes_text program.vocab program.nodes a.listing ++ messages
    → messages ≡ flat_map (message_text (program_of program)) a.messages ++ end → end ≡ codes "end\n"
    → IsReportText program bytes a
is_report law program a bytes nodes messages end valid listing read once plain head listed said ended =
    subst (λ t. IsReportText program t a) (sym whole) (subst (IsReportText program (report_text program a)) same (law program a valid readable))
  where
    readable : IsReadable program a
    readable = record {
      listing = listing;
      messages = once;
      maps = rw plain ((λ k d lt. absurd (omega (arith, lt))), (λ i j d less lt. absurd (omega (arith, less, lt))));
      numbers = rw plain (λ k d lt. absurd (omega (arith, lt)));
    }

    same : without_marks a ≡ a
    same = ap (λ l. record a { listing = l }) (without_any program.vocab a.listing read)

    none : flat_map map_text a.maps ++ codes "end\n" ≡ codes "end\n"
    none = ap (λ ms. flat_map map_text ms ++ codes "end\n") plain

    whole : bytes ≡ report_text program a
    whole = head ∙ ap (λ t. codes "tvla report 2\n" ++ t)
        (listed ∙ ap (λ t. nodes_text program.vocab program.nodes a.listing ++ t)
        (said ∙ ap (λ t. flat_map (message_text (program_of program)) a.messages ++ t) (ended ∙ sym none)))
