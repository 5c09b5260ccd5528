-- What stands in a report: items, steps and messages.
use Rattle.std.proofs.Common.{ℕ, ◌≡◌, ◌≢◌, ◌<◌, ◌≤◌, ◌+◌, ◌⊎◌, ◌↔◌, inl, inr, Bool, true, false, true≢false}
use Rattle.std.proofs.Common.{not, IsTrue, List, [], ◌∷◌, length, get_or, Option, Some, None, refl, sym, ap}
use Rattle.std.proofs.Common.{subst, ◌∙◌, arith}
use Rattle.std.specs.List.{range_with_len}
use Rattle.std.specs.Prelude.{All, IfSome, IsSome, slice_get, if◌then◌else◌}
use Rattle.std.proofs.lemmas.Bool.{cases_lt}
use Rattle.std.proofs.lemmas.List.{get_or_default}
use Rattle.std.proofs.lemmas.Option.{slice_get_within, get_or_from_slice_get, slice_get-get_or, same_Some}
use Rattle.std.proofs.lemmas.Option.{slice_get_cases}
use Rattle.tv_lemmas.proofs.Lists.{All-found}
use Rattle.tv_kleene.specs.declared.K3.{K3}
use Rattle.tv_kleene.specs.declared.K3.TheVariants.{No}
use Rattle.tv_model.specs.declared.program.Edge.{Edge}
use Rattle.tv_model.specs.Program.{ProgramForm, program_of}
use Rattle.tv_model.specs.declared.program.Program.{Program}
use Rattle.tv_model.specs.Valid.{IsValid, IsEdge, program_arities}
use Rattle.tv_listing.specs.Listed.{IsListing}
use Rattle.tv_listing.specs.ListingForm.{at_node}
use Rattle.tv_listing.specs.declared.analysis.Item.{Item}
use Rattle.tv_listing.specs.declared.analysis.Item.TheVariants as item
use Rattle.tv_listing.specs.declared.analysis.MapLine.{MapLine}
use Rattle.tv_listing.specs.declared.analysis.MessageLine.{MessageLine}
use Rattle.tv_structure_form.specs.StructureForm.{StructureForm, IsOver, IsStructure, arities_of}
use Rattle.tv_structure_form.specs.StructureForm.{structure_of}
use Rattle.tv_embed.specs.Maps.{image_of}
use Rattle.tv_embed.proofs.MapLaws.{identity_embeds}
use Rattle.tv_cover.specs.Covers.{IsFirstCover}
use Rattle.tv_cover.proofs.FirstCovers.{first-cover}
use Rattle.tv_step_laws.specs.Closed.{IsCovered, HasLine}
use Rattle.tv_step_laws.specs.Transfer.{IsOpening, HasNoOpening, AreResults, AreMessageValues}
use Rattle.tv_step_laws.proofs.Exact.{opening-once, results-once, values-once}
use Rattle.tv_step_laws.proofs.Shapes.{same-arities}
use Rattle.tv_judge.specs.Index.{is_said, IsMessageIndex}
use Rattle.tv_judge.specs.Items.{IsSource, Covers, IsMetBy, IsMet, is_same_item, own_line}
use Rattle.tv_judge.specs.Judged.{Case, IsThere, MaySay, IsMapBy}
use Rattle.tv_judge.specs.Progress.{IsLineFor, AreResultsAt, AreValuesAt, AreSaidBelow, IsFirstUnsaid}
use Rattle.tv_judge.proofs.IndexLaws.{same-is}

-- ---- places in lists

pub one-there : {X : Type 0} (xs ys : List X) (i : ℕ) (x y : X) → slice_get xs i ≡ Some x
    → slice_get ys i ≡ Some y → xs ≡ ys → x ≡ y
one-there xs ys i x y a b e = same_Some x y (sym a ∙ ap (λ zs. slice_get zs i) e ∙ b)

-- nothing stands behind the end
pub none-past : {X : Type 0} (xs : List X) (i : ℕ) (x : X) → length xs ≤ i → slice_get xs i ≡ Some x → ⊥
none-past xs i x past e = let within : i < length xs = slice_get_within xs i x e
    in omega (arith, past, within)

pub index-at : {X : Type 0} (xs ys : List X) (i : ℕ) (x : X) → ys ≡ xs → x ≡ get_or ys i x → i < length xs
    → slice_get xs i ≡ Some x
index-at xs ys i x e is within =
    slice_get-get_or xs i x within ∙ ap Some (ap (λ zs. get_or zs i x) (sym e) ∙ sym is)

-- ---- items

pub source-once : (p : ProgramForm) (listing : List (List StructureForm)) (edge : ℕ) (a b : Edge) (place : ℕ)
    (s t : StructureForm) → IsSource p listing edge a place s → IsSource p listing edge b place t
    → (a ≡ b) × (s ≡ t)
source-once p listing edge a b place s t one two =
    let same : a ≡ b = one-there p.edges p.edges edge a b one.is_edge two.is_edge refl
    in (
      same,
      one-there (at_node listing a.from) (at_node listing b.from) place s t one.listed two.listed
          (ap (λ (e : Edge). at_node listing e.from) same),
    )

-- an opening is found where there is one
pub no-opening : (p : ProgramForm) (s t : StructureForm) → HasNoOpening p s → IsOpening p s t → ⊥
no-opening p s t none (c, coerced, blur) = none
    (structure_of c) coerced.greatest.below coerced.greatest.stable

initial-once : (c : Case) (number : ℕ) (s t : StructureForm) (targets others : List StructureForm)
    → IsThere c (item.Initial number) s targets → IsThere c (item.Initial number) t others
    → (s ≡ t) × (targets ≡ others)
initial-once c number s t targets others a b =
    let same : a.first ≡ b.first = one-there c.initial c.initial number a.first b.first a.is_initial
    b.is_initial refl
    in (
      opening-once c.program b.first s t (subst (λ f. IsOpening c.program f s) same a.opening) b.opening,
      a.targets_are ∙ sym b.targets_are,
    )

result-once : (c : Case) → IsValid c.program
    → (edge structure result : ℕ) (s t : StructureForm) (targets others : List StructureForm)
    → IsThere c (item.Result edge structure result) s targets
    → IsThere c (item.Result edge structure result) t others
    → (s ≡ t) × (targets ≡ others)
result-once c valid edge structure result s t targets others a b =
    let same = source-once c.program c.analysis.listing edge a.taken b.taken structure a.from b.from
    a.source b.source
    in let results = results-once c.program valid c.mode edge b.from a.results b.results
    (subst (λ f. AreResults c.program c.mode edge f a.results) same.1 a.are_results) b.are_results
    in (
      one-there a.results b.results result s t a.is_result b.is_result results,
      a.targets_are ∙ ap (λ (e : Edge). at_node c.analysis.listing e.to) same.0 ∙ sym b.targets_are,
    )

-- an item has one structure and one list of targets
pub there-once : (c : Case) → IsValid c.program
    → (i : Item) (s t : StructureForm) (targets others : List StructureForm)
    → IsThere c i s targets → IsThere c i t others → (s ≡ t) × (targets ≡ others)
there-once c valid (item.Initial number) s t targets others a b = initial-once c number s t targets others a b
there-once c valid (item.Result edge structure result) s t targets others a b =
    result-once c valid edge structure result s t targets others a b

-- ---- lines

pub covered : (targets : List StructureForm) (s : StructureForm) (target : ℕ) (images : List ℕ)
    → Covers targets s target images → IsCovered targets s
covered targets s target images c = (
  target,
  c.large,
  slice_get_within targets target c.large c.listed,
  get_or_from_slice_get targets target c.large c.large c.listed,
  (image_of images, c.embeds.1),
)

-- the line that an item is owed meets it
pub line-meets : (lines : List MapLine) (i : Item) (targets : List StructureForm) (s : StructureForm)
    (line : MapLine)
    → IsLineFor lines i targets s line → IsMet lines i targets s
line-meets lines i targets s line is = by (own_line lines i) is.map
  where
    by : (own : Option MapLine) → IsMapBy own targets s line → IsMetBy own targets s
    by None map = covered targets s line.target line.map is.covers
    by (Some own) map = subst (λ (l : MapLine). Covers targets s l.target l.map) map is.covers

-- an item that is met is covered
pub met-covered : (lines : List MapLine) (i : Item) (targets : List StructureForm) (s : StructureForm)
    → IsMet lines i targets s → IsCovered targets s
met-covered lines i targets s met = by (own_line lines i) met
  where
    by : (own : Option MapLine) → IsMetBy own targets s → IsCovered targets s
    by None m = m
    by (Some own) m = covered targets s own.target own.map m

-- ---- results and messages

-- a result of a step is an item that is there
pub result-there : (c : Case) (edge structure node result : ℕ) (results : List StructureForm)
    (s : StructureForm)
    → AreResultsAt c edge structure node results → slice_get results result ≡ Some s
    → IsThere c (item.Result edge structure result) s (at_node c.analysis.listing node)
result-there c edge structure node result results s at is = record {
  taken = at.taken;
  from = at.from;
  source = at.source;
  results = results;
  are_results = at.are_results;
  is_result = is;
  targets_are = ap (at_node c.analysis.listing) (sym at.to);
}

-- and there are no others
pub result-past : (c : Case) → IsValid c.program
    → (edge structure node result : ℕ) (results : List StructureForm)
    → AreResultsAt c edge structure node results → length results ≤ result
    → (s : StructureForm) (targets : List StructureForm)
    → IsThere c (item.Result edge structure result) s targets → ⊥
result-past c valid edge structure node result results at past s targets there =
    let same = source-once c.program c.analysis.listing edge there.taken at.taken structure there.from
    at.from there.source at.source
    in let e = results-once c.program valid c.mode edge at.from there.results results
    (subst (λ f. AreResults c.program c.mode edge f there.results) same.1 there.are_results) at.are_results
    in none-past results result s past (subst (λ rs. slice_get rs result ≡ Some s) e there.is_result)

-- the value of a message that may be true is among the step's
pub say-value : (c : Case) (edge structure number : ℕ) (values : List K3)
    → AreValuesAt c edge structure values
    → MaySay c edge structure number → (k : K3) × (slice_get values number ≡ Some k) × (k ≢ No)
say-value c edge structure number values at say =
    let same = source-once c.program c.analysis.listing edge say.taken at.taken structure say.from at.from
    say.source at.source
    in let e = values-once c.program edge at.from say.value.0 values
    (subst (λ f. AreMessageValues c.program edge f say.value.0) same.1 say.value.1) at.are_values
    in (say.k, subst (λ vs. slice_get vs number ≡ Some say.k) e say.value.2, say.some)

pub may-say : (c : Case) (edge structure number : ℕ) (values : List K3) (k : K3)
    → AreValuesAt c edge structure values
    → slice_get values number ≡ Some k → k ≢ No → MaySay c edge structure number
may-say c edge structure number values k at is some = record {
  taken = at.taken;
  from = at.from;
  source = at.source;
  k = k;
  value = (values, at.are_values, is);
  some = some;
}

-- whether a message has a line is known
pub said-known : (keys : List (ℕ × ℕ)) (lines : List MessageLine) → IsMessageIndex keys lines
    → (edge number : ℕ)
    → HasLine lines edge number ⊎ (¬ HasLine lines edge number)
said-known keys lines index edge number = by (is_said keys edge number) refl
  where
    by : (b : Bool) → is_said keys edge number ≡ b → HasLine lines edge number ⊎ (¬ HasLine lines edge number)
    by true e = inl ((index edge number).0 e)
    by false e = inr (λ has. true≢false (sym ((index edge number).1 has) ∙ e))

-- a message with a value other than No is found unsaid exactly where it has no line
pub unsaid-is : (b : Bool) (keys : List (ℕ × ℕ)) (lines : List MessageLine) (edge number : ℕ) (k : K3)
    → k ≢ No
    → IsMessageIndex keys lines → b ≡ is_said keys edge number
    → IsTrue (not b) ↔ ((k ≢ No) × (¬ HasLine lines edge number))
unsaid-is true keys lines edge number k some index e =
    ((λ never. absurd (true≢false (sym never))), (λ x. absurd (x.1 ((index edge number).0 (sym e)))))
unsaid-is false keys lines edge number k some index e =
    ((λ t. (some, λ has. true≢false (sym ((index edge number).1 has) ∙ sym e))), (λ x. refl))

-- what is found at a message settles it
pub said-more : (c : Case) (keys : List (ℕ × ℕ)) (edge structure number : ℕ) (values : List K3) (k : K3)
    (b : Bool)
    → IsMessageIndex keys c.analysis.messages → AreValuesAt c edge structure values
    → slice_get values number ≡ Some k
    → b ≡ false → (IsTrue b ↔ ((k ≢ No) × (¬ HasLine c.analysis.messages edge number)))
    → AreSaidBelow c edge structure number → AreSaidBelow c edge structure (number + 1)
said-more c keys edge structure number values k b index at is off exact said m less say = by
    (cases_lt m number)
  where
    here : m ≡ number → HasLine c.analysis.messages edge m ⊎ (¬ HasLine c.analysis.messages edge m)
        → HasLine c.analysis.messages edge m
    here e (inl has) = has
    here e (inr none) =
        let v = say-value c edge structure m values at say
        in let same : v.0 ≡ k = one-there values values number v.0 k
        (subst (λ n. slice_get values n ≡ Some v.0) e v.1) is refl
        in absurd (true≢false (sym (exact.1
        (subst (λ j. j ≢ No) same v.2, subst (λ n. ¬ HasLine c.analysis.messages edge n) e none)) ∙ off))

    by : (m < number) ⊎ (number ≤ m) → HasLine c.analysis.messages edge m
    by (inl before) = said m before say
    by (inr behind) = here (omega (arith, less, behind)) (said-known keys c.analysis.messages index edge m)

pub first-unsaid : (c : Case) (edge structure number : ℕ) (values : List K3) (k : K3)
    → AreValuesAt c edge structure values
    → slice_get values number ≡ Some k → (k ≢ No) × (¬ HasLine c.analysis.messages edge number)
    → AreSaidBelow c edge structure number → IsFirstUnsaid c edge structure number
first-unsaid c edge structure number values k at is unsaid said = record {
  fails = (may-say c edge structure number values k at is unsaid.0, unsaid.1);
  first = said;
}

-- ---- own lines

own-item : (lines : List MapLine) (i : Item) (line : MapLine) → own_line lines i ≡ Some line → line.item ≡ i
own-item [] i line e = absurd cc
own-item (l ∷ lines) i line e = by (is_same_item i l.item) refl (own-item lines i line) e
  where
    by : (b : Bool) → is_same_item i l.item ≡ b → (own_line lines i ≡ Some line → line.item ≡ i)
        → (if b then Some l else own_line lines i) ≡ Some line → line.item ≡ i
    by true same rest is = ap (λ (x : MapLine). x.item) (sym (same_Some l line is))
        ∙ sym (same-is i l.item same)
    by false same rest is = rest is

pub own-line-for : (lines : List MapLine) (i : Item) (targets : List StructureForm) (s : StructureForm)
    (line copy : MapLine)
    → own_line lines i ≡ Some line → copy ≡ line → Covers targets s line.target line.map
    → IsLineFor lines i targets s copy
own-line-for lines i targets s line copy own same covers = record {
  item_is = ap (λ (x : MapLine). x.item) same ∙ own-item lines i line own;
  map = subst (λ o. IsMapBy o targets s copy) (sym own) same;
  covers = subst (λ (x : MapLine). Covers targets s x.target x.map) (sym same) covers;
}

-- ---- programs and listings

-- the structures of a node, read from those of all nodes
pub targets-at : (all listing : List (List StructureForm)) (node : ℕ) (d : List StructureForm)
    → all ≡ listing → node < length listing → get_or all node d ≡ at_node listing node
targets-at all listing node d same within =
    ap (λ xs. get_or xs node d) same ∙ get_or_default listing node d [] within

-- what is listed is a structure
pub listed-structure : (program : Program) (listing : List (List StructureForm)) (node place : ℕ) (s : StructureForm)
    → IsListing program listing → node < length listing → slice_get (at_node listing node) place ≡ Some s
    → IsStructure s
listed-structure program listing node place s is within listed =
    (All-found (λ t. IsStructure t × IsOver program.vocab t) (at_node listing node) place s
    (is.structures node [] within) listed).0

-- a structure that is listed is owed a line
pub plain-line : (lines : List MapLine) (i : Item) (targets : List StructureForm) (s : StructureForm)
    (place : Option ℕ) → own_line lines i ≡ None → IsSome place → IfSome place (λ k. slice_get targets k ≡ Some s)
    → ((k : ℕ) → slice_get targets k ≡ Some s → IsStructure s) → All (λ t. arities_of s ≡ arities_of t) targets
    → (line : MapLine) × IsLineFor lines i targets s line
plain-line lines i targets s None own some listed is alike = absurd (cc some)
plain-line lines i targets s (Some k) own some listed is alike =
    with-cover (first-cover targets s (is k listed) alike k s listed
    (image_of (range_with_len 0 s.size), (identity_embeds s).1))
  where
    with-cover : ((target : ℕ) × (images : List ℕ) × IsFirstCover targets s target images)
        → (line : MapLine) × IsLineFor lines i targets s line
    with-cover (target, images, cover) =
        let line : MapLine = record { item = i; target = target; map = images }
        in (
          line,
          record {
            item_is = refl;
            map = subst (λ o. IsMapBy o targets s line) (sym own) cover;
            covers = record { large = cover.large; listed = cover.listed; embeds = cover.least.0 };
          },
        )

-- the structures at a node have the arities of the program
pub listed-alike : (program : Program) (listing : List (List StructureForm)) (node : ℕ) (arities : List ℕ)
    → IsListing program listing
    → node < length listing → arities ≡ program_arities (program_of program)
    → All (λ t. arities ≡ arities_of t) (at_node listing node)
listed-alike program listing node arities is within over k d less =
    over ∙ same-arities program ∙ sym (is.structures node [] within k d less).1

-- the nodes of an edge have a list
pub nodes-within : (program : Program) → IsValid (program_of program)
    → (listing : List (List StructureForm)) → IsListing program listing
    → (edge : ℕ) (taken : Edge) → slice_get program.edges edge ≡ Some taken
    → (taken.from < length listing) × (taken.to < length listing)
nodes-within program valid listing is edge taken at =
    let nodes = All-found (IsEdge (program_of program)) program.edges edge taken valid.edges at
    in (omega (arith, nodes.0, is.nodes), omega (arith, nodes.1, is.nodes))

pub start-within : (program : Program) → IsValid (program_of program)
    → (listing : List (List StructureForm)) → IsListing program listing
    → 0 < length listing
start-within program valid listing is =
    by (slice_get_cases program.edges 0).1
  where
    by : ((x : Edge) × (0 < length program.edges) × (slice_get program.edges 0 ≡ Some x)
        × (get_or program.edges 0 x ≡ x))
        ⊎ ((length program.edges ≤ 0) × (slice_get program.edges 0 ≡ None)) → 0 < length listing
    by (inl (x, less, at, same)) =
        let nodes = nodes-within program valid listing is 0 x at in omega (arith, nodes.0)
    by (inr (past, none)) = absurd (omega (arith, past, valid.some_edge))
