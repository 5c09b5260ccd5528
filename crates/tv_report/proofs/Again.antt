-- What is written of an analysis is read as the same analysis, marks aside.
use Rattle.std.proofs.Common.{◌≡◌, ◌≢◌, ℕ, suc, ◌<◌, ◌^◌, List, [], ◌∷◌, ◌++◌, false, Option, Some, None}
use Rattle.std.proofs.Common.{length, map, get_or, ap, sym, refl, ◌∙◌, subst, ◌⊎◌, inl, inr, arith}
use Rattle.std.specs.Prelude.{codes, All, AllPairs, Contains, IsSome, is_some, slice_get}
use Rattle.std.specs.List.{flat_map, zip}
use Rattle.std.specs.Option.{option_and_then}
use Rattle.std.proofs.lemmas.Bool.{cases_lt, false≢true}
use Rattle.std.proofs.lemmas.List.{length-map, get_or-map, get_or_past}
use Rattle.std.proofs.lemmas.List.Elements.{All-map, Contains-get_or}
use Rattle.std.proofs.lemmas.Option.{slice_get_within, slice_get-get_or, get_or_from_slice_get}
use Rattle.tv_lex.specs.Token.{SpecToken, HaveOneMeaning}
use Rattle.tv_listing.specs.Listed.{IsListing}
use Rattle.tv_listing.specs.ListingForm.{at_node}
use Rattle.tv_listing.specs.declared.analysis.Item.{Item}
use Rattle.tv_listing.specs.declared.analysis.Item.TheVariants as item
use Rattle.tv_listing.specs.declared.analysis.MapLine.{MapLine}
use Rattle.tv_listing.specs.declared.analysis.MessageLine.{MessageLine}
use Rattle.tv_model.specs.Program.{ProgramForm, ActionForm, MessageForm, program_of}
use Rattle.tv_model.specs.Valid.{IsValid, IsAction, IsMessage as IsValidMessage}
use Rattle.tv_model.specs.Spelling.{IsText}
use Rattle.tv_model.specs.declared.program.Edge.{Edge}
use Rattle.tv_model.specs.declared.program.Program.{Program}
use Rattle.tv_phrases.specs.Repeated.{begins_with}
use Rattle.tv_phrases.specs.Tokens.{after}
use Rattle.tv_phrases.proofs.Facts.{other_mark}
use Rattle.tv_structure_form.specs.StructureForm.{StructureForm, unmarked}
use Rattle.tv_lex.proofs.PieceTokens.{Lexes, lexes_read}
use Rattle.tv_tvs.proofs.Lexing.{word}
use Rattle.tv_tvs.proofs.Valid.{valid_fits}
use Rattle.tv_report.specs.Grammar.{IsMessage, IsMap, IsReport, IsHead}
use Rattle.tv_report.specs.Laws.{IsShort, IsShortItem, without_marks, ReportsAreReadAgain}
use Rattle.tv_report.specs.Lines.{message_at, IsMessageLine, LeadsTo, IsMapLine}
use Rattle.tv_report.specs.Meaning.{NamedNode, named_node, node_name, ListsNodes, MeansReport}
use Rattle.tv_report.specs.Text.{message_text, map_text, report_text, said}
use Rattle.tv_report.specs.Tree.{ReportTree}
use Rattle.tv_report.proofs.Lists.{zipped_at, zipped_length}
use Rattle.tv_report.proofs.NodeLaws.{one_place, same_listing}
use Rattle.tv_lemmas.proofs.Lists.{All-found}
use Rattle.tv_report.proofs.OneReport.{one_report}
use Rattle.tv_report.proofs.WordTexts.{name_word, spaced, ended}
use Rattle.tv_report.proofs.Written.{fronts, Listed, listed_text, as_named, IsListedNode, IsGood, node_first}
use Rattle.tv_report.proofs.Written.{node_trees, IsShortMessage, message_first, IsShortMap, map_first}

-- ---- messages

record Found (p : ProgramForm) (edge number : ℕ) : Type 0 where
  taken : Edge
  action : ActionForm
  message : MessageForm
  is_edge : slice_get p.edges edge ≡ Some taken
  is_action : slice_get p.actions taken.action ≡ Some action
  is_message : slice_get action.messages number ≡ Some message
  is : message_at p edge number ≡ Some message

message_found : (p : ProgramForm) (edge number : ℕ) → IsSome (message_at p edge number) → Found p edge number
message_found p edge number some = of_edge (slice_get p.edges edge) refl
  where
    of_message : (taken : Edge) (action : ActionForm) (o : Option MessageForm) → slice_get p.edges edge ≡ Some taken → slice_get p.actions taken.action ≡ Some action
        → slice_get action.messages number ≡ o → message_at p edge number ≡ o → Found p edge number
    of_message taken action None e a m is = absurd (false≢true (subst IsSome is some))
    of_message taken action (Some message) e a m is = record { taken = taken; action = action; message = message; is_edge = e; is_action = a; is_message = m; is = is }

    of_action : (taken : Edge) (o : Option ActionForm) → slice_get p.edges edge ≡ Some taken → slice_get p.actions taken.action ≡ o
        → message_at p edge number ≡ option_and_then (λ (action : ActionForm). slice_get action.messages number) o → Found p edge number
    of_action taken None e a is = absurd (false≢true (subst IsSome is some))
    of_action taken (Some action) e a is = of_message taken action (slice_get action.messages number) e a refl is

    of_edge : (o : Option Edge) → slice_get p.edges edge ≡ o → Found p edge number
    of_edge None e = absurd (false≢true (subst IsSome (ap (option_and_then (λ (x : Edge). option_and_then (λ (action : ActionForm). slice_get action.messages number) (slice_get p.actions x.action))) e) some))
    of_edge (Some taken) e =
        of_action taken (slice_get p.actions taken.action) e refl
        (ap (option_and_then (λ (x : Edge). option_and_then (λ (action : ActionForm). slice_get action.messages number) (slice_get p.actions x.action))) e)

short_message : (p : ProgramForm) → IsValid p → (line : MessageLine) → IsMessageLine p line → IsShortMessage p line
short_message p valid line is =
    let found = message_found p line.edge line.number is.0
    in let action : IsAction p found.action = All-found (IsAction p) p.actions found.taken.action found.action valid.actions found.is_action
    in let message : IsValidMessage p found.message = All-found (IsValidMessage p) found.action.messages line.number found.message action.messages found.is_message
    in let few_edges = valid.edge_count
    in let few_messages = action.message_count
    in let edge = slice_get_within p.edges line.edge found.taken found.is_edge
    in let number = slice_get_within found.action.messages line.number found.message found.is_message
    in record {
      edge = omega (arith, edge, few_edges);
      number = omega (arith, number, few_messages);
      value = is.1;
      text = subst (λ o. IsText (said o)) (sym found.is) message.2;
    }

-- ---- maps

few_at : (program : Program) (listing : List (List StructureForm)) → IsListing program listing → (node : ℕ) → length (at_node listing node) < 2 ^ 32
few_at program listing is node = elim (cases_lt node (length listing)) [
  | inl lt ↦ is.counts node [] lt
  | inr le ↦ rw (get_or_past listing node [] le) (omega arith)
]

record ShortItem (x : Item) (target : ℕ) : Type 0 where
  short : IsShort target
  others : (edge structure result : ℕ) → x ≡ item.Result edge structure result → IsShort edge × IsShort structure

short_item : (program : Program) → IsValid (program_of program) → (listing : List (List StructureForm)) → IsListing program listing → (x : Item) (target : ℕ)
    → LeadsTo (program_of program) listing x target → ShortItem x target
short_item program valid listing is (item.Initial n) target leads =
    let few = few_at program listing is 0
    in record { short = omega (arith, leads, few); others = λ edge structure result e. absurd cc }
short_item program valid listing is (item.Result edge structure result) target (taken, found, from, to) =
    let few_from = few_at program listing is taken.from
    in let few_to = few_at program listing is taken.to
    in let few_edges = valid.edge_count
    in let within = slice_get_within (program_of program).edges edge taken found
    in record {
      short = omega (arith, to, few_to);
      others = λ e s r same.
          let one : edge ≡ e = cc
          in let two : structure ≡ s = cc
          in (omega (arith, within, few_edges, one), omega (arith, from, few_from, two));
    }

short_map : (program : Program) → IsValid (program_of program) → (listing : List (List StructureForm)) → IsListing program listing → (line : MapLine)
    → IsMapLine (program_of program) listing line → IsShortItem line.item × All IsShort line.map → IsShortMap line
short_map program valid listing is line leads short =
    let one = short_item program valid listing is line.item line.target leads
    in record { numbers = short.0; others = one.others; target = one.short; map = short.1 }

-- without marks there are as many structures
same_count : (listing : List (List StructureForm)) (node : ℕ) → length (at_node (map (map unmarked) listing) node) ≡ length (at_node listing node)
same_count listing node = elim (cases_lt node (length listing)) [
  | inl lt ↦ ap length (get_or-map (map unmarked) listing node [] [] lt) ∙ length-map (at_node listing node) unmarked
  | inr le ↦ ap length (get_or_past (map (map unmarked) listing) node [] (rw (length-map listing (map unmarked)) le)) ∙ ap length (sym (get_or_past listing node [] le))
]

leads_again : (p : ProgramForm) (listing : List (List StructureForm)) (x : Item) (target : ℕ) → LeadsTo p listing x target
    → LeadsTo p (map (map unmarked) listing) x target
leads_again p listing (item.Initial n) target leads = rw (same_count listing 0) leads
leads_again p listing (item.Result edge structure result) target (taken, found, from, to) =
    (taken, found, rw (same_count listing taken.from) from, rw (same_count listing taken.to) to)

-- ---- nodes

zip_count : (xs : List (List ℕ)) (ys : List (List StructureForm)) → length ys ≡ length xs → length (zip xs ys) ≡ length xs
zip_count [] ys e = refl
zip_count (x ∷ xs) [] e = absurd (omega (arith, e))
zip_count (x ∷ xs) (y ∷ ys) e = ap suc (zip_count xs ys (omega (arith, e)))

zip_names : (xs : List (List ℕ)) (ys : List (List StructureForm)) → length ys ≡ length xs → map node_name (map as_named (zip xs ys)) ≡ xs
zip_names [] ys e = refl
zip_names (x ∷ xs) [] e = absurd (omega (arith, e))
zip_names (x ∷ xs) (y ∷ ys) e = ap (λ ns. x ∷ ns) (zip_names xs ys (omega (arith, e)))

module _ (names : List (List ℕ)) (listing : List (List StructureForm)) (same : length listing ≡ length names) where
  abbrev pair_at : ℕ → Listed
  pair_at k = (get_or names k [], get_or listing k [])

  zip_at : (k : ℕ) (d : Listed) → k < length (zip names listing) → (k < length names) × (get_or (zip names listing) k d ≡ pair_at k)
  zip_at k d lt =
      let few = zipped_length names listing
      in let in_names : k < length names = omega (arith, lt, few)
      in let in_listing : k < length listing = omega (arith, in_names, same)
      in let is = zipped_at names listing k (get_or names k []) (get_or listing k []) (slice_get-get_or names k [] in_names) (slice_get-get_or listing k [] in_listing)
      in (in_names, get_or_from_slice_get (zip names listing) k (pair_at k) d is)

nodes_listed : (program : Program) → AllPairs ◌≢◌ program.nodes → (listing : List (List StructureForm)) → length listing ≡ length program.nodes
    → ListsNodes program (map as_named (zip program.nodes listing)) (map (map unmarked) listing)
nodes_listed program differ listing same = record {
  names = (
    All-map (λ (n : NamedNode). Contains program.nodes n.name) as_named (zip program.nodes listing) (λ k d lt.
        let z = zip_at program.nodes listing same k d lt
        in subst (λ (n : Listed). Contains program.nodes n.0) (sym z.1) (Contains-get_or program.nodes k [] z.0)),
    subst (AllPairs ◌≢◌) (sym (zip_names program.nodes listing same)) differ,
  );
  count = length-map listing (map unmarked) ∙ same;
  named = λ number. All-map (λ (n : NamedNode). slice_get program.nodes number ≡ Some n.name → n.structures ≡ Some (at_node (map (map unmarked) listing) number)) as_named
      (zip program.nodes listing) (λ k d lt.
      let z = zip_at program.nodes listing same k d lt
      in subst (λ (n : Listed). slice_get program.nodes number ≡ Some n.0 → Some (map unmarked n.1) ≡ Some (at_node (map (map unmarked) listing) number)) (sym z.1) (meant number k z.0));
  others = λ number name is gone. absurd (gone (subst (λ ns. Contains ns name) (sym (zip_names program.nodes listing same))
      (number, slice_get_within program.nodes number name is, get_or_from_slice_get program.nodes number name name is)));
}
  where
    meant : (number k : ℕ) → k < length program.nodes → slice_get program.nodes number ≡ Some (get_or program.nodes k [])
        → Some (map unmarked (get_or listing k [])) ≡ Some (at_node (map (map unmarked) listing) number)
    meant number k lt is =
        let place : number ≡ k = one_place program.nodes number k (get_or program.nodes k []) differ is (slice_get-get_or program.nodes k [] lt)
        in let within : k < length listing = omega (arith, lt, same)
        in ap Some (sym (get_or-map (map unmarked) listing k [] [] within) ∙ ap (at_node (map (map unmarked) listing)) (sym place))

good_nodes : (program : Program) → IsValid (program_of program) → (listing : List (List StructureForm)) → IsListing program listing
    → All (IsGood program.vocab) (zip program.nodes listing)
good_nodes program valid listing is k d lt =
    let z = zip_at program.nodes listing is.nodes k d lt
    in let within : k < length listing = let n = is.nodes in let l = z.0 in omega (arith, l, n)
    in subst (IsGood program.vocab) (sym z.1)
    (record {
      name = name_word (get_or program.nodes k []) (valid.nodes k [] z.0);
      count = is.counts k [] within;
      structures = is.structures k [] within;
    })

-- ---- what begins a part

-- the tokens of some lines and of what is behind them don't begin with a mark that neither begins with
others_begin : (m k : List ℕ) (us ts : List SpecToken) → ((us ≡ ts) ⊎ ((inside : List SpecToken) × (after m us ≡ Some inside))) → begins_with k ts ≡ false
    → ((inside : List SpecToken) → after m us ≡ Some inside → after k us ≡ None) → begins_with k us ≡ false
others_begin m k us ts (inl same) other differ = ap (begins_with k) same ∙ other
others_begin m k us ts (inr begun) other differ = ap is_some (differ begun.0 begun.1)

-- ---- reports

abbrev end_tokens : List SpecToken
end_tokens = word (codes "end") ∷ []

end_lexes : Lexes (codes "end\n") end_tokens
end_lexes = ended (codes "end") [] [] (omega arith, refl) (record { pieces = []; fit = tt; whole = refl; are = refl })

no_end : (begins_with (codes "map") end_tokens ≡ false) × ((begins_with (codes "message") end_tokens ≡ false) × (begins_with (codes "node") end_tokens ≡ false))
unfolding after
no_end = (refl, (refl, refl))

end_behind : after (codes "end") end_tokens ≡ Some []
unfolding after
end_behind = refl

head_lexes : (rest : List ℕ) (ts : List SpecToken) → Lexes rest ts → Lexes (codes "tvla report 2\n" ++ rest) (word (codes "tvla") ∷ word (codes "report") ∷ word (codes "2") ∷ ts)
head_lexes rest ts l =
    let version = ended (codes "2") rest ts (omega arith, refl) l
    in let report = spaced (codes "report") (codes "2\n" ++ rest) (word (codes "2") ∷ ts) (omega arith, refl) version
    in spaced (codes "tvla") (codes "report 2\n" ++ rest) (word (codes "report") ∷ word (codes "2") ∷ ts) (omega arith, refl) report

head_is : (ts : List SpecToken) → IsHead (codes "2") (word (codes "tvla") ∷ word (codes "report") ∷ word (codes "2") ∷ ts) ts
unfolding after
head_is ts = (word (codes "report") ∷ word (codes "2") ∷ ts, word (codes "2") ∷ ts, refl, refl, refl)

pub read_again : ReportsAreReadAgain
read_again program a valid readable =
    let p : ProgramForm = program_of program
    in let fits = valid_fits program valid
    in let maps = fronts map_text IsMap (codes "map") IsShortMap map_first a.maps
    (λ k d lt. short_map program valid a.listing readable.listing (get_or a.maps k d) (readable.maps.0 k d lt) (readable.numbers k d lt)) (codes "end\n") end_tokens no_end.0 end_lexes
    in let text_2 : List ℕ = flat_map map_text a.maps ++ codes "end\n"
    in let no_message : begins_with (codes "message") maps.tokens ≡ false
    = others_begin (codes "map") (codes "message") maps.tokens end_tokens maps.begins no_end.1.0 (λ inside is. other_mark (codes "map") (codes "message") maps.tokens inside refl is)
    in let no_node_2 : begins_with (codes "node") maps.tokens ≡ false
    = others_begin (codes "map") (codes "node") maps.tokens end_tokens maps.begins no_end.1.1 (λ inside is. other_mark (codes "map") (codes "node") maps.tokens inside refl is)
    in let messages = fronts (message_text p) IsMessage (codes "message") (IsShortMessage p) (message_first p) a.messages
    (λ k d lt. short_message p valid (get_or a.messages k d) (readable.messages.0 k d lt)) text_2 maps.tokens no_message maps.lexes
    in let text_1 : List ℕ = flat_map (message_text p) a.messages ++ text_2
    in let no_node : begins_with (codes "node") messages.tokens ≡ false
    = others_begin (codes "message") (codes "node") messages.tokens maps.tokens messages.begins no_node_2 (λ inside is. other_mark (codes "message") (codes "node") messages.tokens inside refl is)
    in let listed : List Listed = zip program.nodes a.listing
    in let nodes = fronts (listed_text program.vocab) (IsListedNode program.vocab) (codes "node") (IsGood program.vocab) (node_first program.vocab fits.vocabulary fits.spelled) listed
    (good_nodes program valid a.listing readable.listing) text_1 messages.tokens no_node messages.lexes
    in let trees = node_trees program.vocab listed nodes.tokens messages.tokens nodes.are
    in let tokens : List SpecToken = word (codes "tvla") ∷ word (codes "report") ∷ word (codes "2") ∷ nodes.tokens
    in let lexed = lexes_read (report_text program a) tokens (head_lexes (flat_map (listed_text program.vocab) listed ++ text_1) nodes.tokens nodes.lexes)
    in let tree : ReportTree = record { nodes = trees.trees; messages = a.messages; maps = a.maps }
    in let is : IsReport tokens tree
    = (codes "2", nodes.tokens, messages.tokens, maps.tokens, end_tokens, head_is nodes.tokens, trees.are, messages.are, inr (refl, maps.are), end_behind)
    in let means : MeansReport program tokens (without_marks a) = record {
      tree = tree;
      is = is;
      listing = subst (λ ns. ListsNodes program ns (map (map unmarked) a.listing)) (sym trees.named) (nodes_listed program valid.node_names_differ a.listing readable.listing.nodes);
      messages = (λ k d lt. (readable.messages.0 k d lt).0, readable.messages.1);
      maps = (λ k d lt. leads_again p a.listing (get_or a.maps k d).item (get_or a.maps k d).target (readable.maps.0 k d lt), readable.maps.1);
      same_messages = refl;
      same_maps = refl;
    }
    in (lexed.0, lexed.1, subst (λ ts. MeansReport program ts (without_marks a)) (sym lexed.2) means)

-- ---- one meaning

pub one_meaning : (program : Program) → HaveOneMeaning (MeansReport program)
one_meaning program tokens a b left right =
    let same : left.tree ≡ right.tree = one_report tokens left.tree right.tree left.is right.is
    in let nodes : map (named_node program.vocab) left.tree.nodes ≡ map (named_node program.vocab) right.tree.nodes
    = ap (λ (t : ReportTree). map (named_node program.vocab) t.nodes) same
    in let listing : a.listing ≡ b.listing
    = same_listing program (map (named_node program.vocab) right.tree.nodes) a.listing b.listing (subst (λ ns. ListsNodes program ns a.listing) nodes left.listing) right.listing
    in let messages : a.messages ≡ b.messages = left.same_messages ∙ ap (λ (t : ReportTree). t.messages) same ∙ sym right.same_messages
    in let maps : a.maps ≡ b.maps = left.same_maps ∙ ap (λ (t : ReportTree). t.maps) same ∙ sym right.same_maps
    in ap (λ l. record { listing = l; messages = a.messages; maps = a.maps }) listing
    ∙ ap (λ ms. record { listing = b.listing; messages = ms; maps = a.maps }) messages
    ∙ ap (λ ms. record { listing = b.listing; messages = b.messages; maps = ms }) maps
