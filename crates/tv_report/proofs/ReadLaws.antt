-- Analyses that are read, and reports that aren't.
use Rattle.std.proofs.Common.{◌≡◌, List, [], ◌∷◌, length, map, Some, None, Result, Ok, Err, refl, sym, ap}
use Rattle.std.proofs.Common.{◌∙◌, subst}
use Rattle.std.specs.Prelude.{All}
use Rattle.std.specs.Result.{result_ok}
use Rattle.tv_lex.specs.Token.{SpecToken}
use Rattle.tv_listing.specs.Listed.{IsListing}
use Rattle.tv_listing.specs.declared.analysis.Analysis.{Analysis}
use Rattle.tv_model.specs.Program.{program_of}
use Rattle.tv_model.specs.declared.program.Program.{Program}
use Rattle.tv_model.specs.declared.program.Vocab.{Vocab}
use Rattle.tv_phrases.specs.Reading.{taken}
use Rattle.tv_structure_form.specs.StructureForm.{StructureForm}
use Rattle.tv_tvs.specs.Meaning.{struct_meant, structs_meant}
use Rattle.tv_tvs.specs.Reading.{struct_at, structure_at}
use Rattle.tv_tvs.specs.Tree.{StructTree}
use Rattle.tv_tvs.specs.declared.error.TvsError.{TvsError}
use Rattle.tv_tvs.proofs.Complete.{struct_complete}
use Rattle.tv_report.specs.Grammar.{AreStructures}
use Rattle.tv_report.specs.Lines.{AreMessageLines, AreMapLines}
use Rattle.tv_report.specs.Meaning.{named_node, ListsNodes, MeansReport, IsNoReport}
use Rattle.tv_report.specs.Nodes.{AreRead}
use Rattle.tv_report.specs.Reading.{NodeMark, ReportMarks, structures_at, marked_node, report_at}
use Rattle.tv_report.specs.Tree.{NodeTree, ReportTree}
use Rattle.tv_report.proofs.Marks.{IsMarked, AreMarked}
use Rattle.tv_report.proofs.NodeLaws.{same_listing}
use Rattle.tv_report.proofs.OneReport.{one_report}
use Rattle.tv_report.proofs.Reports.{report_sound, report_read}

-- a structure in front of others
one_more : (vocab : Vocab) (t : StructTree) (trees : List StructTree) (ts us : List SpecToken) (m : Result StructureForm TvsError) (k : Result (List StructureForm) TvsError)
    → struct_at ts ≡ taken t us → struct_meant vocab.preds t ≡ m → structs_meant vocab.preds trees ≡ k
    → structures_at vocab (length trees) us ≡ result_ok (structs_meant vocab.preds trees)
    → structures_at vocab (length (t ∷ trees)) ts ≡ result_ok (structs_meant vocab.preds (t ∷ trees))
unfolding structures_at structure_at
one_more vocab t trees ts us (Ok s) (Ok ss) is one all others = rw (is, one, others, all) refl
one_more vocab t trees ts us (Ok s) (Err g) is one all others = rw (is, one, others, all) refl
one_more vocab t trees ts us (Err f) k is one all others = rw (is, one) refl

-- the structures that stand at a mark are what the trees mean
structures_meant : (vocab : Vocab) (trees : List StructTree) (ts rest : List SpecToken) → AreStructures ts trees rest
    → structures_at vocab (length trees) ts ≡ result_ok (structs_meant vocab.preds trees)
unfolding structures_at
structures_meant vocab [] ts rest are = refl
structures_meant vocab (t ∷ trees) ts rest are =
    one_more vocab t trees ts are.0 (struct_meant vocab.preds t) (structs_meant vocab.preds trees) (struct_complete ts t are.0 are.1) refl refl
    (structures_meant vocab trees are.0 rest are.2)

node_same : (vocab : Vocab) (m : NodeMark) (t : NodeTree) → IsMarked m t → marked_node vocab m ≡ named_node vocab t
node_same vocab m t is =
    let meant : structures_at vocab m.count m.structures ≡ result_ok (structs_meant vocab.preds t.structures)
    = ap (λ n. structures_at vocab n m.structures) is.count ∙ structures_meant vocab t.structures m.structures is.behind is.are
    in ap (λ n. record { name = n; structures = structures_at vocab m.count m.structures }) is.name
    ∙ ap (λ ss. record { name = t.name; structures = ss }) meant

nodes_same : (vocab : Vocab) (marks : List NodeMark) (trees : List NodeTree) → AreMarked marks trees
    → map (marked_node vocab) marks ≡ map (named_node vocab) trees
nodes_same vocab [] [] are = refl
nodes_same vocab [] (t ∷ trees) are = elim are [ ]
nodes_same vocab (m ∷ marks) [] are = elim are [ ]
nodes_same vocab (m ∷ marks) (t ∷ trees) are =
    ap (λ n. n ∷ map (marked_node vocab) marks) (node_same vocab m t are.0) ∙ ap (λ ns. named_node vocab t ∷ ns) (nodes_same vocab marks trees are.1)

-- ---- what is read

pub report_meant : (program : Program) (ts : List SpecToken) (marks : ReportMarks) (a : Analysis) → report_at ts ≡ Some marks
    → ListsNodes program (map (marked_node program.vocab) marks.nodes) a.listing
    → AreMessageLines (program_of program) a.messages → a.messages ≡ marks.messages
    → AreMapLines (program_of program) a.listing a.maps → a.maps ≡ marks.maps → MeansReport program ts a
report_meant program ts marks a is listed messages same_messages maps same_maps =
    let found = report_sound ts marks is
    in record {
      tree = found.0;
      is = found.1;
      listing = subst (λ ns. ListsNodes program ns a.listing) (nodes_same program.vocab marks.nodes found.0.nodes found.2.nodes) listed;
      messages = messages;
      maps = maps;
      same_messages = same_messages ∙ found.2.messages;
      same_maps = same_maps ∙ found.2.maps;
    }

pub listing_kept : (program : Program) (listing : List (List StructureForm)) → length listing ≡ length program.nodes → All (AreRead program.vocab) listing
    → IsListing program listing
listing_kept program listing count kept = record {
  nodes = count;
  counts = λ k d lt. (kept k d lt).1;
  structures = λ k d lt i e less. let one = (kept k d lt).0 i e less in (one.structure, one.over);
}

pub listing_unmarked : (vocab : Vocab) (listing : List (List StructureForm)) → All (AreRead vocab) listing → All (All (λ (s : StructureForm). s.fresh ≡ None)) listing
listing_unmarked vocab listing kept k d lt i e less = ((kept k d lt).0 i e less).fresh

-- ---- what isn't

pub no_report : (program : Program) (ts : List SpecToken) → report_at ts ≡ None → IsNoReport program ts
no_report program ts none a means =
    let read = report_read ts means.tree means.is
    in absurd (none_some read.0 (sym none ∙ read.1))
  where
    none_some : (marks : ReportMarks) → None ≡ Some marks → ⊥
    none_some marks e = cc

-- an analysis that the tokens mean has what their marks say
marks_meant : (program : Program) (ts : List SpecToken) (marks : ReportMarks) (a : Analysis) → report_at ts ≡ Some marks → MeansReport program ts a
    → ListsNodes program (map (marked_node program.vocab) marks.nodes) a.listing
    × (AreMessageLines (program_of program) marks.messages × AreMapLines (program_of program) a.listing marks.maps)
marks_meant program ts marks a is means =
    let found = report_sound ts marks is
    in let same : means.tree ≡ found.0 = one_report ts means.tree found.0 means.is found.1
    in let nodes : map (named_node program.vocab) means.tree.nodes ≡ map (marked_node program.vocab) marks.nodes
    = ap (λ (t : ReportTree). map (named_node program.vocab) t.nodes) same ∙ sym (nodes_same program.vocab marks.nodes found.0.nodes found.2.nodes)
    in let messages : a.messages ≡ marks.messages = means.same_messages ∙ ap (λ (t : ReportTree). t.messages) same ∙ sym found.2.messages
    in let maps : a.maps ≡ marks.maps = means.same_maps ∙ ap (λ (t : ReportTree). t.maps) same ∙ sym found.2.maps
    in (
      subst (λ ns. ListsNodes program ns a.listing) nodes means.listing,
      (subst (AreMessageLines (program_of program)) messages means.messages, subst (AreMapLines (program_of program) a.listing) maps means.maps),
    )

pub no_listing : (program : Program) (ts : List SpecToken) (marks : ReportMarks) → report_at ts ≡ Some marks
    → ((l : List (List StructureForm)) → ¬ ListsNodes program (map (marked_node program.vocab) marks.nodes) l) → IsNoReport program ts
no_listing program ts marks is none a means = none a.listing (marks_meant program ts marks a is means).0

pub no_messages : (program : Program) (ts : List SpecToken) (marks : ReportMarks) → report_at ts ≡ Some marks
    → (¬ AreMessageLines (program_of program) marks.messages) → IsNoReport program ts
no_messages program ts marks is none a means = none (marks_meant program ts marks a is means).1.0

pub no_maps : (program : Program) (ts : List SpecToken) (marks : ReportMarks) (listing : List (List StructureForm)) → report_at ts ≡ Some marks
    → ListsNodes program (map (marked_node program.vocab) marks.nodes) listing
    → (¬ AreMapLines (program_of program) listing marks.maps) → IsNoReport program ts
no_maps program ts marks listing is listed none a means =
    let meant = marks_meant program ts marks a is means
    in let same : a.listing ≡ listing = same_listing program (map (marked_node program.vocab) marks.nodes) a.listing listing meant.0 listed
    in none (subst (λ l. AreMapLines (program_of program) l marks.maps) same meant.1.1)
