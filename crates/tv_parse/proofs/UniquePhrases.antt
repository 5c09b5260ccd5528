-- From any place a phrase has one tree and one end at most: those that its reading gives.
use Rattle.std.proofs.Common.{◌≡◌, ℕ, ◌+◌, ◌≤◌, List, Bool, length, sym, ◌∙◌, ap, arith}
use Rattle.std.specs.Prelude.{codes}
use Rattle.tv_lex.specs.Token.{SpecToken}
use Rattle.tv_phrases.specs.Reading.{Reading}
use Rattle.tv_tree.specs.Forms.{NameForm, SetForm, Form, PartForm}
use Rattle.tv_tree.specs.Copies.{nests}
use Rattle.tv_formula.specs.Grammar.{Whole, IsFormula}
use Rattle.tv_formula.proofs.Complete.{shorter}
use Rattle.tv_formula.proofs.FormulaLaws.{formula_is_read}
use Rattle.tv_parse.specs.Kinds.{begins_decl, begins_update, kind_of}
use Rattle.tv_parse.specs.Grammar.{IsSetTerm, IsSet, IsHead, IsNest, AreNests, IsSignature, AreProps, IsDecl}
use Rattle.tv_parse.specs.Grammar.{AreDecls, IsUpdate, AreUpdates, IsPiece, ArePieces, AreFormulas, IsPart}
use Rattle.tv_parse.specs.Grammar.{AreParts, IsAction, IsEdge, begins_edge}
use Rattle.tv_parse.specs.Reading.{set_term, sets, set_reading, head_reading, nest, rows, signature}
use Rattle.tv_parse.specs.Reading.{props_reading, decl_reading, update_reading, piece_reading, pieces_reading}
use Rattle.tv_parse.specs.Reading.{formulas_reading, part_behind, parts, action_reading, edge_reading}
use Rattle.tv_parse.proofs.SetsRead.{set_read, term_read, head_read}
use Rattle.tv_parse.proofs.RowsRead.{listed, nests_listed, nest_read, rows_read}
use Rattle.tv_phrases.specs.Repeated.{begins_with, HasOne, Repeated}
use Rattle.tv_phrases.proofs.Repeats.{IsRead}
use Rattle.tv_parse.proofs.GrammarRead.{signature_read, props_read, piece_read, pieces_read, edge_read}
use Rattle.tv_parse.proofs.GrammarRead.{decl_read, update_read, formulas_read, part_read, parts_read}
use Rattle.tv_parse.proofs.GrammarRead.{action_read}
use Rattle.tv_phrases.proofs.Repeats.{one_of, one_list}

formula_shorter : (ts rest : List SpecToken) (f : Form) → IsFormula ts f rest → length rest ≤ length ts
formula_shorter ts rest f is = shorter Whole ts rest f is

pub one_set : HasOne IsSet
one_set ts us vs s t a b = one_of (set_reading ts) us vs s t (set_read ts us s a).0 (set_read ts vs t b).0

pub one_set_term : HasOne IsSetTerm
one_set_term ts us vs s t a b = one_of (set_term (sets (length ts)) ts) us vs s t (term_read ts us s a) (term_read ts vs t b)

pub one_head : HasOne (λ ts (x : List ℕ × SetForm) rest. IsHead ts x.0 x.1 rest)
one_head ts us vs x y a b = one_of (head_reading ts) us vs x y (head_read ts us x.0 x.1 a).0 (head_read ts vs y.0 y.1 b).0

pub one_signature : HasOne (λ ts (x : NameForm × List (List ℕ)) rest. IsSignature ts x.0 x.1 rest)
one_signature ts us vs x y a b = one_of (signature ts) us vs x y (signature_read ts us x.0 x.1 a).0 (signature_read ts vs y.0 y.1 b).0

pub one_props : HasOne AreProps
one_props ts us vs x y a b = one_of (props_reading ts) us vs x y (props_read ts us x a).0 (props_read ts vs y b).0

pub one_piece : HasOne IsPiece
one_piece ts us vs x y a b = one_of (piece_reading ts) us vs x y (piece_read ts us x a).0 (piece_read ts vs y b).0

pub one_caption : HasOne ArePieces
one_caption ts us vs x y a b = one_of (pieces_reading ts) us vs x y (pieces_read ts us x a).0 (pieces_read ts vs y b).0

pub one_edge : HasOne IsEdge
one_edge ts us vs x y a b = one_of (edge_reading ts) us vs x y (edge_read ts us x a).0 (edge_read ts vs y b).0

is_decl : IsRead decl_reading IsDecl
is_decl = decl_read formula_is_read formula_shorter

is_update : IsRead update_reading IsUpdate
is_update = update_read formula_is_read formula_shorter

is_action : IsRead action_reading IsAction
is_action = action_read formula_is_read formula_shorter

-- nests and rows of them
one_nest : {X : Type 0} (begins : List SpecToken → Bool) (single : List SpecToken → Reading X) (IsSingle : List SpecToken → X → List SpecToken → Type 0) → IsRead single IsSingle → HasOne (IsNest begins IsSingle)
one_nest begins single IsSingle one ts us vs x y a b =
    one_of (nest single (rows begins single (length ts)) ts) us vs x y
    (nest_read begins single IsSingle one x ts us a (length ts) (omega arith)).0
    (nest_read begins single IsSingle one y ts vs b (length ts) (omega arith)).0

one_row : {X : Type 0} (begins : List SpecToken → Bool) (single : List SpecToken → Reading X) (IsSingle : List SpecToken → X → List SpecToken → Type 0) → IsRead single IsSingle → HasOne (AreNests begins IsSingle)
one_row begins single IsSingle one ts us vs x y a b =
    let same =
    one_of (rows begins single (length ts + 1) ts) us vs (listed x) (listed y)
    (rows_read begins single IsSingle one x ts us a (length ts + 1) (omega arith)).0
    (rows_read begins single IsSingle one y ts vs b (length ts + 1) (omega arith)).0
    in (sym (nests_listed x) ∙ ap nests same.0 ∙ nests_listed y, same.1)

pub one_decl : HasOne (IsNest begins_decl IsDecl)
one_decl = one_nest begins_decl decl_reading IsDecl is_decl

pub one_decls : HasOne AreDecls
one_decls = one_row begins_decl decl_reading IsDecl is_decl

pub one_update : HasOne (IsNest begins_update IsUpdate)
one_update = one_nest begins_update update_reading IsUpdate is_update

pub one_updates : HasOne AreUpdates
one_updates = one_row begins_update update_reading IsUpdate is_update

pub one_formulas : HasOne AreFormulas
one_formulas ts us vs x y a b = one_of (formulas_reading ts) us vs x y (formulas_read formula_is_read formula_shorter ts us x a).0 (formulas_read formula_is_read formula_shorter ts vs y b).0

-- a part's first token tells its kind
pub one_part : (ts us vs : List SpecToken) (p q : PartForm) → kind_of p ≡ kind_of q → IsPart ts p us → IsPart ts q vs → (p ≡ q) × (us ≡ vs)
one_part ts us vs p q same a b =
    one_of (part_behind (kind_of p) ts) us vs p q (part_read formula_is_read formula_shorter p ts us a).0
    (ap (λ k. part_behind k ts) same ∙ (part_read formula_is_read formula_shorter q ts vs b).0)

pub one_parts : (before : List PartForm) → HasOne (AreParts before)
one_parts before ts us vs x y a b =
    one_of (parts (length ts + 1) before ts) us vs x y
    (parts_read formula_is_read formula_shorter x before ts us a (length ts + 1) (omega arith)).0
    (parts_read formula_is_read formula_shorter y before ts vs b (length ts + 1) (omega arith)).0

pub one_action : HasOne IsAction
one_action ts us vs x y a b = one_of (action_reading ts) us vs x y (is_action ts us x a).0 (is_action ts vs y b).0

pub one_actions : HasOne (Repeated (begins_with (codes "%action")) IsAction)
one_actions = one_list (begins_with (codes "%action")) action_reading IsAction is_action

pub one_edges : HasOne (Repeated begins_edge IsEdge)
one_edges = one_list begins_edge edge_reading IsEdge edge_read
