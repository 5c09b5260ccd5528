-- The lines that are put into the text of a structure, and where.
use Rattle.std.specs.Prelude.{ℕ, zero, suc, ◌+◌, ◌-◌, ◌==◌, ◌||◌, Bool, List, [], ◌∷◌, ◌++◌, length, drop}
use Rattle.std.specs.Prelude.{slice_get, unwrap_or, codes, if◌then◌else◌}
use Rattle.std.specs.List.{flat_map, range_with_len, suffix_len}
use Rattle.tv_kleene.specs.declared.K3.{K3}
use Rattle.tv_kleene.specs.declared.K3.TheVariants.{No, Half, Yes}
use Rattle.tv_lex.specs.Bytes.{stays_on_line}
use Rattle.tv_model.specs.Program.{PredForm}
use Rattle.tv_structure_form.specs.StructureForm.{StructureForm, value_at}
use Rattle.tv_complete.specs.Completion.{is_settled}
use Rattle.tv_complete_text.specs.Named.{NamedForm}

-- ---- values

abbrev pub individual_at : (individuals : List (List ℕ)) → ℕ → List ℕ
individual_at individuals u = unwrap_or (slice_get individuals u) []

abbrev pub pair_at : (individuals : List (List ℕ)) → (u w : ℕ) → List ℕ
pair_at individuals u w = individual_at individuals u ++ (codes "->" ++ individual_at individuals w)

-- a tuple with its value, behind a comma and a blank; nothing where the value is 0
abbrev pub listed_item : (tuple : List ℕ) → K3 → List ℕ
listed_item tuple No = []
listed_item tuple Half = codes ", " ++ (tuple ++ codes ":1/2")
listed_item tuple Yes = codes ", " ++ tuple

abbrev pub listed_singles : (individuals : List (List ℕ)) → (List ℕ → K3) → (size : ℕ) → List ℕ
listed_singles individuals value size =
    flat_map (λ u. listed_item (individual_at individuals u) (value (u ∷ []))) (range_with_len 0 size)

-- the pairs that begin with u
abbrev pub listed_row : (individuals : List (List ℕ)) → (List ℕ → K3) → (size u : ℕ) → List ℕ
listed_row individuals value size u =
    flat_map (λ w. listed_item (pair_at individuals u w) (value (u ∷ w ∷ []))) (range_with_len 0 size)

abbrev pub listed_pairs : (individuals : List (List ℕ)) → (List ℕ → K3) → (size : ℕ) → List ℕ
listed_pairs individuals value size = flat_map (listed_row individuals value size) (range_with_len 0 size)

abbrev pub braced : (items : List ℕ) → List ℕ
braced [] = []
braced (x ∷ xs) = codes "{" ++ (drop 2 (x ∷ xs) ++ codes "}")

abbrev pub flag_entry : K3 → List ℕ
flag_entry No = []
flag_entry Half = codes "1/2"
flag_entry Yes = codes "1"

-- the values of a predicate, as an entry has them; nothing where it is 0 everywhere
abbrev pub values_text : (individuals : List (List ℕ)) → (size arity : ℕ) → (List ℕ → K3) → List ℕ
values_text individuals size zero value = flag_entry (value [])
values_text individuals size (suc zero) value = braced (listed_singles individuals value size)
values_text individuals size (suc (suc n)) value = braced (listed_pairs individuals value size)

-- ---- lines

-- a line, indented by two blanks more than the brace behind it; none where there are no values
abbrev pub entry_line : (indent name values : List ℕ) → List ℕ
entry_line indent name [] = []
entry_line indent name (x ∷ xs) =
    indent ++ (codes "  " ++ (name ++ (codes " = " ++ ((x ∷ xs) ++ codes "\n"))))

-- the line of the predicate q, where it is missing
abbrev pub missing_line : (indent : List ℕ) → NamedForm → StructureForm → ℕ → PredForm → List ℕ
missing_line indent x t q d =
    if is_settled x.names d then []
    else entry_line indent d.name (values_text x.individuals t.size d.arity (value_at t q))

-- the lines of the predicates from a number on
abbrev pub missing_lines : (indent : List ℕ) → NamedForm → StructureForm → ℕ → List PredForm → List ℕ
missing_lines indent x t q [] = []
missing_lines indent x t q (d ∷ ds) = missing_line indent x t q d ++ missing_lines indent x t (q + 1) ds

-- ---- where they are put: in front of the line of the closing brace, or in front of the brace, where more
-- stands on its line

abbrev pub is_indent : ℕ → Bool
is_indent b = (b == 32) || (b == 9)

-- how much of its line stands in front of the brace
abbrev pub line_len : (front : List ℕ) → ℕ
line_len front = suffix_len stays_on_line front

-- only blanks do
abbrev pub has_own_line : (front : List ℕ) → Bool
has_own_line front = suffix_len is_indent front == line_len front

abbrev pub lines_place : (front : List ℕ) → ℕ
lines_place front = if has_own_line front then length front - line_len front else length front

abbrev pub lines_indent : (front : List ℕ) → List ℕ
lines_indent front = if has_own_line front then drop (length front - line_len front) front else []

-- a line feed comes first, where they don't begin on a line of their own
abbrev pub lines_feed : (front : List ℕ) → List ℕ
lines_feed front = if has_own_line front then [] else codes "\n"

abbrev pub led_by : (feed lines : List ℕ) → List ℕ
led_by feed [] = []
led_by feed (x ∷ xs) = feed ++ (x ∷ xs)

-- what is put into a structure's text, of which this stands in front of its closing brace
abbrev pub put_lines : List PredForm → (front : List ℕ) → NamedForm → StructureForm → List ℕ
put_lines preds front x t = led_by (lines_feed front) (missing_lines (lines_indent front) x t 0 preds)
