-- The grammar of reports. `{ }` is any number of times, `[ ]` is optional; a comma list of X is X, then any
-- number of `,` X. What is optional or repeated is taken exactly where the token at its place can begin it.
-- (Structures: `tv_tvs`.)
--
--   Report  = `tvla` `report` `1` {Node} {Message} `end`
--           | `tvla` `report` `2` {Node} {Message} {Map} `end`
--   Node    = `node` word `structures` number, then that many structures
--   Message = `message` number number (`1` or `1/2`) string
--   Map     = `map` Item `to` number `{` [comma list of numbers] `}`
--   Item    = `initial` number | `edge` number number number
--
-- Each relation says that the tokens `ts` begin with the phrase of a tree, and that `rest` stands behind it.
use Rattle.std.specs.Prelude.{◌≡◌, ℕ, List, [], ◌∷◌, ◌⊎◌, Option, Some, None, length, codes, if◌then◌else◌}
use Rattle.std.specs.Str.{bytes_eq}
use Rattle.tv_kleene.specs.declared.K3.{K3}
use Rattle.tv_kleene.specs.declared.K3.TheVariants.{Half, Yes}
use Rattle.tv_lex.specs.Token.{SpecToken}
use Rattle.tv_phrases.specs.Reading.{taken}
use Rattle.tv_phrases.specs.Tokens.{after, first, word_item, text_item, number_item}
use Rattle.tv_phrases.specs.Lists.{optional_list}
use Rattle.tv_phrases.specs.Repeated.{Repeated, begins_with}
use Rattle.tv_listing.specs.declared.analysis.Item.{Item}
use Rattle.tv_listing.specs.declared.analysis.Item.TheVariants as item
use Rattle.tv_listing.specs.declared.analysis.MapLine.{MapLine}
use Rattle.tv_listing.specs.declared.analysis.MessageLine.{MessageLine}
use Rattle.tv_tvs.specs.Grammar.{IsStruct}
use Rattle.tv_tvs.specs.Tree.{StructTree}
use Rattle.tv_report.specs.Tree.{NodeTree, ReportTree}

-- structures one behind the other
abbrev pub AreStructures : List SpecToken → List StructTree → List SpecToken → Type 0
AreStructures ts [] rest = rest ≡ ts
AreStructures ts (s ∷ structures) rest =
    (us : List SpecToken) × IsStruct ts s us × AreStructures us structures rest

abbrev pub IsNode : List SpecToken → NodeTree → List SpecToken → Type 0
IsNode ts node rest = (us vs ws xs : List SpecToken)
    × (after (codes "node") ts ≡ Some us) × (first word_item us ≡ taken node.name vs)
    × (after (codes "structures") vs ≡ Some ws) × (first number_item ws ≡ taken (length node.structures) xs)
    × AreStructures xs node.structures rest

-- `1` or `1/2`
abbrev pub value_spelled : List ℕ → Option K3
value_spelled w =
    if bytes_eq w (codes "1") then Some Yes else (if bytes_eq w (codes "1/2") then Some Half else None)

abbrev pub message_value : SpecToken → Option K3
message_value t = value_spelled t.bytes

abbrev pub IsMessage : List SpecToken → MessageLine → List SpecToken → Type 0
IsMessage ts line rest = (us vs ws xs : List SpecToken) × (text : List ℕ)
    × (after (codes "message") ts ≡ Some us) × (first number_item us ≡ taken line.edge vs)
    × (first number_item vs ≡ taken line.number ws) × (first message_value ws ≡ taken line.value xs)
    × (first text_item xs ≡ taken text rest)

abbrev pub IsItemPhrase : List SpecToken → Item → List SpecToken → Type 0
IsItemPhrase ts (item.Initial n) rest =
    (us : List SpecToken) × (after (codes "initial") ts ≡ Some us) × (first number_item us ≡ taken n rest)
IsItemPhrase ts (item.Result edge structure result) rest = (us vs ws : List SpecToken)
    × (after (codes "edge") ts ≡ Some us) × (first number_item us ≡ taken edge vs)
    × (first number_item vs ≡ taken structure ws) × (first number_item ws ≡ taken result rest)

abbrev pub IsMap : List SpecToken → MapLine → List SpecToken → Type 0
IsMap ts line rest = (us vs ws xs ys zs : List SpecToken)
    × (after (codes "map") ts ≡ Some us) × IsItemPhrase us line.item vs
    × (after (codes "to") vs ≡ Some ws) × (first number_item ws ≡ taken line.target xs)
    × (after (codes "{") xs ≡ Some ys) × (optional_list number_item ys ≡ taken line.map zs)
    × (after (codes "}") zs ≡ Some rest)

-- `tvla report` and the version
abbrev pub IsHead : (version : List ℕ) → List SpecToken → List SpecToken → Type 0
IsHead version ts rest = (us vs : List SpecToken)
    × (after (codes "tvla") ts ≡ Some us) × (after (codes "report") us ≡ Some vs)
    × (after version vs ≡ Some rest)

-- the first version has no maps
abbrev pub AreMaps : (version : List ℕ) → List SpecToken → List MapLine → List SpecToken → Type 0
AreMaps version ts maps rest =
    ((version ≡ codes "1") × (maps ≡ []) × (rest ≡ ts))
    ⊎ ((version ≡ codes "2") × Repeated (begins_with (codes "map")) IsMap ts maps rest)

-- the tokens are those of this report
abbrev pub IsReport : List SpecToken → ReportTree → Type 0
IsReport tokens t = (version : List ℕ) × (us vs ws xs : List SpecToken)
    × IsHead version tokens us
    × Repeated (begins_with (codes "node")) IsNode us t.nodes vs
    × Repeated (begins_with (codes "message")) IsMessage vs t.messages ws
    × AreMaps version ws t.maps xs
    × (after (codes "end") xs ≡ Some [])
