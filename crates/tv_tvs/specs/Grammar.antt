-- The grammar of structures: which tokens are which tree, with which tokens behind. An optional part, and
-- each further one of repeated parts, is taken exactly where the token at its place can begin it.
use Rattle.std.specs.Prelude.{ℕ, ◌≡◌, List, [], ◌∷◌, Bool, Option, Some, None, is_some, IsFalse}
use Rattle.std.specs.Prelude.{if◌then◌else◌, codes}
use Rattle.std.specs.Str.{bytes_eq}
use Rattle.tv_kleene.specs.declared.K3.{K3}
use Rattle.tv_kleene.specs.declared.K3.TheVariants.{No, Half, Yes}
use Rattle.tv_lex.specs.Token.{SpecToken}
use Rattle.tv_phrases.specs.Tokens.{after, first, word_item, identifier_item}
use Rattle.tv_phrases.specs.Repeated.{Repeated}
use Rattle.tv_phrases.specs.Lists.{optional_list, name}
use Rattle.tv_tvs.specs.Tree.{ItemTree, ContentTree, OneValue, Listed, EntryTree, StructTree}

-- `0`, `1` or `1/2`
abbrev pub value_in : List ℕ → Option K3
value_in bytes =
    if bytes_eq bytes (codes "0") then Some No
    else (if bytes_eq bytes (codes "1") then Some Yes
    else (if bytes_eq bytes (codes "1/2") then Some Half else None))

abbrev pub value_item : SpecToken → Option K3
value_item t = value_in t.bytes

-- `-> word`, or nothing
abbrev pub IsSecond : List SpecToken → Option (List ℕ) → List SpecToken → Type 0
IsSecond ts None rest = (after (codes "->") ts ≡ None) × (rest ≡ ts)
IsSecond ts (Some w) rest =
    (us : List SpecToken) × (after (codes "->") ts ≡ Some us) × (first word_item us ≡ Some (w, rest))

-- `: value`, or nothing
abbrev pub IsItemValue : List SpecToken → Option K3 → List SpecToken → Type 0
IsItemValue ts None rest = (after (codes ":") ts ≡ None) × (rest ≡ ts)
IsItemValue ts (Some k) rest =
    (us : List SpecToken) × (after (codes ":") ts ≡ Some us) × (first value_item us ≡ Some (k, rest))

-- a word, maybe `->` and a second one, maybe `:` and a value
abbrev pub IsItemTree : List SpecToken → ItemTree → List SpecToken → Type 0
IsItemTree ts item rest =
    (us vs : List SpecToken) × (first word_item ts ≡ Some (item.first, us)) × IsSecond us item.second vs
    × IsItemValue vs item.value rest

-- an item behind a comma
abbrev pub IsNextItem : List SpecToken → ItemTree → List SpecToken → Type 0
IsNextItem ts item rest = (us : List SpecToken) × (after (codes ",") ts ≡ Some us) × IsItemTree us item rest

abbrev pub begins_comma : List SpecToken → Bool
begins_comma ts = is_some (after (codes ",") ts)

abbrev pub begins_word : List SpecToken → Bool
begins_word ts = is_some (first word_item ts)

-- items with commas between them, or nothing
abbrev pub AreItems : List SpecToken → List ItemTree → List SpecToken → Type 0
AreItems ts [] rest = IsFalse (begins_word ts) × (rest ≡ ts)
AreItems ts (item ∷ items) rest =
    (us : List SpecToken) × IsItemTree ts item us × Repeated begins_comma IsNextItem us items rest

-- a value, or items in braces
abbrev pub IsContent : List SpecToken → ContentTree → List SpecToken → Type 0
IsContent ts (OneValue k) rest = (after (codes "{") ts ≡ None) × (first value_item ts ≡ Some (k, rest))
IsContent ts (Listed items) rest =
    (us vs : List SpecToken) × (after (codes "{") ts ≡ Some us) × AreItems us items vs
    × (after (codes "}") vs ≡ Some rest)

-- a name, `=` and a content
abbrev pub IsEntry : List SpecToken → EntryTree → List SpecToken → Type 0
IsEntry ts entry rest =
    (us vs : List SpecToken) × (name ts ≡ Some (entry.name, us)) × (after (codes "=") us ≡ Some vs)
    × IsContent vs entry.content rest

abbrev pub begins_name : List SpecToken → Bool
begins_name ts = is_some (first identifier_item ts)

-- a directive, `=` and `{`
abbrev pub IsOpening : List ℕ → List SpecToken → List SpecToken → Type 0
IsOpening directive ts rest =
    (us vs : List SpecToken) × (after directive ts ≡ Some us) × (after (codes "=") us ≡ Some vs)
    × (after (codes "{") vs ≡ Some rest)

-- `%n = { words } %p = { entries }`, with commas between the words
pub record IsStruct (ts : List SpecToken) (t : StructTree) (rest : List SpecToken) : Type 0 where
  pub individuals : List SpecToken
  pub end : List SpecToken
  pub middle : List SpecToken
  pub entries : List SpecToken
  pub last : List SpecToken
  pub opens : IsOpening (codes "%n") ts individuals
  pub words : optional_list word_item individuals ≡ Some (t.individuals, end)
  pub closes : after (codes "}") end ≡ Some middle
  pub opens_entries : IsOpening (codes "%p") middle entries
  pub are_entries : Repeated begins_name IsEntry entries t.entries last
  pub closes_entries : after (codes "}") last ≡ Some rest

abbrev pub begins_struct : List SpecToken → Bool
begins_struct ts = is_some (after (codes "%n") ts)

-- structures one behind the other, and nothing behind them
abbrev pub AreStructs : List SpecToken → List StructTree → Type 0
AreStructs ts trees = Repeated begins_struct IsStruct ts trees []
