-- What the limits on a flat form are.
use Rattle.std.specs.Prelude.{◌≡◌, ◌&&◌, Ok, Err, if◌then◌else◌, nat_le}
use Rattle.tv_tree.specs.Forms.{ProgramForm}
use Rattle.tv_flat.specs.FlatForm.{FlatForm, item_count, node_count}
use Rattle.tv_expand.specs.declared.error.ExpandError.TheVariants.{TooManyItems}
use Rattle.tv_expand.specs.Expansion.{Room, expansion_within, expansion}

-- Limits decide nothing but whether a flat form is too large. A program that has one, however much room that
-- takes, has it within the limits of the language where it has at most 65,536 items and at most 1,048,576
-- formula nodes in them, and is refused for its size alone where it has more.
abbrev pub LimitsAreExact : Type 0
LimitsAreExact =
    (t : ProgramForm) (f : FlatForm) (room : Room) → expansion_within room t ≡ Ok f →
    expansion t
    ≡ (if nat_le (item_count f) 65536 && nat_le (node_count f) 1048576 then Ok f else Err TooManyItems)
