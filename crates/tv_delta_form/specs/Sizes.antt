-- Sizes of formulas, as far as the limits tell.
use Rattle.std.specs.Prelude.{ℕ, ◌+◌, min, ◌&&◌, Bool, true, false, nat_le}
use Rattle.tv_model.specs.Form.{Form, height}
use Rattle.tv_delta_laws.specs.Simple.{nodes, is_zero, is_one}
use Rattle.tv_delta_form.specs.declared.size.Size.{Size}

-- the size of a formula as far as the limits tell: one node and one level more stand for all that are more
abbrev pub size_of : Form → Size
size_of f =
    record { nodes = min (nodes f) 65537; height = min (height f) 1001; zero = is_zero f; one = is_one f }

abbrev pub is_small_size : Size → Bool
is_small_size s = nat_le s.nodes 65536 && nat_le s.height 1000

abbrev pub zero_size : Size
zero_size = record { nodes = 1; height = 1; zero = true; one = false }

abbrev pub one_size : Size
one_size = record { nodes = 1; height = 1; zero = false; one = true }

abbrev pub leaf_size : Size
leaf_size = record { nodes = 1; height = 1; zero = false; one = false }

-- one node over parts that have so many nodes together and are so high
abbrev pub node_over : (nodes height : ℕ) → Size
node_over n h = record { nodes = min (n + 1) 65537; height = min (h + 1) 1001; zero = false; one = false }
