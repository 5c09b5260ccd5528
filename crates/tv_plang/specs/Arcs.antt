-- What the edges between positions of the code stand for.
use Rattle.std.specs.Prelude.{List, map}
use Rattle.tv_model.specs.Program.{action_of}
use Rattle.tv_plang_laws.specs.Compiled as meaning
use Rattle.tv_plang.specs.declared.arcs.Arc.{Arc}

abbrev pub arc_of : Arc → meaning.Arc
arc_of a = record { from = a.from; action = action_of a.action; to = a.to }

abbrev pub arcs_of : List Arc → List meaning.Arc
arcs_of all = map arc_of all
