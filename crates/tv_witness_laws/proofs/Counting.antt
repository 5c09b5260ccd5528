-- How many cells a run takes.
use Rattle.std.proofs.Common.{ℕ, ◌≤◌, ◌+◌, List, [], ◌∷◌, length, All, arith}
use Rattle.std.proofs.lemmas.List.Elements.{All-nil, All-cons, All-weaker}
use Rattle.tv_model.specs.Heap.{Heap}
use Rattle.tv_witness_laws.specs.Laws.{EnoughCellsShowRuns}
use Rattle.tv_witness_laws.specs.Witness.{HasFewCells, heaps_of}

-- all the individuals of the heaps, counted together
abbrev cells_of : List Heap → ℕ
cells_of [] = 0
cells_of (h ∷ heaps) = length h.individuals + cells_of heaps

small-more : (few cells : ℕ) → few ≤ cells → (heaps : List Heap) → All (HasFewCells few) heaps
    → All (HasFewCells cells) heaps
small-more few cells le heaps all =
    All-weaker (HasFewCells few) (HasFewCells cells) (λ h small. omega (arith, small, le)) heaps all

small-all : (heaps : List Heap) → All (HasFewCells (cells_of heaps)) heaps
small-all [] = All-nil (HasFewCells 0)
small-all (h ∷ heaps) =
    let cells : ℕ = length h.individuals + cells_of heaps
    in All-cons (HasFewCells cells) h heaps (omega arith)
    (small-more (cells_of heaps) cells (omega arith) heaps (small-all heaps))

pub enough_cells_show_runs : EnoughCellsShowRuns
enough_cells_show_runs q = record {
  more = λ cells le start stages w. record {
    runs = record {
      is_run = w.runs.is_run;
      from = w.runs.from;
      small = small-more q.cells cells le (heaps_of start stages) w.runs.small;
    };
    there = w.there;
    aim = w.aim;
  };
  enough = λ start stages run from there aim. (
    cells_of (heaps_of start stages),
    record {
      runs = record { is_run = run; from = from; small = small-all (heaps_of start stages) };
      there = there;
      aim = aim;
    },
  );
}
