-- What the lists of a plain heap and of plain values say.
use Rattle.std.specs.Prelude.{slice_index}
use Rattle.tv_model.specs.Heap.{Heap}
use Rattle.tv_model.specs.Truth.{Assignment}
use Rattle.tv_concrete.specs.declared.heap_list.HeapList.{HeapList}
use Rattle.tv_concrete.specs.declared.heap_list.Values.{Values}

abbrev pub heap_of : HeapList → Heap
heap_of h = record { individuals = h.individuals; extents = h.extents; fresh = h.fresh }

abbrev pub assignment_of : Values → Assignment
assignment_of values = λ v. slice_index values.places v
