use Rattle.std.proofs.Common.{◌≡◌, ◌≤◌, ◌-◌, vec_len}
use Rattle.tv_outside.specs.Count.{counted}
use Rattle.tv_outside.proofs.Reading.{IsReading}
use Rattle.tv_outside.proofs.read.read_all.Given as goal

abbrev pub invariant-loop-content : goal.invariant-loop-content
invariant-loop-content g l =
    let f = g.F.Files in
    IsReading (f.holds l.fn.files) l.name l.content.items (f.left l.files) (f.given l.files) l.limit
    × (f.faults l.fn.files ≤ f.faults l.files)
    × (f.holds l.files ≡ f.holds l.fn.files)
    × (f.begins l.files ≡ counted (f.begins l.fn.files) 1)
    × (f.steady l.fn.files → f.steady l.files × (f.faults l.files ≡ f.faults l.fn.files))

abbrev pub decreases-loop-content : goal.decreases-loop-content
decreases-loop-content g l = l.limit - vec_len l.content
