use Rattle.std.proofs.Common.{◌≡◌, ◌+◌, ◌*◌, ◌≤◌, length, vec_len}
use Rattle.tv_lex.specs.Gather.{longest_gathered}
use Rattle.tv_lex.proofs.Gathering.{Putting, Beginning}
use Rattle.tv_lex.proofs.Parting.{Reads}
use Rattle.tv_lex.proofs.gatherer.+gathering.Given as goal

-- a file goes through its lines, a line to its include, and an include to a file that is one level deeper
abbrev pub decreases-put_file : goal.decreases-put_file
decreases-put_file g l = 3 * l.left + 2

abbrev pub decreases-put_include : goal.decreases-put_include
decreases-put_include g l = 3 * l.left

abbrev pub decreases-put_line : goal.decreases-put_line
decreases-put_line g l = 3 * l.left + 1

abbrev pub invariant-put_file-loop-rest : goal.invariant-put_file-loop-rest
invariant-put_file-loop-rest g l =
    let f = g.F.Files in
    Putting (f.holds l.fn.files) l.name l.left l.fn.out.bytes.items l.reading.inside l.rest l.out.bytes.items
    × Beginning (f.holds l.fn.files) l.name l.left l.fn.out.bytes.items l.reading.inside l.rest l.out.bytes.items (f.begins l.fn.files) (f.begins l.files)
    × (f.faults l.fn.files ≤ f.faults l.files)
    × (f.holds l.files ≡ f.holds l.fn.files)
    × (f.steady l.fn.files → f.steady l.files × (f.faults l.files ≡ f.faults l.fn.files))
    × (vec_len l.out.bytes ≤ longest_gathered)
    × (l.reading.number + length l.rest ≤ longest_gathered + 1)
    × Reads (f.holds l.fn.files) l.name l.left l.fn.out l.rest l.out l.reading

abbrev pub decreases-put_file-loop-rest : goal.decreases-put_file-loop-rest
decreases-put_file-loop-rest g l = length l.rest
