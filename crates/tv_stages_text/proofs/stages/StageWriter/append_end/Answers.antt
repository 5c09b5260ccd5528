use Rattle.std.proofs.Common.{◌++◌, codes}
use Rattle.tv_stages_text.specs.Texts.{shown}
use Rattle.tv_stages_text.proofs.Turns.{rest}
use Rattle.tv_stages_text.proofs.stages.StageWriter.append_end.Goals as goal

pub returns-in_ok-extend_from_slice-in-Blurred-2 :
    goal.returns-in_ok-extend_from_slice-in-Blurred-2
returns-in_ok-extend_from_slice-in-Blurred-2 c =
    let p = c.args.self.now in
    let new = c.append_shown-in-Blurred.new.out.items in
    let coerced = shown p c.in-Blurred.coerced in
    let blurred = codes "stage         blurred" ++ shown p c.in-Blurred.blurred in
    rw c.in-Blurred.is
    (rest c.append_shown-in-Blurred.result c.args.out.now.items c.extend_from_slice.new.self.items new
    (codes "stage         coerced") (coerced ++ blurred) c.in_ok-extend_from_slice-in-Blurred.ensures.items
    (rest c.append_shown-in-Blurred.result c.extend_from_slice.new.self.items c.append_shown.new.out.items new coerced
    blurred c.in_ok-append_shown-in-Blurred.ensures
    (rest c.append_shown-in-Blurred.result c.append_shown.new.out.items
    c.extend_from_slice-in-Blurred.new.self.items new (codes "stage         blurred") (shown p c.in-Blurred.blurred)
    c.in_ok-extend_from_slice-in-Blurred-2.ensures.items c.append_shown-in-Blurred.ensures)))
