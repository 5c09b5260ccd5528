use Rattle.std.proofs.Common.{◌-◌, length, sym, ap, ◌∙◌, subst}
use Rattle.std.specs.List.{suffix_len}
use Rattle.std.specs.Str.{IsCharBoundary}
use Rattle.tv_lex.specs.Include.{is_not_slash}
use Rattle.tv_lex.proofs.Names.{folder_boundary}
use Rattle.tv_lex.proofs.include.folder.Goals as goal

pub range-requires-clause-end_boundary : goal.range-requires-clause-end_boundary
range-requires-clause-end_boundary c =
    let name = c.args.name.now in
    let len = c.last_part_len.ensures.value ∙ ap (suffix_len is_not_slash) c.as_bytes.ensures.value in
    subst (λ n. IsCharBoundary name (length name - n)) (sym len) (folder_boundary name c.utf8.name)
