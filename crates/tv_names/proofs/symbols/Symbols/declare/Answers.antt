use Rattle.std.proofs.Common.{◌≡◌, ap, ◌∙◌}
use Rattle.std.proofs.lemmas.List.{map_push}
use Rattle.indexmap.proofs.CallerLemmas.{insert_entry-new}
use Rattle.tv_names.specs.Copies.{symbol_form}
use Rattle.tv_names.proofs.SymbolLaws.{symbol_new}
use Rattle.tv_names.proofs.symbols.Symbols.declare.Goals as goal

pub returns : goal.returns
returns c =
    let none = symbol_new c.args.name.items c.args.self.now.entries.entries c.requires.new in
    ap (Rattle.std.proofs.Common.map symbol_form) (c.in_ok-insert.ensures.entries ∙ insert_entry-new _ c.args.self.now.entries c.args.name c.args.arity none)
    ∙ map_push symbol_form c.args.self.now.entries.entries (c.args.name, c.args.arity)
