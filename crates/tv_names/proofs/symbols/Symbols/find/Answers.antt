use Rattle.std.proofs.Common.{sym}
use Rattle.tv_names.proofs.SymbolLaws.{symbol_found, symbol_absent}
use Rattle.tv_names.proofs.symbols.Symbols.find.Goals as goal

pub returns-in-Some : goal.returns-in-Some
returns-in-Some c = sym (symbol_found c.args.name.now _ _ _ c.in-Some.ensures.index c.in-Some.ensures.entry)

pub returns-in-None : goal.returns-in-None
returns-in-None c = sym (symbol_absent c.args.name.now _ (sym c.in-None.ensures.value))
