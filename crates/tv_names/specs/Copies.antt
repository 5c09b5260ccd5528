-- What the values of the code stand for.
use Rattle.std.specs.Prelude.{ℕ, List, map}
use Rattle.tv_names.specs.declared.symbols.Symbols.{Symbols}
use Rattle.tv_names.specs.declared.naming.Slot.{Slot}
use Rattle.tv_names.specs.declared.naming.Slot.TheVariants as slot
use Rattle.tv_names.specs.declared.naming.Naming.{Naming}
use Rattle.tv_names.specs.declared.place.Place.{Place}
use Rattle.std.specs.Global.{Vec}
use Rattle.tv_names.specs.Symbols.{SymbolForm}
use Rattle.tv_names.specs.Naming.{SlotForm, Vacant, Nameless, Named, NamingForm}
use Rattle.tv_names.specs.Resolving.{PlaceForm}

abbrev pub symbol_form : Vec ℕ × ℕ → SymbolForm
symbol_form entry = record { name = entry.0.items; arity = entry.1 }

abbrev pub symbols_of : Symbols → List SymbolForm
symbols_of symbols = map symbol_form symbols.entries.entries

abbrev pub slot_of : Slot → SlotForm
slot_of slot.Vacant = Vacant
slot_of slot.Nameless = Nameless
slot_of (slot.Named word) = Named word.now

abbrev pub naming_of : Naming → NamingForm
naming_of n = record { slots = map slot_of n.slots; own = n.own; further = n.further }

abbrev pub place_form : Place → PlaceForm
place_form p =
    record {
      symbols = symbols_of p.symbols.now;
      with_new = p.with_new;
      known = p.known.flags;
      others = p.others;
    }
