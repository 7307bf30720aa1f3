-- What contracts see of an entry that the walk lends.
use Rattle.std.specs.Prelude.{Option, Some, None}
use Rattle.std.specs.Borrow.{Bor}
use Rattle.url.specs.Parts.{Parts}
use Rattle.spec_base.specs.Specifier.{specifier_text}
use Rattle.graph_walk.specs.declared.walk.ModuleEntryRef.{ModuleEntryRef}
use Rattle.graph_walk.specs.declared.walk.ModuleEntryRef.TheVariants.{Module as ModuleRef, Err as ErrRef, Redirect as RedirectRef}
use Rattle.graph_walk.specs.Lists.{Text}
use Rattle.graph_walk.specs.Order.{Entry}
use Rattle.graph_walk.specs.Order.Entry.{OfModule, OfError, Redirected}

-- the entry that a lent one shows
abbrev pub entry_value : ModuleEntryRef → Entry
entry_value (ModuleRef m) = OfModule m.now
entry_value (ErrRef e) = OfError e.now
entry_value (RedirectRef t) = Redirected t.now

-- what a step of a walk gives: the specifier's text and the entry
abbrev pub item_value : Bor Parts × ModuleEntryRef → Text × Entry
item_value p = (specifier_text p.0.now, entry_value p.1)

-- the text of a specifier that is lent, where there is one
abbrev pub text_in : Option (Bor Parts) → Option Text
text_in None = None
text_in (Some s) = Some (specifier_text s.now)

-- the specifier that a step of a walk gives, where it gives one
abbrev pub given_text : Option (Bor Parts × ModuleEntryRef) → Option Text
given_text None = None
given_text (Some p) = Some (specifier_text p.0.now)
