-- Copies of sources.
use Rattle.std.specs.Prelude.{◌≡◌, Vec, Option, Some, None}
use Rattle.std.specs.List.{AllZip}
use Rattle.std.specs.declared.alloc.Global.{Global}
use Rattle.memory_loader.specs.declared.source.Source.{Source}
use Rattle.memory_loader.specs.declared.source.Source.TheVariants.{Module, Redirect, External, Err as GivenFault}

module _ {S C : Type 0} (is_text_copy : S → S → Type 0) (is_content_copy : C → C → Type 0) where
  abbrev pub IsHeaderCopy : S × S → S × S → Type 0
  IsHeaderCopy header copy = is_text_copy header.0 copy.0 × is_text_copy header.1 copy.1

  abbrev pub AreHeaderCopies : Option (Vec (S × S) Global) → Option (Vec (S × S) Global) → Type 0
  AreHeaderCopies None None = Unit {0}
  AreHeaderCopies None (Some copies) = ⊥
  AreHeaderCopies (Some headers) None = ⊥
  AreHeaderCopies (Some headers) (Some copies) = AllZip IsHeaderCopy headers.items copies.items

  -- a source of the same kind, whose texts and content are copies and whose fault is the same
  abbrev pub IsCopy : Source S C → Source S C → Type 0
  IsCopy (Module name headers content) (Module name_copy header_copies content_copy) =
      is_text_copy name name_copy × AreHeaderCopies headers header_copies × is_content_copy content content_copy
  IsCopy (Redirect target) (Redirect copy) = is_text_copy target copy
  IsCopy (External name) (External copy) = is_text_copy name copy
  IsCopy (GivenFault fault) (GivenFault copy) = copy ≡ fault
  IsCopy _ _ = ⊥
