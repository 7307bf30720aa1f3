-- The modules that imports are from, one import after the other.
use Rattle.std.specs.Prelude.{ℕ, ◌+◌, List, [], ◌∷◌, ◌++◌, bytes_eq, if◌then◌else◌}
use Rattle.wasm_dts.specs.declared.imports.Import.{Import}
use Rattle.wasm_dts.specs.declared.import_text.Origin.{Origin}

-- a module with the name of one import
abbrev pub first_use : Import → Origin
first_use i = record { «module» = i.module; names = i.name ∷ [] }

-- a module with one more name
abbrev pub with_name : Origin → List ℕ → Origin
with_name o name = record o { names = o.names ++ name ∷ [] }

-- an import comes to those of its module, or at the end where it is the first of it
unfoldable pub with_import : List Origin → Import → List Origin
with_import [] i = first_use i ∷ []
with_import (o ∷ os) i = if bytes_eq i.module o.module then with_name o i.name ∷ os else o ∷ with_import os i

-- each module with its place; the first one has the place n
unfoldable pub places_from : ℕ → List Origin → List (List ℕ × ℕ)
places_from n [] = []
places_from n (o ∷ os) = (o.module, n) ∷ places_from (n + 1) os
