-- Freed entries, by texts.
use Rattle.std.proofs.Common.{◌≡◌, List, [], ◌∷◌, refl, ap, map}
use Rattle.std.specs.Prelude.{string_bytes}
use Rattle.std.specs.declared.string.String.{String}
use Rattle.spec_base.specs.Shown.{shown}
use Rattle.graph_core.specs.Pruned.{freed_dependency, freed_named}
use Rattle.graph_dependencies.specs.declared.dependency.Dependency.{Dependency}

pub freed_shown : {A : Type 0} (es : List (String A × Dependency)) → shown (map (λ e. (e.0, freed_dependency e.1)) es) ≡ map freed_named (shown es)
freed_shown [] = refl
freed_shown (e ∷ es) = ap (λ xs. freed_named (string_bytes e.0, e.1) ∷ xs) (freed_shown es)
