-- The texts that `format!` makes of paths.
use Rattle.std.proofs.Common.{◌≡◌, ℕ, List, [], ◌∷◌, ◌++◌, append_assoc}
use Rattle.std.specs.Prelude.{codes}

pub regrouped : (name version rest : List ℕ) → name ++ 47 ∷ (version ++ rest) ≡ name ++ codes "/" ++ version ++ rest
regrouped name version rest = simp append_assoc

pub regrouped_name : (scope name : List ℕ) → scope ++ 47 ∷ name ≡ scope ++ codes "/" ++ name
regrouped_name scope name = simp append_assoc

-- the same parts, in other groups
pub version_last : (name version : List ℕ) → (name ++ 47 ∷ version) ++ 47 ∷ [] ≡ name ++ codes "/" ++ version ++ codes "/"
version_last name version = simp append_assoc

pub part_by_part : (scope name version : List ℕ) → scope ++ codes "/" ++ name ++ codes "/" ++ version ++ codes "/" ≡ scope ++ 47 ∷ (name ++ 47 ∷ (version ++ 47 ∷ []))
part_by_part scope name version = simp append_assoc
