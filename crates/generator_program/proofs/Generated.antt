-- What the input of a generated world is, as far as a run goes by it.
use Rattle.std.proofs.Common.{◌≡◌, ℕ, [], refl}
use Rattle.graph_dependencies.specs.declared.graph_kind.GraphKind.TheVariants.{All}
use Rattle.generated_world.specs.Generated.{generated}

pub kind_is : (start count : ℕ) → (generated start count).kind ≡ All
unfolding generated
kind_is start count = refl

pub none_fails : (start count : ℕ) → (generated start count).fail_next ≡ []
unfolding generated
none_fails start count = refl
