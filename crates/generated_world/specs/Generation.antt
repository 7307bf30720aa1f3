-- The modules of a generated world, one after the other.
use Rattle.std.specs.Prelude.{ℕ, zero, suc, ◌+◌, ◌%◌, nat_lt, List, [], ◌∷◌, ◌++◌, length, Ok, if◌then◌else◌}
use Rattle.module_info.specs.declared.types.DependencyDescriptor.{DependencyDescriptor}
use Rattle.generated_world.specs.declared.generation.Drawing.{Drawing}
use Rattle.generated_world.specs.declared.generation.Generation.{Generation}
use Rattle.generated_world.specs.Generator.{drawn, next_state}
use Rattle.generated_world.specs.Modules.{answers_of, import_at, info_of, name_of}

-- ---- the imports of a module

-- the next module of so many, if there is one
abbrev pub first_imports : ℕ → ℕ → List DependencyDescriptor
first_imports count number = if nat_lt (number + 1) count then import_at 0 (number + 1) ∷ [] else []

-- one more import is drawn, among so many modules
abbrev pub with_draw : ℕ → Drawing → Drawing
with_draw count d = record {
  imports = d.imports ++ import_at (length d.imports) (drawn (next_state d.state) % count) ∷ [];
  state = next_state d.state;
}

-- and so many more
unfoldable pub after_draws : ℕ → ℕ → Drawing → Drawing
after_draws count zero d = d
after_draws count (suc n) d = with_draw count (after_draws count n d)

-- the imports of the module of a number: the next one, and as many more as are drawn first, at most three
abbrev pub begun_at : ℕ → ℕ → ℕ → Drawing
begun_at count number state = record { imports = first_imports count number; state = next_state state }

abbrev pub drawing_of : ℕ → ℕ → ℕ → Drawing
drawing_of count number state = after_draws count (drawn (next_state state) % 4) (begun_at count number state)

-- ---- all modules

-- nothing is generated yet
abbrev pub begun : ℕ → Generation
begun start = record { answers = []; infos = []; state = start }

-- with the module of a number, of so many
abbrev pub with_module : ℕ → ℕ → Generation → Generation
with_module count number g =
    let d = drawing_of count number g.state in
    record {
      answers = g.answers ++ answers_of number;
      infos = g.infos ++ (name_of number, Ok (info_of d.imports)) ∷ [];
      state = d.state;
    }

-- with the first ones, of so many
unfoldable pub after_modules : ℕ → ℕ → Generation → Generation
after_modules count zero g = g
after_modules count (suc n) g = with_module count n (after_modules count n g)

-- with all
abbrev pub all_modules : ℕ → ℕ → Generation
all_modules start count = after_modules count count (begun start)
