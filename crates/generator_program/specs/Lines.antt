-- What is written of the graph of a generated world.
use Rattle.std.specs.Prelude.{ℕ, List, [], ◌∷◌, ◌++◌, codes, decimal}
use Rattle.std.specs.FinMap as finite
use Rattle.source_sums.specs.Sums.{sum_of}
use Rattle.graph_core.specs.declared.graph.ModuleGraph.{ModuleGraph}
use Rattle.graph_printing.specs.Printed.{printed}
use Rattle.generator_program.specs.Counts.{counts_of}

-- a line of a number, and one of a text
abbrev pub number_line : List ℕ → ℕ → List ℕ
number_line word n = word ++ 32 ∷ decimal n ++ 10 ∷ []

abbrev pub text_line : List ℕ → List ℕ → List ℕ
text_line word text = word ++ 32 ∷ text ++ 10 ∷ []

-- the lines of these numbers and a sum
abbrev pub lines_by : ℕ → ℕ → ℕ → List ℕ → List ℕ
lines_by modules redirects edges sum =
    number_line (codes "modules") modules
    ++ number_line (codes "redirects") redirects
    ++ number_line (codes "edges") edges
    ++ text_line (codes "sha256") sum

-- the numbers of modules, redirects and dependencies of a graph, and the SHA-256 sum of the text that `build` writes of it
unfoldable pub generator_lines : ModuleGraph → List ℕ
generator_lines g = lines_by (counts_of g).modules (finite.len g.redirects) (counts_of g).edges (sum_of (printed g))
