-- The lines of a walk over a graph.
use Rattle.std.specs.Prelude.{ℕ, List, [], ◌∷◌, ◌++◌, true, false, codes, flat_map}
use Rattle.url.specs.Parts.{Parts, serialize}
use Rattle.graph_core.specs.declared.graph.ModuleGraph.{ModuleGraph}
use Rattle.graph_dependencies.specs.declared.graph_kind.GraphKind.{GraphKind}
use Rattle.graph_walk.specs.Options.{How}
use Rattle.graph_walk.specs.Order.{Entry, walk_order, texts}
use Rattle.graph_walk.specs.Order.Entry.{OfModule, OfError, Redirected}

-- a word, a space, a specifier and a line break
abbrev pub line_of : List ℕ → List ℕ → List ℕ
line_of word text = word ++ 32 ∷ text ++ 10 ∷ []

-- the line of a word and a specifier
abbrev pub marked_line : List ℕ → Parts → List ℕ
marked_line word s = line_of word (serialize s)

-- the line of a redirect
abbrev pub redirect_line : Parts → Parts → List ℕ
redirect_line s t = line_of (codes "redirect") (serialize s ++ 32 ∷ serialize t)

-- the line of an entry at a specifier of this text
abbrev pub entry_line : List ℕ × Entry → List ℕ
entry_line (s, OfModule m) = line_of (codes "module") s
entry_line (s, OfError e) = line_of (codes "error") s
entry_line (s, Redirected t) = line_of (codes "redirect") (s ++ 32 ∷ serialize t)

-- the walk over a part of the modules, with dynamic imports and all JavaScript checked
abbrev pub walk_how : GraphKind → How
walk_how kind = record { kind = kind; follow_dynamic = true; prefers_fast_check = false; checks = λ _. true }

-- the lines of its entries in order, from the graph's roots
unfoldable pub walk_lines : GraphKind → ModuleGraph → List ℕ
walk_lines kind g = flat_map entry_line (walk_order g (walk_how kind) (texts g.roots))
