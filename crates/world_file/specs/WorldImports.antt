-- The kind of graph that a world file asks for, and the imports that it configures.
use Rattle.std.specs.Prelude.{ℕ, List, [], ◌∷◌, codes, Some}
use Rattle.json_forms.specs.Form.{Form, text, specifier, list_of, choice, given, ◌>>=◌}
use Rattle.json_forms.specs.Member.{has_names, required, with_default, or_empty}
use Rattle.graph_dependencies.specs.declared.graph_kind.GraphKind.{GraphKind}
use Rattle.graph_dependencies.specs.declared.graph_kind.GraphKind.TheVariants as kind_is
use Rattle.graph_dependencies.specs.declared.referrer_imports.ReferrerImports.{ReferrerImports}

-- the names of the kinds of a graph
abbrev pub graph_kinds : List (List ℕ × GraphKind)
graph_kinds =
    (codes "all", kind_is.All)
    ∷ (codes "code", kind_is.CodeOnly)
    ∷ (codes "types", kind_is.TypesOnly)
    ∷ []

-- which part of its modules the graph holds; all of it, where nothing is said
abbrev pub kind_of : Form GraphKind
kind_of d = with_default kind_is.All (choice graph_kinds) (codes "kind") d

-- the texts that a configuration imports, and its specifier
unfoldable pub referrer_imports : Form ReferrerImports
referrer_imports d = do
  known ← given (has_names (codes "referrer" ∷ codes "imports" ∷ []) d)
  referrer ← required specifier (codes "referrer") d
  imports ← required (list_of text) (codes "imports") d
  Some (record { referrer = referrer; imports = imports })

-- the imports of all configurations
abbrev pub imports_of : Form (List ReferrerImports)
imports_of d = or_empty referrer_imports (codes "imports") d
