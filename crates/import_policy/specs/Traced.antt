-- Findings beside the paths that a search found.
use Rattle.std.specs.Prelude.{◌≡◌, ◌++◌, List, map, reverse}
use Rattle.graph_walk.specs.Lists.{Text}
use Rattle.graph_walk.specs.Order.{texts}
use Rattle.import_policy.specs.Breaches.{Breach}
use Rattle.import_policy.specs.Reports.{breach_of}
use Rattle.import_policy.specs.Routes.{Route, way_to}
use Rattle.import_policy.specs.declared.finding.PolicyFinding.{PolicyFinding}

-- a breach, and a path to its specifier
pub record Trace : Type 0 where
  pub breach : Breach
  pub path : List Text

-- what a finding tells
abbrev pub traced : PolicyFinding → Trace
traced f = record { breach = breach_of f; path = texts f.path }

-- a breach with the path that was found
abbrev pub trace : List Route → Breach → Trace
trace found b = record { breach = b; path = reverse (way_to found b.from) }

abbrev pub traces : List Route → List Breach → List Trace
traces found bs = map (trace found) bs

-- findings with these traces were added
abbrev pub Adds : List PolicyFinding → List PolicyFinding → List Trace → Type 0
Adds before after ts = map traced after ≡ map traced before ++ ts
