-- What a report holds.
use Rattle.std.specs.Prelude.{◌≡◌, ◌≤◌, true, false, List, length, map}
use Rattle.std.specs.List.Sorted.{IsSorted}
use Rattle.spec_base.specs.Shown.{text_cmp}
use Rattle.spec_base.specs.Specifier.{specifier_text}
use Rattle.graph_core.specs.declared.graph.ModuleGraph.{ModuleGraph}
use Rattle.graph_walk.specs.Closure.{Closure}
use Rattle.graph_walk.specs.Lists.{Text, Among, Distinct}
use Rattle.graph_walk.specs.Options.{How}
use Rattle.graph_walk.specs.Order.{texts}
use Rattle.import_policy.specs.Breaches.{Breach, breaches}
use Rattle.import_policy.specs.Paths.{IsPath}
use Rattle.import_policy.specs.declared.finding.PolicyFinding.{PolicyFinding}
use Rattle.import_policy.specs.declared.rule.PolicyRule.{PolicyRule}

-- the breach that a finding tells
abbrev pub breach_of : PolicyFinding → Breach
breach_of f = record { rule = f.rule; from = specifier_text f.from; edge = record { kind = f.kind; text = f.text; to = f.to } }

-- the specifiers that a walk comes to, in the order of their texts, each once
pub record IsClosureOf (g : ModuleGraph) (o : How) (roots : List Text) (specifiers : List Text) : Type 0 where
  pub within : (s : Text) → Among s specifiers → Closure g o roots s
  pub all : (s : Text) → Closure g o roots s → Among s specifiers
  pub order : IsSorted text_cmp specifiers
  pub once : Distinct specifiers

-- the findings are all breaches of the edges of what a walk comes to, each once, in the order of the specifier, then the
-- place of the edge, then the rule; each path leads to the specifier, and no path to it is shorter
pub record IsReport (g : ModuleGraph) (o : How) (roots : List Text) (rules : List PolicyRule) (findings : List PolicyFinding) : Type 0 where
  pub specifiers : List Text
  pub closure : IsClosureOf g o roots specifiers
  pub breaches : map breach_of findings ≡ breaches g o rules specifiers
  pub paths : (f : PolicyFinding) → Among f findings → IsPath g o roots (texts f.path) (specifier_text f.from)
  pub shortest : (f : PolicyFinding) → Among f findings → (p : List Text) → IsPath g o roots p (specifier_text f.from) → length f.path ≤ length p

-- how the walk goes over a whole graph: over its own kind and dynamic imports, where all JavaScript is checked
abbrev pub policy_how : ModuleGraph → How
policy_how g = record { kind = g.kind; follow_dynamic = true; prefers_fast_check = false; checks = λ _. true }
