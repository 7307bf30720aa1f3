-- Which edges break which rules.
use Rattle.std.specs.Prelude.{ℕ, suc, Bool, true, false, ◌&&◌, List, [], ◌∷◌, ◌++◌, flat_map, bytes_eq, codes, Option, Some, None, if◌then◌else◌}
use Rattle.graph_core.specs.declared.graph.ModuleGraph.{ModuleGraph}
use Rattle.graph_walk.specs.Lists.{Text}
use Rattle.graph_walk.specs.Options.{How}
use Rattle.import_policy.specs.Edges.{Edge, edges}
use Rattle.import_policy.specs.SchemesAndHosts.{SchemeAndHost, scheme_and_host_in, scheme_and_host_of}
use Rattle.import_policy.specs.declared.edge_kind.EdgeKind.{EdgeKind}
use Rattle.import_policy.specs.declared.edge_kind.EdgeKind.TheVariants.{Code, Types, TypeImport, Redirect}
use Rattle.import_policy.specs.declared.rule.PolicyRule.{PolicyRule}

-- the word for a kind of edge
abbrev pub kind_text : EdgeKind → Text
kind_text Code = codes "code"
kind_text Types = codes "types"
kind_text TypeImport = codes "type"
kind_text Redirect = codes "redirect"

-- ---- rules

-- a part that isn't given fits all
abbrev pub fits_text : Option Text → Text → Bool
fits_text None t = true
fits_text (Some given) t = bytes_eq given t

-- a host that is given fits only a URL with that host
abbrev pub fits_host : Option Text → Option Text → Bool
fits_host None host = true
fits_host (Some given) None = false
fits_host (Some given) (Some host) = bytes_eq given host

abbrev pub fits_kind : Option EdgeKind → EdgeKind → Bool
fits_kind None kind = true
fits_kind (Some given) kind = bytes_eq (kind_text given) (kind_text kind)

-- the scheme and the host that a rule gives, if any, are those of a URL
abbrev pub fits_scheme_and_host : Option Text → Option Text → SchemeAndHost → Bool
fits_scheme_and_host scheme host url = fits_text scheme url.scheme && fits_host host url.host

-- the given parts of a rule all equal those of an edge of a specifier
abbrev pub fits : PolicyRule → Text → Edge → Bool
fits rule from e =
    fits_scheme_and_host rule.from_scheme rule.from_host (scheme_and_host_in from)
    && (fits_scheme_and_host rule.to_scheme rule.to_host (scheme_and_host_of e.to)
    && fits_kind rule.kind e.kind)

-- ---- breaches

-- an edge of a specifier, and the place of a rule that fits it
pub record Breach : Type 0 where
  pub rule : ℕ
  pub from : Text
  pub edge : Edge

-- those of an edge by the rules from a place on
abbrev pub edge_breaches : ℕ → List PolicyRule → Text → Edge → List Breach
edge_breaches place [] from e = []
edge_breaches place (rule ∷ rules) from e =
    (if fits rule from e then record { rule = place; from = from; edge = e } ∷ [] else []) ++ edge_breaches (suc place) rules from e

-- those of a specifier: by its edges in order, and of each by the rules in order
abbrev pub breaches_from : ModuleGraph → How → List PolicyRule → Text → List Breach
breaches_from g o rules from = flat_map (edge_breaches 0 rules from) (edges g o from)

-- those of some specifiers in order
abbrev pub breaches : ModuleGraph → How → List PolicyRule → List Text → List Breach
breaches g o rules specifiers = flat_map (breaches_from g o rules) specifiers
