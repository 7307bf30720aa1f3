-- the findings that were added, and those of the specifiers that are left, make all
use Rattle.std.proofs.Common.{◌≡◌, ◌++◌, map, drop}
use Rattle.std.specs.Borrow.{Bor}
use Rattle.std.specs.Prelude.{flat_map}
use Rattle.url.specs.Parts.{Parts}
use Rattle.spec_base.specs.Specifier.{specifier_text}
use Rattle.graph_walk.specs.Options.{how}
use Rattle.import_policy.specs.Breaches.{breaches_from}
use Rattle.import_policy.specs.Traced.{traced, traces}
use Rattle.import_policy.proofs.findings.findings_of.Given as goal

abbrev pub invariant-loop-specifier : goal.invariant-loop-specifier
invariant-loop-specifier g l =
    flat_map (λ (u : Bor Parts). traces l.search (breaches_from l.graph (how g.C.CheckJsResolver.resolves l.options) l.rules (specifier_text u.now))) l.specifiers ≡ map traced l.findings.items ++ flat_map (λ (u : Bor Parts). traces l.search (breaches_from l.graph (how g.C.CheckJsResolver.resolves l.options) l.rules (specifier_text u.now))) (drop l.specifier-index l.specifiers)
