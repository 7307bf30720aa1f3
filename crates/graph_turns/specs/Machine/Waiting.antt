-- What waits beside loads: `jsr:` specifiers for a pass over the registry, and notes of what packages depend on.
use Rattle.std.specs.Prelude.{ℕ, false, List, [], ◌∷◌, ◌++◌, map, fold, Option, Some, None, option_map}
use Rattle.url.specs.Parts.{Parts}
use Rattle.spec_base.specs.Options.{by_option}
use Rattle.semver_npm.specs.declared.package.PackageNv.{PackageNv}
use Rattle.semver_npm.specs.declared.reference.PackageReqReference.{PackageReqReference}
use Rattle.pkg_records.specs.Kept.{with_dependency}
use Rattle.registry_urls.specs.Meaning.{RegistryMeaning}
use Rattle.graph_core.specs.declared.graph.ModuleGraph.{ModuleGraph}
use Rattle.module_slots.specs.declared.load.Load.{Load}
use Rattle.module_slots.specs.declared.load.LoadContext.{LoadContext}
use Rattle.graph_turns.specs.declared.dependencies.Note.{Note}
use Rattle.graph_turns.specs.declared.state.State.{State}
use Rattle.graph_turns.specs.declared.waiting.WaitingPackage.{WaitingPackage}
use Rattle.graph_turns.specs.Promise.Packages.{dependency_of}

-- ---- specifiers that wait

abbrev pub waiting_at : Parts → PackageReqReference → LoadContext → WaitingPackage
waiting_at s r c = record { specifier = s; req = r.req; sub_path = r.sub_path; context = c }

-- the load of a specifier that waits
abbrev pub load_of : WaitingPackage → Load
load_of item = record { specifier = item.specifier; context = item.context; is_type = false }

-- a specifier waits for the next pass
abbrev pub waiting_with : State → WaitingPackage → State
waiting_with s item = record s { waiting = s.waiting ++ item ∷ [] }

-- ---- notes

-- what a referrer depends on by a load, where a referrer names it
abbrev pub note_of : Parts → LoadContext → Option Note
note_of s c = by_option c.range None (λ range. option_map (λ d. record { referrer = range.specifier; dependency = d }) (dependency_of s))

abbrev pub with_note : State → Option Note → State
with_note s None = s
with_note s (Some note) = record s { notes = s.notes ++ note ∷ [] }

-- a load of a specifier is noted
abbrev pub noting : State → Parts → LoadContext → State
noting s at c = with_note s (note_of at c)

-- the package that holds a referrer, if any, gets what it depends on
abbrev pub with_noted : RegistryMeaning → ModuleGraph → Note → ModuleGraph
with_noted registry g note = by_option (registry.nv_of note.referrer) g (λ nv. record g { packages = with_dependency g.packages nv note.dependency })

-- packages get the dependencies that were noted, in order
abbrev pub notes_added : RegistryMeaning → State → State
notes_added registry s = record s { graph = fold (with_noted registry) s.graph s.notes; notes = [] }
