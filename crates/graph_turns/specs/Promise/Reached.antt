-- The pairs of a specifier and a context that a call reaches.
use Rattle.std.specs.Prelude.{◌≡◌, ◌+◌, min, true, Contains, Option, Some, None}
use Rattle.url.specs.Parts.{Parts}
use Rattle.spec_base.specs.Specifier.{specifier_text}
use Rattle.semver_npm.specs.declared.package.PackageNv.{PackageNv}
use Rattle.source_io.specs.declared.types.World.{World}
use Rattle.module_slots.specs.declared.load.Load.{Load}
use Rattle.module_slots.specs.declared.load.LoadContext.{LoadContext}
use Rattle.module_slots.specs.declared.slot.Module.{Module}
use Rattle.module_slots.specs.declared.slot.ModuleSlot.TheVariants.{Module as Stands}
use Rattle.graph_dependencies.specs.declared.graph_kind.GraphKind.{GraphKind}
use Rattle.graph_core.specs.Edges.{loads_of}
use Rattle.graph_core.specs.Graph.{redirect_at}
use Rattle.slot_making.specs.Made.{made_slot}
use Rattle.slot_making.specs.declared.source.Source.{Source}
use Rattle.graph_turns.specs.Promise.Input.{EnteredGraph}
use Rattle.graph_turns.specs.Promise.Packages.{IsExport}
use Rattle.graph_turns.specs.Promise.Told.{Told, making_of}
use Rattle.graph_turns.specs.Promise.Taken.{Found, Onward, CountsFor, HasName, HasModuleName}
use Rattle.graph_turns.specs.declared.question_of.Asked.{Asked}

-- two specifiers with one text
abbrev pub IsSame : Parts → Parts → Type 0
IsSame s t = specifier_text s ≡ specifier_text t

-- one hop more, at most as many as the world allows
abbrev pub hop_within : World → LoadContext → LoadContext
hop_within w c = record c { hops = min (c.hops + 1) w.max_redirects }

-- the same context, of a root
abbrev pub as_root : LoadContext → LoadContext
as_root c = record c { is_root = true }

-- the context of the edges of a module that counts in a version of a package, or in none
abbrev pub in_package : Option PackageNv → LoadContext → LoadContext
in_package held c = record c { «package» = held }

-- the followed edges of the module that the answer about a pair makes
pub data IsEdge (told : Told) (kind : GraphKind) (s : Parts) (c : LoadContext) : Load → Type 0 where
  from : {asked : Asked} {source : Source} {m : Module} {load : Load} → CountsFor told s c asked (Found source) → made_slot (making_of told kind) source c ≡ Stands m → Contains (loads_of kind told.known.flags.skip_dynamic_deps m (in_package asked.held c)) load → IsEdge told kind s c load

-- a pair is redirected to a specifier: to its name, or as a `jsr:` specifier to an export
pub data IsRedirected (told : Told) (given : EnteredGraph) (s : Parts) (c : LoadContext) (n : Parts) : Type 0 where
  to_name : HasName told s c n → IsRedirected told given s c n
  to_export : {nv : PackageNv} → IsExport told given s nv n → IsRedirected told given s c n

-- the least relation that holds what the call loads, and with its pairs
pub data Reached (told : Told) (given : EnteredGraph) : Parts → LoadContext → Type 0 where
  first : {load : Load} → Contains given.loads load → Reached told given load.specifier load.context
  -- where a redirect that stood at entry leads, under the same context
  known : {s n : Parts} {c : LoadContext} → Reached told given s c → redirect_at given.graph s ≡ Some n → Reached told given n c
  -- where a specifier is redirected, under each context of it
  named : {s t n : Parts} {c e : LoadContext} → Reached told given s c → Reached told given t e → IsSame s t → IsRedirected told given t e n → Reached told given n c
  -- an export, in its version
  exported : {s n : Parts} {c : LoadContext} {nv : PackageNv} → Reached told given s c → IsExport told given s nv n → Reached told given n (in_package (Some nv) c)
  -- and where it is redirected, with one hop more
  hopped : {s t n : Parts} {c e : LoadContext} {asked : Asked} → Reached told given s c → Reached told given t e → IsSame s t → CountsFor told t e asked (Onward n) → asked.held ≡ None → Reached told given n (hop_within told.world c)
  -- the followed edges of the module that its answer makes
  edge : {s : Parts} {c : LoadContext} {load : Load} → Reached told given s c → IsEdge told given.graph.kind s c load → Reached told given load.specifier load.context
  -- a name of a module in the answer to a root counts as a root
  marked : {s t n : Parts} {c d : LoadContext} → Reached told given t d → Reached told given s c → c.is_root ≡ true → HasModuleName told s c n → IsSame n t → Reached told given t (as_root d)
