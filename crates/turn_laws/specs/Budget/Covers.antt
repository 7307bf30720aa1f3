-- Finite lists that hold all that a call reaches.
use Rattle.std.specs.Prelude.{◌≡◌, ℕ, ◌+◌, false, List, length, Contains, Some, None, if◌then◌else◌, true}
use Rattle.url.specs.Parts.{Parts}
use Rattle.spec_base.specs.Specifier.{specifier_text}
use Rattle.graph_turns.specs.Promise.Told.{Told}
use Rattle.source_io.specs.declared.types.Purpose.{Purpose}
use Rattle.module_slots.specs.declared.load.Load.{Load}
use Rattle.module_slots.specs.declared.load.LoadContext.{LoadContext}
use Rattle.graph_core.specs.Graph.{new_graph, redirect_at}
use Rattle.graph_core.specs.declared.graph.ModuleGraph.{ModuleGraph}
use Rattle.graph_turns.specs.declared.unresolved_input.LeftOver.{LeftOver}
use Rattle.graph_turns.specs.Promise.Input.{EnteredGraph, Given}
use Rattle.graph_turns.specs.Promise.Reached.{IsEdge, IsRedirected, IsSame, as_root, hop_within, in_package}
use Rattle.slot_making.specs.declared.source.Source.{Source}
use Rattle.semver_npm.specs.declared.package.PackageNv.{PackageNv}
use Rattle.graph_turns.specs.Promise.Contents.{content_of}
use Rattle.graph_turns.specs.declared.later_content.LaterContent.{LaterContent}
use Rattle.graph_turns.specs.Promise.Taken.{Found, Onward, CountsFor, HasModuleName, Job, PutQuestion, question_of, again_question_of, content_question_of, package_question_of, version_question_of, probe_question_of, asks_again, first_to, is_asked, IsAsked, NamesVersion}
use Rattle.graph_turns.specs.declared.question_of.Asked.{Asked}
use Rattle.semver_npm.specs.declared.package.PackageReq.{PackageReq}
use Rattle.semver_npm.specs.declared.reference.PackageReqReference.{PackageReqReference}
use Rattle.source_io.specs.declared.types.CacheSetting.TheVariants.{Reload}
use Rattle.graph_turns.specs.Promise.Runs.{InEachRun, left_of, may_begin_again}
use Rattle.graph_turns.specs.Promise.Cached.{FitsUnyanked}
use Rattle.graph_turns.specs.Promise.Packages.{Fits, IsExport, IsLookedFor}
use Rattle.graph_turns.specs.Promise.Versions.{is_stored}
use Rattle.graph_turns.specs.declared.registry.RegistryFile.TheVariants.{Package, Version}

-- the list holds what the call loads, and all that follows from its pairs
pub record IsClosed (told : Told) (given : EnteredGraph) (pairs : List (Parts × LoadContext)) : Type 0 where
  pub first : (load : Load) → Contains given.loads load → Contains pairs (load.specifier, load.context)
  pub known : (s n : Parts) (c : LoadContext) → Contains pairs (s, c) → redirect_at given.graph s ≡ Some n → Contains pairs (n, c)
  pub named : (s t n : Parts) (c e : LoadContext) → Contains pairs (s, c) → Contains pairs (t, e) → IsSame s t → IsRedirected told given t e n → Contains pairs (n, c)
  pub exported : (s n : Parts) (c : LoadContext) (nv : PackageNv) → Contains pairs (s, c) → IsExport told given s nv n → Contains pairs (n, in_package (Some nv) c)
  pub hopped : (s t n : Parts) (c e : LoadContext) → Contains pairs (s, c) → Contains pairs (t, e) → IsSame s t → (asked : Asked) → CountsFor told t e asked (Onward n) → asked.held ≡ None → Contains pairs (n, hop_within told.world c)
  pub edge : (s : Parts) (c : LoadContext) (load : Load) → Contains pairs (s, c) → IsEdge told given.graph.kind s c load → Contains pairs (load.specifier, load.context)
  pub marked : (s t n : Parts) (c d : LoadContext) → Contains pairs (t, d) → Contains pairs (s, c) → c.is_root ≡ true → HasModuleName told s c n → IsSame n t → Contains pairs (t, as_root d)

-- a question as it is counted: the text of its specifier, its purpose and its job
abbrev pub Counted : Type 0
Counted = List ℕ × Purpose × Job

abbrev pub counted : PutQuestion → Counted
counted q = (specifier_text q.specifier, q.purpose, q.job)

-- the questions about a pair are in a list: the first one, a second one where the first answer refuses it for its sum, one about its
-- content where that comes later, and one about the file of the version that its URL names, unless a given store has that file
pub record HasQuestionsOf (told : Told) (questions : List Counted) (s : Parts) (c : LoadContext) : Type 0 where
  pub first : (asked : Asked) → IsAsked told s c asked → Contains questions (counted (question_of s c asked))
  pub again : (asked : Asked) → IsAsked told s c asked → asks_again asked (first_to told.world told.known asked s c) ≡ true → Contains questions (counted (again_question_of s c))
  pub content : (asked : Asked) (source : Source) (l : LaterContent) → CountsFor told s c asked (Found source) → content_of s c asked source.info ≡ Some l → Contains questions (counted (content_question_of s))
  pub version : (nv : PackageNv) → NamesVersion told s c nv → is_stored told.known.store (Version nv) ≡ false → Contains questions (counted (version_question_of told.metadata told.registry nv))

-- the questions about a `jsr:` specifier are in a list: those about the file of its package, and one about the file of each version that
-- fits, but of files that a given store has; and where cached versions are preferred, one in the cache about each that fits and isn't withdrawn
pub record HasPackageQuestions (told : Told) (given : EnteredGraph) (questions : List Counted) (req : PackageReq) : Type 0 where
  pub file : is_stored told.known.store (Package req.name) ≡ false → Contains questions (counted (package_question_of told.metadata told.registry req.name))
  pub again : told.asks_again ≡ true → Contains questions (counted (package_question_of Reload told.registry req.name))
  pub version : (nv : PackageNv) → Fits told given req nv → is_stored told.known.store (Version nv) ≡ false → Contains questions (counted (version_question_of told.metadata told.registry nv))
  pub probe : told.known.flags.prefers_cached_jsr ≡ true → (nv : PackageNv) → FitsUnyanked told req nv → Contains questions (counted (probe_question_of told.registry nv))

-- the questions about pairs are in a list: those about modules, and about packages
pub record HasQuestions (told : Told) (given : EnteredGraph) (pairs : List (Parts × LoadContext)) (questions : List Counted) : Type 0 where
  pub modules : (s : Parts) (c : LoadContext) → Contains pairs (s, c) → is_asked told.known.flags s c ≡ true → HasQuestionsOf told questions s c
  pub packages : (s : Parts) (c : LoadContext) (r : PackageReqReference) → Contains pairs (s, c) → IsLookedFor told s r → HasPackageQuestions told given questions r.req

-- some closed list of pairs has the questions about them in this list
abbrev pub CoversFrom : Told → EnteredGraph → List Counted → Type 0
CoversFrom told given questions = (pairs : List (Parts × LoadContext)) × IsClosed told given pairs × HasQuestions told given pairs questions

-- those of each run of a build of what is given over a graph
abbrev pub CoversRuns : Told → ModuleGraph → LeftOver → List Counted → Type 0
CoversRuns told g given questions = InEachRun told g given (λ t entry. CoversFrom t entry questions)

-- into the empty graph
abbrev pub Covers : Told → Given → List Counted → Type 0
Covers told given questions = CoversRuns told (new_graph given.kind) (left_of given) questions

-- as many questions as a covered build puts at most: those in a list, and where it may begin once more, as many again
abbrev pub enough : ModuleGraph → LeftOver → List Counted → ℕ
enough g given questions = if may_begin_again g given then length questions + length questions else length questions
