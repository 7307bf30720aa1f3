-- What each status of a run says of the words, the input, the graph and the text.
use Rattle.std.specs.Prelude.{◌≡◌, ℕ, ◌≤◌, ⊤, Bool, true, false, List, [], ◌∷◌, ◌++◌, length, bytes_eq, Option, Some, None, IfSome, IsSome, Ok, Err}
use Rattle.spec_base.specs.Options.{by_option}
use Rattle.npm_resolver.specs.declared.types.NpmTable.{NpmTable}
use Rattle.registry_urls.specs.Meaning.{registry_at}
use Rattle.source_io.specs.Calls.{lists_within}
use Rattle.source_io.specs.Answers.{lists_cache_info}
use Rattle.cache_filling.specs.Noted.{Noted}
use Rattle.graph_errors.specs.declared.errors.ModuleGraphError.{ModuleGraphError}
use Rattle.graph_core.specs.declared.graph.ModuleGraph.{ModuleGraph}
use Rattle.graph_dependencies.specs.declared.graph_kind.GraphKind.TheVariants.{All}
use Rattle.graph_core.specs.Graph.{new_graph}
use Rattle.graph_walk.specs.Walk.{validity}
use Rattle.turn_laws.specs.Promise.Complete.{IsComplete}
use Rattle.turn_laws.specs.Budget.Covers.{Counted, Covers, enough}
use Rattle.graph_turns.specs.Promise.Input.{Given, given_to}
use Rattle.graph_turns.specs.Promise.Told.{Told, told_of}
use Rattle.graph_core.specs.Npm.{no_npm}
use Rattle.graph_turns.specs.Machine.Turns.{IsTurned, PutsOver, PutsWithin, begun, put_by}
use Rattle.graph_turns.specs.declared.state.State.{State}
use Rattle.world_file.specs.declared.input.Input.{Input}
use Rattle.program_phases.specs.Sums.{known_of, flags_in}
use Rattle.program_phases.specs.declared.status.Status.{Status}
use Rattle.program_phases.specs.declared.status.Status.TheVariants.{Valid, Invalid, Words, NotAWorld, ReadFault, WriteFault, Budget, LoaderFault, Memory, TooLong}
use Rattle.byte_io.specs.Reading.{ReadsAll, most_bytes}
use Rattle.world_file.specs.WorldFile.{world_of}
use Rattle.byte_io.specs.Writing.{IsCutShort}
use Rattle.graph_turns.specs.Promise.Runs.{AreStaticFirst, IsStaticFirst, left_of}
use Rattle.world_file.specs.WorldRegistry.{IsLimit}
use Rattle.graph_turns.specs.Promise.Choices.{IsMade}
use Rattle.version_dates.specs.declared.newest_date.NewestDependencyDateOptions.{NewestDependencyDateOptions}
use Rattle.byte_io.specs.declared.reading.ReadRefusal.TheVariants as refusal

-- a word that is the only one
abbrev pub is_alone : List ℕ → List (List ℕ) → Bool
is_alone word [] = false
is_alone word (w ∷ []) = bytes_eq w word
is_alone word (w ∷ v ∷ ws) = false

-- ---- the input

-- what each status says of the bytes that the source had, and of what it has left
abbrev pub SaysOfInput : List ℕ → Option (List ℕ) → Status → Type 0
SaysOfInput bytes left Words = left ≡ Some bytes
SaysOfInput bytes left NotAWorld = (left ≡ Some []) × (world_of bytes ≡ None) × (length bytes ≤ most_bytes)
SaysOfInput bytes left ReadFault = ReadsAll bytes left (Err refusal.Failed)
SaysOfInput bytes left TooLong = ReadsAll bytes left (Err refusal.TooLong)
SaysOfInput bytes left Memory = ReadsAll bytes left (Err refusal.Memory)
SaysOfInput bytes left Valid = (left ≡ Some []) × IsSome (world_of bytes) × (length bytes ≤ most_bytes)
SaysOfInput bytes left Invalid = (left ≡ Some []) × IsSome (world_of bytes) × (length bytes ≤ most_bytes)
SaysOfInput bytes left WriteFault = (left ≡ Some []) × IsSome (world_of bytes) × (length bytes ≤ most_bytes)
SaysOfInput bytes left Budget = (left ≡ Some []) × IsSome (world_of bytes) × (length bytes ≤ most_bytes)
SaysOfInput bytes left LoaderFault = (left ≡ Some []) × IsSome (world_of bytes) × (length bytes ≤ most_bytes)

-- ---- the graph

-- what the graph of an input is to begin with
abbrev pub given_in : Input → Given
given_in input = given_to input.kind input.roots input.imports

-- what npm answers by an input; without a table all is resolved, but then no `npm:` specifier waits
abbrev pub npm_of_input : Input → NpmTable
npm_of_input input = by_option input.npm no_npm (λ table. table)

-- what an input tells a build, in which some versions are too new
abbrev pub told_of_input : Input → NewestDependencyDateOptions → Told
told_of_input input newest = told_of input.world (registry_at input.registry.provider.url) newest (npm_of_input input) (known_of input)

-- where the turns of a build over an input begin
abbrev pub begun_by : Input → NewestDependencyDateOptions → State
begun_by input newest = begun (told_of_input input newest) (given_in input)

-- a graph of which something holds but for what the world of an input lists of cached copies, which is noted at its modules where it
-- lists any
abbrev pub ButCopies : Input → (ModuleGraph → Type 0) → ModuleGraph → Type 0
ButCopies input P g = Noted (lists_cache_info input.world) (Some input.world) P g

-- the graph promise, but for what is noted of cached copies: complete; one run made it, or a second one where a requirement that the first one reaches has no choice, in which each
-- slot is what the world's answers give an import leading to it, and each requirement leads to a version that it picks, by the input's
-- limit; where static imports come before dynamic ones, what a static import gives where static imports lead to it; and it is the graph of
-- the turns, which know no order of arrival, and of which none puts more questions than may be put
pub record KeepsPromise (input : Input) (g : ModuleGraph) : Type 0 where
  pub newest : NewestDependencyDateOptions
  pub limit : IsLimit input.registry.newest newest
  pub complete : ButCopies input (IsComplete (Some (told_of_input input newest).resolving) (flags_in input) (given_in input)) g
  pub explained : ButCopies input (IsMade (told_of_input input newest) (given_in input)) g
  pub static_first : AreStaticFirst (told_of_input input newest) (given_in input) → ButCopies input (IsStaticFirst (told_of_input input newest) (given_in input)) g
  pub turned : ButCopies input (IsTurned (told_of_input input newest) (given_in input)) g
  pub afforded : PutsWithin (told_of_input input newest) input.kind (begun_by input newest) input.max_loads

-- the graph keeps the promise over an input, which is the world of the bytes where these are told
pub record IsBuilt (bytes : Option (List ℕ)) (g : ModuleGraph) : Type 0 where
  pub input : Input
  pub promise : KeepsPromise input g
  pub input_is : IfSome bytes (λ bs. world_of bs ≡ Some input)

-- as many questions as are enough for an input by a list that covers it
abbrev pub enough_for : Input → List Counted → ℕ
enough_for input questions = enough (new_graph input.kind) (left_of (given_in input)) questions

-- some number of turns puts more questions than may be put, and no list covers the input for which as many are enough
pub record IsTooLarge (input : Input) : Type 0 where
  pub newest : NewestDependencyDateOptions
  pub limit : IsLimit input.registry.newest newest
  pub over : PutsOver (told_of_input input newest) input.kind (begun_by input newest) input.max_loads
  pub uncovered : (questions : List Counted) → Covers (told_of_input input newest) (given_in input) questions → enough_for input questions ≤ input.max_loads → ⊥

-- some call that fails has a number up to that of the questions that may be put
abbrev pub FailsWithin : Input → Type 0
FailsWithin input = lists_within input.fail_next input.max_loads ≡ true

-- and up to that of the questions that some number of turns puts
pub record FailsInTurns (input : Input) : Type 0 where
  pub newest : NewestDependencyDateOptions
  pub limit : IsLimit input.registry.newest newest
  pub count : ℕ
  pub last : ℕ
  pub fails : lists_within input.fail_next last ≡ true
  pub within : last ≤ input.max_loads
  pub put : last ≤ put_by (told_of_input input newest) input.kind count (begun_by input newest)

-- the empty graph of the input's kind is left, for a cause in the input, which is the world of the bytes where
-- these are told
pub record IsUnbuilt (Cause : Input → Type 0) (bytes : Option (List ℕ)) (g : ModuleGraph) : Type 0 where
  pub input : Input
  pub empty : g ≡ new_graph input.kind
  pub cause : Cause input
  pub input_is : IfSome bytes (λ bs. world_of bs ≡ Some input)

-- the graph where memory fails: the empty one of the kind `All` before there is an input, the empty one of the input's
-- kind before its graph is built, and then the graph that was built
pub data IsAtHand (bytes : Option (List ℕ)) (g : ModuleGraph) : Type 0 where
  unread : g ≡ new_graph All → IsAtHand bytes g
  unbuilt : IsUnbuilt (λ input. ⊤) bytes g → IsAtHand bytes g
  built : IsBuilt bytes g → IsAtHand bytes g

-- what each status says of the graph; one that isn't built is empty
abbrev pub SaysOfGraph : Option (List ℕ) → ModuleGraph → Status → Type 0
SaysOfGraph bytes g Valid = IsBuilt bytes g × (validity g ≡ Ok tt)
SaysOfGraph bytes g Invalid = IsBuilt bytes g × (e : ModuleGraphError) × (validity g ≡ Err e)
SaysOfGraph bytes g WriteFault = IsBuilt bytes g
SaysOfGraph bytes g Budget = IsUnbuilt IsTooLarge bytes g
SaysOfGraph bytes g LoaderFault = IsUnbuilt FailsInTurns bytes g
SaysOfGraph bytes g Memory = IsAtHand bytes g
SaysOfGraph bytes g Words = g ≡ new_graph All
SaysOfGraph bytes g NotAWorld = g ≡ new_graph All
SaysOfGraph bytes g ReadFault = g ≡ new_graph All
SaysOfGraph bytes g TooLong = g ≡ new_graph All

-- ---- the text

-- what each status says of what is written after what was, where this is the text of the graph
abbrev pub SaysOfText : List ℕ → Option (List ℕ) → List ℕ → Status → Type 0
SaysOfText done written text Valid = written ≡ Some (done ++ text)
SaysOfText done written text Invalid = written ≡ Some (done ++ text)
SaysOfText done written text WriteFault = IsCutShort done written text
SaysOfText done written text Memory = written ≡ Some done
SaysOfText done written text Words = written ≡ Some done
SaysOfText done written text NotAWorld = written ≡ Some done
SaysOfText done written text ReadFault = written ≡ Some done
SaysOfText done written text Budget = written ≡ Some done
SaysOfText done written text LoaderFault = written ≡ Some done
SaysOfText done written text TooLong = written ≡ Some done
