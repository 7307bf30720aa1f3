-- What the loader tells.
use Rattle.std.specs.Prelude.{◌≡◌, ℕ, List, Option, option_map, Some, Result}
use Rattle.std.specs.Option.{option_or}
use Rattle.url.specs.Parts.{Parts}
use Rattle.spec_base.specs.declared.refusal.Refusal.{Refusal}
use Rattle.source_io.specs.Answers.{answer_for, listed_answer}
use Rattle.source_io.specs.Calls.{answered_at}
use Rattle.source_io.specs.Tickets.{IsAnswered}
use Rattle.source_io.specs.declared.types.Answer.{Answer}
use Rattle.source_io.specs.declared.types.LoadResponse.{LoadResponse}
use Rattle.source_io.specs.declared.types.Purpose.{Purpose}
use Rattle.source_io.specs.declared.types.Question.{Question}
use Rattle.source_io.specs.declared.types.World.{World}
use Rattle.memory_loader.specs.declared.memory_loader.MemoryLoader.{MemoryLoader}
use Rattle.memory_loader.specs.declared.invalid_specifier.InvalidSpecifier.{InvalidSpecifier}
use Rattle.spec_base.specs.Refusal.{AnswersBy}
use Rattle.memory_loader.specs.Sources.{GivenSource, KeyedSource, with_source, with_response}
use Rattle.memory_loader.specs.Worlds.{answers_world}
use Rattle.memory_loader.specs.Latest.{given_at, last_at}

-- the answers of its sources, each at its key
abbrev pub answers_in : MemoryLoader → List (Parts × Answer)
answers_in l = l.answers

-- the world that it answers by
abbrev pub loader_world : MemoryLoader → World
loader_world l = answers_world (answers_in l)

abbrev pub world_told : MemoryLoader → Option World
world_told l = Some (loader_world l)

-- the listed answer for a purpose at a specifier
abbrev pub listed_in : MemoryLoader → Purpose → Parts → Option Answer
listed_in l p s = listed_answer (loader_world l).answers s p

-- its answers with that of one more source, and with a response of the key's own name
abbrev pub source_added : MemoryLoader → List ℕ → GivenSource → Result (List (Parts × Answer)) InvalidSpecifier
source_added l key source = with_source (answers_in l) key source

abbrev pub response_added : MemoryLoader → List ℕ → (Parts → LoadResponse) → Result (List (Parts × Answer)) InvalidSpecifier
response_added l key respond = with_response (answers_in l) key respond

-- a call leaves the expected answers or is refused as expected, unless there was no memory
abbrev pub LeavesAnswers : {T : Type 0} → MemoryLoader → Result T (Refusal InvalidSpecifier) → Result (List (Parts × Answer)) InvalidSpecifier → Type 0
LeavesAnswers l result expected = AnswersBy (λ _. answers_in l) result expected

-- for every purpose the answer of the last of these sources is listed at each specifier
abbrev pub ListsLast : List KeyedSource → MemoryLoader → Type 0
ListsLast given l = (p : Purpose) (s : Parts) → listed_in l p s ≡ option_map (answer_for p) (last_at s given)

-- for every purpose the answer of one more source is listed at its key, and at every other specifier what was
abbrev pub ListsLater : List ℕ → GivenSource → MemoryLoader → MemoryLoader → Type 0
ListsLater key source old new = (p : Purpose) (s : Parts) → listed_in new p s ≡ option_or (option_map (answer_for p) (given_at s key source)) (listed_in old p s)

-- its open questions under their tickets
abbrev pub open_in : MemoryLoader → List (ℕ × Question)
open_in l = l.unanswered.items

-- how many questions were put to it
abbrev pub asked_of : MemoryLoader → ℕ
asked_of l = l.asked

-- what its next call answers: the first open ticket, with the answer to its question
abbrev pub answer_in : MemoryLoader → Option (ℕ × Answer)
answer_in l = answered_at (loader_world l) (open_in l) 0

-- an open ticket was taken out and answered by the world
abbrev pub IsAnsweredIn : MemoryLoader → MemoryLoader → ℕ × Answer → Type 0
IsAnsweredIn old new answer = IsAnswered (world_told old) (open_in old) (open_in new) answer.0 answer.1
