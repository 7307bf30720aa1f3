-- The rules of the two queues.
use Rattle.std.specs.Prelude.{◌≡◌, ◌⊎◌, ◌<◌, ℕ, List, [], ◌∷◌, length, slice_index_or, Contains, Option, None, IfSome, ⊤}
use mathlib.Core.Option.{some}
use lib.ListN.{get_elem?}
use Rattle.source_io.specs.Answers.{answer_of}
use Rattle.source_io.specs.declared.types.Answer.{Answer}
use Rattle.source_io.specs.declared.types.Question.{Question}
use Rattle.source_io.specs.declared.types.World.{World}
use Rattle.graph_pool.specs.declared.line.Came.{Came}
use Rattle.graph_pool.specs.declared.line.Came.TheVariants.{Answered, Unanswered, NoMemory, Ended}
use Rattle.graph_pool.specs.declared.queues.Job.{Job}
use Rattle.graph_pool.specs.declared.queues.Reply.{Reply}
use Rattle.graph_pool.specs.declared.queues.View.{View}
use Rattle.graph_pool.specs.declared.queues.View.TheVariants.{New, Told, Spent}

-- a pass knows this world, or nothing more
abbrev pub Knows : Option World → View → Type 0
Knows w New = ⊥
Knows w (Told v) = v ≡ w
Knows w Spent = ⊤

-- the world that a pass knows
abbrev pub told_in : View → Option World
told_in New = None
told_in (Told w) = w
told_in Spent = None

-- an answer is the world's to a question, where a world is told
abbrev pub IsAnswerOf : Option World → Question → Answer → Type 0
IsAnswerOf w q a = IfSome w (λ told. a ≡ answer_of told q)

-- the answer of a reply, where it has one, is the world's to the question that it carries
abbrev pub Fits : Option World → Reply → Type 0
Fits w r = IfSome r.answer (IsAnswerOf w r.job.question)

-- a reply fits the world that a pass knows
abbrev pub FitsView : View → Reply → Type 0
FitsView New r = ⊤
FitsView (Told w) r = Fits w r
FitsView Spent r = ⊤

module _ {T : Type 0} (F : Option World → T → Type 0) where
  -- all passes know one world but for spent ones, and each queued message fits it
  pub record IsKept (items : List T) (views : List View) : Type 0 where
    pub world : Option World
    pub known : (port : ℕ) (v : View) → get_elem? views port ≡ some v → Knows world v
    pub fit : (x : T) → Contains items x → F world x

  -- nothing was done yet, or the queue is kept
  abbrev pub Kept : List T → List View → Type 0
  Kept items views = ((items ≡ []) × (views ≡ New ∷ [])) ⊎ IsKept items views

abbrev pub JobsKept : List Job → List View → Type 0
JobsKept = Kept (λ w job. ⊤)

abbrev pub RepliesKept : List Reply → List View → Type 0
RepliesKept = Kept Fits

-- a question is the open one at a place
abbrev pub IsAt : List (ℕ × Question) → ℕ → Question → Type 0
IsAt open_tickets place q = (place < length open_tickets) × ((d : ℕ × Question) → (slice_index_or open_tickets place d).1 ≡ q)

-- an answer is the world's to the open question at a place
abbrev pub IsAnswerAt : Option World → List (ℕ × Question) → ℕ → Answer → Type 0
IsAnswerAt w open_tickets place a = (d : ℕ × Question) → IsAnswerOf w (slice_index_or open_tickets place d).1 a

-- what comes is the world's answer to an open question, or no answer
abbrev pub CameFor : Option World → List (ℕ × Question) → Came → Type 0
CameFor w open_tickets (Answered place a) = (place < length open_tickets) × IsAnswerAt w open_tickets place a
CameFor w open_tickets (Unanswered ticket) = ⊤
CameFor w open_tickets NoMemory = ⊤
CameFor w open_tickets Ended = ⊤
