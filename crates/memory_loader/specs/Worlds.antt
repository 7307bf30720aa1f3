-- The world of the answers that are kept.
use Rattle.std.specs.Prelude.{List, [], ◌∷◌, true, false, Option, option_map}
use Rattle.url.specs.Parts.{Parts}
use Rattle.source_io.specs.Answers.{answer_for, listed_or_read, purpose_of}
use Rattle.source_io.specs.Resolvers.{no_jsx}
use Rattle.source_io.specs.declared.types.TheConstants.{DEFAULT_MAX_REDIRECTS}
use Rattle.source_io.specs.declared.types.Answer.{Answer}
use Rattle.source_io.specs.declared.types.Purpose.{Purpose}
use Rattle.source_io.specs.declared.types.Purpose.TheVariants.{LoadUse, EnsureUse, LoadReload, EnsureReload, LoadOnly}
use Rattle.source_io.specs.declared.types.Question.{Question}
use Rattle.source_io.specs.declared.types.World.{World}

-- an answer to a load as a world lists it for a purpose
abbrev pub listing : Purpose → Parts × Answer → Parts × Purpose × Answer
listing p kept = (kept.0, p, answer_for p kept.1)

-- these answers, each listed for every purpose
abbrev pub listings : List (Parts × Answer) → List (Parts × Purpose × Answer)
listings [] = []
listings (e ∷ kept) =
    listing LoadUse e
    ∷ listing EnsureUse e
    ∷ listing LoadReload e
    ∷ listing EnsureReload e
    ∷ listing LoadOnly e
    ∷ listings kept

-- the answer to a question by the one that is kept at its specifier
abbrev pub kept_or_read : Question → Option Answer → Answer
kept_or_read q kept = listed_or_read true q.specifier (purpose_of q) (option_map (answer_for (purpose_of q)) kept)

-- the world that lists these answers, and nothing else; it judges no sum
abbrev pub answers_world : List (Parts × Answer) → World
answers_world kept = record {
  answers = listings kept;
  infos = [];
  resolutions = [];
  types = [];
  jsx = no_jsx;
  cache_info = [];
  tree = [];
  remote_sums = [];
  package_sums = [];
  max_redirects = DEFAULT_MAX_REDIRECTS;
  verifies = false;
  reads_data = true;
}
