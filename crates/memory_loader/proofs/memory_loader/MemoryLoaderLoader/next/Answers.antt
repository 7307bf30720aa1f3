use Rattle.std.proofs.Common.{◌≡◌, ◌∙◌, true, ap}
use Rattle.std.specs.Map.{lookup}
use Rattle.spec_base.specs.Specifier.{same_specifier}
use Rattle.source_io.specs.Answers.{answer_of}
use Rattle.memory_loader.specs.Loaders.{loader_world}
use Rattle.memory_loader.specs.Worlds.{kept_or_read}
use Rattle.memory_loader.proofs.KeptLemmas.{kept_answer}
use Rattle.memory_loader.proofs.NextLemmas.{first_answer, first_taken}
use Rattle.memory_loader.proofs.memory_loader.MemoryLoaderLoader.next.Goals as goal

-- the first question's answer is the world's
by_world : (c : goal.Joined-pop_front) → c.in_ok-answer.answer ≡ answer_of (loader_world c.args.self.now) c.index.result.now.1
by_world c =
    let q = c.index.result.now.1 in
    c.in_ok-answer.ensures
    ∙ ap (kept_or_read q) (c.get-kept.ensures.value ∙ ap (lookup (same_specifier q.specifier)) c.as_map.ensures)
    ∙ kept_answer c.args.self.now.answers q

pub returns-clause-first : goal.returns-clause-first
returns-clause-first c =
    first_answer (loader_world c.args.self.now) c.args.self.now.unanswered.items c.index.result.now c.in_ok-answer.answer c.requires c.index.ensures (by_world c)

pub returns-clause-answered : goal.returns-clause-answered
returns-clause-answered c =
    first_taken (loader_world c.args.self.now) c.args.self.now.unanswered.items c.pop_front.new.self.items c.index.result.now c.in_ok-answer.answer c.requires c.index.ensures (by_world c) c.pop_front.ensures.rest
