use Rattle.std.proofs.Common.{ap, ◌∙◌, arith, rules, tests, drop, length-drop}
use Rattle.std.proofs.lemmas.Iterator.{YieldsList-from_slice}
use Rattle.std.proofs.lemmas.Iterator.Consumers.{count_from_yields_List}
use Rattle.std.proofs.lemmas.Iterator.Search.{YieldsList-from_take_while}
use Rattle.std.proofs.lemmas.List.{take_all}
use Rattle.std.proofs.lemmas.List.Folds.{length-prefix_len}
use Rattle.std.specs.Cmp.Lexicographic.{slice_cmp}
use Rattle.std.specs.Ordering.{is_lt, nat_cmp}
use Rattle.url.specs.Parts.{Parts, serialize}
use Rattle.world_answers.proofs.known_specifiers.from_key.Goals as goal

pub returns : goal.returns
returns g c =
    let entries = c.args.entries.now in
    let before = λ (e : Parts × _). is_lt (slice_cmp nat_cmp (serialize e.0) c.args.key.now) in
    let count = count_from_yields_List c.take_while.result _ c.count-before.ensures.ran (YieldsList-from_take_while _ before (YieldsList-from_slice entries (cc)) c.take_while.ensures.closure c.take_while.ensures.done (λ x b q k. search (rules, tests))) ∙ length-prefix_len before entries in
    let len = length-drop c.count-before.result entries in
    take_all _ (drop c.count-before.result entries) (omega (arith, len)) ∙ ap (λ n. drop n entries) count
