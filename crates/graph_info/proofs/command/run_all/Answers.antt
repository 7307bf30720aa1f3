use Rattle.std.proofs.Common.{map}
use Rattle.std.specs.Prelude.{string_bytes}
use Rattle.graph_info.proofs.Finishes.{completes_with, completes_without}
use Rattle.graph_info.proofs.Words.{text_with, words_with}
use Rattle.graph_info.proofs.command.run_all.Goals as goal

pub returns-in-Some-clause-words : goal.returns-in-Some-clause-words
returns-in-Some-clause-words g c = words_with (map (λ w. string_bytes w) c.args.words.now) c.in-Some.workers c.in-Some.ensures c.run_pooled.result c.run_pooled.ensures.words

pub returns-in-Some-clause-text : goal.returns-in-Some-clause-text
returns-in-Some-clause-text g c =
    text_with (map (λ w. string_bytes w) c.args.words.now) c.in-Some.workers c.in-Some.ensures (g.K.ByteSink.written c.args.sink.now) (g.K.ByteSink.written c.run_pooled.new.sink)
    c.run_pooled.new.graph c.run_pooled.result c.run_pooled.ensures.text

pub returns-in-Some-clause-completes : goal.returns-in-Some-clause-completes
returns-in-Some-clause-completes g c = completes_with (g.S.ByteSource.left c.args.source.now) _ _ (map (λ w. string_bytes w) c.args.words.now) c.run_pooled.result c.run_pooled.ensures.completes

pub returns-in-None-clause-completes : goal.returns-in-None-clause-completes
returns-in-None-clause-completes g c = completes_without (g.S.ByteSource.left c.args.source.now) _ _ (map (λ w. string_bytes w) c.args.words.now) c.run.result c.in-None.ensures c.run.ensures.completes
