use Rattle.std.proofs.Common.{◌∙◌, ◌+◌, ◌++◌, map, drop, option_map, string_bytes, ap, sym, rules}
use Rattle.calls_program.specs.Calls.{specifiers_of}
use Rattle.calls_program.proofs.Words.{word_read_at}
use Rattle.calls_program.proofs.call.specifiers_of.Goals as goal

pub loop-word-preserved : goal.loop-word-preserved
loop-word-preserved c =
    c.loop-word.invariant
    ∙ word_read_at (λ w. string_bytes w) c.args.words.now c.loop-word.word-index c.word-item.result c.in_ok-read_url.field-0 c.loop-word.specifiers (search rules) (search rules)
    ∙ ap (λ read. option_map (λ ss. read ++ ss) (specifiers_of (map (λ w. string_bytes w) (drop (c.loop-word.word-index + 1) c.args.words.now)))) (sym c.in_ok-push.ensures.ok)
