use Rattle.std.proofs.Common.{◌≡◌, ◌++◌, map, drop, option_map, string_bytes}
use Rattle.calls_program.specs.Calls.{specifiers_of}
use Rattle.calls_program.proofs.call.specifiers_of.Given as goal

-- what is read so far, and what is left to read, are the whole
abbrev pub invariant-loop-word : goal.invariant-loop-word
invariant-loop-word l =
    specifiers_of (map (λ w. string_bytes w) l.words)
    ≡ option_map (λ ss. l.specifiers ++ ss) (specifiers_of (map (λ w. string_bytes w) (drop l.word-index l.words)))
