use Rattle.std.proofs.Common.{◌≡◌, ◌<◌, ◌^◌, drop}
use Rattle.generator_program.specs.Words.{digits_after}
use Rattle.generator_program.proofs.generator_words.digits_after.Given as goal

-- what is left decides, and the number stays one of 32 bits
abbrev pub invariant-loop-byte : goal.invariant-loop-byte
invariant-loop-byte l = (digits_after l.most l.number (drop l.byte-index l.digits) ≡ digits_after l.most l.before l.digits) × (l.number < 2 ^ 32)
