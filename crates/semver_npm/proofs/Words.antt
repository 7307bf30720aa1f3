-- How a loop over a word's bytes follows the word's length.
use Rattle.std.proofs.Common.{◌≡◌, ◌<◌, ℕ, ◌+◌, List, length, drop, refl, arith, slice_index, true, false}
use Rattle.std.proofs.lemmas.List.{drop_more}
use Rattle.semver_npm.specs.Reader.{ends_word, word_length}

-- a byte of the word at place i
pub word-step : (xs : List ℕ) (i : ℕ) → i < length xs → ends_word (slice_index xs i) ≡ false → word_length (drop i xs) ≡ 1 + word_length (drop (i + 1) xs)
unfolding word_length
word-step xs i lt d = rw (drop_more xs i 0 lt, d) (omega arith)

-- a space or a bar at place i
pub word-stop : (xs : List ℕ) (i : ℕ) → i < length xs → ends_word (slice_index xs i) ≡ true → word_length (drop i xs) ≡ 0
unfolding word_length
word-stop xs i lt d = rw (drop_more xs i 0 lt, d) refl
