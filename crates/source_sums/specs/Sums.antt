-- The sums of sources: what they are, whether a source has one, and which are known.
use Rattle.std.specs.Prelude.{ℕ, List, Result, Ok, Err, ⊤, bytes_eq, if◌then◌else◌}
use Rattle.std.specs.FinMap.{FinMap, from_entries}
use Rattle.std.specs.HashMap.{HashMap}
use Rattle.hex.specs.Hex.{encode_lower}
use Rattle.sha2.specs.Sha256.{sha256}
use Rattle.url.specs.Parts.{Parts}
use Rattle.spec_base.specs.Shown.{text_cmp}
use Rattle.spec_base.specs.Specifier.{by_text}
use Rattle.spec_base.specs.declared.checksum_error.ChecksumIntegrityError.{ChecksumIntegrityError}

-- the sum of a source: SHA-256 (FIPS 180-4) in lower-case hex
abbrev pub sum_of : List ℕ → List ℕ
sum_of source = encode_lower (sha256 source)

-- whether a source has the sum that is known of it, and both sums where it hasn't
abbrev pub checked : List ℕ → List ℕ → Result ⊤ ChecksumIntegrityError
checked known source =
    if bytes_eq (sum_of source) known then Ok tt else Err (record { actual = sum_of source; expected = known })

-- the sums that are known of sources, by the texts of their specifiers
abbrev pub KnownSums : Type 0
KnownSums = FinMap text_cmp (List ℕ)

-- the sums that a hash map has
abbrev pub sums_in : {S : Type 0} → HashMap Parts (List ℕ) S → KnownSums
sums_in map = from_entries (by_text map.entries)
