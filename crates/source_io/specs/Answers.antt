-- What a world answers.
use Rattle.std.specs.Prelude.{ℕ, ◌==◌, nat_lt, length, option_map, Bool, true, false, ◌&&◌, List, [], ◌∷◌, codes, Option, Some, None, Result, Ok, Err, ⊤, if◌then◌else◌}
use Rattle.url.specs.Parts.{Parts}
use Rattle.spec_base.specs.Options.{by_option}
use Rattle.media_types.specs.Media.{is_data}
use Rattle.spec_base.specs.Specifier.{same_specifier}
use Rattle.spec_base.specs.declared.checksum_error.ChecksumIntegrityError.{ChecksumIntegrityError}
use Rattle.spec_base.specs.declared.load_error.LoadError.{LoadError}
use Rattle.spec_base.specs.declared.load_error.LoadError.TheVariants.{ChecksumIntegrity}
use Rattle.source_sums.specs.Sums.{checked}
use Rattle.source_io.specs.Data.{data_answer}
use Rattle.source_io.specs.declared.types.Answer.{Answer}
use Rattle.source_io.specs.declared.types.Answer.TheVariants.{Load, Ensure}
use Rattle.source_io.specs.declared.types.CacheInfo.{CacheInfo}
use Rattle.source_io.specs.declared.types.CacheResponse.{CacheResponse}
use Rattle.source_io.specs.declared.types.CacheResponse.TheVariants.{Cached, Redirect as CachedElsewhere}
use Rattle.source_io.specs.declared.types.CacheSetting.{CacheSetting}
use Rattle.source_io.specs.declared.types.CacheSetting.TheVariants.{Only, Use, Reload}
use Rattle.source_io.specs.declared.types.LoadResponse.{LoadResponse}
use Rattle.source_io.specs.declared.types.LoadResponse.TheVariants.{External, Redirect, Module as Sourced}
use Rattle.source_io.specs.declared.types.Question.{Question}
use Rattle.source_io.specs.declared.types.Purpose.{Purpose}
use Rattle.source_io.specs.declared.types.Purpose.TheVariants.{LoadUse, EnsureUse, LoadReload, EnsureReload, LoadOnly}
use Rattle.source_io.specs.declared.types.World.{World}

-- ---- purposes

-- the place of a purpose among all
abbrev pub purpose_place : Purpose → ℕ
purpose_place LoadUse = 0
purpose_place EnsureUse = 1
purpose_place LoadReload = 2
purpose_place EnsureReload = 3
purpose_place LoadOnly = 4

-- two purposes are the same one
abbrev pub same_purpose : Purpose → Purpose → Bool
same_purpose p q = purpose_place p == purpose_place q

-- a purpose is to keep a module at hand
abbrev pub is_ensure : Purpose → Bool
is_ensure LoadUse = false
is_ensure EnsureUse = true
is_ensure LoadReload = false
is_ensure EnsureReload = true
is_ensure LoadOnly = false

-- what is at hand where a load finds this
abbrev pub cached : LoadResponse → CacheResponse
cached (Sourced content mtime name headers) = Cached
cached (External name) = Cached
cached (Redirect name) = CachedElsewhere name

-- what keeping a module at hand answers where a load answers this
abbrev pub ensured_result : Result (Option LoadResponse) LoadError → Result (Option CacheResponse) LoadError
ensured_result (Ok response) = Ok (option_map cached response)
ensured_result (Err e) = Err e

-- the answer to a question that keeps at hand, by that to a load: a redirect stays one, any other module is at hand, and
-- what is missing or fails stays so
abbrev pub ensured : Answer → Answer
ensured (Load result) = Ensure (ensured_result result)
ensured (Ensure result) = Ensure result

-- an answer to a load as one for a purpose
abbrev pub answer_for : Purpose → Answer → Answer
answer_for p answer = if is_ensure p then ensured answer else answer

-- ---- answers

-- an entry lists an answer for a purpose of a specifier
abbrev pub lists_for : Purpose → Parts × Purpose × Answer → Parts → Bool
lists_for p e s = same_specifier e.0 s && same_purpose e.1 p

-- the first listed answer of a specifier and a purpose
unfoldable pub listed_answer : List (Parts × Purpose × Answer) → Parts → Purpose → Option Answer
listed_answer [] s p = None
listed_answer (e ∷ es) s p = if lists_for p e s then Some e.2 else listed_answer es s p

-- what a load answers where none is listed: what a `data:` URL holds, if these are read, and else missing
abbrev pub unlisted : Bool → Parts → Answer
unlisted reads_data s = if reads_data && is_data s then data_answer s else Load (Ok None)

-- the listed answer; where none is listed, what a load answers then, as an answer for the purpose
abbrev pub listed_or_read : Bool → Parts → Purpose → Option Answer → Answer
listed_or_read reads_data s p listed = by_option listed (answer_for p (unlisted reads_data s)) (λ answer. answer)

-- the world's answer for a specifier and a purpose, whatever sum a question has
unfoldable pub answer_to : World → Parts → Purpose → Answer
answer_to w s p = listed_or_read w.reads_data s p (listed_answer w.answers s p)

-- ---- questions

-- the name of a setting
abbrev pub setting_name : CacheSetting → List ℕ
setting_name Only = codes "only"
setting_name Use = codes "use"
setting_name Reload = codes "reload"

-- what a question is for, by whether it is about an asset and by its setting; no asset is asked for from a cache alone
abbrev pub purpose_by : Bool → CacheSetting → Purpose
purpose_by true Only = EnsureUse
purpose_by true Use = EnsureUse
purpose_by true Reload = EnsureReload
purpose_by false Only = LoadOnly
purpose_by false Use = LoadUse
purpose_by false Reload = LoadReload

-- what a question is for
abbrev pub purpose_of : Question → Purpose
purpose_of q = purpose_by q.asset q.options.cache_setting

-- ---- sums

-- an answer that has passed a test of its source, or the failure of that test
abbrev pub or_integrity : Answer → Result ⊤ ChecksumIntegrityError → Answer
or_integrity answer (Ok u) = answer
or_integrity answer (Err e) = Load (Err (ChecksumIntegrity e))

-- an answer to a question with a sum: a module with another one is refused, and nothing else is tested
abbrev pub tested : List ℕ → Answer → Answer
tested sum (Load (Ok (Some (Sourced content mtime name headers)))) = or_integrity (Load (Ok (Some (Sourced content mtime name headers)))) (checked sum content)
tested sum (Load (Ok (Some (External name)))) = Load (Ok (Some (External name)))
tested sum (Load (Ok (Some (Redirect name)))) = Load (Ok (Some (Redirect name)))
tested sum (Load (Ok None)) = Load (Ok None)
tested sum (Load (Err e)) = Load (Err e)
tested sum (Ensure result) = Ensure result

-- an answer is tested where the world verifies and the question has a sum
abbrev pub judged : Bool → Option (List ℕ) → Answer → Answer
judged false sum answer = answer
judged true None answer = answer
judged true (Some sum) answer = tested sum answer

-- the world's answer to a question as it is put
abbrev pub answer_of : World → Question → Answer
answer_of w q = judged w.verifies q.options.maybe_checksum (answer_to w q.specifier (purpose_of q))

-- ---- cached copies

-- no path is known
abbrev pub no_info : CacheInfo
no_info = record { local = None }

-- an entry tells of the copy of a module
abbrev pub tells_of : Parts × CacheInfo → Parts → Bool
tells_of e s = same_specifier e.0 s

-- the first entry's that is listed for a module
unfoldable pub listed_info : List (Parts × CacheInfo) → Parts → Option CacheInfo
listed_info [] s = None
listed_info (e ∷ es) s = if same_specifier e.0 s then Some e.1 else listed_info es s

-- what the world lists of the copy of a module
abbrev pub cache_info_of : World → Parts → Option CacheInfo
cache_info_of w s = listed_info w.cache_info s

-- cached copies are told of where the world lists any
abbrev pub lists_cache_info : World → Bool
lists_cache_info w = nat_lt 0 (length w.cache_info)
