-- What is asked about a pair of a specifier and a context, the answer that counts, and the name that it gives.
use Rattle.std.specs.Prelude.{◌≡◌, ℕ, Bool, true, false, not, ◌&&◌, ◌||◌, is_some, if◌then◌else◌, List, [], ◌++◌, Option, Some, None, Ok, Err, bytes_eq, codes}
use Rattle.url.specs.Parts.{Parts}
use Rattle.spec_base.specs.Options.{by_option}
use Rattle.spec_base.specs.Specifier.{specifier_text}
use Rattle.spec_base.specs.declared.load_error.LoadError.{LoadError}
use Rattle.spec_base.specs.declared.load_error.LoadError.TheVariants.{ChecksumIntegrity, Other}
use Rattle.source_io.specs.declared.types.Answer.{Answer}
use Rattle.source_io.specs.declared.types.Answer.TheVariants.{Load, Ensure}
use Rattle.source_io.specs.declared.types.CacheResponse.{CacheResponse}
use Rattle.source_io.specs.declared.types.CacheResponse.TheVariants.{Cached, Redirect as CacheRedirect}
use Rattle.source_io.specs.declared.types.LoadResponse.{LoadResponse}
use Rattle.source_io.specs.declared.types.LoadResponse.TheVariants.{External, Redirect, Module}
use Rattle.source_io.specs.declared.types.Purpose.{Purpose}
use Rattle.source_io.specs.declared.types.CacheSetting.{CacheSetting}
use Rattle.source_io.specs.declared.types.CacheSetting.TheVariants.{Only, Use, Reload}
use Rattle.source_io.specs.declared.types.Question.{Question}
use Rattle.source_io.specs.declared.types.World.{World}
use Rattle.source_io.specs.Answers.{answer_of, purpose_by}
use Rattle.module_info.specs.declared.types.ModuleInfo.{ModuleInfo}
use Rattle.module_slots.specs.declared.load.LoadContext.{LoadContext}
use Rattle.slot_making.specs.declared.source.Source.{Source}
use Rattle.graph_errors.specs.declared.jsr_error.JsrLoadError.{JsrLoadError}
use Rattle.registry_files.specs.Kept.{held_in}
use Rattle.registry_urls.specs.Meaning.{RegistryMeaning}
use Rattle.registry_urls.specs.Packages.{package_file_url, version_file_url}
use Rattle.semver_npm.specs.declared.package.PackageNv.{PackageNv}
use Rattle.graph_turns.specs.declared.manner.Manner.{Manner}
use Rattle.graph_turns.specs.declared.manner.Manner.TheVariants.{Asks, Unread}
use Rattle.graph_turns.specs.Machine.Known.{Known}
use Rattle.graph_turns.specs.Machine.Manners.{asked_outside, manner_of}
use Rattle.graph_turns.specs.Promise.Forbidden.{forbidden}
use Rattle.graph_turns.specs.Promise.Packages.{is_npm, is_package}
use Rattle.graph_turns.specs.Promise.Told.{Told}
use Rattle.graph_turns.specs.Promise.Versions.{told_files}
use Rattle.graph_turns.specs.declared.question_of.Asked.{Asked}
use Rattle.graph_turns.specs.declared.flags.Flags.{Flags}

-- ---- questions

-- what a question is for: a module, its content alone, which comes later, the file of a version or of a package, or that of a version in a cache
pub data Job : Type 0 where
  ForModule : Job
  ForContent : Job
  ForVersion : PackageNv → Job
  ForPackage : List ℕ → Job
  ForProbe : PackageNv → Job

-- a question, as it is counted
pub record PutQuestion : Type 0 where
  pub specifier : Parts
  pub purpose : Purpose
  pub job : Job

-- the info that stands in the place of a module's source; a module that is kept at hand alone isn't read
abbrev pub info_for : LoadContext → Asked → Option ModuleInfo
info_for c asked = by_option asked.info None (λ i. if c.asset then None else Some i)

-- the setting of a first question: where an info stands a source is taken that is there already
abbrev pub first_setting : LoadContext → Asked → CacheSetting
first_setting c asked = by_option (info_for c asked) Use (λ i. Only)

-- the question about a pair: one to keep it at hand for an asset
abbrev pub question_of : Parts → LoadContext → Asked → PutQuestion
question_of s c asked = record { specifier = s; purpose = purpose_by c.asset (first_setting c asked); job = ForModule }

-- the same of a pair outside of packages
abbrev pub plain_question : Parts → LoadContext → PutQuestion
plain_question s c = record { specifier = s; purpose = purpose_by c.asset Use; job = ForModule }

-- the same once more under Reload, after a refusal for its sum
abbrev pub again_question_of : Parts → LoadContext → PutQuestion
again_question_of s c = record { specifier = s; purpose = purpose_by c.asset Reload; job = ForModule }

-- the question about the content of a module alone
abbrev pub content_question_of : Parts → PutQuestion
content_question_of s = record { specifier = s; purpose = purpose_by false Use; job = ForContent }

-- the question about the file of a version, and that about the file of a package, under a setting
abbrev pub version_question_of : CacheSetting → RegistryMeaning → PackageNv → PutQuestion
version_question_of setting registry nv = record { specifier = version_file_url registry.url nv; purpose = purpose_by false setting; job = ForVersion nv }

abbrev pub package_question_of : CacheSetting → RegistryMeaning → List ℕ → PutQuestion
package_question_of setting registry name = record { specifier = package_file_url registry.url name; purpose = purpose_by false setting; job = ForPackage name }

-- that about the file of a version in a cache
abbrev pub probe_question_of : RegistryMeaning → PackageNv → PutQuestion
probe_question_of registry nv = record { specifier = version_file_url registry.url nv; purpose = purpose_by false Only; job = ForProbe nv }

-- a question as it is put: with the flag of the load, that of the build, and the sum under which the pair is asked
abbrev pub put_asked : CacheSetting → Known → Asked → Parts → LoadContext → Question
put_asked setting known asked s c = record {
  specifier = s;
  asset = c.asset;
  options = record {
    in_dynamic_branch = c.is_dynamic;
    was_dynamic_root = known.flags.is_dynamic;
    cache_setting = setting;
    maybe_checksum = asked.checksum;
  };
}

-- the same of a pair outside of packages
abbrev pub put_under : CacheSetting → Known → Parts → LoadContext → Question
put_under setting known s c = put_asked setting known (asked_outside known.sums s) s c

-- a module that is built into Node.js is never asked for
abbrev pub is_built_in : Parts → Bool
is_built_in s = bytes_eq s.scheme (codes "node")

-- an `npm:` specifier waits for the end, where an npm resolver is there
abbrev pub waits_for_npm : Flags → Parts → Bool
waits_for_npm f s = f.resolves_npm && is_npm s

-- a specifier is never asked for as a module: it is built in, or it names a package, or ought to, or it waits for the end
abbrev pub is_unasked : Flags → Parts → Bool
is_unasked f s = is_built_in s || (is_package s || waits_for_npm f s)

-- a pair is asked for, unless it is an asset that is refused
abbrev pub is_asked : Flags → Parts → LoadContext → Bool
is_asked f s c = not (is_unasked f s) && not (is_some (forbidden f s c))

-- ---- answers

-- what an answer says: the source of a module, a module outside of the graph, that it is at hand, another specifier to go on
-- at, that there is nothing, or a failure
pub data Taken : Type 0 where
  Found : Source → Taken
  Outside : Parts → Taken
  AtHand : Taken
  Onward : Parts → Taken
  Absent : Taken
  Refused : LoadError → Taken

-- a redirect is no answer to a question with a sum
abbrev pub redirect_under : Option (List ℕ) → Parts → Taken
redirect_under None name = Onward name
redirect_under (Some sum) name =
    Refused (ChecksumIntegrity (record { actual = codes "Redirect to " ++ specifier_text name; expected = sum }))

-- what a response to a question with this sum says
abbrev pub taken_response : Option (List ℕ) → LoadResponse → Taken
taken_response sum (Module content mtime name headers) =
    Found (record { name = name; content = content; headers = headers; mtime = mtime; info = None })
taken_response sum (External name) = Outside name
taken_response sum (Redirect name) = redirect_under sum name

-- what a response about an asset says
abbrev pub taken_cached : Option (List ℕ) → CacheResponse → Taken
taken_cached sum Cached = AtHand
taken_cached sum (CacheRedirect name) = redirect_under sum name

-- what an answer to a question with this sum says
abbrev pub taken_form : Option (List ℕ) → Answer → Taken
taken_form sum (Load (Ok (Some response))) = taken_response sum response
taken_form sum (Load (Ok None)) = Absent
taken_form sum (Load (Err e)) = Refused e
taken_form sum (Ensure (Ok (Some response))) = taken_cached sum response
taken_form sum (Ensure (Ok None)) = Absent
taken_form sum (Ensure (Err e)) = Refused e

-- a failure is one of a sum
abbrev pub is_of_sum : LoadError → Bool
is_of_sum (ChecksumIntegrity e) = true
is_of_sum (Other fault) = false

-- an answer refuses a module for its sum
abbrev pub refuses_sum : Answer → Bool
refuses_sum (Load (Ok found)) = false
refuses_sum (Load (Err e)) = is_of_sum e
refuses_sum (Ensure (Ok found)) = false
refuses_sum (Ensure (Err e)) = is_of_sum e

-- an answer gives a module, or has it at hand
abbrev pub gives_module : Answer → Bool
gives_module (Load (Ok (Some (Module content mtime name headers)))) = true
gives_module (Load (Ok (Some (External name)))) = false
gives_module (Load (Ok (Some (Redirect name)))) = false
gives_module (Load (Ok None)) = false
gives_module (Load (Err e)) = false
gives_module (Ensure (Ok (Some Cached))) = true
gives_module (Ensure (Ok (Some (CacheRedirect name)))) = false
gives_module (Ensure (Ok None)) = false
gives_module (Ensure (Err e)) = false

-- of a refusal and the answer to the second question: a module counts, else the refusal stands
abbrev pub counted_of : Answer → Answer → Answer
counted_of first second = if gives_module second then second else first

-- of two answers, the second one of which is asked for where the first one refuses for a sum
abbrev pub counted_by : Answer → Answer → Bool → Answer
counted_by first second true = counted_of first second
counted_by first second false = first

-- a module whose info stands is taken by that, with no content, where there is none
abbrev pub or_info : Parts → Option ModuleInfo → Taken → Taken
or_info s (Some info) Absent = Found (record { name = s; content = []; headers = None; mtime = None; info = Some info })
or_info s info taken = taken

-- the sum under which a redirect is no answer; in a package no redirect is
abbrev pub redirect_sum : Asked → Option (List ℕ)
redirect_sum asked = by_option asked.held asked.checksum (λ nv. None)

-- an answer that refuses a module for its sum is asked for once more, but for a file of a package
abbrev pub asks_again : Asked → Answer → Bool
asks_again asked first = by_option asked.held (refuses_sum first) (λ nv. false)

-- the answer to the question about a pair, and the one to the question that follows a refusal
abbrev pub first_to : World → Known → Asked → Parts → LoadContext → Answer
first_to w known asked s c = answer_of w (put_asked (first_setting c asked) known asked s c)

abbrev pub second_to : World → Known → Asked → Parts → LoadContext → Answer
second_to w known asked s c = answer_of w (put_asked Reload known asked s c)

-- the answer that counts for a pair
abbrev pub taken_answer : World → Known → Asked → Parts → LoadContext → Taken
taken_answer w known asked s c =
    or_info s (info_for c asked)
    (taken_form (redirect_sum asked) (counted_by (first_to w known asked s c) (second_to w known asked s c) (asks_again asked (first_to w known asked s c))))

-- how the turn of a pair goes, once each version file was asked about
abbrev pub told_manner : Told → Parts → LoadContext → Manner
told_manner told s c = manner_of told.known.sums told.registry (told_files told) s c

-- under what a pair is asked about: outside of packages, or in a version of one whose file is read
abbrev pub IsAsked : Told → Parts → LoadContext → Asked → Type 0
IsAsked told s c asked = told_manner told s c ≡ Asks asked

-- the URL of a pair names a version, and none came along in which it is: the version's file is asked about
pub record NamesVersion (told : Told) (s : Parts) (c : LoadContext) (nv : PackageNv) : Type 0 where
  pub alone : held_in (told_files told) s c.«package» ≡ None
  pub names : told.registry.nv_of s ≡ Some nv

-- the answer that counts for a pair, where one is asked for
pub record CountsFor (told : Told) (s : Parts) (c : LoadContext) (asked : Asked) (taken : Taken) : Type 0 where
  pub asked_for : is_asked told.known.flags s c ≡ true
  pub under : IsAsked told s c asked
  pub is : taken_answer told.world told.known asked s c ≡ taken

-- the name that an answer about a specifier gives; a redirect in a package has none
abbrev pub name_of : Parts → Asked → Taken → Option Parts
name_of s asked (Found source) = Some source.name
name_of s asked (Outside name) = Some name
name_of s asked AtHand = Some s
name_of s asked (Onward name) = by_option asked.held (Some name) (λ nv. None)
name_of s asked Absent = None
name_of s asked (Refused e) = None

-- the name of a module that an answer about a specifier gives
abbrev pub module_name_of : Parts → Taken → Option Parts
module_name_of s (Found source) = Some source.name
module_name_of s (Outside name) = Some name
module_name_of s AtHand = Some s
module_name_of s (Onward name) = None
module_name_of s Absent = None
module_name_of s (Refused e) = None

-- a pair has a name: that of its answer, or where its version lies whose file can't be read
pub data HasName (told : Told) (s : Parts) (c : LoadContext) : Parts → Type 0 where
  answered : {asked : Asked} {taken : Taken} {n : Parts} → CountsFor told s c asked taken → name_of s asked taken ≡ Some n → HasName told s c n
  unread : {n : Parts} {e : JsrLoadError} → is_asked told.known.flags s c ≡ true → told_manner told s c ≡ Unread n e → HasName told s c n

-- a pair has the name of a module
abbrev pub HasModuleName : Told → Parts → LoadContext → Parts → Type 0
HasModuleName told s c n = (asked : Asked) × (taken : Taken) × CountsFor told s c asked taken × (module_name_of s taken ≡ Some n)
