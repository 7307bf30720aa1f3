-- The answer that counts for a load, what its turn costs, and what the turn that stands says of the first load.
use Rattle.std.proofs.Common.{◌≡◌, ℕ, List, ◌∷◌, true, false, Option, None, Some, refl, sym, ap, ◌∙◌, subst}
use Rattle.std.specs.Prelude.{IfSome}
use Rattle.semver_npm.specs.declared.package.PackageNv.{PackageNv}
use Rattle.source_io.specs.declared.types.Answer.{Answer}
use Rattle.source_io.specs.declared.types.World.{World}
use Rattle.source_io.specs.Answers.{answer_of}
use Rattle.registry_urls.specs.Meaning.{RegistryMeaning}
use Rattle.registry_urls.specs.Packages.{version_file_url}
use Rattle.url.specs.Parts.{Parts}
use Rattle.module_slots.specs.declared.load.Load.{Load}
use Rattle.slot_making.specs.Made.{Making}
use Rattle.graph_turns.specs.declared.question_of.Asked.{Asked}
use Rattle.graph_turns.specs.declared.manner.Manner.TheVariants.{Asks as IsAskedAs, Reads as ReadsFirst}
use Rattle.graph_turns.specs.declared.outcome.Outcome.{Outcome}
use Rattle.graph_turns.specs.declared.state.State.{State}
use Rattle.graph_turns.specs.Machine.Known.{Known}
use Rattle.graph_turns.specs.Machine.Outcomes.{Suits, outcome_of}
use Rattle.graph_turns.specs.Machine.Entering.{IsFinal}
use Rattle.graph_turns.specs.Machine.Turns.{manner_in}
use Rattle.graph_turns.specs.declared.registry.RegistryFile.{RegistryFile}
use Rattle.graph_turns.specs.declared.registry.RegistryFile.TheVariants.{Version}
use Rattle.graph_turns.specs.Promise.Versions.{is_stored}
use Rattle.graph_turns.specs.Promise.Taken.{asks_again, counted_by, counted_of, first_to, info_for, or_info, redirect_sum, second_to, taken_answer, taken_form}
use Rattle.open_loads.specs.declared.turn_stage.Stage.{Stage}
use Rattle.open_loads.specs.declared.turn_stage.Stage.TheVariants.{Idle, Asks, AsksAgain, Reads, Looks, Fills}
use Rattle.open_loads.specs.Budget.Runs.{MayGive}
use Rattle.open_loads.specs.Order.Asking.{AnswersAs, IsNext, again_question, asked_question, file_url}
use Rattle.open_loads.specs.Order.Asking.IsNext.{rests, asks, asks_again_by, reads, looks, fills}
use Rattle.open_loads.specs.Order.Means.{Means}

-- ---- the answer that counts

module _ (w : World) (known : Known) (load : Load) (asked : Asked) where
  -- a world's answer that counts
  abbrev pub world_counts : Answer
  world_counts = counted_by (first_to w known asked load.specifier load.context) (second_to w known asked load.specifier load.context) (asks_again asked (first_to w known asked load.specifier load.context))

  -- the first one, where it doesn't refuse the load for its sum
  pub counts_first : (a : Answer) → a ≡ answer_of w (asked_question known load asked) → asks_again asked a ≡ false → a ≡ world_counts
  counts_first a right counts =
      right ∙ ap (counted_by (first_to w known asked load.specifier load.context) (second_to w known asked load.specifier load.context)) (sym (ap (asks_again asked) (sym right) ∙ counts))

  -- the second one, where that is a module
  pub counts_second : (first a : Answer) → first ≡ answer_of w (asked_question known load asked) → asks_again asked first ≡ true → a ≡ answer_of w (again_question known load asked) → counted_of first a ≡ world_counts
  counts_second first a right again right_again =
      ap (λ (x : Answer). counted_of x a) right
      ∙ ap (counted_of (first_to w known asked load.specifier load.context)) right_again
      ∙ ap (counted_by (first_to w known asked load.specifier load.context) (second_to w known asked load.specifier load.context)) (sym (ap (asks_again asked) (sym right) ∙ again))

-- what an answer gives
abbrev pub GivesBy : Option Making → Load → Asked → Answer → Outcome → Type 0
GivesBy making load asked a o = IfSome making (λ made. o ≡ outcome_of made load.specifier load.context asked (or_info load.specifier (info_for load.context asked) (taken_form (redirect_sum asked) a)))

-- by the answer that counts it is what a world gives
told_gives : (w : World) (known : Known) (making : Option Making) (load : Load) (asked : Asked) (a : Answer) (o : Outcome) → a ≡ world_counts w known load asked → GivesBy making load asked a o → IfSome making (λ made. o ≡ outcome_of made load.specifier load.context asked (taken_answer w known asked load.specifier load.context))
told_gives w known None load asked a o counts given = tt
told_gives w known (Some made) load asked a o counts given = given ∙ ap (λ (x : Answer). outcome_of made load.specifier load.context asked (or_info load.specifier (info_for load.context asked) (taken_form (redirect_sum asked) x))) counts

module _ (known : Known) (means : Means) (load : Load) (asked : Asked) (o : Outcome) (final : IsFinal load o) (suits : Suits load asked o) where
  -- what the first answer gives is what a load may be given
  pub gives_first : (told : Option World) (a : Answer) → AnswersAs told (asked_question known load asked) a → asks_again asked a ≡ false → GivesBy means.making load asked a o → MayGive known told means load asked o
  gives_first None a right counts given = record { final = final; suits = suits; told = tt }
  gives_first (Some w) a right counts given = record { final = final; suits = suits; told = told_gives w known means.making load asked a o (counts_first w known load asked a right counts) given }

  pub gives_second : (told : Option World) (first a : Answer) → AnswersAs told (asked_question known load asked) first → asks_again asked first ≡ true → AnswersAs told (again_question known load asked) a → GivesBy means.making load asked (counted_of first a) o → MayGive known told means load asked o
  gives_second None first a right again right_again given = record { final = final; suits = suits; told = tt }
  gives_second (Some w) first a right again right_again given = record { final = final; suits = suits; told = told_gives w known means.making load asked (counted_of first a) o (counts_second w known load asked first a right again right_again) given }

-- ---- the turn that stands

module _ (told : Option World) (known : Known) (registry : RegistryMeaning) (s : State) (load : Load) (left : List Load) (loads_are : s.loads ≡ load ∷ left) where
  -- the first load is that of the turn
  same_first : (first : Load) (loads : List Load) → s.loads ≡ first ∷ loads → first ≡ load
  same_first first loads e = let both : first ∷ loads ≡ load ∷ left = sym e ∙ loads_are in cc

  by_asks : (t : ℕ) (asked : Asked) (stage : Stage) → IsNext told known registry s stage → stage ≡ Asks t asked → manner_in known.sums registry s load ≡ IsAskedAs asked
  by_asks t asked stage (rests n) is = absurd (let wrong : Idle ≡ Asks t asked = is in cc)
  by_asks t asked stage (asks {ticket} {asked = other} {load = first} {loads} n e m) is =
      let same : other ≡ asked = (let both : Asks ticket other ≡ Asks t asked = is in cc) in
      ap (manner_in known.sums registry s) (sym (same_first first loads e)) ∙ m ∙ ap IsAskedAs same
  by_asks t asked stage (asks_again_by {ticket} {asked = other} {first} n e m right again) is = absurd (let wrong : AsksAgain ticket other first ≡ Asks t asked = is in cc)
  by_asks t asked stage (reads {ticket} {nv} {at} n e m f u) is = absurd (let wrong : Reads ticket nv at ≡ Asks t asked = is in cc)
  by_asks t asked stage (looks {ticket} {at} n e f u) is = absurd (let wrong : Looks ticket at ≡ Asks t asked = is in cc)
  by_asks t asked stage (fills {ticket} n c) is = absurd (let wrong : Fills ticket ≡ Asks t asked = is in cc)

  -- it is asked about so
  pub next_asks : (t : ℕ) (asked : Asked) → IsNext told known registry s (Asks t asked) → manner_in known.sums registry s load ≡ IsAskedAs asked
  next_asks t asked next = by_asks t asked (Asks t asked) next refl

  -- it was, and was refused for its sum
  pub record IsAskedAgain (asked : Asked) (first : Answer) : Type 0 where
    pub manner : manner_in known.sums registry s load ≡ IsAskedAs asked
    pub right : AnswersAs told (asked_question known load asked) first
    pub again : asks_again asked first ≡ true

  by_again : (t : ℕ) (asked : Asked) (answer : Answer) (stage : Stage) → IsNext told known registry s stage → stage ≡ AsksAgain t asked answer → IsAskedAgain asked answer
  by_again t asked answer stage (rests n) is = absurd (let wrong : Idle ≡ AsksAgain t asked answer = is in cc)
  by_again t asked answer stage (asks {ticket} {asked = other} n e m) is = absurd (let wrong : Asks ticket other ≡ AsksAgain t asked answer = is in cc)
  by_again t asked answer stage (asks_again_by {ticket} {asked = other} {first} {load = one} {loads} n e m right again) is =
      let both : AsksAgain ticket other first ≡ AsksAgain t asked answer = is in
      let same : other ≡ asked = cc in
      let same_answer : first ≡ answer = cc in
      let same_load : one ≡ load = same_first one loads e in
      subst (IsAskedAgain asked) same_answer (subst (λ (x : Asked). IsAskedAgain x first) same (record {
        manner = ap (manner_in known.sums registry s) (sym same_load) ∙ m;
        right = subst (λ (l : Load). AnswersAs told (asked_question known l other) first) same_load right;
        again = again;
      }))
  by_again t asked answer stage (reads {ticket} {nv} {at} n e m f u) is = absurd (let wrong : Reads ticket nv at ≡ AsksAgain t asked answer = is in cc)
  by_again t asked answer stage (looks {ticket} {at} n e f u) is = absurd (let wrong : Looks ticket at ≡ AsksAgain t asked answer = is in cc)
  by_again t asked answer stage (fills {ticket} n c) is = absurd (let wrong : Fills ticket ≡ AsksAgain t asked answer = is in cc)

  pub next_again : (t : ℕ) (asked : Asked) (first : Answer) → IsNext told known registry s (AsksAgain t asked first) → IsAskedAgain asked first
  next_again t asked first next = by_again t asked first (AsksAgain t asked first) next refl

  -- the file of its version is read first
  pub record IsReadFirst (nv : PackageNv) (at : Parts) : Type 0 where
    pub manner : manner_in known.sums registry s load ≡ ReadsFirst nv
    pub unknown : is_stored known.store (Version nv) ≡ false
    pub place : at ≡ version_file_url registry.url nv

  by_reads : (t : ℕ) (nv : PackageNv) (at : Parts) (stage : Stage) → IsNext told known registry s stage → stage ≡ Reads t nv at → IsReadFirst nv at
  by_reads t nv at stage (rests n) is = absurd (let wrong : Idle ≡ Reads t nv at = is in cc)
  by_reads t nv at stage (asks {ticket} {asked = other} n e m) is = absurd (let wrong : Asks ticket other ≡ Reads t nv at = is in cc)
  by_reads t nv at stage (asks_again_by {ticket} {asked = other} {first} n e m right again) is = absurd (let wrong : AsksAgain ticket other first ≡ Reads t nv at = is in cc)
  by_reads t nv at stage (reads {ticket} {nv = version} {at = place} {load = first} {loads} n e m f u) is =
      let both : Reads ticket version place ≡ Reads t nv at = is in
      let same : version ≡ nv = cc in
      let same_place : place ≡ at = cc in
      subst (IsReadFirst nv) same_place (subst (λ (x : PackageNv). IsReadFirst x place) same (record {
        manner = ap (manner_in known.sums registry s) (sym (same_first first loads e)) ∙ m;
        unknown = f;
        place = u;
      }))
  by_reads t nv at stage (looks {ticket} {at = place} n e f u) is = absurd (let wrong : Looks ticket place ≡ Reads t nv at = is in cc)
  by_reads t nv at stage (fills {ticket} n c) is = absurd (let wrong : Fills ticket ≡ Reads t nv at = is in cc)

  pub next_reads : (t : ℕ) (nv : PackageNv) (at : Parts) → IsNext told known registry s (Reads t nv at) → IsReadFirst nv at
  next_reads t nv at next = by_reads t nv at (Reads t nv at) next refl

module _ (told : Option World) (known : Known) (registry : RegistryMeaning) (s : State) (file : RegistryFile) (files : List RegistryFile) (files_are : s.wanted ≡ file ∷ files) where
  -- the first file that a pass wants is asked about
  pub record IsLookedFor (at : Parts) : Type 0 where
    pub unknown : is_stored known.store file ≡ false
    pub place : at ≡ file_url registry file

  same_file : (first : RegistryFile) (others : List RegistryFile) → s.wanted ≡ first ∷ others → first ≡ file
  same_file first others e = let both : first ∷ others ≡ file ∷ files = sym e ∙ files_are in cc

  by_looks : (t : ℕ) (at : Parts) (stage : Stage) → IsNext told known registry s stage → stage ≡ Looks t at → IsLookedFor at
  by_looks t at stage (rests n) is = absurd (let wrong : Idle ≡ Looks t at = is in cc)
  by_looks t at stage (asks {ticket} {asked = other} n e m) is = absurd (let wrong : Asks ticket other ≡ Looks t at = is in cc)
  by_looks t at stage (asks_again_by {ticket} {asked = other} {first} n e m right again) is = absurd (let wrong : AsksAgain ticket other first ≡ Looks t at = is in cc)
  by_looks t at stage (reads {ticket} {nv} {at = place} n e m f u) is = absurd (let wrong : Reads ticket nv place ≡ Looks t at = is in cc)
  by_looks t at stage (looks {ticket} {at = place} {file = first} {files = others} n e f u) is =
      let both : Looks ticket place ≡ Looks t at = is in
      let same_place : place ≡ at = cc in
      let same : first ≡ file = same_file first others e in
      record { unknown = ap (is_stored known.store) (sym same) ∙ f; place = sym same_place ∙ (u ∙ ap (file_url registry) same) }
  by_looks t at stage (fills {ticket} n c) is = absurd (let wrong : Fills ticket ≡ Looks t at = is in cc)

  pub next_looks : (t : ℕ) (at : Parts) → IsNext told known registry s (Looks t at) → IsLookedFor at
  next_looks t at next = by_looks t at (Looks t at) next refl
