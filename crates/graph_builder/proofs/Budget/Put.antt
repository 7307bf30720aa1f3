-- The questions that turns put, and that no two of them are counted alike in one run.
use Rattle.std.proofs.Common.{◌≡◌, ℕ, ◌+◌, List, [], ◌∷◌, ◌++◌, length, length-append, Bool, true, false, Option, None, Some, refl, sym, ap, ◌∙◌, subst, inl, inr, ⊎_elim, ◌⊎◌, arith}
use Rattle.std.specs.List.{All}
use Rattle.std.proofs.lemmas.List.Elements.{All-cons, All-head, All-nil, All-tail}
use Rattle.spec_base.specs.Options.{by_option}
use Rattle.spec_base.specs.Specifier.{specifier_text}
use Rattle.module_info.specs.declared.types.ModuleInfo.{ModuleInfo}
use Rattle.semver_npm.specs.declared.package.PackageNv.{PackageNv}
use Rattle.source_io.specs.Answers.{is_ensure, purpose_by}
use Rattle.source_io.specs.declared.types.Answer.{Answer}
use Rattle.source_io.specs.declared.types.CacheSetting.{CacheSetting}
use Rattle.source_io.specs.declared.types.CacheSetting.TheVariants.{Only, Use, Reload}
use Rattle.source_io.specs.declared.types.Purpose.{Purpose}
use Rattle.source_io.specs.declared.types.Purpose.TheVariants.{EnsureReload, EnsureUse, LoadOnly, LoadReload, LoadUse}
use Rattle.source_io.specs.declared.types.World.{World}
use Rattle.registry_urls.specs.Meaning.{RegistryMeaning}
use Rattle.graph_core.specs.declared.graph.ModuleGraph.{ModuleGraph}
use Rattle.module_slots.specs.declared.load.Load.{Load}
use Rattle.module_slots.specs.declared.load.LoadContext.{LoadContext}
use Rattle.graph_turns.specs.declared.question_of.Asked.{Asked}
use Rattle.graph_turns.specs.declared.later_content.LaterContent.{LaterContent}
use Rattle.graph_turns.specs.declared.registry.RegistryFile.{RegistryFile}
use Rattle.graph_turns.specs.declared.registry.RegistryFile.TheVariants.{Package, PackageAgain, Version, Probe}
use Rattle.turn_laws.specs.Budget.Asked.{HasCounted, HasPackage, IsAbout, IsChosen, IsKnown, NamesKnown, OnceCounted}
use Rattle.turn_laws.specs.Budget.Covers.{Counted as CountedQuestion, counted}
use Rattle.graph_turns.specs.Machine.Known.{Known}
use Rattle.graph_turns.specs.Promise.Taken.{ForContent, ForModule, ForPackage, ForProbe, ForVersion, Job, PutQuestion, again_question_of, asks_again, content_question_of, first_setting, info_for, package_question_of, probe_question_of, question_of, version_question_of}
use Rattle.open_loads.specs.Budget.Runs.{Answered, BeganAgain, Filled, LookedUp, MayCost, Passed, Read, since}
use Rattle.open_loads.specs.Budget.Runs.MayCost.{once, twice}
use Rattle.open_loads.specs.Order.Asking.{AnswersAs, asked_question}
use Rattle.turn_laws.proofs.Budget.Contents.{HasContent, OnceContent}
use Rattle.turn_laws.proofs.Budget.Pairs.{Apart, HasPair}
use Rattle.turn_laws.proofs.Budget.Versions.{OnceRead, WasRead}
use Rattle.turn_laws.proofs.Budget.Wanted.{HasFile, OnceFile}
use Rattle.graph_builder.proofs.Budget.Orderly.{answered_in, filled_in, looked_in, read_in}

-- the question about a load
abbrev pub about : Load → Asked → PutQuestion
about load asked = question_of load.specifier load.context asked

-- the one that follows a refusal for its sum
abbrev pub again_about : Load → PutQuestion
again_about load = again_question_of load.specifier load.context

-- that about a file that a pass wants, under the setting of the run; once more it is Reload, in a cache Only
abbrev pub looked_question : CacheSetting → RegistryMeaning → RegistryFile → PutQuestion
looked_question setting registry (Package name) = package_question_of setting registry name
looked_question setting registry (PackageAgain name) = package_question_of Reload registry name
looked_question setting registry (Version nv) = version_question_of setting registry nv
looked_question setting registry (Probe nv) = probe_question_of registry nv

-- an answer to the first question refuses a load for its sum
abbrev pub IsRefused : Known → Option World → Load → Asked → Type 0
IsRefused known loader load asked = (a : Answer) × AnswersAs loader (asked_question known load asked) a × (asks_again asked a ≡ true)

-- the questions of what turns asked about since the run began: the first one about each load, and the second one about some that were
-- refused for their sums, one about each content that came, and one about each file of the registry
pub data QuestionsOf (known : Known) (registry : RegistryMeaning) (setting : CacheSetting) (loader : Option World) : List Passed → List PutQuestion → Type 0 where
  none : QuestionsOf known registry setting loader [] []
  single : {load : Load} {asked : Asked} {past : List Passed} {questions : List PutQuestion} → QuestionsOf known registry setting loader past questions → QuestionsOf known registry setting loader (Answered load asked ∷ past) (about load asked ∷ questions)
  double : {load : Load} {asked : Asked} {past : List Passed} {questions : List PutQuestion} → IsRefused known loader load asked → QuestionsOf known registry setting loader past questions → QuestionsOf known registry setting loader (Answered load asked ∷ past) (again_about load ∷ about load asked ∷ questions)
  version : {nv : PackageNv} {past : List Passed} {questions : List PutQuestion} → QuestionsOf known registry setting loader past questions → QuestionsOf known registry setting loader (Read nv ∷ past) (version_question_of setting registry nv ∷ questions)
  looked : {file : RegistryFile} {past : List Passed} {questions : List PutQuestion} → QuestionsOf known registry setting loader past questions → QuestionsOf known registry setting loader (LookedUp file ∷ past) (looked_question setting registry file ∷ questions)
  content : {l : LaterContent} {past : List Passed} {questions : List PutQuestion} → QuestionsOf known registry setting loader past questions → QuestionsOf known registry setting loader (Filled l ∷ past) (content_question_of l.specifier ∷ questions)
  began : {g : ModuleGraph} {put : ℕ} {past : List Passed} → QuestionsOf known registry setting loader (BeganAgain g put ∷ past) []

-- what turns asked about since put so many questions
pub record HasPut (known : Known) (registry : RegistryMeaning) (setting : CacheSetting) (loader : Option World) (past : List Passed) (put : ℕ) : Type 0 where
  pub questions : List PutQuestion
  pub are_of : QuestionsOf known registry setting loader past questions
  pub count : put ≡ length questions

-- no beginning is among them
abbrev pub IsPlain : List Passed → Type 0
IsPlain [] = Unit {0}
IsPlain (Answered load asked ∷ past) = IsPlain past
IsPlain (Read nv ∷ past) = IsPlain past
IsPlain (LookedUp file ∷ past) = IsPlain past
IsPlain (Filled l ∷ past) = IsPlain past
IsPlain (BeganAgain g put ∷ past) = ⊥

-- ---- how they come together

-- no load is asked about twice for one purpose, no file twice, for loads and in passes, and no content
pub record AreApart (setting : CacheSetting) (past : List Passed) : Type 0 where
  pub loads : Apart (answered_in past)
  pub read : OnceRead (read_in past)
  pub files : OnceFile (looked_in past)
  pub apart : (nv : PackageNv) → WasRead nv (read_in past) → HasFile (Version nv) (looked_in past) → ⊥
  pub again : (name : List ℕ) → HasFile (PackageAgain name) (looked_in past) → setting ≡ Use
  pub contents : OnceContent (filled_in past)

module _ {known : Known} {registry : RegistryMeaning} {setting : CacheSetting} {loader : Option World} where
  pub put_as : {past : List Passed} {m n : ℕ} → HasPut known registry setting loader past m → n ≡ m → HasPut known registry setting loader past n
  put_as has same = record { questions = has.questions; are_of = has.are_of; count = same ∙ has.count }

  pub put_once : (load : Load) (asked : Asked) {past : List Passed} {put : ℕ} → HasPut known registry setting loader past put → HasPut known registry setting loader (Answered load asked ∷ past) (1 + put)
  put_once load asked rest = record { questions = about load asked ∷ rest.questions; are_of = single rest.are_of; count = omega (arith, rest.count) }

  pub put_twice : (load : Load) (asked : Asked) {past : List Passed} {put : ℕ} → IsRefused known loader load asked → HasPut known registry setting loader past put → HasPut known registry setting loader (Answered load asked ∷ past) (2 + put)
  put_twice load asked refused rest = record {
    questions = again_about load ∷ about load asked ∷ rest.questions;
    are_of = double refused rest.are_of;
    count = omega (arith, rest.count);
  }

  pub put_version : (nv : PackageNv) {past : List Passed} {put : ℕ} → HasPut known registry setting loader past put → HasPut known registry setting loader (Read nv ∷ past) (1 + put)
  put_version nv rest = record { questions = version_question_of setting registry nv ∷ rest.questions; are_of = version rest.are_of; count = omega (arith, rest.count) }

  pub put_looked : (file : RegistryFile) {past : List Passed} {put : ℕ} → HasPut known registry setting loader past put → HasPut known registry setting loader (LookedUp file ∷ past) (1 + put)
  put_looked file rest = record { questions = looked_question setting registry file ∷ rest.questions; are_of = looked rest.are_of; count = omega (arith, rest.count) }

  pub put_content : (l : LaterContent) {past : List Passed} {put : ℕ} → HasPut known registry setting loader past put → HasPut known registry setting loader (Filled l ∷ past) (1 + put)
  put_content l rest = record { questions = content_question_of l.specifier ∷ rest.questions; are_of = content rest.are_of; count = omega (arith, rest.count) }

  pub put_none : HasPut known registry setting loader [] 0
  put_none = record { questions = []; are_of = none; count = refl }

  -- none since the build began once more
  pub put_began : (g : ModuleGraph) (n : ℕ) (past : List Passed) → HasPut known registry setting loader (BeganAgain g n ∷ past) 0
  put_began g n past = record { questions = []; are_of = began; count = refl }

  -- the turn of one more load
  pub put_more : (load : Load) (asked : Asked) {past : List Passed} {put cost : ℕ} → MayCost known loader load asked cost → HasPut known registry setting loader past put → HasPut known registry setting loader (Answered load asked ∷ past) (cost + put)
  put_more load asked (once a right counts) rest = put_once load asked rest
  put_more load asked (twice a right again) rest = put_twice load asked (a, right, again) rest

  questions_both : {past others : List Passed} {ps qs : List PutQuestion} → IsPlain past → QuestionsOf known registry setting loader past ps → QuestionsOf known registry setting loader others qs → QuestionsOf known registry setting loader (past ++ others) (ps ++ qs)
  questions_both plain none more = more
  questions_both plain (single rest) more = single (questions_both plain rest more)
  questions_both plain (double refused rest) more = double refused (questions_both plain rest more)
  questions_both plain (version rest) more = version (questions_both plain rest more)
  questions_both plain (looked rest) more = looked (questions_both plain rest more)
  questions_both plain (content rest) more = content (questions_both plain rest more)
  questions_both plain began more = absurd plain

  pub put_both : {past others : List Passed} {m n : ℕ} → IsPlain past → HasPut known registry setting loader past m → HasPut known registry setting loader others n → HasPut known registry setting loader (past ++ others) (m + n)
  put_both plain a b = record {
    questions = a.questions ++ b.questions;
    are_of = questions_both plain a.are_of b.are_of;
    count = omega (arith, a.count, b.count, length-append a.questions b.questions);
  }

-- ---- how they are counted

-- the setting of a first question is never that of a second one
abbrev IsFirst : CacheSetting → Type 0
IsFirst Only = Unit {0}
IsFirst Use = Unit {0}
IsFirst Reload = ⊥

first_is : (c : LoadContext) (asked : Asked) → IsFirst (first_setting c asked)
first_is c asked = by (info_for c asked)
  where
    by : (o : Option ModuleInfo) → IsFirst (by_option o Use (λ i. Only))
    by None = tt
    by (Some i) = tt

-- the two questions about a load have different purposes
apart_settings : (b : Bool) (setting : CacheSetting) → IsFirst setting → purpose_by b Reload ≡ purpose_by b setting → ⊥
apart_settings true Only f e = let wrong : EnsureReload ≡ EnsureUse = e in cc
apart_settings false Only f e = let wrong : LoadReload ≡ LoadOnly = e in cc
apart_settings true Use f e = let wrong : EnsureReload ≡ EnsureUse = e in cc
apart_settings false Use f e = let wrong : LoadReload ≡ LoadUse = e in cc
apart_settings b Reload f e = absurd f

other_purpose : (load : Load) (asked : Asked) → counted (again_about load) ≡ counted (about load asked) → ⊥
other_purpose load asked e = apart_settings load.context.asset (first_setting load.context asked) (first_is load.context asked) (ap (λ (c : CountedQuestion). c.1) e)

-- a purpose tells whether the question is about an asset
purpose_tells : (b : Bool) (setting : CacheSetting) → is_ensure (purpose_by b setting) ≡ b
purpose_tells true Only = refl
purpose_tells false Only = refl
purpose_tells true Use = refl
purpose_tells false Use = refl
purpose_tells true Reload = refl
purpose_tells false Reload = refl

-- what a question that is counted so was put for, among what turns asked about
abbrev IsFor : CacheSetting → List ℕ → Purpose → List Passed → Job → Type 0
IsFor setting k purpose past ForModule = HasPair k (is_ensure purpose) (answered_in past)
IsFor setting k purpose past ForContent = HasContent k (filled_in past)
IsFor setting k purpose past (ForVersion nv) = WasRead nv (read_in past) ⊎ HasFile (Version nv) (looked_in past)
IsFor setting k purpose past (ForPackage name) = ((purpose ≡ purpose_by false setting) × HasFile (Package name) (looked_in past)) ⊎ ((purpose ≡ purpose_by false Reload) × HasFile (PackageAgain name) (looked_in past))
IsFor setting k purpose past (ForProbe nv) = HasFile (Probe nv) (looked_in past)

abbrev IsCountedFor : CacheSetting → CountedQuestion → List Passed → Type 0
IsCountedFor setting k past = IsFor setting k.0 k.1 past k.2

-- a question
abbrev IsStep : Passed → Type 0
IsStep (Answered load asked) = Unit {0}
IsStep (Read nv) = Unit {0}
IsStep (LookedUp file) = Unit {0}
IsStep (Filled l) = Unit {0}
IsStep (BeganAgain g put) = ⊥

for_later : (setting : CacheSetting) (k : List ℕ) (p : Purpose) (x : Passed) (past : List Passed) (job : Job) → IsStep x → IsFor setting k p past job → IsFor setting k p (x ∷ past) job
for_later setting k p (Answered load asked) past ForModule step h = inr h
for_later setting k p (Answered load asked) past ForContent step h = h
for_later setting k p (Answered load asked) past (ForVersion nv) step h = h
for_later setting k p (Answered load asked) past (ForPackage name) step h = h
for_later setting k p (Answered load asked) past (ForProbe nv) step h = h
for_later setting k p (Read nv) past ForModule step h = h
for_later setting k p (Read nv) past ForContent step h = h
for_later setting k p (Read nv) past (ForVersion q) step h = ⊎_elim (λ r. inl (inr r)) inr h
for_later setting k p (Read nv) past (ForPackage name) step h = h
for_later setting k p (Read nv) past (ForProbe q) step h = h
for_later setting k p (LookedUp file) past ForModule step h = h
for_later setting k p (LookedUp file) past ForContent step h = h
for_later setting k p (LookedUp file) past (ForVersion nv) step h = ⊎_elim inl (λ r. inr (inr r)) h
for_later setting k p (LookedUp file) past (ForPackage name) step h = ⊎_elim (λ r. inl (r.0, inr r.1)) (λ r. inr (r.0, inr r.1)) h
for_later setting k p (LookedUp file) past (ForProbe nv) step h = inr h
for_later setting k p (Filled l) past ForModule step h = h
for_later setting k p (Filled l) past ForContent step h = inr h
for_later setting k p (Filled l) past (ForVersion nv) step h = h
for_later setting k p (Filled l) past (ForPackage name) step h = h
for_later setting k p (Filled l) past (ForProbe nv) step h = h
for_later setting k p (BeganAgain g put) past job step h = absurd step

counted_later : (setting : CacheSetting) (k : CountedQuestion) (x : Passed) (past : List Passed) → IsStep x → IsCountedFor setting k past → IsCountedFor setting k (x ∷ past)
counted_later setting k x past step h = for_later setting k.0 k.1 x past k.2 step h

-- a question that is counted as one about a load has its text, and is about an asset where it is
for_load : (by setting : CacheSetting) (load : Load) (asked : Asked) (past : List Passed) → IsCountedFor by (specifier_text load.specifier, purpose_by load.context.asset setting, ForModule) (Answered load asked ∷ past)
for_load by setting load asked past = inl (refl, sym (purpose_tells load.context.asset setting))

for_looked : (setting : CacheSetting) (registry : RegistryMeaning) (file : RegistryFile) (past : List Passed) → IsCountedFor setting (counted (looked_question setting registry file)) (LookedUp file ∷ past)
for_looked setting registry (Package name) past = inl (refl, inl refl)
for_looked setting registry (PackageAgain name) past = inr (refl, inl refl)
for_looked setting registry (Version nv) past = inr (inl refl)
for_looked setting registry (Probe nv) past = inl refl

-- files are asked about once more under Reload where the run's setting is another one
again_apart : (setting : CacheSetting) → setting ≡ Use → purpose_by false setting ≡ purpose_by false Reload → ⊥
again_apart setting is_use e = let wrong : LoadUse ≡ LoadReload = sym (ap (purpose_by false) is_use) ∙ e in cc

module _ {known : Known} {registry : RegistryMeaning} {setting : CacheSetting} {loader : Option World} where
  counted_for : {past : List Passed} {questions : List PutQuestion} (k : CountedQuestion) → QuestionsOf known registry setting loader past questions → HasCounted k questions → IsCountedFor setting k past
  counted_for k none h = absurd h
  counted_for k (single {load} {asked} {past} rest) (inl e) = subst (λ (c : CountedQuestion). IsCountedFor setting c (Answered load asked ∷ past)) (sym e) (for_load setting (first_setting load.context asked) load asked past)
  counted_for k (single {load} {asked} {past} rest) (inr h) = counted_later setting k (Answered load asked) past tt (counted_for k rest h)
  counted_for k (double {load} {asked} {past} refused rest) (inl e) = subst (λ (c : CountedQuestion). IsCountedFor setting c (Answered load asked ∷ past)) (sym e) (for_load setting Reload load asked past)
  counted_for k (double {load} {asked} {past} refused rest) (inr (inl e)) = subst (λ (c : CountedQuestion). IsCountedFor setting c (Answered load asked ∷ past)) (sym e) (for_load setting (first_setting load.context asked) load asked past)
  counted_for k (double {load} {asked} {past} refused rest) (inr (inr h)) = counted_later setting k (Answered load asked) past tt (counted_for k rest h)
  counted_for k (version {nv} {past} rest) (inl e) = subst (λ (c : CountedQuestion). IsCountedFor setting c (Read nv ∷ past)) (sym e) (inl (inl refl))
  counted_for k (version {nv} {past} rest) (inr h) = counted_later setting k (Read nv) past tt (counted_for k rest h)
  counted_for k (looked {file} {past} rest) (inl e) = subst (λ (c : CountedQuestion). IsCountedFor setting c (LookedUp file ∷ past)) (sym e) (for_looked setting registry file past)
  counted_for k (looked {file} {past} rest) (inr h) = counted_later setting k (LookedUp file) past tt (counted_for k rest h)
  counted_for k (content {l} {past} rest) (inl e) = subst (λ (c : CountedQuestion). IsCountedFor setting c (Filled l ∷ past)) (sym e) (inl refl)
  counted_for k (content {l} {past} rest) (inr h) = counted_later setting k (Filled l) past tt (counted_for k rest h)
  counted_for k began h = absurd h

  -- none of the others is about the load
  load_apart : (load : Load) (by : CacheSetting) {past : List Passed} {questions : List PutQuestion} → QuestionsOf known registry setting loader past questions → (HasPair (specifier_text load.specifier) load.context.asset (answered_in past) → ⊥) → HasCounted (specifier_text load.specifier, purpose_by load.context.asset by, ForModule) questions → ⊥
  load_apart load by {past} rest apart h =
      apart (subst (λ b. HasPair (specifier_text load.specifier) b (answered_in past)) (purpose_tells load.context.asset by) (counted_for (specifier_text load.specifier, purpose_by load.context.asset by, ForModule) rest h))

  -- nor about the file
  looked_apart : (file : RegistryFile) {past : List Passed} {questions : List PutQuestion} → QuestionsOf known registry setting loader past questions → (HasFile file (looked_in past) → ⊥) → ((nv : PackageNv) → file ≡ Version nv → WasRead nv (read_in past) → ⊥) → ((name : List ℕ) → HasFile (PackageAgain name) (file ∷ looked_in past) → setting ≡ Use) → HasCounted (counted (looked_question setting registry file)) questions → ⊥
  looked_apart (Package name) rest new apart again h = ⊎_elim
      (λ r. new r.1)
      (λ r. again_apart setting (again name (inr r.1)) r.0)
      (counted_for (counted (package_question_of setting registry name)) rest h)
  looked_apart (PackageAgain name) rest new apart again h = ⊎_elim
      (λ r. again_apart setting (again name (inl refl)) (sym r.0))
      (λ r. new r.1)
      (counted_for (counted (package_question_of Reload registry name)) rest h)
  looked_apart (Probe nv) rest new apart again h = new (counted_for (counted (probe_question_of registry nv)) rest h)
  looked_apart (Version nv) rest new apart again h = ⊎_elim (apart nv refl) new (counted_for (counted (version_question_of setting registry nv)) rest h)

  pub once_counted : {past : List Passed} {questions : List PutQuestion} → QuestionsOf known registry setting loader past questions → AreApart setting past → OnceCounted questions
  once_counted none are = tt
  once_counted (single {load} {asked} rest) are = (
    λ h. load_apart load (first_setting load.context asked) rest are.loads.0 h,
    once_counted rest record { loads = are.loads.1; read = are.read; files = are.files; apart = are.apart; again = are.again; contents = are.contents },
  )
  once_counted (double {load} {asked} refused rest) are = (
    λ h. ⊎_elim (other_purpose load asked) (λ r. load_apart load Reload rest are.loads.0 r) h,
    (
      λ h. load_apart load (first_setting load.context asked) rest are.loads.0 h,
      once_counted rest record { loads = are.loads.1; read = are.read; files = are.files; apart = are.apart; again = are.again; contents = are.contents },
    ),
  )
  once_counted (version {nv} rest) are = (
    λ h. ⊎_elim are.read.0 (are.apart nv (inl refl)) (counted_for (counted (version_question_of setting registry nv)) rest h),
    once_counted rest record { loads = are.loads; read = are.read.1; files = are.files; apart = λ q h. are.apart q (inr h); again = are.again; contents = are.contents },
  )
  once_counted (looked {file} {past} rest) are = (
    λ h. looked_apart file rest are.files.0 (λ nv is r. are.apart nv r (inl (sym is))) are.again h,
    once_counted rest record { loads = are.loads; read = are.read; files = are.files.1; apart = λ q h among. are.apart q h (inr among); again = λ name h. are.again name (inr h); contents = are.contents },
  )
  once_counted (content {l} rest) are = (
    λ h. are.contents.0 (counted_for (counted (content_question_of l.specifier)) rest h),
    once_counted rest record { loads = are.loads; read = are.read; files = are.files; apart = are.apart; again = are.again; contents = are.contents.1 },
  )
  once_counted began are = tt

-- ---- what they are about

-- what a turn asked about is known
abbrev pub IsSeen : RegistryMeaning → ModuleGraph → Passed → Type 0
IsSeen registry g (Answered load asked) = IsKnown g load.specifier
IsSeen registry g (Read nv) = HasPackage g nv ⊎ IsKnown g (registry.package_url nv)
IsSeen registry g (LookedUp (Package name)) = NamesKnown g name
IsSeen registry g (LookedUp (PackageAgain name)) = NamesKnown g name
IsSeen registry g (LookedUp (Version nv)) = IsChosen g nv
IsSeen registry g (LookedUp (Probe nv)) = NamesKnown g nv.name
IsSeen registry g (Filled l) = IsKnown g l.specifier
IsSeen registry g (BeganAgain h put) = Unit {0}

module _ (registry : RegistryMeaning) (g : ModuleGraph) where
  abbrev AboutIt : PutQuestion → Type 0
  AboutIt q = IsAbout registry g q.specifier q.job

  about_file : (setting : CacheSetting) (file : RegistryFile) → IsSeen registry g (LookedUp file) → AboutIt (looked_question setting registry file)
  about_file setting (Package name) h = h
  about_file setting (PackageAgain name) h = h
  about_file setting (Version nv) h = inr (inl h)
  about_file setting (Probe nv) h = h

  -- all questions are about what is known where all that turns asked about since is
  pub all_known : {known : Known} {setting : CacheSetting} {loader : Option World} {past : List Passed} {questions : List PutQuestion} → QuestionsOf known registry setting loader past questions → All (IsSeen registry g) (since past) → All (λ (q : PutQuestion). IsAbout registry g q.specifier q.job) questions
  all_known none are = All-nil AboutIt
  all_known (single {load} {asked} {past} {questions} rest) are =
      All-cons AboutIt (about load asked) questions (All-head (IsSeen registry g) (Answered load asked) (since past) are) (all_known rest (All-tail (IsSeen registry g) (Answered load asked) (since past) are))
  all_known (double {load} {asked} {past} {questions} refused rest) are =
      let at = All-head (IsSeen registry g) (Answered load asked) (since past) are in
      All-cons AboutIt (again_about load) (about load asked ∷ questions) at
      (All-cons AboutIt (about load asked) questions at (all_known rest (All-tail (IsSeen registry g) (Answered load asked) (since past) are)))
  all_known {setting = setting} (version {nv} {past} {questions} rest) are =
      let at = All-head (IsSeen registry g) (Read nv) (since past) are in
      All-cons AboutIt (version_question_of setting registry nv) questions (⊎_elim inl (λ k. inr (inr k)) at) (all_known rest (All-tail (IsSeen registry g) (Read nv) (since past) are))
  all_known {setting = setting} (looked {file} {past} {questions} rest) are =
      All-cons AboutIt (looked_question setting registry file) questions (about_file setting file (All-head (IsSeen registry g) (LookedUp file) (since past) are)) (all_known rest (All-tail (IsSeen registry g) (LookedUp file) (since past) are))
  all_known (content {l} {past} {questions} rest) are =
      All-cons AboutIt (content_question_of l.specifier) questions (All-head (IsSeen registry g) (Filled l) (since past) are) (all_known rest (All-tail (IsSeen registry g) (Filled l) (since past) are))
  all_known began are = All-nil AboutIt
