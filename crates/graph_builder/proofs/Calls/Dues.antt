-- What the questions that are due are about.
use Rattle.std.proofs.Common.{◌≡◌, ℕ, nat_eq, List, [], ◌∷◌, ◌++◌, ◌||◌, Bool, true, false, Option, None, Some, refl, sym, ap, ◌∙◌, subst, inl, inr, ⊎_elim, arith}
use Rattle.std.proofs.lemmas.Bool.{true≢false}
use Rattle.std.proofs.lemmas.Bool.Decides.{nat_tests}
use Rattle.std.specs.List.{Contains}
use Rattle.url.specs.Parts.{Parts}
use Rattle.spec_base.specs.Specifier.{specifier_text}
use Rattle.semver_npm.specs.declared.package.PackageNv.{PackageNv}
use Rattle.registry_urls.specs.Meaning.{RegistryMeaning}
use Rattle.source_io.specs.declared.types.Answer.{Answer}
use Rattle.source_io.specs.declared.types.CacheSetting.{CacheSetting}
use Rattle.source_io.specs.declared.types.Question.{Question}
use Rattle.source_io.specs.declared.types.World.{World}
use Rattle.module_slots.specs.declared.load.Load.{Load}
use Rattle.graph_turns.specs.declared.question_of.Asked.{Asked}
use Rattle.graph_turns.specs.declared.later_content.LaterContent.{LaterContent}
use Rattle.graph_turns.specs.declared.manner.Manner.TheVariants.{Asks as IsAskedAs, Reads as ReadsFirst}
use Rattle.graph_turns.specs.declared.registry.RegistryFile.{RegistryFile}
use Rattle.graph_turns.specs.declared.registry.RegistryFile.TheVariants.{Package, PackageAgain, Version, Probe}
use Rattle.graph_turns.specs.declared.state.State.{State}
use Rattle.graph_turns.specs.Machine.Known.{Known}
use Rattle.graph_turns.specs.Machine.Runs.{setting_for}
use Rattle.graph_turns.specs.Machine.Turns.{manner_in}
use Rattle.graph_turns.specs.Promise.Contents.{content_question}
use Rattle.graph_turns.specs.Promise.Reached.{IsSame}
use Rattle.graph_turns.specs.Promise.Taken.{asks_again}
use Rattle.graph_turns.specs.Promise.Versions.{file_question, is_stored, manifest_at, metadata_question, version_question}
use Rattle.open_loads.specs.declared.turn_stage.Stage.{Stage}
use Rattle.open_loads.specs.declared.turn_stage.Stage.TheVariants.{Idle, Asks, AsksAgain, Reads, Looks, Fills}
use Rattle.graph_builder.specs.Calls.Builds.{is_among_files, is_of_file}
use Rattle.open_loads.specs.Order.Asking.{AnswersAs, AreAhead, AreWanted, IsNext, again_question, asked_question, file_url, wanted_question}
use Rattle.open_loads.specs.Order.Asking.IsNext.{rests, asks, asks_again_by, reads, looks, fills}
use Rattle.open_loads.specs.Order.Unused.{Due, IsDue, behind_first, content_dues, contents_behind, dues, dues_of, file_dues, files_behind, loads_behind, stage_due}
use Rattle.open_loads.specs.Order.OpenLoads.{OpenLoads, known_now}
use Rattle.open_loads.specs.Order.Ordered.{FitsLoad, FitsTurn}
use Rattle.graph_builder.proofs.Calls.Waiting.{contains_first, contains_later}
use Rattle.open_loads.proofs.Order.Dues.{due_cases}
use Rattle.turn_laws.proofs.Budget.Contents.{HasContent, OnceContent}
use Rattle.graph_turns.proofs.Entering.Loads.{HasLoad, Once}

-- ---- each is about an open load, a file that a pass wants, or a content to come

-- a question of a state's turns: the first one about a load, the second one, which follows an answer that refused it for its sum, that
-- about the file of the version that a load's URL names, that about a file that a pass wants, or that about a content
pub data IsAskedOf (loader : Option World) (known : Known) (registry : RegistryMeaning) (s : State) : Question → Type 0 where
  first_of : {load : Load} {asked : Asked} → Contains s.loads load → manner_in known.sums registry s load ≡ IsAskedAs asked → IsAskedOf loader known registry s (asked_question known load asked)
  again_of : {load : Load} {asked : Asked} (a : Answer) → Contains s.loads load → manner_in known.sums registry s load ≡ IsAskedAs asked → AnswersAs loader (asked_question known load asked) a → asks_again asked a ≡ true → IsAskedOf loader known registry s (again_question known load asked)
  version_of : {load : Load} {nv : PackageNv} → Contains s.loads load → manner_in known.sums registry s load ≡ ReadsFirst nv → is_stored known.store (Version nv) ≡ false → IsAskedOf loader known registry s (version_question (setting_for s.run) registry known.manifests nv)
  file_of : {file : RegistryFile} → Contains s.wanted file → is_stored known.store file ≡ false → IsAskedOf loader known registry s (file_question (setting_for s.run) registry known.manifests file)
  content_of : {l : LaterContent} → Contains s.contents l → IsAskedOf loader known registry s (content_question known l)

-- a file that lies where the registry has it is asked about so
wanted_as : (setting : CacheSetting) (known : Known) (registry : RegistryMeaning) (file : RegistryFile) → wanted_question setting known file (file_url registry file) ≡ file_question setting registry known.manifests file
wanted_as setting known registry (Package name) = refl
wanted_as setting known registry (PackageAgain name) = refl
wanted_as setting known registry (Version nv) = refl
wanted_as setting known registry (Probe nv) = refl

module _ (loader : Option World) (known : Known) (registry : RegistryMeaning) (s : State) where
  asked_as : (x y : Due) → x ≡ y → IsAskedOf loader known registry s y.question → IsAskedOf loader known registry s x.question
  asked_as x y e is_of = subst (λ (z : Due). IsAskedOf loader known registry s z.question) (sym e) is_of

  -- a file that a pass wants, and that isn't stored
  of_file : (file : RegistryFile) (at : Parts) → Contains s.wanted file → is_stored known.store file ≡ false → at ≡ file_url registry file → IsAskedOf loader known registry s (wanted_question (setting_for s.run) known file at)
  of_file file at among fresh is =
      subst (IsAskedOf loader known registry s) (sym (ap (wanted_question (setting_for s.run) known file) is ∙ wanted_as (setting_for s.run) known registry file)) (file_of among fresh)

  of_ahead : (ps : List (Option (ℕ × Asked))) (loads : List Load) → ((load : Load) → Contains loads load → Contains s.loads load) → AreAhead known registry s ps loads → (x : Due) → IsDue x (dues_of known ps loads) → IsAskedOf loader known registry s x.question
  of_ahead [] loads within ahead x a = absurd a
  of_ahead (p ∷ ps) [] within ahead x a = absurd ahead
  of_ahead (None ∷ ps) (l ∷ loads) within ahead x a = of_ahead ps loads (λ load among. within load (contains_later l load loads among)) ahead x a
  of_ahead (Some p ∷ ps) (l ∷ loads) within ahead x (inl e) = asked_as x (record { ticket = p.0; question = asked_question known l p.1 }) e (first_of (within l (contains_first l loads)) ahead.0)
  of_ahead (Some p ∷ ps) (l ∷ loads) within ahead x (inr a) = of_ahead ps loads (λ load among. within load (contains_later l load loads among)) ahead.1 x a

  of_files : (ps : List (Option (ℕ × Parts))) (files : List RegistryFile) → ((file : RegistryFile) → Contains files file → Contains s.wanted file) → AreWanted known registry ps files → (x : Due) → IsDue x (file_dues (setting_for s.run) known ps files) → IsAskedOf loader known registry s x.question
  of_files [] files within wanted x a = absurd a
  of_files (p ∷ ps) [] within wanted x a = absurd wanted
  of_files (None ∷ ps) (file ∷ files) within wanted x a = of_files ps files (λ f among. within f (contains_later file f files among)) wanted.1 x a
  of_files (Some p ∷ ps) (file ∷ files) within wanted x (inl e) = asked_as x (record { ticket = p.0; question = wanted_question (setting_for s.run) known file p.1 }) e (of_file file p.1 (within file (contains_first file files)) wanted.0 wanted.1)
  of_files (Some p ∷ ps) (file ∷ files) within wanted x (inr a) = of_files ps files (λ f among. within f (contains_later file f files among)) wanted.2 x a

  of_contents : (ts : List ℕ) (contents : List LaterContent) → ((l : LaterContent) → Contains contents l → Contains s.contents l) → (x : Due) → IsDue x (content_dues known ts contents) → IsAskedOf loader known registry s x.question
  of_contents [] contents within x a = absurd a
  of_contents (t ∷ ts) [] within x a = absurd a
  of_contents (t ∷ ts) (l ∷ ls) within x (inl e) = asked_as x (record { ticket = t; question = content_question known l }) e (content_of (within l (contains_first l ls)))
  of_contents (t ∷ ts) (l ∷ ls) within x (inr a) = of_contents ts ls (λ m among. within m (contains_later l m ls among)) x a

  among_behind : {A : Type 0} (xs : List A) (x : A) → Contains (behind_first xs) x → Contains xs x
  among_behind [] x among = among
  among_behind (y ∷ xs) x among = contains_later y x xs among

  behind_among : (stage : Stage) (load : Load) → Contains (loads_behind stage s.loads) load → Contains s.loads load
  behind_among Idle load among = among
  behind_among (Asks t asked) load among = among_behind s.loads load among
  behind_among (AsksAgain t asked first) load among = among_behind s.loads load among
  behind_among (Reads t nv at) load among = among_behind s.loads load among
  behind_among (Looks t at) load among = among
  behind_among (Fills t) load among = among

  files_among : (stage : Stage) (file : RegistryFile) → Contains (files_behind stage s.wanted) file → Contains s.wanted file
  files_among Idle file among = among
  files_among (Asks t asked) file among = among
  files_among (AsksAgain t asked first) file among = among
  files_among (Reads t nv at) file among = among
  files_among (Looks t at) file among = among_behind s.wanted file among
  files_among (Fills t) file among = among

  contents_among : (stage : Stage) (l : LaterContent) → Contains (contents_behind stage s.contents) l → Contains s.contents l
  contents_among Idle l among = among
  contents_among (Asks t asked) l among = among
  contents_among (AsksAgain t asked first) l among = among
  contents_among (Reads t nv at) l among = among
  contents_among (Looks t at) l among = among
  contents_among (Fills t) l among = among_behind s.contents l among

  -- the question of the turn that stands
  of_stage : (stage : Stage) → IsNext loader known registry s stage → (x : Due) → IsDue x (stage_due (setting_for s.run) known stage s.loads s.wanted s.contents) → IsAskedOf loader known registry s x.question
  of_stage stage (rests end) x a = absurd a
  of_stage stage (asks {ticket} {asked} {load} {loads} next e how) x a = ⊎_elim
      (λ same. asked_as x (record { ticket = ticket; question = asked_question known load asked }) same (first_of (subst (λ (ls : List Load). Contains ls load) (sym e) (contains_first load loads)) how))
      (λ none. absurd none)
      (subst (λ (ls : List Load). IsDue x (stage_due (setting_for s.run) known (Asks ticket asked) ls s.wanted s.contents)) e a)
  of_stage stage (asks_again_by {ticket} {asked} {first} {load} {loads} next e how right again) x a = ⊎_elim
      (λ same. asked_as x (record { ticket = ticket; question = again_question known load asked }) same (again_of first (subst (λ (ls : List Load). Contains ls load) (sym e) (contains_first load loads)) how right again))
      (λ none. absurd none)
      (subst (λ (ls : List Load). IsDue x (stage_due (setting_for s.run) known (AsksAgain ticket asked first) ls s.wanted s.contents)) e a)
  of_stage stage (reads {ticket} {nv} {at} {load} {loads} next e how fresh is) x a = ⊎_elim
      (λ same. asked_as x (record { ticket = ticket; question = metadata_question (setting_for s.run) at (manifest_at known.manifests nv) }) same
      (subst (λ (u : Parts). IsAskedOf loader known registry s (metadata_question (setting_for s.run) u (manifest_at known.manifests nv))) (sym is)
      (version_of (subst (λ (ls : List Load). Contains ls load) (sym e) (contains_first load loads)) how fresh)))
      (λ none. absurd none)
      a
  of_stage stage (looks {ticket} {at} {file} {files} next e fresh is) x a = ⊎_elim
      (λ same. asked_as x (record { ticket = ticket; question = wanted_question (setting_for s.run) known file at }) same (of_file file at (subst (λ (fs : List RegistryFile). Contains fs file) (sym e) (contains_first file files)) fresh is))
      (λ none. absurd none)
      (subst (λ (fs : List RegistryFile). IsDue x (stage_due (setting_for s.run) known (Looks ticket at) s.loads fs s.contents)) e a)
  of_stage stage (fills {ticket} {l} {ls} next e) x a = ⊎_elim
      (λ same. asked_as x (record { ticket = ticket; question = content_question known l }) same (content_of (subst (λ (cs : List LaterContent). Contains cs l) (sym e) (contains_first l ls))))
      (λ no. absurd no)
      (subst (λ (cs : List LaterContent). IsDue x (stage_due (setting_for s.run) known (Fills ticket) s.loads s.wanted cs)) e a)

  -- each question that is due
  pub of_due : (stage : Stage) (ps : List (Option (ℕ × Asked))) (ws : List (Option (ℕ × Parts))) (ts : List ℕ) → IsNext loader known registry s stage → AreAhead known registry s ps (loads_behind stage s.loads) → AreWanted known registry ws (files_behind stage s.wanted) → (x : Due) → IsDue x (dues (setting_for s.run) known stage ps s.loads ws s.wanted ts s.contents) → IsAskedOf loader known registry s x.question
  of_due stage ps ws ts next ahead wanted x a =
      let loads = dues_of known ps (loads_behind stage s.loads) in
      let files = file_dues (setting_for s.run) known ws (files_behind stage s.wanted) in
      let contents = content_dues known ts (contents_behind stage s.contents) in
      ⊎_elim
      (of_stage stage next x)
      (λ rest. ⊎_elim
      (of_ahead ps (loads_behind stage s.loads) (behind_among stage) ahead x)
      (λ later. ⊎_elim
      (of_files ws (files_behind stage s.wanted) (files_among stage) wanted x)
      (of_contents ts (contents_behind stage s.contents) (contents_among stage) x)
      (due_cases x files contents later))
      (due_cases x loads (files ++ contents) rest))
      (due_cases x (stage_due (setting_for s.run) known stage s.loads s.wanted s.contents) (loads ++ (files ++ contents)) a)

-- ---- those about one text are one, but for those about files of the registry

-- two that are due about one text are one
abbrev IsOneOf : List Due → Type 0
IsOneOf xs = (x y : Due) → IsDue x xs → IsDue y xs → IsSame x.question.specifier y.question.specifier → x ≡ y

text_of : (x y : Due) → x ≡ y → specifier_text x.question.specifier ≡ specifier_text y.question.specifier
text_of x y e = ap (λ (u : Due). specifier_text u.question.specifier) e

-- one before others of other texts
one_before : (z : Due) (xs : List Due) (has : List ℕ → Type 0) → ((x : Due) → IsDue x xs → has (specifier_text x.question.specifier)) → (has (specifier_text z.question.specifier) → ⊥) → IsOneOf xs → IsOneOf (z ∷ xs)
one_before z xs has texts apart rest x y (inl a) (inl b) same = a ∙ sym b
one_before z xs has texts apart rest x y (inl a) (inr b) same = absurd (apart (subst has (sym same ∙ text_of x z a) (texts y b)))
one_before z xs has texts apart rest x y (inr a) (inl b) same = absurd (apart (subst has (same ∙ text_of y z b) (texts x a)))
one_before z xs has texts apart rest x y (inr a) (inr b) same = rest x y a b same

-- what is due of loads has their texts
pub dues_text : (known : Known) (ps : List (Option (ℕ × Asked))) (loads : List Load) (x : Due) → IsDue x (dues_of known ps loads) → HasLoad (specifier_text x.question.specifier) loads
dues_text known [] loads x a = absurd a
dues_text known (p ∷ ps) [] x a = absurd a
dues_text known (None ∷ ps) (l ∷ loads) x a = inr (dues_text known ps loads x a)
dues_text known (Some p ∷ ps) (l ∷ loads) x (inl e) = inl (text_of x (record { ticket = p.0; question = asked_question known l p.1 }) e)
dues_text known (Some p ∷ ps) (l ∷ loads) x (inr a) = inr (dues_text known ps loads x a)

contents_text : (known : Known) (ts : List ℕ) (contents : List LaterContent) (x : Due) → IsDue x (content_dues known ts contents) → HasContent (specifier_text x.question.specifier) contents
contents_text known [] contents x a = absurd a
contents_text known (t ∷ ts) [] x a = absurd a
contents_text known (t ∷ ts) (l ∷ ls) x (inl e) = inl (text_of x (record { ticket = t; question = content_question known l }) e)
contents_text known (t ∷ ts) (l ∷ ls) x (inr a) = inr (contents_text known ts ls x a)

one_of : (known : Known) (ps : List (Option (ℕ × Asked))) (loads : List Load) → Once loads → IsOneOf (dues_of known ps loads)
one_of known [] loads once x y a b same = absurd a
one_of known (p ∷ ps) [] once x y a b same = absurd a
one_of known (None ∷ ps) (l ∷ loads) once x y a b same = one_of known ps loads once.1 x y a b same
one_of known (Some p ∷ ps) (l ∷ loads) once x y a b same =
    one_before (record { ticket = p.0; question = asked_question known l p.1 }) (dues_of known ps loads) (λ k. HasLoad k loads) (dues_text known ps loads) once.0 (one_of known ps loads once.1) x y a b same

one_content : (known : Known) (ts : List ℕ) (contents : List LaterContent) → OnceContent contents → IsOneOf (content_dues known ts contents)
one_content known [] contents once x y a b same = absurd a
one_content known (t ∷ ts) [] once x y a b same = absurd a
one_content known (t ∷ ts) (l ∷ ls) once x y a b same =
    one_before (record { ticket = t; question = content_question known l }) (content_dues known ts ls) (λ k. HasContent k ls) (contents_text known ts ls) once.0 (one_content known ts ls once.1) x y a b same

-- a number is itself
same_number : (n : ℕ) → nat_eq n n ≡ true
same_number n = grind (arith, nat_tests)

or_first : (x y : Bool) → x ≡ true → x || y ≡ true
or_first true y e = refl
or_first false y e = absurd (true≢false (sym e))

or_second : (x y : Bool) → y ≡ true → x || y ≡ true
or_second true y e = refl
or_second false y e = e

-- the ticket of a file is one of a file
first_free : (t ticket : ℕ) (others : Bool) → ticket ≡ t → nat_eq t ticket || others ≡ false → ⊥
first_free t ticket others e free = true≢false (sym (or_first (nat_eq t ticket) others (subst (λ (n : ℕ). nat_eq t n ≡ true) (sym e) (same_number t))) ∙ free)

-- where nothing is due of the others
no_contents : (known : Known) (ts : List ℕ) (contents : List LaterContent) → ts ≡ [] → (x : Due) → IsDue x (content_dues known ts contents) → ⊥
no_contents known [] contents e x a = a
no_contents known (t ∷ ts) contents e x a = cc

no_files : (setting : CacheSetting) (known : Known) (ps : List (Option (ℕ × Parts))) (files : List RegistryFile) → ps ≡ [] → (x : Due) → IsDue x (file_dues setting known ps files) → ⊥
no_files setting known [] files e x a = a
no_files setting known (p ∷ ps) files e x a = cc

no_loads : (known : Known) (ps : List (Option (ℕ × Asked))) (loads : List Load) → ps ≡ [] → (x : Due) → IsDue x (dues_of known ps loads) → ⊥
no_loads known [] loads e x a = a
no_loads known (p ∷ ps) loads e x a = cc

-- the loads behind the first one
once_behind : (loads : List Load) → Once loads → Once (behind_first loads)
once_behind [] o = tt
once_behind (l ∷ ls) o = o.1

-- one that is due about a file that a pass wants has a ticket of those
among_files : (setting : CacheSetting) (known : Known) (ps : List (Option (ℕ × Parts))) (files : List RegistryFile) (x : Due) → IsDue x (file_dues setting known ps files) → is_among_files ps x.ticket ≡ true
among_files setting known [] files x a = absurd a
among_files setting known (p ∷ ps) [] x a = absurd a
among_files setting known (None ∷ ps) (file ∷ files) x a = among_files setting known ps files x a
among_files setting known (Some p ∷ ps) (file ∷ files) x (inl e) = or_first (nat_eq p.0 x.ticket) (is_among_files ps x.ticket) (subst (λ (t : ℕ). nat_eq t x.ticket ≡ true) (ap (λ (u : Due). u.ticket) e) (same_number x.ticket))
among_files setting known (Some p ∷ ps) (file ∷ files) x (inr a) = or_second (nat_eq p.0 x.ticket) (is_among_files ps x.ticket) (among_files setting known ps files x a)

module _ (b : OpenLoads) where
  -- what is due behind the turn that stands
  abbrev due_loads : List Load → List Due
  due_loads loads = dues_of (known_now b) b.behind loads

  abbrev due_files : List RegistryFile → List Due
  due_files files = file_dues (setting_for b.state.run) (known_now b) b.wanted files

  abbrev due_contents : List LaterContent → List Due
  due_contents contents = content_dues (known_now b) b.later contents

  -- where a load comes next, what is due behind it is about loads
  of_loads : FitsLoad b → (loads : List Load) (x : Due) → IsDue x (due_loads loads ++ (due_files b.state.wanted ++ due_contents b.state.contents)) → IsDue x (due_loads loads)
  of_loads fits loads x a = ⊎_elim (λ l. l)
      (λ r. absurd (⊎_elim
      (no_files (setting_for b.state.run) (known_now b) b.wanted b.state.wanted fits.no_file x)
      (no_contents (known_now b) b.later b.state.contents fits.no_content x)
      (due_cases x (due_files b.state.wanted) (due_contents b.state.contents) r)))
      (due_cases x (due_loads loads) (due_files b.state.wanted ++ due_contents b.state.contents) a)

  -- a question about a load, and those about the loads behind it
  one_load : FitsLoad b → (z : Due) (l : Load) (ls : List Load) → specifier_text z.question.specifier ≡ specifier_text l.specifier → Once (l ∷ ls) → IsOneOf (z ∷ (due_loads ls ++ (due_files b.state.wanted ++ due_contents b.state.contents)))
  one_load fits z l ls text once =
      one_before z (due_loads ls ++ (due_files b.state.wanted ++ due_contents b.state.contents)) (λ k. HasLoad k ls)
      (λ x a. dues_text (known_now b) b.behind ls x (of_loads fits ls x a))
      (λ h. once.0 (subst (λ k. HasLoad k ls) text h))
      (λ x y a c same. one_of (known_now b) b.behind ls once.1 x y (of_loads fits ls x a) (of_loads fits ls y c) same)

  -- two that are due about one text, under no ticket of a file, are one
  pub one_due : (stage : Stage) → FitsTurn b stage → Once b.state.loads → OnceContent b.state.contents → (x y : Due) → IsDue x (dues (setting_for b.state.run) (known_now b) stage b.behind b.state.loads b.wanted b.state.wanted b.later b.state.contents) → IsDue y (dues (setting_for b.state.run) (known_now b) stage b.behind b.state.loads b.wanted b.state.wanted b.later b.state.contents) → is_of_file stage x.ticket || is_among_files b.wanted x.ticket ≡ false → is_of_file stage y.ticket || is_among_files b.wanted y.ticket ≡ false → IsSame x.question.specifier y.question.specifier → x ≡ y
  one_due Idle fits once later x y a c free_x free_y same = absurd (⊎_elim
      (no_loads (known_now b) b.behind b.state.loads fits.1.no_load x)
      (λ r. ⊎_elim
      (no_files (setting_for b.state.run) (known_now b) b.wanted b.state.wanted fits.1.no_file x)
      (no_contents (known_now b) b.later b.state.contents fits.1.no_content x)
      (due_cases x (due_files b.state.wanted) (due_contents b.state.contents) r))
      (due_cases x (due_loads b.state.loads) (due_files b.state.wanted ++ due_contents b.state.contents) a))
  one_due (Asks t asked) fits once later x y a c free_x free_y same = by b.state.loads once a c
    where
      by : (loads : List Load) → Once loads → IsDue x (dues (setting_for b.state.run) (known_now b) (Asks t asked) b.behind loads b.wanted b.state.wanted b.later b.state.contents) → IsDue y (dues (setting_for b.state.run) (known_now b) (Asks t asked) b.behind loads b.wanted b.state.wanted b.later b.state.contents) → x ≡ y
      by [] o d e = absurd (dues_text (known_now b) b.behind [] x (of_loads fits.1 [] x d))
      by (l ∷ ls) o d e = one_load fits.1 (record { ticket = t; question = asked_question (known_now b) l asked }) l ls refl o x y d e same
  one_due (AsksAgain t asked first) fits once later x y a c free_x free_y same = by b.state.loads once a c
    where
      by : (loads : List Load) → Once loads → IsDue x (dues (setting_for b.state.run) (known_now b) (AsksAgain t asked first) b.behind loads b.wanted b.state.wanted b.later b.state.contents) → IsDue y (dues (setting_for b.state.run) (known_now b) (AsksAgain t asked first) b.behind loads b.wanted b.state.wanted b.later b.state.contents) → x ≡ y
      by [] o d e = absurd (dues_text (known_now b) b.behind [] x (of_loads fits.1 [] x d))
      by (l ∷ ls) o d e = one_load fits.1 (record { ticket = t; question = again_question (known_now b) l asked }) l ls refl o x y d e same
  one_due (Reads t nv at) fits once later x y a c free_x free_y same =
      let loads = behind_first b.state.loads in
      let not_first : (z : Due) → is_of_file (Reads t nv at) z.ticket || is_among_files b.wanted z.ticket ≡ false → z ≡ record { ticket = t; question = metadata_question (setting_for b.state.run) at (manifest_at (known_now b).manifests nv) } → ⊥ = λ z free e. first_free t z.ticket (is_among_files b.wanted z.ticket) (ap (λ (u : Due). u.ticket) e) free in
      ⊎_elim (λ d. absurd (not_first x free_x d))
      (λ d. ⊎_elim (λ e. absurd (not_first y free_y e))
      (λ e. one_of (known_now b) b.behind loads (once_behind b.state.loads once) x y (of_loads fits.1 loads x d) (of_loads fits.1 loads y e) same)
      c)
      a
  one_due (Looks t at) fits once later x y a c free_x free_y same = absurd (by b.state.wanted a)
    where
      behind : (files : List RegistryFile) → IsDue x (due_loads b.state.loads ++ (due_files files ++ due_contents b.state.contents)) → ⊥
      behind files d = ⊎_elim
          (no_loads (known_now b) b.behind b.state.loads fits.1.no_load x)
          (λ r. ⊎_elim
          (λ f. true≢false (sym (or_second (nat_eq t x.ticket) (is_among_files b.wanted x.ticket) (among_files (setting_for b.state.run) (known_now b) b.wanted files x f)) ∙ free_x))
          (no_contents (known_now b) b.later b.state.contents fits.1.no_content x)
          (due_cases x (due_files files) (due_contents b.state.contents) r))
          (due_cases x (due_loads b.state.loads) (due_files files ++ due_contents b.state.contents) d)

      by : (files : List RegistryFile) → IsDue x (dues (setting_for b.state.run) (known_now b) (Looks t at) b.behind b.state.loads b.wanted files b.later b.state.contents) → ⊥
      by [] d = behind [] d
      by (file ∷ files) (inl d) = first_free t x.ticket (is_among_files b.wanted x.ticket) (ap (λ (u : Due). u.ticket) d) free_x
      by (file ∷ files) (inr d) = behind files d
  one_due (Fills t) fits once later x y a c free_x free_y same = by b.state.contents later a c
    where
      alone : (contents : List LaterContent) (z : Due) → IsDue z (due_loads b.state.loads ++ (due_files b.state.wanted ++ due_contents contents)) → IsDue z (due_contents contents)
      alone contents z d = ⊎_elim
          (λ l. absurd (no_loads (known_now b) b.behind b.state.loads fits.1.no_load z l))
          (λ r. ⊎_elim
          (λ f. absurd (no_files (setting_for b.state.run) (known_now b) b.wanted b.state.wanted fits.1.no_file z f))
          (λ l. l)
          (due_cases z (due_files b.state.wanted) (due_contents contents) r))
          (due_cases z (due_loads b.state.loads) (due_files b.state.wanted ++ due_contents contents) d)

      by : (contents : List LaterContent) → OnceContent contents → IsDue x (dues (setting_for b.state.run) (known_now b) (Fills t) b.behind b.state.loads b.wanted b.state.wanted b.later contents) → IsDue y (dues (setting_for b.state.run) (known_now b) (Fills t) b.behind b.state.loads b.wanted b.state.wanted b.later contents) → x ≡ y
      by [] o d e = absurd (contents_text (known_now b) b.later [] x (alone [] x d))
      by (l ∷ ls) o d e =
          one_before (record { ticket = t; question = content_question (known_now b) l }) (due_loads b.state.loads ++ (due_files b.state.wanted ++ due_contents ls)) (λ k. HasContent k ls)
          (λ z u. contents_text (known_now b) b.later ls z (alone ls z u)) o.0
          (λ z u v w alike. one_content (known_now b) b.later ls o.1 z u (alone ls z v) (alone ls u w) alike) x y d e same
