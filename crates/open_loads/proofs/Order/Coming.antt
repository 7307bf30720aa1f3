-- What comes next: the load, file or content that a turn begins with, and what a turn without a question leaves.
use Rattle.std.proofs.Common.{◌≡◌, ◌⊎◌, ℕ, ◌+◌, ◌-◌, ◌≤◌, List, [], ◌∷◌, length, Bool, true, false, Option, None, Some, Result, Ok, refl, sym, ap, ◌∙◌, subst, inl, inr, ⊎_elim, arith}
use Rattle.std.proofs.lemmas.Bool.{true≢false}
use Rattle.std.specs.FinMap as finite
use Rattle.std.specs.FinMap.{get-empty}
use Rattle.std.specs.Ordering.{nat_cmp}
use Rattle.semver_npm.specs.Orders.{nv_cmp}
use Rattle.version_dates.specs.declared.newest_date.NewestDependencyDateOptions.{NewestDependencyDateOptions}
use Rattle.source_io.specs.declared.types.Answer.{Answer}
use Rattle.source_io.specs.declared.types.Question.{Question}
use Rattle.registry_urls.specs.Meaning.{RegistryMeaning}
use Rattle.registry_files.specs.Answers.{FileAnswer}
use Rattle.registry_files.specs.Kept.{Versions}
use Rattle.registry_files.specs.declared.kept_version.KeptVersion.{KeptVersion}
use Rattle.url.specs.Parts.{Parts}
use Rattle.graph_errors.specs.declared.jsr_error.JsrLoadError.{JsrLoadError}
use Rattle.graph_errors.specs.declared.jsr_error.JsrLoadError.TheVariants.{UnsupportedManifestChecksum}
use Rattle.module_slots.specs.declared.load.Load.{Load}
use Rattle.graph_turns.specs.declared.later_content.LaterContent.{LaterContent}
use Rattle.graph_turns.specs.declared.manner.Manner.{Manner}
use Rattle.graph_turns.specs.declared.manner.Manner.TheVariants.{Asks as IsAskedAs, Reads as ReadsFirst, Unread, Unsupported}
use Rattle.graph_turns.specs.declared.next.Next.{Next}
use Rattle.graph_turns.specs.declared.next.Next.TheVariants.{Notes, Load as ALoad, Wanted, Restart, Item, Versions as AllVersions, Exports, Deferred, Waiting, Dynamic, Content, End}
use Rattle.graph_turns.specs.declared.outcome.Outcome.{Outcome}
use Rattle.graph_turns.specs.declared.registry.RegistryFile.{RegistryFile}
use Rattle.graph_turns.specs.declared.registry.RegistryFile.TheVariants.{Package, PackageAgain, Version, Probe}
use Rattle.graph_turns.specs.declared.run.Run.{Run}
use Rattle.graph_turns.specs.declared.run.Run.TheVariants.{Only, First, Due as IsDueAgain, Second}
use Rattle.graph_turns.specs.declared.state.State.{State}
use Rattle.graph_turns.specs.Machine.Entering.{stored}
use Rattle.graph_turns.specs.Machine.Held.{AreNamed, IsHeld}
use Rattle.graph_turns.specs.Machine.Next.{next_of}
use Rattle.graph_turns.specs.Machine.Outcomes.{failure_outcome}
use Rattle.graph_turns.specs.Machine.RegistryFiles.{answer_kept, wanted_kept}
use Rattle.graph_turns.specs.Machine.Runs.{begun_again, cleared}
use Rattle.graph_turns.specs.Machine.Turns.{IsIdle, failing, gone_on}
use Rattle.graph_turns.proofs.Entering.Files.{wanted_first}
use Rattle.graph_turns.proofs.Entering.Held.{IsReadFor, held_failed}
use Rattle.graph_turns.proofs.Entering.Next.{NextIs, how_next}
use Rattle.graph_turns.proofs.Entering.Next.NextIs.{notes as comes_notes, loads as comes_load, wanted as comes_file, restart as comes_restart, item as comes_item, versions as comes_versions, exports as comes_exports, deferred as comes_deferred, waiting as comes_waiting, dynamic as comes_dynamic, content as comes_content, ends as comes_end}
use Rattle.graph_turns.proofs.Entering.Rested.{rests_judged, rests_asked, still_deferred, still_dynamic, still_exports, still_started}
use Rattle.graph_turns.proofs.Entering.Resting.{next_as}
use Rattle.open_loads.specs.declared.turn_stage.Stage.{Stage}
use Rattle.open_loads.specs.declared.turn_stage.Stage.TheVariants.{Idle, Asks, AsksAgain, Reads, Looks, Fills}
use Rattle.open_loads.specs.Order.Asking.{AreStored, through}
use Rattle.open_loads.specs.Order.Unused.{Due, IsDue}
use Rattle.open_loads.specs.Order.OpenLoads.{OpenLoads, known_now}
use Rattle.open_loads.specs.Order.Numbered.Arranged.{stands}
use Rattle.open_loads.specs.Order.Ordered.{FitsLoad, FitsTurn, IsInOrder, Numbered, all_due, asked_at}
use Rattle.open_loads.proofs.Order.Dues.{at_due}

-- ---- what is due under a ticket

pub asked_due : (b : OpenLoads) (x : Due) → IsInOrder b → IsDue x (all_due b) → asked_at b x.ticket ≡ Some x.question
asked_due b x order among = at_due (all_due b) x order.numbered.once among

-- the next question that is handed out is due
pub next_about : (b : OpenLoads) (q : Question) (queue : List Question) → IsInOrder b → b.queue ≡ q ∷ queue → asked_at b b.taken ≡ Some q
next_about b q queue order e =
    let n = subst (λ (l : List Question). Numbered l b.kept b.taken b.queued b.max_loads (all_due b)) e order.numbered in
    let first = subst (λ (k : ℕ). IsDue (record { ticket = k; question = q }) (all_due b)) (let same : b.taken + 0 ≡ b.taken = omega arith in same) (n.queue_due 0 q refl) in
    asked_due b (record { ticket = b.taken; question = q }) order first

-- what fits a turn doesn't hang on the queue, nor on kept answers
module _ (b : OpenLoads) (kept : finite.FinMap nat_cmp Answer) (taken : ℕ) (queue : List Question) where
  load_over : FitsLoad b → FitsLoad (record b { kept = kept; taken = taken; queue = queue })
  load_over f = record { places = f.places; no_file = f.no_file; no_content = f.no_content }

  pub fits_over : (s : Stage) → FitsTurn b s → FitsTurn (record b { kept = kept; taken = taken; queue = queue }) s
  fits_over Idle fits = (fits.0, record { no_load = fits.1.no_load; no_file = fits.1.no_file; no_content = fits.1.no_content })
  fits_over (Asks t asked) fits = (fits.0, load_over fits.1)
  fits_over (AsksAgain t asked first) fits = (fits.0, load_over fits.1)
  fits_over (Reads t nv at) fits = (fits.0, load_over fits.1)
  fits_over (Looks t at) fits = (fits.0, record { no_load = fits.1.no_load; places = fits.1.places; no_content = fits.1.no_content })
  fits_over (Fills t) fits = (fits.0, record { no_load = fits.1.no_load; no_file = fits.1.no_file; places = fits.1.places })

-- ---- lists and states

none_of : {X : Type 0} (xs : List X) → length xs ≡ 0 → xs ≡ []
none_of [] e = refl
none_of (x ∷ xs) e = absurd (omega arith)

-- a list no longer than one that is empty
pub none_within : {X Y : Type 0} (xs : List X) (ys : List Y) → length xs ≤ length ys → ys ≡ [] → xs ≡ []
none_within xs ys le e = none_of xs (let n : length ys ≡ 0 = ap length e in omega (arith, le, n))

-- a state by its parts
pub whole : (s : State) (load : Load) (loads : List Load) → s.loads ≡ load ∷ loads → s ≡ record s { loads = load ∷ loads }
whole s load loads e = ap (λ (l : List Load). record s { loads = l }) e

-- what stands in a state where a load comes next
pub record LoadComes (s : State) : Type 0 where
  pub no_note : s.notes ≡ []
  pub load : Load
  pub left : List Load
  pub are : s.loads ≡ load ∷ left

pub load_next_is : (s : State) → next_of s ≡ ALoad → LoadComes s
load_next_is s comes = by ALoad (subst (NextIs s) comes (how_next s)) refl
  where
    by : (n : Next) → NextIs s n → n ≡ ALoad → LoadComes s
    by n (comes_notes e) is = absurd (let wrong : Notes ≡ ALoad = is in cc)
    by n (comes_load {load} {others} none e) is = record { no_note = none; load = load; left = others; are = e }
    by n (comes_file a c e) is = absurd (let wrong : Wanted ≡ ALoad = is in cc)
    by n (comes_restart a c e d) is = absurd (let wrong : Restart ≡ ALoad = is in cc)
    by n (comes_item c p e i) is = absurd (let wrong : Item ≡ ALoad = is in cc)
    by n (comes_versions c p e i) is = absurd (let wrong : AllVersions ≡ ALoad = is in cc)
    by n (comes_exports c p e) is = absurd (let wrong : Exports ≡ ALoad = is in cc)
    by n (comes_deferred o e) is = absurd (let wrong : Deferred ≡ ALoad = is in cc)
    by n (comes_waiting o d e) is = absurd (let wrong : Waiting ≡ ALoad = is in cc)
    by n (comes_dynamic o d w e) is = absurd (let wrong : Dynamic ≡ ALoad = is in cc)
    by n (comes_content i e) is = absurd (let wrong : Content ≡ ALoad = is in cc)
    by n (comes_end i) is = absurd (let wrong : End ≡ ALoad = is in cc)

-- the same load comes next, whatever else changed
pub load_comes : (s u : State) → u.notes ≡ s.notes → u.loads ≡ s.loads → next_of s ≡ ALoad → next_of u ≡ ALoad
load_comes s u notes loads comes = let l = load_next_is s comes in next_as u ALoad (comes_load (notes ∙ l.no_note) (loads ∙ l.are))

-- where a file does
pub record FileComes (s : State) : Type 0 where
  pub no_note : s.notes ≡ []
  pub no_load : s.loads ≡ []
  pub file : RegistryFile
  pub files : List RegistryFile
  pub are : s.wanted ≡ file ∷ files

pub file_next_is : (s : State) → next_of s ≡ Wanted → FileComes s
file_next_is s comes = by Wanted (subst (NextIs s) comes (how_next s)) refl
  where
    by : (n : Next) → NextIs s n → n ≡ Wanted → FileComes s
    by n (comes_notes e) is = absurd (let wrong : Notes ≡ Wanted = is in cc)
    by n (comes_load none e) is = absurd (let wrong : ALoad ≡ Wanted = is in cc)
    by n (comes_file {file} {others} a c e) is = record { no_note = a; no_load = c; file = file; files = others; are = e }
    by n (comes_restart a c e d) is = absurd (let wrong : Restart ≡ Wanted = is in cc)
    by n (comes_item c p e i) is = absurd (let wrong : Item ≡ Wanted = is in cc)
    by n (comes_versions c p e i) is = absurd (let wrong : AllVersions ≡ Wanted = is in cc)
    by n (comes_exports c p e) is = absurd (let wrong : Exports ≡ Wanted = is in cc)
    by n (comes_deferred o e) is = absurd (let wrong : Deferred ≡ Wanted = is in cc)
    by n (comes_waiting o d e) is = absurd (let wrong : Waiting ≡ Wanted = is in cc)
    by n (comes_dynamic o d w e) is = absurd (let wrong : Dynamic ≡ Wanted = is in cc)
    by n (comes_content i e) is = absurd (let wrong : Content ≡ Wanted = is in cc)
    by n (comes_end i) is = absurd (let wrong : End ≡ Wanted = is in cc)

-- where a content does
pub record ContentComes (s : State) : Type 0 where
  pub idle : IsIdle s
  pub content : LaterContent
  pub contents : List LaterContent
  pub are : s.contents ≡ content ∷ contents

pub content_next_is : (s : State) → next_of s ≡ Content → ContentComes s
content_next_is s comes = by Content (subst (NextIs s) comes (how_next s)) refl
  where
    by : (n : Next) → NextIs s n → n ≡ Content → ContentComes s
    by n (comes_notes e) is = absurd (let wrong : Notes ≡ Content = is in cc)
    by n (comes_load none e) is = absurd (let wrong : ALoad ≡ Content = is in cc)
    by n (comes_file a c e) is = absurd (let wrong : Wanted ≡ Content = is in cc)
    by n (comes_restart a c e d) is = absurd (let wrong : Restart ≡ Content = is in cc)
    by n (comes_item c p e i) is = absurd (let wrong : Item ≡ Content = is in cc)
    by n (comes_versions c p e i) is = absurd (let wrong : AllVersions ≡ Content = is in cc)
    by n (comes_exports c p e) is = absurd (let wrong : Exports ≡ Content = is in cc)
    by n (comes_deferred o e) is = absurd (let wrong : Deferred ≡ Content = is in cc)
    by n (comes_waiting o d e) is = absurd (let wrong : Waiting ≡ Content = is in cc)
    by n (comes_dynamic o d w e) is = absurd (let wrong : Dynamic ≡ Content = is in cc)
    by n (comes_content {first} {others} i e) is = record { idle = i; content = first; contents = others; are = e }
    by n (comes_end i) is = absurd (let wrong : End ≡ Content = is in cc)

-- no load is open where it is neither a load nor what is noted
abbrev pub is_past : Next → Bool
is_past Notes = false
is_past ALoad = false
is_past Wanted = false
is_past Restart = true
is_past Item = true
is_past AllVersions = true
is_past Exports = true
is_past Deferred = true
is_past Waiting = true
is_past Dynamic = true
is_past Content = true
is_past End = true

no_loads : (s : State) (n : Next) → NextIs s n → is_past n ≡ true → s.loads ≡ []
no_loads s n (comes_notes e) past = absurd (true≢false (sym past))
no_loads s n (comes_load none e) past = absurd (true≢false (sym past))
no_loads s n (comes_file a c e) past = c
no_loads s n (comes_restart a c e d) past = c
no_loads s n (comes_item c p e i) past = c.no_load
no_loads s n (comes_versions c p e i) past = c.no_load
no_loads s n (comes_exports c p e) past = c.no_load
no_loads s n (comes_deferred o e) past = o.calm.no_load
no_loads s n (comes_waiting o d e) past = o.calm.no_load
no_loads s n (comes_dynamic o d w e) past = o.calm.no_load
no_loads s n (comes_content i e) past = i.none_open
no_loads s n (comes_end a) past = a.idle.none_open

-- ---- where no turn stands

-- the questions about files that were put are those about the first ones, and one of these comes next
pub record FilesFit (b : OpenLoads) : Type 0 where
  pub comes : next_of b.state ≡ Wanted
  pub fit : length b.wanted ≤ length b.state.wanted

pub record ContentsFit (b : OpenLoads) : Type 0 where
  pub comes : next_of b.state ≡ Content
  pub fit : length b.later ≤ length b.state.contents

-- a turn is through: loads, files and contents have their places in order
pub record IsReady (b : OpenLoads) : Type 0 where
  pub idle : b.stage ≡ Idle
  pub loads_fit : length b.behind ≤ length b.state.loads
  pub files_fit : (b.wanted ≡ []) ⊎ FilesFit b
  pub contents_fit : (b.later ≡ []) ⊎ ContentsFit b
  pub stored : AreStored (known_now b).store b.wanted b.state.wanted

-- no question about a file is put where something else comes next
abbrev pub is_wanted : Next → Bool
is_wanted Notes = false
is_wanted ALoad = false
is_wanted Wanted = true
is_wanted Restart = false
is_wanted Item = false
is_wanted AllVersions = false
is_wanted Exports = false
is_wanted Deferred = false
is_wanted Waiting = false
is_wanted Dynamic = false
is_wanted Content = false
is_wanted End = false

abbrev pub is_content : Next → Bool
is_content Notes = false
is_content ALoad = false
is_content Wanted = false
is_content Restart = false
is_content Item = false
is_content AllVersions = false
is_content Exports = false
is_content Deferred = false
is_content Waiting = false
is_content Dynamic = false
is_content Content = true
is_content End = false

module _ (b : OpenLoads) (ready : IsReady b) (n : Next) (comes : next_of b.state ≡ n) where
  pub no_file : is_wanted n ≡ false → b.wanted ≡ []
  no_file other = ⊎_elim (λ e. e) (λ (f : FilesFit b). absurd (true≢false (sym (ap is_wanted (sym comes ∙ f.comes)) ∙ other))) ready.files_fit

  pub no_content : is_content n ≡ false → b.later ≡ []
  no_content other = ⊎_elim (λ e. e) (λ (f : ContentsFit b). absurd (true≢false (sym (ap is_content (sym comes ∙ f.comes)) ∙ other))) ready.contents_fit

  pub no_ahead : is_past n ≡ true → b.behind ≡ []
  no_ahead past = none_within b.behind b.state.loads ready.loads_fit (no_loads b.state n (subst (NextIs b.state) comes (how_next b.state)) past)

-- ---- what a turn without a question leaves

files_began : (s : State) (run : Run) → AreNamed (finite.get s.files) → AreNamed (finite.get (begun_again s run).files)
files_began s Only named = named
files_began s (First start) named = named
files_began s (IsDueAgain start) named = subst (λ (v : Versions). AreNamed (finite.get v)) (sym (still_started (cleared s) start).files) (λ nv v e. absurd (let none = get-empty {X = Result KeptVersion JsrLoadError} nv_cmp nv in let at : finite.get (finite.empty {X = Result KeptVersion JsrLoadError} {R = nv_cmp}) nv ≡ Some (Ok v) = e in cc))
files_began s (Second e) named = named

some_same : (x y : Outcome) → Some x ≡ Some y → x ≡ y
some_same x y e = cc

-- a load that failed leaves versions held
pub failed_held : (most : ℕ) (rest : State) (one : Load) (m : Manner) (o : Outcome) → failing one m ≡ Some o → IsHeld rest → IsReadFor rest one → IsHeld (stored most rest one o)
failed_held most rest one (IsAskedAs asked) o f held read = absurd (let wrong : None ≡ Some o = f in cc)
failed_held most rest one (ReadsFirst nv) o f held read = absurd (let wrong : None ≡ Some o = f in cc)
failed_held most rest one (Unread name e) o f held read = subst (λ (x : Outcome). IsHeld (stored most rest one x)) (some_same (failure_outcome one.context name e) o f) (held_failed most rest one name e held read)
failed_held most rest one Unsupported o f held read = subst (λ (x : Outcome). IsHeld (stored most rest one x)) (some_same (failure_outcome one.context one.specifier UnsupportedManifestChecksum) o f) (held_failed most rest one one.specifier UnsupportedManifestChecksum held read)

-- versions are named by their files still
pub named_next : (registry : RegistryMeaning) (newest : NewestDependencyDateOptions) (s : State) (n : Next) → AreNamed (finite.get s.files) → AreNamed (finite.get (gone_on registry newest s n).files)
named_next registry newest s Notes named = named
named_next registry newest s ALoad named = named
named_next registry newest s Wanted named = named
named_next registry newest s Restart named = files_began s s.run named
named_next registry newest s Item named = subst (λ (v : Versions). AreNamed (finite.get v)) (sym (rests_judged newest s).files) named
named_next registry newest s AllVersions named = subst (λ (v : Versions). AreNamed (finite.get v)) (sym (rests_asked s).files) named
named_next registry newest s Exports named = subst (λ (v : Versions). AreNamed (finite.get v)) (sym (still_exports s).files) named
named_next registry newest s Deferred named = subst (λ (v : Versions). AreNamed (finite.get v)) (sym (still_deferred s).files) named
named_next registry newest s Waiting named = named
named_next registry newest s Dynamic named = subst (λ (v : Versions). AreNamed (finite.get v)) (sym (still_dynamic s).files) named
named_next registry newest s Content named = named
named_next registry newest s End named = named

-- what a file that a pass wants leaves, before the other ones
pub record LookedUp (s : State) (files : List RegistryFile) (u : State) : Type 0 where
  pub wanted : u.wanted ≡ files
  pub run : u.run ≡ s.run
  pub notes : u.notes ≡ s.notes
  pub loads : u.loads ≡ s.loads
  pub contents : u.contents ≡ s.contents

pub looked_up : (registry : RegistryMeaning) (s : State) (answer : FileAnswer) (file : RegistryFile) (files : List RegistryFile) → s.wanted ≡ file ∷ files → LookedUp s files (wanted_kept registry s answer)
looked_up registry s answer file files e = subst (LookedUp s files) (sym (wanted_first registry s answer file files e)) (by file)
  where
    by : (f : RegistryFile) → LookedUp s files (answer_kept registry (record s { wanted = files }) f answer)
    by (Package name) = record { wanted = refl; run = refl; notes = refl; loads = refl; contents = refl }
    by (PackageAgain name) = record { wanted = refl; run = refl; notes = refl; loads = refl; contents = refl }
    by (Version nv) = record { wanted = refl; run = refl; notes = refl; loads = refl; contents = refl }
    by (Probe nv) = record { wanted = refl; run = refl; notes = refl; loads = refl; contents = refl }

-- the other ones come next
pub files_come : (s u : State) (places : List (Option (ℕ × Parts))) (files : List RegistryFile) → LookedUp s files u → s.notes ≡ [] → s.loads ≡ [] → length files ≡ length places → (places ≡ []) ⊎ ((next_of u ≡ Wanted) × (length places ≤ length u.wanted))
files_come s u [] files k n l long = inl refl
files_come s u (p ∷ ps) [] k n l long = absurd (omega arith)
files_come s u (p ∷ ps) (file ∷ files) k n l long = inr (next_as u Wanted (comes_file (k.notes ∙ n) (k.loads ∙ l) k.wanted), (let m : length u.wanted ≡ length (file ∷ files) = ap length k.wanted in omega (arith, m, long)))
