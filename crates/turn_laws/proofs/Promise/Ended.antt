-- What the graph that a build leaves has of the state in which its turns end: slots are added alone, for `npm:` specifiers that waited.
use Rattle.std.proofs.Common.{◌≡◌, ℕ, ◌<◌, ◌+◌, List, [], ◌∷◌, length, Bool, true, false, if◌then◌else◌, is_some, Option, None, Some, Ok, Err, refl, sym, ap, ◌∙◌, subst, inl, inr, ⊎_elim, ◌⊎◌, arith}
use Rattle.std.specs.FinMap as finite
use Rattle.std.specs.List.{All, Contains, list_any}
use Rattle.std.proofs.lemmas.Bool.{true≢false}
use Rattle.url.specs.Parts.{Parts}
use Rattle.spec_base.specs.Specifier.{specifier_text}
use Rattle.semver_npm.specs.Orders.{nv_cmp}
use Rattle.semver_npm.specs.declared.package.PackageNv.{PackageNv}
use Rattle.semver_npm.specs.declared.package.PackageReq.{PackageReq}
use Rattle.npm_resolver.specs.declared.types.NpmTable.{NpmTable}
use Rattle.pkg_records.specs.Kept.{same_nv, versions_of}
use Rattle.version_dates.specs.Sets.{at_key}
use Rattle.version_dates.specs.declared.not_found.JsrPackageReqNotFoundError.{JsrPackageReqNotFoundError}
use Rattle.pkg_records.specs.declared.package_specifiers.PackageSpecifiers.{PackageSpecifiers}
use Rattle.registry_urls.specs.Meaning.{RegistryMeaning}
use Rattle.graph_errors.specs.declared.jsr_error.JsrLoadError.TheVariants.{PackageReqNotFound}
use Rattle.graph_core.specs.declared.graph.ModuleGraph.{ModuleGraph}
use Rattle.module_slots.specs.declared.slot.ModuleSlot.{ModuleSlot}
use Rattle.graph_core.specs.Graph.{has_slot, redirect_at}
use Rattle.module_slots.specs.Slots.{is_pending}
use Rattle.graph_turns.specs.declared.flags.Flags.{Flags}
use Rattle.module_slots.specs.declared.npm_load.NpmLoad.{NpmLoad}
use Rattle.graph_turns.specs.declared.run.Run.{Run}
use Rattle.graph_turns.specs.declared.unresolved_input.LeftOver.{LeftOver}
use Rattle.graph_turns.specs.declared.state.State.{State}
use Rattle.turn_laws.specs.Budget.Asked.{AsksAbout, AsksInRuns, HasPackage, IsAbout, IsChosen, IsKnown, NamesKnown}
use Rattle.graph_turns.specs.Machine.Npm.{IsEnded}
use Rattle.graph_turns.specs.Machine.Npm.IsEnded.{as_it_is, settled}
use Rattle.graph_turns.specs.Machine.Runs.{told_for}
use Rattle.graph_turns.specs.Machine.Starting.{told_start}
use Rattle.turn_laws.specs.Promise.Complete.{NonePending}
use Rattle.graph_turns.specs.Promise.Choices.{HasChoices, IsNotMet, IsPicked, Picks, SaysNotMet}
use Rattle.graph_turns.specs.Promise.Explains.{HasExplained, HasExplainedRedirect, IsExplained, IsGrown, IsReplaced}
use Rattle.graph_turns.specs.Promise.Input.{EnteredGraph, starts}
use Rattle.turn_laws.specs.Promise.Keeps.{IsReachedNpm}
use Rattle.graph_core.specs.Npm.{NpmResult, npm_slot}
use Rattle.graph_turns.specs.Promise.Runs.{IsGrownBy, IsGrownTo, IsRunOf}
use Rattle.graph_turns.specs.Promise.Slots.{jsr_slot}
use Rattle.graph_turns.specs.Promise.Taken.{ForContent, ForModule, ForPackage, ForProbe, ForVersion, Job, PutQuestion}
use Rattle.graph_turns.specs.Promise.Told.{Told}
use Rattle.graph_turns.proofs.Leading.Ends.{stands}
use Rattle.turn_laws.proofs.Leading.Paths.{End, Lead, lead_as, path_slot}
use Rattle.turn_laws.proofs.Promise.KeptEnds.{grown_by, settled_by}
use Rattle.turn_laws.proofs.Promise.KeptTurns.{KeptInRun, begins_by, entry_by, entry_same, run_begun_of}
use Rattle.turn_laws.proofs.Promise.Settled.{npm_alone as slot_alone, npm_final as slot_final, settled_ends, settled_explained, settled_from, settled_lead, settled_packages, settled_redirects, settled_starts, settled_still}
use Rattle.turn_laws.proofs.Promise.Sound.{AwaitsEnd, HasNpm, IsAlone, nothing}
use Rattle.turn_laws.proofs.Promise.Unmet.{npm_met, unmet_of}

-- a slot that an `npm:` specifier got
pub record IsNpmSlot (v : ModuleSlot) : Type 0 where
  pub item : NpmLoad
  pub said : NpmResult
  pub is : v ≡ npm_slot item.specifier item.context item.reference said

pub npm_final : (v : ModuleSlot) → IsNpmSlot v → is_pending v ≡ false
npm_final v npm = ap is_pending npm.is ∙ slot_final npm.item.specifier npm.item.context npm.item.reference npm.said

-- no edge leads on from it
pub npm_alone : (v : ModuleSlot) → IsNpmSlot v → IsAlone v
npm_alone v npm = subst IsAlone (sym npm.is) (slot_alone npm.item.specifier npm.item.context npm.item.reference npm.said)

-- slots are added alone
pub record EndsAs (s : State) (u : ModuleGraph) : Type 0 where
  pub still : (k : List ℕ) (v : ModuleSlot) → finite.get s.graph.slots k ≡ Some v → finite.get u.slots k ≡ Some v
  pub from : (k : List ℕ) (v : ModuleSlot) → finite.get u.slots k ≡ Some v → (finite.get s.graph.slots k ≡ Some v) ⊎ IsNpmSlot v
  pub lead : (x : List ℕ) → Lead s.graph (AwaitsEnd s) x → Lead u nothing x
  pub ends : (x : List ℕ) → End s.graph x → End u x
  pub redirects : u.redirects ≡ s.graph.redirects
  pub starts_are : starts u ≡ starts s.graph
  pub packages : u.packages ≡ s.graph.packages

pub ends_as : {table : Option NpmTable} (s : State) (u : ModuleGraph) → IsEnded table s u → EndsAs s u
ends_as s u (as_it_is none) = record {
  still = λ k v e. e;
  from = λ k v e. inl e;
  lead = λ x l. lead_as s.graph (AwaitsEnd s) nothing (λ e n. true≢false (sym n.0 ∙ none)) l;
  ends = λ x e. e;
  redirects = refl;
  starts_are = refl;
  packages = refl;
}
ends_as {table} s u (settled on is) = record {
  still = settled_still table s.npm s.graph u is;
  from = λ k v e. ⊎_elim inl (λ put. inr (record { item = put.0.0; said = put.0.1; is = put.3 })) (settled_from table s.npm s.graph u is k v e);
  lead = λ x l. settled_lead table s.npm s.graph u is x (lead_as s.graph (AwaitsEnd s) (λ e. HasNpm e s.npm) (λ e n. n.1) l);
  ends = settled_ends table s.npm s.graph u is;
  redirects = settled_redirects table s.npm s.graph u is;
  starts_are = settled_starts table s.npm s.graph u is;
  packages = settled_packages table s.npm s.graph u is;
}

-- where all leads to a slot, known redirects end
pub ends_at : (s : State) (u : ModuleGraph) → EndsAs s u → (x : List ℕ) → End s.graph x ⊎ Lead s.graph (AwaitsEnd s) x → End u x
ends_at s u adds x e = ⊎_elim (adds.ends x) (λ l. let lead = adds.lead x l in path_slot u lead.way (⊎_elim (λ t. t) (λ b. absurd b) lead.slot)) e

-- ---- what was asked about

module _ (s : State) (u : ModuleGraph) (adds : EndsAs s u) where
  stands_still : (k : List ℕ) → stands s.graph k ≡ true → stands u k ≡ true
  stands_still k t = by (finite.get s.graph.slots k) refl
    where
      by : (o : Option ModuleSlot) → finite.get s.graph.slots k ≡ o → stands u k ≡ true
      by (Some v) e = ap is_some (adds.still k v e)
      by None e = absurd (true≢false (sym t ∙ ap is_some e))

  pub known_ended : (p : Parts) → IsKnown s.graph p → IsKnown u p
  known_ended p known = ⊎_elim
      (λ t. inl (stands_still (specifier_text p) t))
      (λ r. inr (ap (λ m. is_some (finite.get m (specifier_text p))) adds.redirects ∙ r))
      known

  about_ended : (registry : RegistryMeaning) (p : Parts) (job : Job) → IsAbout registry s.graph p job → IsAbout registry u p job
  about_ended registry p ForModule known = known_ended p known
  about_ended registry p ForContent known = known_ended p known
  about_ended registry p (ForVersion nv) about = ⊎_elim
      (λ has. inl (ap (λ (ps : PackageSpecifiers). is_some (at_key nv_cmp ps.packages nv)) adds.packages ∙ has))
      (λ x. inr (⊎_elim (λ chosen. inl (ap (λ (ps : PackageSpecifiers). list_any (same_nv nv) (versions_of ps nv.name)) adds.packages ∙ chosen)) (λ known. inr (known_ended (registry.package_url nv) known)) x))
      about
  about_ended registry p (ForPackage name) named = (named.0, named.1, named.2, named.3, known_ended named.0 named.4)
  about_ended registry p (ForProbe nv) named = (named.0, named.1, named.2, named.3, known_ended named.0 named.4)

  all_ended : (registry : RegistryMeaning) (qs : List PutQuestion) → All (λ (q : PutQuestion). IsAbout registry s.graph q.specifier q.job) qs → All (λ (q : PutQuestion). IsAbout registry u q.specifier q.job) qs
  all_ended registry qs all = λ k d below. about_ended registry _ _ (all k d below)

  pub asks_ended : (registry : RegistryMeaning) (put : ℕ) → AsksInRuns registry s.graph put → AsksInRuns registry u put
  asks_ended registry put asks = record {
    put_before = asks.put_before;
    before = asks.before;
    put_since = asks.put_since;
    since = record { questions = asks.since.questions; once = asks.since.once; known = all_ended registry asks.since.questions asks.since.known; count = asks.since.count };
    count = asks.count;
  }

-- ---- what is explained

module _ (told : Told) (entry : EnteredGraph) (s : State) (u : ModuleGraph) (adds : EndsAs s u) where
  replaced_ended : (k : List ℕ) (old : ModuleSlot) → IsReplaced told entry s.graph k old → IsReplaced told entry u k old
  replaced_ended k old gone = ⊎_elim
      (λ (h : HasExplained told entry s.graph k). inl (h.0, adds.still k h.0 h.1, h.2))
      (λ a. inr (a.0, (a.1.0, ap (λ m. finite.get m k) adds.redirects ∙ a.1.1, a.1.2)))
      gone

  pub grown_ended : ((k : List ℕ) (v : ModuleSlot) → finite.get u.slots k ≡ Some v → (finite.get s.graph.slots k ≡ Some v) ⊎ IsExplained told entry k v) → IsGrown told entry s.graph → IsGrown told entry u
  grown_ended explained grown = record {
    slots = λ k v e. ⊎_elim (grown.slots k v) inr (explained k v e);
    redirects = λ k n e. grown.redirects k n (sym (ap (λ m. finite.get m k) adds.redirects) ∙ e);
    slots_stay = λ k v e. ⊎_elim (λ still. inl (adds.still k v still)) (λ gone. inr (replaced_ended k v gone)) (grown.slots_stay k v e);
    redirects_stay = λ k n e. ⊎_elim (λ still. inl (ap (λ m. finite.get m k) adds.redirects ∙ still)) (λ (h : HasExplainedRedirect told entry s.graph k). inr (h.0, ap (λ m. finite.get m k) adds.redirects ∙ h.1, h.2)) (grown.redirects_stay k n e);
  }

  picks_ended : (req : PackageReq) {info : _} {answer : _} → Picks told s.graph req info answer → Picks told u req info answer
  picks_ended req p = record { front = p.front; back = p.back; parts = ap (λ (ps : PackageSpecifiers). versions_of ps req.name) adds.packages ∙ p.parts; picks = p.picks }

  not_said : (p : Parts) (c : _) (e : JsrPackageReqNotFoundError) (v : ModuleSlot) → v ≡ jsr_slot p c (PackageReqNotFound e) → IsNpmSlot v → ⊥
  not_said p c e v is npm = let wrong : None ≡ Some e = sym (npm_met npm.item.specifier npm.item.context npm.item.reference npm.said) ∙ ap unmet_of (sym npm.is ∙ is) in cc

  pub choices_ended : HasChoices told entry s.graph → HasChoices told entry u
  choices_ended choices = record {
    mapped = λ req nv among. ⊎_elim inl (λ (p : IsPicked told s.graph req nv). inr (record { named = p.named; info = p.info; file = p.file; yanked = p.yanked; picked = picks_ended req p.picked }))
        (choices.mapped req nv (subst (λ (ps : PackageSpecifiers). Contains ps.package_reqs (req, nv)) adds.packages among));
    not_met = λ k e says. ⊎_elim inl (λ (n : IsNotMet told s.graph e). inr (record { info = n.info; file = n.file; picked = picks_ended e.req n.picked }))
        (choices.not_met k e (says.0, says.1, says.2, ⊎_elim (λ there. there) (λ npm. absurd (not_said says.0 says.1 e _ refl npm)) (adds.from k _ says.3)));
  }

-- by the table that is told: each slot stood, or is that of a reached specifier
pub explained_ended : (told : Told) (entry : EnteredGraph) (s : State) (u : ModuleGraph) → All (IsReachedNpm told entry) s.npm → IsEnded (Some told.npm) s u → (k : List ℕ) (v : ModuleSlot) → finite.get u.slots k ≡ Some v → (finite.get s.graph.slots k ≡ Some v) ⊎ IsExplained told entry k v
explained_ended told entry s u reached (as_it_is none) k v e = inl e
explained_ended told entry s u reached (settled on is) k v e = settled_explained told entry s.npm reached s.graph u is k v e

-- ---- the graph that is told

-- where no npm resolver is there, it is as turns leave it
pub ended_plain : {table : Option NpmTable} (s : State) (u : ModuleGraph) → s.flags.resolves_npm ≡ false → IsEnded table s u → u ≡ s.graph
ended_plain s u none (as_it_is f) = refl
ended_plain s u none (settled on is) = absurd (true≢false (sym on ∙ none))

-- ---- in the run that goes on

pub grown_by_end : (told : Told) (entry : EnteredGraph) (s : State) (u : ModuleGraph) → All (IsReachedNpm told entry) s.npm → IsEnded (Some told.npm) s u → IsGrownBy s.graph told entry → IsGrownBy u told entry
grown_by_end told entry s u reached ended by =
    let adds = ends_as s u ended in
    record {
      grown = grown_ended told entry s u adds (explained_ended told entry s u reached ended) by.grown;
      choices = choices_ended told entry s u adds by.choices;
    }

pub grown_to_end : (told : Told) (g : ModuleGraph) (left : LeftOver) (s : State) → KeptInRun told g (told_start told left) s → s.contents ≡ [] → NonePending g → NonePending s.graph → (u : ModuleGraph) → IsEnded (Some told.npm) s u → IsGrownTo told g left u
grown_to_end told g left s k none settled_so closed u ended =
    let dynamic = told.known.flags.is_dynamic in
    let start = told_start told left in
    record {
      run = k.begun;
      is_run = run_begun_of told g left k.begun k.is_run;
      holds = subst (λ (e : EnteredGraph). IsGrownBy u (told_for told k.begun) e) (entry_same told g left k.begun)
          (grown_by_end (told_for told k.begun) (entry_by dynamic g start k.begun) s u k.kept.npm ended
          (grown_by (told_for told k.begun) (entry_by dynamic g start k.begun) (begins_by dynamic g start k.begun) s k.kept none (settled_by dynamic g start settled_so k.begun) closed));
    }

-- no `npm:` specifier waits for the end in a build without an npm resolver
pub kept_plain : (told : Told) (g : ModuleGraph) (left : LeftOver) (s : State) → KeptInRun told g (told_start told left) s → ((run : Run) → IsRunOf told g left run → (told_for told run).known.flags.resolves_npm ≡ false) → s.flags.resolves_npm ≡ false
kept_plain told g left s k none = ap (λ (f : Flags). f.resolves_npm) k.kept.flags ∙ none k.begun (run_begun_of told g left k.begun k.is_run)
