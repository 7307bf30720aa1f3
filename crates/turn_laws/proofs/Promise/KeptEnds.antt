-- What is explained of a graph once nothing is open and no content is to come.
use Rattle.std.proofs.Common.{◌≡◌, ◌==◌, ℕ, zero, suc, List, [], ◌∷◌, length, Bool, true, false, ◌&&◌, not, Option, None, Some, Ok, refl, sym, ap, ◌∙◌, subst, inl, inr, ⊎_elim, ◌⊎◌, arith}
use Rattle.std.specs.FinMap as finite
use Rattle.std.specs.List.{Contains}
use Rattle.std.proofs.lemmas.Bool.{true≢false}
use Rattle.url.specs.Parts.{Parts}
use Rattle.graph_dependencies.specs.declared.referrer_imports.ReferrerImports.{ReferrerImports}
use Rattle.semver_npm.specs.declared.package.PackageNv.{PackageNv}
use Rattle.semver_npm.specs.declared.package.PackageReq.{PackageReq}
use Rattle.source_sums.specs.Sums.{KnownSums}
use Rattle.registry_files.specs.declared.kept_version.KeptVersion.{KeptVersion}
use Rattle.graph_dependencies.specs.declared.graph_kind.GraphKind.{GraphKind}
use Rattle.graph_errors.specs.declared.jsr_error.JsrLoadError.TheVariants.{PackageReqNotFound}
use Rattle.graph_core.specs.Graph.{new_graph}
use Rattle.module_slots.specs.Slots.{is_pending}
use Rattle.graph_core.specs.declared.graph.ModuleGraph.{ModuleGraph}
use Rattle.module_slots.specs.declared.slot.ModuleSlot.{ModuleSlot}
use Rattle.module_slots.specs.declared.slot.ModuleSlot.TheVariants.{Module as Stands, Err as Failed, Pending}
use Rattle.graph_turns.specs.declared.later_content.LaterContent.{LaterContent}
use Rattle.graph_turns.specs.declared.unresolved_input.LeftOver.{LeftOver}
use Rattle.graph_turns.specs.declared.run.Earlier.{Earlier}
use Rattle.graph_turns.specs.declared.run.Run.{Run}
use Rattle.graph_turns.specs.declared.next.Next.TheVariants.{End}
use Rattle.graph_turns.specs.declared.run.Run.TheVariants.{Only, First, Due, Second}
use Rattle.graph_turns.specs.declared.starting.ResolvedStart.{ResolvedStart}
use Rattle.graph_turns.specs.declared.state.State.{State}
use Rattle.graph_turns.specs.Machine.Runs.{begins_anew, earlier_sums, told_first, told_for}
use Rattle.graph_turns.specs.Machine.Sums.{sum_in}
use Rattle.graph_turns.specs.Machine.Next.{next_of}
use Rattle.graph_turns.specs.Machine.Starting.{start_entered, told_entry, told_start}
use Rattle.graph_turns.specs.Machine.Turns.{IsTurned, IsTurnedFrom, begun, turn, turns}
use Rattle.graph_turns.specs.Promise.Choices.{IsFoundBy, IsMade, IsMadeIn}
use Rattle.graph_turns.specs.Promise.Choices.IsMade.{at_once, once_more}
use Rattle.turn_laws.specs.Promise.Complete.{NonePending}
use Rattle.graph_turns.specs.Promise.Explains.{AllExplained, Awaits, IsExplained, IsGrown, IsReplaced, IsSourceSum}
use Rattle.graph_turns.specs.Promise.Input.{EnteredGraph, Given, fresh_entry, resolved_import}
use Rattle.graph_turns.specs.Promise.Runs.{InSomeRun, IsGrownBy, IsGrownTo, left_of}
use Rattle.graph_turns.specs.Promise.Slots.{jsr_slot}
use Rattle.graph_turns.specs.Promise.Told.{Told}
use Rattle.graph_turns.specs.Promise.Versions.{told_version}
use Rattle.graph_core.proofs.At.{nothing_in_empty}
use Rattle.graph_turns.proofs.Entering.Next.{turn_as}
use Rattle.graph_turns.proofs.Entering.Rested.{not_zero}
use Rattle.turn_laws.proofs.Promise.GraphKept.{GraphKept, IsAccounted, IsGone}
use Rattle.turn_laws.proofs.Promise.Kept.{Kept}
use Rattle.turn_laws.proofs.Promise.KeptTurns.{IsRunFrom, KeptInRun, begins_by, entry_by, entry_same, kept_begun, kept_turns, run_begun_of, same_length}
use Rattle.turn_laws.proofs.Promise.KeptTurns.IsRunFrom.{only, first, second}
use Rattle.turn_laws.proofs.Promise.Passing.{IsStage, RunBegins}
use Rattle.turn_laws.proofs.Promise.Passing.IsStage.{same as goes_on, due as due_again}
use Rattle.turn_laws.proofs.Promise.Unmet.{has_choices}
use Rattle.graph_turns.specs.Machine.Entering.{enter_all}

-- a slot of no load isn't pending
pub not_open : (slot : ModuleSlot) → ((asset : Bool) → slot ≡ Pending asset → ⊥) → is_pending slot ≡ false
not_open (Stands m) closed = refl
not_open (Failed e) closed = refl
not_open (Pending asset) closed = absurd (closed asset refl)

-- what the run before found stays so while a run goes on
earlier_stage : (begun run : Run) → IsStage begun run → earlier_sums run ≡ earlier_sums begun
earlier_stage begun run goes_on = refl
earlier_stage begun run (due_again first_one) = sym (ap earlier_sums first_one)

second_stage : (begun run : Run) (e : Earlier) → IsStage begun run → run ≡ Second e → begun ≡ Second e
second_stage begun run e goes_on is = is
second_stage begun run e (due_again {start = x} first_one) is = absurd (let wrong : Due x ≡ Second e = is in cc)

module _ (w : Told) (given : EnteredGraph) where
  -- where no content is to come, none is awaited
  none_awaits : (k : List ℕ) (slot : ModuleSlot) → Awaits w given [] k slot → ⊥
  none_awaits k slot awaits = let none = awaits.among.1 in omega (arith, none)

  pub explained_end : (k : List ℕ) (slot : ModuleSlot) → IsAccounted w given [] k slot → IsExplained w given k slot
  explained_end k slot accounted = ⊎_elim (λ x. x) (λ awaits. absurd (none_awaits k slot awaits)) accounted

  -- once no load is under way, what is gone was replaced
  gone_end : (g : ModuleGraph) (k : List ℕ) (old : ModuleSlot) → NonePending g → IsGone w given [] g k old → IsReplaced w given g k old
  gone_end g k old closed gone = ⊎_elim
      (λ f. inl (f.slot, f.here, explained_end k f.slot f.accounted))
      (λ a. inr (a.0, ⊎_elim (λ p. absurd (closed k p.0 p.1)) (λ r. r) a.1))
      gone

  -- each slot and redirect stood at entry or is explained, and what stood stays or was replaced
  pub grown_end : (g : ModuleGraph) → NonePending given.graph → NonePending g → GraphKept w given [] g → IsGrown w given g
  grown_end g settled closed kept = record {
    slots = λ k slot e. ⊎_elim (λ pending. absurd (closed k pending.0 (e ∙ ap Some pending.1))) (λ x. ⊎_elim inl (λ y. inr (explained_end k slot y)) x) (kept.slots k slot e);
    redirects = kept.redirects;
    slots_stay = λ k slot e. ⊎_elim inl (λ gone. inr (gone_end g k slot closed gone)) (kept.slots_stay k slot e (not_open slot (λ asset p. settled k asset (e ∙ ap Some p))));
    redirects_stay = kept.redirects_stay;
  }

  module _ (begins : RunBegins given) (s : State) (kept : Kept w given begins s) (none : s.contents ≡ []) where
    graph_end : GraphKept w given [] s.graph
    graph_end = subst (λ (ls : List LaterContent). GraphKept w given ls s.graph) none kept.graph

    pub grown_by : NonePending given.graph → NonePending s.graph → IsGrownBy s.graph w given
    grown_by settled closed = record { grown = grown_end s.graph settled closed graph_end; choices = has_choices w given s.contents s.graph kept.graph kept.packages }

-- the graph that a run makes of the empty one
pub made_in : (w : Told) (given : Given) (begins : RunBegins (fresh_entry w given)) (s : State) → Kept w (fresh_entry w given) begins s → s.contents ≡ [] → NonePending s.graph → IsMadeIn w given s.graph
made_in w given begins s kept none closed =
    let o : EnteredGraph = fresh_entry w given in
    let g = graph_end w o begins s kept none in
    record {
      explained = record {
        slots = λ k slot e. ⊎_elim (λ pending. absurd (closed k pending.0 (e ∙ ap Some pending.1))) (λ x. ⊎_elim (λ stood. absurd (nothing_in_empty k slot stood)) (λ y. explained_end w o k slot y) x) (g.slots k slot e);
        redirects = λ k n e. ⊎_elim (λ stood. absurd (nothing_in_empty k n stood)) (λ by. by) (g.redirects k n e);
      };
      choices = has_choices w o s.contents s.graph kept.graph kept.packages;
    }

-- nothing is pending as a run begins
pub settled_by : (dynamic : Bool) (g : ModuleGraph) (start : ResolvedStart) → NonePending g → (run : Run) → NonePending (entry_by dynamic g start run).graph
settled_by dynamic g start settled Only = settled
settled_by dynamic g start settled (First x) = settled
settled_by dynamic g start settled (Due x) = settled
settled_by dynamic g start settled (Second e) = λ k asset at. nothing_in_empty k (Pending asset) at

-- what a build of what is left over leaves of a graph, by the run that goes on
pub grown_to : (told : Told) (g : ModuleGraph) (left : LeftOver) (s : State) → KeptInRun told g (told_start told left) s → s.contents ≡ [] → NonePending g → NonePending s.graph → IsGrownTo told g left s.graph
grown_to told g left s k none settled closed =
    let dynamic = told.known.flags.is_dynamic in
    let start = told_start told left in
    record {
      run = k.begun;
      is_run = run_begun_of told g left k.begun k.is_run;
      holds = subst (λ (e : EnteredGraph). IsGrownBy s.graph (told_for told k.begun) e) (entry_same told g left k.begun)
          (grown_by (told_for told k.begun) (entry_by dynamic g start k.begun) (begins_by dynamic g start k.begun) s k.kept none (settled_by dynamic g start settled k.begun) closed);
    }

-- ---- the sums that runs found

module _ (told : Told) (g : ModuleGraph) (left : LeftOver) (s : State) (k : KeptInRun told g (told_start told left) s) where
  -- in the run that goes on
  now_run : (P : Told → EnteredGraph → Type 0) → P (told_for told k.begun) (entry_by told.known.flags.is_dynamic g (told_start told left) k.begun) → InSomeRun told g left P
  now_run P is = record {
    run = k.begun;
    is_run = run_begun_of told g left k.begun k.is_run;
    holds = subst (λ (e : EnteredGraph). P (told_for told k.begun) e) (entry_same told g left k.begun) is;
  }

  -- in the run before
  first_run : (P : Told → EnteredGraph → Type 0) → begins_anew g (told_start told left).roots (told_start told left).imports ≡ true → P (told_first told) (told_entry told g left) → InSomeRun told g left P
  first_run P anew is = record {
    run = First (told_start told left);
    is_run = run_begun_of told g left (First (told_start told left)) (first anew);
    holds = is;
  }

  -- what a run found
  found_before : (P : Told → EnteredGraph → Type 0) (run : Run) → IsRunFrom told g (told_start told left) run → ((e : Earlier) → run ≡ Second e → IsFoundBy (told_first told) (told_entry told g left) e → P (told_first told) (told_entry told g left)) → (run ≡ Only → ⊥) → ((x : ResolvedStart) → run ≡ First x → ⊥) → InSomeRun told g left P
  found_before P run (only f) by not_only not_first = absurd (not_only refl)
  found_before P run (first t) by not_only not_first = absurd (not_first (told_start told left) refl)
  found_before P run (second {e} t lacks found) by not_only not_first = first_run P t (by e refl found)

  -- each sum of a source that stands is that of a module that a run made
  pub sum_found : (text sum : List ℕ) → sum_in s.sums text ≡ Some sum → InSomeRun told g left (λ t entry. IsSourceSum t entry text sum)
  sum_found text sum at = ⊎_elim
      (λ old. found_before (λ t entry. IsSourceSum t entry text sum) k.begun k.is_run
      (λ e is found. found.sources text sum (ap (λ (o : Option KnownSums). sum_in o text) (sym (ap earlier_sums is)) ∙ (sym (ap (λ (o : Option KnownSums). sum_in o text) (earlier_stage k.begun s.run k.kept.run.stage)) ∙ old)))
      (λ is. none_before (ap earlier_sums is) old)
      (λ x is. none_before (ap earlier_sums is) old))
      (λ new. now_run (λ t entry. IsSourceSum t entry text sum) new)
      (k.kept.sums text sum at)
    where
      none_before : earlier_sums k.begun ≡ None → sum_in (earlier_sums s.run) text ≡ Some sum → ⊥
      none_before none old = let wrong : None ≡ Some sum = sym (ap (λ (o : Option KnownSums). sum_in o text) (earlier_stage k.begun s.run k.kept.run.stage ∙ none)) ∙ old in cc

  -- each version file that was read is one of the run
  pub read_now : (nv : PackageNv) (v : KeptVersion) → finite.get s.files nv ≡ Some (Ok v) → InSomeRun told g left (λ t entry. (x : KeptVersion) × (told_version t nv ≡ Ok x) × (x.file.checksum ≡ v.file.checksum))
  read_now nv v at = now_run (λ t entry. (x : KeptVersion) × (told_version t nv ≡ Ok x) × (x.file.checksum ≡ v.file.checksum)) (v, sym (k.kept.files nv (Ok v) at), refl)

  -- and so is each sum of one that the run before found
  pub manifest_found : (e : Earlier) (nv : PackageNv) (sum : List ℕ) → s.run ≡ Second e → finite.get e.manifests nv ≡ Some sum → InSomeRun told g left (λ t entry. (x : KeptVersion) × (told_version t nv ≡ Ok x) × (x.file.checksum ≡ sum))
  manifest_found e nv sum is at = by (second_stage k.begun s.run e k.kept.run.stage is) k.is_run
    where
      by : k.begun ≡ Second e → IsRunFrom told g (told_start told left) k.begun → InSomeRun told g left (λ t entry. (x : KeptVersion) × (told_version t nv ≡ Ok x) × (x.file.checksum ≡ sum))
      by is_second run = found_before (λ t entry. (x : KeptVersion) × (told_version t nv ≡ Ok x) × (x.file.checksum ≡ sum)) k.begun run
          (λ f is found. let one : e ≡ f = cc in found.manifests nv sum (subst (λ (x : Earlier). finite.get x.manifests nv ≡ Some sum) one at))
          (λ none. let wrong : Only ≡ Second e = sym none ∙ is_second in cc)
          (λ x none. let wrong : First x ≡ Second e = sym none ∙ is_second in cc)

-- ---- the graph that a build makes of the empty one
