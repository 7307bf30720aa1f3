-- While a build is in the static phase, what waits and stands in a pass is static, and what passes give is explained by a pair in that phase.
use Rattle.std.proofs.Common.{◌≡◌, List, [], ◌∷◌, Bool, true, false, Option, None, Some, refl, sym, ap, ◌∙◌, subst, inr}
use Rattle.std.specs.Prelude.{IfSome}
use Rattle.std.specs.FinMap as finite
use Rattle.std.specs.List.{All}
use Rattle.std.proofs.lemmas.List.Elements.{All-cons, All-head, All-nil, All-push, All-tail}
use Rattle.url.specs.Parts.{Parts}
use Rattle.spec_base.specs.Shown.{text_cmp}
use Rattle.spec_base.specs.Specifier.{specifier_text}
use Rattle.registry_files.specs.Answers.{FileAnswer}
use Rattle.registry_files.specs.Kept.{Versions}
use Rattle.registry_urls.specs.Meaning.{RegistryMeaning}
use Rattle.graph_errors.specs.Errors.{redirects_error}
use Rattle.module_slots.specs.declared.load.Load.{Load}
use Rattle.module_slots.specs.declared.load.LoadContext.{LoadContext}
use Rattle.module_slots.specs.declared.slot.ModuleSlot.{ModuleSlot}
use Rattle.module_slots.specs.declared.slot.ModuleSlot.TheVariants.{Err as Failed}
use Rattle.graph_turns.specs.declared.choosing.Verdict.{Verdict}
use Rattle.graph_turns.specs.declared.choosing.Verdict.TheVariants.{AsksAgain, Probes, Restarts, Gets, Fails}
use Rattle.graph_turns.specs.declared.passes.Chosen.{Chosen}
use Rattle.graph_turns.specs.declared.passes.Pass.{Pass}
use Rattle.graph_turns.specs.declared.registry.RegistryFile.{RegistryFile}
use Rattle.graph_turns.specs.declared.registry.RegistryFile.TheVariants.{Package, PackageAgain, Version, Probe}
use Rattle.graph_turns.specs.declared.state.State.{State}
use Rattle.graph_turns.specs.declared.waiting.WaitingPackage.{WaitingPackage}
use Rattle.graph_turns.specs.Machine.Choosing.{judged, judged_by}
use Rattle.graph_turns.specs.Machine.Held.{IsReadAt}
use Rattle.graph_turns.specs.Machine.Passes.{all_entered, export_entered, exports_entered, exports_entered_in, pass_begun, versions_asked, versions_asked_in}
use Rattle.graph_turns.specs.Machine.Redirects.{moved}
use Rattle.graph_turns.specs.Machine.RegistryFiles.{first_kept, wanted_kept}
use Rattle.graph_turns.specs.Machine.Turns.{deferred_entered, waited_loads}
use Rattle.graph_turns.specs.Machine.Waiting.{notes_added}
use Rattle.graph_turns.specs.Promise.Input.{Given, fresh_entry}
use Rattle.turn_laws.specs.Promise.Keeps.{IsReachedChoice, IsReachedItem}
use Rattle.graph_turns.specs.Promise.Packages.{unjoinable}
use Rattle.graph_turns.specs.Promise.Reached.{in_package}
use Rattle.graph_turns.specs.Promise.Reached.IsRedirected.{to_export}
use Rattle.graph_turns.specs.Promise.Slots.{jsr_slot}
use Rattle.graph_turns.specs.Promise.Told.{Told}
use Rattle.graph_turns.specs.Promise.Versions.{kept_of}
use Rattle.graph_turns.proofs.Entering.Exports.{ExportEntered, how_export, used}
use Rattle.graph_turns.proofs.Entering.Exports.ExportEntered.{refused, unjoined, ended, onward}
use Rattle.graph_turns.proofs.Entering.Judged.{Judges, how_judged}
use Rattle.graph_turns.proofs.Entering.Next.{IsCalm}
use Rattle.graph_turns.proofs.Entering.Rested.{still_export_entered}
use Rattle.turn_laws.proofs.Promise.GraphKept.{kept_moved}
use Rattle.turn_laws.proofs.Promise.Kept.{Kept, IsReadIn, waits_reached}
use Rattle.turn_laws.proofs.Promise.KeptPasses.{export_failed, export_used_is, is_export, kept_export, kept_gone_pass, kept_used, leads_back_here, not_joined_here, reached_there, verdict_explained}
use Rattle.turn_laws.proofs.Promise.Passing.{IsKnownChoice, PassKept, RunBegins, versions_there_now}
use Rattle.turn_laws.proofs.Promise.SoundTurned.{all_noted}
use Rattle.turn_laws.proofs.Promise.Storing.{how_moved}
use Rattle.turn_laws.proofs.Static.Part.{IsStatic}
use Rattle.turn_laws.proofs.Static.ReachedStatically.{IsStaticChoice, IsStaticItem, IsStaticWait, KeptStatically, static_enter, static_enter_all_by, static_file, static_moved, static_over, static_put}

module _ (told : Told) (given : Given) (begins : RunBegins (fresh_entry told given)) where
  abbrev KeepsStatic : State → Type 0
  KeepsStatic s = KeptStatically told given begins s

  abbrev IsKept : State → Type 0
  IsKept s = Kept told (fresh_entry told given) begins s

  pub static_notes : (registry : RegistryMeaning) (s : State) → KeepsStatic s → KeepsStatic (notes_added registry s)
  static_notes registry s now =
      let is = all_noted registry s.notes s.graph in
      static_over told given begins s (notes_added registry s)
      (λ k v e. now.slots k v (sym (ap (λ (m : finite.FinMap text_cmp ModuleSlot). finite.get m k) is.slots) ∙ e))
      refl refl refl refl now

  pub static_wanted : (registry : RegistryMeaning) (s : State) (answer : FileAnswer) → KeepsStatic s → KeepsStatic (wanted_kept registry s answer)
  static_wanted registry s answer now = by s.wanted
    where
      by : (files : List RegistryFile) → KeepsStatic (first_kept registry s answer files)
      by [] = now
      by (Package name ∷ files) = static_over told given begins s (first_kept registry s answer (Package name ∷ files)) now.slots refl refl refl refl now
      by (PackageAgain name ∷ files) = static_over told given begins s (first_kept registry s answer (PackageAgain name ∷ files)) now.slots refl refl refl refl now
      by (Probe nv ∷ files) = static_over told given begins s (first_kept registry s answer (Probe nv ∷ files)) now.slots refl refl refl refl now
      by (Version nv ∷ files) = static_file told given begins (record s { wanted = files }) nv (kept_of registry nv answer)
          (static_over told given begins s (record s { wanted = files }) now.slots refl refl refl refl now)

  pub static_pass : (s : State) → KeepsStatic s → KeepsStatic (pass_begun s)
  static_pass s now = record {
    slots = now.slots;
    loads = now.loads;
    deferred = now.deferred;
    waiting = All-nil IsStaticItem;
    items = now.waiting;
    chosen = All-nil IsStaticChoice;
  }

  pub static_versions : (s : State) → KeepsStatic s → KeepsStatic (versions_asked s)
  static_versions s now = by s.pass refl
    where
      by : (o : Option Pass) → s.pass ≡ o → KeepsStatic (versions_asked_in s o)
      by None e = now
      by (Some p) e = record {
        slots = now.slots;
        loads = now.loads;
        deferred = now.deferred;
        waiting = now.waiting;
        items = subst (λ (q : Option Pass). IfSome q (λ x. All IsStaticItem x.items)) e now.items;
        chosen = subst (λ (q : Option Pass). IfSome q (λ x. All IsStaticChoice x.chosen)) e now.chosen;
      }

  -- deferred loads enter
  pub static_deferred : (s : State) → IsKept s → KeepsStatic s → KeepsStatic (deferred_entered s)
  unfolding deferred_entered
  static_deferred s kept now =
      static_enter_all_by told given begins s.files kept.files (record s { deferred = [] }) (waited_loads s.deferred)
      record { flags = kept.flags; redirects = kept.graph.redirects; names = kept.names; files_are = refl }
      (waits_reached told (fresh_entry told given) begins s.deferred kept.deferred)
      (waits_read s.files s.deferred kept.held.deferred)
      (waits_static s.deferred now.deferred)
      record { slots = now.slots; loads = now.loads; deferred = All-nil IsStaticWait; waiting = now.waiting; items = now.items; chosen = now.chosen }
    where
      waits_read : (files : Versions) (es : List (Parts × LoadContext)) → All (λ (e : Parts × LoadContext). IsReadAt (finite.get files) e.1.«package») es → All (IsReadIn files) (waited_loads es)
      waits_read files [] all = All-nil (IsReadIn files)
      waits_read files (e ∷ es) all = All-cons (IsReadIn files) (record { specifier = e.0; context = e.1; is_type = false }) (waited_loads es) (All-head (λ (x : Parts × LoadContext). IsReadAt (finite.get files) x.1.«package») e es all) (waits_read files es (All-tail (λ (x : Parts × LoadContext). IsReadAt (finite.get files) x.1.«package») e es all))

      waits_static : (es : List (Parts × LoadContext)) → All IsStaticWait es → All IsStatic (waited_loads es)
      waits_static [] all = All-nil IsStatic
      waits_static (e ∷ es) all = All-cons IsStatic (record { specifier = e.0; context = e.1; is_type = false }) (waited_loads es) (All-head IsStaticWait e es all) (waits_static es (All-tail IsStaticWait e es all))

  -- ---- the first specifier is judged

  module _ (s : State) (p : Pass) (first : WaitingPackage) (others : List WaitingPackage) (calm : IsCalm s) (goes : s.pass ≡ Some p) (judging : p.is_entering ≡ false) (items : p.items ≡ first ∷ others) (kept : Kept told (fresh_entry told given) begins s) (now : KeptStatically told given begins s) where
    passing : PassKept told (fresh_entry told given) s.packages s.files s.wanted (Some p)
    passing = subst (PassKept told (fresh_entry told given) s.packages s.files s.wanted) goes kept.pass

    all_items : All IsStaticItem (first ∷ others)
    all_items = subst (All IsStaticItem) items (subst (λ (q : Option Pass). IfSome q (λ x. All IsStaticItem x.items)) goes now.items)

    all_chosen : All IsStaticChoice p.chosen
    all_chosen = subst (λ (q : Option Pass). IfSome q (λ x. All IsStaticChoice x.chosen)) goes now.chosen

    static_verdict : (v : Verdict) → Judges told.newest s p first others v → KeepsStatic (judged_by s p first others v)
    static_verdict (AsksAgain name) by = static_over told given begins s (judged_by s p first others (AsksAgain name)) now.slots refl refl refl refl now
    static_verdict (Probes nvs) by = static_over told given begins s (judged_by s p first others (Probes nvs)) now.slots refl refl refl refl now
    static_verdict Restarts by = static_over told given begins s (judged_by s p first others Restarts) now.slots refl refl refl refl now
    static_verdict (Gets nv yanked) by = record {
      slots = now.slots;
      loads = now.loads;
      deferred = now.deferred;
      waiting = now.waiting;
      items = All-tail IsStaticItem first others all_items;
      chosen = All-push IsStaticChoice p.chosen (record { item = first; nv = nv }) all_chosen (All-head IsStaticItem first others all_items);
    }
    static_verdict (Fails e) by =
        let item : IsReachedItem told (fresh_entry told given) first = All-head (IsReachedItem told (fresh_entry told given)) first others (subst (All (IsReachedItem told (fresh_entry told given))) items passing.of_pass.items) in
        record {
          slots = static_put told given s.graph (specifier_text first.specifier) (jsr_slot first.specifier first.context e)
              (inr (first.specifier, first.context, item.reached, All-head IsStaticItem first others all_items, verdict_explained told (fresh_entry told given) begins s p first others calm goes judging items kept e by)) now.slots;
          loads = now.loads;
          deferred = now.deferred;
          waiting = now.waiting;
          items = All-tail IsStaticItem first others all_items;
          chosen = all_chosen;
        }

    pub static_judged : KeepsStatic (judged told.newest s)
    static_judged = let j = how_judged told.newest s p first others goes items in subst KeepsStatic (sym j.is) (static_verdict j.verdict j.by)

  -- ---- exports

  static_export : (s : State) (top : Bool) (one : Chosen) (u : State) → ExportEntered s top one u → IsKept s → IsReachedChoice told (fresh_entry told given) one → IsKnownChoice told (fresh_entry told given) s.files one → IsStaticChoice one → KeepsStatic s → KeepsStatic u
  static_export s top one u (refused {e} is) kept reached known static now =
      static_over told given begins s u
      (static_put told given s.graph (specifier_text one.item.specifier) (jsr_slot one.item.specifier one.item.context e)
      (inr (one.item.specifier, one.item.context, reached.item.reached, static, export_failed told (fresh_entry told given) begins s one kept reached known e is)) now.slots)
      refl refl refl refl now
  static_export s top one u (unjoined {e} is none) kept reached known static now =
      static_over told given begins s u
      (static_put told given (used s top one e).graph (specifier_text one.item.specifier) (jsr_slot one.item.specifier one.item.context (unjoinable one.nv e))
      (inr (one.item.specifier, one.item.context, reached.item.reached, static, not_joined_here told (fresh_entry told given) begins s one kept reached known top e is none)) now.slots)
      refl refl refl refl now
  static_export s top one u (ended {e} {to} is leads back) kept reached known static now =
      static_over told given begins s u
      (static_put told given (used s top one e).graph (specifier_text one.item.specifier) (Failed (redirects_error one.item.specifier one.item.context.range))
      (inr (one.item.specifier, one.item.context, reached.item.reached, static, leads_back_here told (fresh_entry told given) begins s one kept reached known top e is to leads back)) now.slots)
      refl refl refl refl now
  static_export s top one u (onward {e} {to} is leads back) kept reached known static now =
      let o = fresh_entry told given in
      let g = (used s top one e).graph in
      let next : Load = record { specifier = to; context = in_package (Some one.nv) one.item.context; is_type = false } in
      let uses = kept_used told o begins s one kept reached known top e is in
      static_enter told given begins s.files kept.files (record (used s top one e) { graph = moved g one.item.specifier to }) next
      record {
        flags = kept.flags;
        redirects = (kept_moved told o s.contents g one.item.specifier to uses.graph (one.item.specifier, one.item.context, reached.item.reached, refl, to_export (is_export told o begins s one kept reached known top e is to leads))).redirects;
        names = kept.names;
        files_are = refl;
      }
      (reached_there told o begins s one kept reached known top e is to leads)
      (export_used_is told o begins s one kept e is).1
      static
      (static_over told given begins s (record (used s top one e) { graph = moved g one.item.specifier to })
      (static_moved told given g one.item.specifier to (moved g one.item.specifier to) (how_moved g one.item.specifier to) now.slots)
      refl refl refl refl now)

  static_all : (s : State) (top : Bool) (all : List Chosen) → IsKept s → All (IsReachedChoice told (fresh_entry told given)) all → All (IsKnownChoice told (fresh_entry told given) s.files) all → All IsStaticChoice all → KeepsStatic s → KeepsStatic (all_entered s top all)
  unfolding all_entered
  static_all s top [] kept reached known static now = now
  static_all s top (one ∷ others) kept reached known static now =
      let o = fresh_entry told given in
      let r = All-head (IsReachedChoice told o) one others reached in
      let k = All-head (IsKnownChoice told o s.files) one others known in
      static_all (export_entered s top one) top others
      (kept_export told o begins s top one (export_entered s top one) (how_export s top one) kept r k)
      (All-tail (IsReachedChoice told o) one others reached)
      (subst (λ (f : Versions). All (IsKnownChoice told o f) others) (sym (still_export_entered s top one).files) (All-tail (IsKnownChoice told o s.files) one others known))
      (All-tail IsStaticChoice one others static)
      (static_export s top one (export_entered s top one) (how_export s top one) kept r k (All-head IsStaticChoice one others static) now)

  pub static_exports : (s : State) (p : Pass) → IsCalm s → s.pass ≡ Some p → p.is_entering ≡ true → IsKept s → KeepsStatic s → KeepsStatic (exports_entered s)
  static_exports s p calm goes entering kept now =
      let o = fresh_entry told given in
      let passing : PassKept told o s.packages s.files s.wanted (Some p) = subst (PassKept told o s.packages s.files s.wanted) goes kept.pass in
      subst (λ q. KeepsStatic (exports_entered_in s q)) (sym goes)
      (static_all (record s { pass = None }) p.is_top_level p.chosen
      (kept_gone_pass told o begins s kept)
      passing.of_pass.chosen
      (versions_there_now told o s.packages s.files s.wanted p entering calm.no_file passing)
      (subst (λ (q : Option Pass). IfSome q (λ x. All IsStaticChoice x.chosen)) goes now.chosen)
      record { slots = now.slots; loads = now.loads; deferred = now.deferred; waiting = now.waiting; items = tt; chosen = tt })
