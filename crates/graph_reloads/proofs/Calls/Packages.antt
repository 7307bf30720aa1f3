-- The packages of npm in the place of its modules.
use Rattle.std.proofs.Common.{◌≡◌, ℕ, List, Bool, true, false, Option, None, Some, refl, sym, ap, ◌∙◌, subst, inl, inr, ◌⊎◌, ⊎_elim, if◌then◌else◌}
use Rattle.std.specs.FinMap as finite
use Rattle.std.proofs.lemmas.Bool.{true≢false}
use Rattle.url.specs.Parts.{Parts}
use Rattle.spec_base.specs.Shown.{text_cmp}
use Rattle.spec_base.specs.Options.{by_option}
use Rattle.spec_base.specs.Specifier.{specifier_text}
use Rattle.npm_targets.specs.Edges.{is_npm}
use Rattle.npm_targets.specs.Graphs.{IsRepointed, left_redirects}
use Rattle.npm_targets.proofs.Standing.{no_npm_left, pending_left, redirect_left, stands_left}
use denote.Bor.{Bor}
use Rattle.source_io.specs.Resolvers.{ResolverMeaning, plain_meaning}
use Rattle.import_records.specs.Target.{NvOf, Resolving, is_told_resolver, told_resolving}
use Rattle.slot_making.specs.Filled.{filled_slot}
use Rattle.graph_core.specs.Graph.{has_slot, redirect_at}
use Rattle.slot_making.specs.Made.{made_slot}
use Rattle.slot_making.specs.declared.source.Source.{Source}
use Rattle.graph_core.specs.declared.graph.ModuleGraph.{ModuleGraph}
use Rattle.module_slots.specs.declared.load.Load.{Load}
use Rattle.module_slots.specs.declared.slot.Module.TheVariants.{Js, Json, Wasm, Npm, Node, External}
use Rattle.module_slots.specs.declared.slot.ModuleSlot.{ModuleSlot}
use Rattle.module_slots.specs.declared.slot.ModuleSlot.TheVariants.{Module as Stands, Err as Failed, Pending}
use Rattle.module_slots.specs.declared.slot.NpmModule.{NpmModule}
use Rattle.graph_turns.specs.Machine.Redirects.{HasNoCircle, RedirectsLead}
use Rattle.graph_turns.specs.Machine.Redirects.RedirectsLead.{last, onward}
use Rattle.turn_laws.specs.Promise.Complete.{NonePending}
use Rattle.graph_turns.specs.Promise.Explains.{AllExplained, Explains, IsExplained, IsGrown}
use Rattle.graph_turns.specs.Promise.Explains.Explains.{made, filled, unfilled, outside, at_hand, missing, refused, redirected, unread_version, unsupported_sum, ended, no_package, no_npm_package, npm_resolved, passed_through, package_unread, not_met, version_unread, no_export, unjoined, led_back, built_in, forbidden_asset}
use Rattle.graph_turns.specs.Machine.Runs.{told_first, told_for}
use Rattle.graph_turns.specs.Promise.Choices.{IsMade}
use Rattle.graph_turns.specs.Promise.Choices.IsMade.{at_once, once_more}
use Rattle.graph_turns.specs.declared.run.Run.TheVariants.{Second}
use Rattle.graph_turns.specs.Promise.Input.{EnteredGraph, Given, fresh_entry}
use Rattle.graph_turns.specs.Promise.Packages.{names_npm}
use Rattle.graph_turns.specs.Promise.Told.{Told, making_of}
use Rattle.turn_laws.proofs.Entering.Made.{makes}
use Rattle.graph_turns.proofs.Leading.Ends.{stands}
use Rattle.turn_laws.proofs.Promise.Filling.{IsFilled, how_filled}
use Rattle.turn_laws.proofs.Promise.Filling.IsFilled.{script, json, wasm, fails, stays}
use Rattle.graph_builder.specs.Calls.Over.{IsMended, entered}
use Rattle.graph_reloads.specs.Packages.{HasNoNpm, IsNpmAtNpm, resolving_by, without_npm}
use Rattle.source_io.specs.declared.types.World.{World}
use Rattle.graph_dependencies.specs.declared.graph_kind.GraphKind.{GraphKind}
use Rattle.graph_turns.specs.Machine.Entering.{begun_at}
use Rattle.graph_turns.specs.Machine.Known.{Known}
use Rattle.graph_turns.specs.declared.flags.Flags.{Flags}
use Rattle.open_loads.specs.Budget.Runs.{IsOver}
use Rattle.graph_builder.specs.Calls.Makers.{means_by}
use Rattle.build_options.specs.Telling.{Telling, without_locker}
use Rattle.build_options.specs.declared.options.BuildOptions.{BuildOptions}
use Rattle.graph_reloads.proofs.Calls.Over.{mended_over}

-- ---- circles

module _ (g u : ModuleGraph) (loads : List Load) (is : IsRepointed g u loads) where
  redirect_there : (k : List ℕ) → finite.get u.redirects k ≡ by_option (finite.get g.redirects k) None (λ s. if is_npm s then None else Some s)
  redirect_there k = ap (λ (x : ModuleGraph). finite.get x.redirects k) is.rest ∙ redirect_left g k

  -- a redirect that is left stood before, and leads to no specifier of npm
  redirect_was : (s t : Parts) → redirect_at u s ≡ Some t → (redirect_at g s ≡ Some t) × (is_npm t ≡ false)
  redirect_was s t e = by (finite.get g.redirects (specifier_text s)) refl
    where
      by_npm : (n : Parts) (b : Bool) → is_npm n ≡ b → finite.get g.redirects (specifier_text s) ≡ Some n → (redirect_at g s ≡ Some t) × (is_npm t ≡ false)
      by_npm n true npm at =
          absurd (let gone = sym e ∙ redirect_there (specifier_text s) ∙ ap (λ o. by_option o None (λ x. if is_npm x then None else Some x)) at ∙ ap (λ b. if b then None else Some n) npm in cc)
      by_npm n false other at =
          let same : Some t ≡ Some n = sym e ∙ redirect_there (specifier_text s) ∙ ap (λ o. by_option o None (λ x. if is_npm x then None else Some x)) at ∙ ap (λ b. if b then None else Some n) other in
          let is_t : n ≡ t = cc in
          (at ∙ ap Some is_t, ap is_npm (sym is_t) ∙ other)

      by : (o : Option Parts) → finite.get g.redirects (specifier_text s) ≡ o → (redirect_at g s ≡ Some t) × (is_npm t ≡ false)
      by None at = absurd (let gone = sym e ∙ redirect_there (specifier_text s) ∙ ap (λ o. by_option o None (λ x. if is_npm x then None else Some x)) at in cc)
      by (Some n) at = by_npm n (is_npm n) refl at

  -- where no slot is left at a specifier of another kind, none stood
  none_was : IsNpmAtNpm g → (s : Parts) → is_npm s ≡ false → has_slot u s ≡ false → has_slot g s ≡ false
  none_was at_npm s other free = by (finite.get u.slots (specifier_text s)) refl
    where
      by : (o : Option ModuleSlot) → finite.get u.slots (specifier_text s) ≡ o → has_slot g s ≡ false
      by None e = ⊎_elim
          (λ none. let n = none in cc)
          (λ npm. absurd (true≢false (sym (at_npm (specifier_text s) npm.0 npm.1) ∙ other)))
          (stands_left is (specifier_text s) e)
      by (Some slot) e = absurd (let at = e in cc)

  -- so redirects lead as they did
  leads_as_before : IsNpmAtNpm g → (s t : Parts) → is_npm s ≡ false → RedirectsLead u s t → RedirectsLead g s t × (is_npm t ≡ false)
  leads_as_before at_npm s t other (last free e) = let was = redirect_was s t e in (last (none_was at_npm s other free) was.0, was.1)
  leads_as_before at_npm s t other (onward {t = n} free e r) =
      let was = redirect_was s n e in
      let rest = leads_as_before at_npm n t was.1 r in
      (onward (none_was at_npm s other free) was.0 rest.0, rest.1)

  -- a way leads to no specifier of npm
  last_is_other : (s t : Parts) → RedirectsLead u s t → is_npm t ≡ false
  last_is_other s t (last free e) = (redirect_was s t e).1
  last_is_other s t (onward {t = n} free e r) = last_is_other n t r

  pub no_circle_left : IsNpmAtNpm g → HasNoCircle g → HasNoCircle u
  no_circle_left at_npm none s t r same =
      let other : is_npm s ≡ false = ap names_npm same ∙ last_is_other s t r in
      none s t (leads_as_before at_npm s t other r).0 same

  pub mended_left : IsNpmAtNpm g → HasNoCircle g → IsMended (entered u loads)
  mended_left at_npm none = mended_over u loads (no_circle_left at_npm none)

  pub none_pending_left : NonePending g → NonePending u
  none_pending_left settled k asset e = settled k asset (pending_left is k asset e)

-- ---- no module of npm

abbrev is_npm_slot : ModuleSlot → Bool
is_npm_slot (Stands (Js m)) = false
is_npm_slot (Stands (Json m)) = false
is_npm_slot (Stands (Wasm m)) = false
is_npm_slot (Stands (Npm m)) = true
is_npm_slot (Stands (Node m)) = false
is_npm_slot (Stands (External m)) = false
is_npm_slot (Failed e) = false
is_npm_slot (Pending asset) = false

filled_other : (v u : ModuleSlot) → IsFilled v u → is_npm_slot v ≡ false → is_npm_slot u ≡ false
filled_other v u (script m text) e = refl
filled_other v u (json m text) e = refl
filled_other v u (wasm m bytes declaration) e = refl
filled_other v u (fails p a r) e = refl
filled_other v u stays e = e

module _ (told : Told) (entry : EnteredGraph) where
  -- a slot is no module of npm, or stands at a specifier of npm where an npm resolver answers
  abbrev IsOther : List ℕ → ModuleSlot → Type 0
  IsOther k v = (is_npm_slot v ≡ false) ⊎ ((told.known.flags.resolves_npm ≡ true) × (names_npm k ≡ true))

  explained_other : (k : List ℕ) (slot : ModuleSlot) → IsExplained told entry k slot → IsOther k slot
  explained_other k slot (s, c, reached, how) = by how
    where
      source_makes : (source : Source) → is_npm_slot (made_slot (making_of told entry.graph.kind) source c) ≡ false
      source_makes source = makes (λ v. is_npm_slot v ≡ false) (λ e other. refl) (λ m. refl) (λ m. refl) (λ m. refl) (making_of told entry.graph.kind) source c

      by : {q : List ℕ} {v : ModuleSlot} → Explains told entry s c q v → IsOther q v
      by (made {source = source} counts none) = inl (source_makes source)
      by (filled {source = source} {content = content} counts comes same is) = inl (filled_other _ _ (how_filled content _) (source_makes source))
      by (unfilled comes at under none) = inl refl
      by (outside counts) = inl refl
      by (at_hand counts) = inl refl
      by (missing counts) = inl refl
      by (refused counts) = inl refl
      by (redirected counts held) = inl refl
      by (unread_version asks unread) = inl refl
      by (unsupported_sum allowed unsupported) = inl refl
      by (ended counts none there) = inl refl
      by (no_package names allowed fault) = inl refl
      by (no_npm_package names allowed fault) = inl refl
      by (npm_resolved names resolves allowed fits) = inr (resolves, names)
      by (passed_through names allowed fits through) = inl refl
      by (package_unread looked allowed file) = inl refl
      by (not_met looked allowed file none) = inl refl
      by (version_unread looked allowed fits unread) = inl refl
      by (no_export looked allowed fits read none) = inl refl
      by (unjoined looked allowed fits read export none) = inl refl
      by (led_back allowed export leads) = inl refl
      by (built_in is) = inl refl
      by (forbidden_asset is) = inl refl

  -- without an npm resolver no module of npm is new
  pub no_npm_new : told.known.flags.resolves_npm ≡ false → (old new : ModuleGraph) → IsRepointed old entry.graph entry.loads → IsGrown told entry new → HasNoNpm new
  no_npm_new off old new is grown k m e = ⊎_elim
      (λ stood. no_npm_left is k m stood)
      (λ explained. ⊎_elim (λ other. true≢false other) (λ npm. true≢false (sym npm.0 ∙ off)) (explained_other k (Stands (Npm m)) explained))
      (grown.slots k (Stands (Npm m)) e)

-- each module of npm that a build makes stands at a specifier of npm
all_at_npm : (told : Told) (given : Given) (g : ModuleGraph) → AllExplained told given g → IsNpmAtNpm g
all_at_npm told given g all k m e = ⊎_elim (λ other. absurd (true≢false other)) (λ npm. npm.1) (explained_other told (fresh_entry told given) k (Stands (Npm m)) (all.slots k (Stands (Npm m)) e))

pub npm_at_npm : (told : Told) (given : Given) (g : ModuleGraph) → IsMade told given g → IsNpmAtNpm g
npm_at_npm told given g (at_once is) = all_at_npm (told_first told) given g is.explained
npm_at_npm told given g (once_more {e = e} lacks found is) = all_at_npm (told_for told (Second e)) given g is.explained

-- ---- what texts are resolved by

if_some : {A : Type 0} (b : Bool) (x m : A) → (if b then Some x else None) ≡ Some m → (b ≡ true) × (x ≡ m)
if_some true x m e = (refl, some_same x m e)
  where
    some_same : {A : Type 0} (x m : A) → Some x ≡ Some m → x ≡ m
    some_same x m e = cc
if_some false x m e = absurd (let none = e in cc)

-- what is told is what texts are resolved by
pub told_by : {R : Type 0} (nv_of : NvOf) (is_told : R → Bool) (meaning : R → ResolverMeaning) (resolver : Option (Bor R)) (m : Resolving) → told_resolving nv_of is_told meaning resolver ≡ Some m → (is_told_resolver is_told resolver ≡ true) × (resolving_by nv_of meaning resolver ≡ m)
told_by nv_of is_told meaning None m e = (refl, (if_some true (record { resolver = plain_meaning; nv_of = nv_of }) m e).1)
told_by nv_of is_told meaning (Some l) m e = if_some (is_told l.now) (record { resolver = meaning l.now; nv_of = nv_of }) m e

-- ---- options

-- some options that get their npm resolver back
pub with_npm_again : {S L T U A R N C Q : Type 0} (old new : BuildOptions S L T U A R N C Q) → without_locker new ≡ without_locker (without_npm old) → without_locker (record new { npm_resolver = old.npm_resolver }) ≡ without_locker old
with_npm_again old new e = λ i. record (e i) { npm_resolver = old.npm_resolver }

-- ---- budgets

-- what is more than a budget over a graph that was made ready, by the kind of the graph that was handed in
pub over_repointed : {g u : ModuleGraph} {loads : List Load} → IsRepointed g u loads → (told : Option World) (most budget : ℕ) (known : Known) (telling : Telling) (flags : Flags) → IsOver most known told (means_by telling flags u.kind) (begun_at known (entered u loads)) budget → (entry : EnteredGraph) × IsRepointed g entry.graph entry.loads × IsOver most known told (means_by telling flags g.kind) (begun_at known entry) budget
over_repointed {g = g} {u = u} {loads = loads} is told most budget known telling flags over =
    (entered u loads, is, subst (λ (k : GraphKind). IsOver most known told (means_by telling flags k) (begun_at known (entered u loads)) budget) (ap (λ (x : ModuleGraph). x.kind) is.rest) over)
