-- One load that enters: it is refused, finds a slot, waits for an asset, its version has its sum in no form that is known, it is a
-- module of Node.js, it names no package that can be looked for, stands outside of the graph, waits for a pass or for the end, or it opens.
use Rattle.std.proofs.Common.{◌≡◌, List, [], ◌∷◌, ◌++◌, Bool, true, false, ◌&&◌, ◌||◌, not, Option, None, Some, is_some, Result, Ok, Err, refl, sym, ap, ◌∙◌, subst, if◌then◌else◌}
use Rattle.std.specs.FinMap as finite
use Rattle.url.specs.Parts.{Parts}
use Rattle.spec_base.specs.Options.{by_option}
use Rattle.graph_errors.specs.declared.errors.ModuleErrorKind.{ModuleErrorKind}
use Rattle.module_slots.specs.declared.load.Load.{Load}
use Rattle.module_slots.specs.declared.load.LoadContext.{LoadContext}
use Rattle.graph_core.specs.Graph.{has_slot, slot_at, with_slot}
use Rattle.module_slots.specs.Slots.{failed_slot}
use Rattle.graph_turns.specs.declared.state.State.{State}
use Rattle.graph_turns.specs.Promise.Forbidden.{forbidden}
use Rattle.graph_turns.specs.Machine.Manners.{unsupported}
use Rattle.graph_turns.specs.Machine.Redirects.{redirected_end}
use Rattle.graph_turns.specs.Machine.Npm.{npm_waiting_with}
use Rattle.graph_core.specs.Npm.{npm_waiting_at}
use Rattle.graph_turns.specs.Promise.Taken.{is_built_in, is_unasked, waits_for_npm}
use Rattle.semver_npm.specs.declared.npm_error.NpmLoadError.TheVariants.{PackageReqReferenceParse}
use Rattle.semver_npm.specs.declared.npm_error.PackageReqReferenceParseError.{PackageReqReferenceParseError}
use Rattle.semver_npm.specs.declared.reference.NpmPackageReqReference.{NpmPackageReqReference}
use Rattle.semver_npm.specs.declared.reference.PackageReqReference.{PackageReqReference}
use Rattle.graph_errors.specs.declared.errors.ModuleErrorKind.TheVariants.{Load as LoadFails}
use Rattle.graph_errors.specs.declared.errors.ModuleLoadError.TheVariants.{Jsr, Npm}
use Rattle.graph_errors.specs.declared.jsr_error.JsrLoadError.TheVariants.{PackageFormat}
use Rattle.graph_errors.specs.declared.jsr_error.JsrPackageFormatError.{JsrPackageFormatError}
use Rattle.graph_turns.specs.declared.dependencies.Note.{Note}
use Rattle.graph_turns.specs.Promise.Packages.{is_jsr, is_npm, is_package, is_refused_npm, jsr_named, npm_named}
use Rattle.graph_turns.specs.Promise.Slots.{external_slot}
use Rattle.graph_turns.specs.Machine.Waiting.{note_of, noting, waiting_at, with_note}
use Rattle.graph_turns.specs.Machine.Entering.{admitted, enter, enter_all, enter_edge, entered_at, received, received_jsr, received_npm, deferred_with, is_shut, opened, package_kept, queued, refused_at, stopped, unstopped, waits_for_asset, with_mark, with_node}

-- notes once a load was noted
abbrev notes_after : State → Option Note → List Note
notes_after s None = s.notes
notes_after s (Some note) = s.notes ++ note ∷ []

noting_is : (s : State) (o : Option Note) → with_note s o ≡ record s { notes = notes_after s o }
noting_is s None = refl
noting_is s (Some note) = refl

-- how a load is received at the end of the known redirects; whatever is noted then
pub data Entered (s : State) (c : LoadContext) (at : Parts) : State → Type 0 where
  refused : {kind : ModuleErrorKind} → forbidden s.flags at c ≡ Some kind → Entered s c at (refused_at s at kind)
  waits : {notes : List Note} → is_shut (slot_at s.graph at) c ≡ true → waits_for_asset s c at ≡ true → Entered s c at (record s { notes = notes; deferred = deferred_with s.deferred at c })
  stood : {notes : List Note} → is_shut (slot_at s.graph at) c ≡ true → Entered s c at (record s { notes = notes })
  unstated : {kind : ModuleErrorKind} → forbidden s.flags at c ≡ None → is_shut (slot_at s.graph at) c ≡ false → unsupported (finite.get s.files) at c ≡ Some kind → Entered s c at (refused_at s at kind)
  node : is_shut (slot_at s.graph at) c ≡ false → is_built_in at ≡ true → Entered s c at (record s { graph = with_node s.graph at })
  no_package : {e : JsrPackageFormatError} → forbidden s.flags at c ≡ None → is_shut (slot_at s.graph at) c ≡ false → is_jsr at ≡ true → jsr_named at ≡ Err e → Entered s c at (refused_at s at (LoadFails at c.range (Jsr (PackageFormat e))))
  no_npm_package : {e : PackageReqReferenceParseError} → forbidden s.flags at c ≡ None → is_shut (slot_at s.graph at) c ≡ false → is_npm at ≡ true → npm_named at ≡ Err e → Entered s c at (refused_at s at (LoadFails at c.range (Npm (PackageReqReferenceParse e))))
  passed_through : {notes : List Note} {r : PackageReqReference} → forbidden s.flags at c ≡ None → is_shut (slot_at s.graph at) c ≡ false → is_jsr at ≡ true → jsr_named at ≡ Ok r → s.flags.passthrough_jsr ≡ true → Entered s c at (record s { notes = notes; graph = with_slot s.graph at (external_slot at false) })
  stays : {notes : List Note} → is_jsr at ≡ true → has_slot s.graph at ≡ true → Entered s c at (record s { notes = notes })
  awaits : {notes : List Note} {r : PackageReqReference} → forbidden s.flags at c ≡ None → has_slot s.graph at ≡ false → is_jsr at ≡ true → jsr_named at ≡ Ok r → s.flags.passthrough_jsr ≡ false → Entered s c at (record s { notes = notes; waiting = s.waiting ++ waiting_at at r c ∷ [] })
  opens : {notes : List Note} → forbidden s.flags at c ≡ None → is_shut (slot_at s.graph at) c ≡ false → is_unasked s.flags at ≡ false → Entered s c at (opened (record s { notes = notes }) c at)
  resolves : {notes : List Note} {r : NpmPackageReqReference} → forbidden s.flags at c ≡ None → is_shut (slot_at s.graph at) c ≡ false → is_npm at ≡ true → s.flags.resolves_npm ≡ true → npm_named at ≡ Ok r → Entered s c at (record s { notes = notes; npm = s.npm ++ npm_waiting_at at r c ∷ [] })

none_refused : (b x : Bool) → x ≡ false → (if b then x else false) ≡ false
none_refused true x e = e
none_refused false x e = refl

and_none : (a b : Bool) → b ≡ false → (a && b) ≡ false
and_none true b e = e
and_none false b e = refl

module _ (s : State) (c : LoadContext) (at : Parts) where
  is_asked_at : is_built_in at ≡ false → is_jsr at ≡ false → (if is_npm at then is_refused_npm (npm_named at) else false) ≡ false → waits_for_npm s.flags at ≡ false → is_unasked s.flags at ≡ false
  is_asked_at built jsr npm no_wait =
      ap (λ b. b || (is_package at || waits_for_npm s.flags at)) built
      ∙ (ap (λ b. (b || (if is_npm at then is_refused_npm (npm_named at) else false)) || waits_for_npm s.flags at) jsr
      ∙ (ap (λ b. b || waits_for_npm s.flags at) npm ∙ no_wait))

  module _ (free : forbidden s.flags at c ≡ None) (open_there : is_shut (slot_at s.graph at) c ≡ false) where
    how_kept : (r : PackageReqReference) → is_jsr at ≡ true → jsr_named at ≡ Ok r → (o : Option Note) → Entered s c at (package_kept (with_note s o) c at r)
    how_kept r jsr named o = subst (λ x. Entered s c at (package_kept x c at r)) (sym (noting_is s o)) (by_flag s.flags.passthrough_jsr refl)
      where
        by_slot : Bool → State
        by_slot b = if b then record s { notes = notes_after s o } else record s { notes = notes_after s o; waiting = s.waiting ++ waiting_at at r c ∷ [] }

        by_both : Bool → State
        by_both b = if b then record s { notes = notes_after s o; graph = with_slot s.graph at (external_slot at false) } else by_slot (has_slot s.graph at)

        by_standing : s.flags.passthrough_jsr ≡ false → (b : Bool) → has_slot s.graph at ≡ b → Entered s c at (by_slot (has_slot s.graph at))
        by_standing p true stands = subst (Entered s c at) (sym (ap by_slot stands)) (stays jsr stands)
        by_standing p false stands = subst (Entered s c at) (sym (ap by_slot stands)) (awaits free stands jsr named p)

        by_flag : (b : Bool) → s.flags.passthrough_jsr ≡ b → Entered s c at (by_both s.flags.passthrough_jsr)
        by_flag true p = subst (Entered s c at) (sym (ap by_both p)) (passed_through free open_there jsr named p)
        by_flag false p = subst (Entered s c at) (sym (ap by_both p)) (by_standing p (has_slot s.graph at) refl)

    how_jsr : is_jsr at ≡ true → (r : Result PackageReqReference JsrPackageFormatError) → jsr_named at ≡ r → Entered s c at (received_jsr s c at r)
    how_jsr jsr (Ok r) named = how_kept r jsr named (note_of at c)
    how_jsr jsr (Err e) named = no_package free open_there jsr named

    how_npm : is_built_in at ≡ false → is_jsr at ≡ false → is_npm at ≡ true → (r : Result NpmPackageReqReference PackageReqReferenceParseError) → npm_named at ≡ r → Entered s c at (received_npm s c at r)
    how_npm built jsr npm (Ok r) named =
        subst (λ x. Entered s c at (by_both x s.flags.resolves_npm)) (sym (noting_is s (note_of at c))) (by_flag s.flags.resolves_npm refl)
      where
        by_both : State → Bool → State
        by_both x b = if b then npm_waiting_with x (npm_waiting_at at r c) else opened x c at

        by_flag : (b : Bool) → s.flags.resolves_npm ≡ b → Entered s c at (by_both (record s { notes = notes_after s (note_of at c) }) s.flags.resolves_npm)
        by_flag true p = subst (Entered s c at) (sym (ap (by_both (record s { notes = notes_after s (note_of at c) })) p)) (resolves free open_there npm p named)
        by_flag false p =
            subst (Entered s c at) (sym (ap (by_both (record s { notes = notes_after s (note_of at c) })) p))
            (opens free open_there (is_asked_at built jsr (none_refused (is_npm at) (is_refused_npm (npm_named at)) (ap is_refused_npm named)) (ap (λ b. b && is_npm at) p)))
    how_npm built jsr npm (Err e) named = no_npm_package free open_there npm named

    how_admitted : Entered s c at (admitted s c at)
    how_admitted = by_node (is_built_in at) refl
      where
        by_tests : Bool → Bool → Bool → State
        by_tests built jsr npm =
            if built then record s { graph = with_node s.graph at }
            else if jsr then received_jsr s c at (jsr_named at)
            else if npm then received_npm s c at (npm_named at)
            else opened s c at

        by_npm : is_built_in at ≡ false → is_jsr at ≡ false → (b : Bool) → is_npm at ≡ b → Entered s c at (by_tests false false (is_npm at))
        by_npm built jsr true npm = subst (Entered s c at) (sym (ap (by_tests false false) npm)) (how_npm built jsr npm (npm_named at) refl)
        by_npm built jsr false npm = subst (Entered s c at) (sym (ap (by_tests false false) npm)) (opens {notes = s.notes} free open_there (is_asked_at built jsr (ap (λ b. if b then is_refused_npm (npm_named at) else false) npm) (and_none s.flags.resolves_npm (is_npm at) npm)))

        by_jsr : is_built_in at ≡ false → (b : Bool) → is_jsr at ≡ b → Entered s c at (by_tests false (is_jsr at) (is_npm at))
        by_jsr built true jsr = subst (Entered s c at) (sym (ap (λ b. by_tests false b (is_npm at)) jsr)) (how_jsr jsr (jsr_named at) refl)
        by_jsr built false jsr = subst (Entered s c at) (sym (ap (λ b. by_tests false b (is_npm at)) jsr)) (by_npm built jsr (is_npm at) refl)

        by_node : (b : Bool) → is_built_in at ≡ b → Entered s c at (by_tests (is_built_in at) (is_jsr at) (is_npm at))
        by_node true built = subst (Entered s c at) (sym (ap (λ b. by_tests b (is_jsr at) (is_npm at)) built)) (node open_there built)
        by_node false built = subst (Entered s c at) (sym (ap (λ b. by_tests b (is_jsr at) (is_npm at)) built)) (by_jsr built (is_jsr at) refl)

    how_unstopped : Entered s c at (unstopped s c at)
    how_unstopped = by_sum (unsupported (finite.get s.files) at c) refl
      where
        by_kind : Option ModuleErrorKind → State
        by_kind o = by_option o (admitted s c at) (refused_at s at)

        by_sum : (o : Option ModuleErrorKind) → unsupported (finite.get s.files) at c ≡ o → Entered s c at (by_kind (unsupported (finite.get s.files) at c))
        by_sum None u = subst (Entered s c at) (sym (ap by_kind u)) how_admitted
        by_sum (Some kind) u = subst (Entered s c at) (sym (ap by_kind u)) (unstated free open_there u)

  -- a load that a slot stops
  how_stopped : is_shut (slot_at s.graph at) c ≡ true → (o : Option Note) → Entered s c at (stopped (with_note s o) c at)
  how_stopped h o = subst (λ x. Entered s c at (stopped x c at)) (sym (noting_is s o)) (by_wait (waits_for_asset s c at) refl)
    where
      by_both : Bool → State
      by_both b = if b then record s { notes = notes_after s o; deferred = deferred_with s.deferred at c } else record s { notes = notes_after s o }

      by_wait : (b : Bool) → waits_for_asset s c at ≡ b → Entered s c at (by_both (waits_for_asset s c at))
      by_wait true w = subst (Entered s c at) (sym (ap by_both w)) (waits h w)
      by_wait false w = subst (Entered s c at) (sym (ap by_both w)) (stood h)

  how_received : (asked : Parts) → forbidden s.flags at c ≡ None → Entered s c at (received s asked c at)
  how_received asked free = by_shut (is_shut (slot_at s.graph at) c) refl
    where
      by_both : Bool → State
      by_both b = if b then stopped (noting s asked c) c at else unstopped s c at

      by_shut : (b : Bool) → is_shut (slot_at s.graph at) c ≡ b → Entered s c at (by_both (is_shut (slot_at s.graph at) c))
      by_shut true h = subst (Entered s c at) (sym (ap by_both h)) (how_stopped h (note_of asked c))
      by_shut false h = subst (Entered s c at) (sym (ap by_both h)) (how_unstopped free h)

  how_entered_at : (asked : Parts) → Entered s c at (entered_at s asked c at)
  how_entered_at asked = by_forbidden (forbidden s.flags at c) refl
    where
      by_kind : Option ModuleErrorKind → State
      by_kind o = by_option o (received s asked c at) (refused_at s at)

      by_forbidden : (o : Option ModuleErrorKind) → forbidden s.flags at c ≡ o → Entered s c at (by_kind (forbidden s.flags at c))
      by_forbidden (Some kind) e = subst (Entered s c at) (sym (ap by_kind e)) (refused e)
      by_forbidden None e = subst (Entered s c at) (sym (ap by_kind e)) (how_received asked e)

pub how_entered : (s : State) (load : Load) → Entered s load.context (redirected_end s.graph load.specifier) (enter s load)
unfolding enter
how_entered s load = how_entered_at s load.context (redirected_end s.graph load.specifier) load.specifier

-- an edge waits, or enters
pub data Edged (s : State) (load : Load) : State → Type 0 where
  queues : load.context.in_dynamic_phase ≡ true → s.is_dynamic ≡ false → Edged s load (record s { dynamic = queued s.dynamic load })
  enters : Edged s load (enter s (with_mark s.root_names load))

pub how_edged : (s : State) (load : Load) → Edged s load (enter_edge s load)
unfolding enter_edge
how_edged s load = by_phase load.context.in_dynamic_phase refl
  where
    by_both : Bool → State
    by_both b = if b then record s { dynamic = queued s.dynamic load } else enter s (with_mark s.root_names load)

    by_flag : load.context.in_dynamic_phase ≡ true → (b : Bool) → s.is_dynamic ≡ b → Edged s load (by_both (load.context.in_dynamic_phase && not s.is_dynamic))
    by_flag p true d = subst (Edged s load) (sym (ap (λ x. by_both (x && not s.is_dynamic)) p ∙ ap (λ x. by_both (not x)) d)) enters
    by_flag p false d = subst (Edged s load) (sym (ap (λ x. by_both (x && not s.is_dynamic)) p ∙ ap (λ x. by_both (not x)) d)) (queues p d)

    by_phase : (b : Bool) → load.context.in_dynamic_phase ≡ b → Edged s load (by_both (load.context.in_dynamic_phase && not s.is_dynamic))
    by_phase true p = by_flag p s.is_dynamic refl
    by_phase false p = subst (Edged s load) (sym (ap (λ x. by_both (x && not s.is_dynamic)) p)) enters

-- loads that enter after others
pub enter_both : (s : State) (xs ys : List Load) → enter_all (enter_all s xs) ys ≡ enter_all s (xs ++ ys)
unfolding enter_all
enter_both s [] ys = refl
enter_both s (x ∷ xs) ys = enter_both (enter s x) xs ys
