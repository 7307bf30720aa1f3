-- How what an export leads to enters.
use Rattle.std.proofs.Common.{◌≡◌, List, [], ◌∷◌, Bool, true, false, Option, None, Some, Result, Ok, Err, refl, sym, ap, subst, if◌then◌else◌}
use Rattle.url.specs.Parts.{Parts}
use Rattle.spec_base.specs.Options.{by_option}
use Rattle.graph_errors.specs.declared.jsr_error.JsrLoadError.{JsrLoadError}
use Rattle.graph_turns.specs.declared.exports.Export.{Export}
use Rattle.graph_turns.specs.declared.passes.Chosen.{Chosen}
use Rattle.graph_turns.specs.declared.state.State.{State}
use Rattle.graph_turns.specs.Promise.Packages.{unjoinable}
use Rattle.graph_turns.specs.Promise.Reached.{in_package}
use Rattle.graph_turns.specs.Machine.Choosing.{package_refused}
use Rattle.graph_turns.specs.Machine.Entering.{enter, redirects_ended}
use Rattle.graph_turns.specs.Machine.Passes.{export_at, export_entered, export_entered_by, export_followed, export_used, with_used}
use Rattle.graph_turns.specs.Machine.Redirects.{leads_back, moved}
use Rattle.graph_turns.specs.Machine.Waiting.{load_of}

-- an export is used
abbrev pub used : State → Bool → Chosen → Export → State
used s top one e = record s { graph = with_used s.graph one.nv e top }

pub data ExportEntered (s : State) (top : Bool) (one : Chosen) : State → Type 0 where
  refused : {e : JsrLoadError} → export_at s one ≡ Err e → ExportEntered s top one (package_refused s one.item e)
  unjoined : {e : Export} → export_at s one ≡ Ok e → e.to ≡ None → ExportEntered s top one (package_refused (used s top one e) one.item (unjoinable one.nv e))
  ended : {e : Export} {to : Parts} → export_at s one ≡ Ok e → e.to ≡ Some to → leads_back (used s top one e).graph one.item.specifier to ≡ true → ExportEntered s top one (redirects_ended (used s top one e) (load_of one.item))
  onward : {e : Export} {to : Parts} → export_at s one ≡ Ok e → e.to ≡ Some to → leads_back (used s top one e).graph one.item.specifier to ≡ false → ExportEntered s top one (enter (record (used s top one e) { graph = moved (used s top one e).graph one.item.specifier to }) (record { specifier = to; context = in_package (Some one.nv) one.item.context; is_type = false }))

module _ (s : State) (top : Bool) (one : Chosen) where
  module _ (e : Export) (is : export_at s one ≡ Ok e) where
    how_followed : (to : Parts) → e.to ≡ Some to → ExportEntered s top one (export_followed (used s top one e) one to)
    how_followed to leads = by_back (leads_back (used s top one e).graph one.item.specifier to) refl
      where
        by_both : Bool → State
        by_both b =
            if b then redirects_ended (used s top one e) (load_of one.item)
            else enter (record (used s top one e) { graph = moved (used s top one e).graph one.item.specifier to }) (record { specifier = to; context = in_package (Some one.nv) one.item.context; is_type = false })

        by_back : (b : Bool) → leads_back (used s top one e).graph one.item.specifier to ≡ b → ExportEntered s top one (by_both (leads_back (used s top one e).graph one.item.specifier to))
        by_back true back = subst (ExportEntered s top one) (sym (ap by_both back)) (ended is leads back)
        by_back false back = subst (ExportEntered s top one) (sym (ap by_both back)) (onward is leads back)

    how_used : ExportEntered s top one (export_used (used s top one e) one e)
    how_used = by_leads e.to refl
      where
        by_to : Option Parts → State
        by_to o = by_option o (package_refused (used s top one e) one.item (unjoinable one.nv e)) (export_followed (used s top one e) one)

        by_leads : (o : Option Parts) → e.to ≡ o → ExportEntered s top one (by_to e.to)
        by_leads None leads = subst (ExportEntered s top one) (sym (ap by_to leads)) (unjoined is leads)
        by_leads (Some to) leads = subst (ExportEntered s top one) (sym (ap by_to leads)) (how_followed to leads)

  by_export : (r : Result Export JsrLoadError) → export_at s one ≡ r → ExportEntered s top one (export_entered_by s top one r)
  by_export (Ok e) is = how_used e is
  by_export (Err e) is = refused is

  pub how_export : ExportEntered s top one (export_entered s top one)
  how_export = by_export (export_at s one) refl
