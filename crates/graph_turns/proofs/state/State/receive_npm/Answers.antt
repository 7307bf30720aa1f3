use Rattle.std.proofs.Common.{◌≡◌, ◌∙◌, Err, Ok, sym, ap}
use Rattle.std.proofs.lemmas.Result.{on_ok_weaker}
use Rattle.url.specs.Parts.{Parts}
use Rattle.semver_npm.specs.declared.npm_error.NpmLoadError.TheVariants.{PackageReqReferenceParse}
use Rattle.semver_npm.specs.declared.npm_error.PackageReqReferenceParseError.{PackageReqReferenceParseError}
use Rattle.semver_npm.specs.declared.reference.NpmPackageReqReference.{NpmPackageReqReference}
use Rattle.graph_errors.specs.declared.errors.ModuleErrorKind.TheVariants.{Load as LoadFails}
use Rattle.graph_errors.specs.declared.errors.ModuleLoadError.TheVariants.{Npm}
use Rattle.module_slots.specs.declared.load.LoadContext.{LoadContext}
use Rattle.graph_turns.specs.declared.state.State.{State}
use Rattle.graph_turns.specs.Promise.Packages.{npm_named}
use Rattle.graph_turns.specs.Machine.Entering.{received_npm, refused_at}
use Rattle.graph_turns.proofs.Entering.Named.{npm_read}
use Rattle.graph_turns.proofs.state.State.receive_npm.Goals as goal

npm_refused : (s : State) (c : LoadContext) (at : Parts) (e : PackageReqReferenceParseError) → npm_named at ≡ Err e → refused_at s at (LoadFails at c.range (Npm (PackageReqReferenceParse e))) ≡ received_npm s c at (npm_named at)
npm_refused s c at e is = sym (ap (received_npm s c at) is)

npm_read_so : (s : State) (c : LoadContext) (at : Parts) (r : NpmPackageReqReference) → npm_named at ≡ Ok r → received_npm s c at (Ok r) ≡ received_npm s c at (npm_named at)
npm_read_so s c at r is = sym (ap (received_npm s c at) is)

pub returns-in-Err-Is : goal.returns-in-Err-Is
returns-in-Err-Is c =
    on_ok_weaker c.refuse_load.result
    (λ e. e ∙ npm_refused c.args.self.now c.args.context c.args.at c.in-Err-Is.error (npm_read c.args.at _ (rw c.in-Err-Is.field-0-is at c.in-Err-Is.ensures.value)))
    c.refuse_load.ensures

pub returns-in-Ok : goal.returns-in-Ok
returns-in-Ok c =
    on_ok_weaker c.receive_reference.result
    (λ e. e ∙ npm_read_so c.args.self.now c.args.context c.args.at c.in-Ok.reference (npm_read c.args.at _ c.in-Ok.ensures.value))
    c.receive_reference.ensures
