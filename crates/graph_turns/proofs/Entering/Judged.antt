-- How the first specifier of a pass is judged.
use Rattle.std.proofs.Common.{◌≡◌, ℕ, List, [], ◌∷◌, ◌++◌, Bool, true, false, Option, None, Some, Result, Ok, Err, refl, sym, ap, ◌∙◌, subst, if◌then◌else◌}
use Rattle.std.specs.FinMap as finite
use Rattle.semver_npm.specs.Versions.{Ver}
use Rattle.semver_npm.specs.declared.package.PackageNv.{PackageNv}
use Rattle.semver_npm.specs.declared.package.PackageReq.{PackageReq}
use Rattle.pkg_versions.specs.Choice.{Chosen as ChosenVersion}
use Rattle.version_dates.specs.declared.newest_date.NewestDependencyDateOptions.{NewestDependencyDateOptions}
use Rattle.version_dates.specs.declared.not_found.JsrPackageReqNotFoundError.{JsrPackageReqNotFoundError}
use Rattle.pkg_versions.specs.declared.package_info.JsrPackageInfo.{JsrPackageInfo}
use Rattle.graph_errors.specs.declared.jsr_error.JsrLoadError.{JsrLoadError}
use Rattle.graph_errors.specs.declared.jsr_error.JsrLoadError.TheVariants.{PackageNotFound, PackageReqNotFound}
use Rattle.graph_turns.specs.declared.choosing.Verdict.{Verdict}
use Rattle.graph_turns.specs.declared.choosing.Verdict.TheVariants.{AsksAgain, Probes, Restarts, Gets, Fails}
use Rattle.graph_turns.specs.declared.passes.Pass.{Pass}
use Rattle.graph_turns.specs.declared.run.Earlier.{Earlier}
use Rattle.graph_turns.specs.declared.run.Run.{Run}
use Rattle.graph_turns.specs.declared.run.Run.TheVariants.{Only, First, Due, Second}
use Rattle.graph_turns.specs.declared.starting.ResolvedStart.{ResolvedStart}
use Rattle.graph_turns.specs.declared.state.State.{State}
use Rattle.graph_turns.specs.declared.waiting.WaitingPackage.{WaitingPackage}
use Rattle.graph_turns.specs.Machine.Choosing.{choice_in, judged, judged_by, judged_first, judged_in, package_file, verdict_after, verdict_by, verdict_in, verdict_without}
use Rattle.graph_turns.specs.Machine.Probing.{to_probe}

-- a run in which it is said that no version meets a requirement of a package: it can't begin once more, and isn't to ask for the package's
-- file once more
pub data SaysSo (s : State) (name : List ℕ) : Run → Type 0 where
  only : finite.contains_key s.reloaded name ≡ true → SaysSo s name Only
  due : {start : ResolvedStart} → SaysSo s name (Due start)
  second : {e : Earlier} → SaysSo s name (Second e)

module _ (newest : NewestDependencyDateOptions) (s : State) (p : Pass) (first : WaitingPackage) (others : List WaitingPackage) where
  -- what comes of the first specifier
  pub data Judges : Verdict → Type 0 where
    asks_again : {info : JsrPackageInfo} {e : JsrPackageReqNotFoundError} → package_file s first.req.name ≡ Some (Ok info) → to_probe s first.req info ≡ [] → choice_in newest s first.req info ≡ Err e → s.run ≡ Only → finite.contains_key s.reloaded first.req.name ≡ false → Judges (AsksAgain first.req.name)
    looks : {info : JsrPackageInfo} {nv : PackageNv} {nvs : List PackageNv} → package_file s first.req.name ≡ Some (Ok info) → to_probe s first.req info ≡ nv ∷ nvs → Judges (Probes (nv ∷ nvs))
    restarts : {info : JsrPackageInfo} {e : JsrPackageReqNotFoundError} {start : ResolvedStart} → package_file s first.req.name ≡ Some (Ok info) → to_probe s first.req info ≡ [] → choice_in newest s first.req info ≡ Err e → s.run ≡ First start → Judges Restarts
    unmet : {info : JsrPackageInfo} {e : JsrPackageReqNotFoundError} → package_file s first.req.name ≡ Some (Ok info) → to_probe s first.req info ≡ [] → choice_in newest s first.req info ≡ Err e → SaysSo s first.req.name s.run → Judges (Fails (PackageReqNotFound e))
    gets : {info : JsrPackageInfo} {yanked : Bool} {version : Ver} → package_file s first.req.name ≡ Some (Ok info) → to_probe s first.req info ≡ [] → choice_in newest s first.req info ≡ Ok (yanked, version) → Judges (Gets (record { name = first.req.name; version = version }) yanked)
    unread : {e : JsrLoadError} → package_file s first.req.name ≡ Some (Err e) → Judges (Fails e)
    unasked : package_file s first.req.name ≡ None → Judges (Fails (PackageNotFound first.req.name))

  module _ (info : JsrPackageInfo) (file : package_file s first.req.name ≡ Some (Ok info)) where
    module _ (over : to_probe s first.req info ≡ []) where
      how_unmet : (e : JsrPackageReqNotFoundError) → choice_in newest s first.req info ≡ Err e → (run : Run) → s.run ≡ run → (b : Bool) → finite.contains_key s.reloaded first.req.name ≡ b → Judges (verdict_without run b first.req.name e)
      how_unmet e none Only is true again = unmet file over none (subst (SaysSo s first.req.name) (sym is) (only again))
      how_unmet e none Only is false again = asks_again file over none is again
      how_unmet e none (First start) is b again = restarts file over none is
      how_unmet e none (Due start) is b again = unmet file over none (subst (SaysSo s first.req.name) (sym is) due)
      how_unmet e none (Second earlier) is b again = unmet file over none (subst (SaysSo s first.req.name) (sym is) second)

      how_chosen : (r : Result ChosenVersion JsrPackageReqNotFoundError) → choice_in newest s first.req info ≡ r → Judges (verdict_by s first.req r)
      how_chosen (Ok (yanked, version)) is = gets file over is
      how_chosen (Err e) is = how_unmet e is s.run refl (finite.contains_key s.reloaded first.req.name) refl

    how_looked : (nvs : List PackageNv) → to_probe s first.req info ≡ nvs → Judges (verdict_after newest s first.req info nvs)
    how_looked [] over = how_chosen over (choice_in newest s first.req info) refl
    how_looked (nv ∷ nvs) first_are = looks file first_are

  how_verdict : (o : Option (Result JsrPackageInfo JsrLoadError)) → package_file s first.req.name ≡ o → Judges (verdict_in newest s first.req o)
  how_verdict None file = unasked file
  how_verdict (Some (Err e)) file = unread file
  how_verdict (Some (Ok info)) file = how_looked info file (to_probe s first.req info) refl

-- the first specifier of the pass is judged
pub record Judged (newest : NewestDependencyDateOptions) (s : State) (p : Pass) (first : WaitingPackage) (others : List WaitingPackage) (u : State) : Type 0 where
  pub verdict : Verdict
  pub by : Judges newest s p first others verdict
  pub is : u ≡ judged_by s p first others verdict

pub how_judged : (newest : NewestDependencyDateOptions) (s : State) (p : Pass) (first : WaitingPackage) (others : List WaitingPackage) → s.pass ≡ Some p → p.items ≡ first ∷ others → Judged newest s p first others (judged newest s)
how_judged newest s p first others goes items = record {
  verdict = verdict_in newest s first.req (package_file s first.req.name);
  by = how_verdict newest s p first others (package_file s first.req.name) refl;
  is = ap (judged_in newest s) goes ∙ ap (judged_first newest s p) items;
}
