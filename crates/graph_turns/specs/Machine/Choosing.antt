-- Versions that are chosen for the specifiers of a pass, one by one: each choice counts for the next one.
use Rattle.std.specs.Prelude.{drop, option_map, ℕ, ◌+◌, Bool, List, [], ◌∷◌, ◌++◌, map, Option, Some, None, Result, Ok, Err, if◌then◌else◌}
use Rattle.std.specs.FinMap as finite
use Rattle.std.specs.Option.{option_or}
use Rattle.semver_npm.specs.Versions.{Ver}
use Rattle.semver_npm.specs.declared.package.PackageNv.{PackageNv}
use Rattle.semver_npm.specs.declared.package.PackageReq.{PackageReq}
use Rattle.pkg_versions.specs.Choice.{Chosen as ChosenVersion, choice_of}
use Rattle.version_dates.specs.Dates.{limit_of}
use Rattle.pkg_records.specs.Kept.{versions_of, with_nv, with_used_yanked_package}
use Rattle.version_dates.specs.declared.newest_date.NewestDependencyDateOptions.{NewestDependencyDateOptions}
use Rattle.version_dates.specs.declared.not_found.JsrPackageReqNotFoundError.{JsrPackageReqNotFoundError}
use Rattle.pkg_versions.specs.declared.package_info.JsrPackageInfo.{JsrPackageInfo}
use Rattle.pkg_records.specs.declared.package_specifiers.PackageSpecifiers.{PackageSpecifiers}
use Rattle.graph_errors.specs.declared.errors.ModuleErrorKind.TheVariants.{Load as LoadFails}
use Rattle.graph_errors.specs.declared.errors.ModuleLoadError.TheVariants.{Jsr}
use Rattle.graph_errors.specs.declared.jsr_error.JsrLoadError.{JsrLoadError}
use Rattle.graph_errors.specs.declared.jsr_error.JsrLoadError.TheVariants.{PackageNotFound, PackageReqNotFound}
use Rattle.graph_core.specs.declared.graph.ModuleGraph.{ModuleGraph}
use Rattle.graph_turns.specs.declared.choosing.Verdict.{Verdict}
use Rattle.graph_turns.specs.declared.choosing.Verdict.TheVariants.{AsksAgain, Probes, Restarts, Gets, Fails}
use Rattle.graph_turns.specs.declared.passes.Pass.{Pass}
use Rattle.graph_turns.specs.declared.registry.RegistryFile.TheVariants.{PackageAgain}
use Rattle.graph_turns.specs.declared.run.Run.{Run}
use Rattle.graph_turns.specs.declared.run.Run.TheVariants.{Only, First, Due, Second}
use Rattle.graph_turns.specs.declared.state.State.{State}
use Rattle.graph_turns.specs.declared.waiting.WaitingPackage.{WaitingPackage}
use Rattle.graph_turns.specs.Machine.Probing.{cached_in, probes, to_probe}
use Rattle.graph_turns.specs.Machine.Runs.{wanted_again}
use Rattle.graph_turns.specs.Machine.Entering.{refused_at}

-- the file of a package that was answered last
abbrev pub package_file : State → List ℕ → Option (Result JsrPackageInfo JsrLoadError)
package_file s name = option_or (finite.get s.reloaded name) (finite.get s.packages name)

-- the versions of a package that a graph has
abbrev pub existing_in : PackageSpecifiers → List ℕ → List Ver
existing_in p name = map (λ nv. nv.version) (versions_of p name)

-- the version that a requirement picks
abbrev pub choice_in : NewestDependencyDateOptions → State → PackageReq → JsrPackageInfo → Result ChosenVersion JsrPackageReqNotFoundError
choice_in newest s req info = choice_of req info (existing_in s.graph.packages req.name) (cached_in s req.name info) (limit_of newest req.name)

-- the same as a version, and whether it was withdrawn
abbrev pub turned_choice : Result ChosenVersion JsrPackageReqNotFoundError → Result (Ver × Bool) JsrPackageReqNotFoundError
turned_choice (Ok (yanked, version)) = Ok (version, yanked)
turned_choice (Err e) = Err e

-- ---- what comes of a requirement

-- no version meets it: a build begins once more where it may, else the file of its package is asked about once more
abbrev pub verdict_without : Run → Bool → List ℕ → JsrPackageReqNotFoundError → Verdict
verdict_without Only asked_again name e = if asked_again then Fails (PackageReqNotFound e) else AsksAgain name
verdict_without (First start) asked_again name e = Restarts
verdict_without (Due start) asked_again name e = Fails (PackageReqNotFound e)
verdict_without (Second earlier) asked_again name e = Fails (PackageReqNotFound e)

abbrev pub verdict_by : State → PackageReq → Result ChosenVersion JsrPackageReqNotFoundError → Verdict
verdict_by s req (Ok (yanked, version)) = Gets (record { name = req.name; version = version }) yanked
verdict_by s req (Err e) = verdict_without s.run (finite.contains_key s.reloaded req.name) req.name e

-- versions that fit are looked for in a cache first
abbrev pub verdict_after : NewestDependencyDateOptions → State → PackageReq → JsrPackageInfo → List PackageNv → Verdict
verdict_after newest s req info [] = verdict_by s req (choice_in newest s req info)
verdict_after newest s req info (nv ∷ nvs) = Probes (nv ∷ nvs)

abbrev pub verdict_in : NewestDependencyDateOptions → State → PackageReq → Option (Result JsrPackageInfo JsrLoadError) → Verdict
verdict_in newest s req None = Fails (PackageNotFound req.name)
verdict_in newest s req (Some (Err e)) = Fails e
verdict_in newest s req (Some (Ok info)) = verdict_after newest s req info (to_probe s req info)

-- what comes of a requirement
abbrev pub verdict : NewestDependencyDateOptions → State → PackageReq → Verdict
verdict newest s req = verdict_in newest s req (package_file s req.name)

abbrev pub first_of : List WaitingPackage → Option WaitingPackage
first_of [] = None
first_of (item ∷ items) = Some item

-- the first specifier of a pass
abbrev pub first_item : Option Pass → Option WaitingPackage
first_item None = None
first_item (Some p) = first_of p.items

-- a pass without it
abbrev pub without_first : Option Pass → Option Pass
without_first None = None
without_first (Some p) = Some (record p { items = drop 1 p.items })

-- what comes of it
abbrev pub first_verdict : NewestDependencyDateOptions → State → Option Pass → Option Verdict
first_verdict newest s p = option_map (λ item. verdict newest s item.req) (first_item p)

-- ---- what it leaves

-- a version is chosen for a requirement
abbrev pub with_choice : ModuleGraph → PackageReq → PackageNv → Bool → ModuleGraph
with_choice g req nv yanked = record g { packages = with_nv (if yanked then with_used_yanked_package g.packages nv else g.packages) req nv }

-- an error stands at a specifier that waited, over any slot
abbrev pub package_refused : State → WaitingPackage → JsrLoadError → State
package_refused s item e = refused_at s item.specifier (LoadFails item.specifier item.context.range (Jsr e))

-- the first specifier of a pass is judged: it stays until it has a version or an error
abbrev pub judged_by : State → Pass → WaitingPackage → List WaitingPackage → Verdict → State
judged_by s p item items (AsksAgain name) = record s { wanted = s.wanted ++ PackageAgain name ∷ [] }
judged_by s p item items (Probes nvs) = record s { wanted = s.wanted ++ probes nvs }
judged_by s p item items Restarts = record s { run = wanted_again s.run }
judged_by s p item items (Gets nv yanked) = record s {
  graph = with_choice s.graph item.req nv yanked;
  pass = Some (record p { items = items; chosen = p.chosen ++ record { item = item; nv = nv } ∷ [] });
}
judged_by s p item items (Fails e) = package_refused (record s { pass = Some (record p { items = items }) }) item e

abbrev pub judged_first : NewestDependencyDateOptions → State → Pass → List WaitingPackage → State
judged_first newest s p [] = s
judged_first newest s p (item ∷ items) = judged_by s p item items (verdict newest s item.req)

abbrev pub judged_in : NewestDependencyDateOptions → State → Option Pass → State
judged_in newest s None = s
judged_in newest s (Some p) = judged_first newest s p p.items

-- the first specifier of the pass is judged
abbrev pub judged : NewestDependencyDateOptions → State → State
judged newest s = judged_in newest s s.pass
