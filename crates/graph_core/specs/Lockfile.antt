-- What a graph takes over from a lockfile: where specifiers are redirected, and to which versions requirements lead.
use Rattle.std.specs.Prelude.{ℕ, Bool, true, false, not, ◌||◌, List, [], ◌∷◌, bytes_eq, codes, map, fold, string_bytes, Option, None, Some, option_and_then, if◌then◌else◌}
use Rattle.std.specs.Result.{result_ok}
use Rattle.std.specs.FinMap as finite
use Rattle.std.specs.FinMap.{FinMap}
use Rattle.url.specs.Parts.{Parts}
use Rattle.url.specs.Parser.{parse_url}
use Rattle.spec_base.specs.Options.{by_option}
use Rattle.spec_base.specs.Shown.{text_cmp}
use Rattle.spec_base.specs.Specifier.{specifier_text}
use Rattle.semver_npm.specs.declared.package.JsrDepPackageReq.{JsrDepPackageReq}
use Rattle.semver_npm.specs.declared.package.PackageKind.{PackageKind}
use Rattle.semver_npm.specs.declared.package.PackageKind.TheVariants.{Jsr, Npm}
use Rattle.semver_npm.specs.declared.package.PackageNv.{PackageNv}
use Rattle.semver_npm.specs.declared.package.PackageReq.{PackageReq}
use Rattle.pkg_records.specs.Kept.{with_nv}
use Rattle.semver_npm.specs.Versions.{version_of}
use Rattle.pkg_records.specs.declared.package_specifiers.PackageSpecifiers.{PackageSpecifiers}
use Rattle.graph_core.specs.declared.graph.ModuleGraph.{ModuleGraph}
use Rattle.graph_core.specs.declared.lockfile.FillFromLockfileOptions.{FillFromLockfileOptions}

-- ---- redirects

-- the URL that a text is
abbrev pub url_in : List ℕ → Option Parts
url_in text = result_ok (parse_url None text)

-- a specifier is no file's and no package's: only such a one is redirected
abbrev pub is_redirectable : Parts → Bool
is_redirectable s = not (bytes_eq s.scheme (codes "file") || bytes_eq s.scheme (codes "npm") || bytes_eq s.scheme (codes "jsr"))

-- from a specifier that is redirected to where a text says, where that is a URL
abbrev pub redirect_from : List ℕ → Parts → Option (Parts × Parts)
redirect_from to s = if is_redirectable s then option_and_then (λ n. Some (s, n)) (url_in to) else None

-- the redirect that two texts are
abbrev pub redirect_of : List ℕ → List ℕ → Option (Parts × Parts)
redirect_of from to = option_and_then (redirect_from to) (url_in from)

-- one more redirect, in the place of an earlier one from there, where two texts are one
abbrev pub with_locked_redirect : FinMap text_cmp Parts → List ℕ × List ℕ → FinMap text_cmp Parts
with_locked_redirect redirects e = by_option (redirect_of e.0 e.1) redirects (λ r. finite.insert redirects (specifier_text r.0) r.1)

-- ---- requirements

-- a requirement on a package of the registry leads to a version
abbrev pub with_locked_version : PackageSpecifiers → PackageReq → List ℕ → PackageSpecifiers
with_locked_version p req text = by_option (version_of text) p (λ v. with_nv p req (record { name = req.name; version = v }))

abbrev pub by_kind : PackageKind → PackageSpecifiers → PackageReq → List ℕ → PackageSpecifiers
by_kind Jsr p req text = with_locked_version p req text
by_kind Npm p req text = p

-- one more version, where a text is one and the package is one of the registry
abbrev pub with_locked_package : PackageSpecifiers → JsrDepPackageReq × List ℕ → PackageSpecifiers
with_locked_package p e = by_kind e.0.kind p e.0.req e.1

-- ---- all of a lockfile

-- each in order; what is no redirect and no version is passed over
abbrev pub locked_redirects : FinMap text_cmp Parts → List (List ℕ × List ℕ) → FinMap text_cmp Parts
locked_redirects redirects es = fold with_locked_redirect redirects es

abbrev pub locked_packages : PackageSpecifiers → List (JsrDepPackageReq × List ℕ) → PackageSpecifiers
locked_packages p es = fold with_locked_package p es

-- a graph with what a lockfile says
abbrev pub filled_from : FillFromLockfileOptions → ModuleGraph → ModuleGraph
filled_from options g = record g {
  redirects = locked_redirects g.redirects (map (λ e. (string_bytes e.0, string_bytes e.1)) options.redirects.items);
  packages = locked_packages g.packages (map (λ e. (e.0, string_bytes e.1)) options.package_specifiers.items);
}
