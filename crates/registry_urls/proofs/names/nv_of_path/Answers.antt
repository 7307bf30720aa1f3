use Rattle.std.proofs.Common.{◌≡◌, sym, subst, Option}
use Rattle.std.specs.Prelude.{IfOk}
use Rattle.semver_npm.specs.declared.package.PackageNv.{PackageNv}
use Rattle.registry_urls.proofs.NameLemmas.{cut_twice, no_name, no_version}
use Rattle.registry_urls.proofs.names.nv_of_path.Goals as goal

pub returns-in_default : goal.returns-in_default
returns-in_default c = sym (no_name c.args.path.now c.in_default.ensures)

pub returns-in_default-cut : goal.returns-in_default-cut
returns-in_default-cut c = sym (no_version c.args.path.now c.in-Some.after_scope.now c.in-Some.ensures.2 c.in-Some.ensures.0 c.in_default-cut.ensures)

pub returns : goal.returns
returns c =
    let is = cut_twice c.args.path.now c.in-Some.scope.now c.in-Some.after_scope.now c.in-Some-cut.name.now c.in-Some-cut.after_name.now c.before_slash.result.now c.in-Some.ensures c.in-Some-cut.ensures c.before_slash.ensures in
    subst (λ (nv : Option PackageNv). IfOk c.named.result (λ found. found ≡ nv)) is c.named.ensures
