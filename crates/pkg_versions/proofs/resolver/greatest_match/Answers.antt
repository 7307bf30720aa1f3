use Rattle.std.proofs.Common.{◌∙◌, option_copied, sym}
use Rattle.pkg_versions.specs.Choice.{is_match}
use Rattle.pkg_versions.proofs.ChoiceLemmas.{greatest_with}
use Rattle.pkg_versions.proofs.resolver.greatest_match.Goals as goal

pub loop-version-preserved-then-version_matches : goal.loop-version-preserved-then-version_matches
loop-version-preserved-then-version_matches g c =
    c.greater-best.ensures
    ∙ greatest_with (is_match c.args.req.now c.args.all_pre) (λ v. v.now) c.loop-version.yielded c.in-Some.version (option_copied c.loop-version.best) c.loop-version.invariant
    (sym c.version_matches.ensures ∙ c.if-version_matches.true)
