use Rattle.std.proofs.Common.{◌∙◌, Ok, ap, option_copied, sym}
use Rattle.pkg_versions.proofs.ChoiceLemmas.{answers_none, choice_found, choice_none}
use Rattle.pkg_versions.proofs.resolver.JsrPackageVersionResolver.resolve_version.Goals as goal

pub returns-in-Some : goal.returns-in-Some
returns-in-Some g c =
    let h = sym c.best.ensures.2 ∙ ap option_copied c.in-Some.is in (
      c.best.ensures.0,
      c.best.ensures.1,
      choice_found c.args.package_req.now c.args.self.now.package_info.now _ _ _ c.in-Some.version.now h ∙ ap (λ b. Ok (b, c.in-Some.version.now)) (sym c.is_yanked.ensures),
    )

pub returns-in-None : goal.returns-in-None
returns-in-None g c =
    let h = sym c.best.ensures.2 ∙ ap option_copied c.in-None.is in (
      c.best.ensures.0,
      c.best.ensures.1,
      answers_none c.not_found.result _ _ (choice_none c.args.package_req.now c.args.self.now.package_info.now _ _ _ h) c.not_found.ensures,
    )
