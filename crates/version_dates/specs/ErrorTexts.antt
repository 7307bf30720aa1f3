-- The text of the error.
use Rattle.std.specs.Prelude.{ℕ, List, ◌++◌, codes}
use Rattle.spec_base.specs.Options.{by_option}
use Rattle.version_dates.specs.Times.{limit_text}
use Rattle.version_dates.specs.declared.not_found.JsrPackageReqNotFoundError.{JsrPackageReqNotFoundError}

-- that no version of a package matches, and what more is said
abbrev pub lead : JsrPackageReqNotFoundError → List ℕ → List ℕ
lead e more = codes "Could not find version of '" ++ (e.req.name ++ (codes "' that matches specified version constraint '" ++ (e.req.version_req ++ more)))

-- and the limit, where it refused one that does
abbrev pub not_found_text : JsrPackageReqNotFoundError → List ℕ
not_found_text e =
    by_option e.newest_dependency_date (lead e (codes "'"))
    (λ limit. lead e (codes "'\n\nA newer matching version was found, but it was not used because it was newer than the specified minimum dependency date of "
    ++ limit_text limit.0))
