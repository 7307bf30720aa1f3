use Rattle.std.proofs.Common.{ap, sym, ◌∙◌, ◌++◌, subst}
use Rattle.std.specs.Prelude.{codes}
use Rattle.json_forms.specs.Rows.{IsFree}
use Rattle.json_tokens.specs.Tokens.{member_tokens}
use Rattle.graph_json.proofs.FloatFree.{package_rows_free}
use Rattle.graph_json.proofs.text.push_packages.Goals as goal

pub push_optional-requires : goal.push_optional-requires
push_optional-requires c = subst IsFree (sym c.in_ok-value.ensures) (package_rows_free c.args.packages.now.package_reqs)

pub returns : goal.returns
returns c = c.in_ok-push_optional.ensures ∙ ap (λ o. c.args.out.now ++ member_tokens (codes "packages") o) c.in_ok-value.ensures
