use Rattle.std.proofs.Common.{Err, Ok, rules}
use Rattle.spec_base.specs.declared.refusal.Refusal.TheVariants.{Is}
use Rattle.semver_npm.proofs.Requirements.{exactly_read}
use Rattle.semver_npm.proofs.requirement.VersionReq.parse_from_specifier.Goals as goal

pub returns-then-not-is_tag_text-clause-grammar : goal.returns-then-not-is_tag_text-clause-grammar
returns-then-not-is_tag_text-clause-grammar c =
    exactly_read (Err (Is (record { text = c.in_ok-kept.kept }))) c.args.text.now (search rules)

pub returns-clause-grammar : goal.returns-clause-grammar
returns-clause-grammar c = exactly_read (Ok c.in_ok-kept.kept) c.args.text.now (search rules)
