use Rattle.semver_npm.proofs.FullLemmas.{full_is, full_none_of, full_not_utf8}
use Rattle.semver_npm.proofs.reader.read_full.Goals as goal

pub returns-in_default : goal.returns-in_default
returns-in_default c = full_not_utf8 _ c.in_default.ensures.cases.0

pub returns-in-Ok-parse_standard : goal.returns-in-Ok-parse_standard
returns-in-Ok-parse_standard c = full_is _ _ _ _ c.in-Ok.ensures.cases.0 c.in-Ok-parse_standard.ensures c.from.ensures

pub returns-in-Err-Is : goal.returns-in-Err-Is
returns-in-Err-Is c = full_none_of _ _ c.in-Ok.ensures.cases.0 (rw c.in-Err-Is.field-0-is at c.in-Err-Is.ensures)
