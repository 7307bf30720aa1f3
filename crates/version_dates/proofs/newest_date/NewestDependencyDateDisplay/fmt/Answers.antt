use Rattle.std.proofs.Common.{◌≡◌, ◌++◌, Some, false, codes, subst, rules}
use Rattle.std.specs.Fmt.{HasWritten}
use Rattle.jiff_core.specs.DateTime.{civil_nanos}
use Rattle.jiff_fmt.specs.Text as Text
use Rattle.version_dates.proofs.TimeLemmas.{limit_written}
use Rattle.version_dates.proofs.newest_date.NewestDependencyDateDisplay.fmt.Goals as goal

pub returns-clause-writes : goal.returns-clause-writes
returns-clause-writes g c = λ plain ok.
    let e : civil_nanos c.to_plain-shown.result ≡ c.args.self.now.0 = search rules in
    let written : HasWritten {W = g.row.W.Denot} g.W.Write.write_str_gives c.args.f.now (Text.datetime_text false 32 (Some 0) c.to_plain-shown.result ++ codes " UTC") c.write.new.self = search rules in
    subst (λ t. HasWritten {W = g.row.W.Denot} g.W.Write.write_str_gives c.args.f.now t c.write.new.self) (limit_written c.to_plain-shown.result c.args.self.now.0 e) written
