use Rattle.std.proofs.Common.{◌≡◌, ◌++◌, IfOk, Some, false, codes, string_bytes, ◌∙◌, rules}
use Rattle.std.proofs.lemmas.Result.{IfOk-weaker}
use Rattle.jiff_core.specs.DateTime.{civil_nanos}
use Rattle.jiff_fmt.specs.Text as Text
use Rattle.version_dates.specs.Times.{precision_of}
use Rattle.version_dates.proofs.TimeLemmas.{time_written}
use Rattle.pkg_versions.proofs.TimeReading.{time_read_back}
use Rattle.pkg_versions.proofs.timestamp.time_text.Goals as goal

pub returns-clause-value : goal.returns-clause-value
returns-clause-value c =
    let e : civil_nanos c.to_plain-shown.result ≡ c.args.at.nanosecond = search rules in
    let w = time_written c.to_plain-shown.result c.args.at.nanosecond e in
    let written : IfOk c.format.result (λ s. string_bytes s ≡ Text.datetime_text false 84 (Some (precision_of c.to_plain-shown.result.time.subsec_nanosecond)) c.to_plain-shown.result ++ codes "Z") = search rules in
    IfOk-weaker c.format.result _ _ (λ s h. h ∙ w) written

pub returns-clause-reads_back : goal.returns-clause-reads_back
returns-clause-reads_back c =
    let e : civil_nanos c.to_plain-shown.result ≡ c.args.at.nanosecond = search rules in
    time_read_back c.to_plain-shown.result c.args.at e
