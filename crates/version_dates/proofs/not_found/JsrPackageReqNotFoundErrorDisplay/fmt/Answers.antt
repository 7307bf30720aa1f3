use Rattle.std.proofs.Common.{◌≡◌, ◌++◌, codes, subst, sym}
use Rattle.std.specs.Fmt.{HasWritten}
use Rattle.version_dates.specs.ErrorTexts.{lead, not_found_text}
use Rattle.version_dates.specs.Times.{limit_text}
use Rattle.version_dates.proofs.not_found.JsrPackageReqNotFoundErrorDisplay.fmt.Goals as goal

pub returns-in-Some-clause-writes : goal.returns-in-Some-clause-writes
returns-in-Some-clause-writes g c = λ plain ok.
    let error = c.args.self.now in
    let text = lead error (codes "'\n\nA newer matching version was found, but it was not used because it was newer than the specified minimum dependency date of " ++ limit_text c.in-Some.limit.0) in
    let e : not_found_text error ≡ text = rw c.in-Some.is in
    let written : HasWritten {W = g.row.W.Denot} g.W.Write.write_str_gives c.args.f.now text c.write.new.self = c.write.ensures.writes plain ok in
    subst (λ t. HasWritten {W = g.row.W.Denot} g.W.Write.write_str_gives c.args.f.now t c.write.new.self) (sym e) written

pub returns-in-None-clause-writes : goal.returns-in-None-clause-writes
returns-in-None-clause-writes g c = λ plain ok.
    let error = c.args.self.now in
    let text = lead error (codes "'") in
    let e : not_found_text error ≡ text = rw c.in-None.is in
    let written : HasWritten {W = g.row.W.Denot} g.W.Write.write_str_gives c.args.f.now text c.write-in-None.new.self = c.write-in-None.ensures.writes plain ok in
    subst (λ t. HasWritten {W = g.row.W.Denot} g.W.Write.write_str_gives c.args.f.now t c.write-in-None.new.self) (sym e) written
