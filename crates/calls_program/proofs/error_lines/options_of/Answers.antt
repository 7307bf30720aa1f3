use Rattle.std.proofs.Common.{◌≡◌, Bool, false, ap}
use Rattle.url.specs.Parts.{Parts}
use Rattle.graph_walk.specs.Options.{How}
use Rattle.calls_program.specs.declared.call.ErrorsCall.{ErrorsCall}
use Rattle.calls_program.proofs.error_lines.options_of.Goals as goal

-- how a walk goes by a test of specifiers
abbrev how_by : ErrorsCall → (Parts → Bool) → How
how_by listed checks = record { kind = listed.kind; follow_dynamic = listed.follow_dynamic; prefers_fast_check = false; checks = checks }

pub returns : goal.returns
returns c = ap (how_by c.args.listed) c.check_js_of.ensures
