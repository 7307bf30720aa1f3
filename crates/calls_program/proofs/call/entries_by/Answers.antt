use Rattle.std.proofs.Common.{map, subst, string_bytes}
use Rattle.spec_base.specs.Refusal.{Reads}
use Rattle.calls_program.specs.Calls.{entries_of}
use Rattle.calls_program.proofs.call.entries_by.Goals as goal

pub returns : goal.returns
returns c =
    subst (λ listed. Reads c.entries_of.result (entries_of listed (map (λ w. string_bytes w) c.args.roots.now))) c.listed_by-listed.ensures c.entries_of.ensures
