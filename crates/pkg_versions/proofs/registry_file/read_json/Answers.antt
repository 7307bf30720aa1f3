use Rattle.std.proofs.Common.{rules}
use Rattle.pkg_versions.proofs.RegistryLemmas.{json_none, json_read}
use Rattle.pkg_versions.proofs.registry_file.read_json.Goals as goal

pub returns-in-Ok : goal.returns-in-Ok
returns-in-Ok c = json_read c.args.bytes.now _ c.in-Ok.ensures.ok.0 c.in-Ok.ensures.ok.1

pub returns-else-is_memory : goal.returns-else-is_memory
returns-else-is_memory c = json_none c.args.bytes.now (c.in-Err.ensures.err (search rules))
