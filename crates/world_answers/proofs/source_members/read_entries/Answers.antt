use Rattle.std.proofs.Common.{rules}
use Rattle.json_documents.specs.Documents.{named}
use Rattle.world_answers.specs.WorldSources.{source}
use Rattle.world_answers.proofs.MemberLemmas.{entries_apart}
use Rattle.world_answers.proofs.source_members.read_entries.Goals as goal

pub returns-in_err-keys : goal.returns-in_err-keys
returns-in_err-keys c = rw (entries_apart source (named c.args.members.now.entries)) (search rules)

pub returns-in_err-sources : goal.returns-in_err-sources
returns-in_err-sources c = rw (entries_apart source (named c.args.members.now.entries)) (search rules)

pub returns : goal.returns
returns c = rw (entries_apart source (named c.args.members.now.entries)) (search rules)
