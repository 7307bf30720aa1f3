-- What npm answers, by the table that a resolver tells.
--
-- A table has results of requirements, in a list, and one result of the graph of all packages. Asked for some requirements, a
-- resolver that tells a table answers one result for each of them, in their order: that of the first entry of the list that has
-- the same requirement, and Ok where no entry has it. With these it gives the result of the graph, whatever it was asked for.
-- Two requirements are the same where both their names and their texts are: `^1` and `1` are two, though they take the same versions.
use Rattle.std.specs.Prelude.{Bool, ◌&&◌, bytes_eq, find, List, map, Result, Ok, ⊤}
use Rattle.spec_base.specs.Options.{by_option}
use Rattle.semver_npm.specs.declared.npm_error.NpmLoadError.{NpmLoadError}
use Rattle.semver_npm.specs.declared.package.PackageReq.{PackageReq}
use Rattle.npm_resolver.specs.declared.types.NpmResolvePkgReqsResult.{NpmResolvePkgReqsResult}
use Rattle.npm_resolver.specs.declared.types.NpmTable.{NpmTable}

-- two requirements have one name and one text
abbrev pub same_requirement : PackageReq → PackageReq → Bool
same_requirement a b = bytes_eq a.name b.name && bytes_eq a.version_req b.version_req

-- the result of the first entry that is listed for a requirement, and Ok where none is
abbrev pub listed_result : List (PackageReq × Result ⊤ NpmLoadError) → PackageReq → Result ⊤ NpmLoadError
listed_result packages req = by_option (find (λ e. same_requirement e.0 req) packages) (Ok tt) (λ e. e.1)

-- what a table answers when requirements are asked for: the result of each in their order, and that of the graph
abbrev pub npm_answer : NpmTable → List PackageReq → NpmResolvePkgReqsResult
npm_answer table reqs = record {
  results = map (listed_result table.packages) reqs;
  dep_graph_result = table.graph;
}
