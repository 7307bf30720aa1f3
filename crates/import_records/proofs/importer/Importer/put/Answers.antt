use Rattle.std.proofs.Common.{rules, sym, ap, ◌∙◌, bytes_eq, position}
use Rattle.std.specs.Prelude.{string_bytes}
use Rattle.std.specs.Map.{keys_of}
use Rattle.spec_base.specs.Shown.{shown}
use Rattle.import_records.specs.Importing.{importing}
use Rattle.import_records.specs.Growing.{grown}
use Rattle.import_records.proofs.PutLemmas.{at_place, at_end}
use Rattle.import_records.proofs.importer.Importer.put.Goals as goal

pub returns-in_ok-add-in-Some : goal.returns-in_ok-add-in-Some
returns-in_ok-add-in-Some g c = λ told.
    at_place _ c.args.dependencies.now.entries c.args.found c.in-Some.at c.unwrap-dependency.result.now c.add.new.dependency
    (c.in-Some.ensures.index ∙ ap (λ t. position (λ k. bytes_eq t (string_bytes k)) (keys_of c.args.dependencies.now.entries)) c.as_str.ensures)
    (search rules) (c.in_ok-add-in-Some.ensures told)

pub returns-in_ok-insert-in-None : goal.returns-in_ok-insert-in-None
unfolding grown
returns-in_ok-insert-in-None g c = λ told.
    ap shown c.in_ok-insert-in-None.ensures.entries
    ∙ at_end _ c.args.dependencies.now.entries c.args.found c.into_string.result c.add-in-None.new.dependency
    c.as_str.result.now c.as_str.ensures (sym c.in-None.ensures.found) (search rules)
    (c.in_ok-add-in-None.ensures told ∙ ap (λ d. grown (importing g.U.JsrUrlProvider.meaning g.R.Resolver.meaning c.args.self.now) d c.args.found) c.in_ok-dependency-in-None.ensures)
