use Rattle.std.proofs.Common.{ap, sym, ◌∙◌, arith, string_bytes}
use Rattle.std.specs.Prelude.{is_some}
use Rattle.std.specs.List.{list_any}
use Rattle.std.proofs.lemmas.List.{take_all}
use Rattle.std.proofs.lemmas.List.Folds.{list_any_at}
use Rattle.file_tree.specs.Tree.{below}
use Rattle.file_tree.proofs.PathLemmas.{directory_mapped}
use Rattle.file_tree.proofs.memory_tree.is_directory.Goals as goal

pub returns-then-lies_under : goal.returns-then-lies_under
returns-then-lies_under c =
    sym (directory_mapped string_bytes c.args.paths.now c.args.directory.now
    ∙ list_any_at (λ path. is_some (below c.args.directory.now (string_bytes path))) c.args.paths.now c.loop-path.path-index c.path-item.result (omega arith)
    (ap (λ path. is_some (below c.args.directory.now (string_bytes path))) (sym c.path-item.is)
    ∙ ap (λ text. is_some (below c.args.directory.now text)) (sym c.deref.ensures) ∙ sym c.if-lies_under.ensures))

pub returns : goal.returns
returns c =
    sym (directory_mapped string_bytes c.args.paths.now c.args.directory.now
    ∙ ap (list_any (λ path. is_some (below c.args.directory.now (string_bytes path)))) (sym (take_all c.loop-path.path-index c.args.paths.now (omega arith)))
    ∙ c.loop-path.invariant)
