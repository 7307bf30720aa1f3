-- The texts of the files so far.
use Rattle.std.proofs.Common.{◌≡◌, take, filter_map}
use Rattle.file_tree.specs.Tree.{ascending}
use Rattle.file_tree.specs.Template.{text_of_file}
use Rattle.file_tree.proofs.template.texts_of.Given as goal

abbrev pub invariant-loop-file : goal.invariant-loop-file
invariant-loop-file l =
    l.texts ≡ ascending (filter_map (text_of_file l.referrer l.parts l.is_json) (take l.file-index l.files))
