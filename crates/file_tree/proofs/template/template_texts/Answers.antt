use Rattle.std.proofs.Common.{◌≡◌, ◌∙◌, ap, sym, filter_map, option_copied}
use Rattle.std.proofs.lemmas.Result.{IfOk-weaker}
use Rattle.file_tree.specs.Tree.{ascending}
use Rattle.file_tree.specs.Walk.{has_path, files_below}
use Rattle.file_tree.specs.Template.{text_of_file, template_texts}
use Rattle.file_tree.proofs.TemplateLemmas.{texts_whole}
use Rattle.file_tree.proofs.template.template_texts.Goals as goal

pub returns-in_ok-files-in-Some : goal.returns-in_ok-files-in-Some
returns-in_ok-files-in-Some g c =
    let all =
    texts_whole (g.T.FileTree.paths c.args.tree.now) c.args.referrer.now c.args.parts.now (option_copied c.args.attribute_type) c.is_json_type.result c.in-Some.directory c.in_ok-files-in-Some.files.items (sym c.in_ok-directory.ensures ∙ c.in-Some.is) c.is_json_type.ensures
    (λ path. c.in_ok-files-in-Some.ensures path ∙ ap (λ d. has_path (files_below (g.T.FileTree.paths c.args.tree.now) d) path) c.as_str.ensures)
    in
    IfOk-weaker c.texts_of.result
    (λ texts. texts ≡ ascending (filter_map (text_of_file c.args.referrer.now c.args.parts.now c.is_json_type.result) c.deref.result.now))
    (λ texts. texts ≡ template_texts (g.T.FileTree.paths c.args.tree.now) c.args.referrer.now c.args.parts.now (option_copied c.args.attribute_type))
    (λ texts e. e ∙ ap (λ files. ascending (filter_map (text_of_file c.args.referrer.now c.args.parts.now c.is_json_type.result) files)) c.deref.ensures.value ∙ all)
    c.texts_of.ensures
