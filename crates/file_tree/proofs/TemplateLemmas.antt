-- The texts of a template, from the files that were found.
use Rattle.std.proofs.Common.{◌≡◌, ℕ, Bool, List, [], Option, Some, sym, ap, ◌∙◌, filter_map}
use Rattle.url.specs.Parts.{Parts}
use Rattle.module_info.specs.declared.argument.DynamicTemplatePart.{DynamicTemplatePart}
use Rattle.spec_base.specs.Options.{by_option}
use Rattle.file_tree.specs.Tree.{ascending}
use Rattle.file_tree.specs.Walk.{has_path, files_below}
use Rattle.file_tree.specs.Template.{start_directory, text_of_file, is_json_type, template_texts}
use Rattle.file_tree.proofs.TextSets.{same_made}

pub texts_whole : (paths : List (List ℕ)) (referrer : Parts) (parts : List DynamicTemplatePart) (attribute_type : Option (List ℕ)) (is_json : Bool) (d : List ℕ) (files : List (List ℕ)) → start_directory parts referrer ≡ Some d → is_json ≡ is_json_type attribute_type → ((path : List ℕ) → has_path files path ≡ has_path (files_below paths d) path) → ascending (filter_map (text_of_file referrer parts is_json) files) ≡ template_texts paths referrer parts attribute_type
unfolding template_texts
texts_whole paths referrer parts attribute_type is_json d files starts json same =
    same_made (text_of_file referrer parts is_json) files (files_below paths d) same
    ∙ ap (λ b. ascending (filter_map (text_of_file referrer parts b) (files_below paths d))) json
    ∙ sym (ap (λ o. by_option o [] (λ d. ascending (filter_map (text_of_file referrer parts (is_json_type attribute_type)) (files_below paths d)))) starts)
