use Rattle.std.proofs.Common.{◌≡◌, ◌∙◌, ◌++◌, ◌∷◌, [], Some, None, ap, sym, string_bytes, string_cmp, rules}
use Rattle.std.proofs.lemmas.Result.{on_err_weaker, on_ok_weaker}
use Rattle.std.proofs.lemmas.Map.Steps.{set_value_same}
use Rattle.std.specs.Map.{set_value}
use Rattle.std.specs.BTreeMap.{insert_entry, is_at}
use Rattle.spec_base.specs.Shown.{shown, text_cmp}
use Rattle.version_dates.specs.Sets.{at_key}
use Rattle.pkg_records.proofs.KeptLemmas.{insert_shown, lookup_shown, set_shown, with_new, with_there}
use Rattle.pkg_records.proofs.version_lists.VersionLists.add.Goals as goal

pub returns-in-Some-clause-ok : goal.returns-in-Some-clause-ok
returns-in-Some-clause-ok c =
    let k = c.as_str.result.now in
    let es = c.self.inside.lists.entries in
    let lists = c.args.self.now in
    let named : k ≡ c.args.nv.name = c.as_str.ensures in
    let there : at_key text_cmp lists k ≡ Some c.in-Some.list.now = sym (c.in-Some.ensures.value ∙ lookup_shown k es ∙ ap (λ fs. at_key text_cmp fs k) c.self.view_is) in
    let found : at_key text_cmp lists c.args.nv.name ≡ Some c.in-Some.list.now = ap (at_key text_cmp lists) (sym named) ∙ there in
    let w = c.append.new.list in
    let changed = ap shown (c.get_mut.follows.holds w).0 ∙ set_shown k es w ∙ ap (λ fs. set_value (is_at (text_cmp k)) fs w) c.self.view_is ∙ ap (λ t. set_value (is_at (text_cmp t)) lists w) named in
    on_ok_weaker c.append.result
    (λ is. changed ∙ ap (set_value (is_at (text_cmp c.args.nv.name)) lists) is ∙ sym (with_there lists c.args.nv c.in-Some.list.now found))
    c.append.ensures.ok

pub returns-in-Some-clause-err : goal.returns-in-Some-clause-err
returns-in-Some-clause-err c =
    let k = c.as_str.result.now in
    let es = c.self.inside.lists.entries in
    let lists = c.args.self.now in
    let there : at_key text_cmp lists k ≡ Some c.in-Some.list.now = sym (c.in-Some.ensures.value ∙ lookup_shown k es ∙ ap (λ fs. at_key text_cmp fs k) c.self.view_is) in
    let w = c.append.new.list in
    let changed = ap shown (c.get_mut.follows.holds w).0 ∙ set_shown k es w ∙ ap (λ fs. set_value (is_at (text_cmp k)) fs w) c.self.view_is in
    on_err_weaker c.append.result
    (λ is. changed ∙ ap (set_value (is_at (text_cmp k)) lists) is ∙ set_value_same (is_at (text_cmp k)) lists c.in-Some.list.now there)
    c.append.ensures.err

pub returns-clause-ok : goal.returns-clause-ok
returns-clause-ok c =
    let k = c.as_str.result.now in
    let es = c.self.inside.lists.entries in
    let lists = c.args.self.now in
    let named : k ≡ c.args.nv.name = c.as_str.ensures in
    let there : at_key text_cmp lists k ≡ None = sym (c.in_default.ensures.value ∙ lookup_shown k es ∙ ap (λ fs. at_key text_cmp fs k) c.self.view_is) in
    let none : at_key text_cmp lists c.args.nv.name ≡ None = ap (at_key text_cmp lists) (sym named) ∙ there in
    let key : string_bytes c.into_string-name.result ≡ c.args.nv.name = c.into_string-name.ensures ∙ c.in_ok-try_clone.ensures in
    let list : c.push.new.self ≡ c.args.nv ∷ [] = c.in_ok-push.ensures.ok ∙ ap (λ l. l ++ c.args.nv ∷ []) c.new-first.ensures in
    let same : c.get_mut.follows.lender-at-none.entries ≡ es = search rules in
    ap shown c.in_ok-insert.ensures.entries ∙ ap (λ fs. shown (insert_entry string_cmp fs c.into_string-name.result c.push.new.self)) same ∙ insert_shown es c.into_string-name.result c.push.new.self
    ∙ ap (λ fs. insert_entry text_cmp fs (string_bytes c.into_string-name.result) c.push.new.self) c.self.view_is
    ∙ ap (λ t. insert_entry text_cmp lists t c.push.new.self) key ∙ ap (insert_entry text_cmp lists c.args.nv.name) list ∙ sym (with_new lists c.args.nv none)
