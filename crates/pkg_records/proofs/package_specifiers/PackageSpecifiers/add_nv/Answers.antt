use Rattle.std.proofs.Common.{◌≡◌, ◌∙◌, None, ap, subst, sym}
use Rattle.std.proofs.lemmas.Result.{on_ok_weaker}
use Rattle.std.specs.BTreeMap.{insert_entry, is_at}
use Rattle.std.specs.Map.{remove_entry}
use Rattle.semver_npm.specs.Orders.{req_cmp}
use Rattle.spec_base.specs.Shown.{text_cmp}
use Rattle.pkg_records.specs.Kept.{GrowsAtEnd, with_version}
use Rattle.version_dates.specs.Sets.{at_key}
use Rattle.pkg_records.proofs.KeptLemmas.{grows, listed, none_there, removed, tied_req}
use Rattle.pkg_records.proofs.package_specifiers.PackageSpecifiers.add_nv.Goals as goal

pub returns-then-contains_key-clause-grows : goal.returns-then-contains_key-clause-grows
returns-then-contains_key-clause-grows c =
    let lists = c.args.self.now.versions_by_name in
    let same : c.add.new.self ≡ with_version lists c.args.nv = c.in_ok-add.ensures.ok ∙ ap (with_version lists) c.in_ok-listed.ensures in
    on_ok_weaker c.insert.result
    (λ _ name. subst (λ l. GrowsAtEnd (listed (at_key text_cmp lists name)) (listed (at_key text_cmp l name)) c.args.nv) (sym same) (grows lists c.args.nv name))
    c.insert.ensures.ok

pub returns-in-Ok-clause-grows : goal.returns-in-Ok-clause-grows
returns-in-Ok-clause-grows c = λ name.
    let lists = c.args.self.now.versions_by_name in
    let same = c.in-Ok.ensures.ok ∙ ap (with_version lists) c.in_ok-listed.ensures in
    subst (λ l. GrowsAtEnd (listed (at_key text_cmp lists name)) (listed (at_key text_cmp l name)) c.args.nv) (sym same) (grows lists c.args.nv name)

pub returns-clause-err : goal.returns-clause-err
returns-clause-err c =
    let reqs = c.args.self.now.package_reqs in
    let req = c.args.package_req in
    let absent : at_key req_cmp reqs req ≡ None = none_there _ (sym c.contains_key.ensures ∙ c.if-contains_key.false) in
    let back = c.remove.ensures ∙ ap (remove_entry (is_at (req_cmp c.in_ok-key.key))) c.in_ok-insert.ensures.ok
    ∙ ap (λ k. remove_entry (is_at (req_cmp k)) (insert_entry req_cmp reqs req c.args.nv)) c.in_ok-key.ensures ∙ removed req_cmp req c.args.nv reqs (tied_req req) absent in
    λ i. record c.args.self.now { package_reqs = back i; versions_by_name = c.in-Err.ensures.err i }
