use Rattle.std.proofs.Common.{rules, ◌≡◌, ◌∙◌, ap, sym, length, arith}
use Rattle.indexmap.specs.Layout.{length-set_value_at}
use Rattle.import_records.specs.Cut.{cut_one}
use Rattle.import_records.proofs.EntryLemmas.{changed_from, change_next, all_changed}
use Rattle.import_records.proofs.kind_cut.cut_all.Goals as goal

pub loop-at-preserved : goal.loop-at-preserved
loop-at-preserved c = (
  c.loop-at.invariant.0 ∙ sym (length-set_value_at c.loop-at.dependencies.entries c.loop-at.at c.cut.new.dependency),
  change_next _ c.loop-at.at c.loop-at.dependencies.entries c.unwrap-dependency.result.now c.cut.new.dependency (search rules) (search rules)
      ∙ c.loop-at.invariant.1,
)

pub returns : goal.returns
returns c =
    let at_end : c.loop-at.at ≡ length c.loop-at.dependencies.entries = search rules in
    sym (ap (λ n. changed_from (cut_one c.args.kind c.args.skip_dynamic_deps) n c.loop-at.dependencies.entries) at_end
    ∙ all_changed (cut_one c.args.kind c.args.skip_dynamic_deps) c.loop-at.dependencies.entries)
    ∙ c.loop-at.invariant.1
