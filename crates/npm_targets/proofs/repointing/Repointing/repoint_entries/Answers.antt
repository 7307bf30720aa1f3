use Rattle.std.proofs.Common.{rules, ◌≡◌, ◌++◌, ◌+◌, ap, sym, ◌∙◌, length, append_assoc}
use Rattle.std.proofs.lemmas.List.{append-nil}
use Rattle.indexmap.specs.IndexMap.{set_value_at}
use Rattle.indexmap.specs.Layout.{length-set_value_at}
use Rattle.spec_base.specs.Shown.{shown}
use Rattle.npm_targets.specs.Edges.{loads_again, repointed, repointing}
use Rattle.npm_targets.proofs.EntryLemmas.{all_changed, all_told, change_next, changed_from, changed_shown, tell_next, told_from, told_shown}
use Rattle.npm_targets.proofs.EntryWords.{entry_again, entry_loads}
use Rattle.npm_targets.proofs.repointing.Repointing.repoint_entries.Goals as goal

pub loop-at-preserved : goal.loop-at-preserved
loop-at-preserved g c =
    let how = repointing g.U.JsrUrlProvider.meaning g.R.Resolver.meaning c.args.self.now in
    let es = c.loop-at.entries.entries in
    let n = c.loop-at.at in
    let old = c.pair_mut-dependency.result.1.now in
    let new = c.repoint_dependency.new.dependency in
    record {
      end = c.loop-at.invariant.end ∙ sym (length-set_value_at es n new);
      entries = λ told.
          change_next (entry_again how) (entry_loads how) n es _ _ new c.pair_mut-dependency.ensures.value
          (c.in_ok-repoint_dependency.ensures.dependency told ∙ ap (λ k. repointed how k old) c.as_str.ensures.value)
          ∙ c.loop-at.invariant.entries told;
      loads = λ told.
          ap (λ ls. ls ++ told_from (entry_again how) (entry_loads how) (n + 1) (set_value_at es n new))
          (c.in_ok-repoint_dependency.ensures.loads told ∙ ap (λ k. c.loop-at.loads.items ++ loads_again how k old) c.as_str.ensures.value)
          ∙ append_assoc c.loop-at.loads.items _ _
          ∙ ap (λ ls. c.loop-at.loads.items ++ ls) (sym (tell_next (entry_again how) (entry_loads how) n es _ _ new c.pair_mut-dependency.ensures.value))
          ∙ c.loop-at.invariant.loads told;
      outset = λ h. c.in_ok-repoint_dependency.ensures.outset (c.loop-at.invariant.outset h);
    }

pub returns-clause-entries : goal.returns-clause-entries
returns-clause-entries g c = λ told.
    let how = repointing g.U.JsrUrlProvider.meaning g.R.Resolver.meaning c.args.self.now in
    let es = c.loop-at.entries.entries in
    let at_end : c.loop-at.at ≡ length es = search rules in
    ap shown (sym (ap (λ n. changed_from (entry_again how) (entry_loads how) n es) at_end ∙ all_changed (entry_again how) (entry_loads how) es)
    ∙ c.loop-at.invariant.entries told)
    ∙ changed_shown (repointed how) (loads_again how) c.args.entries.now.entries

pub returns-clause-loads : goal.returns-clause-loads
returns-clause-loads g c = λ told.
    let how = repointing g.U.JsrUrlProvider.meaning g.R.Resolver.meaning c.args.self.now in
    let es = c.loop-at.entries.entries in
    let at_end : c.loop-at.at ≡ length es = search rules in
    sym (ap (λ ls. c.loop-at.loads.items ++ ls) (ap (λ n. told_from (entry_again how) (entry_loads how) n es) at_end ∙ all_told (entry_again how) (entry_loads how) es)
    ∙ append-nil c.loop-at.loads.items)
    ∙ c.loop-at.invariant.loads told
    ∙ ap (λ ls. c.args.loads.now.items ++ ls) (told_shown (repointed how) (loads_again how) c.args.entries.now.entries)
