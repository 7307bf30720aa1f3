use Rattle.std.proofs.Common.{rules, ◌≡◌, ◌++◌, ◌+◌, ap, sym, ◌∙◌, length, append_assoc}
use Rattle.std.proofs.lemmas.List.{append-nil}
use Rattle.indexmap.specs.IndexMap.{set_value_at}
use Rattle.indexmap.specs.Layout.{length-set_value_at}
use Rattle.npm_targets.specs.Edges.{repointing}
use Rattle.npm_targets.proofs.EntryLemmas.{all_changed, all_told, change_next, changed_from, tell_next, told_from}
use Rattle.npm_targets.proofs.EntryWords.{import_again, import_loads_again}
use Rattle.npm_targets.proofs.repointing.Repointing.repoint_all_imports.Goals as goal

pub loop-at-preserved : goal.loop-at-preserved
loop-at-preserved g c =
    let how = repointing g.U.JsrUrlProvider.meaning g.R.Resolver.meaning c.args.self.now in
    let es = c.loop-at.imports.entries in
    let n = c.loop-at.at in
    let old = c.pair_mut-import.result.1.now in
    let new = record old { dependencies = c.repoint_dependencies.new.dependencies } in
    record {
      end = c.loop-at.invariant.end ∙ sym (length-set_value_at es n new);
      imports = λ told.
          change_next (import_again how) (import_loads_again how) n es _ _ new c.pair_mut-import.ensures.value
          (ap (λ ds. record old { dependencies = ds }) (c.in_ok-repoint_dependencies.ensures.dependencies told))
          ∙ c.loop-at.invariant.imports told;
      loads = λ told.
          ap (λ ls. ls ++ told_from (import_again how) (import_loads_again how) (n + 1) (set_value_at es n new)) (c.in_ok-repoint_dependencies.ensures.loads told)
          ∙ append_assoc c.loop-at.loads.items _ _
          ∙ ap (λ ls. c.loop-at.loads.items ++ ls) (sym (tell_next (import_again how) (import_loads_again how) n es _ _ new c.pair_mut-import.ensures.value))
          ∙ c.loop-at.invariant.loads told;
      outset = λ h. c.in_ok-repoint_dependencies.ensures.outset (c.loop-at.invariant.outset h);
    }

pub returns-clause-imports : goal.returns-clause-imports
returns-clause-imports g c = λ told.
    let how = repointing g.U.JsrUrlProvider.meaning g.R.Resolver.meaning c.args.self.now in
    let es = c.loop-at.imports.entries in
    let at_end : c.loop-at.at ≡ length es = search rules in
    sym (ap (λ n. changed_from (import_again how) (import_loads_again how) n es) at_end ∙ all_changed (import_again how) (import_loads_again how) es)
    ∙ c.loop-at.invariant.imports told

pub returns-clause-loads : goal.returns-clause-loads
returns-clause-loads g c = λ told.
    let how = repointing g.U.JsrUrlProvider.meaning g.R.Resolver.meaning c.args.self.now in
    let es = c.loop-at.imports.entries in
    let at_end : c.loop-at.at ≡ length es = search rules in
    sym (ap (λ ls. c.loop-at.loads.items ++ ls) (ap (λ n. told_from (import_again how) (import_loads_again how) n es) at_end ∙ all_told (import_again how) (import_loads_again how) es)
    ∙ append-nil c.loop-at.loads.items)
    ∙ c.loop-at.invariant.loads told
