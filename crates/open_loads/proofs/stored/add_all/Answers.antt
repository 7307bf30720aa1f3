use Rattle.std.proofs.Common.{◌∙◌, Some, length, fold, refl, sym, ap, subst, arith}
use Rattle.metadata_store.specs.declared.store.JsrMetadataStore.{JsrMetadataStore}
use Rattle.registry_files.specs.Answers.{FileAnswer}
use Rattle.graph_turns.specs.declared.registry.RegistryFile.{RegistryFile}
use Rattle.graph_turns.specs.Promise.Versions.{store_with}
use Rattle.open_loads.specs.Taught.{KeepsStore}
use Rattle.open_loads.proofs.Order.KeptStores.{store_put}
use Rattle.open_loads.proofs.stored.add_all.Goals as goal

abbrev put_in : JsrMetadataStore → RegistryFile × FileAnswer → JsrMetadataStore
put_in s e = store_with s e.0 e.1

pub loop-file-init : goal.loop-file-init
loop-file-init c = record { filled = refl; kept = λ file answer at. at }

pub loop-file-smaller : goal.loop-file-smaller
loop-file-smaller c = let long = ap length c.in-Some.ensures.some in omega (arith, long)

pub loop-file-preserved : goal.loop-file-preserved
loop-file-preserved c = record {
  filled =
      ap (λ (s : JsrMetadataStore). fold put_in s c.pop_front.new.self) c.in_ok-add_stored.ensures.ok
      ∙ ap (fold put_in c.loop-file.store) (sym c.in-Some.ensures.some)
      ∙ c.loop-file.invariant.filled;
  kept = subst (λ (s : JsrMetadataStore). KeepsStore (Some c.args.store.now) (Some s)) (sym c.in_ok-add_stored.ensures.ok)
      (λ file answer at. store_put c.loop-file.store c.in-Some.file c.in-Some.answer file answer (c.loop-file.invariant.kept file answer at));
}

pub returns-in_err-add_stored-clause-kept : goal.returns-in_err-add_stored-clause-kept
returns-in_err-add_stored-clause-kept c = subst (λ (s : JsrMetadataStore). KeepsStore (Some c.args.store.now) (Some s)) (sym c.in_err-add_stored.ensures.err) c.loop-file.invariant.kept

pub returns-clause-filled : goal.returns-clause-filled
returns-clause-filled c = sym (ap (fold put_in c.loop-file.store) c.in_default.ensures.none) ∙ c.loop-file.invariant.filled

pub returns-clause-none_left : goal.returns-clause-none_left
returns-clause-none_left c = c.in_default.ensures.same ∙ c.in_default.ensures.none

pub returns-clause-kept : goal.returns-clause-kept
returns-clause-kept c = c.loop-file.invariant.kept
