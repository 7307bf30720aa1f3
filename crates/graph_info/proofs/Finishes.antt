-- A run that nothing stops ends by no refusal, with workers or without.
use Rattle.std.proofs.Common.{◌≡◌, ℕ, List, Option, None, Ok, Err, sym, ◌∙◌}
use Rattle.std.specs.Prelude.{IfSome}
use Rattle.graph_core.specs.declared.graph.ModuleGraph.{ModuleGraph}
use Rattle.world_file.specs.declared.input.Input.{Input}
use Rattle.program_phases.specs.Completes.{Completes, IsUnstopped}
use Rattle.program_phases.specs.Phases.{IsInputBy, IsRefusedStatus, SaysOfRun}
use Rattle.program_phases.specs.declared.status.Status.{Status}
use Rattle.program_phases.specs.declared.status.Status.TheVariants.{LoaderFault, ReadFault, WriteFault}
use Rattle.program_phases.proofs.Finishes.{never_large, refused_ends, run_ends}
use Rattle.graph_info.specs.Pooled.{CompletesOfAll, CompletesPooled, IsUnstoppedOfAll}
use Rattle.graph_info.specs.Words.{workers_of}
use Rattle.graph_info.proofs.Words.{command_without}

module _ (told : Option (List ℕ)) (SourceFails SinkFails : Type 0) where
  -- a run through workers without an input
  pub refused_completes : (left : Option (List ℕ)) (status : Status) → IfSome told (λ bytes. IsInputBy bytes left (Err status)) → IsRefusedStatus status → (status ≡ ReadFault → SourceFails) → CompletesPooled told SourceFails SinkFails status
  refused_completes left status read refused fails = λ bytes input tells room source sink.
      refused_ends told SourceFails SinkFails bytes input tells room.within room.world left status read refused fails source

  -- and one with an input
  pub pooled_completes : (left : Option (List ℕ)) (built : Input) → IfSome told (λ bytes. IsInputBy bytes left (Ok built)) → (g : ModuleGraph) (status : Status) → SaysOfRun built g status → (status ≡ WriteFault → SinkFails) → (status ≡ LoaderFault → ⊥) → CompletesPooled told SourceFails SinkFails status
  pooled_completes left built read g status says fails loads = λ bytes input tells room source sink.
      run_ends told SourceFails SinkFails bytes input tells room.within room.world left built read g status says fails sink
      (never_large input room.enough) (λ is some. loads is)

  -- words with workers
  pub completes_with : (words : List (List ℕ)) (status : Status) → CompletesPooled told SourceFails SinkFails status → CompletesOfAll words told SourceFails SinkFails status
  completes_with words status completes = λ bytes input tells u source sink. completes bytes input tells u.room source sink

  unstopped : (words : List (List ℕ)) (bytes : List ℕ) (input : Input) → None ≡ workers_of words → IsUnstoppedOfAll words bytes input → IsUnstopped words bytes input
  unstopped words bytes input without u = record {
    command = sym (command_without words without) ∙ u.command;
    within = u.room.within;
    world = u.room.world;
    none_fails = u.none_fails (sym without);
    enough = u.room.enough;
  }

  -- words without them
  pub completes_without : (words : List (List ℕ)) (status : Status) → None ≡ workers_of words → Completes words told SourceFails SinkFails status → CompletesOfAll words told SourceFails SinkFails status
  completes_without words status without completes = λ bytes input tells u source sink. completes bytes input tells (unstopped words bytes input without u) source sink
