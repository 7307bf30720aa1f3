-- A run that nothing stops ends by no refusal.
use Rattle.std.proofs.Common.{◌≡◌, ◌⊎◌, inl, inr, ◌≤◌, ◌+◌, ℕ, false, List, ◌++◌, length, Option, Some, None, Ok, Err, refl, ap, subst, ◌∙◌, length-append, arith}
use Rattle.std.specs.Prelude.{IfSome}
use Rattle.graph_core.specs.declared.graph.ModuleGraph.{ModuleGraph}
use Rattle.world_file.specs.declared.input.Input.{Input}
use Rattle.program_phases.proofs.CallsWithin.{within_more}
use Rattle.program_phases.specs.declared.status.Status.{Status}
use Rattle.program_phases.specs.declared.status.Status.TheVariants.{Valid, Invalid, Words, NotAWorld, ReadFault, WriteFault, Budget, LoaderFault, Memory, TooLong}
use Rattle.program_phases.specs.Completes.{Completes, IsAfforded, IsCovered, IsFinished, IsUnstopped}
use Rattle.graph_printing.specs.Commands.{is_command}
use Rattle.program_phases.specs.Outcome.{FailsInTurns, IsTooLarge}
use Rattle.program_phases.specs.Phases.{IsInputBy, IsRefusedStatus, SaysOfRefusal, SaysOfRun}
use Rattle.byte_io.specs.Reading.{most_bytes}
use Rattle.world_file.specs.WorldFile.{world_of}

same_input : (bytes : List ℕ) (a b : Input) → world_of bytes ≡ Some a → world_of bytes ≡ Some b → a ≡ b
same_input bytes a b first second = cc

no_world : (bytes : List ℕ) (a : Input) → world_of bytes ≡ None → world_of bytes ≡ Some a → ⊥
no_world bytes a none some = absurd (cc)

not_too_long : (bytes taken rest : List ℕ) → bytes ≡ taken ++ rest → length taken ≡ most_bytes + 1 → length bytes ≤ most_bytes → ⊥
not_too_long bytes taken rest parts long within =
    let whole : length bytes ≡ length taken + length rest = ap length parts ∙ length-append taken rest in
    omega (arith, whole, long, within)

-- ends of a run where the source tells the bytes of a world that isn't too long
module _ (told : Option (List ℕ)) (SourceFails SinkFails : Type 0) (bytes : List ℕ) (input : Input) (tells : told ≡ Some bytes) (within : length bytes ≤ most_bytes) (world : world_of bytes ≡ Some input) where
  refusal_ends : (left : Option (List ℕ)) (status : Status) → SaysOfRefusal bytes left status → IsRefusedStatus status → (status ≡ ReadFault → SourceFails) → (SourceFails → ⊥) → IsFinished status
  refusal_ends left NotAWorld says refused fails calm = no_world bytes input says.1 world
  refusal_ends left ReadFault says refused fails calm = calm (fails refl)
  refusal_ends left TooLong says refused fails calm = not_too_long bytes says.taken says.rest says.parts says.ends within
  refusal_ends left Memory says refused fails calm = tt
  refusal_ends left Valid says refused fails calm = tt
  refusal_ends left Invalid says refused fails calm = tt
  refusal_ends left Words says refused fails calm = refused
  refusal_ends left WriteFault says refused fails calm = refused
  refusal_ends left Budget says refused fails calm = refused
  refusal_ends left LoaderFault says refused fails calm = refused

  -- without an input
  pub refused_ends : (left : Option (List ℕ)) (status : Status) → IfSome told (λ bytes. IsInputBy bytes left (Err status)) → IsRefusedStatus status → (status ≡ ReadFault → SourceFails) → (SourceFails → ⊥) → IsFinished status
  refused_ends left status read refused fails calm =
      refusal_ends left status (subst (λ o. IfSome o (λ bytes. IsInputBy bytes left (Err status))) tells read) refused fails calm

  module _ (left : Option (List ℕ)) (built : Input) (read : IfSome told (λ bytes. IsInputBy bytes left (Ok built))) where
    is_built : built ≡ input
    is_built =
        let whole : IsInputBy bytes left (Ok built) = subst (λ o. IfSome o (λ bytes. IsInputBy bytes left (Ok built))) tells read in
        same_input bytes built input whole.1 world

    -- over an input that was read
    pub run_ends : (g : ModuleGraph) (status : Status) → SaysOfRun built g status → (status ≡ WriteFault → SinkFails) → (SinkFails → ⊥) → (IsTooLarge input → ⊥) → (status ≡ LoaderFault → FailsInTurns input → ⊥) → IsFinished status
    run_ends g Valid says fails calm room loads = tt
    run_ends g Invalid says fails calm room loads = tt
    run_ends g Memory says fails calm room loads = tt
    run_ends g WriteFault says fails calm room loads = calm (fails refl)
    run_ends g Budget says fails calm room loads = room (subst IsTooLarge is_built says.1)
    run_ends g LoaderFault says fails calm room loads = loads refl (subst FailsInTurns is_built says.1)
    run_ends g Words says fails calm room loads = says
    run_ends g NotAWorld says fails calm room loads = says
    run_ends g ReadFault says fails calm room loads = says
    run_ends g TooLong says fails calm room loads = says

-- an input for which enough questions may be put isn't too large
pub never_large : (input : Input) → IsCovered input ⊎ IsAfforded input → IsTooLarge input → ⊥
never_large input (inl covered) large = large.uncovered covered.questions (covered.covers large.newest large.limit) covered.enough
never_large input (inr afforded) large =
    let within = afforded large.newest large.limit large.over.count in
    let over = large.over.over in
    omega (arith, within, over)

module _ (words : List (List ℕ)) (told : Option (List ℕ)) (SourceFails SinkFails : Type 0) where
  pub words_finish : is_command words ≡ false → Completes words told SourceFails SinkFails Words
  words_finish other = λ bytes input tells u source sink. absurd (let command = u.command in cc)

  pub refused_finish : (left : Option (List ℕ)) (status : Status) → IfSome told (λ bytes. IsInputBy bytes left (Err status)) → IsRefusedStatus status → (status ≡ ReadFault → SourceFails) → Completes words told SourceFails SinkFails status
  refused_finish left status read refused fails = λ bytes input tells u source sink.
      refused_ends told SourceFails SinkFails bytes input tells u.within u.world left status read refused fails source

  module _ (left : Option (List ℕ)) (built : Input) (read : IfSome told (λ bytes. IsInputBy bytes left (Ok built))) where
    none_loads : (input : Input) (bytes : List ℕ) (status : Status) → IsUnstopped words bytes input → status ≡ LoaderFault → FailsInTurns input → ⊥
    none_loads input bytes status u is some =
        let all = within_more input.fail_next some.last input.max_loads some.within some.fails in
        let none = u.none_fails in
        cc

    pub run_finishes : (g : ModuleGraph) (status : Status) → SaysOfRun built g status → (status ≡ WriteFault → SinkFails) → Completes words told SourceFails SinkFails status
    run_finishes g status says fails = λ bytes input tells u source sink.
        run_ends told SourceFails SinkFails bytes input tells u.within u.world left built read g status says fails sink
        (never_large input u.enough) (none_loads input bytes status u)
