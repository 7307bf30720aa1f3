-- What words say that have workers, or have none.
use Rattle.std.proofs.Common.{◌≡◌, ℕ, Bool, true, false, List, Option, Some, None, ap, sym, subst}
use Rattle.std.specs.Prelude.{◌||◌, ◌↔◌, IfSome, is_some}
use Rattle.spec_base.specs.Options.{by_option}
use Rattle.graph_core.specs.declared.graph.ModuleGraph.{ModuleGraph}
use Rattle.graph_printing.specs.Commands.{is_command}
use Rattle.program_phases.specs.Outcome.{SaysOfText}
use Rattle.graph_printing.specs.Printed.{printed, printed_for}
use Rattle.program_phases.specs.declared.status.Status.{Status}
use Rattle.program_phases.specs.declared.status.Status.TheVariants.{Words}
use Rattle.graph_info.specs.Pooled.{printed_of_all}
use Rattle.graph_info.specs.Words.{is_command_of_all, workers_of}

-- the same text is said of
text_by : (done written : Option (List ℕ)) (text other : List ℕ) (status : Status) → other ≡ text → IfSome done (λ bytes. SaysOfText bytes written text status) → IfSome done (λ bytes. SaysOfText bytes written other status)
text_by done written text other status same says = subst (λ t. IfSome done (λ bytes. SaysOfText bytes written t status)) (sym same) says

module _ (words : List (List ℕ)) (number : ℕ) (with_workers : Some number ≡ workers_of words) where
  -- they are a command
  pub command_with : is_command_of_all words ≡ true
  command_with = ap (λ (o : Option ℕ). is_some o || is_command words) (sym with_workers)

  -- so that no run of them ends as one of other words
  pub words_with : (status : Status) → (status ≡ Words → ⊥) → (status ≡ Words) ↔ (is_command_of_all words ≡ false)
  words_with status never = ((λ is. absurd (never is)), (λ other. absurd (let command = command_with in cc)))

  -- and write what `build` writes
  pub text_with : (done written : Option (List ℕ)) (g : ModuleGraph) (status : Status) → IfSome done (λ bytes. SaysOfText bytes written (printed g) status) → IfSome done (λ bytes. SaysOfText bytes written (printed_of_all words g) status)
  text_with done written g status says = text_by done written (printed g) (printed_of_all words g) status (ap (λ (o : Option ℕ). by_option o (printed_for words g) (λ workers. printed g)) (sym with_workers)) says

module _ (words : List (List ℕ)) (without : None ≡ workers_of words) where
  -- without workers the commands are those of the program without them
  pub command_without : is_command_of_all words ≡ is_command words
  command_without = ap (λ (o : Option ℕ). is_some o || is_command words) (sym without)

  -- other words are those of the program without them
  pub words_without : (status : Status) → (status ≡ Words) ↔ (is_command words ≡ false) → (status ≡ Words) ↔ (is_command_of_all words ≡ false)
  words_without status says = subst (λ (b : Bool). (status ≡ Words) ↔ (b ≡ false)) (sym command_without) says

  -- and write what those write
  pub text_without : (done written : Option (List ℕ)) (g : ModuleGraph) (status : Status) → IfSome done (λ bytes. SaysOfText bytes written (printed_for words g) status) → IfSome done (λ bytes. SaysOfText bytes written (printed_of_all words g) status)
  text_without done written g status says = text_by done written (printed_for words g) (printed_of_all words g) status (ap (λ (o : Option ℕ). by_option o (printed_for words g) (λ workers. printed g)) (sym without)) says

  -- none are told of
  pub no_workers : is_some (workers_of words) ≡ true → ⊥
  no_workers some = absurd (cc)
