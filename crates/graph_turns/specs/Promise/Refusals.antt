-- What a failure of a load is.
use Rattle.std.specs.Prelude.{Option}
use Rattle.spec_base.specs.Options.{by_option}
use Rattle.spec_base.specs.declared.load_error.LoadError.{LoadError}
use Rattle.spec_base.specs.declared.load_error.LoadError.TheVariants.{ChecksumIntegrity, Other}
use Rattle.graph_errors.specs.declared.errors.ModuleLoadError.{ModuleLoadError}
use Rattle.graph_errors.specs.declared.errors.ModuleLoadError.TheVariants.{HttpsChecksumIntegrity, Jsr, Loader}
use Rattle.graph_errors.specs.declared.jsr_error.JsrLoadError.TheVariants.{ContentChecksumIntegrity}
use Rattle.module_slots.specs.declared.load.LoadContext.{LoadContext}
use Rattle.graph_turns.specs.declared.question_of.Asked.{Asked}
use Rattle.graph_turns.specs.Promise.Taken.{info_for}

-- the loader's failure, or a source that isn't the one whose sum is known: outside of packages, or in one; of a file that is taken
-- from a cache by its info both are failures of the loader
abbrev pub refusal_of : LoadContext → Asked → LoadError → ModuleLoadError
refusal_of c asked (Other fault) = Loader (Other fault)
refusal_of c asked (ChecksumIntegrity e) =
    by_option asked.held (HttpsChecksumIntegrity e) (λ nv. by_option (info_for c asked) (Jsr (ContentChecksumIntegrity e)) (λ i. Loader (ChecksumIntegrity e)))
