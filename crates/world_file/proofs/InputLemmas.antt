-- Answers are read before the other members of a file.
use Rattle.std.proofs.Common.{◌≡◌, ℕ, Some, None, refl}
use Rattle.std.specs.Prelude.{Option, codes, option_and_then}
use Rattle.serde_json.specs.Data.{Data}
use Rattle.json_forms.specs.Form.{whole, given}
use Rattle.json_forms.specs.Member.{required}
use Rattle.world_answers.specs.WorldAnswers.{answers_in}
use Rattle.world_file.specs.WorldFile.{has_members, input, limits_of, roots_of, world_in}
use Rattle.world_file.specs.WorldImports.{imports_of, kind_of}
use Rattle.world_file.specs.WorldNpm.{npm_of}
use Rattle.world_file.specs.WorldRegistry.{registry_of}
use Rattle.world_file.specs.WorldSettings.{settings_of}
use Rattle.world_file.specs.WorldSums.{sums_of}
use Rattle.world_file.specs.WorldTree.{tree_of}
use Rattle.world_file.specs.declared.limits.Limits.{Limits}
use Rattle.world_file.specs.declared.world_sums.WorldSums.{WorldSums}

-- nothing comes of it, whatever stood before
nothing : {A B : Type 0} (o : Option A) (f : A → Option B) → ((a : A) → f a ≡ None) → option_and_then f o ≡ None
nothing None f none = refl
nothing (Some a) f none = none a

no_world : (d : Data) (version : ℕ) (limits : Limits) (sums : WorldSums) → answers_in version d ≡ None → world_in version limits sums d ≡ None
no_world d version limits sums none = nothing (tree_of d) _ (λ tree. rw none refl)

-- a file whose answers have no form is no world
pub without_answers : (d : Data) (version : ℕ) → required whole (codes "version") d ≡ Some version → answers_in version d ≡ None → input d ≡ None
without_answers d version there none =
    rw there (nothing (given (has_members version d)) _ (λ known. nothing (roots_of d) _ (λ roots. nothing (imports_of d) _ (λ imports.
    nothing (kind_of d) _ (λ kind. nothing (limits_of d) _ (λ limits. nothing (sums_of d) _ (λ sums. nothing (settings_of sums d) _ (λ settings.
    nothing (registry_of d) _ (λ registry. nothing (npm_of d) _ (λ npm. rw (no_world d version limits sums none) refl))))))))))
