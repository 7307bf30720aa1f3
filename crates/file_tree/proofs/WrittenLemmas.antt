-- Where no descriptor has a template, writing out changes nothing.
use Rattle.std.proofs.Common.{◌≡◌, ℕ, List, [], ◌∷◌, false, refl, ◌++◌}
use Rattle.std.specs.Prelude.{flat_map}
use Rattle.std.specs.List.{list_any}
use Rattle.std.proofs.lemmas.Bool.{or_parts, true≢false}
use Rattle.url.specs.Parts.{Parts}
use Rattle.module_info.specs.declared.argument.DynamicArgument.{DynamicArgument}
use Rattle.module_info.specs.declared.argument.DynamicArgument.TheVariants.{Expr, String as Text, Template}
use Rattle.module_info.specs.declared.types.DependencyDescriptor.{DependencyDescriptor}
use Rattle.module_info.specs.declared.types.DependencyDescriptor.TheVariants.{Static, Dynamic}
use Rattle.module_info.specs.declared.types.DynamicDependencyDescriptor.{DynamicDependencyDescriptor}
use Rattle.file_tree.specs.Written.{is_template, has_template, written_argument, written}

-- a dynamic import of another argument stays
same_argument : (paths : List (List ℕ)) (referrer : Parts) (d : DynamicDependencyDescriptor) (argument : DynamicArgument) → is_template argument ≡ false → written_argument paths referrer d argument ≡ Dynamic d ∷ []
same_argument paths referrer d Expr h = refl
same_argument paths referrer d (Text text) h = refl
same_argument paths referrer d (Template parts) h = absurd (true≢false h)

same_descriptor : (paths : List (List ℕ)) (referrer : Parts) (d : DependencyDescriptor) → has_template d ≡ false → written paths referrer d ≡ d ∷ []
unfolding written
same_descriptor paths referrer (Static d) h = refl
same_descriptor paths referrer (Dynamic d) h = same_argument paths referrer d d.argument h

pub nothing_written : (paths : List (List ℕ)) (referrer : Parts) (descriptors : List DependencyDescriptor) → list_any has_template descriptors ≡ false → flat_map (written paths referrer) descriptors ≡ descriptors
nothing_written paths referrer [] h = refl
nothing_written paths referrer (d ∷ ds) h =
    let two = or_parts (has_template d) (list_any has_template ds) h in
    (λ i. same_descriptor paths referrer d two.0 i ++ nothing_written paths referrer ds two.1 i)
