-- What a given store keeps.
use Rattle.std.proofs.Common.{◌≡◌, ℕ, List, [], ◌∷◌, Option, None, Some, refl, sym, ap, ◌∙◌, subst}
use Rattle.std.specs.Option.{option_or}
use Rattle.std.specs.Cmp.Lexicographic.{nat_list_cmp_total}
use Rattle.std.specs.FinMap as finite
use Rattle.std.specs.FinMap.{IsAntisymmetric, nat_cmp-IsAntisymmetric, slice_cmp-IsAntisymmetric}
use Rattle.spec_base.specs.Shown.{text_cmp}
use Rattle.semver_npm.specs.Orders.{nv_cmp}
use Rattle.semver_npm.specs.declared.package.PackageNv.{PackageNv}
use Rattle.source_sums.specs.VersionKeys.{nv_exact, nv_total}
use Rattle.metadata_store.specs.Answers.{with_package_answer, with_version_answer}
use Rattle.metadata_store.specs.declared.store.JsrMetadataStore.{JsrMetadataStore}
use Rattle.registry_files.specs.Answers.{FileAnswer}
use Rattle.graph_turns.specs.declared.registry.RegistryFile.{RegistryFile}
use Rattle.graph_turns.specs.declared.registry.RegistryFile.TheVariants.{Package, PackageAgain, Version, Probe}
use Rattle.graph_turns.specs.Promise.Versions.{store_with}
use Rattle.open_loads.specs.Order.Numbered.{filled_store}
use Rattle.open_loads.specs.Taught.{KeepsStore}
use Rattle.graph_turns.proofs.Entering.Joined.{first_told}

store_itself : (old : Option JsrMetadataStore) → KeepsStore old old
store_itself None = tt
store_itself (Some store) = λ file answer at. at

pub store_kept : (old new : Option JsrMetadataStore) → new ≡ old → KeepsStore old new
store_kept old new same = subst (KeepsStore old) (sym same) (store_itself old)

-- what stores have under other names
pub store_as : (old new own_old own_new : Option JsrMetadataStore) → own_old ≡ old → new ≡ own_new → KeepsStore own_old own_new → KeepsStore old new
store_as old new own_old own_new before after kept = subst (λ (o : Option JsrMetadataStore). KeepsStore o new) before (subst (KeepsStore own_old) (sym after) kept)

-- one keeps what the one before kept
pub store_more : (a b c : Option JsrMetadataStore) → KeepsStore a b → KeepsStore b c → KeepsStore a c
store_more None None c x y = y
store_more None (Some b) c x y = absurd x
store_more (Some a) None c x y = absurd x
store_more (Some a) (Some b) None x y = absurd y
store_more (Some a) (Some b) (Some c) x y = λ file answer at. y file answer (x file answer at)

-- texts tie only with equal ones
text_exact : IsAntisymmetric text_cmp
text_exact = slice_cmp-IsAntisymmetric nat_cmp-IsAntisymmetric

none_behind : {A : Type 0} (o : Option A) → option_or o None ≡ o
none_behind None = refl
none_behind (Some a) = refl

-- what stands stays where an answer is added
package_still : (store : JsrMetadataStore) (name : List ℕ) (added : FileAnswer) (n : List ℕ) (answer : FileAnswer) → finite.get store.packages n ≡ Some answer → finite.get (with_package_answer store name added).packages n ≡ Some answer
package_still store name added n answer at =
    sym (none_behind (finite.get (with_package_answer store name added).packages n)) ∙ first_told nat_list_cmp_total text_exact store.packages name added [] n ∙ ap (λ o. option_or o (finite.find text_cmp n ((name, added) ∷ []))) at

version_still : (store : JsrMetadataStore) (nv : PackageNv) (added : FileAnswer) (n : PackageNv) (answer : FileAnswer) → finite.get store.versions n ≡ Some answer → finite.get (with_version_answer store nv added).versions n ≡ Some answer
version_still store nv added n answer at =
    sym (none_behind (finite.get (with_version_answer store nv added).versions n)) ∙ first_told nv_total nv_exact store.versions nv added [] n ∙ ap (λ o. option_or o (finite.find nv_cmp n ((nv, added) ∷ []))) at

pub store_put : (store : JsrMetadataStore) (file : RegistryFile) (added : FileAnswer) → KeepsStore (Some store) (Some (store_with store file added))
store_put store (Package name) added (Package n) answer at = package_still store name added n answer at
store_put store (Package name) added (PackageAgain n) answer at = at
store_put store (Package name) added (Version n) answer at = at
store_put store (Package name) added (Probe n) answer at = at
store_put store (PackageAgain name) added file answer at = at
store_put store (Probe nv) added file answer at = at
store_put store (Version nv) added (Package n) answer at = at
store_put store (Version nv) added (PackageAgain n) answer at = at
store_put store (Version nv) added (Probe n) answer at = at
store_put store (Version nv) added (Version n) answer at = version_still store nv added n answer at

-- all that is to be added
pub store_filled : (store : Option JsrMetadataStore) (added : List (RegistryFile × FileAnswer)) → KeepsStore store (filled_store store added)
store_filled None added = tt
store_filled (Some store) [] = λ file answer at. at
store_filled (Some store) (e ∷ es) = λ file answer at. store_filled (Some (store_with store e.0 e.1)) es file answer (store_put store e.0 e.1 file answer at)
