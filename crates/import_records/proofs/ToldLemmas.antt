-- What holds of what texts are resolved by, where that is told.
use Rattle.std.proofs.Common.{◌≡◌, Bool, true, false, Option, None, Some, refl, if◌then◌else◌, IfSome}
use denote.Bor.{Bor}
use Rattle.source_io.specs.Resolvers.{ResolverMeaning}
use Rattle.import_records.specs.Target.{NvOf, Resolving, meant, is_told_resolver, told_resolving}

if_true : {A : Type 0} (b : Bool) (x : A) (P : A → Type 0) → (b ≡ true → P x) → IfSome (if b then Some x else None) P
if_true true x P h = h refl
if_true false x P h = tt

-- what holds under the premise holds of what is told
pub when_told : {R : Type 0} (nv_of : NvOf) (is_told : R → Bool) (meaning : R → ResolverMeaning) (resolver : Option (Bor R)) (P : Resolving → Type 0) → (is_told_resolver is_told resolver ≡ true → P (record { resolver = meant meaning resolver; nv_of = nv_of })) → IfSome (told_resolving nv_of is_told meaning resolver) P
when_told nv_of is_told meaning None P h = h refl
when_told nv_of is_told meaning (Some l) P h = if_true (is_told l.now) (record { resolver = meaning l.now; nv_of = nv_of }) P h
