-- What holds of what makes modules, where that is told.
use Rattle.std.proofs.Common.{◌≡◌, Bool, true, false, Option, None, Some, refl, if◌then◌else◌, IfSome}
use denote.Bor.{Bor}
use Rattle.source_io.specs.Resolvers.{ResolverMeaning}
use Rattle.graph_dependencies.specs.declared.graph_kind.GraphKind.{GraphKind}
use Rattle.import_records.specs.Target.{NvOf, Resolving, meant, is_told_resolver, told_resolving}
use Rattle.module_info.specs.Infos.{Infos}
use Rattle.slot_making.specs.Made.{Making, Paths, told_making}

made_if_true : (b : Bool) (infos : Infos) (paths : Paths) (m : Resolving) (kind : GraphKind) (skip config : Bool) (P : Making → Type 0)
    → (b ≡ true → P (record { infos = infos; paths = paths; resolving = m; kind = kind; skip_dynamic_deps = skip; config = config }))
    → IfSome (told_making (Some infos) paths (if b then Some m else None) kind skip config) P
made_if_true true infos paths m kind skip config P h = h refl
made_if_true false infos paths m kind skip config P h = tt

-- what holds under the premise, where the infos are told, holds of what is told
pub when_making : {R : Type 0} (nv_of : NvOf) (is_told : R → Bool) (meaning : R → ResolverMeaning) (resolver : Option (Bor R)) (infos : Option Infos) (paths : Paths) (kind : GraphKind) (skip config : Bool) (P : Making → Type 0)
    → (is_told_resolver is_told resolver ≡ true → IfSome infos (λ listed. P (record { infos = listed; paths = paths; resolving = record { resolver = meant meaning resolver; nv_of = nv_of }; kind = kind; skip_dynamic_deps = skip; config = config })))
    → IfSome (told_making infos paths (told_resolving nv_of is_told meaning resolver) kind skip config) P
when_making nv_of is_told meaning resolver None paths kind skip config P h = tt
when_making nv_of is_told meaning None (Some infos) paths kind skip config P h = h refl
when_making nv_of is_told meaning (Some l) (Some infos) paths kind skip config P h = made_if_true (is_told l.now) infos paths (record { resolver = meaning l.now; nv_of = nv_of }) kind skip config P h
