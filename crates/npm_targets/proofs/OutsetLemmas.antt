-- The loads that are handed out are at no redirect yet and in no package.
use Rattle.std.proofs.Common.{◌≡◌, ℕ, Bool, true, false, List, [], ◌∷◌, ◌++◌, Option, None, Some, refl, sym, subst}
use Rattle.std.specs.Prelude.{flat_map}
use Rattle.std.specs.List.{All}
use Rattle.std.proofs.lemmas.List.Elements.{All-append, All-nil, All-push}
use Rattle.url.specs.Parts.{Parts}
use Rattle.spec_base.specs.Options.{by_option}
use Rattle.spec_base.specs.Position.{is_types}
use Rattle.spec_base.specs.declared.position.Range.{Range}
use Rattle.graph_errors.specs.declared.resolution.Resolution.{Resolution}
use Rattle.graph_errors.specs.declared.resolution.Resolution.TheVariants.{None as Nowhere, Ok as Leads, Err as Fails}
use Rattle.graph_core.specs.Edges.{edge_of, plain_context}
use Rattle.module_slots.specs.declared.load.Load.{Load}
use Rattle.module_slots.specs.declared.load.LoadContext.{LoadContext}
use Rattle.module_slots.specs.declared.slot.Module.TheVariants.{Js, Json, Wasm, Npm, Node, External}
use Rattle.module_slots.specs.declared.slot.ModuleSlot.{ModuleSlot}
use Rattle.module_slots.specs.declared.slot.ModuleSlot.TheVariants.{Module as Stands, Err as Failed, Pending}
use Rattle.graph_dependencies.specs.declared.dependency.Dependency.{Dependency}
use Rattle.graph_dependencies.specs.declared.dependency.TypesDependency.{TypesDependency}
use Rattle.npm_targets.specs.Edges.{Repointing, again_context, all_loads_again, loads_again, range_again, target_again, types_again, types_loads_again, types_range_again}
use Rattle.npm_targets.specs.Graphs.{IsFromOutset, KeepsOutset, root_context_again, root_loads, root_target, slot_loads}

-- one more load
pub pushed : (xs ys : List Load) (x : Load) → ys ≡ xs ++ x ∷ [] → x.context.hops ≡ 0 → x.context.«package» ≡ None → KeepsOutset xs ys
pushed xs ys x is hops none h = subst (All IsFromOutset) (sym is) (All-push IsFromOutset xs x h (hops, none))

one : (x : Load) → IsFromOutset x → All IsFromOutset (x ∷ [])
one x h = All-push IsFromOutset [] x (All-nil IsFromOutset) h

pub outset_flat : {X : Type 0} (f : X → List Load) → ((x : X) → All IsFromOutset (f x)) → (xs : List X) → All IsFromOutset (flat_map f xs)
outset_flat f h [] = All-nil IsFromOutset
outset_flat f h (x ∷ xs) = All-append IsFromOutset (f x) (flat_map f xs) (h x) (outset_flat f h xs)

outset_edge : (context : Range → LoadContext) (is_type : Bool) → ((at : Range) → ((context at).hops ≡ 0) × ((context at).«package» ≡ None)) → (r : Resolution) → All IsFromOutset (edge_of context is_type r)
outset_edge context is_type h Nowhere = All-nil IsFromOutset
outset_edge context is_type h (Leads r) = one (record { specifier = r.specifier; context = context r.range; is_type = is_type }) (h r.range)
outset_edge context is_type h (Fails e) = All-nil IsFromOutset

outset_dependency : (how : Repointing) (text : List ℕ) (d : Dependency) → All IsFromOutset (loads_again how text d)
outset_dependency how text d = by (range_again how.kind d)
  where
    by : (o : Option Range) → All IsFromOutset (by_option o [] (λ range. edge_of (again_context how.in_dynamic_phase d) (is_types how.kind) (target_again how text d range)))
    by None = All-nil IsFromOutset
    by (Some range) = outset_edge (again_context how.in_dynamic_phase d) (is_types how.kind) (λ at. (refl, refl)) (target_again how text d range)

pub outset_dependencies : (how : Repointing) (ds : List (List ℕ × Dependency)) → All IsFromOutset (all_loads_again how ds)
outset_dependencies how ds = outset_flat (λ e. loads_again how e.0 e.1) (λ e. outset_dependency how e.0 e.1) ds

outset_types : (how : Repointing) (t : TypesDependency) → All IsFromOutset (types_loads_again how t)
outset_types how t = by (types_range_again how.kind t)
  where
    by : (o : Option Range) → All IsFromOutset (by_option o [] (λ range. edge_of (λ at. record (plain_context at) { in_dynamic_phase = how.in_dynamic_phase }) true (types_again how t range)))
    by None = All-nil IsFromOutset
    by (Some range) = outset_edge (λ at. record (plain_context at) { in_dynamic_phase = how.in_dynamic_phase }) true (λ at. (refl, refl)) (types_again how t range)

outset_own_types : (how : Repointing) (o : Option TypesDependency) → All IsFromOutset (by_option o [] (types_loads_again how))
outset_own_types how None = All-nil IsFromOutset
outset_own_types how (Some t) = outset_types how t

pub outset_slot : (how : Repointing) (slot : ModuleSlot) → All IsFromOutset (slot_loads how slot)
outset_slot how (Stands (Js m)) = All-append IsFromOutset (by_option m.maybe_types_dependency [] (types_loads_again how)) (all_loads_again how m.dependencies) (outset_own_types how m.maybe_types_dependency) (outset_dependencies how m.dependencies)
outset_slot how (Stands (Json m)) = All-nil IsFromOutset
outset_slot how (Stands (Wasm m)) = outset_dependencies how m.dependencies
outset_slot how (Stands (Npm m)) = All-nil IsFromOutset
outset_slot how (Stands (Node m)) = All-nil IsFromOutset
outset_slot how (Stands (External m)) = All-nil IsFromOutset
outset_slot how (Failed e) = All-nil IsFromOutset
outset_slot how (Pending is_asset) = All-nil IsFromOutset

pub outset_root : (how : Repointing) (range : Range) (root : Parts) → All IsFromOutset (root_loads how range root)
outset_root how range root = by (root_target how range root)
  where
    by : (o : Option Parts) → All IsFromOutset (by_option o [] (λ s. record { specifier = s; context = root_context_again how.in_dynamic_phase; is_type = false } ∷ []))
    by None = All-nil IsFromOutset
    by (Some s) = one (record { specifier = s; context = root_context_again how.in_dynamic_phase; is_type = false }) (refl, refl)
