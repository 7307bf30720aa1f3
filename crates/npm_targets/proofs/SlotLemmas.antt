-- A slot that has no edge that is resolved again stays, and what is left of each.
use Rattle.std.proofs.Common.{◌≡◌, ℕ, Bool, true, false, ◌||◌, List, [], ◌∷◌, ◌++◌, Option, None, Some, refl, ap}
use Rattle.std.specs.Prelude.{is_some, option_and_then, option_map}
use Rattle.spec_base.specs.Options.{by_option}
use Rattle.spec_base.specs.declared.position.Range.{Range}
use Rattle.spec_base.specs.declared.position.ResolutionKind.{ResolutionKind}
use Rattle.graph_dependencies.specs.declared.dependency.Dependency.{Dependency}
use Rattle.graph_dependencies.specs.declared.dependency.TypesDependency.{TypesDependency}
use Rattle.module_slots.specs.declared.slot.Module.TheVariants.{Js, Json, Wasm, Npm, Node, External}
use Rattle.module_slots.specs.declared.slot.ModuleSlot.{ModuleSlot}
use Rattle.module_slots.specs.declared.slot.ModuleSlot.TheVariants.{Module as Stands, Err as Failed, Pending}
use Rattle.npm_targets.specs.Edges.{Repointing, all_loads_again, loads_again, range_again, repointed_all, repointed_types, types_loads_again, types_range_again}
use Rattle.npm_targets.specs.Graphs.{IsLeftAs, repointed_script, repointed_slot, repointed_wasm, slot_loads}
use Rattle.npm_targets.specs.Steps.{changes, has_again, has_types_again, is_npm_slot}

left_false : (a b : Bool) → (a || b) ≡ false → a ≡ false
left_false true b e = e
left_false false b e = refl

right_false : (a b : Bool) → (a || b) ≡ false → b ≡ false
right_false true b e = cc
right_false false b e = e

-- nothing is done where there is no range
pub nothing_done : {A : Type 0} (o : Option Range) (none : A) (some : Range → A) → is_some o ≡ false → by_option o none some ≡ none
nothing_done None none some e = refl
nothing_done (Some range) none some e = cc

same_dependencies : (how : Repointing) (ds : List (List ℕ × Dependency)) → has_again how.kind ds ≡ false → repointed_all how ds ≡ ds
same_dependencies how [] e = refl
same_dependencies how (d ∷ ds) e =
    let one = nothing_done (range_again how.kind d.1) d.1 _ (left_false _ _ e) in
    let more = same_dependencies how ds (right_false (is_some (range_again how.kind d.1)) _ e) in
    λ i. (d.0, one i) ∷ more i

silent_dependencies : (how : Repointing) (ds : List (List ℕ × Dependency)) → has_again how.kind ds ≡ false → all_loads_again how ds ≡ []
silent_dependencies how [] e = refl
silent_dependencies how (d ∷ ds) e =
    let one : loads_again how d.0 d.1 ≡ [] = nothing_done (range_again how.kind d.1) [] _ (left_false _ _ e) in
    let more = silent_dependencies how ds (right_false (is_some (range_again how.kind d.1)) _ e) in
    λ i. one i ++ more i

same_types : (how : Repointing) (o : Option TypesDependency) → has_types_again how.kind o ≡ false → option_map (repointed_types how) o ≡ o
same_types how None e = refl
same_types how (Some t) e = ap Some (nothing_done (types_range_again how.kind t) t _ e)

silent_types : (how : Repointing) (o : Option TypesDependency) → has_types_again how.kind o ≡ false → by_option o [] (types_loads_again how) ≡ []
silent_types how None e = refl
silent_types how (Some t) e = nothing_done (types_range_again how.kind t) [] _ e

-- a slot that doesn't change stays
pub stays : (how : Repointing) (slot : ModuleSlot) → changes how.kind slot ≡ false → repointed_slot how slot ≡ Some slot
stays how (Stands (Js m)) e =
    let types = same_types how m.maybe_types_dependency (left_false _ _ e) in
    let dependencies = same_dependencies how m.dependencies (right_false (has_types_again how.kind m.maybe_types_dependency) _ e) in
    λ i. Some (Stands (Js (record m { dependencies = dependencies i; maybe_types_dependency = types i })))
stays how (Stands (Json m)) e = refl
stays how (Stands (Wasm m)) e =
    let dependencies = same_dependencies how m.dependencies e in
    λ i. Some (Stands (Wasm (record m { dependencies = dependencies i })))
stays how (Stands (Npm m)) e = cc
stays how (Stands (Node m)) e = refl
stays how (Stands (External m)) e = refl
stays how (Failed x) e = refl
stays how (Pending is_asset) e = refl

-- and nothing is loaded for it
pub silent : (how : Repointing) (slot : ModuleSlot) → changes how.kind slot ≡ false → slot_loads how slot ≡ []
silent how (Stands (Js m)) e =
    let types = silent_types how m.maybe_types_dependency (left_false _ _ e) in
    let dependencies = silent_dependencies how m.dependencies (right_false (has_types_again how.kind m.maybe_types_dependency) _ e) in
    λ i. types i ++ dependencies i
silent how (Stands (Json m)) e = refl
silent how (Stands (Wasm m)) e = silent_dependencies how m.dependencies e
silent how (Stands (Npm m)) e = refl
silent how (Stands (Node m)) e = refl
silent how (Stands (External m)) e = refl
silent how (Failed x) e = refl
silent how (Pending is_asset) e = refl

-- what is resolved again is left as it is to be
pub left_by : (how : Repointing) (o : Option ModuleSlot) → IsLeftAs o (option_and_then (repointed_slot how) o)
left_by how None = refl
left_by how (Some (Stands (Js m))) = (repointed_script how m, refl, refl)
left_by how (Some (Stands (Json m))) = refl
left_by how (Some (Stands (Wasm m))) = (repointed_wasm how m, refl, refl)
left_by how (Some (Stands (Npm m))) = refl
left_by how (Some (Stands (Node m))) = refl
left_by how (Some (Stands (External m))) = refl
left_by how (Some (Failed e)) = refl
left_by how (Some (Pending is_asset)) = refl

-- a slot that doesn't change is left
pub left_same : (kind : ResolutionKind) (slot : ModuleSlot) → changes kind slot ≡ false → IsLeftAs (Some slot) (Some slot)
left_same kind (Stands (Js m)) e = (m, refl, refl)
left_same kind (Stands (Json m)) e = refl
left_same kind (Stands (Wasm m)) e = (m, refl, refl)
left_same kind (Stands (Npm m)) e = cc
left_same kind (Stands (Node m)) e = refl
left_same kind (Stands (External m)) e = refl
left_same kind (Failed x) e = refl
left_same kind (Pending is_asset) e = refl

-- a module of npm goes
pub npm_goes : (how : Repointing) (slot : ModuleSlot) → is_npm_slot slot ≡ true → repointed_slot how slot ≡ None
npm_goes how (Stands (Js m)) e = cc
npm_goes how (Stands (Json m)) e = cc
npm_goes how (Stands (Wasm m)) e = cc
npm_goes how (Stands (Npm m)) e = refl
npm_goes how (Stands (Node m)) e = cc
npm_goes how (Stands (External m)) e = cc
npm_goes how (Failed x) e = cc
npm_goes how (Pending is_asset) e = cc

pub npm_left : (slot : ModuleSlot) → is_npm_slot slot ≡ true → (n : Option ModuleSlot) → n ≡ None → IsLeftAs (Some slot) n
npm_left (Stands (Js m)) e n none = cc
npm_left (Stands (Json m)) e n none = cc
npm_left (Stands (Wasm m)) e n none = cc
npm_left (Stands (Npm m)) e n none = none
npm_left (Stands (Node m)) e n none = cc
npm_left (Stands (External m)) e n none = cc
npm_left (Failed x) e n none = cc
npm_left (Pending is_asset) e n none = cc
