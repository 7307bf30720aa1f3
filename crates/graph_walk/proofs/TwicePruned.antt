-- A graph that has lost its types loses nothing more.
use Rattle.std.proofs.Common.{◌≡◌, List, [], ◌∷◌, ◌++◌, map, filter, Bool, true, false, cond, not, ◌&&◌, Option, None, Some, refl, sym, ap, ◌∙◌, subst}
use Rattle.std.specs.Prelude.{bytes_eq}
use Rattle.std.specs.List.{list_any}
use Rattle.std.specs.Option.{option_map, is_some}
use Rattle.std.specs.FinMap.{IsAntisymmetric, nat_cmp-IsAntisymmetric, slice_cmp-IsAntisymmetric, same_map}
use Rattle.std.specs.Cmp.Lexicographic.{nat_list_cmp_total}
use Rattle.url.specs.Parts.{Parts}
use Rattle.spec_base.specs.Shown.{text_cmp}
use Rattle.graph_dependencies.specs.declared.graph_kind.GraphKind.{GraphKind}
use Rattle.graph_dependencies.specs.declared.graph_kind.GraphKind.TheVariants.{All, CodeOnly, TypesOnly}
use Rattle.graph_core.specs.declared.graph.ModuleGraph.{ModuleGraph}
use Rattle.module_slots.specs.declared.slot.Module.TheVariants.{Js, Json, Wasm, Npm, Node, External}
use Rattle.module_slots.specs.declared.slot.ModuleSlot.{ModuleSlot}
use Rattle.module_slots.specs.declared.slot.ModuleSlot.TheVariants.{Module as Stands, Err as Failed, Pending}
use Rattle.graph_core.specs.Pruned.{freed_named, freed_script, freed_wasm, freed_slot, has_text_of, keeps_slot}
use Rattle.graph_walk.specs.Lists.{Text, Among}
use Rattle.graph_walk.specs.Order.{Named, slot_of, redirect_of, texts, is_seen, walked, followed_targets, targets_back, late_at_slot}
use Rattle.graph_walk.specs.Prune.{prune_how, codes, prune_of, prune_adds, IsPruneClosed, IsPruned, is_node, is_node_at, has_node, LosesTypes, prunes_by, Prunes}
use Rattle.graph_walk.specs.Prunable.{of_kind}
use Rattle.graph_walk.proofs.SameMembers.{same_test, same_any, within_any, in_filter, from_filter, is_among, by_texts, kept_among, among_kept}

-- ---- what was freed has the same code, and nothing to be freed of
names_twice : (ds : List Named) → map freed_named (map freed_named ds) ≡ map freed_named ds
names_twice [] = refl
names_twice (d ∷ ds) = ap (λ xs. freed_named d ∷ xs) (names_twice ds)

slot_twice : (slot : ModuleSlot) → freed_slot (freed_slot slot) ≡ freed_slot slot
slot_twice (Stands (Js m)) = ap (λ (ds : List Named). Stands (Js (record (freed_script m) { dependencies = ds }))) (names_twice m.dependencies)
slot_twice (Stands (Json m)) = refl
slot_twice (Stands (Wasm m)) = ap (λ (ds : List Named). Stands (Wasm (record (freed_wasm m) { dependencies = ds }))) (names_twice m.dependencies)
slot_twice (Stands (Npm m)) = refl
slot_twice (Stands (Node m)) = refl
slot_twice (Stands (External m)) = refl
slot_twice (Failed e) = refl
slot_twice (Pending is_asset) = refl

free_twice : (slot : Option ModuleSlot) → option_map freed_slot (option_map freed_slot slot) ≡ option_map freed_slot slot
free_twice None = refl
free_twice (Some slot) = ap (λ (v : ModuleSlot). Some v) (slot_twice slot)

targets_freed : (ds : List Named) → targets_back prune_how (map freed_named ds) ≡ targets_back prune_how ds
unfolding targets_back
targets_freed [] = refl
targets_freed (d ∷ ds) = ap (λ xs. xs ++ followed_targets prune_how d) (targets_freed ds)

late_freed : (slot : ModuleSlot) → late_at_slot prune_how (freed_slot slot) ≡ late_at_slot prune_how slot
unfolding walked
late_freed (Stands (Js m)) = targets_freed m.dependencies
late_freed (Stands (Json m)) = refl
late_freed (Stands (Wasm m)) = targets_freed m.dependencies
late_freed (Stands (Npm m)) = refl
late_freed (Stands (Node m)) = refl
late_freed (Stands (External m)) = refl
late_freed (Failed e) = refl
late_freed (Pending is_asset) = refl

codes_freed : (slot : Option ModuleSlot) → codes (option_map freed_slot slot) ≡ codes slot
codes_freed None = refl
codes_freed (Some slot) = late_freed slot

node_freed : (slot : Option ModuleSlot) → is_node (option_map freed_slot slot) ≡ is_node slot
node_freed None = refl
node_freed (Some (Stands (Js m))) = refl
node_freed (Some (Stands (Json m))) = refl
node_freed (Some (Stands (Wasm m))) = refl
node_freed (Some (Stands (Npm m))) = refl
node_freed (Some (Stands (Node m))) = refl
node_freed (Some (Stands (External m))) = refl
node_freed (Some (Failed e)) = refl
node_freed (Some (Pending is_asset)) = refl

-- ---- what was left is kept again
module _ (g u : ModuleGraph) (h : LosesTypes g u) where
  same_redirect : (s : Text) → has_text_of h.kept s ≡ true → redirect_of u s ≡ redirect_of g s
  same_redirect s k = h.left.redirects s ∙ ap (λ b. cond b (redirect_of g s) None) k

  freed_left : (s : Text) → has_text_of h.kept s ≡ true → redirect_of g s ≡ None → slot_of u s ≡ option_map freed_slot (slot_of g s)
  freed_left s k r =
      let keeps : keeps_slot h.kept g s ≡ true = ap (λ b. b && not (is_some (redirect_of g s))) k ∙ ap (λ (o : Option Parts). not (is_some o)) r in
      h.left.slots s ∙ ap (λ b. cond b (option_map freed_slot (slot_of g s)) None) keeps

  same_adds : (s : Text) → has_text_of h.kept s ≡ true → prune_adds u s ≡ prune_adds g s
  unfolding prune_adds
  same_adds s k = by (redirect_of g s) refl
    where
      by : (to : Option Parts) → redirect_of g s ≡ to → prune_of (redirect_of u s) (slot_of u s) ≡ prune_of (redirect_of g s) (slot_of g s)
      by None r =
          ap (λ (q : Option Parts). prune_of q (slot_of u s)) (same_redirect s k ∙ r) ∙ ap codes (freed_left s k r) ∙ codes_freed (slot_of g s)
          ∙ sym (ap (λ (q : Option Parts). prune_of q (slot_of g s)) r)
      by (Some t) r = ap (λ (q : Option Parts). prune_of q (slot_of u s)) (same_redirect s k ∙ r) ∙ sym (ap (λ (q : Option Parts). prune_of q (slot_of g s)) r)

  adds_then : (s t : Text) → has_text_of h.kept s ≡ true → Among t (prune_adds u s) → Among t (prune_adds g s)
  adds_then s t k a = subst (λ (xs : List Text). Among t xs) (same_adds s k) a

  adds_now : (s t : Text) → has_text_of h.kept s ≡ true → Among t (prune_adds g s) → Among t (prune_adds u s)
  adds_now s t k a = subst (λ (xs : List Text). Among t xs) (sym (same_adds s k)) a

  closed_again : IsPruneClosed u (texts h.kept)
  closed_again = record {
    root = λ x a. h.least.0.root x (subst (λ (rs : List Parts). Among x (texts rs)) h.left.roots a);
    adds = λ s a t b. h.least.0.adds s a t (adds_then s t (among_kept h.kept s a) b);
  }

  -- those of a list that were kept before
  abbrev once_kept : List Text → List Text
  once_kept ys = filter (is_seen (texts h.kept)) ys

  closed_before : (ys : List Text) → IsPruneClosed u ys → IsPruneClosed g (once_kept ys)
  closed_before ys c = record {
    root = λ x a. from_filter (is_seen (texts h.kept)) ys x
        (c.root x (subst (λ (rs : List Parts). Among x (texts rs)) (sym h.left.roots) a))
        (is_among (texts h.kept) x (h.least.0.root x a));
    adds = λ s a t b.
        let r = in_filter (is_seen (texts h.kept)) ys s a in
        let k : has_text_of h.kept s ≡ true = by_texts (bytes_eq s) h.kept ∙ r.1 in
        from_filter (is_seen (texts h.kept)) ys t
        (c.adds s r.0 t (adds_now s t k b))
        (is_among (texts h.kept) t (h.least.0.adds s (kept_among h.kept s k) t b));
  }

  least_again : IsPruned u (texts h.kept)
  least_again = (closed_again, λ ys c x a. (in_filter (is_seen (texts h.kept)) ys x (h.least.1 (once_kept ys) (closed_before ys c) x a)).0)

  same_contains : (s : Text) → has_text_of h.kept s ≡ true → is_some (redirect_of u s) ≡ is_some (redirect_of g s)
  same_contains s k = ap is_some (same_redirect s k)

  same_node : (s : Text) → has_text_of h.kept s ≡ true → is_node_at u s ≡ is_node_at g s
  same_node s k = by (redirect_of g s) refl
    where
      by : (to : Option Parts) → redirect_of g s ≡ to → is_node_at u s ≡ is_node_at g s
      by None r =
          ap (λ b. not b && is_node (slot_of u s)) (same_contains s k) ∙ ap (λ b. not (is_some (redirect_of g s)) && b) (ap is_node (freed_left s k r) ∙ node_freed (slot_of g s))
      by (Some t) r =
          ap (λ (o : Option Parts). not (is_some o) && is_node (slot_of u s)) (same_redirect s k ∙ r) ∙ sym (ap (λ (o : Option Parts). not (is_some o) && is_node (slot_of g s)) r)

  node_again : has_node u h.kept ≡ has_node g h.kept
  node_again =
      by_texts (is_node_at u) h.kept ∙ same_any (is_node_at u) (is_node_at g) (texts h.kept) (λ s a. same_node s (among_kept h.kept s a))
      ∙ sym (by_texts (is_node_at g) h.kept)

  same_keeps : (s : Text) → keeps_slot h.kept u s ≡ keeps_slot h.kept g s
  same_keeps s = by (has_text_of h.kept s) refl
    where
      by : (b : Bool) → has_text_of h.kept s ≡ b → keeps_slot h.kept u s ≡ keeps_slot h.kept g s
      by true k = ap (λ b. has_text_of h.kept s && not b) (same_contains s k)
      by false k = ap (λ b. b && not (is_some (redirect_of u s))) k ∙ sym (ap (λ b. b && not (is_some (redirect_of g s))) k)

  redirects_again : (s : Text) → redirect_of u s ≡ cond (has_text_of h.kept s) (redirect_of u s) None
  redirects_again s = by (has_text_of h.kept s) refl
    where
      by : (b : Bool) → has_text_of h.kept s ≡ b → redirect_of u s ≡ cond b (redirect_of u s) None
      by true k = refl
      by false k = h.left.redirects s ∙ ap (λ b. cond b (redirect_of g s) None) k

  slots_again : (s : Text) → slot_of u s ≡ cond (keeps_slot h.kept u s) (option_map freed_slot (slot_of u s)) None
  slots_again s = by (keeps_slot h.kept g s) refl
    where
      by : (b : Bool) → keeps_slot h.kept g s ≡ b → slot_of u s ≡ cond (keeps_slot h.kept u s) (option_map freed_slot (slot_of u s)) None
      by true k =
          let now : slot_of u s ≡ option_map freed_slot (slot_of g s) = h.left.slots s ∙ ap (λ b. cond b (option_map freed_slot (slot_of g s)) None) k in
          now ∙ sym (free_twice (slot_of g s)) ∙ sym (ap (option_map freed_slot) now)
          ∙ sym (ap (λ b. cond b (option_map freed_slot (slot_of u s)) None) (same_keeps s ∙ k))
      by false k =
          h.left.slots s ∙ ap (λ b. cond b (option_map freed_slot (slot_of g s)) None) k
          ∙ sym (ap (λ b. cond b (option_map freed_slot (slot_of u s)) None) (same_keeps s ∙ k))

  pub loses_none : LosesTypes u u
  loses_none = record {
    kept = h.kept;
    least = least_again;
    left = record {
      roots = refl;
      imports = h.left.imports;
      redirects = redirects_again;
      node = h.left.node ∙ sym node_again;
      packages = refl;
      npm = refl;
      kind = h.left.kind;
      slots = slots_again;
    };
  }

-- ---- a pruning gives one graph
exact : IsAntisymmetric text_cmp
exact = slice_cmp-IsAntisymmetric nat_cmp-IsAntisymmetric

module _ (g u v : ModuleGraph) (h : LosesTypes g u) (k : LosesTypes g v) where
  same_kept : (s : Text) → has_text_of h.kept s ≡ has_text_of k.kept s
  same_kept s =
      same_test (has_text_of h.kept s) (has_text_of k.kept s)
      (λ e. among_kept k.kept s (h.least.1 (texts k.kept) k.least.0 s (kept_among h.kept s e)))
      (λ e. among_kept h.kept s (k.least.1 (texts h.kept) h.least.0 s (kept_among k.kept s e)))

  same_nodes : has_node g h.kept ≡ has_node g k.kept
  same_nodes =
      by_texts (is_node_at g) h.kept
      ∙ same_test (list_any (is_node_at g) (texts h.kept)) (list_any (is_node_at g) (texts k.kept))
      (within_any (is_node_at g) (texts h.kept) (texts k.kept) (h.least.1 (texts k.kept) k.least.0))
      (within_any (is_node_at g) (texts k.kept) (texts h.kept) (k.least.1 (texts h.kept) h.least.0))
      ∙ sym (by_texts (is_node_at g) k.kept)

  same_redirects : u.redirects ≡ v.redirects
  same_redirects =
      same_map nat_list_cmp_total exact u.redirects v.redirects (λ s. h.left.redirects s ∙ ap (λ b. cond b (redirect_of g s) None) (same_kept s) ∙ sym (k.left.redirects s))

  same_slots : u.slots ≡ v.slots
  same_slots =
      same_map nat_list_cmp_total exact u.slots v.slots (λ s. h.left.slots s
      ∙ ap (λ b. cond (b && not (is_some (redirect_of g s))) (option_map freed_slot (slot_of g s)) None) (same_kept s) ∙ sym (k.left.slots s))

  pub one_pruning : u ≡ v
  one_pruning =
      let roots = h.left.roots ∙ sym k.left.roots in
      let imports = h.left.imports ∙ sym k.left.imports in
      let node = h.left.node ∙ same_nodes ∙ sym k.left.node in
      let packages = h.left.packages ∙ sym k.left.packages in
      let npm = h.left.npm ∙ sym k.left.npm in
      let kind = h.left.kind ∙ sym k.left.kind in
      λ i. record { roots = roots i; imports = imports i; redirects = same_redirects i; has_node_specifier = node i; packages = packages i; npm_dep_graph_result = npm i; kind = kind i; slots = same_slots i }

-- ---- the laws
-- the kind plays no part in what is lost
any_kind : (kind : GraphKind) (u v : ModuleGraph) → LosesTypes (of_kind kind u) v → LosesTypes u v
unfolding prune_adds
any_kind kind u v h = record {
  kept = h.kept;
  least = (
    record { root = h.least.0.root; adds = h.least.0.adds },
    λ ys c. h.least.1 ys record { root = c.root; adds = c.adds },
  );
  left = record {
    roots = h.left.roots;
    imports = h.left.imports;
    redirects = h.left.redirects;
    node = h.left.node;
    packages = h.left.packages;
    npm = h.left.npm;
    kind = h.left.kind;
    slots = h.left.slots;
  };
}

pub collects_the_same : (kind : GraphKind) (g u v : ModuleGraph) → LosesTypes g u → Prunes (of_kind kind u) v → v ≡ u
collects_the_same All g u v h k = one_pruning u v u (any_kind All u v k) (loses_none g u h)
collects_the_same CodeOnly g u v h k = k ∙ ap (λ (x : GraphKind). of_kind x u) (sym h.left.kind)
collects_the_same TypesOnly g u v h k = one_pruning u v u (any_kind TypesOnly u v k) (loses_none g u h)

pub twice_is_once : (g u v : ModuleGraph) → Prunes g u → Prunes u v → v ≡ u
twice_is_once g u v p q = by g.kind refl p
  where
    code_alone : u.kind ≡ CodeOnly → v ≡ u
    code_alone e = subst (λ (x : GraphKind). prunes_by x u v) e q

    by : (kind : GraphKind) → g.kind ≡ kind → prunes_by kind g u → v ≡ u
    by All e h = code_alone h.left.kind
    by CodeOnly e h = code_alone (ap (λ (x : ModuleGraph). x.kind) h ∙ e)
    by TypesOnly e h = code_alone h.left.kind
