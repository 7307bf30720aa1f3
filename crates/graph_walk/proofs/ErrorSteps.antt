-- The errors of a walk, step by step.
use Rattle.std.specs.Prelude.{◌==◌}
use Rattle.std.proofs.Common.{◌≡◌, ℕ, ◌+◌, ◌<◌, List, [], ◌∷◌, ◌++◌, length, reverse, Bool, true, false, cond, refl, sym, ap, ◌∙◌, arith, append_assoc, length-append}
use Rattle.std.proofs.lemmas.Bool.Decides.{nat_tests}
use Rattle.std.proofs.lemmas.List.{append-nil, length-reverse}
use Rattle.std.specs.Prelude.{string_bytes}
use Rattle.std.specs.declared.string.String.{String}
use Rattle.url.specs.Parts.{Parts}
use Rattle.spec_base.specs.Shown.{shown}
use Rattle.graph_dependencies.specs.declared.dependency.Dependency.{Dependency}
use Rattle.graph_errors.specs.declared.errors.ModuleGraphError.{ModuleGraphError}
use Rattle.graph_core.specs.declared.graph.ModuleGraph.{ModuleGraph}
use Rattle.graph_walk.specs.Lists.{Text}
use Rattle.graph_walk.specs.Options.{How}
use Rattle.graph_walk.specs.Order.{Named, Entry, WalkView, rest}
use Rattle.graph_walk.specs.Errors.{ErrorsView, rest_errors, named_errors, dependencies_errors, entry_errors, error_list, errors_left, errors_room}

dependencies-cons : (g : ModuleGraph) (o : How) (b : Bool) (here : Parts) (d : Named) (ds : List Named) → dependencies_errors g o b here (d ∷ ds) ≡ named_errors g o b here d ++ dependencies_errors g o b here ds
unfolding dependencies_errors
dependencies-cons g o b here d ds = refl

dependencies-none : (g : ModuleGraph) (o : How) (b : Bool) (here : Parts) → dependencies_errors g o b here [] ≡ []
unfolding dependencies_errors
dependencies-none g o b here = refl

pub push_same : {A : Type 0} (g : ModuleGraph) (o : How) (b : Bool) (here : Parts) (left rest : List (String A × Dependency)) (e : String A × Dependency) (errors next all : List ModuleGraphError) → left ≡ e ∷ rest
    → errors ++ dependencies_errors g o b here (shown left) ≡ all → next ≡ errors ++ named_errors g o b here (string_bytes e.0, e.1) → next ++ dependencies_errors g o b here (shown rest) ≡ all
push_same g o b here left rest e errors next all parts h is =
    ap (λ (xs : List ModuleGraphError). xs ++ dependencies_errors g o b here (shown rest)) is
    ∙ append_assoc errors (named_errors g o b here (string_bytes e.0, e.1)) (dependencies_errors g o b here (shown rest))
    ∙ ap (λ (xs : List ModuleGraphError). errors ++ xs) (sym (ap (λ xs. dependencies_errors g o b here (shown xs)) parts ∙ dependencies-cons g o b here (string_bytes e.0, e.1) (shown rest)))
    ∙ h

pub push_end : {A : Type 0} (g : ModuleGraph) (o : How) (b : Bool) (here : Parts) (left : List (String A × Dependency)) (errors all : List ModuleGraphError) → left ≡ [] → errors ++ dependencies_errors g o b here (shown left) ≡ all → errors ≡ all
push_end g o b here left errors all none h =
    sym (append-nil errors) ∙ ap (λ (xs : List ModuleGraphError). errors ++ xs) (sym (ap (λ xs. dependencies_errors g o b here (shown xs)) none ∙ dependencies-none g o b here)) ∙ h

error_list-cons : (g : ModuleGraph) (o : How) (e : Text × Entry) (es : List (Text × Entry)) → error_list g o (e ∷ es) ≡ reverse (entry_errors g o e.1) ++ error_list g o es
unfolding error_list
error_list-cons g o e es = refl

pub error_list-none : (g : ModuleGraph) (o : How) → error_list g o [] ≡ []
unfolding error_list
error_list-none g o = refl

module _ {O : Type 0} (as_how : O → How) (w n : WalkView O) (g : ModuleGraph) (o : O) (p : Text × Entry) (items : List ModuleGraphError) (none : items ≡ []) (step : rest as_how w ≡ p ∷ rest as_how n) (g_is : g ≡ w.graph) (o_is : o ≡ w.options) where
  left_is : errors_left as_how w items ≡ reverse (entry_errors g (as_how o) p.1) ++ error_list g (as_how o) (rest as_how n)
  left_is =
      ap (λ (xs : List ModuleGraphError). reverse xs ++ error_list w.graph (as_how w.options) (rest as_how w)) none
      ∙ ap (λ (a : ModuleGraph). error_list a (as_how w.options) (rest as_how w)) (sym g_is) ∙ ap (λ (b : O). error_list g (as_how b) (rest as_how w)) (sym o_is)
      ∙ ap (error_list g (as_how o)) step ∙ error_list-cons g (as_how o) p (rest as_how n)

  pub collect_step : (next : List ModuleGraphError) → n.graph ≡ w.graph → n.options ≡ w.options → next ≡ items ++ entry_errors g (as_how o) p.1 → errors_left as_how w items ≡ errors_left as_how n next
  collect_step next gn on e =
      let new : next ≡ entry_errors g (as_how o) p.1 = e ∙ ap (λ (xs : List ModuleGraphError). xs ++ entry_errors g (as_how o) p.1) none in
      left_is ∙ ap (λ (xs : List ModuleGraphError). reverse xs ++ error_list g (as_how o) (rest as_how n)) (sym new)
      ∙ ap (λ (a : ModuleGraph). reverse next ++ error_list a (as_how o) (rest as_how n)) (g_is ∙ sym gn) ∙ ap (λ (b : O). reverse next ++ error_list n.graph (as_how b) (rest as_how n)) (o_is ∙ sym on)

left_none : {O : Type 0} (as_how : O → How) (w : WalkView O) (items : List ModuleGraphError) → items ≡ [] → rest as_how w ≡ [] → errors_left as_how w items ≡ []
left_none as_how w items none e = ap (λ (xs : List ModuleGraphError). reverse xs ++ error_list w.graph (as_how w.options) (rest as_how w)) none ∙ ap (error_list w.graph (as_how w.options)) e ∙ error_list-none w.graph (as_how w.options)

pub empty_test : (len : ℕ) (items : List ModuleGraphError) → len ≡ length items → true ≡ (len == 0) → items ≡ []
empty_test len [] same e = refl
empty_test len (x ∷ xs) same e = absurd (grind (arith, nat_tests))

pub empty_len : (len : ℕ) (items : List ModuleGraphError) → len ≡ length items → len ≡ 0 → items ≡ []
empty_len len [] same e = refl
empty_len len (x ∷ xs) same e = absurd (omega arith)

-- nothing is left
pub nothing_left : {O : Type 0} (as_how : O → How) (v : ErrorsView O) (m : WalkView O) (items after : List ModuleGraphError) → v.has_ended ≡ false → errors_left as_how v.walk v.collected ≡ errors_left as_how m items → (items ≡ [] → rest as_how m ≡ []) → items ≡ [] → after ≡ []
    → (rest_errors as_how v ≡ []) × (rest_errors as_how (record { walk = m; collected = after; has_ended = v.has_ended }) ≡ [])
nothing_left as_how v m items after open_is same end none gone = (
  ap (λ (b : Bool). cond b [] (errors_left as_how v.walk v.collected)) open_is ∙ same ∙ left_none as_how m items none (end none),
  ap (λ (b : Bool). cond b [] (errors_left as_how m after)) open_is ∙ left_none as_how m after gone (end none),
)

-- one error fewer is left
pub fewer_left : {O : Type 0} (as_how : O → How) (v : ErrorsView O) (m : WalkView O) (items after : List ModuleGraphError) (error : ModuleGraphError) → v.has_ended ≡ false → errors_left as_how v.walk v.collected ≡ errors_left as_how m items → items ≡ after ++ error ∷ []
    → errors_room as_how (record { walk = m; collected = after; has_ended = v.has_ended }) < errors_room as_how v
fewer_left as_how v m items after error goes same parts =
    let before : errors_room as_how v ≡ length (errors_left as_how v.walk v.collected) + 1 = ap (λ (b : Bool). cond b 0 (length (errors_left as_how v.walk v.collected) + 1)) goes in
    let now : errors_room as_how (record { walk = m; collected = after; has_ended = v.has_ended }) ≡ length (errors_left as_how m after) + 1 = ap (λ (b : Bool). cond b 0 (length (errors_left as_how m after) + 1)) goes in
    let next = error_list m.graph (as_how m.options) (rest as_how m) in
    omega (
      arith,
      before,
      now,
      ap (λ (xs : List ModuleGraphError). length xs) same,
      ap (λ (xs : List ModuleGraphError). length xs) parts,
      length-append (reverse items) next,
      length-append (reverse after) next,
      length-reverse items,
      length-reverse after,
      length-append after (error ∷ []),
    )
