-- Turns of loops that add to the end of a list.
use Rattle.std.proofs.Common.{◌≡◌, ℕ, suc, ◌+◌, ◌≤◌, ◌<◌, List, [], ◌∷◌, ◌++◌, map, length, drop, get_or, cond, refl, sym, ap, ◌∙◌, append_assoc, append-nil, add-one, drop-cons}
use Rattle.std.specs.Prelude.{flat_map, string_bytes}
use Rattle.std.specs.declared.string.String.{String}
use Rattle.std.proofs.lemmas.List.{drop_all}
use Rattle.url.specs.Parts.{Parts}
use Rattle.spec_base.specs.Shown.{shown}
use Rattle.graph_dependencies.specs.declared.graph_import.GraphImport.{GraphImport}
use Rattle.graph_walk.specs.Lists.{Text}
use Rattle.graph_walk.specs.Order.{Named, imported}
use Rattle.import_policy.specs.Breaches.{Breach, fits, edge_breaches}
use Rattle.import_policy.specs.Edges.{Edge}
use Rattle.import_policy.specs.Routes.{Route}
use Rattle.import_policy.specs.Traced.{Trace, trace, traces}
use Rattle.import_policy.specs.declared.rule.PolicyRule.{PolicyRule}

-- ---- lists

pub map_append : {X Y : Type 0} (f : X → Y) (xs ys : List X) → map f (xs ++ ys) ≡ map f xs ++ map f ys
map_append f [] ys = refl
map_append {X} {Y} f (x ∷ xs) ys = ap (λ (l : List Y). f x ∷ l) (map_append f xs ys)

pub flat_append : {X Y : Type 0} (f : X → List Y) (xs ys : List X) → flat_map f (xs ++ ys) ≡ flat_map f xs ++ flat_map f ys
flat_append f [] ys = refl
flat_append {X} {Y} f (x ∷ xs) ys = ap (λ (l : List Y). f x ++ l) (flat_append f xs ys) ∙ sym (append_assoc (f x) (flat_map f xs) (flat_map f ys))

-- what each gives, one after another
pub map_flat : {X Y Z : Type 0} (h : Y → Z) (f : X → List Y) (xs : List X) → map h (flat_map f xs) ≡ flat_map (λ x. map h (f x)) xs
map_flat h f [] = refl
map_flat {X} {Y} {Z} h f (x ∷ xs) = map_append h (f x) (flat_map f xs) ∙ ap (λ (l : List Z). map h (f x) ++ l) (map_flat h f xs)

pub flat_of_map : {X Y Z : Type 0} (f : Y → List Z) (v : X → Y) (xs : List X) → flat_map f (map v xs) ≡ flat_map (λ x. f (v x)) xs
flat_of_map f v [] = refl
flat_of_map {X} {Y} {Z} f v (x ∷ xs) = ap (λ (l : List Z). f (v x) ++ l) (flat_of_map f v xs)

-- ---- a turn, by what is left

pub push_turn : {X Y : Type 0} (f : X → List Y) (all now next : List Y) (left others : List X) (x : X) → all ≡ now ++ flat_map f left → left ≡ x ∷ others → next ≡ now ++ f x → all ≡ next ++ flat_map f others
push_turn {X} {Y} f all now next left others x same parts is =
    same ∙ ap (λ (l : List X). now ++ flat_map f l) parts ∙ sym (append_assoc now (f x) (flat_map f others)) ∙ ap (λ (l : List Y). l ++ flat_map f others) (sym is)

pub push_end : {X Y : Type 0} (f : X → List Y) (all now : List Y) (left : List X) → all ≡ now ++ flat_map f left → left ≡ [] → now ≡ all
push_end {X} f all now left same none = sym (same ∙ ap (λ (l : List X). now ++ flat_map f l) none ∙ append-nil now)

pub shown_parts : {A V : Type 0} (left others : List (String A × V)) (e : String A × V) → left ≡ e ∷ others → shown left ≡ (string_bytes e.0, e.1) ∷ shown others
shown_parts left others e parts = ap shown parts

pub shown_none : {A V : Type 0} (left : List (String A × V)) → left ≡ [] → shown left ≡ []
shown_none left none = ap shown none

-- those of one referrer, and then those of the others
pub referrer_turn : {Y : Type 0} (f : Named → List Y) (all now next : List Y) (left others : List (Parts × GraphImport)) (e : Parts × GraphImport) → all ≡ now ++ flat_map f (imported left) → left ≡ e ∷ others → next ≡ now ++ flat_map f e.1.dependencies → all ≡ next ++ flat_map f (imported others)
referrer_turn {Y} f all now next left others e same parts is =
    same
    ∙ ap (λ (l : List (Parts × GraphImport)). now ++ flat_map f (imported l)) parts
    ∙ ap (λ (l : List Y). now ++ l) (flat_append f e.1.dependencies (imported others))
    ∙ sym (append_assoc now (flat_map f e.1.dependencies) (flat_map f (imported others)))
    ∙ ap (λ (l : List Y). l ++ flat_map f (imported others)) (sym is)

-- ---- a turn, by the place

pub place_turn : {X Y : Type 0} (f : X → List Y) (all now next : List Y) (xs : List X) (i : ℕ) (x : X) → all ≡ now ++ flat_map f (drop i xs) → i < length xs → x ≡ get_or xs i x → next ≡ now ++ f x → all ≡ next ++ flat_map f (drop (i + 1) xs)
place_turn {X} f all now next xs i x same within is made =
    let parts : drop i xs ≡ x ∷ drop (i + 1) xs = drop-cons xs i x within ∙ ap (λ (z : X). z ∷ drop (suc i) xs) (sym is) ∙ ap (λ n. x ∷ drop n xs) (sym (add-one i)) in
    push_turn f all now next (drop i xs) (drop (i + 1) xs) x same parts made

pub place_end : {X Y : Type 0} (f : X → List Y) (all now : List Y) (xs : List X) (i : ℕ) → all ≡ now ++ flat_map f (drop i xs) → length xs ≤ i → now ≡ all
place_end f all now xs i same past = push_end f all now (drop i xs) same (drop_all i xs past)

-- ---- the rules in order

module _ (found : List Route) (from : Text) (e : Edge) where
  one_rule : (place : ℕ) (rule : PolicyRule) (others : List PolicyRule) → traces found (edge_breaches place (rule ∷ others) from e) ≡ traces found (edge_breaches place (rule ∷ []) from e) ++ traces found (edge_breaches (suc place) others from e)
  one_rule place rule others =
      let first : List Breach = cond (fits rule from e) (record { rule = place; from = from; edge = e } ∷ []) [] in
      map_append (trace found) first (edge_breaches (suc place) others from e)
      ∙ ap (λ (l : List Breach). traces found l ++ traces found (edge_breaches (suc place) others from e)) (sym (append-nil first))

  pub rule_turn : (all now next : List Trace) (rules : List PolicyRule) (i : ℕ) (rule : PolicyRule) → all ≡ now ++ traces found (edge_breaches i (drop i rules) from e) → i < length rules → rule ≡ get_or rules i rule → next ≡ now ++ traces found (edge_breaches i (rule ∷ []) from e)
      → all ≡ next ++ traces found (edge_breaches (i + 1) (drop (i + 1) rules) from e)
  rule_turn all now next rules i rule same within is made =
      let parts : drop i rules ≡ rule ∷ drop (i + 1) rules = drop-cons rules i rule within ∙ ap (λ (z : PolicyRule). z ∷ drop (suc i) rules) (sym is) ∙ ap (λ n. rule ∷ drop n rules) (sym (add-one i)) in
      same
      ∙ ap (λ (l : List PolicyRule). now ++ traces found (edge_breaches i l from e)) parts
      ∙ ap (λ (l : List Trace). now ++ l) (one_rule i rule (drop (i + 1) rules))
      ∙ sym (append_assoc now (traces found (edge_breaches i (rule ∷ []) from e)) (traces found (edge_breaches (suc i) (drop (i + 1) rules) from e)))
      ∙ ap (λ (l : List Trace). l ++ traces found (edge_breaches (suc i) (drop (i + 1) rules) from e)) (sym made)
      ∙ ap (λ n. next ++ traces found (edge_breaches n (drop (i + 1) rules) from e)) (sym (add-one i))

  pub rule_end : (all now : List Trace) (rules : List PolicyRule) (i : ℕ) → all ≡ now ++ traces found (edge_breaches i (drop i rules) from e) → length rules ≤ i → now ≡ all
  rule_end all now rules i same past =
      sym (same ∙ ap (λ (l : List PolicyRule). now ++ traces found (edge_breaches i l from e)) (drop_all i rules past) ∙ append-nil now)
