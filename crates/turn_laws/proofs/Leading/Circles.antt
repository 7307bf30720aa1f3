-- Circles of redirects: where each of them has a slot on it, known redirects end, and where they end, no other circle is.
use Rattle.std.proofs.Common.{◌≡◌, ◌≢◌, ℕ, zero, suc, ◌-◌, ◌≤◌, ◌<◌, List, Bool, true, false, cond, Option, None, Some, is_some, refl, sym, ap, ◌∙◌, subst, ⊎_elim, arith}
use Rattle.std.proofs.lemmas.Bool.{cases_eq}
use Rattle.std.specs.Cmp.Lexicographic.{nat_list_cmp_total}
use Rattle.std.specs.FinMap as finite
use Rattle.std.specs.FinMap.{len-remove, empty_of_len, get-empty}
use Rattle.url.specs.Parts.{Parts}
use Rattle.spec_base.specs.Shown.{text_cmp}
use Rattle.spec_base.specs.Specifier.{specifier_text}
use Rattle.graph_core.specs.declared.graph.ModuleGraph.{ModuleGraph}
use Rattle.graph_dependencies.specs.declared.graph_kind.GraphKind.{GraphKind}
use Rattle.graph_core.specs.Graph.{new_graph}
use Rattle.graph_turns.specs.Machine.Redirects.{RedirectsLead, HasNoCircle}
use Rattle.graph_turns.specs.Machine.Redirects.RedirectsLead.{last, onward}
use Rattle.graph_turns.specs.Promise.Reached.{IsSame}
use Rattle.graph_core.proofs.At.{cases_text, cut_same, cut_other, nothing_in_empty}
use Rattle.graph_turns.proofs.Leading.Ends.{Ends, stands, without_redirect}
use Rattle.graph_turns.proofs.Leading.Ends.Ends.{at_slot, at_last, on}
use Rattle.turn_laws.proofs.Leading.Paths.{End}

-- ---- where redirects end, none leads back

-- redirects lead nearer to an end
nearer : (g : ModuleGraph) {m : ℕ} {x d : List ℕ} → Ends g m x d → (s t : Parts) → x ≡ specifier_text s → RedirectsLead g s t → (k : ℕ) × (k < m) × Ends g k (specifier_text t) d
nearer g (at_slot h) s t is (last f e) = let at = subst (λ z. stands g z ≡ true) is h in cc
nearer g (at_slot h) s t is (onward f e r) = let at = subst (λ z. stands g z ≡ true) is h in cc
nearer g (at_last h n) s t is (last f e) = let at = subst (λ z. finite.get g.redirects z ≡ None) is n in cc
nearer g (at_last h n) s t is (onward f e r) = let at = subst (λ z. finite.get g.redirects z ≡ None) is n in cc
nearer g (on {m = m} {d = d} {t = u} h n rest) s t is (last f e) =
    let at = subst (λ z. finite.get g.redirects z ≡ Some u) is n in
    let same : u ≡ t = cc in
    (m, omega arith, subst (λ (v : Parts). Ends g m (specifier_text v) d) same rest)
nearer g (on {m = m} {d = d} {t = u} h n rest) s t is (onward {t = v} f e r) =
    let at = subst (λ z. finite.get g.redirects z ≡ Some u) is n in
    let same : u ≡ v = cc in
    let far = nearer g rest v t (ap specifier_text same) r in
    (far.0, omega (arith, far.1), far.2)

-- so none leads back
no_way_back : (g : ModuleGraph) (bound m : ℕ) (d : List ℕ) (s t : Parts) → m ≤ bound → Ends g m (specifier_text s) d → RedirectsLead g s t → IsSame s t → ⊥
no_way_back g zero m d s t le e r same = let near = nearer g e s t refl r in omega (arith, near.1, le)
no_way_back g (suc bound) m d s t le e r same =
    let near = nearer g e s t refl r in
    no_way_back g bound near.0 d s t (omega (arith, near.1, le)) (subst (λ z. Ends g near.0 z d) (sym same) near.2) r same

pub no_circle_of : (g : ModuleGraph) → ((x : List ℕ) → End g x) → HasNoCircle g
no_circle_of g ends s t r same = let e = ends (specifier_text s) in no_way_back g e.steps e.steps e.end s t (omega arith) e.way r same

-- the empty graph has no redirects
pub new_no_circle : (kind : GraphKind) → HasNoCircle (new_graph kind)
new_no_circle kind s t (last {t = u} h e) same = nothing_in_empty _ u e
new_no_circle kind s t (onward {t = u} h e r) same = nothing_in_empty _ u e

-- ---- where none leads back, redirects end

-- a redirect that stays where x's goes
pub kept_redirect : (g : ModuleGraph) (x y : List ℕ) (t : Parts) → finite.get (without_redirect g x).redirects y ≡ Some t → finite.get g.redirects y ≡ Some t
kept_redirect g x y t e = ⊎_elim
    (λ same. absurd (let at = subst (λ z. finite.get (finite.remove g.redirects x) z ≡ Some t) same e in let none = cut_same g.redirects x in cc))
    (λ ne. sym (cut_other g.redirects x y ne) ∙ e)
    (cases_text y x)

kept_lead : (g : ModuleGraph) (x : List ℕ) {s t : Parts} → RedirectsLead (without_redirect g x) s t → RedirectsLead g s t
kept_lead g x (last {s = s} {t = t} h e) = last h (kept_redirect g x (specifier_text s) t e)
kept_lead g x (onward {s = s} {t = t} h e r) = onward h (kept_redirect g x (specifier_text s) t e) (kept_lead g x r)

-- a way that doesn't end at x needs no redirect of x
kept_way : (g : ModuleGraph) (x : List ℕ) {m : ℕ} {y d : List ℕ} → Ends (without_redirect g x) m y d → d ≢ x → Ends g m y d
kept_way g x (at_slot h) ne = at_slot h
kept_way g x (at_last {x = y} h e) ne = at_last h (sym (cut_other g.redirects x y ne) ∙ e)
kept_way g x (on {x = y} {t = t} h e r) ne = on h (kept_redirect g x y t e) (kept_way g x r ne)

-- a way that ends at x, from where a redirect goes on to t, leads to t
comes_back : (g : ModuleGraph) (x : List ℕ) (t : Parts) → stands g x ≡ false → finite.get g.redirects x ≡ Some t → {m : ℕ} {y d : List ℕ} → Ends (without_redirect g x) m y d → d ≡ x → (s : Parts) → y ≡ specifier_text s → RedirectsLead g s t
comes_back g x t none e (at_slot {x = y} h) same s is = absurd (let at = subst (λ z. stands g z ≡ true) same h in cc)
comes_back g x t none e (at_last {x = y} h f) same s is =
    let at : x ≡ specifier_text s = sym same ∙ is in
    last (subst (λ z. stands g z ≡ false) at none) (subst (λ z. finite.get g.redirects z ≡ Some t) at e)
comes_back g x t none e (on {x = y} {t = u} h f r) same s is =
    onward (subst (λ z. stands g z ≡ false) is h) (subst (λ z. finite.get g.redirects z ≡ Some u) is (kept_redirect g x y u f)) (comes_back g x t none e r same u refl)

-- x ends where the redirect from it leads, and that way goes without it
end_behind : (g : ModuleGraph) → HasNoCircle g → (x : List ℕ) (t : Parts) → stands g x ≡ false → finite.get g.redirects x ≡ Some t → End (without_redirect g x) (specifier_text t) → End g x
end_behind g no_circle x t none e behind = ⊎_elim
    (λ same. absurd (no_circle t t (comes_back g x t none e behind.way same t refl) refl))
    (λ ne. record { steps = suc behind.steps; end = behind.end; way = on none e (kept_way g x behind.way ne) })
    (cases_text behind.end x)

end_at : (g : ModuleGraph) → HasNoCircle g → (x : List ℕ) → ((t : Parts) → finite.get g.redirects x ≡ Some t → End (without_redirect g x) (specifier_text t)) → End g x
end_at g no_circle x behind = by_slot (stands g x) refl
  where
    by_redirect : stands g x ≡ false → (o : Option Parts) → finite.get g.redirects x ≡ o → End g x
    by_redirect none None e = record { steps = 0; end = x; way = at_last none e }
    by_redirect none (Some t) e = end_behind g no_circle x t none e (behind t e)

    by_slot : (b : Bool) → stands g x ≡ b → End g x
    by_slot true h = record { steps = 0; end = x; way = at_slot h }
    by_slot false h = by_redirect h (finite.get g.redirects x) refl

has_one : (g : ModuleGraph) (x : List ℕ) (t : Parts) → finite.get g.redirects x ≡ Some t → 1 ≤ finite.len g.redirects
has_one g x t e = ⊎_elim
    (λ none. absurd (let empty_map = empty_of_len g.redirects none in let at = get-empty {X = Parts} text_cmp x in let gone : finite.get g.redirects x ≡ None = ap (λ (m : finite.FinMap text_cmp Parts). finite.get m x) empty_map ∙ at in cc))
    (λ some. omega arith)
    (cases_eq (finite.len g.redirects) 0)

one_less : (g : ModuleGraph) (x : List ℕ) (t : Parts) → finite.get g.redirects x ≡ Some t → finite.len (finite.remove g.redirects x) ≡ finite.len g.redirects - 1
one_less g x t e = len-remove nat_list_cmp_total g.redirects x ∙ ap (λ o. cond (is_some o) (finite.len g.redirects - 1) (finite.len g.redirects)) e

ends_within : (n : ℕ) (g : ModuleGraph) → finite.len g.redirects ≤ n → HasNoCircle g → (x : List ℕ) → End g x
ends_within zero g le no_circle x = end_at g no_circle x (λ t e. absurd (omega (arith, has_one g x t e, le)))
ends_within (suc n) g le no_circle x = end_at g no_circle x
    (λ t e. ends_within n (without_redirect g x) (omega (arith, has_one g x t e, one_less g x t e, le)) (λ a b r. no_circle a b (kept_lead g x r)) (specifier_text t))

-- in a graph where each circle of redirects has a slot on it, known redirects end
pub ends_of : (g : ModuleGraph) → HasNoCircle g → (x : List ℕ) → End g x
ends_of g no_circle x = ends_within (finite.len g.redirects) g (omega arith) no_circle x
