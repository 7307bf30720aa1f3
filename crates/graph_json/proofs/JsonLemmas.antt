-- The values of slots and redirects, one after another.
use Rattle.std.proofs.Common.{◌≡◌, ℕ, List, [], ◌∷◌, ◌++◌, map, sym, ap, ◌∙◌, append_assoc}
use Rattle.std.proofs.lemmas.List.{map-append}
use Rattle.serde_json.specs.Data.{Data, Members, put, string}
use Rattle.serde_json.specs.View.{view}
use Rattle.serde_json.specs.declared.value.Value.{Value}
use Rattle.url.specs.Parts.{Parts, serialize}
use Rattle.json_forms.specs.Rows.{members_from}
use Rattle.spec_base.specs.Specifier.{specifier_text, by_text}
use Rattle.semver_npm.specs.Packages.{nv_text, req_text}
use Rattle.semver_npm.specs.declared.package.PackageNv.{PackageNv}
use Rattle.semver_npm.specs.declared.package.PackageReq.{PackageReq}
use Rattle.graph_json.specs.GraphJson.{by_slot, package_row, slot_json, specifier_json, redirect_row}
use Rattle.module_slots.specs.declared.slot.ModuleSlot.{ModuleSlot}

-- the value of one more slot
pub one_slot : (all : List Data) (vs : List Value) (v : Value) (s : Parts) (slot : ModuleSlot) (left rest : List (Parts × ModuleSlot)) (key : List ℕ) → all ≡ map view vs ++ map slot_json (by_text left) → left ≡ (s, slot) ∷ rest → key ≡ serialize s → view v ≡ by_slot key slot
    → all ≡ map view (vs ++ v ∷ []) ++ map slot_json (by_text rest)
unfolding specifier_text
one_slot all vs v s slot left rest key before split text seen =
    before
    ∙ ap (λ es. map view vs ++ map slot_json (by_text es)) split
    ∙ ap (λ d. map view vs ++ d ∷ map slot_json (by_text rest)) (sym (seen ∙ ap (λ k. by_slot k slot) text))
    ∙ sym (append_assoc (map view vs) (view v ∷ []) (map slot_json (by_text rest)))
    ∙ ap (λ ds. ds ++ map slot_json (by_text rest)) (sym (map-append view vs (v ∷ [])))

-- the member of one more redirect
pub one_redirect : (all found now : Members) (s target : Parts) (left rest : List (Parts × Parts)) (key : List ℕ) (d : Data) → all ≡ members_from found (map redirect_row (by_text left)) → left ≡ (s, target) ∷ rest → key ≡ serialize s → d ≡ specifier_json target
    → now ≡ put key d found → all ≡ members_from now (map redirect_row (by_text rest))
unfolding specifier_text
one_redirect all found now s target left rest key d before split text value added =
    before
    ∙ ap (λ es. members_from found (map redirect_row (by_text es))) split
    ∙ ap (λ ms. members_from ms (map redirect_row (by_text rest))) (sym (added ∙ (λ i. put (text i) (value i) found)))

-- the member of one more requirement
pub one_package : (all found now : Members) (req : PackageReq) (nv : PackageNv) (left rest : List (PackageReq × PackageNv)) (key : List ℕ) (d : Data) → all ≡ members_from found (map package_row left) → left ≡ (req, nv) ∷ rest → key ≡ req_text req → d ≡ string (nv_text nv)
    → now ≡ put key d found → all ≡ members_from now (map package_row rest)
one_package all found now req nv left rest key d before split text value added =
    before
    ∙ ap (λ es. members_from found (map package_row es)) split
    ∙ ap (λ ms. members_from ms (map package_row rest)) (sym (added ∙ (λ i. put (text i) (value i) found)))
