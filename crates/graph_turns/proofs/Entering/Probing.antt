-- The versions that are looked for, and the set of those that were found.
use Rattle.std.proofs.Common.{◌≡◌, ℕ, List, [], ◌∷◌, ◌++◌, ◌⊎◌, inl, inr, Bool, true, false, not, ◌&&◌, ◌||◌, cond, fold, map, if◌then◌else◌, Option, None, Some, Ok, Err, refl, sym, ap, ◌∙◌, subst}
use Rattle.std.proofs.lemmas.Bool.{true≢false}
use Rattle.std.proofs.lemmas.List.Elements.{All-cons, All-contains_itself, All-filter, All-head, All-map, All-nil, All-tail, filter_passes}
use Rattle.std.specs.BTreeMap.{is_at}
use Rattle.std.specs.BTreeSet.{insert_key}
use Rattle.std.specs.FinMap as finite
use Rattle.std.specs.List.{All, Contains, filter, list_any}
use Rattle.std.specs.Option.{option_or}
use Rattle.std.specs.Ordering.{match_ordering}
use Rattle.std.specs.declared.cmp.Ordering.{Ordering}
use Rattle.std.specs.declared.cmp.Ordering.TheVariants.{Less, Equal, Greater}
use Rattle.seen_pending.specs.Once.{each_once, unseen}
use Rattle.spec_base.specs.Options.{by_option}
use Rattle.semver_npm.specs.OrderLaws.{ver-anti}
use Rattle.semver_npm.specs.Versions.{Ver, ver_cmp}
use Rattle.semver_npm.specs.declared.package.PackageNv.{PackageNv}
use Rattle.semver_npm.specs.declared.package.PackageReq.{PackageReq}
use Rattle.pkg_versions.specs.Choice.{Listed, best_of, choice_of, fits, greatest, is_match, is_yanked_in, limit_met, listed, takes_pre_releases}
use Rattle.pkg_records.specs.Kept.{same_nv}
use Rattle.version_dates.specs.Sets.{has}
use Rattle.version_dates.specs.declared.newest_date.NewestDependencyDate.{NewestDependencyDate}
use Rattle.pkg_versions.specs.declared.package_info.JsrPackageInfo.{JsrPackageInfo}
use Rattle.graph_turns.specs.declared.state.State.{State}
use Rattle.graph_turns.specs.Machine.Probing.{Probed, is_met, to_probe, unprobed}
use Rattle.graph_turns.specs.Promise.Cached.{fitting, version_named}

-- ---- the set of some versions

or_swap : (a b c : Bool) → (a || (b || c)) ≡ (b || (a || c))
or_swap true true c = refl
or_swap true false c = refl
or_swap false true c = refl
or_swap false false c = refl

or_twice : (a b : Bool) → (a || b) ≡ (a || (a || b))
or_twice true b = refl
or_twice false b = refl

-- a test finds in a set with one more what it finds of these
any_inserted : (p : Ver → Bool) (ks : List Ver) (k : Ver) → list_any p (insert_key ver_cmp ks k) ≡ (p k || list_any p ks)
any_inserted p [] k = refl
any_inserted p (x ∷ xs) k = by (ver_cmp k x) refl (any_inserted p xs k)
  where
    by : (o : Ordering) → ver_cmp k x ≡ o → list_any p (insert_key ver_cmp xs k) ≡ (p k || list_any p xs) → list_any p (match_ordering o (k ∷ x ∷ xs) (x ∷ xs) (x ∷ insert_key ver_cmp xs k)) ≡ (p k || (p x || list_any p xs))
    by Less is rest = refl
    by Equal is rest = subst (λ (y : Ver). (p y || list_any p xs) ≡ (p k || (p y || list_any p xs))) (ver-anti k x is) (or_twice (p k) (list_any p xs))
    by Greater is rest = ap (λ b. p x || b) rest ∙ or_swap (p x) (p k) (list_any p xs)

any_collected : (p : Ver → Bool) (ks vs : List Ver) → list_any p (fold (insert_key ver_cmp) ks vs) ≡ (list_any p ks || list_any p vs)
any_collected p ks [] = by (list_any p ks)
  where
    by : (b : Bool) → b ≡ (b || false)
    by true = refl
    by false = refl
any_collected p ks (v ∷ vs) = any_collected p (insert_key ver_cmp ks v) vs ∙ ap (λ b. b || list_any p vs) (any_inserted p ks v) ∙ by (p v) (list_any p ks)
  where
    by : (a b : Bool) → ((a || b) || list_any p vs) ≡ (b || (a || list_any p vs))
    by true true = refl
    by true false = refl
    by false true = refl
    by false false = refl

-- the set of some versions has those
pub set_has : (vs : List Ver) (v : Ver) → has ver_cmp (fold (insert_key ver_cmp) [] vs) v ≡ has ver_cmp vs v
set_has vs v = any_collected (is_at (ver_cmp v)) [] vs

-- a choice goes by what the cached versions have
pub choice_by_set : (req : PackageReq) (info : JsrPackageInfo) (existing cached others : List Ver) (limit : Option NewestDependencyDate) → ((v : Ver) → has ver_cmp cached v ≡ has ver_cmp others v) → choice_of req info existing cached limit ≡ choice_of req info existing others limit
choice_by_set req info existing cached others limit same = λ i.
    let matching = is_match req.version_req (takes_pre_releases req.version_req info) in
    let within = λ (e : Listed). matching e.0 && fits limit e.1 in
    by_option
    (option_or (greatest (filter matching existing))
    (option_or (greatest (listed (λ e. within e && (not e.1.yanked && same e.0 i)) info))
    (option_or (greatest (listed (λ e. within e && not e.1.yanked) info))
    (greatest (listed (λ e. within e && e.1.yanked) info)))))
    (Err (record { req = req; newest_dependency_date = limit_met req.version_req info limit }))
    (λ v. Ok (is_yanked_in info v, v))

-- ---- the versions that are looked for

-- what holds of each holds of each once
All-once : {T : Type 0} (P : T → Type 0) (same : T → T → Bool) (seen items : List T) → All P items → All P (unseen same seen items)
unfolding unseen
All-once P same seen [] all = all
All-once P same seen (x ∷ xs) all = by (All-once P same seen xs (All-tail P x xs all)) (All-once P same (seen ++ x ∷ []) xs (All-tail P x xs all)) (list_any (same x) seen)
  where
    by : All P (unseen same seen xs) → All P (unseen same (seen ++ x ∷ []) xs) → (b : Bool) → All P (if b then unseen same seen xs else x ∷ unseen same (seen ++ x ∷ []) xs)
    by old new true = old
    by old new false = All-cons P x _ (All-head P x xs all) new

-- none is left of none alone
once_none : (nvs : List PackageNv) → each_once same_nv nvs ≡ [] → nvs ≡ []
unfolding unseen
once_none [] e = refl
once_none (nv ∷ nvs) e = cc

-- a version fits, and wasn't looked for
pub record IsToProbe (probed : Probed) (req : PackageReq) (info : JsrPackageInfo) (nv : PackageNv) : Type 0 where
  pub named : nv.name ≡ req.name
  pub among : Contains (fitting req info) nv.version
  pub new : finite.contains_key probed nv ≡ false

not_true : (b : Bool) → not b ≡ true → b ≡ false
not_true true e = absurd (true≢false (sym e))
not_true false e = refl

unprobed_are : (probed : Probed) (req : PackageReq) (info : JsrPackageInfo) → All (IsToProbe probed req info) (unprobed probed req info)
unprobed_are probed req info =
    let all : List PackageNv = map (version_named req.name) (fitting req info) in
    let is_new : PackageNv → Bool = λ nv. not (finite.contains_key probed nv) in
    let fit : PackageNv → Type 0 = λ nv. (nv.name ≡ req.name) × Contains (fitting req info) nv.version in
    λ k d below.
    let one = All-filter is_new fit all (All-map fit (version_named req.name) (fitting req info) (λ n v under. (refl, All-contains_itself (fitting req info) n v under))) k d below in
    record { named = one.0; among = one.1; new = not_true _ (filter_passes is_new all k d below) }

module _ (s : State) (req : PackageReq) (info : JsrPackageInfo) where
  pub probes_are : All (IsToProbe s.probed req info) (to_probe s req info)
  probes_are = by (s.flags.prefers_cached_jsr && not (is_met s.graph.packages req info))
    where
      by : (b : Bool) → All (IsToProbe s.probed req info) (if b then each_once same_nv (unprobed s.probed req info) else [])
      by true = All-once (IsToProbe s.probed req info) same_nv [] (unprobed s.probed req info) (unprobed_are s.probed req info)
      by false = All-nil (IsToProbe s.probed req info)

  -- one is looked for where the build prefers what a cache holds
  pub probes_preferred : (nv : PackageNv) (nvs : List PackageNv) → to_probe s req info ≡ nv ∷ nvs → s.flags.prefers_cached_jsr ≡ true
  probes_preferred nv nvs is = by s.flags.prefers_cached_jsr is
    where
      by : (b : Bool) → (if b && not (is_met s.graph.packages req info) then each_once same_nv (unprobed s.probed req info) else []) ≡ nv ∷ nvs → b ≡ true
      by true is = refl
      by false is = cc

  -- where none is, no version fits whose file wasn't looked for, or one that the graph has meets the requirement
  pub none_to_probe : s.flags.prefers_cached_jsr ≡ true → to_probe s req info ≡ [] → (is_met s.graph.packages req info ≡ true) ⊎ (unprobed s.probed req info ≡ [])
  none_to_probe prefers none = by (is_met s.graph.packages req info) refl (sym (ap (λ b. if b && not (is_met s.graph.packages req info) then each_once same_nv (unprobed s.probed req info) else []) prefers) ∙ none)
    where
      by : (b : Bool) → is_met s.graph.packages req info ≡ b → (if true && not b then each_once same_nv (unprobed s.probed req info) else []) ≡ [] → (is_met s.graph.packages req info ≡ true) ⊎ (unprobed s.probed req info ≡ [])
      by true met none = inl met
      by false met none = inr (once_none (unprobed s.probed req info) none)

-- the items of a list, by recursion
abbrev pub HasListed : Listed → List Listed → Type 0
HasListed e [] = ⊥
HasListed e (x ∷ xs) = (e ≡ x) ⊎ HasListed e xs

-- where no version is left to look for, each was looked for
module _ (probed : Probed) (req : PackageReq) (info : JsrPackageInfo) (e : Listed) where
  abbrev is_fit : Listed → Bool
  is_fit x = not x.1.yanked && is_match req.version_req (takes_pre_releases req.version_req info) x.0

  abbrev left : List Listed → List PackageNv
  left xs = filter (λ (nv : PackageNv). not (finite.contains_key probed nv)) (map (version_named req.name) (map (λ (x : Listed). x.0) (filter is_fit xs)))

  known : (b : Bool) (rest : List PackageNv) (nv : PackageNv) → cond (not b) (nv ∷ rest) rest ≡ [] → b ≡ true
  known true rest nv none = refl
  known false rest nv none = cc

  rest_none : (b : Bool) (rest : List PackageNv) (nv : PackageNv) → cond (not b) (nv ∷ rest) rest ≡ [] → rest ≡ []
  rest_none true rest nv none = none
  rest_none false rest nv none = cc

  go : (xs : List Listed) → is_fit e ≡ true → left xs ≡ [] → HasListed e xs → finite.contains_key probed (version_named req.name e.0) ≡ true
  go [] fits_it none has = absurd has
  go (x ∷ xs) fits_it none has = by (go xs fits_it) (is_fit x) refl none has
    where
      by : (left xs ≡ [] → HasListed e xs → finite.contains_key probed (version_named req.name e.0) ≡ true) → (b : Bool) → is_fit x ≡ b → filter (λ (nv : PackageNv). not (finite.contains_key probed nv)) (map (version_named req.name) (map (λ (y : Listed). y.0) (cond b (x ∷ filter is_fit xs) (filter is_fit xs)))) ≡ [] → HasListed e (x ∷ xs) → finite.contains_key probed (version_named req.name e.0) ≡ true
      by rest true t none (inl same) =
          subst (λ (y : Listed). finite.contains_key probed (version_named req.name y.0) ≡ true) (sym same) (known (finite.contains_key probed (version_named req.name x.0)) (left xs) (version_named req.name x.0) none)
      by rest true t none (inr later) = rest (rest_none (finite.contains_key probed (version_named req.name x.0)) (left xs) (version_named req.name x.0) none) later
      by rest false f none (inl same) = absurd (true≢false (sym (ap is_fit (sym same) ∙ fits_it) ∙ f))
      by rest false f none (inr later) = rest none later

  pub all_probed : unprobed probed req info ≡ [] → HasListed e info.versions → is_fit e ≡ true → finite.contains_key probed (version_named req.name e.0) ≡ true
  all_probed none has fits_it = go info.versions fits_it none has
