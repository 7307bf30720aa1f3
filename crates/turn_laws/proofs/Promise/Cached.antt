-- A choice among versions of which a cache holds the files: what was found of those that fit decides it as all that the cache holds does.
use Rattle.std.proofs.Common.{◌≡◌, ℕ, List, [], ◌∷◌, ◌⊎◌, inl, inr, ⊎_elim, map, Bool, true, false, not, ◌&&◌, ◌||◌, cond, if◌then◌else◌, Option, None, Some, Result, Ok, Err, is_some, refl, sym, ap, ◌∙◌, subst}
use Rattle.std.proofs.lemmas.Bool.{true≢false}
use Rattle.std.proofs.lemmas.Cmp.{tied_itself}
use Rattle.std.specs.BTreeMap.{is_at}
use Rattle.std.specs.Cmp.{Equal-is}
use Rattle.std.specs.FinMap as finite
use Rattle.std.specs.List.{filter, list_any}
use Rattle.std.specs.Option.{option_or}
use Rattle.std.specs.Ordering.{is_eq, is_lt}
use Rattle.spec_base.specs.Options.{by_option}
use Rattle.metadata_store.specs.declared.store.JsrMetadataStore.{JsrMetadataStore}
use Rattle.semver_npm.specs.OrderLaws.{ver-anti, ver_total}
use Rattle.semver_npm.specs.Versions.{Ver, ver_cmp}
use Rattle.semver_npm.specs.declared.package.PackageNv.{PackageNv}
use Rattle.semver_npm.specs.declared.package.PackageReq.{PackageReq}
use Rattle.pkg_versions.specs.Choice.{Chosen, Listed, best_of, choice_of, fits, greatest, is_match, is_yanked_in, limit_met, listed, takes_pre_releases}
use Rattle.pkg_versions.specs.Greater.{greater, greatest_after}
use Rattle.pkg_records.specs.Kept.{versions_of}
use Rattle.version_dates.specs.Sets.{has}
use Rattle.version_dates.specs.declared.newest_date.NewestDependencyDate.{NewestDependencyDate}
use Rattle.version_dates.specs.declared.not_found.JsrPackageReqNotFoundError.{JsrPackageReqNotFoundError}
use Rattle.pkg_versions.specs.declared.package_info.JsrPackageInfo.{JsrPackageInfo}
use Rattle.pkg_versions.proofs.Greatest.{greatest_after_all}
use Rattle.graph_turns.specs.declared.flags.Flags.{Flags}
use Rattle.graph_turns.specs.declared.registry.RegistryFile.TheVariants.{Probe}
use Rattle.graph_turns.specs.declared.state.State.{State}
use Rattle.graph_turns.specs.Machine.Choosing.{choice_in, existing_in}
use Rattle.graph_turns.specs.Machine.Probing.{Probed, cached_in, is_met, to_probe, unprobed, was_found}
use Rattle.graph_turns.specs.Promise.Cached.{cached_versions, has_file, is_cached, told_cached, version_named}
use Rattle.graph_turns.specs.Promise.Told.{Told}
use Rattle.graph_turns.specs.Promise.Versions.{answer_in, loaded, served_file, told_file}
use Rattle.graph_turns.proofs.Entering.Probing.{HasListed, all_probed, none_to_probe}

-- what a world answers about the file of a version in a cache, whatever store is given
pub probe_told : (w : Told) (nv : PackageNv) → has_file (told_file w (Probe nv)) ≡ is_cached w nv
probe_told w nv = by w.known.store
  where
    by : (store : Option JsrMetadataStore) → has_file (by_option (answer_in store (Probe nv)) (served_file w (Probe nv)) (λ answer. answer)) ≡ is_cached w nv
    by None = refl
    by (Some own) = refl

-- ---- where a version of the graph meets a requirement

-- some version is the greatest of those that come behind one
after_some : (best : Ver) (vs : List Ver) → greatest_after (Some best) vs ≡ None → ⊥
unfolding greatest_after
after_some best [] e = cc
after_some best (v ∷ vs) e = by (after_some best vs) (after_some v vs) (is_lt (ver_cmp v best)) e
  where
    by : (greatest_after (Some best) vs ≡ None → ⊥) → (greatest_after (Some v) vs ≡ None → ⊥) → (b : Bool) → greatest_after (if b then Some best else Some v) vs ≡ None → ⊥
    by old new true e = old e
    by old new false e = new e

greatest_some : (v : Ver) (vs : List Ver) → greatest (v ∷ vs) ≡ None → ⊥
unfolding greatest_after
greatest_some v vs e = after_some v vs (greatest_after_all (v ∷ vs) ∙ e)

-- where one passes, one is the greatest of those that do
one_passes : (p : Ver → Bool) (vs : List Ver) → list_any p vs ≡ true → greatest (filter p vs) ≡ None → ⊥
one_passes p vs some none = by (filter p vs) (λ e. true≢false (sym some ∙ nothing vs e)) none
  where
    nothing : (xs : List Ver) → filter p xs ≡ [] → list_any p xs ≡ false
    nothing [] e = refl
    nothing (x ∷ xs) e = one (p x) (nothing xs) e
      where
        one : (b : Bool) → (filter p xs ≡ [] → list_any p xs ≡ false) → cond b (x ∷ filter p xs) (filter p xs) ≡ [] → (b || list_any p xs) ≡ false
        one true rest e = cc
        one false rest e = rest e

    by : (l : List Ver) → (l ≡ [] → ⊥) → greatest l ≡ None → ⊥
    by [] not_none e = not_none refl
    by (v ∷ l) not_none e = greatest_some v l e

any_map : {A B : Type 0} (p : B → Bool) (f : A → B) (xs : List A) → list_any p (map f xs) ≡ list_any (λ x. p (f x)) xs
any_map p f [] = refl
any_map p f (x ∷ xs) = ap (λ b. p (f x) || b) (any_map p f xs)

-- ---- what a cache holds of listed versions

module _ (name : List ℕ) (holds : PackageNv → Bool) where
  abbrev held : Listed → Bool
  held x = not x.1.yanked && holds (version_named name x.0)

  second_true : (a b : Bool) → a && b ≡ true → b ≡ true
  second_true true b e = e
  second_true false b e = absurd (true≢false (sym e))

  -- one that it doesn't hold isn't among those
  none_held : (v : Ver) → holds (version_named name v) ≡ false → (xs : List Listed) → list_any (is_at (ver_cmp v)) (map (λ (x : Listed). x.0) (filter held xs)) ≡ false
  none_held v not_held [] = refl
  none_held v not_held (x ∷ xs) = by (held x) refl (none_held v not_held xs)
    where
      by_place : (b : Bool) → is_at (ver_cmp v) x.0 ≡ b → held x ≡ true → (rest : Bool) → rest ≡ false → (b || rest) ≡ false
      by_place false at there rest e = e
      by_place true at there rest e =
          let same : v ≡ x.0 = ver-anti v x.0 ((Equal-is (ver_cmp v x.0)).0 at) in
          absurd (true≢false (sym (second_true (not x.1.yanked) (holds (version_named name x.0)) there) ∙ ap (λ (u : Ver). holds (version_named name u)) (sym same) ∙ not_held))

      by : (b : Bool) → held x ≡ b → list_any (is_at (ver_cmp v)) (map (λ (y : Listed). y.0) (filter held xs)) ≡ false → list_any (is_at (ver_cmp v)) (map (λ (y : Listed). y.0) (cond b (x ∷ filter held xs) (filter held xs))) ≡ false
      by true there rest = by_place (is_at (ver_cmp v) x.0) refl there _ rest
      by false there rest = rest

  -- one that it holds is
  some_held : (e : Listed) → held e ≡ true → (xs : List Listed) → HasListed e xs → list_any (is_at (ver_cmp e.0)) (map (λ (x : Listed). x.0) (filter held xs)) ≡ true
  some_held e there [] has = absurd has
  some_held e there (x ∷ xs) has = by (some_held e there xs) (held x) refl has
    where
      or_true : (a b : Bool) → b ≡ true → (a || b) ≡ true
      or_true true b e = refl
      or_true false b e = e

      by : (HasListed e xs → list_any (is_at (ver_cmp e.0)) (map (λ (y : Listed). y.0) (filter held xs)) ≡ true) → (b : Bool) → held x ≡ b → HasListed e (x ∷ xs) → list_any (is_at (ver_cmp e.0)) (map (λ (y : Listed). y.0) (cond b (x ∷ filter held xs) (filter held xs))) ≡ true
      by rest true t (inl same) = ap (λ b. b || list_any (is_at (ver_cmp e.0)) (map (λ (y : Listed). y.0) (filter held xs))) (ap (λ (y : Listed). is_at (ver_cmp e.0) y.0) (sym same) ∙ ap is_eq (tied_itself ver_total e.0))
      by rest true t (inr later) = or_true (is_at (ver_cmp e.0) x.0) _ (rest later)
      by rest false f (inl same) = absurd (true≢false (sym (ap held (sym same) ∙ there) ∙ f))
      by rest false f (inr later) = rest later

  -- so a version that isn't withdrawn is among those that it holds where it holds its file
  held_is : (info : JsrPackageInfo) (e : Listed) → HasListed e info.versions → not e.1.yanked ≡ true → has ver_cmp (cached_versions holds name info) e.0 ≡ holds (version_named name e.0)
  held_is info e among unyanked = by (holds (version_named name e.0)) refl
    where
      by : (b : Bool) → holds (version_named name e.0) ≡ b → has ver_cmp (cached_versions holds name info) e.0 ≡ b
      by true t = some_held e (ap (λ b. b && holds (version_named name e.0)) unyanked ∙ t) info.versions among
      by false f = none_held e.0 f info.versions

-- ---- choices

filter_same : (t u : Listed → Bool) (xs : List Listed) → ((e : Listed) → HasListed e xs → t e ≡ u e) → filter t xs ≡ filter u xs
filter_same t u [] same = refl
filter_same t u (x ∷ xs) same = ap (λ b. cond b (x ∷ filter t xs) (filter t xs)) (same x (inl refl)) ∙ ap (λ l. cond (u x) (x ∷ l) l) (filter_same t u xs (λ e has. same e (inr has)))

module _ (req : PackageReq) (info : JsrPackageInfo) (limit : Option NewestDependencyDate) (existing : List Ver) where
  abbrev matches : Ver → Bool
  matches v = is_match req.version_req (takes_pre_releases req.version_req info) v

  abbrev within : Listed → Bool
  within e = matches e.0 && fits limit e.1

  abbrev choice_by : Option Ver → Result Chosen JsrPackageReqNotFoundError
  choice_by best = by_option best (Err (record { req = req; newest_dependency_date = limit_met req.version_req info limit })) (λ v. Ok (is_yanked_in info v, v))

  -- the best one behind those of the graph, by the cached ones
  abbrev behind : List Ver → Option Ver
  behind cached =
      option_or (greatest cached)
      (option_or (greatest (listed (λ e. within e && not e.1.yanked) info))
      (greatest (listed (λ e. within e && e.1.yanked) info)))

  abbrev with_cached : List Ver → List Ver
  with_cached cached = listed (λ e. within e && (not e.1.yanked && has ver_cmp cached e.0)) info

  -- where one of the graph meets the requirement, no cached one counts
  choice_met : (cached others : List Ver) → list_any matches existing ≡ true → choice_of req info existing cached limit ≡ choice_of req info existing others limit
  choice_met cached others met = by (greatest (filter matches existing)) refl
    where
      by : (first : Option Ver) → greatest (filter matches existing) ≡ first → choice_by (option_or first (behind (with_cached cached))) ≡ choice_by (option_or first (behind (with_cached others)))
      by None e = absurd (one_passes matches existing met e)
      by (Some v) e = refl

  -- else those count that match
  choice_unmet : (holds knows : PackageNv → Bool) → ((e : Listed) → HasListed e info.versions → not e.1.yanked && matches e.0 ≡ true → holds (version_named req.name e.0) ≡ knows (version_named req.name e.0)) → choice_of req info existing (cached_versions holds req.name info) limit ≡ choice_of req info existing (cached_versions knows req.name info) limit
  choice_unmet holds knows same =
      ap (λ (l : List Listed). choice_by (option_or (greatest (filter matches existing)) (behind (map (λ (e : Listed). e.0) l))))
      (filter_same (λ e. within e && (not e.1.yanked && has ver_cmp (cached_versions holds req.name info) e.0)) (λ e. within e && (not e.1.yanked && has ver_cmp (cached_versions knows req.name info) e.0)) info.versions
      (λ e among. by e among (matches e.0) refl (fits limit e.1) (not e.1.yanked) refl))
    where
      by : (e : Listed) → HasListed e info.versions → (m : Bool) → matches e.0 ≡ m → (f n : Bool) → not e.1.yanked ≡ n → (m && f) && (n && has ver_cmp (cached_versions holds req.name info) e.0) ≡ (m && f) && (n && has ver_cmp (cached_versions knows req.name info) e.0)
      by e among false m f n u = refl
      by e among true m false n u = refl
      by e among true m true false u = refl
      by e among true m true true u =
          held_is req.name holds info e among u
          ∙ same e among (ap (λ b. b && matches e.0) u ∙ m)
          ∙ sym (held_is req.name knows info e among u)

-- ---- the choice of a turn

-- what was found of versions that were looked for is what the cache holds
abbrev pub ProbesKept : Told → Probed → Type 0
ProbesKept w probed = (nv : PackageNv) (found : Bool) → finite.get probed nv ≡ Some found → found ≡ is_cached w nv

found_told : (w : Told) (probed : Probed) (nv : PackageNv) → ProbesKept w probed → finite.contains_key probed nv ≡ true → was_found probed nv ≡ is_cached w nv
found_told w probed nv kept known = by (finite.get probed nv) refl known
  where
    by : (o : Option Bool) → finite.get probed nv ≡ o → is_some o ≡ true → by_option o false (λ found. found) ≡ is_cached w nv
    by None e known = absurd (true≢false (sym known))
    by (Some found) e known = kept nv found e

-- once none is to be looked for, a version is chosen as among all that the cache holds
pub choice_told : (w : Told) (s : State) (req : PackageReq) (info : JsrPackageInfo) (limit : Option NewestDependencyDate) → s.flags ≡ w.known.flags → ProbesKept w s.probed → to_probe s req info ≡ []
    → choice_of req info (existing_in s.graph.packages req.name) (cached_in s req.name info) limit ≡ choice_of req info (existing_in s.graph.packages req.name) (told_cached w req.name info) limit
choice_told w s req info limit flags kept none = by s.flags.prefers_cached_jsr refl ∙ ap (λ (f : Flags). choice_of req info existing (if f.prefers_cached_jsr then cached_versions (is_cached w) req.name info else []) limit) flags
  where
    existing : List Ver
    existing = existing_in s.graph.packages req.name

    by : (b : Bool) → s.flags.prefers_cached_jsr ≡ b → choice_of req info existing (if b then cached_versions (was_found s.probed) req.name info else []) limit ≡ choice_of req info existing (if b then cached_versions (is_cached w) req.name info else []) limit
    by false f = refl
    by true t = ⊎_elim
        (λ met. choice_met req info limit existing (cached_versions (was_found s.probed) req.name info) (cached_versions (is_cached w) req.name info) (any_map (is_match req.version_req (takes_pre_releases req.version_req info)) (λ (nv : PackageNv). nv.version) (versions_of s.graph.packages req.name) ∙ met))
        (λ all. choice_unmet req info limit existing (was_found s.probed) (is_cached w) (λ e among fits_it. found_told w s.probed (version_named req.name e.0) kept (all_probed s.probed req info e all among fits_it)))
        (none_to_probe s req info t none)
