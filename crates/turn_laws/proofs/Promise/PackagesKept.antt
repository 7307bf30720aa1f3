-- What stays true of the packages of a graph: the versions that requirements lead to, and those that stand.
use Rattle.std.proofs.Common.{◌≡◌, ℕ, List, [], ◌∷◌, ◌++◌, map, Bool, true, false, if◌then◌else◌, Option, Some, Ok, Err, refl, sym, ap, ◌∙◌, subst, inl, inr, ⊎_elim, ◌⊎◌, append_assoc}
use Rattle.std.proofs.lemmas.List.{append-nil}
use Rattle.std.proofs.lemmas.List.Elements.{All-contains, All-contains_itself, All-map, All-push, All-weaker}
use Rattle.std.specs.BTreeMap.{is_at}
use Rattle.std.specs.List.{All, Contains}
use Rattle.spec_base.specs.Options.{by_option}
use Rattle.spec_base.specs.Shown.{text_cmp}
use Rattle.semver_npm.specs.Versions.{Ver}
use Rattle.semver_npm.specs.declared.package.PackageNv.{PackageNv}
use Rattle.semver_npm.specs.declared.package.PackageReq.{PackageReq}
use Rattle.pkg_versions.specs.Choice.{choice_of}
use Rattle.version_dates.specs.Dates.{limit_of}
use Rattle.pkg_records.specs.Kept.{versions_of, with_nv, with_used_yanked_package}
use Rattle.version_dates.specs.Sets.{at_key}
use Rattle.pkg_versions.specs.declared.package_info.JsrPackageInfo.{JsrPackageInfo}
use Rattle.pkg_records.specs.declared.package_specifiers.PackageSpecifiers.{PackageSpecifiers}
use Rattle.pkg_records.proofs.KeptLemmas.{grows}
use Rattle.graph_core.specs.declared.graph.ModuleGraph.{ModuleGraph}
use Rattle.graph_turns.specs.Machine.Choosing.{existing_in}
use Rattle.graph_turns.specs.Promise.Cached.{told_cached}
use Rattle.graph_turns.specs.Promise.Choices.{IsPicked}
use Rattle.graph_turns.specs.Promise.Input.{EnteredGraph}
use Rattle.graph_turns.specs.Promise.Packages.{Fits, IsListed, IsPackageFile}
use Rattle.graph_turns.specs.Promise.Told.{Told}
use Rattle.turn_laws.proofs.Promise.Choosing.{choice_is, each_of, other_versions, put_req, same_name}

versions_same : (p q : PackageSpecifiers) → q.versions_by_name ≡ p.versions_by_name → (name : List ℕ) → versions_of q name ≡ versions_of p name
versions_same p q same name = ap (λ (l : List (List ℕ × List PackageNv)). by_option (at_key text_cmp l name) [] (λ (list : List PackageNv). list)) same

-- the versions of a name once a requirement leads to one: more come at the end
versions_grown : (p : PackageSpecifiers) (req : PackageReq) (nv : PackageNv) (name : List ℕ) → (more : List PackageNv) × (versions_of (with_nv p req nv) name ≡ versions_of p name ++ more)
versions_grown p req nv name = ⊎_elim
    (λ same. ([], same ∙ sym (append-nil (versions_of p name))))
    (λ new. (nv ∷ [], new.1))
    (grows p.versions_by_name nv name)

module _ (w : Told) (given : EnteredGraph) where
  -- a graph with some packages
  abbrev having : PackageSpecifiers → ModuleGraph
  having p = record given.graph { packages = p }

  -- a requirement led to a version at entry, or leads to one that it picks
  abbrev IsMapped : PackageSpecifiers → PackageReq × PackageNv → Type 0
  IsMapped p e = Contains given.graph.packages.package_reqs e ⊎ IsPicked w (having p) e.0 e.1

  -- a version of a name is listed
  abbrev pub IsListedOf : List ℕ → Ver → Type 0
  IsListedOf name v = IsListed w given (record { name = name; version = v })

  pub record PackagesKept (p : PackageSpecifiers) : Type 0 where
    pub mapped : All (IsMapped p) p.package_reqs
    pub listed : (name : List ℕ) → All (IsListedOf name) (existing_in p name)

  -- as at entry
  pub packages_begun : PackagesKept given.graph.packages
  packages_begun =
      let p = given.graph.packages in
      record {
        mapped = All-weaker (Contains p.package_reqs) (IsMapped p) (λ e among. inl among) p.package_reqs (All-contains_itself p.package_reqs);
        listed = λ name. All-weaker (Contains (existing_in p name)) (IsListedOf name) (λ v among. inr among) (existing_in p name) (All-contains_itself (existing_in p name));
      }

  -- a pick stays one where versions come at the end
  picked_grown : (g h : ModuleGraph) (req : PackageReq) (nv : PackageNv) (more : List PackageNv) → versions_of h.packages req.name ≡ versions_of g.packages req.name ++ more → IsPicked w g req nv → IsPicked w h req nv
  picked_grown g h req nv more grown is = record {
    named = is.named;
    info = is.info;
    file = is.file;
    yanked = is.yanked;
    picked = record {
      front = is.picked.front;
      back = is.picked.back ++ more;
      parts = grown ∙ ap (λ (l : List PackageNv). l ++ more) is.picked.parts ∙ append_assoc is.picked.front is.picked.back more;
      picks = is.picked.picks;
    };
  }

  mapped_grown : (p q : PackageSpecifiers) (e : PackageReq × PackageNv) (more : List PackageNv) → versions_of q e.0.name ≡ versions_of p e.0.name ++ more → IsMapped p e → IsMapped q e
  mapped_grown p q e more grown is = ⊎_elim inl (λ x. inr (picked_grown (having p) (having q) e.0 e.1 more grown x)) is

  -- where no requirement and no version comes
  pub packages_as : (p q : PackageSpecifiers) → q.package_reqs ≡ p.package_reqs → q.versions_by_name ≡ p.versions_by_name → PackagesKept p → PackagesKept q
  packages_as p q reqs lists kept = record {
    mapped = subst (All (IsMapped q)) (sym reqs) (All-weaker (IsMapped p) (IsMapped q) (λ e is. mapped_grown p q e [] (versions_same p q lists e.0.name ∙ sym (append-nil (versions_of p e.0.name))) is) p.package_reqs kept.mapped);
    listed = λ name. subst (λ (l : List PackageNv). All (IsListedOf name) (map (λ (x : PackageNv). x.version) l)) (sym (versions_same p q lists name)) (kept.listed name);
  }

  -- a requirement leads to a version that it picks
  packages_with : (p : PackageSpecifiers) (req : PackageReq) (nv : PackageNv) → PackagesKept p → IsPicked w (having p) req nv → IsListedOf nv.name nv.version → PackagesKept (with_nv p req nv)
  packages_with p req nv kept picked is_listed = record {
    mapped = put_req (IsMapped u) p.package_reqs req nv
        (All-weaker (IsMapped p) (IsMapped u) (λ e is. mapped_grown p u e (versions_grown p req nv e.0.name).0 (versions_grown p req nv e.0.name).1 is) p.package_reqs kept.mapped)
        (inr (picked_grown (having p) (having u) req nv (versions_grown p req nv req.name).0 (versions_grown p req nv req.name).1 picked));
    listed = λ name. All-map (IsListedOf name) (λ (x : PackageNv). x.version) (versions_of u name) (there name (is_at (text_cmp name) nv.name) refl);
  }
    where
      u : PackageSpecifiers
      u = with_nv p req nv

      old : (name : List ℕ) → All (λ (x : PackageNv). IsListedOf name x.version) (versions_of p name)
      old name = each_of (IsListedOf name) (λ (x : PackageNv). x.version) (versions_of p name) (kept.listed name)

      there : (name : List ℕ) (b : Bool) → is_at (text_cmp name) nv.name ≡ b → All (λ (x : PackageNv). IsListedOf name x.version) (versions_of (with_nv p req nv) name)
      there name false f =
          subst (All (λ (x : PackageNv). IsListedOf name x.version)) (sym (ap (λ (o : Option (List PackageNv)). by_option o [] (λ (list : List PackageNv). list)) (other_versions p.versions_by_name nv name f))) (old name)
      there name true t = ⊎_elim
          (λ same. subst (All (λ (x : PackageNv). IsListedOf name x.version)) (sym same) (old name))
          (λ new. subst (All (λ (x : PackageNv). IsListedOf name x.version)) (sym new.1)
          (All-push (λ (x : PackageNv). IsListedOf name x.version) (versions_of p name) nv (old name) (subst (λ n. IsListedOf n nv.version) (sym (same_name name nv.name t)) is_listed)))
          (grows p.versions_by_name nv name)

  -- a choice counts for the next one
  module _ (p : PackageSpecifiers) (req : PackageReq) (info : JsrPackageInfo) (yanked : Bool) (version : Ver) (kept : PackagesKept p) (file : IsPackageFile w req.name (Ok info)) (chosen : choice_of req info (existing_in p req.name) (told_cached w req.name info) (limit_of w.newest req.name) ≡ Ok (yanked, version)) where
    abbrev its_nv : PackageNv
    its_nv = record { name = req.name; version = version }

    -- it fits
    pub chosen_fits : Fits w given req its_nv
    chosen_fits =
        let one = choice_is req info (told_cached w req.name info) (limit_of w.newest req.name) (IsListedOf req.name) (existing_in p req.name) yanked version (kept.listed req.name) chosen in
        record {
          named = refl;
          listed = ⊎_elim (λ is. is) (λ in_file. inl (info, file, in_file)) one.0;
          info = info;
          file = file;
          matches = one.1;
        }

    its_pick : IsPicked w (having p) req its_nv
    its_pick = record {
      named = refl;
      info = info;
      file = file;
      yanked = yanked;
      picked = record { front = versions_of p req.name; back = []; parts = sym (append-nil (versions_of p req.name)); picks = chosen };
    }

    pub packages_chosen : PackagesKept (with_nv (if yanked then with_used_yanked_package p its_nv else p) req its_nv)
    packages_chosen = by yanked
      where
        by : (b : Bool) → PackagesKept (with_nv (if b then with_used_yanked_package p its_nv else p) req its_nv)
        by false = packages_with p req its_nv kept its_pick chosen_fits.listed
        by true =
            let u = with_used_yanked_package p its_nv in
            packages_with u req its_nv (packages_as p u refl refl kept) (picked_grown (having p) (having u) req its_nv [] (sym (append-nil (versions_of p req.name))) its_pick) chosen_fits.listed

  -- so each requirement leads to a version that it picks
  pub has_picked : (g : ModuleGraph) → PackagesKept g.packages → (req : PackageReq) (nv : PackageNv) → Contains g.packages.package_reqs (req, nv) → Contains given.graph.packages.package_reqs (req, nv) ⊎ IsPicked w g req nv
  has_picked g kept req nv among = ⊎_elim inl
      (λ is. inr (picked_grown (having g.packages) g req nv [] (sym (append-nil (versions_of g.packages req.name))) is))
      (All-contains (IsMapped g.packages) g.packages.package_reqs (req, nv) kept.mapped among)
