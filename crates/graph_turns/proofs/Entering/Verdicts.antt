-- What comes of the first specifier of a pass, as it is done.
use Rattle.std.proofs.Common.{◌≡◌, ℕ, List, [], ◌∷◌, ◌++◌, slice_get, Bool, true, false, Option, None, Some, Result, Ok, Err, fold, length, refl, sym, ap, ◌∙◌, arith}
use Rattle.std.specs.Prelude.{IfNone, IfSome, drop, option_map}
use Rattle.std.specs.BTreeSet.{insert_key}
use Rattle.std.specs.FinMap as finite
use Rattle.semver_npm.specs.Versions.{Ver, ver_cmp}
use Rattle.semver_npm.specs.declared.package.PackageReq.{PackageReq}
use Rattle.semver_npm.specs.declared.package.PackageNv.{PackageNv}
use Rattle.pkg_versions.specs.Choice.{Chosen as ChosenVersion, choice_of}
use Rattle.version_dates.specs.Dates.{limit_of}
use Rattle.version_dates.specs.declared.newest_date.NewestDependencyDate.{NewestDependencyDate}
use Rattle.version_dates.specs.declared.newest_date.NewestDependencyDateOptions.{NewestDependencyDateOptions}
use Rattle.version_dates.specs.declared.not_found.JsrPackageReqNotFoundError.{JsrPackageReqNotFoundError}
use Rattle.pkg_versions.specs.declared.package_info.JsrPackageInfo.{JsrPackageInfo}
use Rattle.graph_errors.specs.declared.jsr_error.JsrLoadError.{JsrLoadError}
use Rattle.graph_turns.specs.declared.choosing.Verdict.{Verdict}
use Rattle.graph_turns.specs.declared.choosing.Verdict.TheVariants.{AsksAgain, Probes, Restarts, Gets, Fails}
use Rattle.graph_turns.specs.declared.passes.Chosen.{Chosen}
use Rattle.graph_turns.specs.declared.passes.Pass.{Pass}
use Rattle.graph_turns.specs.declared.registry.RegistryFile.TheVariants.{PackageAgain}
use Rattle.graph_turns.specs.declared.state.State.{State}
use Rattle.graph_turns.specs.declared.waiting.WaitingPackage.{WaitingPackage}
use Rattle.graph_turns.specs.Machine.Choosing.{choice_in, existing_in, first_item, first_of, first_verdict, judged, judged_by, judged_first, judged_in, package_refused, turned_choice, verdict, verdict_after, verdict_by, verdict_in, verdict_without, with_choice, without_first}
use Rattle.graph_turns.specs.Machine.Probing.{cached_in, probes, to_probe}
use Rattle.graph_turns.specs.Machine.Runs.{wanted_again}
use Rattle.graph_turns.proofs.Entering.Probing.{choice_by_set, set_has}

same_verdict : (x y : Verdict) → Some x ≡ Some y → x ≡ y
same_verdict x y e = cc

-- the pass, its first specifier and what comes of that
pub record IsFirst (newest : NewestDependencyDateOptions) (s : State) (v : Verdict) : Type 0 where
  pub p : Pass
  pub first : WaitingPackage
  pub others : List WaitingPackage
  pub goes : s.pass ≡ Some p
  pub items : p.items ≡ first ∷ others
  pub is : judged newest s ≡ judged_by s p first others v

module _ (newest : NewestDependencyDateOptions) (s : State) where
  pub first_is : (v : Verdict) → first_verdict newest s s.pass ≡ Some v → IsFirst newest s v
  first_is v e = by s.pass refl e
    where
      by_items : (p : Pass) → s.pass ≡ Some p → (items : List WaitingPackage) → p.items ≡ items → option_map (λ item. verdict newest s item.req) (first_of items) ≡ Some v → IsFirst newest s v
      by_items p goes [] items e = absurd (let wrong : None ≡ Some v = e in cc)
      by_items p goes (first ∷ others) items e = record {
        p = p;
        first = first;
        others = others;
        goes = goes;
        items = items;
        is = ap (judged_in newest s) goes ∙ ap (judged_first newest s p) items ∙ ap (judged_by s p first others) (same_verdict (verdict newest s first.req) v e);
      }

      by : (o : Option Pass) → s.pass ≡ o → first_verdict newest s o ≡ Some v → IsFirst newest s v
      by None goes e = absurd (let wrong : None ≡ Some v = e in cc)
      by (Some p) goes e = by_items p goes p.items refl e

  pub none_first : first_verdict newest s s.pass ≡ None → judged newest s ≡ s
  none_first e = by s.pass e
    where
      by_items : (p : Pass) (items : List WaitingPackage) → option_map (λ item. verdict newest s item.req) (first_of items) ≡ None → judged_first newest s p items ≡ s
      by_items p [] e = refl
      by_items p (first ∷ others) e = absurd (let wrong : Some (verdict newest s first.req) ≡ None = e in cc)

      by : (o : Option Pass) → first_verdict newest s o ≡ None → judged_in newest s o ≡ s
      by None e = refl
      by (Some p) e = by_items p p.items e

  pub again_first : (name : List ℕ) → first_verdict newest s s.pass ≡ Some (AsksAgain name) → judged newest s ≡ record s { wanted = s.wanted ++ PackageAgain name ∷ [] }
  again_first name e = (first_is (AsksAgain name) e).is

  pub probes_first : (nvs : List PackageNv) → first_verdict newest s s.pass ≡ Some (Probes nvs) → judged newest s ≡ record s { wanted = s.wanted ++ probes nvs }
  probes_first nvs e = (first_is (Probes nvs) e).is

  pub restart_first : first_verdict newest s s.pass ≡ Some Restarts → judged newest s ≡ record s { run = wanted_again s.run }
  restart_first e = (first_is Restarts e).is

-- ---- the first specifier, as it is looked at and taken

-- it stands at place 0
pub first_at : (l : List WaitingPackage) → slice_get l 0 ≡ first_of l
first_at [] = refl
first_at (item ∷ items) = refl

same_item : (x y : WaitingPackage) → Some x ≡ Some y → x ≡ y
same_item x y e = cc

pub same_pass : (x y : Pass) → Some x ≡ Some y → x ≡ y
same_pass x y e = cc

module _ (s : State) (p : Pass) (item : WaitingPackage) (items : List WaitingPackage) (goes : s.pass ≡ Some p) (is : p.items ≡ item ∷ items) where
  pub one_stands : first_item s.pass ≡ Some item
  one_stands = ap first_item goes ∙ ap first_of is

  others_stay : without_first s.pass ≡ Some (record p { items = items })
  others_stay = ap without_first goes ∙ ap (λ (l : List WaitingPackage). Some (record p { items = drop 1 l })) is

  pub left_pass : (u : State) → u ≡ record s { pass = without_first s.pass } → u.pass ≡ Some (record p { items = items })
  left_pass u taken_is = ap (λ (x : State). x.pass) taken_is ∙ others_stay

  -- it gets a version
  module _ (taken : WaitingPackage) (nv : PackageNv) (yanked : Bool) (u : State) (taken_is : u ≡ record s { pass = without_first s.pass }) where
    abbrev given : State → WaitingPackage → State
    given x one = record x { graph = with_choice x.graph one.req nv yanked; pass = Some (record p { items = items; chosen = p.chosen ++ record { item = one; nv = nv } ∷ [] }) }

    pub one_given : Some taken ≡ first_item s.pass → given u taken ≡ judged_by s p item items (Gets nv yanked)
    one_given first =
        ap (λ (x : State). given x taken) taken_is
        ∙ ap (given s) (same_item taken item (first ∙ one_stands))

  -- it gets an error
  pub one_refused : (taken : WaitingPackage) (error : JsrLoadError) (u : State) → Some taken ≡ first_item s.pass → u ≡ record s { pass = without_first s.pass } → package_refused u taken error ≡ judged_by s p item items (Fails error)
  one_refused taken error u first taken_is =
      ap (λ (x : State). package_refused x taken error) taken_is
      ∙ ap (λ (x : WaitingPackage). package_refused (record s { pass = without_first s.pass }) x error) (same_item taken item (first ∙ one_stands))
      ∙ ap (λ (o : Option Pass). package_refused (record s { pass = o }) item error) others_stay

-- where no pass goes on, none is left
pub none_taken : (s : State) → s.pass ≡ None → s ≡ record s { pass = without_first s.pass }
none_taken s goes = ap (λ (o : Option Pass). record s { pass = o }) (goes ∙ sym (ap without_first goes))

-- what a queue gives
pub front_first : (o : Option WaitingPackage) (old new : List WaitingPackage) → IfSome o (λ item. old ≡ item ∷ new) → IfNone o (old ≡ []) → o ≡ first_of old
front_first (Some item) old new some none = sym (ap first_of some)
front_first None old new some none = sym (ap first_of none)

pub front_gone : (o : Option WaitingPackage) (old new : List WaitingPackage) → IfSome o (λ item. old ≡ item ∷ new) → IfNone o (old ≡ []) → IfNone o (new ≡ old) → new ≡ drop 1 old
front_gone (Some item) old new some none same = sym (ap (λ (l : List WaitingPackage). drop 1 l) some)
front_gone None old new some none same = same ∙ none ∙ sym (ap (λ (l : List WaitingPackage). drop 1 l) none)

-- ---- choices

-- a choice as a version, and whether it was withdrawn
pair_of : (c d : Ver × Bool) → ◌≡◌ {A = Result (Ver × Bool) JsrPackageReqNotFoundError} (Ok c) (Ok d) → c ≡ d
pair_of c d e = cc

pub turned_found : (c : Result ChosenVersion JsrPackageReqNotFoundError) (version : Ver) (yanked : Bool) → Ok (version, yanked) ≡ turned_choice c → c ≡ Ok (yanked, version)
turned_found (Ok (y, v)) version yanked e = ap (λ (x : Ver × Bool). let r : Result ChosenVersion JsrPackageReqNotFoundError = Ok (x.1, x.0) in r) (sym (pair_of (version, yanked) (v, y) e))
turned_found (Err x) version yanked e = cc

pub turned_none : (c : Result ChosenVersion JsrPackageReqNotFoundError) (error : JsrPackageReqNotFoundError) → Err error ≡ turned_choice c → c ≡ Err error
turned_none (Ok (y, v)) error e = cc
turned_none (Err x) error e = cc

module _ (newest : NewestDependencyDateOptions) (s : State) (req : PackageReq) (info : JsrPackageInfo) where
  -- so what comes of a requirement once none is to be looked for
  pub verdict_found : (version : Ver) (yanked : Bool) → Ok (version, yanked) ≡ turned_choice (choice_in newest s req info) → Gets (record { name = req.name; version = version }) yanked ≡ verdict_by s req (choice_in newest s req info)
  verdict_found version yanked e = sym (ap (verdict_by s req) (turned_found (choice_in newest s req info) version yanked e))

  pub verdict_none : (error : JsrPackageReqNotFoundError) → Err error ≡ turned_choice (choice_in newest s req info) → verdict_without s.run (finite.contains_key s.reloaded req.name) req.name error ≡ verdict_by s req (choice_in newest s req info)
  verdict_none error e = sym (ap (verdict_by s req) (turned_none (choice_in newest s req info) error e))

  -- and before
  pub verdict_now : (nvs : List PackageNv) → nvs ≡ to_probe s req info → length nvs ≡ 0 → verdict_by s req (choice_in newest s req info) ≡ verdict_in newest s req (Some (Ok info))
  verdict_now [] is none = ap (verdict_after newest s req info) is
  verdict_now (nv ∷ nvs) is none = absurd (omega arith)

  pub verdict_first : (nvs : List PackageNv) → nvs ≡ to_probe s req info → (length nvs ≡ 0 → ⊥) → Probes nvs ≡ verdict_in newest s req (Some (Ok info))
  verdict_first [] is some = absurd (some refl)
  verdict_first (nv ∷ nvs) is some = ap (verdict_after newest s req info) is

-- ---- the version that a resolver gives

module _ (newest : NewestDependencyDateOptions) (s : State) (req : PackageReq) (info file : JsrPackageInfo) (existing cached : List Ver) (limit : Option NewestDependencyDate) (same : file ≡ info) (all : existing ≡ existing_in s.graph.packages req.name) (set : cached ≡ fold (insert_key ver_cmp) [] (cached_in s req.name info)) (dated : limit ≡ limit_of newest req.name) where
  choice_is : choice_of req file existing cached limit ≡ choice_in newest s req info
  choice_is =
      ap (λ (x : JsrPackageInfo). choice_of req x existing cached limit) same
      ∙ ap (λ (x : List Ver). choice_of req info x cached limit) all
      ∙ ap (λ (x : List Ver). choice_of req info (existing_in s.graph.packages req.name) x limit) set
      ∙ choice_by_set req info (existing_in s.graph.packages req.name) (fold (insert_key ver_cmp) [] (cached_in s req.name info)) (cached_in s req.name info) limit (set_has (cached_in s req.name info))
      ∙ ap (λ (x : Option NewestDependencyDate). choice_of req info (existing_in s.graph.packages req.name) (cached_in s req.name info) x) dated

  pub version_told : (version copy : Ver) (yanked : Bool) → copy ≡ version → choice_of req file existing cached limit ≡ Ok (yanked, version) → Ok (copy, yanked) ≡ turned_choice (choice_in newest s req info)
  version_told version copy yanked copied found =
      ap (λ (x : Ver). turned_choice (Ok (yanked, x))) copied ∙ sym (ap turned_choice (sym choice_is ∙ found))

  pub none_told : (error : JsrPackageReqNotFoundError) → choice_of req file existing cached limit ≡ Err error → Err error ≡ turned_choice (choice_in newest s req info)
  none_told error found = sym (ap turned_choice (sym choice_is ∙ found))
