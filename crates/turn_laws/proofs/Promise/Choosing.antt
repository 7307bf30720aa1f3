-- What a choice of a version is, and what stays of it where a graph gets one more version.
use Rattle.std.proofs.Common.{◌≡◌, ℕ, List, [], ◌∷◌, ◌++◌, map, Bool, true, false, cond, ◌&&◌, not, if◌then◌else◌, Option, None, Some, Result, Ok, Err, Ordering, Less, Equal, Greater, refl, sym, ap, ◌∙◌, subst, inl, inr, ⊎_elim, ◌⊎◌}
use Rattle.std.specs.Prelude.{is_some}
use Rattle.std.specs.Option.{option_or}
use Rattle.std.specs.List.{All, Contains, filter, find, list_all, list_any}
use Rattle.std.specs.Map.{keys_of, lookup, set_value}
use Rattle.std.specs.BTreeMap.{insert_entry, is_at}
use Rattle.std.specs.Cmp.{Equal-is, eq_by_cmp_equiv}
use Rattle.std.specs.FinMap.{nat_cmp-IsAntisymmetric, slice_cmp-IsAntisymmetric}
use Rattle.std.specs.Ordering.{eq_by_cmp, is_gt, match_ordering, ordering_then}
use Rattle.std.proofs.lemmas.List.Elements.{All-cons, All-contains_itself, All-filter, All-head, All-map, All-nil, All-push, All-tail, All-weaker, filter_passes}
use Rattle.std.proofs.lemmas.Map.Views.{IsSome-lookup_from_Contains}
use Rattle.spec_base.specs.Options.{by_option}
use Rattle.semver_npm.specs.OrderLaws.{ver_total}
use Rattle.semver_npm.specs.Orders.{req_cmp}
use Rattle.spec_base.specs.Shown.{text_cmp}
use Rattle.semver_npm.specs.Versions.{Ver, ver_cmp}
use Rattle.semver_npm.specs.declared.package.PackageNv.{PackageNv}
use Rattle.semver_npm.specs.declared.package.PackageReq.{PackageReq}
use Rattle.pkg_versions.specs.Choice.{Chosen, Listed, best_of, choice_of, fits, greatest, is_match, is_yanked_in, limit_met, listed, takes_pre_releases}
use Rattle.pkg_records.specs.Kept.{appended, with_version}
use Rattle.version_dates.specs.Sets.{at_key, has}
use Rattle.version_dates.specs.declared.newest_date.NewestDependencyDate.{NewestDependencyDate}
use Rattle.version_dates.specs.declared.not_found.JsrPackageReqNotFoundError.{JsrPackageReqNotFoundError}
use Rattle.pkg_versions.specs.declared.package_info.JsrPackageInfo.{JsrPackageInfo}

-- ---- what is found among some

first_true : (a b : Bool) → a && b ≡ true → a ≡ true
first_true true b e = refl
first_true false b e = e

-- what holds of each one of a list holds of the one that is found
found_is : {X : Type 0} (P : X → Type 0) (p : X → Bool) (xs : List X) (v : X) → All P xs → find p xs ≡ Some v → P v
found_is P p [] v all e = absurd (let wrong : None ≡ Some v = e in cc)
found_is P p (x ∷ xs) v all e = by (p x) (found_is P p xs v (All-tail P x xs all)) e
  where
    by : (b : Bool) → (find p xs ≡ Some v → P v) → cond b (Some x) (find p xs) ≡ Some v → P v
    by true rest e = let same : x ≡ v = cc in subst P same (All-head P x xs all)
    by false rest e = rest e

greatest_is : (P : Ver → Type 0) (vs : List Ver) (v : Ver) → All P vs → greatest vs ≡ Some v → P v
greatest_is P vs v all e = found_is P (λ u. list_all (λ w. not (is_gt (ver_cmp w u))) vs) vs v all e

pub one_or : {X : Type 0} (a b : Option X) (v : X) → option_or a b ≡ Some v → (a ≡ Some v) ⊎ (b ≡ Some v)
one_or None b v e = inr e
one_or (Some x) b v e = inl e

-- what holds of a list's values holds of what they come from
pub each_of : {X Y : Type 0} (P : Y → Type 0) (f : X → Y) (xs : List X) → All P (map f xs) → All (λ x. P (f x)) xs
each_of P f [] all = All-nil (λ x. P (f x))
each_of P f (x ∷ xs) all = All-cons (λ y. P (f y)) x xs (All-head P (f x) (map f xs) all) (each_of P f xs (All-tail P (f x) (map f xs) all))

-- ---- the choice

module _ (req : PackageReq) (info : JsrPackageInfo) (cached : List Ver) (limit : Option NewestDependencyDate) where
  abbrev matches : Ver → Bool
  matches v = is_match req.version_req (takes_pre_releases req.version_req info) v

  -- a version that the file of the package lists
  abbrev pub IsInFile : Ver → Type 0
  IsInFile v = is_some (at_key ver_cmp info.versions v) ≡ true

  each_in_file : All (λ (e : Listed). IsInFile e.0) info.versions
  each_in_file =
      each_of IsInFile (λ (e : Listed). e.0) info.versions
      (All-weaker (Contains (keys_of info.versions)) IsInFile (λ k among. IsSome-lookup_from_Contains (eq_by_cmp_equiv ver_total) k info.versions among) (keys_of info.versions) (All-contains_itself (keys_of info.versions)))

  abbrev within : Listed → Bool
  within e = matches e.0 && fits limit e.1

  -- the choice by the best version that is found
  abbrev choice_by : Option Ver → Result Chosen JsrPackageReqNotFoundError
  choice_by best = by_option best (Err (record { req = req; newest_dependency_date = limit_met req.version_req info limit })) (λ v. Ok (is_yanked_in info v, v))

  -- the best one of the file, where no version stands
  abbrev best_listed : Option Ver
  best_listed =
      option_or (greatest (listed (λ e. within e && (not e.1.yanked && has ver_cmp cached e.0)) info))
      (option_or (greatest (listed (λ e. within e && not e.1.yanked) info))
      (greatest (listed (λ e. within e && e.1.yanked) info)))

  module _ (P : Ver → Type 0) where
    -- it is one that stands, or of the file, and it matches
    abbrev pub IsOne : Ver → Type 0
    IsOne v = (P v ⊎ IsInFile v) × (matches v ≡ true)

    listed_one : (more : Listed → Bool) (v : Ver) → greatest (listed (λ e. within e && more e) info) ≡ Some v → IsOne v
    listed_one more v e =
        let test : Listed → Bool = λ e. within e && more e in
        greatest_is IsOne (listed test info) v
        (All-map IsOne (λ (x : Listed). x.0) (filter test info.versions)
        (λ k d below. (inr (All-filter test (λ (x : Listed). IsInFile x.0) info.versions each_in_file k d below), first_true _ _ (first_true _ _ (filter_passes test info.versions k d below)))))
        e

    best_one : (existing : List Ver) (v : Ver) → All P existing → best_of req.version_req info existing cached limit ≡ Some v → IsOne v
    best_one existing v all e = ⊎_elim
        (λ first. greatest_is IsOne (filter matches existing) v (λ k d below. (inl (All-filter matches P existing all k d below), filter_passes matches existing k d below)) first)
        (λ rest. ⊎_elim
        (listed_one (λ x. not x.1.yanked && has ver_cmp cached x.0) v)
        (λ later. ⊎_elim
        (listed_one (λ x. not x.1.yanked) v)
        (listed_one (λ x. x.1.yanked) v)
        (one_or (greatest (listed (λ x. within x && not x.1.yanked) info)) (greatest (listed (λ x. within x && x.1.yanked) info)) v later))
        (one_or _ _ v rest))
        (one_or (greatest (filter matches existing)) best_listed v e)

    pub choice_is : (existing : List Ver) (yanked : Bool) (v : Ver) → All P existing → choice_of req info existing cached limit ≡ Ok (yanked, v) → IsOne v
    choice_is existing yanked v all e = by (best_of req.version_req info existing cached limit) refl e
      where
        by : (best : Option Ver) → best_of req.version_req info existing cached limit ≡ best → choice_by best ≡ Ok (yanked, v) → IsOne v
        by None is e = absurd (let wrong : Err (record { req = req; newest_dependency_date = limit_met req.version_req info limit }) ≡ Ok (yanked, v) = e in cc)
        by (Some u) is e =
            let both : (is_yanked_in info u, u) ≡ (yanked, v) = cc in
            subst IsOne (ap (λ (c : Chosen). c.1) both) (best_one existing u all is)

  -- where nothing is chosen, nothing is chosen without the versions that stand
  pub choice_without : (existing : List Ver) (e : JsrPackageReqNotFoundError) → choice_of req info existing cached limit ≡ Err e → choice_of req info [] cached limit ≡ Err e
  choice_without existing e none = by (greatest (filter matches existing)) none
    where
      by : (first : Option Ver) → choice_by (option_or first best_listed) ≡ Err e → choice_by best_listed ≡ Err e
      by None none = none
      by (Some u) none = absurd (let wrong : Ok (is_yanked_in info u, u) ≡ Err e = none in cc)

  -- the error is one of the requirement
  pub none_of : (existing : List Ver) (e : JsrPackageReqNotFoundError) → choice_of req info existing cached limit ≡ Err e → e.req ≡ req
  none_of existing e none = by (best_of req.version_req info existing cached limit) none
    where
      by : (best : Option Ver) → choice_by best ≡ Err e → e.req ≡ req
      by None none = let one : record { req = req; newest_dependency_date = limit_met req.version_req info limit } ≡ e = cc in ap (λ (x : JsrPackageReqNotFoundError). x.req) (sym one)
      by (Some u) none = absurd (let wrong : Ok (is_yanked_in info u, u) ≡ Err e = none in cc)

-- ---- requirements that lead to versions

same_text : (q k : List ℕ) → text_cmp q k ≡ Equal → q ≡ k
same_text = slice_cmp-IsAntisymmetric nat_cmp-IsAntisymmetric

-- of two orderings, one behind the other, that tie each does
both_tie : (r s : Ordering) → ordering_then r s ≡ Equal → (r ≡ Equal) × (s ≡ Equal)
both_tie Less s e = cc e
both_tie Equal s e = (refl, e)
both_tie Greater s e = cc e

-- requirements that tie are one
same_req : (a b : PackageReq) → req_cmp a b ≡ Equal → a ≡ b
same_req a b e =
    let ties = both_tie _ _ e in
    let name : a.name ≡ b.name = same_text _ _ ties.0 in
    let version : a.version_req ≡ b.version_req = same_text _ _ ties.1 in
    λ i. record { name = name i; version_req = version i }

-- what holds of each, and of one more that is put at its place
pub put_req : (P : PackageReq × PackageNv → Type 0) (es : List (PackageReq × PackageNv)) (req : PackageReq) (nv : PackageNv) → All P es → P (req, nv) → All P (insert_entry req_cmp es req nv)
put_req P [] req nv all new = All-cons P (req, nv) [] new all
put_req P (e ∷ es) req nv all new = by (req_cmp req e.0) refl (put_req P es req nv (All-tail P e es all) new)
  where
    by : (o : Ordering) → req_cmp req e.0 ≡ o → All P (insert_entry req_cmp es req nv) → All P (match_ordering o ((req, nv) ∷ e ∷ es) ((e.0, nv) ∷ es) (e ∷ insert_entry req_cmp es req nv))
    by Less is rest = All-cons P (req, nv) (e ∷ es) new all
    by Equal is rest = All-cons P (e.0, nv) es (subst (λ r. P (r, nv)) (same_req req e.0 is) new) (All-tail P e es all)
    by Greater is rest = All-cons P e _ (All-head P e es all) rest

-- ---- the versions of another name stay

-- where an entry of a name stands it isn't that of another one
apart : (q k : List ℕ) → is_at (text_cmp q) k ≡ false → (name : List ℕ) → text_cmp k name ≡ Equal → is_at (text_cmp q) name ≡ false
apart q k other name tied = ap (is_at (text_cmp q)) (sym (same_text k name tied)) ∙ other

module _ {X : Type 0} (q k : List ℕ) (other : is_at (text_cmp q) k ≡ false) where
  beside : (v : X) (es : List (List ℕ × X)) → lookup (is_at (text_cmp q)) (insert_entry text_cmp es k v) ≡ lookup (is_at (text_cmp q)) es
  beside v [] = ap (λ b. cond b (Some v) None) other
  beside v (e ∷ es) = by (text_cmp k e.0) refl (beside v es)
    where
      by : (o : Ordering) → text_cmp k e.0 ≡ o → lookup (is_at (text_cmp q)) (insert_entry text_cmp es k v) ≡ lookup (is_at (text_cmp q)) es → lookup (is_at (text_cmp q)) (match_ordering o ((k, v) ∷ e ∷ es) ((e.0, v) ∷ es) (e ∷ insert_entry text_cmp es k v)) ≡ lookup (is_at (text_cmp q)) (e ∷ es)
      by Less is rest = ap (λ b. cond b (Some v) (lookup (is_at (text_cmp q)) (e ∷ es))) other
      by Equal is rest = ap (λ b. cond b (Some v) (lookup (is_at (text_cmp q)) es)) (apart q k other e.0 is) ∙ sym (ap (λ b. cond b (Some e.1) (lookup (is_at (text_cmp q)) es)) (apart q k other e.0 is))
      by Greater is rest = ap (cond (is_at (text_cmp q) e.0) (Some e.1)) rest

  beside_set : (v : X) (es : List (List ℕ × X)) → lookup (is_at (text_cmp q)) (set_value (is_at (text_cmp k)) es v) ≡ lookup (is_at (text_cmp q)) es
  beside_set v [] = refl
  beside_set v (e ∷ es) = by (is_at (text_cmp k) e.0) refl (beside_set v es)
    where
      by : (b : Bool) → is_at (text_cmp k) e.0 ≡ b → lookup (is_at (text_cmp q)) (set_value (is_at (text_cmp k)) es v) ≡ lookup (is_at (text_cmp q)) es → lookup (is_at (text_cmp q)) (cond b ((e.0, v) ∷ es) (e ∷ set_value (is_at (text_cmp k)) es v)) ≡ lookup (is_at (text_cmp q)) (e ∷ es)
      by true is rest =
          let away = apart q k other e.0 ((Equal-is (text_cmp k e.0)).0 is) in
          ap (λ b. cond b (Some v) (lookup (is_at (text_cmp q)) es)) away ∙ sym (ap (λ b. cond b (Some e.1) (lookup (is_at (text_cmp q)) es)) away)
      by false is rest = ap (cond (is_at (text_cmp q) e.0) (Some e.1)) rest

pub other_versions : (lists : List (List ℕ × List PackageNv)) (nv : PackageNv) (q : List ℕ) → is_at (text_cmp q) nv.name ≡ false → at_key text_cmp (with_version lists nv) q ≡ at_key text_cmp lists q
other_versions lists nv q other = by (at_key text_cmp lists nv.name)
  where
    by : (o : Option (List PackageNv)) → at_key text_cmp (by_option o (insert_entry text_cmp lists nv.name (nv ∷ [])) (λ list. set_value (is_at (text_cmp nv.name)) lists (appended list nv))) q ≡ at_key text_cmp lists q
    by None = beside q nv.name other (nv ∷ []) lists
    by (Some list) = beside_set q nv.name other (appended list nv) lists

pub same_name : (q k : List ℕ) → is_at (text_cmp q) k ≡ true → q ≡ k
same_name q k e = same_text q k ((Equal-is (text_cmp q k)).0 e)
