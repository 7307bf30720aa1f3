-- The choice, by the best version that is found; and lists of versions with one more.
use Rattle.std.proofs.Common.{◌≡◌, ℕ, Bool, true, false, ◌&&◌, ◌||◌, List, [], ◌∷◌, ◌++◌, Option, Some, None, Ok, Err, cond, map, refl, sym, ap, ◌∙◌}
use Rattle.std.specs.List.{filter, list_any}
use Rattle.semver_npm.specs.Versions.{Ver}
use Rattle.semver_npm.specs.declared.package.PackageReq.{PackageReq}
use Rattle.std.specs.Option.{option_or}
use Rattle.std.specs.Prelude.{Result}
use Rattle.spec_base.specs.Refusal.{Answers}
use Rattle.spec_base.specs.declared.refusal.Refusal.{Refusal}
use Rattle.spec_base.specs.declared.refusal.Refusal.TheVariants.{Memory, Is}
use Rattle.pkg_versions.specs.Choice.{Chosen, Listed, best_of, choice_of, fits, fits_known, greatest, is_match, is_yanked_in, limit_met, listed, resolved_of, takes_pre_releases}
use Rattle.pkg_versions.specs.Views.{IfIs}
use Rattle.version_dates.specs.declared.not_found.JsrPackageReqNotFoundError.{JsrPackageReqNotFoundError}
use Rattle.pkg_versions.specs.declared.resolver.Class.TheVariants.{CachedUnyanked, Unyanked, Yanked}
use Rattle.pkg_versions.specs.Greater.{greater, greatest_after, is_of_class}
use Rattle.version_dates.specs.declared.newest_date.NewestDependencyDate.{NewestDependencyDate}
use Rattle.pkg_versions.specs.declared.package_info.JsrPackageInfo.{JsrPackageInfo}
use Rattle.pkg_versions.specs.declared.package_info.JsrPackageInfoVersion.{JsrPackageInfoVersion}
use Rattle.pkg_versions.proofs.Greatest.{greatest_after_more}

-- the first class has a match
pub best_first : (req : List ℕ) (info : JsrPackageInfo) (existing cached : List Ver) (limit : Option NewestDependencyDate) (v : Ver)
    → greatest (filter (is_match req (takes_pre_releases req info)) existing) ≡ Some v → best_of req info existing cached limit ≡ Some v
best_first req info existing cached limit v h = rw h

-- it has none
pub best_later : (req : List ℕ) (info : JsrPackageInfo) (existing cached : List Ver) (limit : Option NewestDependencyDate)
    → greatest (filter (is_match req (takes_pre_releases req info)) existing) ≡ None
    → best_of req info existing cached limit
    ≡ (let within = λ (e : Listed). is_match req (takes_pre_releases req info) e.0 && fits limit e.1 in
    option_or (greatest (listed (λ e. within e && is_of_class cached CachedUnyanked e) info))
    (option_or (greatest (listed (λ e. within e && is_of_class cached Unyanked e) info))
    (greatest (listed (λ e. within e && is_of_class cached Yanked e) info))))
best_later req info existing cached limit h = rw h

-- a refusal that is the expected one
pub answers_none : (r : Refusal JsrPackageReqNotFoundError) (expected : Result Chosen JsrPackageReqNotFoundError) (e : JsrPackageReqNotFoundError)
    → expected ≡ Err e → IfIs r (λ x. x ≡ e) → Answers {T = Chosen} (Err r) expected
answers_none Memory expected e h k = tt
answers_none (Is x) expected e h k = h ∙ ap Err (sym k)

pub choice_found : (req : PackageReq) (info : JsrPackageInfo) (existing cached : List Ver) (limit : Option NewestDependencyDate) (v : Ver)
    → best_of req.version_req info existing cached limit ≡ Some v → choice_of req info existing cached limit ≡ Ok (is_yanked_in info v, v)
choice_found req info existing cached limit v h = rw h

pub choice_none : (req : PackageReq) (info : JsrPackageInfo) (existing cached : List Ver) (limit : Option NewestDependencyDate)
    → best_of req.version_req info existing cached limit ≡ None
    → choice_of req info existing cached limit ≡ Err (record { req = req; newest_dependency_date = limit_met req.version_req info limit })
choice_none req info existing cached limit h = rw h

filter_one : {B : Type 0} (x : B) (xs more rest : List B) (b : Bool) → rest ≡ xs ++ more → cond b (x ∷ rest) rest ≡ cond b (x ∷ xs) xs ++ more
filter_one x xs more rest true h = ap (λ l. x ∷ l) h
filter_one x xs more rest false h = h

filter_more : {A B : Type 0} (p : B → Bool) (f : A → B) (ys : List A) (y : A) → filter p (map f (ys ++ y ∷ [])) ≡ filter p (map f ys) ++ filter p (f y ∷ [])
filter_more p f [] y = refl
filter_more p f (x ∷ ys) y = filter_one (f x) (filter p (map f ys)) (filter p (f y ∷ [])) _ (p (f x)) (filter_more p f ys y)

-- the versions that pass of a list with one more that passes
pub kept_more : {A B : Type 0} (p : B → Bool) (f : A → B) (ys : List A) (y : A) → p (f y) ≡ true → filter p (map f (ys ++ y ∷ [])) ≡ filter p (map f ys) ++ f y ∷ []
kept_more p f ys y h = filter_more p f ys y ∙ ap (λ l. filter p (map f ys) ++ l) (rw h)

append_none : {B : Type 0} (xs : List B) → xs ++ [] ≡ xs
append_none [] = refl
append_none (x ∷ xs) = ap (λ l. x ∷ l) (append_none xs)

-- and with one more that doesn't
pub kept_same : {A B : Type 0} (p : B → Bool) (f : A → B) (ys : List A) (y : A) → p (f y) ≡ false → filter p (map f (ys ++ y ∷ [])) ≡ filter p (map f ys)
kept_same p f ys y h = filter_more p f ys y ∙ ap (λ l. filter p (map f ys) ++ l) (rw h) ∙ append_none (filter p (map f ys))

any_one : (a b c : Bool) → (a || (b || c)) ≡ ((a || b) || c)
any_one true b c = refl
any_one false b c = refl

or_none : (a : Bool) → (a || false) ≡ a
or_none true = refl
or_none false = refl

pub any_more : {A B : Type 0} (p : B → Bool) (f : A → B) (ys : List A) (y : A) → list_any p (map f (ys ++ y ∷ [])) ≡ (list_any p (map f ys) || p (f y))
any_more p f [] y = or_none (p (f y))
any_more p f (x ∷ ys) y = ap (λ b. p (f x) || b) (any_more p f ys y) ∙ any_one (p (f x)) (list_any p (map f ys)) (p (f y))

-- the greatest match with one more
pub greatest_with : {A : Type 0} (p : Ver → Bool) (f : A → Ver) (ys : List A) (y : A) (best : Option Ver) → best ≡ greatest_after None (filter p (map f ys)) → p (f y) ≡ true
    → greater best (f y) ≡ greatest_after None (filter p (map f (ys ++ y ∷ [])))
greatest_with p f ys y best is h = ap (λ b. greater b (f y)) is ∙ sym (ap (greatest_after None) (kept_more p f ys y h) ∙ greatest_after_more None (filter p (map f ys)) (f y))

map_more : {B C : Type 0} (h : B → C) (xs : List B) (x : B) → map h (xs ++ x ∷ []) ≡ map h xs ++ h x ∷ []
map_more h [] x = refl
map_more h (y ∷ xs) x = ap (λ l. h y ∷ l) (map_more h xs x)

-- the same for versions that stand beside other things
pub greatest_beside : {A B : Type 0} (p : B → Bool) (f : A → B) (h : B → Ver) (ys : List A) (y : A) (best : Option Ver) → best ≡ greatest_after None (map h (filter p (map f ys))) → p (f y) ≡ true
    → greater best (h (f y)) ≡ greatest_after None (map h (filter p (map f (ys ++ y ∷ []))))
greatest_beside p f h ys y best is passes =
    ap (λ b. greater b (h (f y))) is
    ∙ sym (ap (λ l. greatest_after None (map h l)) (kept_more p f ys y passes) ∙ ap (greatest_after None) (map_more h (filter p (map f ys)) (f y)) ∙ greatest_after_more None (map h (filter p (map f ys))) (h (f y)))

pub greatest_kept : {A B : Type 0} (p : B → Bool) (f : A → B) (h : B → Ver) (ys : List A) (y : A) (best : Option Ver) → best ≡ greatest_after None (map h (filter p (map f ys))) → p (f y) ≡ false
    → best ≡ greatest_after None (map h (filter p (map f (ys ++ y ∷ []))))
greatest_kept p f h ys y best is passes = is ∙ sym (ap (λ l. greatest_after None (map h l)) (kept_same p f ys y passes))

-- the greatest match, where there is one and where there is none
pub resolved_found : (req : List ℕ) (limit : Option NewestDependencyDate) (all_pre : Bool) (vs : List (Ver × Option JsrPackageInfoVersion)) (v : Ver)
    → greatest (map (λ v. v.0) (filter (λ v. is_match req all_pre v.0 && fits_known limit v.1) vs)) ≡ Some v → resolved_of req limit all_pre vs ≡ Ok v
resolved_found req limit all_pre vs v h = rw h

pub resolved_none : (req : List ℕ) (limit : Option NewestDependencyDate) (all_pre : Bool) (vs : List (Ver × Option JsrPackageInfoVersion))
    → greatest (map (λ v. v.0) (filter (λ v. is_match req all_pre v.0 && fits_known limit v.1) vs)) ≡ None → resolved_of req limit all_pre vs ≡ Err (list_any (λ v. is_match req all_pre v.0) vs)
resolved_none req limit all_pre vs h = rw h
