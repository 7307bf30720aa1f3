-- A locker is told the sums of version files, one after the other.
use Rattle.std.proofs.Common.{◌≡◌, ℕ, List, [], ◌∷◌, Bool, true, false, cond, if◌then◌else◌, Option, None, Some, Result, Ok, Err, is_some, refl, sym, ap, ◌∙◌, subst}
use Rattle.std.specs.Prelude.{T, ◌&&◌}
use Rattle.std.specs.Option.{option_or}
use Rattle.std.specs.Ordering.{eq_by_cmp, is_eq, is_lt}
use Rattle.std.specs.declared.cmp.Ordering.{Ordering}
use Rattle.std.specs.declared.cmp.Ordering.TheVariants.{Less, Equal, Greater}
use Rattle.std.specs.FinMap as finite
use Rattle.std.specs.FinMap.{find, get-insert, is_sorted}
use Rattle.std.specs.FinMap.Entries.{below_all}
use Rattle.std.proofs.lemmas.Bool.{true≢false}
use Rattle.semver_npm.specs.Orders.{nv_cmp}
use Rattle.semver_npm.specs.declared.package.PackageNv.{PackageNv}
use Rattle.source_sums.specs.Manifests.{KnownManifests}
use Rattle.source_sums.specs.VersionKeys.{nv_total}
use Rattle.metadata_store.specs.Store.{with_answer}
use Rattle.graph_errors.specs.declared.jsr_error.JsrLoadError.{JsrLoadError}
use Rattle.registry_files.specs.declared.kept_version.KeptVersion.{KeptVersion}
use Rattle.graph_turns.specs.Machine.Sums.{file_sum}
use Rattle.graph_turns.proofs.Entering.Files.{same_version}

abbrev Read : Type 0
Read = Result KeptVersion JsrLoadError

-- ---- one key, where a sum is told at it or at another

told : (b : Bool) (v : KeptVersion) (at : Option (List ℕ)) (left : Option Read) → (b ≡ true → at ≡ None) → option_or (cond b (Some v.file.checksum) at) (file_sum left) ≡ option_or at (file_sum (cond b (Some (Ok v)) left))
told true v at left none = sym (ap (λ o. option_or o (Some v.file.checksum)) (none refl))
told false v at left none = refl

-- it was known there
passed : (b : Bool) (r : Read) (at : Option (List ℕ)) (left : Option Read) → (b ≡ true → is_some at ≡ true) → option_or at (file_sum left) ≡ option_or at (file_sum (cond b (Some r) left))
passed true r None left known = absurd (true≢false (sym (known refl)))
passed true r (Some x) left known = refl
passed false r at left known = refl

-- it wasn't read there
failed : (b : Bool) (e : JsrLoadError) (at : Option (List ℕ)) (left : Option Read) → (b ≡ true → left ≡ None) → option_or at (file_sum left) ≡ option_or at (file_sum (cond b (Some (Err e)) left))
failed true e at left none = ap (λ (o : Option Read). option_or at (file_sum o)) (none refl)
failed false e at left none = refl

-- ---- keys in order

first : (a b : Bool) → T (a && b) → T a
first true b p = tt
first false b p = absurd p

second : (a b : Bool) → T (a && b) → T b
second true b p = p
second false b p = absurd p

below_apart : (o : Ordering) → T (is_lt o) → is_eq o ≡ false
below_apart Less p = refl
below_apart Equal p = absurd p
below_apart Greater p = absurd p

none_above : (x : PackageNv) (es : List (PackageNv × Read)) → T (below_all nv_cmp x es) → find nv_cmp x es ≡ None
none_above x [] p = refl
none_above x (e ∷ es) p =
    ap (λ b. cond b (Some e.1) (find nv_cmp x es)) (below_apart (nv_cmp x e.0) (first _ _ p)) ∙ none_above x es (second _ _ p)

pub in_order_rest : (e : PackageNv × Read) (es : List (PackageNv × Read)) → T (is_sorted nv_cmp (e ∷ es)) → T (is_sorted nv_cmp es)
in_order_rest e es p = second _ _ p

none_of : (o : Option (List ℕ)) → is_some o ≡ false → o ≡ None
none_of None e = refl
none_of (Some x) e = absurd (true≢false e)

-- ---- the first of what is left

module _ (knows : KnownManifests) (nv : PackageNv) where
  none_there : finite.get knows nv ≡ None → (k : PackageNv) → eq_by_cmp nv_cmp k nv ≡ true → finite.get knows k ≡ None
  none_there none k e = subst (λ z. finite.get knows z ≡ None) (sym (same_version k nv e)) none

  one_told : (v : KeptVersion) (left : List (PackageNv × Read)) (k : PackageNv) → finite.get knows nv ≡ None → option_or (finite.get (finite.insert knows nv v.file.checksum) k) (file_sum (find nv_cmp k left)) ≡ option_or (finite.get knows k) (file_sum (find nv_cmp k ((nv, Ok v) ∷ left)))
  one_told v left k none =
      ap (λ o. option_or o (file_sum (find nv_cmp k left))) (get-insert nv_total knows nv v.file.checksum k)
      ∙ told (eq_by_cmp nv_cmp k nv) v (finite.get knows k) (find nv_cmp k left) (none_there none k)

  one_passed : (r : Read) (left : List (PackageNv × Read)) (k : PackageNv) → is_some (finite.get knows nv) ≡ true → option_or (finite.get knows k) (file_sum (find nv_cmp k left)) ≡ option_or (finite.get knows k) (file_sum (find nv_cmp k ((nv, r) ∷ left)))
  one_passed r left k known =
      passed (eq_by_cmp nv_cmp k nv) r (finite.get knows k) (find nv_cmp k left) (λ e. subst (λ z. is_some (finite.get knows z) ≡ true) (sym (same_version k nv e)) known)

  pub one_failed : (error : JsrLoadError) (left : List (PackageNv × Read)) (k : PackageNv) → T (is_sorted nv_cmp ((nv, Err error) ∷ left)) → option_or (finite.get knows k) (file_sum (find nv_cmp k left)) ≡ option_or (finite.get knows k) (file_sum (find nv_cmp k ((nv, Err error) ∷ left)))
  one_failed error left k sorted =
      failed (eq_by_cmp nv_cmp k nv) error (finite.get knows k) (find nv_cmp k left) (λ e. subst (λ z. find nv_cmp z left ≡ None) (sym (same_version k nv e)) (none_above nv left (first _ _ sorted)))

  -- it is told where it wasn't known
  pub one_read : (v : KeptVersion) (left : List (PackageNv × Read)) (k : PackageNv) → option_or (finite.get (with_answer knows nv v.file.checksum) k) (file_sum (find nv_cmp k left)) ≡ option_or (finite.get knows k) (file_sum (find nv_cmp k ((nv, Ok v) ∷ left)))
  one_read v left k = by (finite.contains_key knows nv) refl
    where
      by : (b : Bool) → finite.contains_key knows nv ≡ b → option_or (finite.get (if b then knows else finite.insert knows nv v.file.checksum) k) (file_sum (find nv_cmp k left)) ≡ option_or (finite.get knows k) (file_sum (find nv_cmp k ((nv, Ok v) ∷ left)))
      by true known = one_passed (Ok v) left k known
      by false away = one_told v left k (none_of (finite.get knows nv) away)
