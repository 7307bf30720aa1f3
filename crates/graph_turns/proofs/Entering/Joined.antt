-- Sums that are known, and those that are told behind them: the first one of a key counts.
use Rattle.std.proofs.Common.{◌≡◌, ℕ, List, [], ◌∷◌, Bool, true, false, cond, Option, None, Some, Result, Ok, Err, is_some, if◌then◌else◌, refl, sym, ap, ◌∙◌, subst}
use Rattle.std.specs.Prelude.{fold, option_map}
use Rattle.std.specs.Option.{option_and_then, option_or}
use Rattle.std.specs.Ordering.{eq_by_cmp}
use Rattle.std.specs.declared.cmp.Ordering.{Ordering}
use Rattle.std.specs.Cmp.{IsTotalOrder, Equal-is}
use Rattle.std.specs.Cmp.Lexicographic.{nat_list_cmp_total}
use Rattle.std.specs.FinMap as finite
use Rattle.std.specs.FinMap.{FinMap, IsAntisymmetric, find, get-entries, get-insert, nat_cmp-IsAntisymmetric, slice_cmp-IsAntisymmetric}
use Rattle.std.proofs.lemmas.Bool.{true≢false}
use Rattle.url.specs.Parts.{Parts}
use Rattle.spec_base.specs.Options.{by_option}
use Rattle.spec_base.specs.Shown.{text_cmp}
use Rattle.spec_base.specs.Specifier.{specifier_text}
use Rattle.semver_npm.specs.Orders.{nv_cmp}
use Rattle.semver_npm.specs.declared.package.PackageNv.{PackageNv}
use Rattle.source_sums.specs.Manifests.{KnownManifests}
use Rattle.source_sums.specs.Sums.{KnownSums}
use Rattle.source_sums.specs.VersionKeys.{nv_exact, nv_total}
use Rattle.metadata_store.specs.Store.{with_answer}
use Rattle.graph_turns.specs.declared.run.Earlier.{Earlier}
use Rattle.graph_turns.specs.declared.run.Run.{Run}
use Rattle.graph_turns.specs.declared.run.Run.TheVariants.{Only, First, Due, Second}
use Rattle.graph_turns.specs.Machine.Manners.{sum_at}
use Rattle.graph_turns.specs.Machine.Runs.{earlier_manifests, earlier_sum, joined_manifests, joined_sums, manifests_for, sums_for}
use Rattle.graph_turns.specs.Machine.Sums.{known_by}
use Rattle.graph_turns.specs.Promise.Versions.{manifest_at}

-- ---- one key

told_at : {V : Type 0} (b : Bool) (v : V) (at left : Option V) → (b ≡ true → at ≡ None) → option_or (cond b (Some v) at) left ≡ option_or at (cond b (Some v) left)
told_at {V} true v at left none = sym (ap (λ (o : Option V). option_or o (Some v)) (none refl))
told_at false v at left none = refl

passed_at : {V : Type 0} (b : Bool) (v : V) (at left : Option V) → (b ≡ true → is_some at ≡ true) → option_or at left ≡ option_or at (cond b (Some v) left)
passed_at true v None left known = absurd (true≢false (sym (known refl)))
passed_at true v (Some x) left known = refl
passed_at false v at left known = refl

none_of : {V : Type 0} (o : Option V) → is_some o ≡ false → o ≡ None
none_of None e = refl
none_of (Some x) e = absurd (true≢false e)

pub or_none : {V : Type 0} (o : Option V) → option_or o None ≡ o
or_none None = refl
or_none (Some x) = refl

-- ---- the first of what is left is told

module _ {K V : Type 0} {R : K → K → Ordering} (total : IsTotalOrder R) (exact : IsAntisymmetric R) where
  same_at : (m : FinMap R V) (t k : K) → eq_by_cmp R k t ≡ true → finite.get m k ≡ finite.get m t
  same_at m t k e = ap (finite.get m) (exact k t ((Equal-is (R k t)).0 e))

  pub first_told : (m : FinMap R V) (t : K) (v : V) (left : List (K × V)) (k : K) → option_or (finite.get (with_answer m t v) k) (find R k left) ≡ option_or (finite.get m k) (find R k ((t, v) ∷ left))
  first_told m t v left k = by (finite.contains_key m t) refl
    where
      by : (b : Bool) → finite.contains_key m t ≡ b → option_or (finite.get (if b then m else finite.insert m t v) k) (find R k left) ≡ option_or (finite.get m k) (cond (eq_by_cmp R k t) (Some v) (find R k left))
      by true known = passed_at (eq_by_cmp R k t) v (finite.get m k) (find R k left) (λ e. ap is_some (same_at m t k e) ∙ known)
      by false away =
          ap (λ (o : Option V). option_or o (find R k left)) (get-insert total m t v k)
          ∙ told_at (eq_by_cmp R k t) v (finite.get m k) (find R k left) (λ e. same_at m t k e ∙ none_of (finite.get m t) away)

  pub all_told : (m : FinMap R V) (es : List (K × V)) (k : K) → finite.get (fold (λ n e. with_answer n e.0 e.1) m es) k ≡ option_or (finite.get m k) (find R k es)
  all_told m [] k = sym (or_none (finite.get m k))
  all_told m (e ∷ es) k = all_told (with_answer m e.0 e.1) es k ∙ first_told m e.0 e.1 es k

text_exact : IsAntisymmetric text_cmp
text_exact = slice_cmp-IsAntisymmetric nat_cmp-IsAntisymmetric

pub joined_sum : (own others : KnownSums) (k : List ℕ) → finite.get (joined_sums own others) k ≡ option_or (finite.get own k) (finite.get others k)
joined_sum own others k = all_told nat_list_cmp_total text_exact own (finite.entries others) k ∙ ap (option_or (finite.get own k)) (sym (get-entries others k))

pub joined_manifest : (own others : KnownManifests) (nv : PackageNv) → finite.get (joined_manifests own others) nv ≡ option_or (finite.get own nv) (finite.get others nv)
joined_manifest own others nv = all_told nv_total nv_exact own (finite.entries others) nv ∙ ap (option_or (finite.get own nv)) (sym (get-entries others nv))

-- ---- what is known in a run

pub no_sums : (run : Run) → sums_for None run ≡ None
no_sums Only = refl
no_sums (First start) = refl
no_sums (Due start) = refl
no_sums (Second e) = refl

pub no_manifests : (run : Run) → manifests_for None run ≡ None
no_manifests Only = refl
no_manifests (First start) = refl
no_manifests (Due start) = refl
no_manifests (Second e) = refl

joined_by : (own : KnownSums) (o : Option KnownSums) (s : Parts) → finite.get (by_option o own (joined_sums own)) (specifier_text s) ≡ option_or (finite.get own (specifier_text s)) (option_and_then (λ sums. finite.get sums (specifier_text s)) o)
joined_by own None s = sym (or_none (finite.get own (specifier_text s)))
joined_by own (Some sums) s = joined_sum own sums (specifier_text s)

pub sum_known : (own : KnownSums) (run : Run) (s : Parts) → sum_at (sums_for (Some own) run) s ≡ option_or (finite.get own (specifier_text s)) (earlier_sum run s)
sum_known own Only s = sym (or_none (finite.get own (specifier_text s)))
sum_known own (First start) s = sym (or_none (finite.get own (specifier_text s)))
sum_known own (Due start) s = sym (or_none (finite.get own (specifier_text s)))
sum_known own (Second e) s = joined_by own e.sums s

pub manifest_known : (own : KnownManifests) (run : Run) (nv : PackageNv) → manifest_at (manifests_for (Some own) run) nv ≡ option_or (finite.get own nv) (option_and_then (λ found. finite.get found nv) (earlier_manifests run))
manifest_known own Only nv = sym (or_none (finite.get own nv))
manifest_known own (First start) nv = sym (or_none (finite.get own nv))
manifest_known own (Due start) nv = sym (or_none (finite.get own nv))
manifest_known own (Second e) nv = joined_manifest own e.manifests nv

-- ---- as a locker and the run before know it

module _ {L : Type 0} (remote : L → KnownSums) (locker : Option L) (own : L) (run : Run) (s : Parts) (at : Option (List ℕ)) (is : locker ≡ Some own) (known : at ≡ finite.get (remote own) (specifier_text s)) where
  sum_by : sum_at (sums_for (known_by remote locker) run) s ≡ option_or at (earlier_sum run s)
  sum_by =
      ap (λ (o : Option L). sum_at (sums_for (known_by remote o) run) s) is
      ∙ sum_known (remote own) run s ∙ ap (λ o. option_or o (earlier_sum run s)) (sym known)

  pub sum_stands : (sum : List ℕ) → at ≡ Some sum → Some sum ≡ sum_at (sums_for (known_by remote locker) run) s
  sum_stands sum here = sym (sum_by ∙ ap (λ o. option_or o (earlier_sum run s)) here)

  pub sum_missing : at ≡ None → earlier_sum run s ≡ sum_at (sums_for (known_by remote locker) run) s
  sum_missing away = sym (sum_by ∙ ap (λ o. option_or o (earlier_sum run s)) away)

module _ {L : Type 0} (manifests : L → KnownManifests) (locker : Option L) (own : L) (run : Run) (nv : PackageNv) (at : Option (List ℕ)) (is : locker ≡ Some own) (known : at ≡ finite.get (manifests own) nv) where
  manifest_by : manifest_at (manifests_for (known_by manifests locker) run) nv ≡ option_or at (option_and_then (λ found. finite.get found nv) (earlier_manifests run))
  manifest_by =
      ap (λ (o : Option L). manifest_at (manifests_for (known_by manifests o) run) nv) is
      ∙ manifest_known (manifests own) run nv ∙ ap (λ o. option_or o (option_and_then (λ found. finite.get found nv) (earlier_manifests run))) (sym known)

  pub manifest_stands : (sum : List ℕ) → at ≡ Some sum → Some sum ≡ manifest_at (manifests_for (known_by manifests locker) run) nv
  manifest_stands sum here = sym (manifest_by ∙ ap (λ o. option_or o (option_and_then (λ found. finite.get found nv) (earlier_manifests run))) here)

  pub manifest_missing : at ≡ None → option_and_then (λ found. finite.get found nv) (earlier_manifests run) ≡ manifest_at (manifests_for (known_by manifests locker) run) nv
  manifest_missing away = sym (manifest_by ∙ ap (λ o. option_or o (option_and_then (λ found. finite.get found nv) (earlier_manifests run))) away)
