-- That packages which a graph knows, and versions that were chosen, stay as packages get more.
use Rattle.std.proofs.Common.{◌≡◌, ℕ, List, [], ◌∷◌, ◌++◌, Bool, true, false, ◌||◌, ◌&&◌, cond, if◌then◌else◌, Option, None, Some, is_some, fold, refl, sym, ap, ◌∙◌, inl, inr}
use Rattle.std.proofs.lemmas.Bool.{true≢false}
use Rattle.std.proofs.lemmas.Slice.Eq.{bytes_eq-Decides}
use Rattle.std.specs.BTreeMap.{insert_entry, is_at}
use Rattle.std.specs.Cmp.{eq_by_cmp_equiv, tied_itself}
use Rattle.std.specs.Cmp.Lexicographic.{nat_list_cmp_total}
use Rattle.std.specs.FinMap as finite
use Rattle.std.specs.List.{list_any}
use Rattle.std.specs.Map.{lookup, set_value}
use Rattle.std.specs.Ordering.{eq_by_cmp, match_ordering}
use Rattle.std.specs.declared.cmp.Ordering.{Ordering}
use Rattle.std.specs.declared.cmp.Ordering.TheVariants.{Less, Equal, Greater}
use Rattle.spec_base.specs.Options.{by_option}
use Rattle.semver_npm.specs.OrderLaws.{ver_total}
use Rattle.semver_npm.specs.Orders.{nv_cmp}
use Rattle.spec_base.specs.Shown.{text_cmp}
use Rattle.semver_npm.specs.Versions.{ver_cmp}
use Rattle.semver_npm.specs.declared.package.PackageNv.{PackageNv}
use Rattle.semver_npm.specs.declared.package.PackageReq.{PackageReq}
use Rattle.source_sums.specs.VersionKeys.{nv_total}
use Rattle.pkg_records.specs.Kept.{GrowsAtEnd, appended, empty_record, record_with_dependency, record_with_export, same_nv, versions_of, with_dependency, with_nv, with_package, with_record, with_used_yanked_package}
use Rattle.version_dates.specs.Sets.{at_key}
use Rattle.pkg_records.specs.declared.package_records.PackageRecord.{PackageRecord}
use Rattle.pkg_records.specs.declared.package_specifiers.PackageSpecifiers.{PackageSpecifiers}
use Rattle.pkg_records.proofs.KeptLemmas.{grows, listed}
use Rattle.registry_urls.specs.Meaning.{RegistryMeaning}
use Rattle.graph_core.specs.declared.graph.ModuleGraph.{ModuleGraph}
use Rattle.graph_turns.specs.declared.dependencies.Note.{Note}
use Rattle.graph_turns.specs.declared.exports.Export.{Export}
use Rattle.turn_laws.specs.Budget.Asked.{HasPackage, IsChosen}
use Rattle.graph_turns.specs.Machine.Choosing.{with_choice}
use Rattle.graph_turns.specs.Machine.Passes.{with_used}
use Rattle.graph_turns.specs.Machine.Waiting.{with_noted}
use Rattle.turn_laws.proofs.Budget.Known.{IsKnown}

-- ---- entries

module _ {K X : Type 0} (cmp : K → K → Ordering) where
  here_step : (k : K) (v : X) (e : K × X) (es : List (K × X)) (o : Ordering) → cmp k e.0 ≡ o → cmp k k ≡ Equal → lookup (is_at (cmp k)) (insert_entry cmp es k v) ≡ Some v
      → lookup (is_at (cmp k)) (match_ordering o ((k, v) ∷ e ∷ es) ((e.0, v) ∷ es) (e ∷ insert_entry cmp es k v)) ≡ Some v
  here_step k v e es Less h self later = rw self
  here_step k v e es Equal h self later = rw h
  here_step k v e es Greater h self later = rw h later

  -- an entry that was put is found
  entry_here : (k : K) (v : X) (es : List (K × X)) → cmp k k ≡ Equal → lookup (is_at (cmp k)) (insert_entry cmp es k v) ≡ Some v
  entry_here k v [] self = rw self
  entry_here k v (e ∷ es) self = here_step k v e es (cmp k e.0) refl self (entry_here k v es self)

  -- and one that stood is found still
  entry_stays : (q k : K) (v : X) (es : List (K × X)) → is_some (lookup (is_at (cmp q)) es) ≡ true → is_some (lookup (is_at (cmp q)) (insert_entry cmp es k v)) ≡ true
  entry_stays q k v [] h = absurd (true≢false (sym h))
  entry_stays q k v (e ∷ es) h = by (entry_stays q k v es) (cmp k e.0)
    where
      before : (b : Bool) → is_some (cond b (Some v) (lookup (is_at (cmp q)) (e ∷ es))) ≡ true
      before true = refl
      before false = h

      over : (b : Bool) → is_some (cond b (Some e.1) (lookup (is_at (cmp q)) es)) ≡ true → is_some (cond b (Some v) (lookup (is_at (cmp q)) es)) ≡ true
      over true t = refl
      over false t = t

      behind : (is_some (lookup (is_at (cmp q)) es) ≡ true → is_some (lookup (is_at (cmp q)) (insert_entry cmp es k v)) ≡ true) → (b : Bool) → is_some (cond b (Some e.1) (lookup (is_at (cmp q)) es)) ≡ true → is_some (cond b (Some e.1) (lookup (is_at (cmp q)) (insert_entry cmp es k v))) ≡ true
      behind rest true t = refl
      behind rest false t = rest t

      by : (is_some (lookup (is_at (cmp q)) es) ≡ true → is_some (lookup (is_at (cmp q)) (insert_entry cmp es k v)) ≡ true) → (o : Ordering) → is_some (lookup (is_at (cmp q)) (match_ordering o ((k, v) ∷ e ∷ es) ((e.0, v) ∷ es) (e ∷ insert_entry cmp es k v))) ≡ true
      by rest Less = before (is_at (cmp q) k)
      by rest Equal = over (is_at (cmp q) e.0) h
      by rest Greater = behind rest (is_at (cmp q) e.0) h

module _ {K X : Type 0} (test : K → Bool) (w : X) where
  -- a changed entry is found
  set_here : (v : X) (es : List (K × X)) → lookup test es ≡ Some v → lookup test (set_value test es w) ≡ Some w
  set_here v [] there = absurd (let wrong : None ≡ Some v = there in true≢false (sym (ap is_some wrong)))
  set_here v (e ∷ es) there = by (set_here v es) (test e.0) refl there
    where
      by : (lookup test es ≡ Some v → lookup test (set_value test es w) ≡ Some w) → (b : Bool) → test e.0 ≡ b → cond b (Some e.1) (lookup test es) ≡ Some v → lookup test (cond b ((e.0, w) ∷ es) (e ∷ set_value test es w)) ≡ Some w
      by rest true t found = ap (λ b. cond b (Some w) (lookup test es)) t
      by rest false f found = ap (λ b. cond b (Some e.1) (lookup test (set_value test es w))) f ∙ rest found

  -- and others are found still
  set_stays : (q : K → Bool) (es : List (K × X)) → is_some (lookup q es) ≡ true → is_some (lookup q (set_value test es w)) ≡ true
  set_stays q [] h = h
  set_stays q (e ∷ es) h = by (set_stays q es) (test e.0)
    where
      over : (b : Bool) → is_some (cond b (Some e.1) (lookup q es)) ≡ true → is_some (cond b (Some w) (lookup q es)) ≡ true
      over true t = refl
      over false t = t

      behind : (is_some (lookup q es) ≡ true → is_some (lookup q (set_value test es w)) ≡ true) → (b : Bool) → is_some (cond b (Some e.1) (lookup q es)) ≡ true → is_some (cond b (Some e.1) (lookup q (set_value test es w))) ≡ true
      behind rest true t = refl
      behind rest false t = rest t

      by : (is_some (lookup q es) ≡ true → is_some (lookup q (set_value test es w)) ≡ true) → (b : Bool) → is_some (lookup q (cond b ((e.0, w) ∷ es) (e ∷ set_value test es w))) ≡ true
      by rest true = over (q e.0) h
      by rest false = behind rest (q e.0) h

-- ---- packages that a graph knows

empty_here : (es : List (PackageNv × PackageRecord)) (nv : PackageNv) (o : Option PackageRecord) → at_key nv_cmp es nv ≡ o → is_some (at_key nv_cmp (by_option o (insert_entry nv_cmp es nv empty_record) (λ r. es)) nv) ≡ true
empty_here es nv None e = ap is_some (entry_here nv_cmp nv empty_record es (tied_itself nv_total nv))
empty_here es nv (Some r) e = ap is_some e

empty_stays : (es : List (PackageNv × PackageRecord)) (nv q : PackageNv) (o : Option PackageRecord) → is_some (at_key nv_cmp es q) ≡ true → is_some (at_key nv_cmp (by_option o (insert_entry nv_cmp es nv empty_record) (λ r. es)) q) ≡ true
empty_stays es nv q None h = entry_stays nv_cmp q nv empty_record es h
empty_stays es nv q (Some r) h = h

-- a package that comes stands
pub package_here : (p : PackageSpecifiers) (nv : PackageNv) → is_some (at_key nv_cmp (with_package p nv).packages nv) ≡ true
package_here p nv = empty_here p.packages nv (at_key nv_cmp p.packages nv) refl

-- where others stood they stand
pub package_stays : (p : PackageSpecifiers) (nv q : PackageNv) → is_some (at_key nv_cmp p.packages q) ≡ true → is_some (at_key nv_cmp (with_package p nv).packages q) ≡ true
package_stays p nv q h = empty_stays p.packages nv q (at_key nv_cmp p.packages nv) h

record_by : (change : PackageRecord → PackageRecord) (es : List (PackageNv × PackageRecord)) (nv q : PackageNv) (o : Option PackageRecord) → is_some (at_key nv_cmp es q) ≡ true → is_some (at_key nv_cmp (by_option o (insert_entry nv_cmp es nv (change empty_record)) (λ r. set_value (is_at (nv_cmp nv)) es (change r))) q) ≡ true
record_by change es nv q None h = entry_stays nv_cmp q nv (change empty_record) es h
record_by change es nv q (Some r) h = set_stays (is_at (nv_cmp nv)) (change r) (is_at (nv_cmp q)) es h

-- whatever changes of a package
record_stays : (change : PackageRecord → PackageRecord) (es : List (PackageNv × PackageRecord)) (nv q : PackageNv) → is_some (at_key nv_cmp es q) ≡ true → is_some (at_key nv_cmp (with_record change es nv) q) ≡ true
record_stays change es nv q h = record_by change es nv q (at_key nv_cmp es nv) h

-- ---- versions that were chosen

pub same_itself : (nv : PackageNv) → same_nv nv nv ≡ true
same_itself nv = ap (λ b. b && eq_by_cmp ver_cmp nv.version nv.version) ((bytes_eq-Decides nv.name nv.name).1 refl) ∙ (eq_by_cmp_equiv ver_total).refl nv.version

any_left : {X : Type 0} (test : X → Bool) (xs ys : List X) → list_any test xs ≡ true → list_any test (xs ++ ys) ≡ true
any_left test [] ys h = absurd (true≢false (sym h))
any_left test (x ∷ xs) ys h = by (any_left test xs ys) (test x) h
  where
    by : (list_any test xs ≡ true → list_any test (xs ++ ys) ≡ true) → (b : Bool) → b || list_any test xs ≡ true → b || list_any test (xs ++ ys) ≡ true
    by rest true t = refl
    by rest false t = rest t

any_last : {X : Type 0} (test : X → Bool) (xs : List X) (x : X) → test x ≡ true → list_any test (xs ++ x ∷ []) ≡ true
any_last test [] x h = ap (λ b. b || false) h
any_last test (y ∷ xs) x h = by (any_last test xs x h) (test y)
  where
    by : list_any test (xs ++ x ∷ []) ≡ true → (b : Bool) → b || list_any test (xs ++ x ∷ []) ≡ true
    by rest true = refl
    by rest false = rest

appended_by : (list : List PackageNv) (nv : PackageNv) (b : Bool) → list_any (same_nv nv) list ≡ b → list_any (same_nv nv) (if b then list else list ++ nv ∷ []) ≡ true
appended_by list nv true t = t
appended_by list nv false f = any_last (same_nv nv) list nv (same_itself nv)

chosen_by : (lists : List (List ℕ × List PackageNv)) (nv : PackageNv) (o : Option (List PackageNv)) → at_key text_cmp lists nv.name ≡ o
    → list_any (same_nv nv) (listed (at_key text_cmp (by_option o (insert_entry text_cmp lists nv.name (nv ∷ [])) (λ list. set_value (is_at (text_cmp nv.name)) lists (appended list nv))) nv.name)) ≡ true
chosen_by lists nv None e =
    ap (λ (x : Option (List PackageNv)). list_any (same_nv nv) (listed x)) (entry_here text_cmp nv.name (nv ∷ []) lists (tied_itself nat_list_cmp_total nv.name))
    ∙ any_last (same_nv nv) [] nv (same_itself nv)
chosen_by lists nv (Some list) e =
    ap (λ (x : Option (List PackageNv)). list_any (same_nv nv) (listed x)) (set_here (is_at (text_cmp nv.name)) (appended list nv) list lists e)
    ∙ appended_by list nv (list_any (same_nv nv) list) refl

-- a version that a requirement leads to is chosen
chosen_here : (p : PackageSpecifiers) (req : PackageReq) (nv : PackageNv) → list_any (same_nv nv) (versions_of (with_nv p req nv) nv.name) ≡ true
chosen_here p req nv = chosen_by p.versions_by_name nv (at_key text_cmp p.versions_by_name nv.name) refl

grown_any : (q : PackageNv) (old new : List PackageNv) (nv : PackageNv) → GrowsAtEnd old new nv → list_any (same_nv q) old ≡ true → list_any (same_nv q) new ≡ true
grown_any q old new nv (inl same) h = ap (list_any (same_nv q)) same ∙ h
grown_any q old new nv (inr more) h = ap (list_any (same_nv q)) more.1 ∙ any_left (same_nv q) old (nv ∷ []) h

-- and others stay so
chosen_stays : (p : PackageSpecifiers) (req : PackageReq) (nv q : PackageNv) → list_any (same_nv q) (versions_of p q.name) ≡ true → list_any (same_nv q) (versions_of (with_nv p req nv) q.name) ≡ true
chosen_stays p req nv q h = grown_any q (versions_of p q.name) (versions_of (with_nv p req nv) q.name) nv (grows p.versions_by_name nv q.name) h

-- ---- graphs

-- where packages are the same
pub same_packages : (g u : ModuleGraph) → u.packages ≡ g.packages → (nv : PackageNv) → HasPackage g nv → HasPackage u nv
same_packages g u same nv h = ap (λ (p : PackageSpecifiers). is_some (at_key nv_cmp p.packages nv)) same ∙ h

pub same_chosen : (g u : ModuleGraph) → u.packages ≡ g.packages → (nv : PackageNv) → IsChosen g nv → IsChosen u nv
same_chosen g u same nv h = ap (λ (p : PackageSpecifiers). list_any (same_nv nv) (versions_of p nv.name)) same ∙ h

module _ (g : ModuleGraph) (req : PackageReq) (nv : PackageNv) where
  pub choice_chosen : (yanked : Bool) → IsChosen (with_choice g req nv yanked) nv
  choice_chosen true = chosen_here (with_used_yanked_package g.packages nv) req nv
  choice_chosen false = chosen_here g.packages req nv

  pub choice_stays : (yanked : Bool) (q : PackageNv) → IsChosen g q → IsChosen (with_choice g req nv yanked) q
  choice_stays true q h = chosen_stays (with_used_yanked_package g.packages nv) req nv q h
  choice_stays false q h = chosen_stays g.packages req nv q h

  pub choice_has : (yanked : Bool) (q : PackageNv) → HasPackage g q → HasPackage (with_choice g req nv yanked) q
  choice_has true q h = h
  choice_has false q h = h

module _ (g : ModuleGraph) (nv : PackageNv) (e : Export) where
  pub used_has : (top : Bool) (q : PackageNv) → HasPackage g q → HasPackage (with_used g nv e top) q
  used_has true q h = record_stays (record_with_export e.name e.value) g.packages.packages nv q h
  used_has false q h = record_stays (record_with_export e.name e.value) g.packages.packages nv q h

  pub used_chosen : (top : Bool) (q : PackageNv) → IsChosen g q → IsChosen (with_used g nv e top) q
  used_chosen true q h = h
  used_chosen false q h = h

-- ---- notes

-- slots, redirects and chosen versions are the same, and packages that were known are known
pub record Noted (g u : ModuleGraph) : Type 0 where
  pub slots : u.slots ≡ g.slots
  pub redirects : u.redirects ≡ g.redirects
  pub has : (q : PackageNv) → HasPackage g q → HasPackage u q
  pub chosen : (q : PackageNv) → IsChosen g q → IsChosen u q

noted_by : (g : ModuleGraph) (note : Note) (o : Option PackageNv) → Noted g (by_option o g (λ nv. record g { packages = with_dependency g.packages nv note.dependency }))
noted_by g note None = record { slots = refl; redirects = refl; has = λ q h. h; chosen = λ q h. h }
noted_by g note (Some nv) = record {
  slots = refl;
  redirects = refl;
  has = λ q h. record_stays (record_with_dependency note.dependency) g.packages.packages nv q h;
  chosen = λ q h. h;
}

pub noted_all : (registry : RegistryMeaning) (g : ModuleGraph) (notes : List Note) → Noted g (fold (with_noted registry) g notes)
noted_all registry g [] = record { slots = refl; redirects = refl; has = λ q h. h; chosen = λ q h. h }
noted_all registry g (note ∷ notes) =
    let first = noted_by g note (registry.nv_of note.referrer) in
    let rest = noted_all registry (with_noted registry g note) notes in
    record {
      slots = rest.slots ∙ first.slots;
      redirects = rest.redirects ∙ first.redirects;
      has = λ q h. rest.has q (first.has q h);
      chosen = λ q h. rest.chosen q (first.chosen q h);
    }

-- what is known there
pub noted_known : (g u : ModuleGraph) → Noted g u → (k : List ℕ) → IsKnown g k → IsKnown u k
noted_known g u n k (inl h) = inl (ap (λ m. is_some (finite.get m k)) n.slots ∙ h)
noted_known g u n k (inr h) = inr (ap (λ m. is_some (finite.get m k)) n.redirects ∙ h)
