-- Lists of versions by name, seen as entries by text, and changes that are taken back.
use Rattle.std.proofs.Common.{◌≡◌, ℕ, Bool, true, false, List, [], ◌∷◌, ◌++◌, Option, cond, inl, inr, refl, sym, ap, subst, ◌∙◌}
use Rattle.std.specs.Prelude.{Some, None, is_some, string_bytes, if◌then◌else◌}
use Rattle.std.specs.List.{list_any}
use Rattle.std.specs.Cmp.{Equal-is, on_total, then_total, tied_itself}
use Rattle.std.specs.Cmp.Lexicographic.{nat_list_cmp_total}
use Rattle.std.specs.FinMap.{nat_cmp-IsAntisymmetric, slice_cmp-IsAntisymmetric}
use Rattle.std.specs.declared.string.String.{String}
use Rattle.std.specs.declared.cmp.Ordering.{Ordering}
use Rattle.std.specs.declared.cmp.Ordering.TheVariants.{Less, Equal, Greater}
use Rattle.std.specs.Ordering.{is_eq, match_ordering}
use Rattle.std.specs.String.{string_cmp}
use Rattle.std.specs.Map.{lookup, remove_entry, set_value}
use Rattle.std.specs.BTreeMap.{insert_entry, is_at}
use Rattle.semver_npm.specs.Orders.{req_cmp}
use Rattle.semver_npm.specs.declared.package.PackageReq.{PackageReq}
use Rattle.semver_npm.specs.declared.package.PackageNv.{PackageNv}
use Rattle.spec_base.specs.Options.{by_option}
use Rattle.spec_base.specs.Shown.{shown, text_cmp}
use Rattle.pkg_records.specs.Kept.{GrowsAtEnd, appended, same_nv, with_version}
use Rattle.version_dates.specs.Sets.{at_key}

-- ---- entries by text

-- a look-up by a text
pub lookup_shown : {V A : Type 0} (text : List ℕ) (es : List (String A × V)) → lookup (is_at (λ k. text_cmp text (string_bytes k))) es ≡ lookup (is_at (text_cmp text)) (shown es)
lookup_shown text [] = refl
lookup_shown text (e ∷ es) = ap (cond (is_at (text_cmp text) (string_bytes e.0)) (Some e.1)) (lookup_shown text es)

shown_choice : {V A : Type 0} (b : Bool) (xs ys : List (String A × V)) → shown (cond b xs ys) ≡ cond b (shown xs) (shown ys)
shown_choice true xs ys = refl
shown_choice false xs ys = refl

shown_order : {V A : Type 0} (o : Ordering) (xs ys zs : List (String A × V)) → shown (match_ordering o xs ys zs) ≡ match_ordering o (shown xs) (shown ys) (shown zs)
shown_order Less xs ys zs = refl
shown_order Equal xs ys zs = refl
shown_order Greater xs ys zs = refl

-- a value in place of another one
pub set_shown : {V A : Type 0} (text : List ℕ) (es : List (String A × V)) (v : V) → shown (set_value (is_at (λ k. text_cmp text (string_bytes k))) es v) ≡ set_value (is_at (text_cmp text)) (shown es) v
set_shown text [] v = refl
set_shown text (e ∷ es) v =
    shown_choice (is_at (text_cmp text) (string_bytes e.0)) ((e.0, v) ∷ es) (e ∷ set_value (is_at (λ k. text_cmp text (string_bytes k))) es v)
    ∙ ap (λ rest. cond (is_at (text_cmp text) (string_bytes e.0)) ((string_bytes e.0, v) ∷ shown es) ((string_bytes e.0, e.1) ∷ rest)) (set_shown text es v)

-- an insertion
pub insert_shown : {V A : Type 0} (es : List (String A × V)) (k : String A) (v : V) → shown (insert_entry string_cmp es k v) ≡ insert_entry text_cmp (shown es) (string_bytes k) v
insert_shown [] k v = refl
insert_shown (e ∷ es) k v =
    shown_order (string_cmp k e.0) ((k, v) ∷ e ∷ es) ((e.0, v) ∷ es) (e ∷ insert_entry string_cmp es k v)
    ∙ ap (λ rest. match_ordering (string_cmp k e.0) ((string_bytes k, v) ∷ shown (e ∷ es)) ((string_bytes e.0, v) ∷ shown es) ((string_bytes e.0, e.1) ∷ rest)) (insert_shown es k v)

-- ---- an insertion that is taken back

removed_step : {K X : Type 0} (cmp : K → K → Ordering) (k : K) (v : X) (e : K × X) (es : List (K × X)) (o : Ordering) → cmp k e.0 ≡ o → cmp k k ≡ Equal
    → cond (is_eq o) (Some e.1) (lookup (is_at (cmp k)) es) ≡ None
    → (lookup (is_at (cmp k)) es ≡ None → remove_entry (is_at (cmp k)) (insert_entry cmp es k v) ≡ es)
    → remove_entry (is_at (cmp k)) (match_ordering o ((k, v) ∷ e ∷ es) ((e.0, v) ∷ es) (e ∷ insert_entry cmp es k v)) ≡ e ∷ es
removed_step cmp k v e es Less h self absent later = rw self
removed_step cmp k v e es Equal h self absent later = cc absent
removed_step cmp k v e es Greater h self absent later = rw h (ap (λ l. e ∷ l) (later absent))

-- a new entry that is removed again
pub removed : {K X : Type 0} (cmp : K → K → Ordering) (k : K) (v : X) (es : List (K × X)) → cmp k k ≡ Equal → lookup (is_at (cmp k)) es ≡ None
    → remove_entry (is_at (cmp k)) (insert_entry cmp es k v) ≡ es
removed cmp k v [] self absent = rw self
removed cmp k v (e ∷ es) self absent = removed_step cmp k v e es (cmp k e.0) refl self absent (removed cmp k v es self)

-- ---- what a look-up finds after a change

same_text : (q k : List ℕ) → text_cmp q k ≡ Equal → q ≡ k
same_text = slice_cmp-IsAntisymmetric nat_cmp-IsAntisymmetric

tied_text : (k : List ℕ) → text_cmp k k ≡ Equal
tied_text k = tied_itself nat_list_cmp_total k

module _ {X : Type 0} where
  found_step : (k : List ℕ) (v : X) (e : List ℕ × X) (es : List (List ℕ × X)) (o : Ordering) → text_cmp k e.0 ≡ o
      → cond (is_eq o) (Some e.1) (lookup (is_at (text_cmp k)) es) ≡ None
      → (lookup (is_at (text_cmp k)) es ≡ None → lookup (is_at (text_cmp k)) (insert_entry text_cmp es k v) ≡ Some v)
      → lookup (is_at (text_cmp k)) (match_ordering o ((k, v) ∷ e ∷ es) ((e.0, v) ∷ es) (e ∷ insert_entry text_cmp es k v)) ≡ Some v
  found_step k v e es Less h absent later = rw (tied_text k)
  found_step k v e es Equal h absent later = cc absent
  found_step k v e es Greater h absent later = rw h (later absent)

  -- a new entry is found
  found_new : (k : List ℕ) (v : X) (es : List (List ℕ × X)) → lookup (is_at (text_cmp k)) es ≡ None → lookup (is_at (text_cmp k)) (insert_entry text_cmp es k v) ≡ Some v
  found_new k v [] absent = rw (tied_text k)
  found_new k v (e ∷ es) absent = found_step k v e es (text_cmp k e.0) refl absent (found_new k v es)

  other_step : (q k : List ℕ) (v : X) (e : List ℕ × X) (es : List (List ℕ × X)) (o : Ordering) → text_cmp k e.0 ≡ o → is_at (text_cmp q) k ≡ false
      → lookup (is_at (text_cmp q)) (insert_entry text_cmp es k v) ≡ lookup (is_at (text_cmp q)) es
      → lookup (is_at (text_cmp q)) (match_ordering o ((k, v) ∷ e ∷ es) ((e.0, v) ∷ es) (e ∷ insert_entry text_cmp es k v)) ≡ lookup (is_at (text_cmp q)) (e ∷ es)
  other_step q k v e es Less h other later = rw other
  other_step q k v e es Equal h other later =
      let at_e : is_at (text_cmp q) e.0 ≡ false = ap (is_at (text_cmp q)) (sym (same_text k e.0 h)) ∙ other in
      rw at_e
  other_step q k v e es Greater h other later = ap (cond (is_at (text_cmp q) e.0) (Some e.1)) later

  -- another key is found as before
  found_other : (q k : List ℕ) (v : X) (es : List (List ℕ × X)) → is_at (text_cmp q) k ≡ false → lookup (is_at (text_cmp q)) (insert_entry text_cmp es k v) ≡ lookup (is_at (text_cmp q)) es
  found_other q k v [] other = rw other
  found_other q k v (e ∷ es) other = other_step q k v e es (text_cmp k e.0) refl other (found_other q k v es other)

  set_step : (k : List ℕ) (v w : X) (e : List ℕ × X) (es : List (List ℕ × X)) (b : Bool) → is_at (text_cmp k) e.0 ≡ b → cond b (Some e.1) (lookup (is_at (text_cmp k)) es) ≡ Some v
      → (lookup (is_at (text_cmp k)) es ≡ Some v → lookup (is_at (text_cmp k)) (set_value (is_at (text_cmp k)) es w) ≡ Some w)
      → lookup (is_at (text_cmp k)) (cond b ((e.0, w) ∷ es) (e ∷ set_value (is_at (text_cmp k)) es w)) ≡ Some w
  set_step k v w e es true h there later = rw h
  set_step k v w e es false h there later = rw h (later there)

  -- a changed entry is found
  found_set : (k : List ℕ) (v w : X) (es : List (List ℕ × X)) → lookup (is_at (text_cmp k)) es ≡ Some v → lookup (is_at (text_cmp k)) (set_value (is_at (text_cmp k)) es w) ≡ Some w
  found_set k v w [] there = cc there
  found_set k v w (e ∷ es) there = set_step k v w e es (is_at (text_cmp k) e.0) refl there (found_set k v w es)

  set_other_step : (q k : List ℕ) (w : X) (e : List ℕ × X) (es : List (List ℕ × X)) (b : Bool) → is_at (text_cmp k) e.0 ≡ b → is_at (text_cmp q) k ≡ false
      → lookup (is_at (text_cmp q)) (set_value (is_at (text_cmp k)) es w) ≡ lookup (is_at (text_cmp q)) es
      → lookup (is_at (text_cmp q)) (cond b ((e.0, w) ∷ es) (e ∷ set_value (is_at (text_cmp k)) es w)) ≡ lookup (is_at (text_cmp q)) (e ∷ es)
  set_other_step q k w e es true h other later =
      let at_e : is_at (text_cmp q) e.0 ≡ false = ap (is_at (text_cmp q)) (sym (same_text k e.0 ((Equal-is (text_cmp k e.0)).0 h))) ∙ other in
      rw at_e
  set_other_step q k w e es false h other later = ap (cond (is_at (text_cmp q) e.0) (Some e.1)) later

  found_set_other : (q k : List ℕ) (w : X) (es : List (List ℕ × X)) → is_at (text_cmp q) k ≡ false → lookup (is_at (text_cmp q)) (set_value (is_at (text_cmp k)) es w) ≡ lookup (is_at (text_cmp q)) es
  found_set_other q k w [] other = refl
  found_set_other q k w (e ∷ es) other = set_other_step q k w e es (is_at (text_cmp k) e.0) refl other (found_set_other q k w es other)

-- ---- growth

-- the versions in a look-up
abbrev pub listed : Option (List PackageNv) → List PackageNv
listed found = by_option found [] (λ list. list)

grown_by : (b : Bool) (list : List PackageNv) (nv : PackageNv) → list_any (same_nv nv) list ≡ b → GrowsAtEnd list (if b then list else list ++ nv ∷ []) nv
grown_by true list nv h = inl refl
grown_by false list nv h = inr (h, refl)

grows_here : (lists : List (List ℕ × List PackageNv)) (nv : PackageNv) (o : Option (List PackageNv)) → at_key text_cmp lists nv.name ≡ o
    → GrowsAtEnd (listed o) (listed (at_key text_cmp (by_option o (insert_entry text_cmp lists nv.name (nv ∷ [])) (λ list. set_value (is_at (text_cmp nv.name)) lists (appended list nv))) nv.name)) nv
grows_here lists nv None h = rw (found_new nv.name (nv ∷ []) lists h) (inr (refl, refl))
grows_here lists nv (Some list) h = rw (found_set nv.name list (appended list nv) lists h) (grown_by (list_any (same_nv nv) list) list nv refl)

same_there : (lists : List (List ℕ × List PackageNv)) (nv : PackageNv) (q : List ℕ) (o : Option (List PackageNv)) → is_at (text_cmp q) nv.name ≡ false
    → at_key text_cmp (by_option o (insert_entry text_cmp lists nv.name (nv ∷ [])) (λ list. set_value (is_at (text_cmp nv.name)) lists (appended list nv))) q ≡ at_key text_cmp lists q
same_there lists nv q None other = found_other q nv.name (nv ∷ []) lists other
same_there lists nv q (Some list) other = found_set_other q nv.name (appended list nv) lists other

grows_by : (lists : List (List ℕ × List PackageNv)) (nv : PackageNv) (q : List ℕ) (b : Bool) → is_at (text_cmp q) nv.name ≡ b
    → GrowsAtEnd (listed (at_key text_cmp lists q)) (listed (at_key text_cmp (with_version lists nv) q)) nv
grows_by lists nv q true h =
    subst (λ name. GrowsAtEnd (listed (at_key text_cmp lists name)) (listed (at_key text_cmp (with_version lists nv) name)) nv)
    (sym (same_text q nv.name ((Equal-is (text_cmp q nv.name)).0 h)))
    (grows_here lists nv (at_key text_cmp lists nv.name) refl)
grows_by lists nv q false h = inl (ap listed (same_there lists nv q (at_key text_cmp lists nv.name) h))

-- with a version, each name's list stays or grows at its end
pub grows : (lists : List (List ℕ × List PackageNv)) (nv : PackageNv) (q : List ℕ) → GrowsAtEnd (listed (at_key text_cmp lists q)) (listed (at_key text_cmp (with_version lists nv) q)) nv
grows lists nv q = grows_by lists nv q (is_at (text_cmp q) nv.name) refl

-- what a version does to the lists, where its name has one and where it has none
pub with_there : (lists : List (List ℕ × List PackageNv)) (nv : PackageNv) (list : List PackageNv) → at_key text_cmp lists nv.name ≡ Some list
    → with_version lists nv ≡ set_value (is_at (text_cmp nv.name)) lists (appended list nv)
with_there lists nv list h = rw h

pub with_new : (lists : List (List ℕ × List PackageNv)) (nv : PackageNv) → at_key text_cmp lists nv.name ≡ None
    → with_version lists nv ≡ insert_entry text_cmp lists nv.name (nv ∷ [])
with_new lists nv h = rw h

-- requirements tie with themselves
pub tied_req : (r : PackageReq) → req_cmp r r ≡ Equal
tied_req r = tied_itself (then_total (on_total (λ (r : PackageReq). r.name) nat_list_cmp_total) (on_total (λ (r : PackageReq). r.version_req) nat_list_cmp_total)) r

pub none_there : {A : Type 0} (o : Option A) → is_some o ≡ false → o ≡ None
none_there None h = refl
none_there (Some x) h = cc h
