-- The entries of one referrer, found by their links.
use Rattle.std.proofs.Common.{◌≡◌, ◌≤◌, ◌<◌, ℕ, ◌+◌, ◌-◌, Bool, true, false, cond, List, [], ◌∷◌, ◌++◌, length, Option, None, Some, refl, sym, ap, ◌∙◌, subst, arith, append_assoc, length-append}
use Rattle.std.specs.Prelude.{◌&&◌, bytes_eq, slice_get}
use Rattle.std.proofs.lemmas.Option.{slice_get-get_or}
use Rattle.std.proofs.Math.Seq.{get_or-append_seam}
use Rattle.std.proofs.lemmas.Map.Text.{is_eq-slice_cmp}
use Rattle.std.specs.Cmp.Lexicographic.{nat_list_cmp_total, nat_list_eq_equiv, bytes_decides}
use Rattle.std.specs.FinMap as finite
use Rattle.std.specs.FinMap.{FinMap, get-insert, get-empty}
use Rattle.url.specs.Parts.{Parts, serialize}
use Rattle.spec_base.specs.Shown.{text_cmp}
use Rattle.spec_base.specs.Specifier.{same_specifier, specifier_text}
use Rattle.spec_base.specs.Places.{IsIndex}
use Rattle.spec_base.specs.declared.position.ResolutionKind.{ResolutionKind}
use Rattle.source_io.specs.declared.types.WorldResolution.{WorldResolution}
use Rattle.spec_base.specs.Options.{same_text, by_option}
use Rattle.source_io.specs.Resolvers.{resolves, same_kind, listed_result}
use Rattle.source_io.specs.Places.{is_from, later, links_from}

abbrev pub Entries : Type 0
Entries = List WorldResolution

-- ---- the index as it is made, from the last entry to the first

pub record Indexed (all left : Entries) (heads : FinMap text_cmp ℕ) (links : List (Option ℕ)) : Type 0 where
  pub done : Entries
  pub whole : all ≡ left ++ done
  pub leads : (s : Parts) → finite.get heads (specifier_text s) ≡ later (length left) done s
  pub linked : links ≡ links_from (length left) done

append-none : (xs : Entries) → xs ≡ xs ++ []
append-none [] = refl
append-none (x ∷ xs) = ap (λ l. x ∷ l) (append-none xs)

pub index_start : (all : Entries) → Indexed all all finite.empty []
index_start all = record { done = []; whole = append-none all; leads = λ s. get-empty _ _; linked = refl }

put_head : (m : FinMap text_cmp ℕ) (r s : Parts) (i : ℕ) → finite.get (finite.insert m (specifier_text r) i) (specifier_text s) ≡ cond (same_specifier r s) (Some i) (finite.get m (specifier_text s))
unfolding specifier_text
put_head m r s i =
    get-insert nat_list_cmp_total m (serialize r) i (serialize s)
    ∙ ap (λ b. cond b (Some i) (finite.get m (serialize s))) (is_eq-slice_cmp (serialize s) (serialize r) ∙ nat_list_eq_equiv.symm (serialize s) (serialize r))

pub index_more : (all left others : Entries) (e : WorldResolution) (heads : FinMap text_cmp ℕ) (links : List (Option ℕ)) → Indexed all left heads links → left ≡ others ++ e ∷ []
    → Indexed all others (finite.insert heads (specifier_text e.referrer) (length others)) (finite.get heads (specifier_text e.referrer) ∷ links)
index_more all left others e heads links old split =
    let n : length left ≡ length others + 1 = ap length split ∙ length-append others (e ∷ []) in
    record {
      done = e ∷ old.done;
      whole = old.whole ∙ ap (λ l. l ++ old.done) split ∙ append_assoc others (e ∷ []) old.done;
      leads = λ s. put_head heads e.referrer s (length others) ∙ ap (cond (same_specifier e.referrer s) (Some (length others))) (old.leads s ∙ ap (λ k. later k old.done s) n);
      linked = λ i. (old.leads e.referrer ∙ ap (λ k. later k old.done e.referrer) n) i ∷ (old.linked ∙ ap (λ k. links_from k old.done) n) i;
    }

-- one more entry, as the code comes to it
pub index_step : (all left others : Entries) (e : WorldResolution) (heads now : FinMap text_cmp ℕ) (links more : List (Option ℕ)) (r : Parts) (n : ℕ) (o : Option ℕ)
    → Indexed all left heads links → left ≡ others ++ e ∷ [] → r ≡ e.referrer → n ≡ length others → o ≡ finite.get heads (specifier_text e.referrer) → now ≡ finite.insert heads (specifier_text r) n → more ≡ o ∷ links
    → Indexed all others now more
index_step all left others e heads now links more r n o old split own count link put push =
    subst (λ h. Indexed all others h more) (sym (put ∙ (λ i. finite.insert heads (specifier_text (own i)) (count i))))
    (subst (λ l. Indexed all others (finite.insert heads (specifier_text e.referrer) (length others)) l) (sym (push ∙ ap (λ x. x ∷ links) link))
    (index_more all left others e heads links old split))

pub index_heads : (all left : Entries) (heads : FinMap text_cmp ℕ) (links : List (Option ℕ)) → Indexed all left heads links → length left ≡ 0 → IsIndex is_from all heads
index_heads all [] heads links old none = record { leads = λ s. old.leads s ∙ ap (λ es. later 0 es s) (sym old.whole) }
index_heads all (x ∷ xs) heads links old none = absurd (omega arith)

pub index_links : (all left : Entries) (heads : FinMap text_cmp ℕ) (links : List (Option ℕ)) → Indexed all left heads links → length left ≡ 0 → links ≡ links_from 0 all
index_links all [] heads links old none = old.linked ∙ ap (links_from 0) (sym old.whole)
index_links all (x ∷ xs) heads links old none = absurd (omega arith)

-- ---- a search along the links

module _ (all : Entries) (text : List ℕ) (s : Parts) (kind : ResolutionKind) (attribute : Option (List ℕ)) where
  -- the entries behind a front decide, and the first of the referrer among them stands at the place
  pub record Sought (at : Option ℕ) : Type 0 where
    pub front : Entries
    pub left : Entries
    pub whole : all ≡ front ++ left
    pub place : at ≡ later (length front) left s
    pub decides : listed_result all text s kind attribute ≡ listed_result left text s kind attribute

  -- the entry at a place is the referrer's, and it and those behind it decide
  pub record Met (p : ℕ) : Type 0 where
    pub front : Entries
    pub entry : WorldResolution
    pub rest : Entries
    pub whole : all ≡ front ++ entry ∷ rest
    pub place : p ≡ length front
    pub own : same_specifier entry.referrer s ≡ true
    pub decides : listed_result all text s kind attribute ≡ listed_result (entry ∷ rest) text s kind attribute

  pub sought_first : (heads : FinMap text_cmp ℕ) → IsIndex is_from all heads → Sought (finite.get heads (specifier_text s))
  sought_first heads index = record { front = []; left = all; whole = refl; place = index.leads s; decides = refl }

  passed : (e : WorldResolution) (es : Entries) → is_from e s ≡ false → listed_result (e ∷ es) text s kind attribute ≡ listed_result es text s kind attribute
  unfolding listed_result
  passed e es f = ap (λ b. cond (b && (bytes_eq e.text text && (same_kind e.kind kind && same_text e.attribute attribute))) (Some e.result) (listed_result es text s kind attribute)) f

  one_place : (p q : ℕ) → Some p ≡ Some q → p ≡ q
  one_place p q e = cc

  met_by : (b : Bool) (p : ℕ) (front : Entries) (e : WorldResolution) (es : Entries) → is_from e s ≡ b → all ≡ front ++ e ∷ es → Some p ≡ later (length front) (e ∷ es) s → listed_result all text s kind attribute ≡ listed_result (e ∷ es) text s kind attribute → (is_from e s ≡ false → Met p) → Met p
  met_by true p front e es t whole at decides more =
      record { front = front; entry = e; rest = es; whole = whole; place = one_place p (length front) (at ∙ ap (λ b. cond b (Some (length front)) (later (length front + 1) es s)) t); own = t; decides = decides }
  met_by false p front e es f whole at decides more = more f

  met_in : (p : ℕ) (front left : Entries) → all ≡ front ++ left → Some p ≡ later (length front) left s → listed_result all text s kind attribute ≡ listed_result left text s kind attribute → Met p
  met_in p front [] whole at decides = absurd cc
  met_in p front (e ∷ es) whole at decides =
      met_by (is_from e s) p front e es refl whole at decides (λ f. met_in p (front ++ e ∷ []) es (whole ∙ sym (append_assoc front (e ∷ []) es))
      (at ∙ ap (λ b. cond b (Some (length front)) (later (length front + 1) es s)) f ∙ ap (λ n. later n es s) (sym (length-append front (e ∷ []))))
      (decides ∙ passed e es f))

  pub met : (p : ℕ) (at : Option ℕ) → Sought at → at ≡ Some p → Met p
  met p at so is = met_in p so.front so.left so.whole (sym is ∙ so.place) so.decides

  none_by : (b : Bool) (i : ℕ) (e : WorldResolution) (es : Entries) → is_from e s ≡ b → None ≡ later i (e ∷ es) s → (is_from e s ≡ false → listed_result (e ∷ es) text s kind attribute ≡ None) → listed_result (e ∷ es) text s kind attribute ≡ None
  none_by true i e es t at more = absurd (let no : None ≡ Some i = at ∙ ap (λ b. cond b (Some i) (later (i + 1) es s)) t in cc)
  none_by false i e es f at more = more f

  none_in : (i : ℕ) (es : Entries) → None ≡ later i es s → listed_result es text s kind attribute ≡ None
  unfolding listed_result
  none_in i [] at = refl
  none_in i (e ∷ es) at =
      none_by (is_from e s) i e es refl at (λ f. passed e es f ∙ none_in (i + 1) es (at ∙ ap (λ b. cond b (Some i) (later (i + 1) es s)) f))

  -- where no place is left, nothing is listed
  pub none_listed : (at : Option ℕ) → Sought at → at ≡ None → listed_result all text s kind attribute ≡ None
  none_listed at so is = so.decides ∙ none_in (length so.front) so.left (sym is ∙ so.place)

  pub met_within : (p : ℕ) → Met p → p < length all
  met_within p m = let n = ap length m.whole ∙ length-append m.front (m.entry ∷ m.rest) in omega (arith, n, m.place)

-- the entry behind a front, and the link from there
pub seam : (front : Entries) (x : WorldResolution) (xs : Entries) → slice_get (front ++ x ∷ xs) (length front) ≡ Some x
seam front x xs = slice_get-get_or (front ++ x ∷ xs) (length front) x (omega (arith, length-append front (x ∷ xs))) ∙ ap Some (get_or-append_seam front x xs x)

links_along : (i : ℕ) (front : Entries) (e : WorldResolution) (rest : Entries) → (ls : List (Option ℕ)) × (links_from i (front ++ e ∷ rest) ≡ ls ++ links_from (i + length front) (e ∷ rest)) × (length ls ≡ length front)
links_along i [] e rest = ([], ap (λ n. links_from n (e ∷ rest)) (omega arith), refl)
links_along i (x ∷ front) e rest =
    let more = links_along (i + 1) front e rest in
    let n : i + 1 + length front ≡ i + length (x ∷ front) = omega arith in
    let l : length (later (i + 1) (front ++ e ∷ rest) x.referrer ∷ more.0) ≡ length (x ∷ front) = omega (arith, more.2) in
    (later (i + 1) (front ++ e ∷ rest) x.referrer ∷ more.0, ap (λ ls. later (i + 1) (front ++ e ∷ rest) x.referrer ∷ ls) (more.1 ∙ ap (λ k. more.0 ++ links_from k (e ∷ rest)) n), l)

-- the link from the entry behind a front
pub link_seam : (front : Entries) (e : WorldResolution) (rest : Entries) → slice_get (links_from 0 (front ++ e ∷ rest)) (length front) ≡ Some (later (length front + 1) rest e.referrer)
link_seam front e rest =
    let m = links_along 0 front e rest in
    let first = later (0 + length front + 1) rest e.referrer in
    let n : 0 + length front + 1 ≡ length front + 1 = omega arith in
    ap (λ ls. slice_get ls (length front)) m.1 ∙ ap (slice_get (m.0 ++ first ∷ links_from (0 + length front + 1) rest)) (sym m.2)
    ∙ slice_get-get_or (m.0 ++ first ∷ links_from (0 + length front + 1) rest) (length m.0) first (omega (arith, length-append m.0 (first ∷ links_from (0 + length front + 1) rest)))
    ∙ ap Some (get_or-append_seam m.0 first (links_from (0 + length front + 1) rest) first ∙ ap (λ k. later k rest e.referrer) n)

same_referrer : (a s : Parts) (i : ℕ) (es : Entries) → same_specifier a s ≡ true → later i es a ≡ later i es s
same_referrer a s i [] own = refl
same_referrer a s i (e ∷ es) own =
    ap (λ l. cond (bytes_eq (serialize e.referrer) l) (Some i) (later (i + 1) es a)) ((bytes_decides (serialize a) (serialize s)).0 own)
    ∙ ap (cond (same_specifier e.referrer s) (Some i)) (same_referrer a s (i + 1) es own)

later_by : (b : Bool) (i p : ℕ) (e : WorldResolution) (es : Entries) (s : Parts) → is_from e s ≡ b → Some p ≡ later i (e ∷ es) s → (Some p ≡ later (i + 1) es s → i + 1 ≤ p) → i ≤ p
later_by true i p e es s t at more =
    let same : Some p ≡ Some i = at ∙ ap (λ b. cond b (Some i) (later (i + 1) es s)) t in
    let n : p ≡ i = cc in omega (arith, n)
later_by false i p e es s f at more =
    let n = more (at ∙ ap (λ b. cond b (Some i) (later (i + 1) es s)) f) in omega (arith, n)

later_from : (i p : ℕ) (es : Entries) (s : Parts) → Some p ≡ later i es s → i ≤ p
later_from i p [] s at = absurd cc
later_from i p (e ∷ es) s at = later_by (is_from e s) i p e es s refl at (later_from (i + 1) p es s)

module _ (all : Entries) (text : List ℕ) (s : Parts) (kind : ResolutionKind) (attribute : Option (List ℕ)) where
  -- the entry at the place
  pub entry_met : (p : ℕ) (m : Met all text s kind attribute p) → slice_get all p ≡ Some m.entry
  entry_met p m = ap (λ es. slice_get es p) m.whole ∙ ap (slice_get (m.front ++ m.entry ∷ m.rest)) m.place ∙ seam m.front m.entry m.rest

  pub link_met : (links : List (Option ℕ)) (p : ℕ) (m : Met all text s kind attribute p) → links ≡ links_from 0 all → slice_get links p ≡ Some (later (p + 1) m.rest s)
  link_met links p m linked =
      ap (λ ls. slice_get ls p) (linked ∙ ap (links_from 0) m.whole) ∙ ap (slice_get (links_from 0 (m.front ++ m.entry ∷ m.rest))) m.place
      ∙ link_seam m.front m.entry m.rest ∙ ap Some (same_referrer m.entry.referrer s (length m.front + 1) m.rest m.own ∙ ap (λ k. later (k + 1) m.rest s) (sym m.place))

  resolved_met : (p : ℕ) (m : Met all text s kind attribute p) (b : Bool) → resolves text s kind attribute m.entry ≡ b → listed_result all text s kind attribute ≡ cond b (Some m.entry.result) (listed_result m.rest text s kind attribute)
  unfolding listed_result
  resolved_met p m b is = m.decides ∙ ap (λ b. cond b (Some m.entry.result) (listed_result m.rest text s kind attribute)) is

  -- the entry at the place is listed
  pub found_met : (p : ℕ) (m : Met all text s kind attribute p) → resolves text s kind attribute m.entry ≡ true → Some m.entry.result ≡ listed_result all text s kind attribute
  found_met p m is = sym (resolved_met p m true is)

  -- it isn't: the search goes on at its link
  pub sought_on : (p : ℕ) (m : Met all text s kind attribute p) (next : Option ℕ) → resolves text s kind attribute m.entry ≡ false → next ≡ later (p + 1) m.rest s → Sought all text s kind attribute next
  sought_on p m next is link =
      let n : p + 1 ≡ length (m.front ++ m.entry ∷ []) = omega (arith, m.place, length-append m.front (m.entry ∷ [])) in
      record {
        front = m.front ++ m.entry ∷ [];
        left = m.rest;
        whole = m.whole ∙ sym (append_assoc m.front (m.entry ∷ []) m.rest);
        place = link ∙ ap (λ k. later k m.rest s) n;
        decides = resolved_met p m false is;
      }

  -- the places rise
  pub rises_met : (p q : ℕ) (m : Met all text s kind attribute p) → Some q ≡ later (p + 1) m.rest s → p + 1 ≤ q
  rises_met p q m at = later_from (p + 1) q m.rest s at

  smaller_by : (next : Option ℕ) (p : ℕ) (m : Met all text s kind attribute p) → next ≡ later (p + 1) m.rest s → p < length all → by_option next 0 (λ q. length all - q) < length all - p
  smaller_by None p m link within = omega (arith, within)
  smaller_by (Some q) p m link within = let n = rises_met p q m link in omega (arith, within, n)

  -- so fewer entries are left
  pub smaller_met : (at next : Option ℕ) (p : ℕ) (m : Met all text s kind attribute p) → at ≡ Some p → next ≡ later (p + 1) m.rest s → p < length all
      → by_option next 0 (λ q. length all - q) < by_option at 0 (λ q. length all - q)
  smaller_met at next p m is link within = subst (λ o. by_option next 0 (λ q. length all - q) < by_option o 0 (λ q. length all - q)) (sym is) (smaller_by next p m link within)

pub one_entry : (o : Option WorldResolution) (e m : WorldResolution) → o ≡ Some e → o ≡ Some m → e ≡ m
one_entry o e m a b = cc

pub no_entry : {A : Type 0} (o : Option WorldResolution) (m : WorldResolution) → o ≡ None → o ≡ Some m → A
no_entry o m a b = absurd (let no : None ≡ Some m = sym a ∙ b in cc)
