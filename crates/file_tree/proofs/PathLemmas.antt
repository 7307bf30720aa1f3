-- Paths, their directories and the names in them.
use Rattle.std.proofs.Common.{◌≡◌, ◌≢◌, ℕ, suc, ◌+◌, ◌<◌, get_or, Bor, MatchOption, option_copied, arith, Bool, true, false, cond, eqb, List, [], ◌∷◌, ◌++◌, Option, Some, None, ◌⊎◌, length, drop, refl, sym, ap, ◌∙◌, subst, inl, inr, ⊎_elim, map, filter_map, unwrap_or}
use Rattle.std.specs.Prelude.{is_some, nat_eq}
use Rattle.std.specs.List.{starts_with, list_any, cons_option, onto_first}
use Rattle.std.proofs.lemmas.Bool.{ne_eqb, eqb-true, false≢true, true≢false, or_parts}
use Rattle.std.proofs.lemmas.Bool.Decides.{Decides-eqb}
use Rattle.std.proofs.lemmas.List.{append_assoc, length-append}
use Rattle.std.proofs.lemmas.List.Prefix.{front_rest}
use Rattle.std.proofs.lemmas.List.Splits.{slice_split-cons_no}
use Rattle.std.proofs.lemmas.Slice.Eq.{starts_is}
use Rattle.spec_base.specs.Options.{by_option, then_by}
use Rattle.file_tree.specs.Tree.{ascending, below, names, leading, name_towards, is_directory, names_in, entry_of, entries_of}
use Rattle.file_tree.specs.Walk.{has_path}
use Rattle.file_tree.proofs.TextSets.{any_from, any_gives, any_map}

-- ---- options

some_choice : (b : Bool) (x y : List ℕ) → cond b (Some x) None ≡ Some y → (b ≡ true) × (x ≡ y)
some_choice true x y e = (refl, cc)
some_choice false x y e = cc

none_choice : (b : Bool) (x y : List ℕ) → cond b None (Some x) ≡ Some y → (b ≡ false) × (x ≡ y)
none_choice true x y e = cc
none_choice false x y e = (refl, cc)

pub then_some : (o : Option (List ℕ)) (f : List ℕ → Option (List ℕ)) (y : List ℕ) → then_by o f ≡ Some y → (x : List ℕ) × (o ≡ Some x) × (f x ≡ Some y)
then_some None f y e = cc
then_some (Some x) f y e = (x, refl, e)

pub is_some_gives : (o : Option (List ℕ)) → is_some o ≡ true → (x : List ℕ) × (o ≡ Some x)
is_some_gives None e = absurd (false≢true e)
is_some_gives (Some x) e = (x, refl)

none_is : (o : Option (List ℕ)) → is_some o ≡ false → o ≡ None
none_is None e = refl
none_is (Some x) e = absurd (true≢false e)

pub option_true : (o : Option (List ℕ)) (f : List ℕ → Bool) → by_option o false f ≡ true → (x : List ℕ) × (o ≡ Some x) × (f x ≡ true)
option_true None f e = absurd (false≢true e)
option_true (Some x) f e = (x, refl, e)

-- ---- what stands below a directory

front_is : (d part : List ℕ) → (d ++ 47 ∷ []) ++ part ≡ d ++ 47 ∷ part
front_is d part = append_assoc d (47 ∷ []) part

front_length : (d : List ℕ) → length (d ++ 47 ∷ []) ≡ length d + 1
front_length d = length-append d (47 ∷ [])

pub below_is : (d p part : List ℕ) → below d p ≡ Some part → p ≡ d ++ 47 ∷ part
unfolding below
below_is d p part e =
    let r = some_choice (starts_with nat_eq p (d ++ 47 ∷ [])) (drop (length d + 1) p) part e in
    let s = starts_is Decides-eqb p (d ++ 47 ∷ []) (starts_with nat_eq p (d ++ 47 ∷ [])) refl in
    s.0 r.0 ∙ front_is d (drop (length (d ++ 47 ∷ [])) p) ∙ ap (λ n. d ++ 47 ∷ drop n p) (front_length d) ∙ ap (λ l. d ++ 47 ∷ l) r.1

pub below_at : (d p part : List ℕ) → p ≡ d ++ 47 ∷ part → below d p ≡ Some part
unfolding below
below_at d p part e =
    let s = starts_is Decides-eqb p (d ++ 47 ∷ []) (starts_with nat_eq p (d ++ 47 ∷ [])) refl in
    let whole : p ≡ (d ++ 47 ∷ []) ++ part = e ∙ sym (front_is d part) in
    let begins : starts_with nat_eq p (d ++ 47 ∷ []) ≡ true = s.1 part whole in
    let rest : drop (length d + 1) p ≡ part =
    ap (λ n. drop n p) (sym (front_length d)) ∙ front_rest p (d ++ 47 ∷ []) part whole
    in
    ap (λ b. cond b (Some (drop (length d + 1) p)) None) begins ∙ ap Some rest

pub below_none : (d p : List ℕ) → ((part : List ℕ) → p ≢ d ++ 47 ∷ part) → below d p ≡ None
below_none d p not_under = by (below d p) refl
  where
    by : (o : Option (List ℕ)) → below d p ≡ o → below d p ≡ None
    by None e = e
    by (Some part) e = absurd (not_under part (below_is d p part e))

-- ---- the names in a path

-- a name holds no slash
pub IsName : List ℕ → Type 0
IsName [] = Unit {0}
IsName (b ∷ bs) = (eqb b 47 ≡ false) × IsName bs

pub names_one : (n : List ℕ) → IsName n → names n ≡ n ∷ []
unfolding IsName
names_one [] h = refl
names_one (b ∷ bs) h = slice_split-cons_no (λ x. eqb x 47) b bs h.0 ∙ ap (onto_first b) (names_one bs h.1)

pub names_then : (n r : List ℕ) → IsName n → names (n ++ 47 ∷ r) ≡ n ∷ names r
unfolding IsName
names_then [] r h = refl
names_then (b ∷ bs) r h =
    slice_split-cons_no (λ x. eqb x 47) b (bs ++ 47 ∷ r) h.0 ∙ ap (onto_first b) (names_then bs r h.1)

-- a part is one name, or a name, a slash and another part
pub split_cases : (part : List ℕ) → IsName part ⊎ ((n : List ℕ) × (r : List ℕ) × IsName n × (part ≡ n ++ 47 ∷ r))
unfolding IsName
split_cases [] = inl tt
split_cases (b ∷ bs) = by (eqb b 47) refl (split_cases bs)
  where
    by : (t : Bool) → eqb b 47 ≡ t → IsName bs ⊎ ((n : List ℕ) × (r : List ℕ) × IsName n × (bs ≡ n ++ 47 ∷ r)) → IsName (b ∷ bs) ⊎ ((n : List ℕ) × (r : List ℕ) × IsName n × (b ∷ bs ≡ n ++ 47 ∷ r))
    by true e s = inr ([], bs, tt, ap (λ x. x ∷ bs) (eqb-true b 47 e))
    by false e (inl h) = inl (e, h)
    by false e (inr s) = inr (b ∷ s.0, s.1, (e, s.2), ap (λ l. b ∷ l) s.3)

pub names_cons : (r : List ℕ) → (m : List ℕ) × (ms : List (List ℕ)) × (names r ≡ m ∷ ms)
names_cons r =
    ⊎_elim (λ h. (r, [], names_one r h)) (λ s. (s.0, names s.1, ap names s.3 ∙ names_then s.0 s.1 s.2)) (split_cases r)

-- a part is the name, or begins with it and a slash
abbrev pub Begins : List ℕ → List ℕ → Type 0
Begins n part = (part ≡ n) ⊎ ((r : List ℕ) × (part ≡ n ++ 47 ∷ r))

pub leading_is : (part n : List ℕ) → leading (names part) ≡ Some n → IsName n × (eqb (length n) 0 ≡ false) × Begins n part
leading_is part n e = ⊎_elim one more (split_cases part)
  where
    one : IsName part → IsName n × (eqb (length n) 0 ≡ false) × Begins n part
    one h =
        let r = none_choice (eqb (length part) 0) part n (sym (ap leading (names_one part h)) ∙ e) in
        (subst IsName r.1 h, ap (λ l. eqb (length l) 0) (sym r.1) ∙ r.0, inl r.1)

    more : ((m : List ℕ) × (r : List ℕ) × IsName m × (part ≡ m ++ 47 ∷ r)) → IsName n × (eqb (length n) 0 ≡ false) × Begins n part
    more s =
        let r = none_choice (eqb (length s.0) 0) s.0 n (sym (ap (λ l. leading (names l)) s.3 ∙ ap leading (names_then s.0 s.1 s.2)) ∙ e) in
        (subst IsName r.1 s.2, ap (λ l. eqb (length l) 0) (sym r.1) ∙ r.0, inr (s.1, s.3 ∙ ap (λ l. l ++ 47 ∷ s.1) r.1))

pub leading_at : (part n : List ℕ) → IsName n → eqb (length n) 0 ≡ false → Begins n part → leading (names part) ≡ Some n
leading_at part n h nonempty begins = ⊎_elim one more begins
  where
    one : part ≡ n → leading (names part) ≡ Some n
    one e =
        ap (λ l. leading (names l)) e ∙ ap leading (names_one n h) ∙ ap (λ b. cond b None (Some n)) nonempty

    more : ((r : List ℕ) × (part ≡ n ++ 47 ∷ r)) → leading (names part) ≡ Some n
    more s =
        ap (λ l. leading (names l)) s.1 ∙ ap leading (names_then n s.0 h) ∙ ap (λ b. cond b None (Some n)) nonempty

-- ---- directories

pub directory_from : (paths : List (List ℕ)) (s q r : List ℕ) → has_path paths q ≡ true → below s q ≡ Some r → is_directory paths s ≡ true
unfolding is_directory
directory_from paths s q r has e = any_from (λ path. is_some (below s path)) q paths has (ap is_some e)

pub directory_gives : (paths : List (List ℕ)) (s : List ℕ) → is_directory paths s ≡ true → (q : List ℕ) × (r : List ℕ) × (has_path paths q ≡ true) × (below s q ≡ Some r)
unfolding is_directory
directory_gives paths s e =
    let w = any_gives (λ path. is_some (below s path)) paths e in
    let o = is_some_gives (below s w.0) w.2 in
    (w.0, o.0, w.1, o.1)

-- ---- entries

none_towards : (d : List ℕ) (paths : List (List ℕ)) → is_directory paths d ≡ false → filter_map (name_towards d) paths ≡ []
unfolding is_directory name_towards
none_towards d [] e = refl
none_towards d (p ∷ ps) e =
    let r = or_parts (is_some (below d p)) (list_any (λ path. is_some (below d path)) ps) e in
    ap (λ o. cons_option (then_by o (λ part. leading (names part))) (filter_map (name_towards d) ps)) (none_is (below d p) r.0) ∙ none_towards d ps r.1

-- the entries of a directory, and none where there is no such directory
pub entries_listed : (paths : List (List ℕ)) (d : List ℕ) → unwrap_or (entries_of paths d) [] ≡ map (entry_of paths d) (names_in paths d)
unfolding entries_of ascending
entries_listed paths d = by (is_directory paths d) refl
  where
    by : (b : Bool) → is_directory paths d ≡ b → unwrap_or (entries_of paths d) [] ≡ map (entry_of paths d) (names_in paths d)
    by true e = ap (λ b. unwrap_or (cond b (Some (map (entry_of paths d) (names_in paths d))) None) []) e
    by false e =
        ap (λ b. unwrap_or (cond b (Some (map (entry_of paths d) (names_in paths d))) None) []) e
        ∙ sym (ap (λ l. map (entry_of paths d) (ascending l)) (none_towards d paths e))

-- ---- what the calls on texts say

pub below_stripped : (d p part : List ℕ) (r : Option (Bor (List ℕ))) → p ≡ d ++ part → MatchOption r ((rest : List ℕ) → part ≢ 47 ∷ rest) (λ x. part ≡ 47 ∷ x.now) → option_copied r ≡ below d p
below_stripped d p part None e h =
    sym (below_none d p (λ rest f. h rest (sym (front_rest p d part e) ∙ front_rest p d (47 ∷ rest) f)))
below_stripped d p part (Some x) e h = sym (below_at d p x.now (e ∙ ap (λ l. d ++ l) h))

pub name_from_places : (n : List ℕ) → ((i : ℕ) → i < length n → get_or n i 0 ≢ 47) → IsName n
unfolding IsName
name_from_places [] h = tt
name_from_places (b ∷ bs) h =
    (ne_eqb b 47 (h 0 (omega arith)), name_from_places bs (λ i within. h (suc i) (omega (arith, within))))

pub first_name_all : (part : List ℕ) → ((i : ℕ) → i < length part → get_or part i 0 ≢ 47) → (others : List (List ℕ)) × (names part ≡ part ∷ others)
first_name_all part h = ([], names_one part (name_from_places part h))

pub first_name_before : (part n r : List ℕ) → part ≡ n ++ 47 ∷ r → ((i : ℕ) → i < length n → get_or n i 0 ≢ 47) → (others : List (List ℕ)) × (names part ≡ n ∷ others)
first_name_before part n r e h = (names r, ap names e ∙ names_then n r (name_from_places n h))

pub directory_mapped : {X : Type 0} (h : X → List ℕ) (xs : List X) (d : List ℕ) → is_directory (map h xs) d ≡ list_any (λ x. is_some (below d (h x))) xs
unfolding is_directory
directory_mapped h xs d = any_map (λ path. is_some (below d path)) h xs
