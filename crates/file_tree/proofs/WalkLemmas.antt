-- One level of directories after the other finds the files below a directory.
use Rattle.std.proofs.Common.{◌≡◌, ℕ, ◌+◌, ◌-◌, ◌<◌, ◌≤◌, max, suc, Bool, true, false, not, ◌&&◌, ◌||◌, cond, eqb, List, [], ◌∷◌, ◌++◌, Some, length, refl, sym, ap, ◌∙◌, subst, inl, inr, ⊎_elim, arith, map, filter_map, flat_map, unwrap_or, bytes_eq}
use Rattle.std.specs.List.{list_any}
use Rattle.std.proofs.Math.Nat.{le-max_left, le-max_right, max-le}
use Rattle.std.proofs.Math.Bool.{or_assoc, or-false}
use Rattle.std.proofs.lemmas.Bool.{false≢true, true≢false, not-true, not_from_false, and_parts, and_from, or_cases, or_left, or_right}
use Rattle.std.proofs.lemmas.List.{append_assoc, length-append}
use Rattle.std.proofs.lemmas.List.Folds.{list_any-append}
use Rattle.spec_base.specs.Options.{by_option, then_by}
use Rattle.file_tree.specs.declared.tree.TreeEntry.{TreeEntry}
use Rattle.file_tree.specs.Tree.{entry_path, below, names, leading, name_towards, is_directory, names_in, entry_of, entries_of}
use Rattle.file_tree.specs.Walk.{is_passed_over, leads, is_reached, files_below, has_path, file_at, directory_at, files_in, directories_in}
use Rattle.file_tree.proofs.TextSets.{same_tests, same_from, same_at, any_from, any_gives, any_flat_map, any_map, any_alike, any_or, has_filtered, has_filter_mapped, has_ascending}
use Rattle.file_tree.proofs.PathLemmas.{option_true, then_some, below_is, below_at, IsName, names_one, names_then, names_cons, split_cases, Begins, leading_is, leading_at, directory_from, directory_gives, entries_listed}

-- ---- what is reached

-- a path of the tree that is reached
abbrev pub found : List (List ℕ) → List ℕ → List ℕ → Bool
found paths d p = has_path paths p && is_reached paths d p

found_is : (paths : List (List ℕ)) (d p : List ℕ) → has_path (files_below paths d) p ≡ found paths d p
found_is paths d p = has_filtered (is_reached paths d) p paths

reached_is : (paths : List (List ℕ)) (d p : List ℕ) → is_reached paths d p ≡ true → (part : List ℕ) × (is_directory paths p ≡ false) × (below d p ≡ Some part) × (leads (names part) ≡ true)
unfolding is_reached
reached_is paths d p e =
    let r = and_parts (not (is_directory paths p)) (by_option (below d p) false (λ part. leads (names part))) e in
    let o = option_true (below d p) (λ part. leads (names part)) r.1 in
    (o.0, not-true (is_directory paths p) r.0, o.1, o.2)

reached_at : (paths : List (List ℕ)) (d p part : List ℕ) → is_directory paths p ≡ false → below d p ≡ Some part → leads (names part) ≡ true → is_reached paths d p ≡ true
unfolding is_reached
reached_at paths d p part file under led =
    and_from (not (is_directory paths p)) (by_option (below d p) false (λ part. leads (names part))) (not_from_false (is_directory paths p) file) (ap (λ o. by_option o false (λ part. leads (names part))) under ∙ led)

leads_one : (n : List ℕ) → leads (n ∷ []) ≡ not (eqb (length n) 0)
unfolding leads
leads_one n = refl

leads_more : (n m : List ℕ) (ms : List (List ℕ)) → leads (n ∷ m ∷ ms) ≡ (not (eqb (length n) 0) && not (is_passed_over n) && leads (m ∷ ms))
unfolding leads
leads_more n m ms = refl

-- names lead on after one that is entered
leads_down : (n r : List ℕ) → leads (n ∷ names r) ≡ (not (eqb (length n) 0) && not (is_passed_over n) && leads (names r))
leads_down n r =
    let s = names_cons r in
    ap (λ l. leads (n ∷ l)) s.2 ∙ leads_more n s.0 s.1
    ∙ ap (λ l. not (eqb (length n) 0) && not (is_passed_over n) && leads l) (sym s.2)

-- ---- the entries of a directory

pub record IsEntry (paths : List (List ℕ)) (d n q part : List ℕ) : Type 0 where
  pub among : has_path paths q ≡ true
  pub under : below d q ≡ Some part
  pub name : IsName n
  pub nonempty : eqb (length n) 0 ≡ false
  pub begins : Begins n part

towards_is : (d q n : List ℕ) → name_towards d q ≡ Some n → (part : List ℕ) × (below d q ≡ Some part) × (leading (names part) ≡ Some n)
unfolding name_towards
towards_is d q n e = then_some (below d q) (λ part. leading (names part)) n e

pub entry_gives : (paths : List (List ℕ)) (d n : List ℕ) → has_path (names_in paths d) n ≡ true → (q : List ℕ) × (part : List ℕ) × IsEntry paths d n q part
entry_gives paths d n e =
    let listed : list_any (λ q. by_option (name_towards d q) false (bytes_eq n)) paths ≡ true = sym (has_ascending n (filter_map (name_towards d) paths) ∙ has_filter_mapped (name_towards d) n paths) ∙ e in
    let w = any_gives (λ q. by_option (name_towards d q) false (bytes_eq n)) paths listed in
    let o = option_true (name_towards d w.0) (bytes_eq n) w.2 in
    let t = towards_is d w.0 n (o.1 ∙ ap Some (sym (same_from n o.0 o.2))) in
    let l = leading_is t.0 n t.2 in
    (w.0, t.0, record { among = w.1; under = t.1; name = l.0; nonempty = l.1; begins = l.2 })

entry_from : (paths : List (List ℕ)) (d n q part : List ℕ) → IsEntry paths d n q part → has_path (names_in paths d) n ≡ true
unfolding name_towards
entry_from paths d n q part h =
    let t : name_towards d q ≡ Some n =
    ap (λ o. then_by o (λ part. leading (names part))) h.under ∙ leading_at part n h.name h.nonempty h.begins
    in
    has_ascending n (filter_map (name_towards d) paths) ∙ has_filter_mapped (name_towards d) n paths
    ∙ any_from (λ q. by_option (name_towards d q) false (bytes_eq n)) q paths h.among (ap (λ o. by_option o false (bytes_eq n)) t ∙ same_at n)

-- what a path passes at the entries of a directory
any_entry : {Y : Type 0} (p : Y → Bool) (f : TreeEntry → List Y) (paths : List (List ℕ)) (d : List ℕ) → list_any p (flat_map f (unwrap_or (entries_of paths d) [])) ≡ list_any (λ n. list_any p (f (entry_of paths d n))) (names_in paths d)
any_entry p f paths d =
    ap (λ l. list_any p (flat_map f l)) (entries_listed paths d) ∙ any_flat_map p f (map (entry_of paths d) (names_in paths d))
    ∙ any_map (λ e. list_any p (f e)) (entry_of paths d) (names_in paths d)

any_file : (p : List ℕ → Bool) (paths : List (List ℕ)) (d : List ℕ) → list_any p (files_in paths d) ≡ list_any (λ n. list_any p (file_at d (entry_of paths d n))) (names_in paths d)
unfolding files_in
any_file p paths d = any_entry p (file_at d) paths d

any_directory : (p : List ℕ → Bool) (paths : List (List ℕ)) (d : List ℕ) → list_any p (directories_in paths d) ≡ list_any (λ n. list_any p (directory_at d (entry_of paths d n))) (names_in paths d)
unfolding directories_in
any_directory p paths d = any_entry p (directory_at d) paths d

any_one : (p : List ℕ → Bool) (t : List ℕ) → list_any p (t ∷ []) ≡ true → p t ≡ true
any_one p t e = ⊎_elim (λ h. h) (λ h. absurd (false≢true h)) (or_cases (p t) false e)

one_any : (p : List ℕ → Bool) (t : List ℕ) → p t ≡ true → list_any p (t ∷ []) ≡ true
one_any p t e = or_left (p t) false e

file_gives : (p : List ℕ → Bool) (b : Bool) (t : List ℕ) → list_any p (cond b [] (t ∷ [])) ≡ true → (b ≡ false) × (p t ≡ true)
file_gives p true t e = absurd (false≢true e)
file_gives p false t e = (refl, any_one p t e)

directory_entry_gives : (p : List ℕ → Bool) (b c : Bool) (t : List ℕ) → list_any p (cond (b && not c) (t ∷ []) []) ≡ true → (b ≡ true) × (c ≡ false) × (p t ≡ true)
directory_entry_gives p true true t e = absurd (false≢true e)
directory_entry_gives p true false t e = (refl, refl, any_one p t e)
directory_entry_gives p false c t e = absurd (false≢true e)

-- a file or a directory of a directory, by its name
directory_named : (p : List ℕ → Bool) (paths : List (List ℕ)) (d : List ℕ) → list_any p (directories_in paths d) ≡ true → (n : List ℕ) × (has_path (names_in paths d) n ≡ true) × (is_directory paths (entry_path d n) ≡ true) × (is_passed_over n ≡ false) × (p (entry_path d n) ≡ true)
directory_named p paths d e =
    let w = any_gives (λ n. list_any p (directory_at d (entry_of paths d n))) (names_in paths d) (sym (any_directory p paths d) ∙ e) in
    let r = directory_entry_gives p (is_directory paths (entry_path d w.0)) (is_passed_over w.0) (entry_path d w.0) w.2 in
    (w.0, w.1, r.0, r.1, r.2)

file_named : (p : List ℕ → Bool) (paths : List (List ℕ)) (d : List ℕ) → list_any p (files_in paths d) ≡ true → (n : List ℕ) × (has_path (names_in paths d) n ≡ true) × (is_directory paths (entry_path d n) ≡ false) × (p (entry_path d n) ≡ true)
file_named p paths d e =
    let w = any_gives (λ n. list_any p (file_at d (entry_of paths d n))) (names_in paths d) (sym (any_file p paths d) ∙ e) in
    let r = file_gives p (is_directory paths (entry_path d w.0)) (entry_path d w.0) w.2 in
    (w.0, w.1, r.0, r.1)

-- ---- one directory

pub deeper : (d n r : List ℕ) → entry_path d n ++ 47 ∷ r ≡ d ++ 47 ∷ (n ++ 47 ∷ r)
deeper d n r = append_assoc d (47 ∷ n) (47 ∷ r)

abbrev FoundFrom : List (List ℕ) → List ℕ → List ℕ → Type 0
FoundFrom paths d p = (has_path (files_in paths d) p || list_any (λ s. found paths s p) (directories_in paths d)) ≡ true

-- what is found below a directory is an entry of it, or is found below one
found_down : (paths : List (List ℕ)) (d p : List ℕ) → found paths d p ≡ true → (has_path (files_in paths d) p || list_any (λ s. found paths s p) (directories_in paths d)) ≡ true
found_down paths d p e =
    let h = and_parts (has_path paths p) (is_reached paths d p) e in
    let r = reached_is paths d p h.1 in
    ⊎_elim (file h.0 r.0 r.1 r.2 r.3) (more h.0 r.0 r.1 r.2 r.3) (split_cases r.0)
  where
    file : has_path paths p ≡ true → (part : List ℕ) → is_directory paths p ≡ false → below d p ≡ Some part → leads (names part) ≡ true → IsName part → FoundFrom paths d p
    file among part is_file under led name =
        let nonempty : eqb (length part) 0 ≡ false = not-true (eqb (length part) 0) (sym (ap leads (names_one part name) ∙ leads_one part) ∙ led) in
        let entry : IsEntry paths d part p part = record { among = among; under = under; name = name; nonempty = nonempty; begins = inl refl } in
        let same : p ≡ entry_path d part = below_is d p part under in
        let no_dir : is_directory paths (entry_path d part) ≡ false = ap (is_directory paths) (sym same) ∙ is_file in
        let here : list_any (bytes_eq p) (file_at d (entry_of paths d part)) ≡ true =
        ap (λ b. list_any (bytes_eq p) (cond b [] (entry_path d part ∷ []))) no_dir ∙ one_any (bytes_eq p) (entry_path d part) (ap (bytes_eq p) (sym same) ∙ same_at p)
        in
        or_left (has_path (files_in paths d) p) (list_any (λ s. found paths s p) (directories_in paths d))
        (any_file (bytes_eq p) paths d
        ∙ any_from (λ n. list_any (bytes_eq p) (file_at d (entry_of paths d n))) part (names_in paths d) (entry_from paths d part p part entry) here)

    more : has_path paths p ≡ true → (part : List ℕ) → is_directory paths p ≡ false → below d p ≡ Some part → leads (names part) ≡ true → ((n : List ℕ) × (r : List ℕ) × IsName n × (part ≡ n ++ 47 ∷ r)) → FoundFrom paths d p
    more among part is_file under led s =
        let n = s.0 in
        let r = s.1 in
        let led_on : (not (eqb (length n) 0) && not (is_passed_over n) && leads (names r)) ≡ true = sym (ap (λ l. leads (names l)) s.3 ∙ ap leads (names_then n r s.2) ∙ leads_down n r) ∙ led in
        let two = and_parts (not (eqb (length n) 0) && not (is_passed_over n)) (leads (names r)) led_on in
        let one = and_parts (not (eqb (length n) 0)) (not (is_passed_over n)) two.0 in
        let entry : IsEntry paths d n p part = record { among = among; under = under; name = s.2; nonempty = not-true (eqb (length n) 0) one.0; begins = inr (r, s.3) } in
        let inside : below (entry_path d n) p ≡ Some r = below_at (entry_path d n) p r (below_is d p part under ∙ ap (λ l. d ++ 47 ∷ l) s.3 ∙ sym (deeper d n r)) in
        let dir : is_directory paths (entry_path d n) ≡ true = directory_from paths (entry_path d n) p r among inside in
        let deep : found paths (entry_path d n) p ≡ true = and_from (has_path paths p) (is_reached paths (entry_path d n) p) among (reached_at paths (entry_path d n) p r is_file inside two.1) in
        let entered : (is_directory paths (entry_path d n) && not (is_passed_over n)) ≡ true = and_from (is_directory paths (entry_path d n)) (not (is_passed_over n)) dir one.1 in
        let here : list_any (λ s. found paths s p) (directory_at d (entry_of paths d n)) ≡ true =
        ap (λ b. list_any (λ s. found paths s p) (cond b (entry_path d n ∷ []) [])) entered ∙ one_any (λ s. found paths s p) (entry_path d n) deep
        in
        or_right (has_path (files_in paths d) p) (list_any (λ s. found paths s p) (directories_in paths d))
        (any_directory (λ s. found paths s p) paths d
        ∙ any_from (λ n. list_any (λ s. found paths s p) (directory_at d (entry_of paths d n))) n (names_in paths d) (entry_from paths d n p part entry) here)

-- an entry that is a file is found
found_file : (paths : List (List ℕ)) (d p : List ℕ) → has_path (files_in paths d) p ≡ true → found paths d p ≡ true
found_file paths d p e =
    let w = file_named (bytes_eq p) paths d e in
    let g = entry_gives paths d w.0 w.1 in
    by w.0 g.0 g.1 w.2 (same_from p (entry_path d w.0) w.3) g.2
  where
    by : (n q part : List ℕ) → is_directory paths (entry_path d n) ≡ false → p ≡ entry_path d n → IsEntry paths d n q part → found paths d p ≡ true
    by n q part is_file same h = ⊎_elim one more h.begins
      where
        at : q ≡ d ++ 47 ∷ part
        at = below_is d q part h.under

        one : part ≡ n → found paths d p ≡ true
        one e =
            let pq : p ≡ q = same ∙ ap (λ l. d ++ 47 ∷ l) (sym e) ∙ sym at in
            let led : leads (names n) ≡ true = ap leads (names_one n h.name) ∙ leads_one n ∙ not_from_false (eqb (length n) 0) h.nonempty in
            and_from (has_path paths p) (is_reached paths d p) (ap (has_path paths) pq ∙ h.among)
            (reached_at paths d p n (ap (is_directory paths) same ∙ is_file) (below_at d p n same) led)

        more : ((r : List ℕ) × (part ≡ n ++ 47 ∷ r)) → found paths d p ≡ true
        more s =
            let inside : below (entry_path d n) q ≡ Some s.0 = below_at (entry_path d n) q s.0 (at ∙ ap (λ l. d ++ 47 ∷ l) s.1 ∙ sym (deeper d n s.0)) in
            absurd (true≢false (sym (directory_from paths (entry_path d n) q s.0 h.among inside) ∙ is_file))

-- what is found below an entry that is entered is found
found_up : (paths : List (List ℕ)) (d p : List ℕ) → list_any (λ s. found paths s p) (directories_in paths d) ≡ true → found paths d p ≡ true
found_up paths d p e =
    let w = directory_named (λ s. found paths s p) paths d e in
    let g = entry_gives paths d w.0 w.1 in
    let f = and_parts (has_path paths p) (is_reached paths (entry_path d w.0) p) w.4 in
    let r = reached_is paths (entry_path d w.0) p f.1 in
    let n = w.0 in
    let under : below d p ≡ Some (n ++ 47 ∷ r.0) = below_at d p (n ++ 47 ∷ r.0) (below_is (entry_path d n) p r.0 r.2 ∙ deeper d n r.0) in
    let led : leads (names (n ++ 47 ∷ r.0)) ≡ true =
    ap leads (names_then n r.0 g.2.name) ∙ leads_down n r.0
    ∙ and_from (not (eqb (length n) 0) && not (is_passed_over n)) (leads (names r.0))
    (and_from (not (eqb (length n) 0)) (not (is_passed_over n)) (not_from_false (eqb (length n) 0) g.2.nonempty) (not_from_false (is_passed_over n) w.3)) r.3
    in
    and_from (has_path paths p) (is_reached paths d p) f.0 (reached_at paths d p (n ++ 47 ∷ r.0) r.1 under led)

found_step : (paths : List (List ℕ)) (d p : List ℕ) → found paths d p ≡ (has_path (files_in paths d) p || list_any (λ s. found paths s p) (directories_in paths d))
found_step paths d p =
    same_tests (found paths d p) (has_path (files_in paths d) p || list_any (λ s. found paths s p) (directories_in paths d))
    (found_down paths d p)
    (λ e. ⊎_elim (found_file paths d p) (found_up paths d p) (or_cases (has_path (files_in paths d) p) (list_any (λ s. found paths s p) (directories_in paths d)) e))

-- ---- one level

found_level : (paths level : List (List ℕ)) (p : List ℕ) → list_any (λ d. found paths d p) level ≡ (has_path (flat_map (files_in paths) level) p || list_any (λ d. found paths d p) (flat_map (directories_in paths) level))
found_level paths level p =
    any_alike (λ d. found paths d p) (λ d. has_path (files_in paths d) p || list_any (λ s. found paths s p) (directories_in paths d)) level (λ d. found_step paths d p)
    ∙ any_or (λ d. has_path (files_in paths d) p) (λ d. list_any (λ s. found paths s p) (directories_in paths d)) level
    ∙ sym (λ i. any_flat_map (bytes_eq p) (files_in paths) level i || any_flat_map (λ s. found paths s p) (directories_in paths) level i)

-- what was found and what is to be found stay the same from level to level
level_step : (paths files level : List (List ℕ)) (p : List ℕ) → (has_path (files ++ flat_map (files_in paths) level) p || list_any (λ d. found paths d p) (flat_map (directories_in paths) level)) ≡ (has_path files p || list_any (λ d. found paths d p) level)
level_step paths files level p =
    ap (λ b. b || list_any (λ d. found paths d p) (flat_map (directories_in paths) level)) (list_any-append (bytes_eq p) files (flat_map (files_in paths) level))
    ∙ or_assoc (has_path files p) (has_path (flat_map (files_in paths) level) p) (list_any (λ d. found paths d p) (flat_map (directories_in paths) level))
    ∙ ap (λ b. has_path files p || b) (sym (found_level paths level p))

level_first : (paths : List (List ℕ)) (d p : List ℕ) → (has_path [] p || list_any (λ d. found paths d p) (d ∷ [])) ≡ has_path (files_below paths d) p
level_first paths d p = or-false (found paths d p) ∙ sym (found_is paths d p)

-- ---- the walk ends

-- the length of the longest path
pub longest : List (List ℕ) → ℕ
longest [] = 0
longest (p ∷ ps) = max (length p) (longest ps)

longest_at : (paths : List (List ℕ)) (p : List ℕ) → has_path paths p ≡ true → length p ≤ longest paths
unfolding longest
longest_at [] p e = absurd (false≢true e)
longest_at (q ∷ qs) p e =
    ⊎_elim
    (λ h. subst (λ l. length l ≤ max (length q) (longest qs)) (sym (same_from p q h)) (le-max_left (length q) (longest qs)))
    (λ h. let one : length p ≤ longest qs = longest_at qs p h in let two = le-max_right (length q) (longest qs) in omega (arith, one, two))
    (or_cases (bytes_eq p q) (has_path qs p) e)

-- how much longer than the shortest of these directories a path can be
pub reach : ℕ → List (List ℕ) → ℕ
reach top [] = 0
reach top (d ∷ ds) = max (suc (top - length d)) (reach top ds)

reach_below : (top m : ℕ) (ds : List (List ℕ)) → ((d : List ℕ) → has_path ds d ≡ true → suc (top - length d) ≤ m) → reach top ds ≤ m
unfolding reach
reach_below top m [] each = omega arith
reach_below top m (d ∷ ds) each =
    max-le (each d (or_left (bytes_eq d d) (has_path ds d) (same_at d)))
    (reach_below top m ds (λ e h. each e (or_right (bytes_eq e d) (has_path ds e) h)))

reach_at : (top : ℕ) (ds : List (List ℕ)) (d : List ℕ) → has_path ds d ≡ true → suc (top - length d) ≤ reach top ds
unfolding reach
reach_at top [] d e = absurd (false≢true e)
reach_at top (c ∷ cs) d e =
    ⊎_elim
    (λ h. subst (λ l. suc (top - length l) ≤ max (suc (top - length c)) (reach top cs)) (sym (same_from d c h)) (le-max_left (suc (top - length c)) (reach top cs)))
    (λ h. let one : suc (top - length d) ≤ reach top cs = reach_at top cs d h in let two = le-max_right (suc (top - length c)) (reach top cs) in omega (arith, one, two))
    (or_cases (bytes_eq d c) (has_path cs d) e)

-- a directory in another is longer, and shorter than some path
deeper_bounds : (paths : List (List ℕ)) (d s : List ℕ) → has_path (directories_in paths d) s ≡ true → (length d < length s) × (length s < longest paths)
deeper_bounds paths d s e =
    let w = directory_named (bytes_eq s) paths d e in
    let n = w.0 in
    let same : s ≡ entry_path d n = same_from s (entry_path d n) w.4 in
    let g = directory_gives paths (entry_path d n) w.2 in
    let long : length g.0 ≤ longest paths = longest_at paths g.0 g.2 in
    let path : length g.0 ≡ length (entry_path d n) + suc (length g.1) = ap length (below_is (entry_path d n) g.0 g.1 g.3) ∙ length-append (entry_path d n) (47 ∷ g.1) in
    let name : length (entry_path d n) ≡ length d + suc (length n) = length-append d (47 ∷ n) in
    let same_length : length s ≡ length (entry_path d n) = ap length same in
    (omega (arith, name, same_length), omega (arith, long, path, same_length))

reach_falls : (paths level : List (List ℕ)) → eqb (length level) 0 ≡ false → reach (longest paths) (flat_map (directories_in paths) level) < reach (longest paths) level
reach_falls paths [] nonempty = absurd (true≢false nonempty)
reach_falls paths (c ∷ cs) nonempty =
    let top = longest paths in
    let level = c ∷ cs in
    let some : suc (top - length c) ≤ reach top level = reach_at top level c (or_left (bytes_eq c c) (has_path cs c) (same_at c)) in
    let bound : reach top (flat_map (directories_in paths) level) ≤ reach top level - 1 = reach_below top (reach top level - 1) (flat_map (directories_in paths) level) (each top level) in
    omega (arith, some, bound)
  where
    each : (top : ℕ) (level : List (List ℕ)) (s : List ℕ) → has_path (flat_map (directories_in paths) level) s ≡ true → suc (longest paths - length s) ≤ reach (longest paths) level - 1
    each top level s e =
        let w = any_gives (λ d. has_path (directories_in paths d) s) level (sym (any_flat_map (bytes_eq s) (directories_in paths) level) ∙ e) in
        let b = deeper_bounds paths w.0 s w.2 in
        let here : suc (longest paths - length w.0) ≤ reach (longest paths) level = reach_at (longest paths) level w.0 w.1 in
        omega (arith, b.0, b.1, here)

-- ---- the loop over the levels

-- what was found and what is to be found are all
abbrev pub AllFound : List (List ℕ) → List ℕ → List (List ℕ) → List (List ℕ) → Type 0
AllFound paths d files level =
    (p : List ℕ) → (has_path files p || list_any (λ d. found paths d p) level) ≡ has_path (files_below paths d) p

pub all_found_first : (paths : List (List ℕ)) (d : List ℕ) (files level : List (List ℕ)) → files ≡ [] → level ≡ d ∷ [] → AllFound paths d files level
all_found_first paths d files level none one p =
    (λ i. has_path (none i) p || list_any (λ d. found paths d p) (one i)) ∙ level_first paths d p

pub all_found_next : (paths : List (List ℕ)) (d : List ℕ) (files level files' level' : List (List ℕ)) → AllFound paths d files level → files' ≡ files ++ flat_map (files_in paths) level → level' ≡ flat_map (directories_in paths) level → AllFound paths d files' level'
all_found_next paths d files level files' level' all found' next p =
    (λ i. has_path (found' i) p || list_any (λ d. found paths d p) (next i)) ∙ level_step paths files level p ∙ all p

pub reach_next : (paths level level' : List (List ℕ)) → eqb (length level) 0 ≡ false → level' ≡ flat_map (directories_in paths) level → reach (longest paths) level' < reach (longest paths) level
reach_next paths level level' nonempty next =
    subst (λ l. reach (longest paths) l < reach (longest paths) level) (sym next) (reach_falls paths level nonempty)
