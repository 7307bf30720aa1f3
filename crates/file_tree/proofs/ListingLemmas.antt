-- A name in a directory is that of a directory where another name follows it in a path.
use Rattle.std.proofs.Common.{◌≡◌, ◌≢◌, ◌<◌, ℕ, get_or, true, false, List, [], ◌∷◌, ◌++◌, Option, Some, None, length, refl, sym, ap, ◌∙◌, ⊎_elim, map, filter_map, bytes_eq}
use Rattle.std.specs.Prelude.{is_some}
use Rattle.std.proofs.lemmas.Bool.{or_left, or_right}
use Rattle.spec_base.specs.Options.{by_option, then_by}
use Rattle.file_tree.specs.declared.tree.TreeEntry.{TreeEntry}
use Rattle.file_tree.specs.Tree.{entry_path, below, names, is_directory, names_in, entry_of}
use Rattle.file_tree.specs.Walk.{has_path}
use Rattle.file_tree.specs.Listing.{followed, directory_towards, followed_in, listed}
use Rattle.file_tree.proofs.TextSets.{same_tests, same_from, same_at, any_alike, has_filter_mapped, has_ascending}
use Rattle.file_tree.proofs.PathLemmas.{option_true, then_some, is_some_gives, below_is, below_at, IsName, names_one, names_then, names_cons, split_cases, name_from_places}
use Rattle.file_tree.proofs.WalkLemmas.{deeper, entry_gives}

-- ---- the first name, where another follows

followed_one : (part : List ℕ) → IsName part → followed (names part) ≡ None
followed_one part h = ap followed (names_one part h)

followed_then : (n r : List ℕ) → IsName n → followed (names (n ++ 47 ∷ r)) ≡ Some n
followed_then n r h =
    let s = names_cons r in ap followed (names_then n r h ∙ ap (λ l. n ∷ l) s.2)

pub followed_all : (part : List ℕ) → ((i : ℕ) → i < length part → get_or part i 0 ≢ 47) → followed (names part) ≡ None
followed_all part h = followed_one part (name_from_places part h)

pub followed_before : (part n r : List ℕ) → part ≡ n ++ 47 ∷ r → ((i : ℕ) → i < length n → get_or n i 0 ≢ 47) → followed (names part) ≡ Some n
followed_before part n r e h = ap (λ l. followed (names l)) e ∙ followed_then n r (name_from_places n h)

none_gives : (part n : List ℕ) (o : Option (List ℕ)) → o ≡ None → o ≡ Some n → (r : List ℕ) × (part ≡ n ++ 47 ∷ r)
none_gives part n None a b = cc
none_gives part n (Some x) a b = cc

some_same : (m n : List ℕ) (o : Option (List ℕ)) → o ≡ Some m → o ≡ Some n → m ≡ n
some_same m n None a b = cc
some_same m n (Some x) a b = cc

followed_is : (part n : List ℕ) → followed (names part) ≡ Some n → (r : List ℕ) × (part ≡ n ++ 47 ∷ r)
followed_is part n e = ⊎_elim one more (split_cases part)
  where
    one : IsName part → (r : List ℕ) × (part ≡ n ++ 47 ∷ r)
    one h = none_gives part n (followed (names part)) (followed_one part h) e

    more : ((m : List ℕ) × (r : List ℕ) × IsName m × (part ≡ m ++ 47 ∷ r)) → (r : List ℕ) × (part ≡ n ++ 47 ∷ r)
    more s =
        let same : s.0 ≡ n = some_same s.0 n (followed (names part)) (ap (λ l. followed (names l)) s.3 ∙ followed_then s.0 s.1 s.2) e in
        (s.1, s.3 ∙ ap (λ l. l ++ 47 ∷ s.1) same)

-- ---- the directories in a directory

-- a path leads to a directory where it lies under the directory's path
same_towards : (d n q : List ℕ) → IsName n → by_option (directory_towards d q) false (bytes_eq n) ≡ is_some (below (entry_path d n) q)
unfolding directory_towards
same_towards d n q h = same_tests (by_option (directory_towards d q) false (bytes_eq n)) (is_some (below (entry_path d n) q)) down up
  where
    down : by_option (directory_towards d q) false (bytes_eq n) ≡ true → is_some (below (entry_path d n) q) ≡ true
    down e =
        let o = option_true (directory_towards d q) (bytes_eq n) e in
        let t = then_some (below d q) (λ part. followed (names part)) n (o.1 ∙ ap Some (sym (same_from n o.0 o.2))) in
        let s = followed_is t.0 n t.2 in
        ap is_some (below_at (entry_path d n) q s.0 (below_is d q t.0 t.1 ∙ ap (λ l. d ++ 47 ∷ l) s.1 ∙ sym (deeper d n s.0)))

    up : is_some (below (entry_path d n) q) ≡ true → by_option (directory_towards d q) false (bytes_eq n) ≡ true
    up e =
        let o = is_some_gives (below (entry_path d n) q) e in
        let under : below d q ≡ Some (n ++ 47 ∷ o.0) = below_at d q (n ++ 47 ∷ o.0) (below_is (entry_path d n) q o.0 o.1 ∙ deeper d n o.0) in
        ap (λ b. by_option (then_by b (λ part. followed (names part))) false (bytes_eq n)) under
        ∙ ap (λ b. by_option b false (bytes_eq n)) (followed_then n o.0 h) ∙ same_at n

followed_is_directory : (paths : List (List ℕ)) (d n : List ℕ) → IsName n → has_path (followed_in paths d) n ≡ is_directory paths (entry_path d n)
unfolding is_directory
followed_is_directory paths d n h =
    has_ascending n (filter_map (directory_towards d) paths) ∙ has_filter_mapped (directory_towards d) n paths
    ∙ any_alike (λ q. by_option (directory_towards d q) false (bytes_eq n)) (λ q. is_some (below (entry_path d n) q)) paths (λ q. same_towards d n q h)

-- ---- the entries of a directory

name_in : (paths : List (List ℕ)) (d n : List ℕ) → has_path (names_in paths d) n ≡ true → IsName n
name_in paths d n e = (entry_gives paths d n e).2.name

alike : (f g : List ℕ → TreeEntry) (ns : List (List ℕ)) → ((n : List ℕ) → has_path ns n ≡ true → f n ≡ g n) → map f ns ≡ map g ns
alike f g [] same = refl
alike f g (x ∷ xs) same =
    ap (λ y. y ∷ map f xs) (same x (or_left (bytes_eq x x) (has_path xs x) (same_at x)))
    ∙ ap (λ l. g x ∷ l) (alike f g xs (λ n h. same n (or_right (bytes_eq n x) (has_path xs n) h)))

pub entries_from : (paths : List (List ℕ)) (d : List ℕ) → map (listed (followed_in paths d)) (names_in paths d) ≡ map (entry_of paths d) (names_in paths d)
entries_from paths d =
    alike (listed (followed_in paths d)) (entry_of paths d) (names_in paths d)
    (λ n h. ap (λ b. record { name = n; is_dir = b }) (followed_is_directory paths d n (name_in paths d n h)))
