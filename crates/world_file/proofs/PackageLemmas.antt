-- Packages by their texts: where the parts of a text begin, and lists of what is told of them that are read from left to right.
use Rattle.std.proofs.Common.{◌≡◌, ℕ, ◌+◌, ◌-◌, ◌<◌, ◌≤◌, Bool, true, false, List, [], ◌∷◌, ◌++◌, length, get_or, Option, Some, None, IsUtf8, option_and_then, option_map, Result, refl, sym, ap, subst, arith, append_assoc}
use Rattle.std.specs.Bool.{⊤}
use Rattle.std.specs.List.{slice_index, suffix_len}
use Rattle.std.specs.Str.{IsCharBoundary}
use Rattle.std.proofs.lemmas.List.Sums.{suffix_len_is}
use Rattle.std.proofs.lemmas.Str.{IsCharBoundary-after_ascii, IsCharBoundary-before_ascii}
use Rattle.semver_npm.specs.declared.npm_error.NpmLoadError.{NpmLoadError}
use Rattle.semver_npm.specs.declared.package.PackageNv.{PackageNv}
use Rattle.semver_npm.specs.declared.package.PackageReq.{PackageReq}
use Rattle.world_file.specs.WorldNpm.{load_result, package_req, package_results}
use Rattle.world_file.specs.WorldPackages.{package_nv, package_sums}
use Rattle.world_file.specs.declared.world_npm.NpmOutcome.{NpmOutcome}

-- where the bytes that pass a test at the end begin
pub start_is : (test : ℕ → Bool) (xs : List ℕ) (n : ℕ) → n ≤ length xs → ((k : ℕ) → n ≤ k → k < length xs → test (get_or xs k 0) ≡ true) → (0 < n → test (get_or xs (n - 1) 0) ≡ false) → n ≡ length xs - suffix_len test xs
start_is test xs n within pass stops = let e = suffix_len_is test xs n 0 within pass stops in omega (arith, e)

module _ (text bytes : List ℕ) (start : ℕ) (same : bytes ≡ text) (within : start ≤ length bytes) (ascii : 0 < start → slice_index bytes (start - 1) < 128) where
  inside : 0 < start → start - 1 < length text
  inside some = let len = ap length same in omega (arith, len, within, some)

  ascii_in : 0 < start → get_or text (start - 1) 0 < 128
  ascii_in some = subst (λ (t : List ℕ). slice_index t (start - 1) < 128) same (ascii some)

  -- a character begins behind an ASCII one
  pub begins_behind : IsUtf8 text → 0 < start → IsCharBoundary text start
  begins_behind valid some =
      let is : (start - 1) + 1 ≡ start = omega (arith, some) in
      subst (λ (n : ℕ). IsCharBoundary text n) is (IsCharBoundary-after_ascii text (start - 1) valid (inside some) (ascii_in some))

  -- and where that one stands
  pub begins_there : 2 ≤ start → IsCharBoundary text (start - 1)
  begins_there more =
      let some : 0 < start = omega (arith, more) in
      IsCharBoundary-before_ascii text (start - 1) (inside some) (ascii_in some)

pushed : {A : Type 0} (done : List A) (x : A) (o : Option (List A)) → option_map (λ es. done ++ es) (option_and_then (λ es. Some (x ∷ es)) o) ≡ option_map (λ es. (done ++ x ∷ []) ++ es) o
pushed done x None = refl
pushed done x (Some es) = ap Some (sym (append_assoc done (x ∷ []) es))

-- one more sum is read
pub sums_pushed : (key sum : List ℕ) (es : List (List ℕ × List ℕ)) (nv : PackageNv) (done : List (PackageNv × List ℕ)) → package_nv key ≡ Some nv
    → option_map (λ sums. done ++ sums) (package_sums ((key, sum) ∷ es)) ≡ option_map (λ sums. (done ++ (nv, sum) ∷ []) ++ sums) (package_sums es)
sums_pushed key sum es nv done named = rw named (pushed done (nv, sum) (package_sums es))

-- one more result is read
pub results_pushed : (key : List ℕ) (outcome : NpmOutcome) (es : List (List ℕ × NpmOutcome)) (req : PackageReq) (done : List (PackageReq × Result ⊤ NpmLoadError)) → package_req key ≡ Some req
    → option_map (λ results. done ++ results) (package_results ((key, outcome) ∷ es)) ≡ option_map (λ results. (done ++ (req, load_result outcome) ∷ []) ++ results) (package_results es)
results_pushed key outcome es req done named = rw named (pushed done (req, load_result outcome) (package_results es))
