-- Paths that the URL Standard leaves as they are, and the packages that lie there.
use Rattle.std.specs.Prelude.{◌≡◌, ℕ, ◌<◌, true, false, List, ◌∷◌, ◌++◌, length, nat_eq, codes, All, None}
use Rattle.std.specs.List.{ends_with}
use Rattle.semver_npm.specs.References.{is_slash}
use Rattle.url.specs.Ascii.{slash}
use Rattle.url.specs.Parts.{Parts}
use Rattle.url.specs.Path.{IsSegmentList}
use Rattle.url.specs.declared.scheme.SchemeType.TheVariants.{SpecialNotFile}

-- the path has nothing to escape, and no segment that is `.` or `..`
abbrev pub IsPlain : List ℕ → Type 0
IsPlain path = IsSegmentList SpecialNotFile (slash ∷ path)

-- the URL ends with a path that ends with `/`
pub record IsFolder (url : Parts) : Type 0 where
  pub ends : ends_with nat_eq url.path (codes "/") ≡ true
  pub query : url.query ≡ None
  pub fragment : url.fragment ≡ None

-- the text is `scope/name`, whose scope isn't empty, and which has no other slash
pub record IsScoped (text : List ℕ) : Type 0 where
  pub scope : List ℕ
  pub name : List ℕ
  pub joined : text ≡ scope ++ codes "/" ++ name
  pub scope_whole : All (λ b. is_slash b ≡ false) scope
  pub name_whole : All (λ b. is_slash b ≡ false) name
  pub scope_some : 0 < length scope
