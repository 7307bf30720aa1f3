-- The grammar of requirements, as npm publishes it for its ranges (node-semver, "Range Grammar"): range set, range, hyphen range,
-- simple, partial, x. Of its own it has: no range is empty, one or more spaces stand where npm's grammar has one, spaces may follow an
-- operator, and a pre-release and build text follow three numbers only. Each relation is between a value and its texts.
use Rattle.std.specs.Prelude.{◌≡◌, ◌⊎◌, ◌<◌, ◌^◌, ◌&&◌, ◌||◌, ◌==◌, Bool, true, false, ℕ, List, [], ◌∷◌, ◌++◌, Option, Some, None, codes, replicate}
use Rattle.std.specs.Char.{is_ascii_alphabetic, is_ascii_digit}
use Rattle.std.specs.Fmt.{decimal}
use Rattle.std.specs.List.{list_all}
use Rattle.semver_npm.specs.Versions.{IsVersion, Ver}
use Rattle.semver_npm.specs.declared.simple.Operator.{Operator}
use Rattle.semver_npm.specs.declared.simple.Operator.TheVariants.{Plain, Exact, Less, AtMost, Greater, AtLeast, Caret, Tilde}
use Rattle.semver_npm.specs.declared.simple.Partial.{Partial}
use Rattle.semver_npm.specs.declared.simple.Partial.TheVariants.{Any, Major, Minor, Full}
use Rattle.semver_npm.specs.declared.simple.Simple.{Simple}

-- xr: an x in one of its three forms, or a number of at most 64 bits without leading zeros
abbrev pub IsXr : Option ℕ → List ℕ → Type 0
IsXr None text = (text ≡ codes "x") ⊎ ((text ≡ codes "X") ⊎ (text ≡ codes "*"))
IsXr (Some n) text = (n < 2 ^ 64) × (text ≡ decimal n)

-- the version that parts stand for: what follows an x counts as one, and so does what is missing
abbrev pub partial_from : Option ℕ → Option ℕ → Option ℕ → Partial
partial_from None b c = Any
partial_from (Some a) None c = Major a
partial_from (Some a) (Some b) None = Minor a b
partial_from (Some a) (Some b) (Some c) = Full (a, b, c, [], [])

-- partial: xr, xr.xr, xr.xr.xr, or a whole version with its pre-release and build text
abbrev pub IsOne : Partial → List ℕ → Type 0
IsOne p text = (a : Option ℕ) × IsXr a text × (p ≡ partial_from a None None)

abbrev pub IsTwo : Partial → List ℕ → Type 0
IsTwo p text = (a b : Option ℕ) × (u v : List ℕ) × IsXr a u × IsXr b v × (text ≡ u ++ 46 ∷ v) × (p ≡ partial_from a b None)

abbrev pub IsThree : Partial → List ℕ → Type 0
IsThree p text = (a b c : Option ℕ) × (u v w : List ℕ) × IsXr a u × IsXr b v × IsXr c w
    × (text ≡ u ++ 46 ∷ (v ++ 46 ∷ w)) × (p ≡ partial_from a b c)

abbrev pub IsWhole : Partial → List ℕ → Type 0
IsWhole p text = (v : Ver) × IsVersion text v × (p ≡ Full v)

abbrev pub IsPartial : Partial → List ℕ → Type 0
IsPartial p text = IsOne p text ⊎ (IsTwo p text ⊎ (IsThree p text ⊎ IsWhole p text))

abbrev pub operator_text : Operator → List ℕ
operator_text Plain = []
operator_text Exact = codes "="
operator_text Less = codes "<"
operator_text AtMost = codes "<="
operator_text Greater = codes ">"
operator_text AtLeast = codes ">="
operator_text Caret = codes "^"
operator_text Tilde = codes "~"

-- any number of spaces
abbrev pub spaces : ℕ → List ℕ
spaces n = replicate n 32

-- simple: a partial, or an operator, spaces and a partial
abbrev pub IsSimple : Simple → List ℕ → Type 0
IsSimple s text = (n : ℕ) × (w : List ℕ) × IsPartial s.partial w × (s.operator ≡ Plain → n ≡ 0)
    × (text ≡ operator_text s.operator ++ (spaces n ++ w))

-- simples with one or more spaces between
abbrev pub IsSimples : List Simple → List ℕ → Type 0
IsSimples [] text = ⊥
IsSimples (s ∷ []) text = IsSimple s text
IsSimples (s ∷ t ∷ more) text = (u v : List ℕ) × (n : ℕ) × IsSimple s u × IsSimples (t ∷ more) v × (text ≡ u ++ 32 ∷ (spaces n ++ v))

-- hyphen range `p - q`, which means `>=p <=q`
abbrev pub IsHyphen : List Simple → List ℕ → Type 0
IsHyphen r text = (p q : Partial) × (u v : List ℕ) × (m n : ℕ) × IsPartial p u × IsPartial q v
    × (text ≡ u ++ 32 ∷ (spaces m ++ 45 ∷ 32 ∷ (spaces n ++ v)))
    × (r ≡ record { operator = AtLeast; partial = p } ∷ record { operator = AtMost; partial = q } ∷ [])

-- range
abbrev pub IsRange : List Simple → List ℕ → Type 0
IsRange r text = IsHyphen r text ⊎ IsSimples r text

-- range set: ranges joined by `||`, with spaces or none around it
abbrev pub IsRangeSet : List (List Simple) → List ℕ → Type 0
IsRangeSet [] text = ⊥
IsRangeSet (r ∷ []) text = IsRange r text
IsRangeSet (r ∷ q ∷ more) text = (u v : List ℕ) × (m n : ℕ) × IsRange r u × IsRangeSet (q ∷ more) v
    × (text ≡ u ++ (spaces m ++ (codes "||" ++ (spaces n ++ v))))

-- a byte of a tag after its first letter: a letter, a digit, `-`, `_` or `.`
abbrev pub is_tag_byte : ℕ → Bool
is_tag_byte b = is_ascii_alphabetic b || (is_ascii_digit b || (b == 45 || (b == 95 || b == 46)))

-- a letter, and then bytes of a tag
abbrev pub is_tag_text : List ℕ → Bool
is_tag_text [] = false
is_tag_text (b ∷ rest) = is_ascii_alphabetic b && list_all is_tag_byte rest

-- a text that is no range set but spelled as a tag
abbrev pub IsTag : List ℕ → Type 0
IsTag text = ((rs : List (List Simple)) → IsRangeSet rs text → ⊥) × (is_tag_text text ≡ true)

-- a requirement is a range set or a tag
abbrev pub IsRequirement : List ℕ → Type 0
IsRequirement text = ((rs : List (List Simple)) × IsRangeSet rs text) ⊎ IsTag text
