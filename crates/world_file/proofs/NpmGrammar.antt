-- What is read as the requirement of a package is a name, `@` and a requirement by their grammars, and each text that is one is read so.
use Rattle.std.proofs.Common.{◌≡◌, ℕ, zero, suc, ◌+◌, ◌-◌, ◌<◌, ◌==◌, ◌||◌, ◌⊎◌, not, List, [], ◌∷◌, ◌++◌, length, reverse, take, drop, Bool, true, false, Some, refl, sym, ap, ◌∙◌, subst, arith, inl, inr, nat_eq, nat_lt, append-nil, append_assoc}
use Rattle.std.proofs.Math.Numerals.{one-add}
use Rattle.std.proofs.lemmas.Bool.{cases_Bool, cases_lt, eqb-true, not-true}
use Rattle.std.proofs.lemmas.Bool.Decides.{nat_tests}
use Rattle.std.proofs.lemmas.List.{drop_all, drop_at, length-append, length-reverse, reverse-append, take_at}
use Rattle.std.proofs.lemmas.List.Folds.{list_any-append}
use Rattle.std.proofs.lemmas.List.Sums.{passes_at_first, split_at_first}
use Rattle.std.specs.Char.{is_ascii_alphabetic}
use Rattle.std.specs.List.{after_first, after_last, before_first, before_last, list_all, list_any, position_or_len, starts_with, suffix_len}
use Rattle.std.specs.Prelude.{codes}
use Rattle.semver.proofs.Segments.{and-left, and-right}
use Rattle.semver_npm.specs.Grammar.{IsRange, IsRangeSet, IsRequirement, IsSimple, IsSimples, is_tag_byte, is_tag_text, operator_text, spaces}
use Rattle.semver_npm.specs.Reader.{is_requirement}
use Rattle.semver_npm.specs.ReferenceGrammar.{IsBareName, IsName, IsScope, IsScopedName}
use Rattle.semver_npm.specs.References.{ends_name, is_slash}
use Rattle.semver_npm.specs.declared.package.PackageReq.{PackageReq}
use Rattle.semver_npm.specs.declared.simple.Operator.{Operator}
use Rattle.semver_npm.specs.declared.simple.Operator.TheVariants.{Plain, Exact, Less, AtMost, Greater, AtLeast, Caret, Tilde}
use Rattle.semver_npm.specs.declared.simple.Simple.{Simple}
use Rattle.semver_npm.proofs.Cuts.{partial-bytes}
use Rattle.semver_npm.proofs.NameCuts.{after, before, begins, clear, or_left, or_right, place}
use Rattle.semver_npm.proofs.Numbers.{some_value}
use Rattle.semver_npm.proofs.Requirements.{is_one, one_is}
use Rattle.semver_npm.proofs.WordBytes.{is_word_byte}
use Rattle.world_file.specs.WorldNpm.{IsPackageReq, is_bare_name, is_package_name, is_scoped_name, named_req, package_req}
use Rattle.world_file.specs.WorldPackages.{is_at}

-- ---- a requirement has no `@`

abbrev NoAt : List ℕ → Type 0
NoAt text = list_any is_at text ≡ false

neither : (a b : Bool) → a ≡ false → b ≡ false → (a || b) ≡ false
neither a b x y = rw (x, y) refl

joined : (xs ys : List ℕ) → NoAt xs → NoAt ys → NoAt (xs ++ ys)
joined xs ys x y = list_any-append is_at xs ys ∙ neither _ _ x y

word_byte : (b : ℕ) → is_word_byte b ≡ true → is_at b ≡ false
word_byte b h = grind (arith, nat_tests)

word : (w : List ℕ) → list_all is_word_byte w ≡ true → NoAt w
word [] h = refl
word (b ∷ w) h = neither _ _ (word_byte b (and-left (is_word_byte b) _ h)) (word w (and-right (is_word_byte b) _ h))

blank : (n : ℕ) → NoAt (spaces n)
blank zero = refl
blank (suc n) = blank n

sign : (o : Operator) → NoAt (operator_text o)
sign Plain = refl
sign Exact = refl
sign Less = refl
sign AtMost = refl
sign Greater = refl
sign AtLeast = refl
sign Caret = refl
sign Tilde = refl

simple : (s : Simple) (t : List ℕ) → IsSimple s t → NoAt t
simple s t (n, w, p, plain, e) = rw e (joined (operator_text s.operator) (spaces n ++ w) (sign s.operator) (joined (spaces n) w (blank n) (word w (partial-bytes s.partial w p))))

simples : (rs : List Simple) (t : List ℕ) → IsSimples rs t → NoAt t
simples [] t x = absurd x
simples (s ∷ []) t x = simple s t x
simples (s ∷ r ∷ more) t (u, v, n, a, b, e) = rw e (joined u (32 ∷ (spaces n ++ v)) (simple s u a) (joined (spaces n) v (blank n) (simples (r ∷ more) v b)))

range : (r : List Simple) (t : List ℕ) → IsRange r t → NoAt t
range r t (inl (p, q, u, v, m, n, a, b, e, is)) =
    rw e (joined u (32 ∷ (spaces m ++ 45 ∷ 32 ∷ (spaces n ++ v))) (word u (partial-bytes p u a))
    (joined (spaces m) (45 ∷ 32 ∷ (spaces n ++ v)) (blank m) (joined (spaces n) v (blank n) (word v (partial-bytes q v b)))))
range r t (inr x) = simples r t x

ranges : (rs : List (List Simple)) (t : List ℕ) → IsRangeSet rs t → NoAt t
ranges [] t x = absurd x
ranges (r ∷ []) t x = range r t x
ranges (r ∷ q ∷ more) t (u, v, m, n, a, b, e) =
    rw e (joined u (spaces m ++ (codes "||" ++ (spaces n ++ v))) (range r u a)
    (joined (spaces m) (codes "||" ++ (spaces n ++ v)) (blank m) (joined (spaces n) v (blank n) (ranges (q ∷ more) v b))))

letter : (b : ℕ) → is_ascii_alphabetic b ≡ true → is_at b ≡ false
letter b h = grind (arith, nat_tests)

tag_byte : (b : ℕ) → is_tag_byte b ≡ true → is_at b ≡ false
tag_byte b h = grind (arith, nat_tests)

tag_bytes : (t : List ℕ) → list_all is_tag_byte t ≡ true → NoAt t
tag_bytes [] h = refl
tag_bytes (b ∷ t) h = neither _ _ (tag_byte b (and-left (is_tag_byte b) _ h)) (tag_bytes t (and-right (is_tag_byte b) _ h))

tag : (t : List ℕ) → is_tag_text t ≡ true → NoAt t
tag [] h = refl
tag (b ∷ t) h = neither _ _ (letter b (and-left (is_ascii_alphabetic b) _ h)) (tag_bytes t (and-right (is_ascii_alphabetic b) _ h))

requirement : (t : List ℕ) → IsRequirement t → NoAt t
requirement t (inl (rs, x)) = ranges rs t x
requirement t (inr x) = tag t x.1

-- ---- texts cut at their last `@`

backwards : (xs : List ℕ) → NoAt xs → NoAt (reverse xs)
backwards [] h = refl
backwards (x ∷ xs) h =
    let end : NoAt (x ∷ []) = neither _ _ (or_left (is_at x) _ h) refl in
    rw (reverse-append (x ∷ []) xs) (joined (reverse xs) (x ∷ []) (backwards xs (or_right (is_at x) _ h)) end)

module _ (xs ys : List ℕ) (h : NoAt ys) where
  behind : suffix_len (λ b. not (is_at b)) (xs ++ 64 ∷ ys) ≡ length ys
  behind =
      let around : reverse (xs ++ 64 ∷ ys) ≡ reverse ys ++ 64 ∷ reverse xs =
      reverse-append xs (64 ∷ ys) ∙ ap (λ l. l ++ reverse xs) (reverse-append (64 ∷ []) ys) ∙ append_assoc (reverse ys) (64 ∷ []) (reverse xs) in
      ap (position_or_len is_at) around ∙ place is_at (reverse ys) (64 ∷ reverse xs) (backwards ys h) refl ∙ length-reverse ys

  long : length (xs ++ 64 ∷ ys) ≡ length xs + (length ys + 1)
  long = let e = length-append xs (64 ∷ ys) in omega (arith, e)

  before_at : before_last is_at (xs ++ 64 ∷ ys) ≡ xs
  before_at = take_at xs (64 ∷ ys) _ (let b = behind in let l = long in omega (arith, b, l))

  after_at : after_last is_at (xs ++ 64 ∷ ys) ≡ ys
  after_at =
      let n = length (xs ++ 64 ∷ ys) - suffix_len (λ b. not (is_at b)) (xs ++ 64 ∷ ys) in
      let here : length (xs ++ 64 ∷ []) ≡ n = let b = behind in let l = long in let s = length-append xs (64 ∷ []) in omega (arith, b, l, s) in
      ap (drop n) (sym (append_assoc xs (64 ∷ []) ys)) ∙ drop_at (xs ++ 64 ∷ []) ys n here

  cut_read : package_req (xs ++ 64 ∷ ys) ≡ named_req xs ys
  cut_read = λ i. named_req (before_at i) (after_at i)

none_before : (text : List ℕ) → NoAt text → before_last is_at text ≡ []
none_before text h =
    let all : suffix_len (λ b. not (is_at b)) text ≡ length text =
    ap (position_or_len is_at) (sym (append-nil (reverse text))) ∙ place is_at (reverse text) [] (backwards text h) refl ∙ length-reverse text in
    let n : length text - suffix_len (λ b. not (is_at b)) text - 1 ≡ 0 = omega (arith, all) in
    ap (λ k. take k text) n

abbrev Cut : List ℕ → Type 0
Cut text = (xs ys : List ℕ) × (text ≡ xs ++ 64 ∷ ys) × NoAt ys

cut : (text : List ℕ) → Cut text ⊎ NoAt text
cut [] = inr refl
cut (b ∷ text) = elim (cut text) [
  | inl (xs, ys, e, c) ↦ inl (b ∷ xs, ys, ap (λ l. b ∷ l) e, c)
  | inr c ↦ elim (cases_Bool (b == 64)) [
    | inl at ↦ inl ([], text, ap (λ x. x ∷ text) (eqb-true b 64 at), c)
    | inr other ↦ inr (neither _ _ other c)
  ]
]

-- ---- names

bare_is : (name : List ℕ) → is_bare_name name ≡ true → IsBareName name
bare_is name h =
    let some : nat_lt 0 (length name) ≡ true = and-left (nat_lt 0 (length name)) _ h in
    (grind (arith, nat_tests), not-true (list_any ends_name name) (and-right (nat_lt 0 (length name)) _ h))

is_bare : (name : List ℕ) → IsBareName name → is_bare_name name ≡ true
is_bare name x =
    let some : nat_lt 0 (length name) ≡ true = let l = x.0 in grind (arith, nat_tests) in
    rw (some, x.1) refl

scope_is : (name : List ℕ) → starts_with nat_eq name (codes "@") ≡ true → nat_lt 1 (length (before_first is_slash name)) ≡ true → IsScope (before_first is_slash name)
scope_is name at more =
    let t = drop 1 name in
    let s = before_first is_slash t in
    let first : name ≡ 64 ∷ t = begins (codes "@") name at in
    let scope : before_first is_slash name ≡ 64 ∷ s = ap (before_first is_slash) first ∙ rw one-add refl in
    let some : nat_lt 1 (length (64 ∷ s)) ≡ true = ap (λ l. nat_lt 1 (length l)) (sym scope) ∙ more in
    (s, scope, grind (arith, nat_tests), clear is_slash t)

slash_in : (name : List ℕ) → IsBareName (after_first is_slash name) → position_or_len is_slash name < length name
slash_in name x = elim (cases_lt (position_or_len is_slash name) (length name)) [
  | inl lt ↦ lt
  | inr ge ↦
      let none : after_first is_slash name ≡ [] = drop_all (position_or_len is_slash name + 1) name (omega arith) in
      let no : 0 < length (after_first is_slash name) = x.0 in
      absurd (omega (arith, no, ap length none))
]

scoped_is : (name : List ℕ) → starts_with nat_eq name (codes "@") ≡ true → is_scoped_name name ≡ true → IsScopedName name
scoped_is name at h =
    let scope : List ℕ = before_first is_slash name in
    let bare : List ℕ = after_first is_slash name in
    let more : nat_lt 1 (length scope) ≡ true = and-left (nat_lt 1 (length scope)) _ h in
    let named : IsBareName bare = bare_is bare (and-right (nat_lt 1 (length scope)) _ h) in
    let inside = slash_in name named in
    let slash = eqb-true _ 47 (passes_at_first is_slash name 0 inside) in
    (scope, bare, scope_is name at more, named, split_at_first is_slash name 0 inside ∙ ap (λ b. scope ++ b ∷ bare) slash)

name_is : (name : List ℕ) → is_package_name name ≡ true → IsName true name
name_is name h = elim (cases_Bool (starts_with nat_eq name (codes "@"))) [
  | inl at ↦ inl (scoped_is name at (rw at at h))
  | inr other ↦ inr (refl, bare_is name (rw other at h))
]

starts : (name s rest : List ℕ) → name ≡ 64 ∷ s → starts_with nat_eq (name ++ rest) (codes "@") ≡ true
starts name s rest e = rw e refl

no_start : (name : List ℕ) → IsBareName name → starts_with nat_eq name (codes "@") ≡ false
no_start [] x = absurd (omega (arith, x.0))
no_start (b ∷ t) x =
    let h : (b == 64) ≡ false = or_left (b == 64) (b == 47) (or_left (ends_name b) _ x.1) in
    let e : (64 == b) ≡ false = grind (arith, nat_tests) in
    rw e refl

is_name : (name : List ℕ) → IsName true name → is_package_name name ≡ true
is_name name (inr (may, x)) = rw (no_start name x) (is_bare name x)
is_name name (inl (scope, bare, (s, first, some, whole), named, e)) =
    let clean : list_any is_slash scope ≡ false = rw first whole in
    let front : before_first is_slash name ≡ scope = ap (before_first is_slash) e ∙ before is_slash scope (47 ∷ bare) clean refl in
    let back : after_first is_slash name ≡ bare = ap (after_first is_slash) e ∙ after is_slash scope 47 bare clean refl in
    let at : starts_with nat_eq name (codes "@") ≡ true = rw e (starts scope s (47 ∷ bare) first) in
    let more : nat_lt 1 (length scope) ≡ true = rw first (grind (arith, nat_tests)) in
    rw (at, front, back, more) (is_bare bare named)

-- ---- requirements of packages

record IsNamed (name text : List ℕ) (req : PackageReq) : Type 0 where
  names : is_package_name name ≡ true
  requires : is_requirement text ≡ true
  is : ◌≡◌ {A = PackageReq} (record { name = name; version_req = text }) req

named : (name text : List ℕ) (req : PackageReq) → named_req name text ≡ Some req → IsNamed name text req
named name text req h = elim (cases_Bool (is_package_name name)) [
  | inr n ↦ cc (rw n at h)
  | inl y ↦ elim (cases_Bool (is_requirement text)) [
    | inr n ↦ cc (rw (y, n) at h)
    | inl z ↦ record { names = y; requires = z; is = some_value _ _ (rw (y, z) at h) }
  ]
]

pub sound : (text : List ℕ) (req : PackageReq) → package_req text ≡ Some req → IsPackageReq req text
sound text req h = elim (cut text) [
  | inl (xs, ys, e, c) ↦
      let n = named xs ys req (sym (cut_read xs ys c) ∙ ap package_req (sym e) ∙ h) in
      subst (λ r. IsPackageReq r text) n.is (name_is xs n.names, is_one ys n.requires, e ∙ sym (append_assoc xs (64 ∷ []) ys))
  | inr c ↦ cc (ap (λ xs. named_req xs (after_last is_at text)) (sym (none_before text c)) ∙ h)
]

pub complete : (req : PackageReq) (text : List ℕ) → IsPackageReq req text → package_req text ≡ Some req
complete req text (name, is, e) =
    let parts : text ≡ req.name ++ 64 ∷ req.version_req = e ∙ append_assoc req.name (64 ∷ []) req.version_req in
    ap package_req parts ∙ cut_read req.name req.version_req (requirement req.version_req is) ∙ rw (is_name req.name name, one_is req.version_req is) refl
