-- The reader's partial versions are those of the grammar.
use Rattle.std.proofs.Common.{◌≡◌, ◌<◌, ◌^◌, ℕ, ◌++◌, ◌⊎◌, List, [], ◌∷◌, Option, Some, None, Ok, Err, false, refl, sym, ap, ◌∙◌, inl, inr, append-nil, subst}
use Rattle.std.specs.Fmt.{decimal}
use Rattle.std.specs.Prelude.{Result}
use Rattle.semver.specs.Identifiers.{marked, parts_text}
use Rattle.semver.specs.Parse.{version_parts}
use Rattle.semver.specs.declared.error.Error.{Error}
use Rattle.semver.proofs.Numerals.{starts_digit}
use Rattle.semver_npm.specs.Grammar.{IsPartial, IsWhole, IsXr, partial_from}
use Rattle.semver_npm.specs.Reader.{◌>>=◌, dotted_at, full_from, full_of, or_else, part_at, partial_of, partial_of_parts, parts_in, whole_parts}
use Rattle.semver_npm.specs.Versions.{IsVersion, Ver}
use Rattle.semver_npm.specs.declared.simple.Partial.{Partial}
use Rattle.semver_npm.specs.declared.simple.Partial.TheVariants.{Full}
use Rattle.semver_npm.proofs.Numbers.{bind_some, dotted_none, dotted_read, dotted_sound, part_read, part_sound, some_value, starts_dot}
use Rattle.semver_npm.proofs.VersionLemmas.{is_version, version_read}

abbrev Dotted : List ℕ → Option ℕ → List ℕ → Type 0
Dotted xs b rest = ((None ≡ b) × ((xs ≡ rest) × (starts_dot rest ≡ false))) ⊎ ((v : List ℕ) × IsXr b v × (xs ≡ 46 ∷ (v ++ rest)))

-- the parts of a word, put together
joined : (w : List ℕ) (a b c : Option ℕ) (u r1 r2 r3 : List ℕ) (p : Partial) → IsXr a u → w ≡ u ++ r1 → Dotted r1 b r2 → Dotted r2 c r3 → r3 ≡ [] → p ≡ partial_from a b c → IsPartial p w
joined w a b c u r1 r2 r3 p x e (inl s) (inl t) empty is =
    let nil : r1 ≡ [] = s.1.0 ∙ (t.1.0 ∙ empty) in
    let whole : u ≡ w = sym (append-nil u) ∙ (ap (λ r. u ++ r) (sym nil) ∙ sym e) in
    inl (a, subst (λ y. IsXr a y) whole x, is ∙ (ap (λ o. partial_from a o c) (sym s.0) ∙ ap (λ o. partial_from a None o) (sym t.0)))
joined w a b c u r1 r2 r3 p x e (inl s) (inr t) empty is = cc (rw t.2 at s.1.1)
joined w a b c u r1 r2 r3 p x e (inr s) (inl t) empty is =
    let nil : r2 ≡ [] = t.1.0 ∙ empty in
    let rest : r1 ≡ 46 ∷ s.0 = s.2 ∙ (ap (λ r. 46 ∷ (s.0 ++ r)) nil ∙ ap (λ l. 46 ∷ l) (append-nil s.0)) in
    inr (inl (a, b, u, s.0, x, s.1, e ∙ ap (λ r. u ++ r) rest, is ∙ ap (λ o. partial_from a b o) (sym t.0)))
joined w a b c u r1 r2 r3 p x e (inr s) (inr t) empty is =
    let last : r2 ≡ 46 ∷ t.0 = t.2 ∙ (ap (λ r. 46 ∷ (t.0 ++ r)) empty ∙ ap (λ l. 46 ∷ l) (append-nil t.0)) in
    let rest : r1 ≡ 46 ∷ (s.0 ++ 46 ∷ t.0) = s.2 ∙ ap (λ r. 46 ∷ (s.0 ++ r)) last in
    inr (inr (inl (a, b, c, u, s.0, t.0, x, s.1, t.1, e ∙ ap (λ r. u ++ r) rest, is)))

nothing_left : (a b c : Option ℕ) (rest : List ℕ) (q : Option ℕ × Option ℕ × Option ℕ) → whole_parts a b c rest ≡ Some q → (rest ≡ []) × ((a, b, c) ≡ q)
nothing_left a b c [] q h = (refl, some_value _ _ h)
nothing_left a b c (x ∷ rest) q h = cc h

parts_sound : (w : List ℕ) (q : Option ℕ × Option ℕ × Option ℕ) (p : Partial) → parts_in w ≡ Some q → p ≡ partial_from q.0 q.1 q.2 → IsPartial p w
parts_sound w q p h is =
    let r1 = bind_some (part_at w) _ _ h in
    let r2 = bind_some (dotted_at r1.0.1) _ _ r1.2 in
    let r3 = bind_some (dotted_at r2.0.1) _ _ r2.2 in
    let end = nothing_left _ _ _ _ q r3.2 in
    let s = part_sound w r1.0.0 r1.0.1 r1.1 in
    joined w r1.0.0 r2.0.0 r3.0.0 s.0 r1.0.1 r2.0.1 r3.0.1 p s.1 s.2 (dotted_sound _ _ _ r2.1) (dotted_sound _ _ _ r3.1) end.0
    (is ∙ ap (λ (y : Option ℕ × Option ℕ × Option ℕ). partial_from y.0 y.1 y.2) (sym end.1))

full_sound : (w : List ℕ) (r : Result Ver Error) (p : Partial) → version_parts w ≡ r → full_from r ≡ Some p → IsWhole p w
full_sound w (Ok v) p e h = (v, is_version w v e, sym (some_value _ _ h))
full_sound w (Err x) p e h = cc h

by_parts : (w : List ℕ) (r : Option (Option ℕ × Option ℕ × Option ℕ)) (p : Partial) → parts_in w ≡ r → or_else (r >>= partial_of_parts) (full_of w) ≡ Some p → IsPartial p w
by_parts w (Some q) p e h = parts_sound w q p e (sym (some_value _ _ h))
by_parts w None p e h = inr (inr (inr (full_sound w (version_parts w) p refl h)))

-- a partial version that was read is one of the grammar
pub partial_sound : (w : List ℕ) (p : Partial) → partial_of w ≡ Some p → IsPartial p w
partial_sound w p h = by_parts w (parts_in w) p refl h

three_parts : (w : List ℕ) (a b c : Option ℕ) (r1 r2 r3 : List ℕ) → part_at w ≡ Some (a, r1) → dotted_at r1 ≡ Some (b, r2) → dotted_at r2 ≡ Some (c, r3) → parts_in w ≡ whole_parts a b c r3
three_parts w a b c r1 r2 r3 h1 h2 h3 = rw (h1, h2, h3) refl

from_parts : (w : List ℕ) (a b c : Option ℕ) (p : Partial) → parts_in w ≡ Some (a, b, c) → p ≡ partial_from a b c → partial_of w ≡ Some p
from_parts w a b c p h is = rw h (ap Some (sym is))

from_version : (w : List ℕ) (v : Ver) → parts_in w ≡ None → IsVersion w v → partial_of w ≡ Some (Full v)
from_version w v h is = rw h (ap full_from (version_read w v is))

alone : (b : Option ℕ) (v : List ℕ) → IsXr b v → dotted_at (46 ∷ v) ≡ Some (b, [])
alone b v x = ap (λ l. dotted_at (46 ∷ l)) (sym (append-nil v)) ∙ dotted_read b v [] x refl

-- the text after a version's numbers
abbrev ending : List ℕ → List ℕ → List ℕ
ending pre build = marked 45 pre ++ marked 43 build

no_digit : (pre build : List ℕ) → starts_digit (ending pre build) ≡ false
no_digit [] [] = refl
no_digit [] (b ∷ rest) = refl
no_digit (b ∷ rest) build = refl

version_parts_in : (a b c : ℕ) (pre build : List ℕ) → a < 2 ^ 64 → b < 2 ^ 64 → c < 2 ^ 64
    → parts_in (parts_text (a, b, c, pre, build)) ≡ whole_parts (Some a) (Some b) (Some c) (ending pre build)
version_parts_in a b c pre build la lb lc =
    three_parts _ (Some a) (Some b) (Some c) _ _ _
    (part_read (Some a) (decimal a) _ (la, refl) refl)
    (dotted_read (Some b) (decimal b) _ (lb, refl) refl)
    (dotted_read (Some c) (decimal c) (ending pre build) (lc, refl) (no_digit pre build))

whole_read : (a b c : ℕ) (pre build w : List ℕ) → IsVersion w (a, b, c, pre, build) → partial_of w ≡ Some (Full (a, b, c, pre, build))
whole_read a b c [] [] w is =
    from_parts w (Some a) (Some b) (Some c) _ (ap parts_in is.1 ∙ version_parts_in a b c [] [] is.0.0 is.0.1 is.0.2) refl
whole_read a b c [] (y ∷ build) w is =
    from_version w _ (ap parts_in is.1 ∙ version_parts_in a b c [] (y ∷ build) is.0.0 is.0.1 is.0.2) is
whole_read a b c (x ∷ pre) build w is =
    from_version w _ (ap parts_in is.1 ∙ version_parts_in a b c (x ∷ pre) build is.0.0 is.0.1 is.0.2) is

-- a partial version of the grammar is read
pub partial_read : (p : Partial) (w : List ℕ) → IsPartial p w → partial_of w ≡ Some p
partial_read p w (inl g) =
    from_parts w g.0 None None p
    (three_parts w g.0 None None [] [] [] (ap part_at (sym (append-nil w)) ∙ part_read g.0 w [] g.1 refl) (dotted_none [] refl) (dotted_none [] refl)) g.2
partial_read p w (inr (inl (a, b, u, v, x, y, e, is))) =
    from_parts w a b None p
    (ap parts_in e ∙ three_parts _ a b None (46 ∷ v) [] [] (part_read a u (46 ∷ v) x refl) (alone b v y) (dotted_none [] refl)) is
partial_read p w (inr (inr (inl (a, b, c, u, v, y, xa, xb, xc, e, is)))) =
    from_parts w a b c p
    (ap parts_in e ∙ three_parts _ a b c (46 ∷ (v ++ 46 ∷ y)) (46 ∷ y) [] (part_read a u _ xa refl) (dotted_read b v (46 ∷ y) xb refl) (alone c y xc)) is
partial_read p w (inr (inr (inr (v, is, e)))) = whole_read v.0 v.1 v.2 v.3 v.4 w is ∙ ap Some (sym e)
