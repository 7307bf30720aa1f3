-- The reader takes exactly the requirements of the grammar.
use Rattle.std.proofs.Common.{◌≡◌, ◌||◌, ℕ, List, length, Option, Some, None, Ok, Err, Bool, true, false, refl, sym, ap, ◌∙◌, inl, inr}
use Rattle.std.proofs.lemmas.Bool.{cases_Bool}
use Rattle.std.specs.Prelude.{Result, is_some}
use Rattle.spec_base.specs.Refusal.{Answers}
use Rattle.spec_base.specs.declared.refusal.Refusal.{Refusal}
use Rattle.spec_base.specs.declared.refusal.Refusal.TheVariants.{Memory, Is}
use Rattle.semver_npm.specs.Grammar.{IsRangeSet, IsRequirement, IsTag, is_tag_text}
use Rattle.semver_npm.specs.Meaning.{in_ranges}
use Rattle.semver_npm.specs.Reader.{is_requirement, is_wildcard, is_wildcard_read, matches_read, ranges_of, req_matches, requirement_of, tag_of, tag_read}
use Rattle.semver_npm.specs.Requirements.{IsMatch, IsRead, IsTagOf, IsWildcard}
use Rattle.semver_npm.specs.Versions.{Ver}
use Rattle.semver_npm.specs.declared.requirement.VersionReqFault.{VersionReqFault}
use Rattle.semver_npm.specs.declared.simple.Simple.{Simple}
use Rattle.semver_npm.proofs.RangesRead.{ranges_read, set_length}
use Rattle.semver_npm.proofs.RangesSound.{ranges_sound}

pub sound : (text : List ℕ) (rs : List (List Simple)) → ranges_of text ≡ Some rs → IsRangeSet rs text
sound text rs h = ranges_sound (length text) text rs h

pub complete : (rs : List (List Simple)) (text : List ℕ) → IsRangeSet rs text → ranges_of text ≡ Some rs
complete rs text x = ranges_read rs text (length text) x (set_length rs text x)

by_ranges : (text : List ℕ) (o : Option (List (List Simple))) → ranges_of text ≡ o → (is_some o || is_tag_text text) ≡ true → IsRequirement text
by_ranges text (Some rs) e h = inl (rs, sound text rs e)
by_ranges text None e h = inr ((λ rs x. cc (sym (complete rs text x) ∙ e)), h)

pub is_one : (text : List ℕ) → is_requirement text ≡ true → IsRequirement text
is_one text h = by_ranges text (ranges_of text) refl h

or_true : (x y : Bool) → y ≡ true → (x || y) ≡ true
or_true true y h = refl
or_true false y h = h

pub one_is : (text : List ℕ) → IsRequirement text → is_requirement text ≡ true
one_is text (inl (rs, x)) = rw (complete rs text x) refl
one_is text (inr t) = or_true (is_some (ranges_of text)) (is_tag_text text) t.1

pub meaning : (rs : List (List Simple)) (text : List ℕ) (v : Ver) → IsRangeSet rs text → req_matches text v ≡ in_ranges rs v
meaning rs text v x = ap (λ o. matches_read o v) (complete rs text x)

tag_of_none : (text : List ℕ) (v : Ver) (o : Option (List (List Simple))) → ranges_of text ≡ o → IsTag text → matches_read o v ≡ false
tag_of_none text v None e t = refl
tag_of_none text v (Some rs) e t = absurd (t.0 rs (sound text rs e))

pub tags : (text : List ℕ) (v : Ver) → IsTag text → req_matches text v ≡ false
tags text v t = tag_of_none text v (ranges_of text) refl t

abbrev fault_text : Result (List ℕ) VersionReqFault → List ℕ
fault_text (Ok text) = text
fault_text (Err e) = e.text

-- what the reader computes of a text is what the grammar says of it
pub exactly_read : (answer : Result (List ℕ) (Refusal VersionReqFault)) (text : List ℕ) → Answers answer (requirement_of text) → IsRead answer text
exactly_read answer text h = elim (cases_Bool (is_requirement text)) [
  | inl y ↦ taken answer text y (rw y at h)
  | inr n ↦ refused answer text n (rw n at h)
]
  where
    taken : (answer : Result (List ℕ) (Refusal VersionReqFault)) (text : List ℕ) → is_requirement text ≡ true → Answers answer (Ok text) → IsRead answer text
    taken (Ok req) text y h = (cc, is_one text y)
    taken (Err Memory) text y h = tt
    taken (Err (Is e)) text y h = cc h

    refused : (answer : Result (List ℕ) (Refusal VersionReqFault)) (text : List ℕ) → is_requirement text ≡ false → Answers answer (Err (record { text = text })) → IsRead answer text
    refused (Ok req) text n h = cc h
    refused (Err Memory) text n h = tt
    refused (Err (Is e)) text n h = (sym (ap fault_text h), λ x. cc (sym n ∙ one_is text x))

pub exactly_matches : (answer : Bool) (text : List ℕ) (v : Ver) → answer ≡ req_matches text v → IsMatch answer text v
exactly_matches answer text v h = (λ rs x. h ∙ meaning rs text v x, λ t. h ∙ tags text v t)

tag_none : (text : List ℕ) → IsTag text → ranges_of text ≡ None
tag_none text t = go (ranges_of text) refl
  where
    go : (o : Option (List (List Simple))) → ranges_of text ≡ o → o ≡ None
    go None e = refl
    go (Some rs) e = absurd (t.0 rs (sound text rs e))

pub exactly_tag : (answer : Option (List ℕ)) (text : List ℕ) → answer ≡ tag_of text → IsTagOf answer text
exactly_tag answer text h = (λ rs x. h ∙ ap (λ o. tag_read o text) (complete rs text x), λ t. h ∙ ap (λ o. tag_read o text) (tag_none text t))

pub exactly_wildcard : (answer : Bool) (text : List ℕ) → answer ≡ is_wildcard text → IsWildcard answer text
exactly_wildcard answer text h = (λ rs x. h ∙ ap is_wildcard_read (complete rs text x), λ t. h ∙ ap is_wildcard_read (tag_none text t))
