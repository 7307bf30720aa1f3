-- The reader takes exactly the references of the grammar.
use Rattle.std.proofs.Common.{◌≡◌, ◌<◌, ℕ, ◌+◌, ◌==◌, ◌||◌, ◌++◌, ◌⊎◌, List, [], ◌∷◌, length, drop, get_or, Option, Some, None, Ok, Err, Bool, true, false, refl, sym, ap, ◌∙◌, arith, inl, inr, nat_eq, append-nil, append_assoc, subst}
use Rattle.std.proofs.Math.Numerals.{one-add}
use Rattle.std.proofs.lemmas.Bool.{cases_Bool, cases_lt, eqb-true}
use Rattle.std.proofs.lemmas.Bool.Decides.{nat_tests}
use Rattle.std.proofs.lemmas.List.{drop-drop, drop_all, drop_at}
use Rattle.std.proofs.lemmas.List.Sums.{passes_at_first, split_at_first}
use Rattle.std.specs.List.{after_first, before_first, list_any, position_or_len, starts_with}
use Rattle.std.specs.Prelude.{Result, codes}
use Rattle.spec_base.specs.Refusal.{Answers}
use Rattle.spec_base.specs.declared.refusal.Refusal.{Refusal}
use Rattle.spec_base.specs.declared.refusal.Refusal.TheVariants.{Memory, Is}
use Rattle.semver_npm.specs.Reader.{is_requirement}
use Rattle.semver_npm.specs.ReferenceGrammar.{IsBareName, IsJsr, IsName, IsNpm, IsRefused, IsNamed, IsPath, IsReference, IsReferred, IsScope, IsScopedName, IsTail, stops}
use Rattle.semver_npm.specs.References.{Referred, after_end, after_name, as_jsr, as_npm, by_body, by_plain_name, by_requirement, by_scoped_name, ends_name, is_slash, jsr_reference, npm_reference, reference_of, sub_path_of, without_slash}
use Rattle.semver_npm.specs.declared.npm_error.PackageReqReferenceParseError.{PackageReqReferenceParseError}
use Rattle.semver_npm.specs.declared.npm_error.PackageReqReferenceParseError.TheVariants.{NoName, BadVersion}
use Rattle.semver_npm.specs.declared.reference.JsrPackageReqReference.{JsrPackageReqReference}
use Rattle.semver_npm.specs.declared.reference.NpmPackageReqReference.{NpmPackageReqReference}
use Rattle.semver_npm.specs.declared.reference.PackageReqReference.{PackageReqReference}
use Rattle.semver_npm.proofs.NameCuts.{after, after_none, before, begins, begun, behind, clear, or_left, or_right, stopped, whole}
use Rattle.semver_npm.proofs.Requirements.{is_one, one_is}

-- a name without scope begins with neither `@` nor `/`
no_at : (name rest : List ℕ) → IsBareName name → starts_with nat_eq (name ++ rest) (codes "@") ≡ false
no_at [] rest x = absurd (omega (arith, x.0))
no_at (b ∷ t) rest x =
    let h : (b == 64) ≡ false = or_left (b == 64) (b == 47) (or_left (ends_name b) _ x.1) in
    let e : (64 == b) ≡ false = grind (arith, nat_tests) in
    rw e refl

no_slash : (plain : Bool) (name rest : List ℕ) → IsName plain name → starts_with nat_eq (name ++ rest) (codes "/") ≡ false
no_slash plain name rest (inl (scope, bare, sc, ba, e)) = rw (e, sc.1) refl
no_slash plain [] rest (inr x) = absurd (omega (arith, x.1.0))
no_slash plain (b ∷ t) rest (inr x) =
    let h : (b == 47) ≡ false = or_right (b == 64) (b == 47) (or_left (ends_name b) _ x.1.1) in
    let e : (47 == b) ≡ false = grind (arith, nat_tests) in
    rw e refl

filled : (xs : List ℕ) → 0 < length xs → (length xs == 0) ≡ false
filled xs h = grind (arith, nat_tests)

some_length : (xs : List ℕ) → (length xs == 0) ≡ false → 0 < length xs
some_length xs h = grind (arith, nat_tests)

plain_by : (text body name rest : List ℕ) → before_first ends_name body ≡ name → after_end body ≡ rest → (length name == 0) ≡ false → by_plain_name text body ≡ after_name text name rest
plain_by text body name rest e1 e2 e3 = rw (e1, e2, e3) refl

scoped_by : (text body scope back bare rest : List ℕ) → before_first is_slash body ≡ scope → after_first is_slash body ≡ back → before_first ends_name back ≡ bare → after_end back ≡ rest
    → (length scope == 1) ≡ false → (length bare == 0) ≡ false → by_scoped_name text body ≡ after_name text (scope ++ codes "/" ++ bare) rest
scoped_by text body scope back bare rest e1 e2 e3 e4 e5 e6 = rw (e1, e2, e3, e4, e5, e6) refl

named_plain : (text name rest : List ℕ) → IsBareName name → stops ends_name rest ≡ true → by_body text true (name ++ rest) ≡ after_name text name rest
named_plain text name rest x s =
    let other = no_at name rest x in
    rw other (plain_by text (name ++ rest) name rest (before ends_name name rest x.1 s) (behind ends_name name rest x.1 s) (filled name x.0))

long_scope : (scope s : List ℕ) → scope ≡ 64 ∷ s → 0 < length s → (length scope == 1) ≡ false
long_scope scope s e h = rw e (grind (arith, nat_tests))

by_scope : (text body : List ℕ) (plain : Bool) → starts_with nat_eq body (codes "@") ≡ true → by_body text plain body ≡ by_scoped_name text body
by_scope text body plain h = rw h refl

named_scoped : (text : List ℕ) (plain : Bool) (name rest : List ℕ) → IsScopedName name → stops ends_name rest ≡ true → by_body text plain (name ++ rest) ≡ after_name text name rest
named_scoped text plain name rest (scope, bare, sc, ba, e) s =
    let back : List ℕ = bare ++ rest in
    let body : List ℕ = scope ++ 47 ∷ back in
    let same : name ++ rest ≡ body = ap (λ l. l ++ rest) e ∙ append_assoc scope (47 ∷ bare) rest in
    let none : list_any is_slash scope ≡ false = rw sc.1 sc.3 in
    let at : starts_with nat_eq body (codes "@") ≡ true = rw sc.1 refl in
    let front : before_first is_slash body ≡ scope = before is_slash scope (47 ∷ back) none refl in
    let behind_slash : after_first is_slash body ≡ back = after is_slash scope 47 back none refl in
    let joined : scope ++ codes "/" ++ bare ≡ name = append_assoc scope (codes "/") bare ∙ sym e in
    ap (by_body text plain) same
    ∙ (by_scope text body plain at
    ∙ (scoped_by text body scope back bare rest front behind_slash (before ends_name bare rest ba.1 s) (behind ends_name bare rest ba.1 s) (long_scope scope sc.0 sc.1 sc.2) (filled bare ba.0)
    ∙ ap (λ n. after_name text n rest) joined))

-- what is read behind a name
named : (text : List ℕ) (plain : Bool) (name rest : List ℕ) → IsName plain name → stops ends_name rest ≡ true → by_body text plain (name ++ rest) ≡ after_name text name rest
named text plain name rest (inl x) s = named_scoped text plain name rest x s
named text plain name rest (inr x) s = ap (λ p. by_body text p (name ++ rest)) x.0 ∙ named_plain text name rest x.1 s

-- a name at the front, and what stands behind it
abbrev Found : Bool → List ℕ → Type 0
Found plain body = (name rest : List ℕ) × IsName plain name × (stops ends_name rest ≡ true) × (body ≡ name ++ rest)

scope_found : (body : List ℕ) → starts_with nat_eq body (codes "@") ≡ true → (length (before_first is_slash body) == 1) ≡ false → IsScope (before_first is_slash body)
scope_found body at long =
    let t = drop 1 body in
    let s = before_first is_slash t in
    let first : body ≡ 64 ∷ t = begins (codes "@") body at in
    let scope : before_first is_slash body ≡ 64 ∷ s = ap (before_first is_slash) first ∙ rw one-add refl in
    let some : (length (64 ∷ s) == 1) ≡ false = ap (λ l. length l == 1) (sym scope) ∙ long in
    (s, scope, grind (arith, nat_tests), clear is_slash t)

slash_in : (body : List ℕ) → (length (before_first ends_name (after_first is_slash body)) == 0) ≡ false → position_or_len is_slash body < length body
slash_in body h = elim (cases_lt (position_or_len is_slash body) (length body)) [
  | inl lt ↦ lt
  | inr ge ↦
      let none : after_first is_slash body ≡ [] = drop_all (position_or_len is_slash body + 1) body (omega arith) in
      cc (rw none at h)
]

scoped_found : (plain : Bool) (body : List ℕ) → starts_with nat_eq body (codes "@") ≡ true → (length (before_first is_slash body) == 1) ≡ false
    → (length (before_first ends_name (after_first is_slash body)) == 0) ≡ false → Found plain body
scoped_found plain body at long some =
    let scope : List ℕ = before_first is_slash body in
    let back : List ℕ = after_first is_slash body in
    let bare : List ℕ = before_first ends_name back in
    let rest : List ℕ = after_end back in
    let in_body = slash_in body some in
    let slash : get_or body (position_or_len is_slash body) 0 ≡ 47 = eqb-true _ 47 (passes_at_first is_slash body 0 in_body) in
    let split : body ≡ scope ++ 47 ∷ back = split_at_first is_slash body 0 in_body ∙ ap (λ b. scope ++ b ∷ back) slash in
    let parts : body ≡ (scope ++ 47 ∷ bare) ++ rest = split ∙ (ap (λ l. scope ++ 47 ∷ l) (whole ends_name back) ∙ sym (append_assoc scope (47 ∷ bare) rest)) in
    (scope ++ 47 ∷ bare, rest, inl (scope, bare, scope_found body at long, (some_length bare some, clear ends_name back), refl), stopped ends_name back, parts)

found : (text : List ℕ) (plain : Bool) (body : List ℕ) → (by_body text plain body ≡ Err (NoName text)) ⊎ Found plain body
found text plain body = elim (cases_Bool (starts_with nat_eq body (codes "@"))) [
  | inl at ↦ elim (cases_Bool (length (before_first is_slash body) == 1 || length (before_first ends_name (after_first is_slash body)) == 0)) [
    | inl empty ↦ inl (rw (at, empty) refl)
    | inr full ↦ inr (scoped_found plain body at (or_left (length (before_first is_slash body) == 1) _ full) (or_right (length (before_first is_slash body) == 1) _ full))
  ]
  | inr other ↦ elim (cases_Bool plain) [
    | inr scoped ↦ inl (rw (other, scoped) refl)
    | inl may ↦ elim (cases_Bool (length (before_first ends_name body) == 0)) [
      | inl empty ↦ inl (rw (other, may, empty) refl)
      | inr full ↦ inr (before_first ends_name body, after_end body, inr (may, (some_length (before_first ends_name body) full, clear ends_name body)), stopped ends_name body, whole ends_name body)
    ]
  ]
]

-- a path is nothing, or stands behind a slash
path_shape : (path : Option (List ℕ)) (t : List ℕ) → IsPath path t → ((t ≡ []) × (path ≡ None)) ⊎ ((p : List ℕ) × (t ≡ 47 ∷ p) × (sub_path_of p ≡ path))
path_shape None t (inl e) = inl (e, refl)
path_shape None t (inr e) = inr ([], e, refl)
path_shape (Some p) t x = inr (p, x.1, rw (filled p x.0) refl)

-- a requirement and a path, cut at the slash
cut_path : (req t : List ℕ) (path : Option (List ℕ)) → list_any is_slash req ≡ false → IsPath path t
    → (end : List ℕ) × (before_first is_slash (req ++ t) ≡ req) × (after_first is_slash (req ++ t) ≡ end) × (sub_path_of end ≡ path)
cut_path req t path h x = elim (path_shape path t x) [
  | inl e ↦ ([], before is_slash req t h (rw e.0 refl), ap (λ l. after_first is_slash (req ++ l)) e.0 ∙ (ap (after_first is_slash) (append-nil req) ∙ after_none is_slash req h), sym e.1)
  | inr e ↦ (e.0, before is_slash req t h (rw e.1 refl), ap (λ l. after_first is_slash (req ++ l)) e.1 ∙ after is_slash req 47 e.0 h refl, e.2)
]

path_no_at : (path : Option (List ℕ)) (t : List ℕ) → IsPath path t → starts_with nat_eq t (codes "@") ≡ false
path_no_at path t x = elim (path_shape path t x) [
  | inl e ↦ rw e.0 refl
  | inr e ↦ rw e.1 refl
]

-- what stands behind a name is read
tail_read : (text name req : List ℕ) (path : Option (List ℕ)) (rest : List ℕ) → IsTail req path rest
    → (end : List ℕ) × (after_name text name rest ≡ by_requirement text name req end) × (sub_path_of end ≡ path)
tail_read text name req path rest (inl x) =
    let c = cut_path [] rest path refl x.1 in
    (c.0, rw (path_no_at path rest x.1, c.2) (ap (λ r. by_requirement text name r c.0) (sym x.0)), c.3)
tail_read text name req path rest (inr (t, h, x, e)) =
    let c = cut_path req t path h x in
    (c.0, ap (after_name text name) e ∙ rw (c.1, c.2) refl, c.3)

path_of : (u : List ℕ) → stops is_slash u ≡ true → IsPath (sub_path_of (drop 1 u)) u
path_of [] h = inl refl
path_of (b ∷ []) h = inr (ap (λ x. x ∷ []) (eqb-true b 47 h))
path_of (b ∷ c ∷ w) h =
    let some : (length (c ∷ w) == 0) ≡ false = grind (arith, nat_tests) in
    rw some (omega arith, ap (λ x. x ∷ c ∷ w) (eqb-true b 47 h))

rest_path : (t : List ℕ) → IsPath (sub_path_of (after_first is_slash t)) (drop (position_or_len is_slash t) t)
rest_path t = rw (← drop-drop 1 (position_or_len is_slash t) t) (path_of (drop (position_or_len is_slash t) t) (stopped is_slash t))

-- behind a name stands a requirement, or none, and a path
tail_found : (text name rest : List ℕ) → stops ends_name rest ≡ true
    → (req end : List ℕ) × (after_name text name rest ≡ by_requirement text name req end) × IsTail req (sub_path_of end) rest
tail_found text name [] h = (codes "*", [], refl, inl (refl, inl refl))
tail_found text name (b ∷ t) h = elim (cases_Bool (b == 64)) [
  | inl at ↦
      let req = before_first is_slash t in (
        req,
        after_first is_slash t,
        ap (λ x. after_name text name (x ∷ t)) (eqb-true b 64 at),
        inr (drop (position_or_len is_slash t) t, clear is_slash t, rest_path t, ap (λ x. x ∷ t) (eqb-true b 64 at) ∙ ap (λ l. 64 ∷ l) (whole is_slash t)),
      )
  | inr other ↦
      let slash : (b == 47) ≡ true = rw other at h in
      (codes "*", t, ap (λ x. after_name text name (x ∷ t)) (eqb-true b 47 slash), inl (refl, path_of (b ∷ t) slash))
]

-- behind the scheme and the optional slash
body_of : (scheme : List ℕ) (plain : Bool) (text name rest : List ℕ) → IsNamed scheme plain name rest text → without_slash (drop (length scheme) text) ≡ name ++ rest
body_of scheme plain text name rest (n, s, inl e) = ap (λ t. without_slash (drop (length scheme) t)) e ∙ rw (drop_at scheme (name ++ rest) (length scheme) refl, no_slash plain name rest n) refl
body_of scheme plain text name rest (n, s, inr e) = ap (λ t. without_slash (drop (length scheme) t)) e ∙ rw (drop_at scheme (47 ∷ (name ++ rest)) (length scheme) refl) refl

slash_cut : (u : List ℕ) → (u ≡ without_slash u) ⊎ (u ≡ 47 ∷ without_slash u)
slash_cut u = elim (cases_Bool (starts_with nat_eq u (codes "/"))) [
  | inl slash ↦ inr (rw slash (begins (codes "/") u slash))
  | inr other ↦ inl (rw other refl)
]

good : (text name req end : List ℕ) → is_requirement req ≡ true
    → ◌≡◌ {A = Referred} (by_requirement text name req end) (Ok (record { req = record { name = name; version_req = req }; sub_path = sub_path_of end }))
good text name req end h = rw h refl

bad : (text name req end : List ℕ) → is_requirement req ≡ false → ◌≡◌ {A = Referred} (by_requirement text name req end) (Err (BadVersion text))
bad text name req end h = rw h refl

-- a reference of the grammar is read
read : (scheme : List ℕ) (plain : Bool) (text : List ℕ) (r : PackageReqReference) → IsReference scheme plain r text → ◌≡◌ {A = Referred} (by_body text plain (without_slash (drop (length scheme) text))) (Ok r)
unfolding IsReference
read scheme plain text r (rest, n, t, is) =
    let tail = tail_read text r.req.name r.req.version_req r.sub_path rest t in
    ap (by_body text plain) (body_of scheme plain text r.req.name rest n)
    ∙ (named text plain r.req.name rest n.0 n.1
    ∙ (tail.1
    ∙ (good text r.req.name r.req.version_req tail.0 (one_is r.req.version_req is)
    ∙ ap (λ p. Ok (record { req = record { name = r.req.name; version_req = r.req.version_req }; sub_path = p })) tail.2)))

has_name : (text name req end : List ℕ) → ◌≡◌ {A = Referred} (by_requirement text name req end) (Err (NoName text)) → ⊥
has_name text name req end h = elim (cases_Bool (is_requirement req)) [
  | inl y ↦ cc (sym (good text name req end y) ∙ h)
  | inr n ↦ cc (sym (bad text name req end n) ∙ h)
]

text_of : (scheme text name rest : List ℕ) → starts_with nat_eq text scheme ≡ true → without_slash (drop (length scheme) text) ≡ name ++ rest
    → (text ≡ scheme ++ (name ++ rest)) ⊎ (text ≡ scheme ++ 47 ∷ (name ++ rest))
text_of scheme text name rest at e = elim (slash_cut (drop (length scheme) text)) [
  | inl same ↦ inl (begins scheme text at ∙ ap (λ l. scheme ++ l) (same ∙ e))
  | inr slash ↦ inr (begins scheme text at ∙ ap (λ l. scheme ++ l) (slash ∙ ap (λ l. 47 ∷ l) e))
]

-- what is read of a text that has a name
by_name : (scheme : List ℕ) (plain : Bool) (text name rest req end : List ℕ) → IsNamed scheme plain name rest text → after_name text name rest ≡ by_requirement text name req end
    → by_body text plain (without_slash (drop (length scheme) text)) ≡ by_requirement text name req end
by_name scheme plain text name rest req end n e = ap (by_body text plain) (body_of scheme plain text name rest n) ∙ (named text plain name rest n.0 n.1 ∙ e)

judged : (scheme : List ℕ) (plain : Bool) (text name rest : List ℕ) → IsNamed scheme plain name rest text
    → IsReferred scheme plain (by_body text plain (without_slash (drop (length scheme) text))) text
unfolding IsReference IsRefused
judged scheme plain text name rest n =
    let tail = tail_found text name rest n.1 in
    let all = by_name scheme plain text name rest tail.0 tail.1 n tail.2 in
    elim (cases_Bool (is_requirement tail.0)) [
      | inl y ↦ subst (λ (r : Referred). IsReferred scheme plain r text) (sym (all ∙ good text name tail.0 tail.1 y)) (rest, n, tail.3, is_one tail.0 y)
      | inr n0 ↦
          let none = all ∙ bad text name tail.0 tail.1 n0 in
          subst (λ (r : Referred). IsReferred scheme plain r text) (sym none) (refl, name, rest, n, λ r x. cc (sym (read scheme plain text r x) ∙ none))
    ]

by_scheme : (scheme : List ℕ) (plain : Bool) (text : List ℕ) → starts_with nat_eq text scheme ≡ true
    → IsReferred scheme plain (by_body text plain (without_slash (drop (length scheme) text))) text
unfolding IsReference IsRefused
by_scheme scheme plain text at = elim (found text plain (without_slash (drop (length scheme) text))) [
  | inl none ↦ subst (λ (r : Referred). IsReferred scheme plain r text) (sym none) (
    refl,
    drop (length scheme) text,
    begins scheme text at,
    λ name rest n.
        let tail = tail_found text name rest n.1 in
        has_name text name tail.0 tail.1 (sym (by_name scheme plain text name rest tail.0 tail.1 n tail.2) ∙ none),
  )
  | inr f ↦ judged scheme plain text f.0 f.1 (f.2, f.3, text_of scheme text f.0 f.1 at f.4)
]

-- what is read of a text is what the grammar says of it
pub referred : (scheme : List ℕ) (plain : Bool) (text : List ℕ) → IsReferred scheme plain (reference_of scheme plain text) text
unfolding IsReference IsRefused
referred scheme plain text = elim (cases_Bool (starts_with nat_eq text scheme)) [
  | inl at ↦ rw at (by_scheme scheme plain text at)
  | inr other ↦ rw other (refl, λ rest e. cc (sym other ∙ (ap (λ t. starts_with nat_eq t scheme) e ∙ begun scheme rest)))
]

abbrev jsr_inner : PackageReqReference → Result JsrPackageReqReference PackageReqReferenceParseError → PackageReqReference
jsr_inner r (Ok q) = q.inner
jsr_inner r (Err e) = r

abbrev npm_inner : PackageReqReference → Result NpmPackageReqReference PackageReqReferenceParseError → PackageReqReference
npm_inner r (Ok q) = q.inner
npm_inner r (Err e) = r

abbrev error_of : {A : Type 0} → PackageReqReferenceParseError → Result A PackageReqReferenceParseError → PackageReqReferenceParseError
error_of e (Ok r) = e
error_of e (Err f) = f

pub jsr_read : (answer : Result JsrPackageReqReference (Refusal PackageReqReferenceParseError)) (text : List ℕ) → Answers answer (jsr_reference text) → IsJsr answer text
unfolding IsReference IsRefused
jsr_read answer text h = go answer (reference_of (codes "jsr:") false text) (referred (codes "jsr:") false text) h
  where
    go : (answer : Result JsrPackageReqReference (Refusal PackageReqReferenceParseError)) (o : Referred) → IsReferred (codes "jsr:") false o text → Answers answer (as_jsr o) → IsJsr answer text
    go (Ok r) (Ok q) x h = subst (λ (y : PackageReqReference). IsReference (codes "jsr:") false y text) (ap (jsr_inner q) h) x
    go (Ok r) (Err e) x h = cc h
    go (Err Memory) o x h = tt
    go (Err (Is e)) (Ok q) x h = cc h
    go (Err (Is e)) (Err f) x h = subst (λ (y : PackageReqReferenceParseError). IsRefused (codes "jsr:") false y text) (ap (error_of f) h) x

pub npm_read : (answer : Result NpmPackageReqReference (Refusal PackageReqReferenceParseError)) (text : List ℕ) → Answers answer (npm_reference text) → IsNpm answer text
unfolding IsReference IsRefused
npm_read answer text h = go answer (reference_of (codes "npm:") true text) (referred (codes "npm:") true text) h
  where
    go : (answer : Result NpmPackageReqReference (Refusal PackageReqReferenceParseError)) (o : Referred) → IsReferred (codes "npm:") true o text → Answers answer (as_npm o) → IsNpm answer text
    go (Ok r) (Ok q) x h = subst (λ (y : PackageReqReference). IsReference (codes "npm:") true y text) (ap (npm_inner q) h) x
    go (Ok r) (Err e) x h = cc h
    go (Err Memory) o x h = tt
    go (Err (Is e)) (Ok q) x h = cc h
    go (Err (Is e)) (Err f) x h = subst (λ (y : PackageReqReferenceParseError). IsRefused (codes "npm:") true y text) (ap (error_of f) h) x
