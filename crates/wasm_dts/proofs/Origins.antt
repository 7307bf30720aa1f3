-- Modules that imports are from, one import after the other.
use Rattle.std.proofs.Common.{◌≡◌, ℕ, suc, ◌+◌, ◌-◌, ◌<◌, ◌≤◌, Bool, true, false, cond, List, [], ◌∷◌, ◌++◌, length, get_or, set, take, map, Some, None, refl, sym, ap, ◌∙◌, subst, ⊎_elim, append-nil, add-one, arith}
use Rattle.std.specs.Prelude.{bytes_eq, not, filter}
use Rattle.std.specs.Map.{lookup}
use Rattle.std.proofs.Math.Seq.{take-suc}
use Rattle.std.proofs.lemmas.Bool.{cases_Bool, false≢true}
use Rattle.std.proofs.lemmas.Slice.Eq.{bytes_eq-Decides}
use Rattle.std.proofs.lemmas.List.Elements.{filter-append}
use Rattle.std.proofs.lemmas.List.{map-append}
use Rattle.indexmap.specs.IndexMap.{insert_entry}
use Rattle.wasm_dts.specs.declared.imports.Import.{Import}
use Rattle.wasm_dts.specs.declared.import_text.Origin.{Origin}
use Rattle.wasm_dts.specs.Declarations.{names_from, origins_of}
use Rattle.wasm_dts.specs.Origins.{first_use, with_name, with_import, places_from}

-- ---- texts

same_text : (a b : List ℕ) → bytes_eq a b ≡ true → a ≡ b
same_text a b h = (bytes_eq-Decides a b).0 h

eq_self : (a : List ℕ) → bytes_eq a a ≡ true
eq_self a = (bytes_eq-Decides a a).1 refl

eq_same : (a b : List ℕ) → a ≡ b → bytes_eq a b ≡ true
eq_same a b e = (bytes_eq-Decides a b).1 e

eq_flip : (a b : List ℕ) (r : Bool) → bytes_eq a b ≡ r → bytes_eq b a ≡ r
eq_flip a b true h = eq_same b a (sym (same_text a b h))
eq_flip a b false h = ⊎_elim (λ yes. absurd (false≢true (sym h ∙ eq_same a b (sym (same_text b a yes))))) (λ no. no) (cases_Bool (bytes_eq b a))

-- ---- the modules with one more import

abbrev other_than : List ℕ → Origin → Bool
other_than m o = not (bytes_eq m o.module)

left_step : (p : Origin → Bool) (b : Bool) (w o : Origin) (ws os : List Origin) → p w ≡ p o → (b ≡ true → p o ≡ false) → filter p ws ≡ filter p os → filter p (cond b (w ∷ os) (o ∷ ws)) ≡ filter p (o ∷ os)
left_step p true w o ws os alike out e = ap (λ q. cond q (w ∷ filter p os) (filter p os)) (alike ∙ out refl) ∙ sym (ap (λ q. cond q (o ∷ filter p os) (filter p os)) (out refl))
left_step p false w o ws os alike out e = ap (λ fs. cond (p o) (o ∷ fs) fs) e

-- where the imports of a module are left out, one more of them makes no difference
left_out : (m : List ℕ) (i : Import) (os : List Origin) → m ≡ i.module → filter (other_than m) (with_import os i) ≡ filter (other_than m) os
unfolding with_import
left_out m i [] e = ap (λ b. cond (not b) (first_use i ∷ []) []) (eq_same m i.module e)
left_out m i (o ∷ os) e =
    left_step (other_than m) (bytes_eq i.module o.module) (with_name o i.name) o (with_import os i) os refl
    (λ h. ap not (eq_same m o.module (e ∙ same_text i.module o.module h))) (left_out m i os e)

kept_step : (p : Origin → Bool) (q b : Bool) (i : Import) (o : Origin) (ws os : List Origin) → p o ≡ q → p (with_name o i.name) ≡ q → bytes_eq i.module o.module ≡ b → (b ≡ true → q ≡ true)
    → filter p ws ≡ with_import (filter p os) i → filter p (cond b (with_name o i.name ∷ os) (o ∷ ws)) ≡ with_import (cond q (o ∷ filter p os) (filter p os)) i
unfolding with_import
kept_step p true true i o ws os po pw h in_ e = ap (λ q. cond q (with_name o i.name ∷ filter p os) (filter p os)) pw ∙ sym (ap (λ b. cond b (with_name o i.name ∷ filter p os) (o ∷ with_import (filter p os) i)) h)
kept_step p true false i o ws os po pw h in_ e = ap (λ q. cond q (o ∷ filter p ws) (filter p ws)) po ∙ ap (λ fs. o ∷ fs) e ∙ sym (ap (λ b. cond b (with_name o i.name ∷ filter p os) (o ∷ with_import (filter p os) i)) h)
kept_step p false true i o ws os po pw h in_ e = absurd (false≢true (in_ refl))
kept_step p false false i o ws os po pw h in_ e = ap (λ q. cond q (o ∷ filter p ws) (filter p ws)) po ∙ e

-- an import from another module is kept
kept : (m : List ℕ) (i : Import) (os : List Origin) → bytes_eq m i.module ≡ false → filter (other_than m) (with_import os i) ≡ with_import (filter (other_than m) os) i
unfolding with_import
kept m i [] n = ap (λ b. cond (not b) (first_use i ∷ []) []) n
kept m i (o ∷ os) n =
    kept_step (other_than m) (other_than m o) (bytes_eq i.module o.module) i o (with_import os i) os refl refl refl
    (λ h. ap not (subst (λ (x : List ℕ). bytes_eq m x ≡ false) (same_text i.module o.module h) n)) (kept m i os n)

names_at : (m : List ℕ) (imports : List Import) (i : Import) (b : Bool) → bytes_eq m i.module ≡ b → names_from m (imports ++ i ∷ []) ≡ names_from m imports ++ cond b (i.name ∷ []) []
names_at m imports i b h =
    ap (map (λ j. j.name)) (filter-append (λ j. bytes_eq m j.module) imports (i ∷ [])) ∙ map-append (λ j. j.name) (filter (λ j. bytes_eq m j.module) imports) (cond (bytes_eq m i.module) (i ∷ []) [])
    ∙ ap (λ names. names_from m imports ++ names) (at_import (bytes_eq m i.module) i ∙ ap (λ c. cond c (i.name ∷ []) []) h) where
      at_import : (c : Bool) (j : Import) → map (λ k. k.name) (cond c (j ∷ []) []) ≡ cond c (j.name ∷ []) []
      at_import true j = refl
      at_import false j = refl

abbrev led_by : Import → List (List ℕ) → Origin
led_by j names = record { «module» = j.module; names = j.name ∷ names }

more_at : (j i : Import) (imports : List Import) (b : Bool) → bytes_eq j.module i.module ≡ b → origins_of (imports ++ i ∷ []) ≡ with_import (origins_of imports) i
    → led_by j (names_from j.module (imports ++ i ∷ [])) ∷ filter (other_than j.module) (origins_of (imports ++ i ∷ []))
    ≡ with_import (led_by j (names_from j.module imports) ∷ filter (other_than j.module) (origins_of imports)) i
unfolding with_import
more_at j i imports true h e =
    ap (λ names. led_by j names ∷ filter (other_than j.module) (origins_of (imports ++ i ∷ []))) (names_at j.module imports i true h)
    ∙ ap (λ os. led_by j (names_from j.module imports ++ i.name ∷ []) ∷ os) (ap (filter (other_than j.module)) e ∙ left_out j.module i (origins_of imports) (same_text j.module i.module h))
    ∙ sym (ap (λ b. cond b (with_name (led_by j (names_from j.module imports)) i.name ∷ filter (other_than j.module) (origins_of imports)) (led_by j (names_from j.module imports) ∷ with_import (filter (other_than j.module) (origins_of imports)) i)) (eq_flip j.module i.module true h))
more_at j i imports false h e =
    ap (λ names. led_by j names ∷ filter (other_than j.module) (origins_of (imports ++ i ∷ []))) (names_at j.module imports i false h ∙ append-nil (names_from j.module imports))
    ∙ ap (λ os. led_by j (names_from j.module imports) ∷ os) (ap (filter (other_than j.module)) e ∙ kept j.module i (origins_of imports) h)
    ∙ sym (ap (λ b. cond b (with_name (led_by j (names_from j.module imports)) i.name ∷ filter (other_than j.module) (origins_of imports)) (led_by j (names_from j.module imports) ∷ with_import (filter (other_than j.module) (origins_of imports)) i)) (eq_flip j.module i.module false h))

-- one more import
pub origins_more : (imports : List Import) (i : Import) → origins_of (imports ++ i ∷ []) ≡ with_import (origins_of imports) i
unfolding origins_of with_import
origins_more [] i = refl
origins_more (j ∷ imports) i = more_at j i imports (bytes_eq j.module i.module) refl (origins_more imports i)

-- ---- the places of the modules

-- a module that stands at a place
pub record Found (os : List Origin) (i : Import) (n p : ℕ) : Type 0 where
  pub within : p < n + length os
  pub from : n ≤ p
  pub changed : (d : Origin) (k : ℕ) → p ≡ n + k → with_import os i ≡ set os k (with_name (get_or os k d) i.name)
  pub places : places_from n (with_import os i) ≡ places_from n os

found_at : (o : Origin) (os : List Origin) (i : Import) (n p : ℕ) (b : Bool) → bytes_eq i.module o.module ≡ b → cond b (Some n) (lookup (bytes_eq i.module) (places_from (n + 1) os)) ≡ Some p
    → (lookup (bytes_eq i.module) (places_from (n + 1) os) ≡ Some p → Found os i (n + 1) p) → Found (o ∷ os) i n p
unfolding with_import places_from
found_at o os i n p true h e later =
    let here : n ≡ p = cc in
    record {
      within = omega arith;
      from = omega arith;
      changed = λ d k w. let z : k ≡ 0 = omega arith in rw (z, h) refl;
      places = ap (λ b. places_from n (cond b (with_name o i.name ∷ os) (o ∷ with_import os i))) h;
    }
found_at o os i n p false h e later =
    let f = later e in
    record {
      within = omega (arith, f.within);
      from = omega (arith, f.from);
      changed = λ d k w.
          let back : p ≡ n + 1 + (k - 1) = omega (arith, f.from) in
          let up : suc (k - 1) ≡ k = omega (arith, f.from) in
          subst (λ (x : ℕ). with_import (o ∷ os) i ≡ set (o ∷ os) x (with_name (get_or (o ∷ os) x d) i.name)) up
          (ap (λ b. cond b (with_name o i.name ∷ os) (o ∷ with_import os i)) h ∙ ap (λ rest. o ∷ rest) (f.changed d (k - 1) back));
      places = ap (λ b. places_from n (cond b (with_name o i.name ∷ os) (o ∷ with_import os i))) h ∙ ap (λ rest. (o.module, n) ∷ rest) f.places;
    }

pub found : (os : List Origin) (i : Import) (n p : ℕ) → lookup (bytes_eq i.module) (places_from n os) ≡ Some p → Found os i n p
unfolding places_from
found [] i n p e = absurd cc
found (o ∷ os) i n p e = found_at o os i n p (bytes_eq i.module o.module) refl e (found os i (n + 1) p)

-- a module that stands nowhere
pub record Missing (os : List Origin) (i : Import) (n : ℕ) : Type 0 where
  pub added : with_import os i ≡ os ++ first_use i ∷ []
  pub places : (v : ℕ) → v ≡ n + length os → places_from n (os ++ first_use i ∷ []) ≡ insert_entry bytes_eq (places_from n os) i.module v

missing_at : (o : Origin) (os : List Origin) (i : Import) (n : ℕ) (b : Bool) → bytes_eq i.module o.module ≡ b → cond b (Some n) (lookup (bytes_eq i.module) (places_from (n + 1) os)) ≡ None
    → (lookup (bytes_eq i.module) (places_from (n + 1) os) ≡ None → Missing os i (n + 1)) → Missing (o ∷ os) i n
unfolding with_import places_from
missing_at o os i n true h e later = absurd cc
missing_at o os i n false h e later =
    let m = later e in
    record {
      added = ap (λ b. cond b (with_name o i.name ∷ os) (o ∷ with_import os i)) h ∙ ap (λ rest. o ∷ rest) m.added;
      places = λ v w. ap (λ rest. (o.module, n) ∷ rest) (m.places v (omega arith)) ∙ sym (ap (λ b. cond b ((o.module, v) ∷ places_from (n + 1) os) ((o.module, n) ∷ insert_entry bytes_eq (places_from (n + 1) os) i.module v)) h);
    }

pub missing : (os : List Origin) (i : Import) (n : ℕ) → lookup (bytes_eq i.module) (places_from n os) ≡ None → Missing os i n
unfolding with_import places_from
missing [] i n e = record { added = refl; places = λ v w. ap (λ x. (i.module, x) ∷ []) (omega arith) }
missing (o ∷ os) i n e = missing_at o os i n (bytes_eq i.module o.module) refl e (missing os i (n + 1))

-- one more name at the place of its module
pub put_name : (os : List Origin) (i : Import) (p : ℕ) (now : Origin) (names : List (List ℕ)) → lookup (bytes_eq i.module) (places_from 0 os) ≡ Some p → now ≡ get_or os p now → names ≡ now.names ++ i.name ∷ []
    → (set os p (record { «module» = now.module; names = names }) ≡ with_import os i) × (places_from 0 os ≡ places_from 0 (set os p (record { «module» = now.module; names = names })))
put_name os i p now names h at e =
    let f = found os i 0 p h in
    let here : p ≡ 0 + p = omega arith in
    let made : set os p (record { «module» = now.module; names = names }) ≡ with_import os i =
    ap (λ ns. set os p (record { «module» = now.module; names = ns })) e ∙ ap (λ o. set os p (with_name o i.name)) at ∙ sym (f.changed now p here) in
    (made, sym (ap (places_from 0) made ∙ f.places))

-- a module that wasn't there yet
pub put_first : (os : List Origin) (i : Import) (places : List (List ℕ × ℕ)) (key origin : List ℕ) (names : List (List ℕ)) (len : ℕ) → lookup (bytes_eq i.module) (places_from 0 os) ≡ None → places ≡ places_from 0 os → key ≡ i.module → len ≡ length os
    → origin ≡ i.module → names ≡ i.name ∷ []
    → (os ++ (record { «module» = origin; names = names }) ∷ [] ≡ with_import os i) × (insert_entry bytes_eq places key len ≡ places_from 0 (os ++ (record { «module» = origin; names = names }) ∷ []))
put_first os i places key origin names len h in_step k l o n =
    let m = missing os i 0 h in
    let last : os ++ (record { «module» = origin; names = names }) ∷ [] ≡ os ++ first_use i ∷ [] =
    ap (λ x. os ++ (record { «module» = x; names = names }) ∷ []) o ∙ ap (λ ns. os ++ (record { «module» = i.module; names = ns }) ∷ []) n in
    (last ∙ sym m.added, ap (λ es. insert_entry bytes_eq es key len) in_step ∙ ap (λ x. insert_entry bytes_eq (places_from 0 os) x len) k ∙ sym (m.places len (omega arith)) ∙ sym (ap (places_from 0) last))

-- one more import of a list
pub origins_step : (imports : List Import) (k : ℕ) (i : Import) (os : List Origin) → k < length imports → i ≡ get_or imports k i → os ≡ origins_of (take k imports) → with_import os i ≡ origins_of (take (k + 1) imports)
origins_step imports k i os lt at so_far =
    let longer : take (k + 1) imports ≡ take k imports ++ i ∷ [] = rw (add-one, take-suc imports k i lt) (ap (λ (x : Import). take k imports ++ x ∷ []) (sym at)) in
    ap (λ xs. with_import xs i) so_far ∙ sym (ap origins_of longer ∙ origins_more (take k imports) i)
