-- What offering a list does to a front.
use Rattle.std.proofs.Common.{◌≡◌, ℕ, ◌≤◌, List, [], ◌∷◌, ◌++◌, length, refl, sym, ap, ◌∙◌, subst, arith, append_assoc}
use Rattle.std.proofs.lemmas.Grind.{common_steps}
use Rattle.std.proofs.lemmas.List.{map-append}
use Rattle.std.specs.Prelude.{string_bytes}
use Rattle.std.specs.declared.string.String.{String}
use Rattle.spec_base.specs.Shown.{shown}
use Rattle.graph_dependencies.specs.declared.dependency.Dependency.{Dependency}
use Rattle.url.specs.Parts.{Parts}
use Rattle.graph_dependencies.specs.declared.graph_import.GraphImport.{GraphImport}
use Rattle.graph_walk.specs.Lists.{Text}
use Rattle.graph_walk.specs.Options.{How}
use Rattle.graph_walk.specs.Order.{Named, imported, FrontView, Waiting, offer, offered, queue, queued, targets_of, followed_targets, targets_back, import_targets, left, rest}

pub offered-append : (f : Waiting) (xs ys : List Text) → offered f (xs ++ ys) ≡ offered (offered f xs) ys
unfolding offered
offered-append f [] ys = refl
offered-append f (x ∷ xs) ys = offered-append (offer f x) xs ys

pub offered-none : (f : Waiting) → offered f [] ≡ f
unfolding offered
offered-none f = refl

pub offered-one : (f : Waiting) (x : Text) → offered f (x ∷ []) ≡ offer f x
unfolding offered
offered-one f x = refl

pub grows_one : (f : Waiting) (x : Text) → length f.seen ≤ length (offer f x).seen
grows_one f x = grind (arith, common_steps)

pub grows : (f : Waiting) (xs : List Text) → length f.seen ≤ length (offered f xs).seen
unfolding offered
grows f [] = omega arith
grows f (x ∷ xs) = omega (arith, grows_one f x, grows (offer f x) xs)

pub fits_first : (f : Waiting) (xs ys : List Text) (n : ℕ) → length (offered f (xs ++ ys)).seen ≤ n → length (offered f xs).seen ≤ n
fits_first f xs ys n h = let e = ap (λ (g : Waiting). length g.seen) (offered-append f xs ys) in omega (arith, e, grows (offered f xs) ys)

pub queue_grows_one : (f : Waiting) (x : Text) → length f.seen ≤ length (queue f x).seen
queue_grows_one f x = grind (arith, common_steps)

pub queue_grows : (f : Waiting) (xs : List Text) → length f.seen ≤ length (queued f xs).seen
unfolding queued
queue_grows f [] = omega arith
queue_grows f (x ∷ xs) = omega (arith, queue_grows_one f x, queue_grows (queue f x) xs)

pub queued-cons : (f : Waiting) (x : Text) (xs : List Text) → queued f (x ∷ xs) ≡ queued (queue f x) xs
unfolding queued
queued-cons f x xs = refl

pub queued-none : (f : Waiting) → queued f [] ≡ f
unfolding queued
queued-none f = refl

pub targets_back-last : (o : How) (ds : List Named) (d : Named) → targets_back o (ds ++ d ∷ []) ≡ followed_targets o d ++ targets_back o ds
unfolding targets_back
targets_back-last o [] d = grind (arith, common_steps)
targets_back-last o (e ∷ ds) d = ap (λ (xs : List Text). xs ++ followed_targets o e) (targets_back-last o ds d) ∙ append_assoc (followed_targets o d) (targets_back o ds) (followed_targets o e)

pub targets_back-none : (o : How) → targets_back o [] ≡ []
unfolding targets_back
targets_back-none o = refl

pub import_targets-cons : (o : How) (d : Named) (ds : List Named) → import_targets o (d ∷ ds) ≡ targets_of o d ++ import_targets o ds
unfolding import_targets
import_targets-cons o d ds = refl

pub import_targets-none : (o : How) → import_targets o [] ≡ []
unfolding import_targets
import_targets-none o = refl

-- ---- the steps of the code

abbrev pub Fits : FrontView → List Text → Type 0
Fits f xs = length (offered f.front xs).seen ≤ f.bound

abbrev pub after : FrontView → List Text → FrontView
after f xs = record { front = offered f.front xs; bound = f.bound }

pub fits_next : (f g : FrontView) (xs ys : List Text) → g ≡ after f xs → Fits f (xs ++ ys) → Fits g ys
fits_next f g xs ys e h = subst (λ (a : FrontView). Fits a ys) (sym e) (let same = ap (λ (w : Waiting). length w.seen) (offered-append f.front xs ys) in omega (arith, same))

pub after_next : (f g k : FrontView) (xs ys : List Text) → g ≡ after f xs → k ≡ after g ys → k ≡ after f (xs ++ ys)
after_next f g k xs ys e h = h ∙ ap (λ (a : FrontView). after a ys) e ∙ ap (λ (w : Waiting). record { front = w; bound = f.bound }) (sym (offered-append f.front xs ys))

-- a turn of a loop over a list that is offered in parts
pub turn_fits : (f g : FrontView) (all left xs ys : List Text) → offered f.front all ≡ offered g.front left → g.bound ≡ f.bound → left ≡ xs ++ ys → Fits f all → Fits g xs
turn_fits f g all left xs ys same bound parts h =
    let seen = ap (λ (w : Waiting). length w.seen) (same ∙ ap (offered g.front) parts) in
    fits_first g.front xs ys g.bound (omega (arith, seen))

pub turn_same : (f g k : FrontView) (all left xs ys : List Text) → offered f.front all ≡ offered g.front left → left ≡ xs ++ ys → k ≡ after g xs → offered f.front all ≡ offered k.front ys
turn_same f g k all left xs ys same parts e =
    same ∙ ap (offered g.front) parts ∙ offered-append g.front xs ys ∙ ap (λ (a : FrontView). offered a.front ys) (sym e)

pub turn_end : (f g : FrontView) (all left : List Text) → offered f.front all ≡ offered g.front left → g.bound ≡ f.bound → left ≡ [] → g ≡ after f all
turn_end f g all left same bound none =
    let e : offered f.front all ≡ g.front = same ∙ ap (offered g.front) none ∙ offered-none g.front in λ i. record { front = sym e i; bound = bound i }

pub queue_fits : (f g : FrontView) (all left : List Text) (x : Text) (ys : List Text) → queued f.front all ≡ queued g.front left → g.bound ≡ f.bound → left ≡ x ∷ ys → length (queued f.front all).seen ≤ f.bound → length (queue g.front x).seen ≤ g.bound
queue_fits f g all left x ys same bound parts h =
    let seen = ap (λ (w : Waiting). length w.seen) (same ∙ ap (queued g.front) parts ∙ queued-cons g.front x ys) in
    omega (arith, seen, queue_grows (queue g.front x) ys)

pub queue_same : (f g k : FrontView) (all left : List Text) (x : Text) (ys : List Text) → queued f.front all ≡ queued g.front left → left ≡ x ∷ ys → k ≡ record { front = queue g.front x; bound = g.bound } → queued f.front all ≡ queued k.front ys
queue_same f g k all left x ys same parts e =
    same ∙ ap (queued g.front) parts ∙ queued-cons g.front x ys ∙ ap (λ (a : FrontView). queued a.front ys) (sym e)

pub queue_end : (f g : FrontView) (all left : List Text) → queued f.front all ≡ queued g.front left → g.bound ≡ f.bound → left ≡ [] → g ≡ record { front = queued f.front all; bound = f.bound }
queue_end f g all left same bound none =
    let e : queued f.front all ≡ g.front = same ∙ ap (queued g.front) none ∙ queued-none g.front in λ i. record { front = sym e i; bound = bound i }

pub no_items : {A : Type 0} (xs : List A) → length xs ≡ 0 → xs ≡ []
no_items [] e = refl
no_items (x ∷ xs) e = absurd (omega arith)

-- ---- maps as they are stored

pub back_parts : {A : Type 0} (o : How) (all es : List (String A × Dependency)) (e : String A × Dependency) → all ≡ es ++ e ∷ [] → targets_back o (shown all) ≡ followed_targets o ([], e.1) ++ targets_back o (shown es)
back_parts o all es e split =
    ap (λ xs. targets_back o (shown xs)) split ∙ ap (targets_back o) (map-append _ es (e ∷ [])) ∙ targets_back-last o (shown es) (string_bytes e.0, e.1)

pub back_end : {A : Type 0} (o : How) (left : List (String A × Dependency)) → length left ≡ 0 → targets_back o (shown left) ≡ []
back_end o left e = ap (λ xs. targets_back o (shown xs)) (no_items left e) ∙ targets_back-none o

pub import_parts : {A : Type 0} (o : How) (left rest : List (String A × Dependency)) (e : String A × Dependency) → left ≡ e ∷ rest → import_targets o (shown left) ≡ targets_of o ([], e.1) ++ import_targets o (shown rest)
import_parts o left rest e split = ap (λ xs. import_targets o (shown xs)) split ∙ import_targets-cons o (string_bytes e.0, e.1) (shown rest)

pub import_end : {A : Type 0} (o : How) (left : List (String A × Dependency)) → left ≡ [] → import_targets o (shown left) ≡ []
import_end o left e = ap (λ xs. import_targets o (shown xs)) e ∙ import_targets-none o

import_targets-append : (o : How) (xs ys : List Named) → import_targets o (xs ++ ys) ≡ import_targets o xs ++ import_targets o ys
unfolding import_targets
import_targets-append o [] ys = refl
import_targets-append o (x ∷ xs) ys =
    ap (λ ts. targets_of o x ++ ts) (import_targets-append o xs ys) ∙ sym (append_assoc (targets_of o x) (import_targets o xs) (import_targets o ys))

pub referrer_parts : (o : How) (left rest : List (Parts × GraphImport)) (e : Parts × GraphImport) → left ≡ e ∷ rest → import_targets o (imported left) ≡ import_targets o e.1.dependencies ++ import_targets o (imported rest)
referrer_parts o left rest e split = ap (λ xs. import_targets o (imported xs)) split ∙ import_targets-append o e.1.dependencies (imported rest)

pub referrer_end : (o : How) (left : List (Parts × GraphImport)) → left ≡ [] → import_targets o (imported left) ≡ []
referrer_end o left e = ap (λ xs. import_targets o (imported xs)) e ∙ import_targets-none o
