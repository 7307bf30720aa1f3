-- Specifiers that are lent, by their texts.
use Rattle.std.proofs.Common.{◌≡◌, ℕ, suc, List, [], ◌∷◌, ◌++◌, length, Bool, true, false, cond, ◌||◌, refl, ap, ◌∙◌, sym, ◌≤◌, ◌<◌, arith, length-append}
use Rattle.std.specs.Prelude.{bytes_eq, flat_map}
use Rattle.std.proofs.lemmas.List.Sums.{fold-append}
use Rattle.indexmap.specs.IndexSet.{insert_key, insert_all}
use Rattle.std.specs.List.{list_any}
use Rattle.std.specs.Borrow.{Bor}
use Rattle.url.specs.Parts.{Parts, serialize}
use Rattle.spec_base.specs.Specifier.{specifier_text}
use Rattle.graph_walk.specs.Lists.{Text}
use Rattle.graph_walk.specs.Lent.{lent_texts}
use Rattle.graph_walk.specs.Order.{is_seen, Waiting, offer, queue}

length_texts : (urls : List (Bor Parts)) → length (lent_texts urls) ≡ length urls
length_texts [] = refl
length_texts (u ∷ us) = ap suc (length_texts us)

abbrev eq_url : Parts → Bor Parts → Bool
eq_url u k = bytes_eq (serialize u) (serialize k.now)

seen_texts : (u : Parts) (urls : List (Bor Parts)) → list_any (eq_url u) urls ≡ is_seen (lent_texts urls) (specifier_text u)
unfolding specifier_text
seen_texts u [] = refl
seen_texts u (k ∷ us) = ap (λ (b : Bool). bytes_eq (serialize u) (serialize k.now) || b) (seen_texts u us)

pub texts_append : (us vs : List (Bor Parts)) → lent_texts (us ++ vs) ≡ lent_texts us ++ lent_texts vs
texts_append [] vs = refl
texts_append (u ∷ us) vs = ap (λ (ts : List Text). specifier_text u.now ∷ ts) (texts_append us vs)

abbrev front_of : List (Bor Parts) → List (Bor Parts) → Waiting
front_of keys waiting = record { seen = lent_texts keys; waiting = lent_texts waiting }

-- ---- at the front

-- a specifier that was seen changes nothing
pub offer_old : (u : Parts) (keys waiting : List (Bor Parts)) → true ≡ list_any (eq_url u) keys → front_of keys waiting ≡ offer (front_of keys waiting) (specifier_text u)
offer_old u keys waiting e =
    ap (λ (b : Bool). cond b (front_of keys waiting) (record { seen = lent_texts keys ++ specifier_text u ∷ []; waiting = specifier_text u ∷ lent_texts waiting })) (e ∙ seen_texts u keys)

offer_new : (u : Parts) (keys waiting : List (Bor Parts)) → false ≡ list_any (eq_url u) keys → offer (front_of keys waiting) (specifier_text u) ≡ record { seen = lent_texts keys ++ specifier_text u ∷ []; waiting = specifier_text u ∷ lent_texts waiting }
offer_new u keys waiting e =
    ap (λ (b : Bool). cond b (front_of keys waiting) (record { seen = lent_texts keys ++ specifier_text u ∷ []; waiting = specifier_text u ∷ lent_texts waiting })) (sym (e ∙ seen_texts u keys))

-- a new one has its place
pub offer_room : (u : Parts) (keys waiting : List (Bor Parts)) (f : Waiting) (bound : ℕ) → false ≡ list_any (eq_url u) keys → front_of keys waiting ≡ f → length (offer f (specifier_text u)).seen ≤ bound → length keys < bound
offer_room u keys waiting f bound e is h =
    let s = ap (λ (k : Waiting). length k.seen) (ap (λ (k : Waiting). offer k (specifier_text u)) (sym is) ∙ offer_new u keys waiting e) in
    omega (arith, s, length-append (lent_texts keys) (specifier_text u ∷ []), length_texts keys)

pub offer_added : (u : Bor Parts) (keys waiting keys_now waiting_now : List (Bor Parts)) → false ≡ list_any (eq_url u.now) keys → keys_now ≡ cond (list_any (eq_url u.now) keys) keys (keys ++ u ∷ []) → waiting_now ≡ u ∷ waiting
    → front_of keys_now waiting_now ≡ offer (front_of keys waiting) (specifier_text u.now)
offer_added u keys waiting keys_now waiting_now e k w =
    let ks : keys_now ≡ keys ++ u ∷ [] = k ∙ ap (λ (b : Bool). cond b keys (keys ++ u ∷ [])) (sym e) in
    ap (λ (xs : List (Bor Parts)). front_of xs waiting_now) ks ∙ ap (front_of (keys ++ u ∷ [])) w
    ∙ ap (λ (ts : List Text). record { seen = ts; waiting = specifier_text u.now ∷ lent_texts waiting }) (texts_append keys (u ∷ []))
    ∙ sym (offer_new u.now keys waiting e)

-- ---- at the end

pub queue_old : (u : Parts) (keys waiting : List (Bor Parts)) → true ≡ list_any (eq_url u) keys → front_of keys waiting ≡ queue (front_of keys waiting) (specifier_text u)
queue_old u keys waiting e =
    ap (λ (b : Bool). cond b (front_of keys waiting) (record { seen = lent_texts keys ++ specifier_text u ∷ []; waiting = lent_texts waiting ++ specifier_text u ∷ [] })) (e ∙ seen_texts u keys)

queue_new : (u : Parts) (keys waiting : List (Bor Parts)) → false ≡ list_any (eq_url u) keys → queue (front_of keys waiting) (specifier_text u) ≡ record { seen = lent_texts keys ++ specifier_text u ∷ []; waiting = lent_texts waiting ++ specifier_text u ∷ [] }
queue_new u keys waiting e =
    ap (λ (b : Bool). cond b (front_of keys waiting) (record { seen = lent_texts keys ++ specifier_text u ∷ []; waiting = lent_texts waiting ++ specifier_text u ∷ [] })) (sym (e ∙ seen_texts u keys))

pub queue_room : (u : Parts) (keys waiting : List (Bor Parts)) (f : Waiting) (bound : ℕ) → false ≡ list_any (eq_url u) keys → front_of keys waiting ≡ f → length (queue f (specifier_text u)).seen ≤ bound → length keys < bound
queue_room u keys waiting f bound e is h =
    let s = ap (λ (k : Waiting). length k.seen) (ap (λ (k : Waiting). queue k (specifier_text u)) (sym is) ∙ queue_new u keys waiting e) in
    omega (arith, s, length-append (lent_texts keys) (specifier_text u ∷ []), length_texts keys)

pub queue_added : (u : Bor Parts) (keys waiting keys_now waiting_now : List (Bor Parts)) → false ≡ list_any (eq_url u.now) keys → keys_now ≡ cond (list_any (eq_url u.now) keys) keys (keys ++ u ∷ []) → waiting_now ≡ waiting ++ u ∷ []
    → front_of keys_now waiting_now ≡ queue (front_of keys waiting) (specifier_text u.now)
queue_added u keys waiting keys_now waiting_now e k w =
    let ks : keys_now ≡ keys ++ u ∷ [] = k ∙ ap (λ (b : Bool). cond b keys (keys ++ u ∷ [])) (sym e) in
    ap (λ (xs : List (Bor Parts)). front_of xs waiting_now) ks ∙ ap (front_of (keys ++ u ∷ [])) w
    ∙ (λ i. record { seen = texts_append keys (u ∷ []) i; waiting = texts_append waiting (u ∷ []) i })
    ∙ sym (queue_new u.now keys waiting e)

-- ---- in a set

pub added_text : (u : Bor Parts) (keys now : List (Bor Parts)) → now ≡ cond (list_any (eq_url u.now) keys) keys (keys ++ u ∷ []) → lent_texts now ≡ insert_key bytes_eq (lent_texts keys) (specifier_text u.now)
added_text u keys now is =
    ap lent_texts is ∙ ap (λ (b : Bool). lent_texts (cond b keys (keys ++ u ∷ []))) (seen_texts u.now keys) ∙ inside (is_seen (lent_texts keys) (specifier_text u.now))
  where
    inside : (b : Bool) → lent_texts (cond b keys (keys ++ u ∷ [])) ≡ cond b (lent_texts keys) (lent_texts keys ++ specifier_text u.now ∷ [])
    inside true = refl
    inside false = texts_append keys (u ∷ [])

-- those of the first, and then those of the others
pub added_turn : {X : Type 0} (f : X → List Text) (before now : List Text) (left others : List X) (x : X) → left ≡ x ∷ others → now ≡ insert_all bytes_eq before (f x)
    → insert_all bytes_eq before (flat_map f left) ≡ insert_all bytes_eq now (flat_map f others)
added_turn f before now left others x parts is =
    ap (λ xs. insert_all bytes_eq before (flat_map f xs)) parts
    ∙ fold-append (insert_key bytes_eq) before (f x) (flat_map f others)
    ∙ ap (λ ks. insert_all bytes_eq ks (flat_map f others)) (sym is)
