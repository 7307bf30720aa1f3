-- What stands after a part in a text, and relative texts.
use Rattle.std.proofs.Common.{◌≡◌, ℕ, ◌-◌, Bool, true, false, not, ◌&&◌, cond, List, [], ◌∷◌, Option, Some, None, length, drop, get_or, ◌<◌, ◌≤◌, refl, sym, ap, ◌∙◌, arith, bytes_eq}
use Rattle.std.specs.Prelude.{nat_eq, IsUtf8}
use Rattle.std.specs.Str.{is_utf8}
use Rattle.std.proofs.lemmas.Str.{IsUtf8-from_is_utf8, is_utf8-from_IsUtf8}
use Rattle.std.specs.List.{starts_with, suffix_len}
use Rattle.std.specs.Option.{option_eq}
use Rattle.std.proofs.lemmas.Bool.{false≢true, eqb-true, eq-eqb, not-true, not_from_false, and_parts, and_from, false_from_ne_true}
use Rattle.std.proofs.lemmas.List.Sums.{suffix_len_is}
use Rattle.url.specs.Host.{host_text}
use Rattle.url.specs.Parts.{Parts, cannot_be_a_base, host_or_empty}
use Rattle.url.specs.Relative.{CanRelate, relative_text}
use Rattle.file_tree.specs.Template.{after_part, can_relate, dotted, text_between, text_of_bytes}
use Rattle.file_tree.proofs.TextSets.{same_from, same_at}

-- the part stands at the front
pub after_here : (part text : List ℕ) → starts_with nat_eq text part ≡ true → after_part part text ≡ Some (drop (length part) text)
unfolding after_part
after_here [] [] e = refl
after_here (x ∷ xs) [] e = absurd (false≢true e)
after_here part (b ∷ text) e = ap (λ c. cond c (Some (drop (length part) (b ∷ text))) (after_part part text)) e

-- it doesn't, and the text has a first byte
pub after_later : (part text shorter : List ℕ) (b : ℕ) → text ≡ b ∷ shorter → starts_with nat_eq text part ≡ false → after_part part text ≡ after_part part shorter
unfolding after_part
after_later part text shorter b same e =
    ap (after_part part) same
    ∙ ap (λ c. cond c (Some (drop (length part) (b ∷ shorter))) (after_part part shorter)) (ap (λ t. starts_with nat_eq t part) (sym same) ∙ e)

-- the text is empty, and the part isn't
pub after_none : (part text : List ℕ) → text ≡ [] → starts_with nat_eq text part ≡ false → after_part part text ≡ None
unfolding after_part
after_none part text same e =
    ap (after_part part) same ∙ ap (λ c. cond c (Some []) None) (ap (λ t. starts_with nat_eq t part) (sym same) ∙ e)

-- where the elements that pass at the end begin
pub start_is : (p : ℕ → Bool) (xs : List ℕ) (n : ℕ) → n ≤ length xs → ((k : ℕ) → n ≤ k → k < length xs → p (get_or xs k 0) ≡ true) → (0 < n → p (get_or xs (n - 1) 0) ≡ false) → n ≡ length xs - suffix_len p xs
start_is p xs n within each stop =
    let e = suffix_len_is p xs n 0 within each stop in rw e (omega arith)

-- ---- relative texts

same_port : (a b : Option ℕ) → option_eq nat_eq a b ≡ true → a ≡ b
same_port None None e = refl
same_port None (Some b) e = absurd (false≢true e)
same_port (Some a) None e = absurd (false≢true e)
same_port (Some a) (Some b) e = ap Some (eqb-true a b e)

port_at : (a : Option ℕ) → option_eq nat_eq a a ≡ true
port_at None = refl
port_at (Some a) = eq-eqb a a refl

relates : (base url : Parts) → can_relate base url ≡ true → CanRelate base url
unfolding can_relate
relates base url e =
    let three = and_parts (not (cannot_be_a_base base) && bytes_eq base.scheme url.scheme && bytes_eq (host_text (host_or_empty base)) (host_text (host_or_empty url))) (option_eq nat_eq base.port url.port) e in
    let two = and_parts (not (cannot_be_a_base base) && bytes_eq base.scheme url.scheme) (bytes_eq (host_text (host_or_empty base)) (host_text (host_or_empty url))) three.0 in
    let one = and_parts (not (cannot_be_a_base base)) (bytes_eq base.scheme url.scheme) two.0 in
    (not-true (cannot_be_a_base base) one.0, (same_from base.scheme url.scheme one.1, same_from (host_text (host_or_empty base)) (host_text (host_or_empty url)) two.1, same_port base.port url.port three.1))

related : (base url : Parts) → CanRelate base url → can_relate base url ≡ true
unfolding can_relate
related base url h =
    and_from (not (cannot_be_a_base base) && bytes_eq base.scheme url.scheme && bytes_eq (host_text (host_or_empty base)) (host_text (host_or_empty url))) (option_eq nat_eq base.port url.port)
    (and_from (not (cannot_be_a_base base) && bytes_eq base.scheme url.scheme) (bytes_eq (host_text (host_or_empty base)) (host_text (host_or_empty url)))
    (and_from (not (cannot_be_a_base base)) (bytes_eq base.scheme url.scheme) (not_from_false (cannot_be_a_base base) h.0) (ap (bytes_eq base.scheme) (sym h.1.0) ∙ same_at base.scheme))
    (ap (bytes_eq (host_text (host_or_empty base))) (sym h.1.1) ∙ same_at (host_text (host_or_empty base))))
    (ap (option_eq nat_eq base.port) (sym h.1.2) ∙ port_at base.port)

pub between_some : (base url : Parts) → CanRelate base url → text_between base url ≡ Some (dotted (relative_text base url))
unfolding text_between
between_some base url h = ap (λ b. cond b (Some (dotted (relative_text base url))) None) (related base url h)

pub between_none : (base url : Parts) → ¬ (CanRelate base url) → text_between base url ≡ None
unfolding text_between
between_none base url h =
    ap (λ b. cond b (Some (dotted (relative_text base url))) None) (false_from_ne_true (can_relate base url) (λ e. h (relates base url e)))

-- ---- bytes that are a text

pub text_at : (bytes text : List ℕ) → text ≡ bytes → IsUtf8 bytes → Some text ≡ text_of_bytes bytes
text_at bytes text same h = ap Some same ∙ sym (ap (λ b. cond b (Some bytes) None) (is_utf8-from_IsUtf8 bytes h))

pub no_text : (bytes : List ℕ) → ¬ (IsUtf8 bytes) → None ≡ text_of_bytes bytes
no_text bytes h =
    sym (ap (λ b. cond b (Some bytes) None) (false_from_ne_true (is_utf8 bytes) (λ e. h (IsUtf8-from_is_utf8 bytes e))))
