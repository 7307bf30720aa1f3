-- The mark of base64 at the end of a head.
use Rattle.std.proofs.Common.{◌≡◌, ℕ, ◌-◌, Bool, true, false, List, length, take, drop, codes, None, Some, refl, ap, sym, ◌∙◌, nat_eq, arith}
use Rattle.std.specs.Prelude.{bytes_eq}
use Rattle.std.specs.List.{ends_with, slice_range}
use Rattle.std.proofs.lemmas.List.{drop-map, length-map}
use Rattle.media_types.specs.Media.{lower}
use Rattle.data_urls.specs.DataUrls.{marked}

-- whether the end of a head is the mark
abbrev end_is_mark : List ℕ → Bool
end_is_mark head = bytes_eq (codes ";base64") (lower (drop (length head - 7) head))

ends_is : (head : List ℕ) → ends_with nat_eq (lower head) (codes ";base64") ≡ end_is_mark head
ends_is head = rw (length-map head _, drop-map _ _ _) refl

-- a head with the mark
pub with_mark : (head : List ℕ) → true ≡ end_is_mark head → Some (slice_range head 0 (length head - 7)) ≡ marked head
with_mark head e =
    let whole : length head - 7 - 0 ≡ length head - 7 = omega arith in
    let test : ends_with nat_eq (lower head) (codes ";base64") ≡ true = ends_is head ∙ sym e in
    ap (λ n. Some (take n head)) whole ∙ sym (rw test refl)

-- a head without it
pub without_mark : (head : List ℕ) → false ≡ end_is_mark head → None ≡ marked head
without_mark head e =
    let test : ends_with nat_eq (lower head) (codes ";base64") ≡ false = ends_is head ∙ sym e in
    sym (rw test refl)
