-- The charset of a text by its first `;`.
use Rattle.std.proofs.Common.{◌≡◌, ℕ, ◌+◌, ◌<◌, Bool, true, false, List, [], ◌∷◌, length, drop, None, refl, ap, sym, ◌∙◌, arith, suc}
use Rattle.std.specs.Prelude.{Option}
use Rattle.std.specs.List.{position_or_len, after_first}
use Rattle.std.specs.Option.{option_or}
use Rattle.std.specs.Str.{trim}
use Rattle.media_types.specs.ContentType.{is_semicolon, first_piece, charset_in, charset_after}

-- what the rest after a `;` gives
abbrev pub by_rest : List ℕ → Option (List ℕ)
by_rest rest = option_or (charset_in (trim (first_piece rest))) (charset_after rest)

-- with a first `;` at the front or further on
step_at : (s : Bool) (b : ℕ) (bs : List ℕ) → is_semicolon b ≡ s → (position_or_len is_semicolon bs < length bs → charset_after bs ≡ by_rest (after_first is_semicolon bs)) → position_or_len is_semicolon (b ∷ bs) < length (b ∷ bs) → charset_after (b ∷ bs) ≡ by_rest (after_first is_semicolon (b ∷ bs))
unfolding charset_after
step_at true b bs e later within = rw e refl
step_at false b bs e later within =
    let at : position_or_len is_semicolon (b ∷ bs) ≡ 1 + position_or_len is_semicolon bs = rw e refl in
    let head : charset_after (b ∷ bs) ≡ charset_after bs = rw e refl in
    let inside : position_or_len is_semicolon bs < length bs = omega (arith, at, within) in
    let n : position_or_len is_semicolon (b ∷ bs) + 1 ≡ suc (position_or_len is_semicolon bs + 1) = omega (arith, at) in
    let rest : after_first is_semicolon (b ∷ bs) ≡ after_first is_semicolon bs = ap (λ k. drop k (b ∷ bs)) n in
    head ∙ later inside ∙ ap by_rest (sym rest)

pub charset_step : (text : List ℕ) → position_or_len is_semicolon text < length text → charset_after text ≡ by_rest (after_first is_semicolon text)
charset_step [] within = absurd (omega (arith, within))
charset_step (b ∷ bs) within = step_at (is_semicolon b) b bs refl (charset_step bs) within

none_at : (s : Bool) (b : ℕ) (bs : List ℕ) → is_semicolon b ≡ s → (position_or_len is_semicolon bs ≡ length bs → charset_after bs ≡ None) → position_or_len is_semicolon (b ∷ bs) ≡ length (b ∷ bs) → charset_after (b ∷ bs) ≡ None
unfolding charset_after
none_at true b bs e later end =
    let at : position_or_len is_semicolon (b ∷ bs) ≡ 0 = rw e refl in absurd (omega (arith, at, end))
none_at false b bs e later end =
    let at : position_or_len is_semicolon (b ∷ bs) ≡ 1 + position_or_len is_semicolon bs = rw e refl in
    let head : charset_after (b ∷ bs) ≡ charset_after bs = rw e refl in
    head ∙ later (omega (arith, at, end))

pub charset_none : (text : List ℕ) → position_or_len is_semicolon text ≡ length text → charset_after text ≡ None
unfolding charset_after
charset_none [] end = refl
charset_none (b ∷ bs) end = none_at (is_semicolon b) b bs refl (charset_none bs) end
