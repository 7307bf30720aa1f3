-- Text that is written part by part, the last part by a call whose result is the function's own.
use Rattle.std.proofs.Common.{◌≡◌, ℕ, List, ◌++◌, Result, Ok, Err, cond, is_ok, OnOk, ap, ◌∙◌, append_assoc}

module _ {T E : Type 0} where
  -- the last part
  pub last_part : (r : Result T E) (was part now : List ℕ) → now ≡ cond (is_ok r) (was ++ part) was → OnOk r (now ≡ was ++ part)
  last_part (Ok x) was part now h = h
  last_part (Err e) was part now h = tt

  -- the same part in other words
  pub same_part : (r : Result T E) (was part other now : List ℕ) → part ≡ other → OnOk r (now ≡ was ++ part) → OnOk r (now ≡ was ++ other)
  same_part (Ok x) was part other now e h = h ∙ ap (λ (text : List ℕ). was ++ text) e
  same_part (Err x) was part other now e h = tt

  -- a part in front of what is written behind it
  pub first_part : (r : Result T E) (was part now rest last : List ℕ) → now ≡ was ++ part → OnOk r (last ≡ now ++ rest) → OnOk r (last ≡ was ++ (part ++ rest))
  first_part (Ok x) was part now rest last e h = h ∙ ap (λ (text : List ℕ). text ++ rest) e ∙ append_assoc was part rest
  first_part (Err x) was part now rest last e h = tt
