-- Facts on UTF-8 and on units.
use Rattle.std.proofs.Common.{append_assoc, append-nil, arith, length, drop, get_or, ◌<◌, ◌≤◌, ◌≡◌, ℕ, Bool, true, false, List, [], ◌∷◌, ◌++◌, Some, None, refl, ap, sym, ◌∙◌, ⊎_elim}
use Rattle.std.specs.Prelude.{Option, option_map}
use Rattle.std.specs.Str.{is_utf8, IsUtf8}
use Rattle.std.proofs.lemmas.Bool.{cases_Bool}
use Rattle.std.proofs.lemmas.Str.{IsUtf8-from_is_utf8, is_utf8-from_IsUtf8}
use Rattle.media_types.specs.Decode.{unit, units}

-- bytes that are no text
pub no_text : (bs : List ℕ) → ¬ (IsUtf8 bs) → is_utf8 bs ≡ false
no_text bs not =
    ⊎_elim (λ yes. absurd (not (IsUtf8-from_is_utf8 bs yes))) (λ no. no) (cases_Bool (is_utf8 bs))

-- bytes that are a text
pub some_text : (bs : List ℕ) → IsUtf8 bs → is_utf8 bs ≡ true
some_text bs h = is_utf8-from_IsUtf8 bs h

-- one more unit at the end of those that are done
pub one_more : (done : List ℕ) (u : ℕ) (o : Option (List ℕ)) → option_map (λ us. done ++ us) (option_map (λ us. u ∷ us) o) ≡ option_map (λ us. (done ++ u ∷ []) ++ us) o
one_more done u None = refl
one_more done u (Some us) = ap Some (sym (append_assoc done (u ∷ []) us))

-- two bytes of what is left are one more unit
pub next_unit : (little : Bool) (all left done : List ℕ) → 2 ≤ length left → units little all ≡ option_map (λ us. done ++ us) (units little left) → units little all ≡ option_map (λ us. (done ++ unit little (get_or left 0 0) (get_or left 1 0) ∷ []) ++ us) (units little (drop 2 left))
unfolding units
next_unit little all [] done long h = absurd (omega (arith, long))
next_unit little all (a ∷ []) done long h = absurd (omega (arith, long))
next_unit little all (a ∷ b ∷ rest) done long h = h ∙ one_more done (unit little a b) (units little rest)

-- nothing is left
pub all_done : (little : Bool) (all left done : List ℕ) → length left ≡ 0 → units little all ≡ option_map (λ us. done ++ us) (units little left) → Some done ≡ units little all
unfolding units
all_done little all [] done none h = sym (h ∙ ap Some (append-nil done))
all_done little all (a ∷ left) done none h = absurd (omega (arith, none))

-- one byte is left
pub one_left : (little : Bool) (all left done : List ℕ) → 0 < length left → length left < 2 → units little all ≡ option_map (λ us. done ++ us) (units little left) → None ≡ units little all
unfolding units
one_left little all [] done some short h = absurd (omega (arith, some))
one_left little all (a ∷ []) done some short h = sym h
one_left little all (a ∷ b ∷ left) done some short h = absurd (omega (arith, short))
