-- Words that are read one by one.
use Rattle.std.proofs.Common.{◌≡◌, ◌∙◌, ℕ, ◌+◌, ◌<◌, List, [], ◌∷◌, ◌++◌, map, length, drop, get_or, Option, Some, None, option_map, refl, ap, sym, append_assoc}
use Rattle.std.proofs.lemmas.List.{drop_more}
use Rattle.url.specs.Parts.{Parts}
use Rattle.json_forms.specs.Form.{url_of}
use Rattle.calls_program.specs.Calls.{specifiers_of}

pushed : (done : List Parts) (s : Parts) (o : Option (List Parts)) → option_map (λ ss. done ++ ss) (option_map (λ ss. s ∷ ss) o) ≡ option_map (λ ss. (done ++ s ∷ []) ++ ss) o
pushed done s None = refl
pushed done s (Some ss) = ap Some (sym (append_assoc done (s ∷ []) ss))

word_read : (w : List ℕ) (ws : List (List ℕ)) (s : Parts) (done : List Parts) → url_of w ≡ Some s → option_map (λ ss. done ++ ss) (specifiers_of (w ∷ ws)) ≡ option_map (λ ss. (done ++ s ∷ []) ++ ss) (specifiers_of ws)
word_read w ws s done read = rw read (pushed done s (specifiers_of ws))

-- the word at a place is read
pub word_read_at : {W : Type 0} (f : W → List ℕ) (words : List W) (i : ℕ) (d : W) (s : Parts) (done : List Parts) → i < length words → url_of (f (get_or words i d)) ≡ Some s → option_map (λ ss. done ++ ss) (specifiers_of (map f (drop i words))) ≡ option_map (λ ss. (done ++ s ∷ []) ++ ss) (specifiers_of (map f (drop (i + 1) words)))
word_read_at f words i d s done below read =
    ap (λ l. option_map (λ ss. done ++ ss) (specifiers_of (map f l))) (drop_more words i d below) ∙ word_read (f (get_or words i d)) (map f (drop (i + 1) words)) s done read
