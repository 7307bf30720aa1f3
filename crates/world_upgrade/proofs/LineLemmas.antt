-- A JSON text and a line break are read as the text.
use Rattle.std.proofs.Common.{◌≡◌, ℕ, Bool, true, false, cond, ◌&&◌, List, [], ◌∷◌, ◌++◌, refl, sym, ap, ap₂, ◌∙◌, append_assoc, option_and_then}
use Rattle.json.specs.Token.{Token, begin_object, end_object, begin_array, end_array, key, string, number, boolean, null, bad}
use Rattle.json.specs.Word.{ends_word, word}
use Rattle.json.specs.Lex.{Lexeme, token, comma, colon, string_token, lex, between, fresh, punctuate, tokens}
use Rattle.json.specs.Print.{escape, quoted, token_text, begins, ends, separator, print_from, print, IsPrintableOrBad, ArePrintableOrBad}
use Rattle.json.specs.Json as json
use Rattle.json.proofs.Numbered.{ArePrintableOrBad-tokens}
use Rattle.json.proofs.Printed.Strings.{content-escape, lex-escape}
use Rattle.json.proofs.Printed.Numbers.{lex-number, in_word-ended}
use Rattle.serde_json.specs.Read.{of_json, max_depth, read}

-- what a token is for the lexer
abbrev lexemes_of : Token → List Lexeme
lexemes_of begin_object = token begin_object ∷ []
lexemes_of end_object = token end_object ∷ []
lexemes_of begin_array = token begin_array ∷ []
lexemes_of end_array = token end_array ∷ []
lexemes_of (key s) = token (string s) ∷ colon ∷ []
lexemes_of (string s) = token (string s) ∷ []
lexemes_of (number s) = token (number s) ∷ []
lexemes_of (boolean b) = token (boolean b) ∷ []
lexemes_of null = token null ∷ []
lexemes_of bad = []

of_quoted : (s rest : List ℕ) → lex between (quoted s ++ rest) ≡ token (string s) ∷ lex between rest
unfolding lex
of_quoted s rest =
    ap (λ text. lex between (34 ∷ text)) (append_assoc (escape s) (34 ∷ []) rest)
    ∙ ap₂ (λ found others. token (string_token found) ∷ others) (content-escape s rest) (lex-escape s rest)

of_token : (t : Token) (rest : List ℕ) → IsPrintableOrBad t → (ends t ≡ true → ends_word rest ≡ true) → lex between (token_text t ++ rest) ≡ lexemes_of t ++ lex between rest
unfolding lex word
of_token begin_object rest is ended = refl
of_token end_object rest is ended = refl
of_token begin_array rest is ended = refl
of_token end_array rest is ended = refl
of_token (key s) rest is ended = ap (lex between) (append_assoc (quoted s) (58 ∷ []) rest) ∙ of_quoted s (58 ∷ rest)
of_token (string s) rest is ended = of_quoted s rest
of_token (number s) rest is ended = lex-number s rest is (ended refl)
of_token (boolean true) rest is ended = ap₂ (λ whole others. token (cond whole (boolean true) bad) ∷ others) (ended refl) (in_word-ended rest (ended refl))
of_token (boolean false) rest is ended = ap₂ (λ whole others. token (cond whole (boolean false) bad) ∷ others) (ended refl) (in_word-ended rest (ended refl))
of_token null rest is ended = ap₂ (λ whole others. token (cond whole null bad) ∷ others) (ended refl) (in_word-ended rest (ended refl))
of_token bad rest is ended = refl

of_separator : (b : Bool) (rest : List ℕ) → lex between (cond b (44 ∷ []) [] ++ rest) ≡ cond b (comma ∷ []) [] ++ lex between rest
unfolding lex
of_separator true rest = refl
of_separator false rest = refl

-- a word ends before what follows a value, and before a line break
ends_there : (ts : List Token) → ends_word (print_from true ts) ≡ true
unfolding print_from
ends_there [] = refl
ends_there (begin_object ∷ ts) = refl
ends_there (end_object ∷ ts) = refl
ends_there (begin_array ∷ ts) = refl
ends_there (end_array ∷ ts) = refl
ends_there (key s ∷ ts) = refl
ends_there (string s ∷ ts) = refl
ends_there (number s ∷ ts) = refl
ends_there (boolean b ∷ ts) = refl
ends_there (null ∷ ts) = refl
ends_there (bad ∷ ts) = refl

ends_before : (ts : List Token) → ends_word (print_from true ts ++ 10 ∷ []) ≡ true
unfolding print_from
ends_before [] = refl
ends_before (begin_object ∷ ts) = refl
ends_before (end_object ∷ ts) = refl
ends_before (begin_array ∷ ts) = refl
ends_before (end_array ∷ ts) = refl
ends_before (key s ∷ ts) = refl
ends_before (string s ∷ ts) = refl
ends_before (number s ∷ ts) = refl
ends_before (boolean b ∷ ts) = refl
ends_before (null ∷ ts) = refl
ends_before (bad ∷ ts) = refl

same_lexemes : (c : Bool) (ts : List Token) → ArePrintableOrBad ts → lex between (print_from c ts ++ 10 ∷ []) ≡ lex between (print_from c ts)
unfolding lex print_from
same_lexemes c [] all = refl
same_lexemes c (t ∷ ts) all =
    let rest : List ℕ = print_from (ends t) ts in
    let comma_before : Bool = c && begins t in
    let apart = append_assoc (separator c t) (token_text t ++ rest) (10 ∷ []) ∙ ap (λ text. separator c t ++ text) (append_assoc (token_text t) rest (10 ∷ [])) in
    let longer = of_token t (rest ++ 10 ∷ []) all.0 (λ e. ap (λ b. ends_word (print_from b ts ++ 10 ∷ [])) e ∙ ends_before ts) in
    let shorter = of_token t rest all.0 (λ e. ap (λ b. ends_word (print_from b ts)) e ∙ ends_there ts) in
    ap (lex between) apart ∙ of_separator comma_before (token_text t ++ (rest ++ 10 ∷ []))
    ∙ ap (λ ls. cond comma_before (comma ∷ []) [] ++ ls) (longer ∙ ap (λ ls. lexemes_of t ++ ls) (same_lexemes (ends t) ts all.1) ∙ sym shorter)
    ∙ sym (of_separator comma_before (token_text t ++ rest))

-- what a writer has written is read with a line break as without
pub read_line : (text : List ℕ) → text ≡ print (tokens text) → read (text ++ 10 ∷ []) ≡ read text
read_line text written =
    let longer = ap (λ s. punctuate fresh (lex between (s ++ 10 ∷ []))) written in
    let same = ap (punctuate fresh) (same_lexemes false (tokens text) (ArePrintableOrBad-tokens text)) in
    let shorter = ap (λ s. punctuate fresh (lex between s)) (sym written) in
    ap (λ ts. option_and_then of_json (option_and_then (λ p. json.if_last p.0 p.1) (json.value max_depth ts))) (longer ∙ same ∙ shorter)
