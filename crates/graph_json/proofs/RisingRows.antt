-- The redirects of a graph stand in the order of their specifiers' texts.
use Rattle.std.proofs.Common.{◌≡◌, ℕ, List, [], ◌∷◌, ◌++◌, Bool, true, false, ◌&&◌, T, map, refl, sym, ap, ◌∙◌, append_assoc}
use Rattle.std.specs.Cmp.Lexicographic.{nat_list_cmp_total}
use Rattle.std.specs.FinMap.{is_sorted}
use Rattle.std.specs.FinMap.Entries.{below_all}
use Rattle.std.specs.Ordering.{is_lt, ordering_reverse}
use Rattle.std.specs.declared.cmp.Ordering.{Ordering}
use Rattle.std.specs.declared.cmp.Ordering.TheVariants.{Less, Equal, Greater}
use Rattle.url.specs.Parts.{Parts, serialize}
use Rattle.spec_base.specs.Shown.{text_cmp}
use Rattle.spec_base.specs.Specifier.{specifier_text, by_text}
use Rattle.json_tokens.specs.Tokens.{rows_tokens, member_tokens}
use Rattle.json_tokens.proofs.RowTokens.{Tokens, Over, Rising}
use Rattle.graph_json.specs.GraphJson.{redirect_row}

first : (a b : Bool) → T (a && b) → T a
first true b p = tt
first false b p = p

second : (a b : Bool) → T (a && b) → T b
second true b p = p
second false b p = absurd p

less_is : (o : Ordering) → T (is_lt o) → o ≡ Less
less_is Less p = refl
less_is Equal p = absurd p
less_is Greater p = absurd p

rows_over : (k : List ℕ) (es : List (List ℕ × Parts)) → T (below_all text_cmp k es) → Over k (map redirect_row es)
rows_over k [] h = tt
rows_over k (e ∷ es) h = (nat_list_cmp_total.antisymm e.0 k ∙ ap ordering_reverse (less_is _ (first _ _ h)), rows_over k es (second _ _ h))

pub rows_rise : (es : List (List ℕ × Parts)) → T (is_sorted text_cmp es) → Rising (map redirect_row es)
rows_rise [] h = tt
rows_rise (e ∷ es) h = (rows_over e.0 es (first _ _ h), rows_rise es (second _ _ h))

-- one more redirect is written
pub one_redirect_text : (all before after : Tokens) (s target : Parts) (left rest : List (Parts × Parts)) (key : List ℕ) → all ≡ before ++ rows_tokens (map redirect_row (by_text left)) → left ≡ (s, target) ∷ rest → key ≡ serialize s
    → after ≡ before ++ member_tokens key (redirect_row (key, target)).1 → all ≡ after ++ rows_tokens (map redirect_row (by_text rest))
unfolding specifier_text
one_redirect_text all before after s target left rest key is split text wrote =
    is
    ∙ ap (λ es. before ++ rows_tokens (map redirect_row (by_text es))) split
    ∙ ap (λ k. before ++ (member_tokens k (redirect_row (k, target)).1 ++ rows_tokens (map redirect_row (by_text rest)))) (sym text)
    ∙ sym (append_assoc before (member_tokens key (redirect_row (key, target)).1) (rows_tokens (map redirect_row (by_text rest))))
    ∙ ap (λ ts. ts ++ rows_tokens (map redirect_row (by_text rest))) (sym wrote)
