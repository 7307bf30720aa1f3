-- The ranges of the grammar are read.
use Rattle.std.proofs.Common.{◌≡◌, ◌≤◌, ℕ, zero, suc, ◌+◌, ◌==◌, ◌||◌, ◌++◌, List, [], ◌∷◌, length, Option, Some, None, Bool, true, false, refl, sym, ap, ◌∙◌, arith, inl, inr, append-nil, append_assoc, length-append, subst, get_or}
use Rattle.std.proofs.lemmas.Bool.Decides.{nat_tests}
use Rattle.std.specs.List.{list_all}
use Rattle.std.specs.Prelude.{codes}
use Rattle.semver.specs.Parse.{digits_from as kit_digits, strip_spaces}
use Rattle.semver.proofs.Segments.{and-left}
use Rattle.semver_npm.specs.Grammar.{IsPartial, IsRange, IsRangeSet, IsSimple, IsSimples, operator_text, spaces}
use Rattle.semver_npm.specs.Reader.{Follow, Simples, after_hyphen, after_simple, another, between, dash_after, dash_at, digits_from, ended, ends_at, ends_word, follow_after, follow_at, further, item_at, operand_at, operator_at, part_at, partial_of, range_at, ranges_from, simple_at, simples_from, word_length}
use Rattle.semver_npm.specs.declared.simple.Operator.{Operator}
use Rattle.semver_npm.specs.declared.simple.Operator.TheVariants.{Plain, Exact, Less, AtMost, Greater, AtLeast, Caret, Tilde}
use Rattle.semver_npm.specs.declared.simple.Partial.{Partial}
use Rattle.semver_npm.specs.declared.simple.Simple.{Simple}
use Rattle.semver_npm.proofs.Cuts.{is_cut, partial-bytes, partial_at_read, starts_space, strip_read}
use Rattle.semver_npm.proofs.Partials.{partial_read}
use Rattle.semver_npm.proofs.RangesSound.{regroup_dash}
use Rattle.semver_npm.proofs.WordBytes.{is_word_byte}

-- a text that is not empty, and the byte that it begins with
abbrev Begins : (ℕ → Type 0) → List ℕ → Type 0
Begins P t = (b : ℕ) × (rest : List ℕ) × (t ≡ b ∷ rest) × P b

abbrev InWord : ℕ → Type 0
InWord b = is_word_byte b ≡ true

abbrev NoEnd : ℕ → Type 0
NoEnd b = ends_word b ≡ false

shape : (p : Partial) (w : List ℕ) → partial_of w ≡ Some p → list_all is_word_byte w ≡ true → Begins InWord w
unfolding part_at
shape p [] h all = cc h
shape p (b ∷ t) h all = (b, t, refl, and-left (is_word_byte b) _ all)

partial_first : (p : Partial) (w : List ℕ) → IsPartial p w → Begins InWord w
partial_first p w x = shape p w (partial_read p w x) (partial-bytes p w x)

word_no_end : (b : ℕ) → is_word_byte b ≡ true → ends_word b ≡ false
word_no_end b h = grind (arith, nat_tests)

no_space : (b : ℕ) → ends_word b ≡ false → (b == 32) ≡ false
no_space b h = grind (arith, nat_tests)

no_bar : (b : ℕ) → ends_word b ≡ false → (b == 124) ≡ false
no_bar b h = grind (arith, nat_tests)

-- a text that begins with no operator
abbrev is_operator : ℕ → Bool
is_operator b = b == 60 || (b == 62 || (b == 61 || (b == 94 || b == 126)))

abbrev starts_operator : List ℕ → Bool
starts_operator [] = false
starts_operator (b ∷ t) = is_operator b

word_no_operator : (b : ℕ) → is_word_byte b ≡ true → is_operator b ≡ false
word_no_operator b h = grind (arith, nat_tests)

or-left : (x y : Bool) → (x || y) ≡ false → x ≡ false
or-left true y h = cc h
or-left false y h = refl

or-right : (x y : Bool) → (x || y) ≡ false → y ≡ false
or-right true y h = cc h
or-right false y h = h

operator_read : (o : Operator) (k : List ℕ) → starts_operator k ≡ false → operator_at (operator_text o ++ k) ≡ (o, k)
operator_read Plain [] h = refl
operator_read Plain (b ∷ t) h =
    let h2 = or-right (b == 60) _ h in
    let h3 = or-right (b == 62) _ h2 in
    let h4 = or-right (b == 61) _ h3 in
    rw (or-left (b == 60) _ h, or-left (b == 62) _ h2, or-left (b == 61) _ h3, or-left (b == 94) _ h4, or-right (b == 94) _ h4) refl
operator_read Less [] h = refl
operator_read Less (b ∷ t) h = rw (or-left (b == 61) _ (or-right (b == 62) _ (or-right (b == 60) _ h))) refl
operator_read Greater [] h = refl
operator_read Greater (b ∷ t) h = rw (or-left (b == 61) _ (or-right (b == 62) _ (or-right (b == 60) _ h))) refl
operator_read Exact k h = refl
operator_read AtMost k h = refl
operator_read AtLeast k h = refl
operator_read Caret k h = refl
operator_read Tilde k h = refl

operand_read : (o : Operator) (n : ℕ) (r : List ℕ) → (o ≡ Plain → n ≡ 0) → starts_space r ≡ false → operand_at o (spaces n ++ r) ≡ r
operand_read Plain n r plain h = rw (plain refl) refl
operand_read Exact n r plain h = strip_read n r h
operand_read Less n r plain h = strip_read n r h
operand_read AtMost n r plain h = strip_read n r h
operand_read Greater n r plain h = strip_read n r h
operand_read AtLeast n r plain h = strip_read n r h
operand_read Caret n r plain h = strip_read n r h
operand_read Tilde n r plain h = strip_read n r h

no_operator : (n : ℕ) (w k : List ℕ) → Begins InWord w → starts_operator (spaces n ++ (w ++ k)) ≡ false
no_operator zero w k f = rw f.2 (word_no_operator f.0 f.3)
no_operator (suc n) w k f = refl

begins_no_space : (w k : List ℕ) → Begins NoEnd w → starts_space (w ++ k) ≡ false
begins_no_space w k f = rw f.2 (no_space f.0 f.3)

no_end : (w : List ℕ) → Begins InWord w → Begins NoEnd w
no_end w f = (f.0, f.1, f.2, word_no_end f.0 f.3)

-- a simple of the grammar is read
pub simple_read : (s : Simple) (t k : List ℕ) → IsSimple s t → is_cut k ≡ true → simple_at (t ++ k) ≡ Some (s, k)
simple_read s t k x c =
    let n = x.0 in
    let w = x.1 in
    let first = partial_first s.partial w x.2 in
    let tail : List ℕ = spaces n ++ (w ++ k) in
    let text : t ++ k ≡ operator_text s.operator ++ tail =
    ap (λ l. l ++ k) x.4 ∙ (append_assoc (operator_text s.operator) (spaces n ++ w) k ∙ ap (λ l. operator_text s.operator ++ l) (append_assoc (spaces n) w k)) in
    let op : operator_at (t ++ k) ≡ (s.operator, tail) = ap operator_at text ∙ operator_read s.operator tail (no_operator n w k first) in
    let operand = operand_read s.operator n (w ++ k) x.3 (begins_no_space w k (no_end w first)) in
    rw (op, operand, partial_at_read s.partial w k x.2 c) refl

operator_first : (o : Operator) (n : ℕ) (w : List ℕ) → (o ≡ Plain → n ≡ 0) → Begins NoEnd w → Begins NoEnd (operator_text o ++ (spaces n ++ w))
operator_first Plain n w plain f = rw (plain refl) f
operator_first Exact n w plain f = (61, _, refl, refl)
operator_first Less n w plain f = (60, _, refl, refl)
operator_first AtMost n w plain f = (60, _, refl, refl)
operator_first Greater n w plain f = (62, _, refl, refl)
operator_first AtLeast n w plain f = (62, _, refl, refl)
operator_first Caret n w plain f = (94, _, refl, refl)
operator_first Tilde n w plain f = (126, _, refl, refl)

simple_first : (s : Simple) (t : List ℕ) → IsSimple s t → Begins NoEnd t
simple_first s t x = subst (Begins NoEnd) (sym x.4) (operator_first s.operator x.0 x.1 x.3 (no_end x.1 (partial_first s.partial x.1 x.2)))

begins_more : (t k : List ℕ) → Begins NoEnd t → Begins NoEnd (t ++ k)
begins_more t k f = (f.0, f.1 ++ k, ap (λ l. l ++ k) f.2, f.3)

simples_first : (ss : List Simple) (t : List ℕ) → IsSimples ss t → Begins NoEnd t
simples_first [] t x = absurd x
simples_first (s ∷ []) t x = simple_first s t x
simples_first (s ∷ q ∷ more) t x = subst (Begins NoEnd) (sym x.5) (begins_more x.0 (32 ∷ (spaces x.2 ++ x.1)) (simple_first s x.0 x.3))

-- what stands after the last word of a range
abbrev pub as_follow : Option (List ℕ) → Follow
as_follow None = ended
as_follow (Some v) = another v

spaced : (v : List ℕ) → Begins NoEnd v → follow_after true v ≡ Some (further v)
spaced [] f = cc f.2
spaced (a ∷ []) f = refl
spaced (a ∷ b ∷ rest) f =
    let same : f.0 ≡ a = ap (λ l. get_or l 0 0) (sym f.2) in
    rw (no_bar a (rw same at f.3)) refl

follow_more : (n : ℕ) (v : List ℕ) → Begins NoEnd v → follow_at (32 ∷ (spaces n ++ v)) ≡ Some (further v)
unfolding strip_spaces
follow_more n v f = ap (follow_after true) (strip_read n v (rw f.2 (no_space f.0 f.3))) ∙ spaced v f

follow_bars : (m n : ℕ) (v : List ℕ) → starts_space v ≡ false → follow_at (spaces m ++ (codes "||" ++ (spaces n ++ v))) ≡ Some (another v)
unfolding strip_spaces
follow_bars zero n v h = ap (λ l. Some (another l)) (strip_read n v h)
follow_bars (suc m) n v h = ap (follow_after true) (strip_read m (codes "||" ++ (spaces n ++ v)) refl) ∙ ap (λ l. Some (another l)) (strip_read n v h)

last_simple : (next : List ℕ → Option Simples) (s : Simple) (tail : Option (List ℕ)) → after_simple next s (as_follow tail) ≡ Some (s ∷ [], tail)
last_simple next s None = refl
last_simple next s (Some v) = refl

item_read : (s : Simple) (t k : List ℕ) (f : Follow) → IsSimple s t → is_cut k ≡ true → follow_at k ≡ Some f → item_at (t ++ k) ≡ Some (s, f)
item_read s t k f x c h = rw (simple_read s t k x c, h) refl

pub simples_read : (ss : List Simple) (t k : List ℕ) (tail : Option (List ℕ)) (n : ℕ) → IsSimples ss t → is_cut k ≡ true → follow_at k ≡ Some (as_follow tail) → length ss ≤ n
    → simples_from n (t ++ k) ≡ Some (ss, tail)
unfolding simples_from
simples_read [] t k tail n x c h le = absurd x
simples_read (s ∷ []) t k tail zero x c h le = absurd (omega arith)
simples_read (s ∷ []) t k tail (suc n) x c h le = rw (item_read s t k (as_follow tail) x c h) (last_simple (simples_from n) s tail)
simples_read (s ∷ q ∷ more) t k tail zero x c h le = absurd (omega arith)
simples_read (s ∷ q ∷ more) t k tail (suc n) x c h le =
    let u = x.0 in
    let v = x.1 in
    let rest : List ℕ = 32 ∷ (spaces x.2 ++ (v ++ k)) in
    let text : t ++ k ≡ u ++ rest = ap (λ l. l ++ k) x.5 ∙ (append_assoc u (32 ∷ (spaces x.2 ++ v)) k ∙ ap (λ l. u ++ 32 ∷ l) (append_assoc (spaces x.2) v k)) in
    let item : item_at (t ++ k) ≡ Some (s, further (v ++ k)) = ap item_at text ∙ item_read s u rest (further (v ++ k)) x.3 refl (follow_more x.2 (v ++ k) (begins_more v k (simples_first (q ∷ more) v x.4))) in
    let others = simples_read (q ∷ more) v k tail n x.4 c h (omega arith) in
    rw (item, others) refl

simples_length : (ss : List Simple) (t : List ℕ) → IsSimples ss t → length ss ≤ length t
simples_length [] t x = absurd x
simples_length (s ∷ []) t x = let f = simple_first s t x in rw f.2 (omega arith)
simples_length (s ∷ q ∷ more) t x =
    let r = simples_length (q ∷ more) x.1 x.4 in
    let n : length t ≡ length x.0 + length (32 ∷ (spaces x.2 ++ x.1)) = ap length x.5 ∙ length-append x.0 (32 ∷ (spaces x.2 ++ x.1)) in
    let m : length (spaces x.2 ++ x.1) ≡ length (spaces x.2) + length x.1 = length-append (spaces x.2) x.1 in
    omega arith

-- a lone hyphen is no simple
no_hyphen : (n : ℕ) (z : List ℕ) → simples_from n (45 ∷ 32 ∷ z) ≡ None
unfolding simples_from word_length part_at digits_from kit_digits
no_hyphen zero z = refl
no_hyphen (suc n) z = refl

plain_first : (p : Partial) (u k : List ℕ) → IsPartial p u → is_cut k ≡ true → simple_at (u ++ k) ≡ Some (record { operator = Plain; partial = p }, k)
plain_first p u k x c = simple_read (record { operator = Plain; partial = p }) u k (0, u, x, (λ e. refl), refl) c

not_simples : (n : ℕ) (p : Partial) (u z : List ℕ) (m : ℕ) → IsPartial p u → simples_from n (u ++ 32 ∷ (spaces m ++ 45 ∷ 32 ∷ z)) ≡ None
unfolding simples_from
not_simples zero p u z m x = refl
not_simples (suc n) p u z m x =
    rw (plain_first p u (32 ∷ (spaces m ++ 45 ∷ 32 ∷ z)) x refl, follow_more m (45 ∷ 32 ∷ z) (45, 32 ∷ z, refl, refl), no_hyphen n z) refl

dash_read : (m n : ℕ) (v : List ℕ) → starts_space v ≡ false → dash_at (32 ∷ (spaces m ++ 45 ∷ 32 ∷ (spaces n ++ v))) ≡ Some v
dash_read m n v h = ap dash_after (strip_read m (45 ∷ 32 ∷ (spaces n ++ v)) refl) ∙ ap Some (strip_read n v h)

hyphen_end : (r : List Simple) (tail : Option (List ℕ)) → after_hyphen r (as_follow tail) ≡ Some (r, tail)
hyphen_end r None = refl
hyphen_end r (Some v) = refl

range_read : (r : List Simple) (t k : List ℕ) (tail : Option (List ℕ)) → IsRange r t → is_cut k ≡ true → follow_at k ≡ Some (as_follow tail) → range_at (t ++ k) ≡ Some (r, tail)
range_read r t k tail (inr x) c h =
    let n : length (t ++ k) ≡ length t + length k = length-append t k in
    let le = simples_length r t x in
    rw (simples_read r t k tail (length (t ++ k)) x c h (omega arith)) refl
range_read r t k tail (inl (p, q, u, v, m, n, x, y, e, is)) c h =
    let z : List ℕ = spaces n ++ (v ++ k) in
    let rest : List ℕ = 32 ∷ (spaces m ++ 45 ∷ 32 ∷ z) in
    let text : t ++ k ≡ u ++ rest = ap (λ l. l ++ k) e ∙ sym (regroup_dash u v k m n) in
    let none : simples_from (length (t ++ k)) (t ++ k) ≡ None = ap (simples_from (length (t ++ k))) text ∙ not_simples (length (t ++ k)) p u z m x in
    let low = partial_at_read p u rest x refl in
    let dash = dash_read m n (v ++ k) (begins_no_space v k (no_end v (partial_first q v y))) in
    let high = partial_at_read q v k y c in
    let ends : ends_at (t ++ k) ≡ Some (p, q, as_follow tail) = ap ends_at text ∙ rw (low, dash, high, h) refl in
    rw (none, ends) (hyphen_end (between p q) tail ∙ ap (λ l. Some (l, tail)) (sym is))

range_first : (r : List Simple) (t : List ℕ) → IsRange r t → Begins NoEnd t
range_first r t (inr x) = simples_first r t x
range_first r t (inl (p, q, u, v, m, n, x, y, e, is)) = subst (Begins NoEnd) (sym e) (begins_more u (32 ∷ (spaces m ++ 45 ∷ 32 ∷ (spaces n ++ v))) (no_end u (partial_first p u x)))

set_first : (rs : List (List Simple)) (t : List ℕ) → IsRangeSet rs t → Begins NoEnd t
set_first [] t x = absurd x
set_first (r ∷ []) t x = range_first r t x
set_first (r ∷ q ∷ more) t x = subst (Begins NoEnd) (sym x.6) (begins_more x.0 (spaces x.2 ++ (codes "||" ++ (spaces x.3 ++ x.1))) (range_first r x.0 x.4))

bars_cut : (m : ℕ) (v : List ℕ) → is_cut (spaces m ++ (codes "||" ++ v)) ≡ true
bars_cut zero v = refl
bars_cut (suc m) v = refl

-- a range set of the grammar is read
pub ranges_read : (rs : List (List Simple)) (t : List ℕ) (n : ℕ) → IsRangeSet rs t → length rs ≤ n → ranges_from n t ≡ Some rs
unfolding ranges_from
ranges_read [] t n x le = absurd x
ranges_read (r ∷ []) t zero x le = absurd (omega arith)
ranges_read (r ∷ []) t (suc n) x le = rw (ap range_at (sym (append-nil t)) ∙ range_read r t [] None x refl refl) refl
ranges_read (r ∷ q ∷ more) t zero x le = absurd (omega arith)
ranges_read (r ∷ q ∷ more) t (suc n) x le =
    let v = x.1 in
    let k : List ℕ = spaces x.2 ++ (codes "||" ++ (spaces x.3 ++ v)) in
    let first = set_first (q ∷ more) v x.5 in
    let follow = follow_bars x.2 x.3 v (rw first.2 (no_space first.0 first.3)) in
    let range : range_at t ≡ Some (r, Some v) = ap range_at x.6 ∙ range_read r x.0 k (Some v) x.4 (bars_cut x.2 (spaces x.3 ++ v)) follow in
    rw (range, ranges_read (q ∷ more) v n x.5 (omega arith)) refl

pub set_length : (rs : List (List Simple)) (t : List ℕ) → IsRangeSet rs t → length rs ≤ length t
set_length [] t x = absurd x
set_length (r ∷ []) t x = let f = range_first r t x in rw f.2 (omega arith)
set_length (r ∷ q ∷ more) t x =
    let later = set_length (q ∷ more) x.1 x.5 in
    let a = length-append x.0 (spaces x.2 ++ (codes "||" ++ (spaces x.3 ++ x.1))) in
    let b = length-append (spaces x.2) (codes "||" ++ (spaces x.3 ++ x.1)) in
    let c = length-append (spaces x.3) x.1 in
    let whole = ap length x.6 in
    omega arith
