use Rattle.std.proofs.Common.{◌≡◌, ◌+◌, ◌∷◌, List, ℕ, Bor, Bool, ◌||◌, drop, cond, true, false, not, refl, sym, ap, ◌∙◌, arith, rules, nat_cmp}
use Rattle.std.proofs.lemmas.List.{drop_more}
use Rattle.std.proofs.lemmas.Map.Text.{is_eq-slice_cmp}
use Rattle.std.specs.Cmp.Lexicographic.{slice_cmp}
use Rattle.std.specs.List.{list_any}
use Rattle.std.specs.Ordering.{is_eq}
use Rattle.std.specs.Str.{bytes_eq}
use Rattle.url.specs.Parts.{serialize}
use Rattle.json_forms.specs.Keyed.{no_repeats}
use Rattle.json_forms.proofs.DistinctLemmas.{rising_distinct, same_bytes}
use Rattle.json_forms.proofs.keyed.are_distinct.Goals as goal

cond_or : (a b : Bool) → cond a true b ≡ (a || b)
cond_or true b = refl
cond_or false b = refl

-- a text that was seen ends the search, and another goes to those that were seen
repeats : (done ts : List (List ℕ)) (t : List ℕ) → not (list_any (bytes_eq t) done) ≡ false → no_repeats done (t ∷ ts) ≡ false
repeats done ts t e = rw e

goes_on : (done ts : List (List ℕ)) (t : List ℕ) → not (list_any (bytes_eq t) done) ≡ true → no_repeats done (t ∷ ts) ≡ no_repeats (t ∷ done) ts
goes_on done ts t e = rw e

-- a key added to a set
added : (done : List (List ℕ)) (t q : List ℕ) (b : Bool) → b ≡ list_any (bytes_eq q) done → cond (is_eq (slice_cmp nat_cmp t q)) true b ≡ list_any (bytes_eq q) (t ∷ done)
added done t q b e = rw (is_eq-slice_cmp t q, same_bytes t q, e) (cond_or (bytes_eq q t) _)

pub returns-then-entries_rise : goal.returns-then-entries_rise
returns-then-entries_rise g c = rising_distinct c.args.entries.now (c.entries_rise.ensures.0 c.if-entries_rise.true)

pub returns-then-not-branch : goal.returns-then-not-branch
returns-then-not-branch g c =
    let l = c.loop-entry in
    let xs = c.args.entries.now in
    let x = c.entry-item.result in
    let t = serialize x.0 in
    let here : drop l.entry-index xs ≡ x ∷ drop (l.entry-index + 1) xs = drop_more xs l.entry-index x (omega arith) ∙ ap (λ y. y ∷ drop (l.entry-index + 1) xs) (sym c.entry-item.is) in
    let named : c.as_str.result.now ≡ t = search rules in
    let seen : not (list_any (bytes_eq t) l.invariant.0) ≡ false = ap not (sym (l.invariant.2 t)) ∙ rw (← named) (sym c.in_ok-insert.ensures.added ∙ c.if-not-branch.true) in
    sym (rw l.invariant.1 (rw here (repeats l.invariant.0 _ t seen)))

pub loop-entry-preserved : goal.loop-entry-preserved
loop-entry-preserved g c =
    let l = c.loop-entry in
    let xs = c.args.entries.now in
    let x = c.entry-item.result in
    let t = serialize x.0 in
    let here : drop l.entry-index xs ≡ x ∷ drop (l.entry-index + 1) xs = drop_more xs l.entry-index x (omega arith) ∙ ap (λ y. y ∷ drop (l.entry-index + 1) xs) (sym c.entry-item.is) in
    let named : c.as_str.result.now ≡ t = search rules in
    let new : not (list_any (bytes_eq t) l.invariant.0) ≡ true = ap not (sym (l.invariant.2 t)) ∙ rw (← named) (sym c.in_ok-insert.ensures.added ∙ c.if-not-branch.false) in (
      t ∷ l.invariant.0,
      rw l.invariant.1 (rw here (goes_on l.invariant.0 _ t new)),
      λ q.
          let k : Bor (List ℕ) = record { ref_ptr = (0, 0); now = q } in
          c.in_ok-insert.ensures.updates.0 k ∙ rw named (added (l.invariant.0) t q _ (l.invariant.2 q)),
    )
