-- Whether known redirects lead back to a specifier whose own slot and redirect don't count.
use Rattle.std.proofs.Common.{◌≡◌, ℕ, ◌-◌, ◌≤◌, Bool, true, false, cond, Option, None, Some, is_some, refl, sym, ap, ◌∙◌, arith, if◌then◌else◌}
use Rattle.std.specs.Cmp.Lexicographic.{nat_list_cmp_total}
use Rattle.std.specs.FinMap as finite
use Rattle.std.specs.FinMap.{len-remove}
use Rattle.url.specs.Parts.{Parts}
use Rattle.spec_base.specs.Specifier.{same_specifier, specifier_text}
use Rattle.graph_core.specs.declared.graph.ModuleGraph.{ModuleGraph}
use Rattle.graph_core.specs.Graph.{has_slot, redirect_at}
use Rattle.graph_turns.specs.Machine.Redirects.{redirected_end, leads_back, onward_at, unknown_at}
use Rattle.graph_core.proofs.At.{cut_same, cut_other, text_of_same, other_text}
use Rattle.graph_turns.proofs.Leading.Ends.{Steps, led_steps, steps_before, steps_end, steps_led, steps_within}
use Rattle.graph_turns.proofs.Leading.Follow.{onward_free}

module _ (g : ModuleGraph) (asked : Parts) where
  no_redirect : (x : Parts) → same_specifier x asked ≡ true → redirect_at (unknown_at g asked) x ≡ None
  no_redirect x t = ap (λ z. finite.get (unknown_at g asked).redirects z) (text_of_same x asked t) ∙ cut_same g.redirects (specifier_text asked)

  -- nothing leads on from it
  pub asked_last : (x : Parts) → same_specifier x asked ≡ true → onward_at (unknown_at g asked) x ≡ None
  asked_last x t =
      let none : has_slot (unknown_at g asked) x ≡ false = ap (λ z. finite.contains_key (unknown_at g asked).slots z) (text_of_same x asked t) ∙ ap is_some (cut_same g.slots (specifier_text asked)) in
      onward_free (unknown_at g asked) x none ∙ no_redirect x t

  -- all else is as it was
  pub other_onward : (x : Parts) → same_specifier x asked ≡ false → onward_at (unknown_at g asked) x ≡ onward_at g x
  other_onward x f =
      ap (λ b. if b then None else redirect_at (unknown_at g asked) x) (ap is_some (cut_other g.slots (specifier_text asked) (specifier_text x) (other_text x asked f)))
      ∙ ap (λ r. if has_slot g x then None else r) (cut_other g.redirects (specifier_text asked) (specifier_text x) (other_text x asked f))

  leads_on : (x t : Parts) → onward_at (unknown_at g asked) x ≡ Some t → same_specifier x asked ≡ false
  leads_on x t e = by_same (same_specifier x asked) refl
    where
      by_same : (b : Bool) → same_specifier x asked ≡ b → same_specifier x asked ≡ false
      by_same true s = absurd (let none = asked_last x s in cc)
      by_same false f = f

  fewer : finite.len (unknown_at g asked).redirects ≤ finite.len g.redirects
  fewer = by_found (is_some (redirect_at g asked)) (len-remove nat_list_cmp_total g.redirects (specifier_text asked))
    where
      by_found : (b : Bool) → finite.len (finite.remove g.redirects (specifier_text asked)) ≡ cond b (finite.len g.redirects - 1) (finite.len g.redirects) → finite.len (finite.remove g.redirects (specifier_text asked)) ≤ finite.len g.redirects
      by_found true e = omega (arith, e)
      by_found false e = omega (arith, e)

  -- no redirect leads on
  pub ends_back : (m : ℕ) (n at : Parts) → Steps (unknown_at g asked) m n at → onward_at (unknown_at g asked) at ≡ None → same_specifier at asked ≡ leads_back g asked n
  ends_back m n at steps e = ap (λ x. same_specifier x asked) (sym (steps_led (unknown_at g asked) steps e))

  -- as many redirects were followed as there are
  pub full_back : (m : ℕ) (n at : Parts) → finite.len g.redirects ≤ m → Steps (unknown_at g asked) m n at → same_specifier at asked ≡ leads_back g asked n
  full_back m n at full steps = by_next (onward_at (unknown_at g asked) at) refl
    where
      by_last : (t : Parts) → onward_at (unknown_at g asked) at ≡ Some t → (o : Option Parts) → onward_at (unknown_at g asked) (redirected_end (unknown_at g asked) n) ≡ o → same_specifier at asked ≡ leads_back g asked n
      by_last t e None none = absurd
          (let way = led_steps (unknown_at g asked) n in
          let before = steps_before (unknown_at g asked) steps e way.1 none in
          let within = steps_within way.0 (unknown_at g asked) (specifier_text n) (specifier_text (redirected_end (unknown_at g asked) n)) (steps_end (unknown_at g asked) way.1 none) in
          omega (arith, before, within, fewer, full))
      by_last t e (Some u) some = leads_on at t e ∙ sym (leads_on (redirected_end (unknown_at g asked) n) u some)

      by_next : (o : Option Parts) → onward_at (unknown_at g asked) at ≡ o → same_specifier at asked ≡ leads_back g asked n
      by_next None e = ends_back m n at steps e
      by_next (Some t) e = by_last t e (onward_at (unknown_at g asked) (redirected_end (unknown_at g asked) n)) refl
