use Rattle.std.proofs.Common.{◌≡◌, subst, sym, inl, inr, refl, ⊎_elim, ap, ◌∙◌}
use Rattle.graph_errors.specs.declared.errors.ModuleError.{ModuleError}
use Rattle.spec_base.specs.Specifier.{specifier_text}
use Rattle.graph_walk.specs.EntryValue.{entry_value}
use Rattle.graph_walk.specs.Lists.{Text, Among}
use Rattle.graph_walk.specs.Order.{Entry}
use Rattle.graph_walk.specs.Order.Entry.{OfModule, OfError, Redirected}
use Rattle.url.specs.Parts.{Parts}
use Rattle.module_slots.specs.declared.slot.Module.{Module}
use Rattle.graph_tests.proofs.walk_caller.has_error.Goals as goal

no_module : (m : Module) (e : ModuleError) → OfError e ≡ OfModule m → ⊥
no_module m e same = absurd cc

no_redirect : (t : Parts) (e : ModuleError) → OfError e ≡ Redirected t → ⊥
no_redirect t e same = absurd cc

pub loop-specifier-init : goal.loop-specifier-init
loop-specifier-init g c = record {
  given = λ s e a. c.in_ok-walk.ensures.closure.within s e a;
  left = λ s e inside is. c.in_ok-walk.ensures.closure.all s (OfError e) inside is;
}

pub returns-in-Err-clause-found : goal.returns-in-Err-clause-found
returns-in-Err-clause-found g c = λ _.
    let s = specifier_text c.in-Some._specifier.now in
    let e = OfError c.in-Err.field-0.now in
    let is = c.loop-specifier.invariant.given s e (subst (Among (s, e)) (sym c.in-Some.ensures.steps.0) (inl (ap (λ x. (s, x)) (sym (ap entry_value c.in-Err.is))))) in
    (s, c.in-Err.field-0.now, is.0, is.1)

pub loop-specifier-preserved-in-Module : goal.loop-specifier-preserved-in-Module
loop-specifier-preserved-in-Module g c =
    let step = c.in-Some.ensures.steps.0 in
    record {
      given = λ s e a. c.loop-specifier.invariant.given s e (subst (Among (s, e)) (sym step) (inr a));
      left = λ s e inside is. ⊎_elim (λ same. absurd (no_module _ e (ap (λ p. p.1) same ∙ ap entry_value c.in-Module.is))) (λ a. a) (subst (Among (s, OfError e)) step (c.loop-specifier.invariant.left s e inside is));
    }

pub loop-specifier-preserved : goal.loop-specifier-preserved
loop-specifier-preserved g c =
    let step = c.in-Some.ensures.steps.0 in
    record {
      given = λ s e a. c.loop-specifier.invariant.given s e (subst (Among (s, e)) (sym step) (inr a));
      left = λ s e inside is. ⊎_elim (λ same. absurd (no_redirect _ e (ap (λ p. p.1) same ∙ ap entry_value c.in-Redirect.is))) (λ a. a) (subst (Among (s, OfError e)) step (c.loop-specifier.invariant.left s e inside is));
    }

pub returns-clause-none : goal.returns-clause-none
returns-clause-none g c = λ _ h.
    let s : Text = h.0 in
    let e : ModuleError = h.1 in
    subst (Among (s, OfError e)) c.in_default.ensures.steps.0.0 (c.loop-specifier.invariant.left s e h.2 h.3)
