-- A text that leads for its types to where it leads for its code.
use Rattle.std.proofs.Common.{◌≡◌, ℕ, List, true, false, Option, Some, None, Result, Ok, Err, refl, sym, ap, ◌∙◌}
use Rattle.std.proofs.lemmas.Option.{none-some, same_Some}
use Rattle.std.proofs.lemmas.Slice.Eq.{bytes_eq-Decides}
use Rattle.std.specs.Prelude.{◌&&◌, ◌||◌, option_and_then, if◌then◌else◌}
use Rattle.url.specs.Parts.{Parts, serialize}
use Rattle.spec_base.specs.declared.position.Range.{Range}
use Rattle.spec_base.specs.declared.position.ResolutionKind.TheVariants.{Execution, Types}
use Rattle.spec_base.specs.declared.resolve_error.ResolveError.{ResolveError}
use Rattle.source_io.specs.Resolvers.{AnswersKindsAlike}
use Rattle.graph_errors.specs.Resolutions.{specifier_in}
use Rattle.graph_errors.specs.declared.resolution.Resolution.{Resolution}
use Rattle.import_records.specs.Dependencies.{is_failure, same_target}
use Rattle.import_records.specs.Growing.{HasOwnCode, offered}
use Rattle.import_records.specs.Importing.{Importing}
use Rattle.graph_dependencies.specs.declared.dependency.Dependency.{Dependency}
use Rattle.import_records.specs.declared.import_record.ImportRecord.{ImportRecord}
use Rattle.import_records.specs.Target.{LeadsTypesAlike, Resolving, is_foreign, permitted, target_by, target_of}

module _ (m : Resolving) (alike : AnswersKindsAlike m.resolver) (text : List ℕ) (range : Range) where
  by_attribute_alike : (attribute : Option (List ℕ)) → option_and_then (m.resolver.by_attribute text range Types) attribute ≡ option_and_then (m.resolver.by_attribute text range Execution) attribute
  by_attribute_alike None = refl
  by_attribute_alike (Some a) = alike.by_attribute text range a

  module _ (code : Resolution) (target : Parts) (leads : specifier_in code ≡ Some target) (own : is_foreign m.nv_of range.specifier target ≡ false) where
    permitted_alike : (r : Result Parts ResolveError) → code ≡ permitted m.nv_of text range Execution r → specifier_in (permitted m.nv_of text range Types r) ≡ specifier_in code
    permitted_alike (Ok s) is =
        let same : Some s ≡ Some target = sym (ap specifier_in is) ∙ leads in
        let kept : is_foreign m.nv_of range.specifier s ≡ false = ap (is_foreign m.nv_of range.specifier) (same_Some s target same) ∙ own in
        rw kept (sym (ap specifier_in is))
    permitted_alike (Err e) is = absurd (none-some target (sym (ap specifier_in is) ∙ leads))

    answered_alike : (o : Option (Result Parts ResolveError)) → code ≡ target_by m text range Execution o → specifier_in (target_by m text range Types o) ≡ specifier_in code
    answered_alike None is =
        ap (λ r. specifier_in (permitted m.nv_of text range Types r)) (alike.resolves text range)
        ∙ permitted_alike (m.resolver.resolve text range Execution) is
    answered_alike (Some answer) is = sym (ap specifier_in is)

    pub target_alike : (attribute : Option (List ℕ)) → code ≡ target_of m text range Execution attribute → specifier_in (target_of m text range Types attribute) ≡ specifier_in code
    target_alike attribute is =
        ap (λ o. specifier_in (target_by m text range Types o)) (by_attribute_alike attribute)
        ∙ answered_alike (option_and_then (m.resolver.by_attribute text range Execution) attribute) is

-- where the resolver answers alike, and the target is none of another version of a package
pub leads_alike : (m : Resolving) (referrer : Parts) (code : Resolution) (target : Parts) → AnswersKindsAlike m.resolver → specifier_in code ≡ Some target → is_foreign m.nv_of referrer target ≡ false → LeadsTypesAlike m referrer code
leads_alike m referrer code target alike leads own = λ text range attribute at is.
    target_alike m alike text range code target leads (ap (λ s. is_foreign m.nv_of s target) at ∙ own) attribute is

same_self : (o : Option Parts) → same_target o o ≡ true
same_self None = refl
same_self (Some s) = (bytes_eq-Decides (serialize s) (serialize s)).1 refl

-- a record whose own code stands offers no type then
pub nothing_offered : (a : Importing) (d : Dependency) (r : ImportRecord) → HasOwnCode a d r → LeadsTypesAlike a.resolving r.imported.specifier_range.specifier d.maybe_code → r.types_text ≡ None → None ≡ offered a d r
nothing_offered a d r own alike none =
    sym (rw (none, own.runs) (ap (λ b. if b || (r.imported.is_side_effect && is_failure found) then None else Some (found, None)) same))
  where
    found : Resolution
    found = target_of a.resolving r.imported.specifier r.imported.specifier_range Types d.maybe_attribute_type

    same : same_target (specifier_in found) (specifier_in d.maybe_code) ≡ true
    same = ap (λ o. same_target o (specifier_in d.maybe_code)) (alike r.imported.specifier r.imported.specifier_range d.maybe_attribute_type refl own.leads) ∙ same_self (specifier_in d.maybe_code)
