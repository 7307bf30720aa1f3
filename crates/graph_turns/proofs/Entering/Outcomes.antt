-- What an answer gives, where it is told what slots are made by.
use Rattle.std.proofs.Common.{◌≡◌, ℕ, List, [], Bool, true, false, Option, None, Some, refl, ap, sym, ◌∙◌, subst, if◌then◌else◌, IfSome, IfOk}
use Rattle.std.proofs.lemmas.Bool.{true≢false}
use Rattle.std.proofs.lemmas.Result.{IfOk-from_err, IfOk-weaker}
use Rattle.std.specs.Prelude.{Result}
use Rattle.std.specs.Result.{IsErr}
use Rattle.url.specs.Parts.{Parts}
use Rattle.spec_base.specs.Options.{by_option}
use Rattle.spec_base.specs.declared.load_error.LoadError.{LoadError}
use Rattle.module_info.specs.declared.types.ModuleInfo.{ModuleInfo}
use Rattle.semver_npm.specs.declared.package.PackageNv.{PackageNv}
use Rattle.source_io.specs.declared.types.CacheResponse.{CacheResponse}
use Rattle.source_io.specs.declared.types.CacheResponse.TheVariants.{Cached, Redirect as CacheRedirect}
use Rattle.source_io.specs.declared.types.LoadResponse.{LoadResponse}
use Rattle.source_io.specs.declared.types.LoadResponse.TheVariants.{External, Redirect, Module}
use Rattle.module_slots.specs.declared.load.Load.{Load}
use Rattle.module_slots.specs.declared.load.LoadContext.{LoadContext}
use Rattle.module_slots.specs.declared.slot.ModuleSlot.{ModuleSlot}
use Rattle.slot_making.specs.Made.{Making, made_slot}
use Rattle.module_slots.specs.Slots.{is_asset_slot, is_pending}
use Rattle.slot_making.specs.declared.source.Source.{Source}
use Rattle.graph_turns.specs.declared.question_of.Asked.{Asked}
use Rattle.graph_turns.specs.declared.later_content.LaterContent.{LaterContent}
use Rattle.graph_turns.specs.declared.outcome.Outcome.{Outcome}
use Rattle.graph_turns.specs.declared.outcome.Outcome.TheVariants.{At}
use Rattle.graph_turns.specs.Promise.Contents.{content_of}
use Rattle.graph_turns.specs.Promise.Slots.{external_slot}
use Rattle.graph_turns.specs.Promise.Taken.{Taken, Found, Absent, Refused, info_for, or_info, redirect_sum, redirect_under, taken_cached, taken_response}
use Rattle.graph_turns.specs.Machine.Entering.{IsFinal}
use Rattle.graph_turns.specs.Machine.Outcomes.{Suits, info_outcome, missing_outcome, outcome_of, refused_outcome}
use Rattle.graph_turns.specs.Machine.Outcomes.Suits.{settles, comes, goes_on}

-- the slot that a source makes, at its name
pub at_told : (o : Option Making) (s : Parts) (c : LoadContext) (asked : Asked) (name : Parts) (slot : ModuleSlot) (source : Source) (t : Taken) → Found source ≡ t → source.info ≡ None → name ≡ source.name → IfSome o (λ m. slot ≡ made_slot m source c) → IfSome o (λ m. At name slot asked.held None ≡ outcome_of m s c asked t)
at_told None s c asked name slot source t found plain same made = tt
at_told (Some m) s c asked name slot source t found plain same made =
    subst (λ x. At name slot asked.held None ≡ outcome_of m s c asked x) found
    (ap (λ n. At n slot asked.held None) same ∙ ap (λ x. At source.name x asked.held None) made
    ∙ ap (λ i. At source.name (made_slot m source c) asked.held (content_of s c asked i)) (sym plain))

-- what a source makes
abbrev pub Makes : {E : Type 0} → Option Making → Result ModuleSlot E → LoadContext → Source → Type 0
Makes o r c source = IfSome o (λ m. IfOk r (λ slot. slot ≡ made_slot m source c))

-- the same source under the same name
pub slot_named : {E : Type 0} (o : Option Making) (r : Result ModuleSlot E) (c : LoadContext) (source : Source) (own : Parts) → own ≡ source.name → Makes o r c (record source { name = own }) → Makes o r c source
slot_named o r c source own its told = subst (λ n. Makes o r c (record source { name = n })) its told

-- the source that an info stands for
abbrev pub InfoMakes : {E : Type 0} → Option Making → Result ModuleSlot E → LoadContext → Parts → List ℕ → ModuleInfo → Type 0
InfoMakes o r c s bytes info = IfSome o (λ m. IfOk r (λ slot. slot ≡ made_slot m (record { name = s; content = bytes; headers = None; mtime = None; info = Some info }) c))

-- the slot that an info makes
pub slot_told : {E : Type 0} (o : Option Making) (r : Result ModuleSlot E) (c : LoadContext) (s own : Parts) (bytes : List ℕ) (info given : ModuleInfo) → own ≡ s → bytes ≡ [] → given ≡ info → InfoMakes o r c own bytes given → InfoMakes o r c s [] info
slot_told o r c s own bytes info given its empty same told =
    subst (λ n. InfoMakes o r c n [] info) its (subst (λ b. InfoMakes o r c own b info) empty (subst (λ i. InfoMakes o r c own bytes i) same told))

-- the module that an info makes, whose content comes later
pub by_info_told : {E : Type 0} (o : Option Making) (r : Result Outcome E) (s : Parts) (c : LoadContext) (asked : Asked) (info : ModuleInfo) (slot : ModuleSlot) → IfSome o (λ m. slot ≡ made_slot m (record { name = s; content = []; headers = None; mtime = None; info = Some info }) c) → IfOk r (λ x. x ≡ At s slot asked.held (Some (record { specifier = s; context = c; checksum = asked.checksum }))) → IfSome o (λ m. IfOk r (λ x. x ≡ info_outcome m s c asked info))
by_info_told None r s c asked info slot made given = tt
by_info_told (Some m) r s c asked info slot made given =
    IfOk-weaker r (λ x. x ≡ At s slot asked.held (Some (record { specifier = s; context = c; checksum = asked.checksum }))) (λ x. x ≡ info_outcome m s c asked info)
    (λ x is. is ∙ ap (λ v. At s v asked.held (Some (record { specifier = s; context = c; checksum = asked.checksum }))) made) given

-- a slot that is no pending one and no asset's is final, whatever comes later
pub by_info_final : {E : Type 0} (r : Result Outcome E) (load : Load) (slot : ModuleSlot) (held : Option PackageNv) (content : Option LaterContent) → is_pending slot ≡ false → is_asset_slot slot ≡ false → IfOk r (λ x. x ≡ At load.specifier slot held content) → IfOk r (IsFinal load)
by_info_final r load slot held content settled inside given =
    IfOk-weaker r (λ x. x ≡ At load.specifier slot held content) (IsFinal load) (λ x is. subst (IsFinal load) (sym is) (settled, λ a. absurd (true≢false (sym a ∙ inside)))) given

-- so is a module outside of the graph
pub final_outside : {E : Type 0} (r : Result Outcome E) (load : Load) (name : Parts) (held : Option PackageNv) → IfOk r (λ x. x ≡ At name (external_slot name false) held None) → IfOk r (IsFinal load)
final_outside r load name held given =
    IfOk-weaker r (λ x. x ≡ At name (external_slot name false) held None) (IsFinal load) (λ x is. subst (IsFinal load) (sym is) (refl, λ a. absurd (true≢false (sym a)))) given

-- a refusal gives nothing
pub told_refused : {A E : Type 0} (o : Option Making) (r : Result A E) (F : Making → A) → IsErr r → IfSome o (λ m. IfOk r (λ x. x ≡ F m))
told_refused None r F fails = tt
told_refused (Some m) r F fails = IfOk-from_err r (λ x. x ≡ F m) fails

-- what is given whatever slots are made by
pub at_any : {E : Type 0} (o : Option Making) (r : Result Outcome E) (s : Parts) (c : LoadContext) (asked : Asked) (t : Taken) → IfOk r (λ x. (m : Making) → x ≡ outcome_of m s c asked t) → IfSome o (λ m. IfOk r (λ x. x ≡ outcome_of m s c asked t))
at_any None r s c asked t given = tt
at_any (Some m) r s c asked t given = IfOk-weaker r (λ x. (made : Making) → x ≡ outcome_of made s c asked t) (λ x. x ≡ outcome_of m s c asked t) (λ x at. at m) given

-- one outcome, in the words of an answer
pub at_same : {E : Type 0} (o : Option Making) (r : Result Outcome E) (F G : Making → Outcome) → ((m : Making) → F m ≡ G m) → IfSome o (λ m. IfOk r (λ x. x ≡ F m)) → IfSome o (λ m. IfOk r (λ x. x ≡ G m))
at_same None r F G same told = tt
at_same (Some m) r F G same told = IfOk-weaker r (λ x. x ≡ F m) (λ x. x ≡ G m) (λ x is. is ∙ same m) told

pub at_plain : {E : Type 0} (o : Option Making) (r : Result Outcome E) (y : Outcome) (G : Making → Outcome) → ((m : Making) → y ≡ G m) → IfOk r (λ x. x ≡ y) → IfSome o (λ m. IfOk r (λ x. x ≡ G m))
at_plain None r y G same told = tt
at_plain (Some m) r y G same told = IfOk-weaker r (λ x. x ≡ y) (λ x. x ≡ G m) (λ x is. is ∙ same m) told

pub all_plain : {E : Type 0} (r : Result Outcome E) (y : Outcome) (G : Making → Outcome) → ((m : Making) → y ≡ G m) → IfOk r (λ x. x ≡ y) → IfOk r (λ x. (m : Making) → x ≡ G m)
all_plain r y G same told = IfOk-weaker r (λ x. x ≡ y) (λ x. (m : Making) → x ≡ G m) (λ x is m. is ∙ same m) told

pub all_same : {E : Type 0} (r : Result Outcome E) (F G : Making → Outcome) → ((m : Making) → F m ≡ G m) → IfOk r (λ x. (m : Making) → x ≡ F m) → IfOk r (λ x. (m : Making) → x ≡ G m)
all_same r F G same told = IfOk-weaker r (λ x. (m : Making) → x ≡ F m) (λ x. (m : Making) → x ≡ G m) (λ x is m. is m ∙ same m) told

-- ---- infos

-- an info stands in the place of nothing alone
redirect_stays : (s : Parts) (info : Option ModuleInfo) (sum : Option (List ℕ)) (n : Parts) → or_info s info (redirect_under sum n) ≡ redirect_under sum n
redirect_stays s None sum n = refl
redirect_stays s (Some info) None n = refl
redirect_stays s (Some info) (Some sum) n = refl

pub response_stays : (s : Parts) (info : Option ModuleInfo) (sum : Option (List ℕ)) (response : LoadResponse) → or_info s info (taken_response sum response) ≡ taken_response sum response
response_stays s None sum response = refl
response_stays s (Some info) sum (Module content mtime name headers) = refl
response_stays s (Some info) sum (External name) = refl
response_stays s (Some info) sum (Redirect name) = redirect_stays s (Some info) sum name

pub cached_stays : (s : Parts) (info : Option ModuleInfo) (sum : Option (List ℕ)) (response : CacheResponse) → or_info s info (taken_cached sum response) ≡ taken_cached sum response
cached_stays s None sum response = refl
cached_stays s (Some info) sum Cached = refl
cached_stays s (Some info) sum (CacheRedirect name) = redirect_stays s (Some info) sum name

pub refused_stays : (s : Parts) (info : Option ModuleInfo) (e : LoadError) → or_info s info (Refused e) ≡ Refused e
refused_stays s None e = refl
refused_stays s (Some info) e = refl

-- a failure, whatever info stands
pub failure_told : {E : Type 0} (o : Option Making) (r : Result Outcome E) (s : Parts) (c : LoadContext) (asked : Asked) (error : LoadError) (t : Taken) → Refused error ≡ t → IfOk r (λ x. x ≡ refused_outcome s c asked error) → IfSome o (λ m. IfOk r (λ x. x ≡ outcome_of m s c asked (or_info s (info_for c asked) t)))
failure_told o r s c asked error t same given =
    at_plain o r (refused_outcome s c asked error) (λ m. outcome_of m s c asked (or_info s (info_for c asked) t))
    (λ m. ap (outcome_of m s c asked) (sym (refused_stays s (info_for c asked) error) ∙ ap (or_info s (info_for c asked)) same)) given

-- where none is known, or an asset is asked for, nothing is there
pub no_info : (c : LoadContext) (asked : Asked) → asked.info ≡ None → info_for c asked ≡ None
no_info c asked e = ap (λ (i : Option ModuleInfo). by_option i None (λ x. if c.asset then None else Some x)) e

asset_info : (asset : Bool) (i : Option ModuleInfo) → asset ≡ true → by_option i None (λ x. if asset then None else Some x) ≡ None
asset_info asset None e = refl
asset_info asset (Some x) e = ap (λ b. if b then None else Some x) e

pub no_asset_info : (c : LoadContext) (asked : Asked) → c.asset ≡ true → info_for c asked ≡ None
no_asset_info c asked e = asset_info c.asset asked.info e

pub some_info : (c : LoadContext) (asked : Asked) (info : ModuleInfo) → asked.info ≡ Some info → c.asset ≡ false → info_for c asked ≡ Some info
some_info c asked info e f = ap (λ (i : Option ModuleInfo). by_option i None (λ x. if c.asset then None else Some x)) e ∙ ap (λ b. if b then None else Some info) f

pub none_absent : (m : Making) (s : Parts) (c : LoadContext) (asked : Asked) → info_for c asked ≡ None → missing_outcome s c asked.held ≡ outcome_of m s c asked (or_info s (info_for c asked) Absent)
none_absent m s c asked e = ap (λ i. outcome_of m s c asked (or_info s i Absent)) (sym e)

pub made_absent : (m : Making) (s : Parts) (c : LoadContext) (asked : Asked) (info : ModuleInfo) → info_for c asked ≡ Some info → info_outcome m s c (record { held = asked.held; checksum = asked.checksum; info = None }) info ≡ outcome_of m s c asked (or_info s (info_for c asked) Absent)
made_absent m s c asked info e = ap (λ i. outcome_of m s c asked (or_info s i Absent)) (sym e)

-- ---- redirects

-- outside of packages no info counts
pub outside_redirect : (m : Making) (s : Parts) (c : LoadContext) (asked : Asked) (n : Parts) → asked.held ≡ None → outcome_of m s c (record { held = None; checksum = asked.checksum; info = None }) (redirect_under asked.checksum n) ≡ outcome_of m s c asked (redirect_under (redirect_sum asked) n)
outside_redirect m s c asked n e = by_sum asked.checksum ∙ ap (λ (h : Option PackageNv). outcome_of m s c (record asked { held = h }) (redirect_under (redirect_sum (record asked { held = h })) n)) (sym e)
  where
    by_sum : (sum : Option (List ℕ)) → outcome_of m s c (record { held = None; checksum = sum; info = None }) (redirect_under sum n) ≡ outcome_of m s c (record { held = None; checksum = sum; info = asked.info }) (redirect_under sum n)
    by_sum None = refl
    by_sum (Some sum) = refl

-- the same answer in other words
pub as_told : {E : Type 0} (o : Option Making) (r : Result Outcome E) (s : Parts) (c : LoadContext) (asked : Asked) (t u : Taken) → t ≡ u → IfSome o (λ m. IfOk r (λ x. x ≡ outcome_of m s c asked t)) → IfSome o (λ m. IfOk r (λ x. x ≡ outcome_of m s c asked u))
as_told o r s c asked t u same told = subst (λ v. IfSome o (λ m. IfOk r (λ x. x ≡ outcome_of m s c asked v))) same told

-- what is given suits a load, where all that it may be does
pub suits_as : {E : Type 0} (r : Result Outcome E) (load : Load) (asked : Asked) (o : Outcome) → Suits load asked o → IfOk r (λ x. x ≡ o) → IfOk r (Suits load asked)
suits_as r load asked o suits given = IfOk-weaker r (λ x. x ≡ o) (Suits load asked) (λ x same. subst (Suits load asked) (sym same) suits) given

-- of what a load is asked under, its version and its sum count
by_alike : (load : Load) (a b : Asked) (o : Outcome) → a.held ≡ b.held → a.checksum ≡ b.checksum → Suits load a o → Suits load b o
by_alike load a b o held sum (settles {name} {slot}) = subst (λ h. Suits load b (At name slot h None)) (sym held) settles
by_alike load a b o held sum (comes {slot} read) =
    subst (λ h. Suits load b (At load.specifier slot h (Some (record { specifier = load.specifier; context = load.context; checksum = a.checksum })))) (sym held)
    (subst (λ k. Suits load b (At load.specifier slot b.held (Some (record { specifier = load.specifier; context = load.context; checksum = k })))) (sym sum) (comes read))
by_alike load a b o held sum (goes_on none) = goes_on (sym held ∙ none)

pub suits_alike : {E : Type 0} (r : Result Outcome E) (load : Load) (a b : Asked) → a.held ≡ b.held → a.checksum ≡ b.checksum → IfOk r (Suits load a) → IfOk r (Suits load b)
suits_alike r load a b held sum given = IfOk-weaker r (Suits load a) (Suits load b) (λ x s. by_alike load a b x held sum s) given

-- an error at the own specifier
pub suits_failed : (load : Load) (asked : Asked) (held : Option PackageNv) (slot : ModuleSlot) → asked.held ≡ held → Suits load asked (At load.specifier slot held None)
suits_failed load asked held slot is = subst (λ h. Suits load asked (At load.specifier slot h None)) is settles
