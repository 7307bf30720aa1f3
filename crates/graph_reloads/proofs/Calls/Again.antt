-- What is loaded again.
use Rattle.std.proofs.Common.{◌≡◌, ℕ, List, [], ◌∷◌, ◌++◌, map, Bool, true, false, if◌then◌else◌, Option, None, Some, is_some, refl, sym, ap, ◌∙◌, inl, inr, ◌⊎◌, ⊎_elim}
use Rattle.std.specs.List.{All, list_any}
use Rattle.std.proofs.lemmas.Bool.{or_cases, true≢false}
use Rattle.std.proofs.lemmas.List.Elements.{All-cons, All-map, All-nil, All-weaker}
use Rattle.std.specs.FinMap as finite
use Rattle.indexmap.specs.IndexSet.{insert_all, insert_key}
use Rattle.url.specs.Parts.{Parts}
use Rattle.spec_base.specs.Specifier.{same_specifier, specifier_text}
use Rattle.graph_core.specs.declared.graph.ModuleGraph.{ModuleGraph}
use Rattle.module_slots.specs.declared.load.Load.{Load}
use Rattle.graph_core.specs.Graph.{resolved, without_slot}
use Rattle.graph_core.proofs.At.{cases_text, cut_same, cut_other, text_of_same}
use Rattle.graph_turns.specs.Machine.Redirects.{HasNoCircle}
use Rattle.turn_laws.specs.Promise.Reloads.{reload_entry, reload_loads, reloaded_of, without_slots}
use Rattle.graph_turns.specs.Machine.Runs.{told_for}
use Rattle.turn_laws.specs.Promise.Complete.{NonePending}
use Rattle.graph_turns.specs.Promise.Input.{root_load, starts}
use Rattle.turn_laws.specs.Promise.Reloaded.{IsReloaded, IsRenewed}
use Rattle.graph_turns.specs.declared.flags.Flags.{Flags}
use Rattle.graph_turns.specs.Promise.Runs.{IsGrownBy}
use Rattle.graph_turns.specs.Promise.Told.{Told}
use Rattle.graph_turns.specs.declared.run.Run.TheVariants.{Only}
use Rattle.graph_turns.proofs.Entering.Loads.{HasLoad, HasText, roots_due}
use Rattle.graph_builder.specs.Calls.Over.{AreOutset, IsLeftBy, IsMended, entered, with_loads}
use Rattle.graph_reloads.proofs.Calls.Over.{due_stands, no_circle_with, still_free}
use Rattle.graph_reloads.proofs.Calls.Over.{same_redirects as same_redirects_with}

-- ---- a graph without the slots of some loads

same_redirects : (g : ModuleGraph) (loads : List Load) → (without_slots g loads).redirects ≡ g.redirects
same_redirects g [] = refl
same_redirects g (load ∷ loads) = same_redirects (without_slot g load.specifier) loads

pub same_starts : (g : ModuleGraph) (loads : List Load) → starts (without_slots g loads) ≡ starts g
same_starts g [] = refl
same_starts g (load ∷ loads) = same_starts (without_slot g load.specifier) loads

-- a text has no slot any more, and is one of theirs, or has the slot that it had
slot_without : (g : ModuleGraph) (loads : List Load) (y : List ℕ) → (HasLoad y loads × (finite.get (without_slots g loads).slots y ≡ None)) ⊎ (finite.get (without_slots g loads).slots y ≡ finite.get g.slots y)
slot_without g [] y = inr refl
slot_without g (load ∷ loads) y = ⊎_elim
    (λ gone. inl (inr gone.0, gone.1))
    (λ still. ⊎_elim
    (λ same. inl (inl same, still ∙ ap (finite.get (finite.remove g.slots (specifier_text load.specifier))) same ∙ cut_same g.slots (specifier_text load.specifier)))
    (λ ne. inr (still ∙ cut_other g.slots (specifier_text load.specifier) y ne))
    (cases_text y (specifier_text load.specifier)))
    (slot_without (without_slot g load.specifier) loads y)

-- one of theirs has none
pub slot_gone : (g : ModuleGraph) (loads : List Load) (y : List ℕ) → HasLoad y loads → finite.get (without_slots g loads).slots y ≡ None
slot_gone g [] y h = absurd h
slot_gone g (load ∷ loads) y h = ⊎_elim
    (λ gone. gone.1)
    (λ still. ⊎_elim
    (λ same. still ∙ ap (finite.get (finite.remove g.slots (specifier_text load.specifier))) same ∙ cut_same g.slots (specifier_text load.specifier))
    (λ rest. slot_gone (without_slot g load.specifier) loads y rest)
    h)
    (slot_without (without_slot g load.specifier) loads y)

pub none_pending_still : (g : ModuleGraph) (loads : List Load) → NonePending g → NonePending (without_slots g loads)
none_pending_still g loads settled y asset e = ⊎_elim
    (λ gone. let at = gone.1 in cc)
    (λ still. settled y asset (sym still ∙ e))
    (slot_without g loads y)

-- each circle of redirects that a reload leaves without a slot has one of its loads on it
pub mended_reload : (dynamic : Bool) (g : ModuleGraph) (given : List Parts) → HasNoCircle g → IsMended (reload_entry dynamic g given)
mended_reload dynamic g given none =
    let loads = reload_loads dynamic g given in
    let u = without_slots g loads in
    no_circle_with g (with_loads u loads)
    (λ y f. ⊎_elim
    (λ gone. absurd (true≢false (sym (due_stands u loads y gone.0) ∙ f)))
    (λ still. ap is_some (sym still) ∙ still_free u loads y f)
    (slot_without g loads y))
    (same_redirects_with u loads ∙ same_redirects g loads) none

pub reload_hops : (dynamic : Bool) (g : ModuleGraph) (given : List Parts) → AreOutset (reload_loads dynamic g given)
reload_hops dynamic g given = All-map (λ load. (load.context.hops ≡ 0) × (load.context.«package» ≡ None)) (root_load dynamic) (reloaded_of g given) (λ k d below. (refl, refl))

-- ---- what was given to be loaded again

any_text : (x : Parts) (ss : List Parts) → list_any (same_specifier x) ss ≡ true → HasText (specifier_text x) ss
any_text x [] e = absurd cc
any_text x (s ∷ ss) e = ⊎_elim (λ t. inl (text_of_same x s t)) (λ r. inr (any_text x ss r)) (or_cases (same_specifier x s) (list_any (same_specifier x) ss) e)

text_left : (k : List ℕ) (ss : List Parts) (x : Parts) → HasText k ss → HasText k (ss ++ x ∷ [])
text_left k [] x h = absurd h
text_left k (s ∷ ss) x (inl e) = inl e
text_left k (s ∷ ss) x (inr h) = inr (text_left k ss x h)

text_last : (ss : List Parts) (x : Parts) → HasText (specifier_text x) (ss ++ x ∷ [])
text_last [] x = inl refl
text_last (s ∷ ss) x = inr (text_last ss x)

key_keeps : (k : List ℕ) (ss : List Parts) (x : Parts) → HasText k ss → HasText k (insert_key same_specifier ss x)
key_keeps k ss x h = by (list_any (same_specifier x) ss)
  where
    by : (b : Bool) → HasText k (if b then ss else ss ++ x ∷ [])
    by true = h
    by false = text_left k ss x h

key_has : (ss : List Parts) (x : Parts) → HasText (specifier_text x) (insert_key same_specifier ss x)
key_has ss x = by (list_any (same_specifier x) ss) refl
  where
    by : (b : Bool) → list_any (same_specifier x) ss ≡ b → HasText (specifier_text x) (if b then ss else ss ++ x ∷ [])
    by true e = any_text x ss e
    by false e = text_last ss x

all_keeps : (k : List ℕ) (ss xs : List Parts) → HasText k ss → HasText k (insert_all same_specifier ss xs)
all_keeps k ss [] h = h
all_keeps k ss (x ∷ xs) h = all_keeps k (insert_key same_specifier ss x) xs (key_keeps k ss x h)

-- where each of them led, a load enters
led_due : (g : ModuleGraph) (ss given : List Parts) → All (λ (s : Parts). HasText (specifier_text (resolved g s)) (insert_all same_specifier ss (map (resolved g) given))) given
led_due g ss [] = All-nil (λ (s : Parts). HasText (specifier_text (resolved g s)) (insert_all same_specifier ss []))
led_due g ss (s ∷ given) = All-cons (λ (x : Parts). HasText (specifier_text (resolved g x)) (insert_all same_specifier ss (resolved g s ∷ map (resolved g) given))) s given
    (all_keeps (specifier_text (resolved g s)) (insert_key same_specifier ss (resolved g s)) (map (resolved g) given) (key_has ss (resolved g s)))
    (led_due g (insert_key same_specifier ss (resolved g s)) given)

-- so the slot there is explained
pub renewed_all : (w : Told) (g : ModuleGraph) (given : List Parts) (new : ModuleGraph) → IsGrownBy new (told_for w Only) (reload_entry w.known.flags.is_dynamic g given) → All (IsRenewed (told_for w Only) g given new) given
renewed_all w g given new by = All-weaker (λ (s : Parts). HasText (specifier_text (resolved g s)) (reloaded_of g given)) (IsRenewed (told_for w Only) g given new)
    (λ s due slot e. ⊎_elim
    (λ stood. absurd (let gone = slot_gone g (reload_loads w.known.flags.is_dynamic g given) (specifier_text (resolved g s)) (roots_due (root_load w.known.flags.is_dynamic) (λ x. refl) (specifier_text (resolved g s)) (reloaded_of g given) due) in cc))
    (λ x. x)
    (by.grown.slots (specifier_text (resolved g s)) slot e))
    given (led_due g [] given)

-- ---- the entry of a reload

-- the graph that was made ready, with its loads
pub entry_again : (dynamic : Bool) (g u : ModuleGraph) (due : List Load) (given : List Parts) → due ≡ reload_loads dynamic g given → u ≡ without_slots g due → entered u due ≡ reload_entry dynamic g given
entry_again dynamic g u due given due_is graph_is = λ i. record { graph = (graph_is ∙ ap (without_slots g) due_is) i; loads = due_is i }

-- what is left over it
pub reloaded_by : (flags : Flags) (g : ModuleGraph) (given : List Parts) (new : ModuleGraph) → IsLeftBy flags (reload_entry flags.is_dynamic g given) new → IsReloaded flags g given new
reloaded_by flags g given new left = record {
  starts_stay = left.complete.begins ∙ same_starts g (reload_loads flags.is_dynamic g given);
  complete = left.complete;
  no_circle = left.no_circle;
}
