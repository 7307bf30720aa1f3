-- That nothing is left out where a run of turns begins: over a graph, once more over the empty one, and where slots are loaded again.
use Rattle.std.proofs.Common.{◌≡◌, ℕ, List, [], Bool, true, false, if◌then◌else◌, Option, None, Some, refl, sym, ap, ◌∙◌, subst, inl, inr, ⊎_elim, ◌⊎◌}
use Rattle.std.specs.FinMap as finite
use Rattle.graph_core.specs.declared.graph.ModuleGraph.{ModuleGraph}
use Rattle.module_slots.specs.declared.slot.ModuleSlot.TheVariants.{Module as Stands, Pending}
use Rattle.graph_core.specs.Graph.{new_graph}
use Rattle.graph_turns.specs.declared.passes.Pass.{Pass}
use Rattle.graph_turns.specs.declared.run.Run.TheVariants.{First, Due}
use Rattle.graph_turns.specs.declared.starting.ResolvedStart.{ResolvedStart}
use Rattle.graph_turns.specs.declared.state.State.{State}
use Rattle.graph_turns.specs.Machine.Entering.{begun_at, enter_all, resting_state}
use Rattle.graph_turns.specs.Machine.Known.{Known}
use Rattle.graph_turns.specs.Machine.Redirects.{HasNoCircle}
use Rattle.graph_turns.specs.Machine.Runs.{begins_anew, begun_again, begun_over, cleared, restarted}
use Rattle.graph_turns.specs.Machine.Starting.{start_entered, start_entry, with_start}
use Rattle.graph_turns.specs.Promise.Input.{EnteredGraph, starts}
use Rattle.graph_turns.proofs.Entering.Loads.{HasLoad, Keyed, Once}
use Rattle.turn_laws.proofs.Leading.Circles.{ends_of, new_no_circle}
use Rattle.turn_laws.proofs.Leading.Paths.{End, Path}
use Rattle.turn_laws.proofs.Promise.Sound.{HasItem, Meets, Sound, StandsIn, end_as, nothing, sound_enter_all}

-- a state over the graph of an entry with nothing open, and in which nothing waits
pub record IsBare (o : EnteredGraph) (s : State) : Type 0 where
  pub graph_is : s.graph ≡ o.graph
  pub no_load : s.loads ≡ []
  pub no_import : s.dynamic ≡ []
  pub no_item : s.waiting ≡ []
  pub no_pass : s.pass ≡ None

-- known redirects end there, or come to a load that is to enter
abbrev pub IsMendedBy : Type 0 → EnteredGraph → Type 0
IsMendedBy early o = (x : List ℕ) → End o.graph x ⊎ (early × Meets o.graph o.loads x)

module _ (o : EnteredGraph) (early : Type 0) where
  -- before the loads of a call enter, all of them are due
  pub sound_before : (s : State) → IsBare o s → IsMendedBy early o → Sound o early nothing nothing o.loads s
  sound_before s bare mended = record {
    given = ap starts bare.graph_is;
    ends = λ x. ⊎_elim
        (λ e. inl (subst (λ (g : ModuleGraph). End g x) (sym bare.graph_is) e))
        (λ m. inr (m.0, record { end = m.1.at; way = subst (λ (g : ModuleGraph). Path g x m.1.at) (sym bare.graph_is) m.1.way; slot = inr (inl (inl m.1.load)) }))
        (mended x);
    asked = λ k asset p. inr (subst (λ (g : ModuleGraph). finite.get g.slots k ≡ Some (Pending asset)) bare.graph_is p);
    held = λ k h. absurd (subst (HasLoad k) bare.no_load h);
    shut = λ k h. absurd (subst (HasLoad k) bare.no_load h);
    once = subst Once (sym bare.no_load) tt;
    keyed = subst Keyed (sym bare.no_import) tt;
    wanted = λ k w. ⊎_elim (λ a. inr (inl a)) (λ v. absurd (v.4 (subst (λ (g : ModuleGraph). finite.get g.slots v.0 ≡ Some (Stands v.1)) bare.graph_is v.3))) w;
    plain = λ k h. absurd (subst (HasLoad k) bare.no_load h);
    packages = λ k a. ⊎_elim (λ w. absurd (subst (HasItem k) bare.no_item w)) (λ p. absurd (subst (λ (q : Option Pass). StandsIn q k) bare.no_pass p)) a;
    entering = λ p e t. absurd (let wrong : None ≡ Some p = sym bare.no_pass ∙ e in cc);
  }

  pub sound_entered : (s : State) → IsBare o s → IsMendedBy early o → Sound o early nothing nothing [] (enter_all s o.loads)
  sound_entered s bare mended = sound_enter_all o early nothing o.loads s (sound_before s bare mended)

  -- turns over a graph begin
  pub sound_begun : (known : Known) → IsMendedBy early o → Sound o early nothing nothing [] (begun_at known o)
  sound_begun known mended = sound_entered (resting_state known o.graph) (record { graph_is = refl; no_load = refl; no_import = refl; no_item = refl; no_pass = refl }) mended

-- roots and imports don't change where redirects lead
pub mended_with : (early : Type 0) (dynamic : Bool) (g : ModuleGraph) (start : ResolvedStart) → HasNoCircle g → IsMendedBy early (start_entry dynamic g start)
mended_with early dynamic g start no_circle x = inl (end_as g (with_start g start) refl refl x (ends_of g no_circle x))

-- a state over a graph with nothing open, in which a start enters
pub sound_started : (early : Type 0) (s : State) (start : ResolvedStart) → s.loads ≡ [] → s.dynamic ≡ [] → s.waiting ≡ [] → s.pass ≡ None → HasNoCircle s.graph → Sound (start_entry s.flags.is_dynamic s.graph start) early nothing nothing [] (start_entered s start)
unfolding start_entered
sound_started early s start loads dynamic waiting pass no_circle =
    sound_entered (start_entry s.flags.is_dynamic s.graph start) early (record s { graph = with_start s.graph start })
    (record { graph_is = refl; no_load = loads; no_import = dynamic; no_item = waiting; no_pass = pass })
    (mended_with early s.flags.is_dynamic s.graph start no_circle)

-- turns of a build begin over a graph in which each circle of redirects has a slot on it
pub sound_over : (early : Type 0) (known : Known) (g : ModuleGraph) (start : ResolvedStart) → HasNoCircle g → Sound (start_entry known.flags.is_dynamic g start) early nothing nothing [] (begun_over known g start)
sound_over early known g start no_circle = by (begins_anew g start.roots start.imports)
  where
    by : (b : Bool) → Sound (start_entry known.flags.is_dynamic g start) early nothing nothing [] (start_entered (if b then record (resting_state known g) { run = First start } else resting_state known g) start)
    by true = sound_started early (record (resting_state known g) { run = First start }) start refl refl refl refl no_circle
    by false = sound_started early (resting_state known g) start refl refl refl refl no_circle

-- and once more over the empty one, where it is due
pub sound_restarted : (early : Type 0) (s : State) (start : ResolvedStart) → s.run ≡ Due start → Sound (start_entry s.flags.is_dynamic (new_graph s.graph.kind) start) early nothing nothing [] (restarted s)
sound_restarted early s start due = subst (Sound (start_entry s.flags.is_dynamic (new_graph s.graph.kind) start) early nothing nothing []) (sym (ap (begun_again s) due))
    (sound_started early (cleared s) start refl refl refl refl (new_no_circle s.graph.kind))
