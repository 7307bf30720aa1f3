use Rattle.std.proofs.Common.{◌≡◌, ◌≤◌, ◌<◌, ◌+◌, ◌∙◌, ℕ, suc, Bool, true, false, List, [], ◌∷◌, ◌++◌, map, take, drop, length, get_or, if◌then◌else◌, refl, sym, ap, subst, arith}
use Rattle.std.specs.Prelude.{not}
use Rattle.std.specs.List.{list_any}
use Rattle.std.proofs.Math.Seq.{take-suc}
use Rattle.std.proofs.lemmas.Bool.{true≢false}
use Rattle.std.proofs.lemmas.Grind.{fold-append}
use Rattle.std.proofs.lemmas.List.{drop-append-le, length-append, map-append}
use Rattle.indexmap.specs.IndexSet.{insert_key}
use Rattle.url.specs.Parts.{Parts}
use Rattle.spec_base.specs.Specifier.{same_specifier}
use Rattle.module_slots.specs.declared.load.Load.{Load}
use Rattle.graph_turns.specs.Promise.Input.{root_load}
use Rattle.graph_turns.specs.Machine.Starting.{roots_with}
use Rattle.graph_turns.proofs.starting.add_roots.Goals.{then-branch+in_ok-root_load+in_ok-push, else-branch}
use Rattle.graph_turns.proofs.starting.add_roots.Goals as goal

one_up : (i : ℕ) → i + 1 ≡ suc i
one_up i = omega arith

-- a root is added where none of its text stands
fresh : (known added : Bool) → added ≡ not known → added ≡ true → known ≡ false
fresh true added is e = absurd (true≢false (sym e ∙ is))
fresh false added is e = refl

stood : (known added : Bool) → added ≡ not known → added ≡ false → known ≡ true
stood true added is e = refl
stood false added is e = absurd (true≢false (sym is ∙ e))

module _ (F : Parts → Load) (first given : List Parts) where
  -- the roots so far, behind those that stood, and the loads of those that were added
  abbrev SoFar : List Parts → List Load → ℕ → Type 0
  SoFar set loads i = (set ≡ roots_with first (take i given)) × (length first ≤ length set) × (loads ≡ map F (drop (length first) set))

  with_one : (i : ℕ) (x y : Parts) (set next : List Parts) → i < length given → x ≡ get_or given i x → y ≡ x → set ≡ roots_with first (take i given) → next ≡ insert_key same_specifier set y → next ≡ roots_with first (take (i + 1) given)
  with_one i x y set next below at same so_far is =
      is ∙ ap (insert_key same_specifier set) (same ∙ at) ∙ ap (λ s. insert_key same_specifier s (get_or given i x)) so_far
      ∙ sym (fold-append (insert_key same_specifier) first (take i given) (get_or given i x ∷ []))
      ∙ ap (λ l. roots_with first l) (sym (take-suc given i x below)) ∙ ap (λ j. roots_with first (take j given)) (sym (one_up i))

  root_added : (i : ℕ) (x y : Parts) (set next : List Parts) (loads more : List Load) (load : Load) → i < length given → x ≡ get_or given i x → y ≡ x → SoFar set loads i → next ≡ insert_key same_specifier set y → list_any (same_specifier y) set ≡ false → load ≡ F x → more ≡ loads ++ load ∷ [] → SoFar next more (i + 1)
  root_added i x y set next loads more load below at same so_far is new made pushed =
      let last : next ≡ set ++ y ∷ [] = is ∙ ap (λ b. if b then set else set ++ y ∷ []) new in
      let longer : length next ≡ length set + 1 = ap length last ∙ length-append set (y ∷ []) in
      let loads_are : more ≡ map F (drop (length first) next) =
      pushed ∙ ap (λ l. l ++ load ∷ []) so_far.2 ∙ ap (λ z. map F (drop (length first) set) ++ z ∷ []) (made ∙ ap F (sym same))
      ∙ sym (map-append F (drop (length first) set) (y ∷ [])) ∙ ap (map F) (sym (drop-append-le (length first) set (y ∷ []) so_far.1))
      ∙ ap (λ l. map F (drop (length first) l)) (sym last) in
      (with_one i x y set next below at same so_far.0 is, omega (arith, so_far.1, longer), loads_are)

  root_stood : (i : ℕ) (x y : Parts) (set next : List Parts) (loads : List Load) → i < length given → x ≡ get_or given i x → y ≡ x → SoFar set loads i → next ≡ insert_key same_specifier set y → list_any (same_specifier y) set ≡ true → SoFar next loads (i + 1)
  root_stood i x y set next loads below at same so_far is old =
      let stays : next ≡ set = is ∙ ap (λ b. if b then set else set ++ y ∷ []) old in
      let within : length first ≤ length next = subst (λ l. length first ≤ length l) (sym stays) so_far.1 in
      (with_one i x y set next below at same so_far.0 is, within, so_far.2 ∙ ap (λ l. map F (drop (length first) l)) (sym stays))

pub loop-root-preserved : goal.loop-root-preserved
loop-root-preserved c =
    let F = root_load c.args.dynamic in
    let y = c.in_ok-clone.field-0 in
    let set = c.loop-root.set in
    let next = c.insert.new.self in
    elim c.if-branch.branch [
      | then-branch+in_ok-root_load+in_ok-push w ↦
          rw w.loads-is
          (root_added F c.args.set.now c.args.given.now c.loop-root.root-index c.root-item.result y set next c.loop-root.loads.items w.push.new.self.items w.in_ok-root_load.field-0 c.loop-root-test.true c.root-item.is c.in_ok-clone.ensures.cases c.loop-root.invariant
          c.in_ok-insert.ensures.set (fresh (list_any (same_specifier y) set) c.in_ok-insert.field-0 c.in_ok-insert.ensures.added w.if-branch.true) w.in_ok-root_load.ensures w.in_ok-push.ensures.items)
      | else-branch w ↦
          rw w.loads-is
          (root_stood F c.args.set.now c.args.given.now c.loop-root.root-index c.root-item.result y set next c.loop-root.loads.items c.loop-root-test.true c.root-item.is c.in_ok-clone.ensures.cases c.loop-root.invariant
          c.in_ok-insert.ensures.set (stood (list_any (same_specifier y) set) c.in_ok-insert.field-0 c.in_ok-insert.ensures.added w.if-branch.false))
    ]
