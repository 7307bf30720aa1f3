use Rattle.std.proofs.Common.{◌≡◌, ◌+◌, ◌<◌, ◌∙◌, ℕ, suc, List, [], ◌∷◌, ◌++◌, map, take, length, get_or, sym, ap, arith}
use Rattle.std.proofs.Math.Seq.{take-suc}
use Rattle.std.proofs.lemmas.List.{map-append}
use Rattle.graph_turns.specs.Promise.Input.{resolved_import}
use Rattle.graph_turns.proofs.imports.resolve_imports.Goals as goal

one_up : (i : ℕ) → i + 1 ≡ suc i
one_up i = omega arith

-- one more of a list goes through a function
one_more : {X Y : Type 0} (F : X → Y) (xs : List X) (i : ℕ) (x : X) (done next : List Y) (y : Y) → i < length xs → x ≡ get_or xs i x → done ≡ map F (take i xs) → y ≡ F x → next ≡ done ++ y ∷ [] → next ≡ map F (take (i + 1) xs)
one_more F xs i x done next y below at so_far is more =
    more ∙ ap (λ l. l ++ y ∷ []) so_far ∙ ap (λ z. map F (take i xs) ++ z ∷ []) (is ∙ ap F at)
    ∙ sym (map-append F (take i xs) (get_or xs i x ∷ [])) ∙ ap (map F) (sym (take-suc xs i x below)) ∙ ap (λ j. map F (take j xs)) (sym (one_up i))

-- and one more of a list by a part of it
one_more_part : {X Y Z : Type 0} (F : X → Z) (P : Y → Z) (xs : List X) (i : ℕ) (x : X) (done next : List Y) (y : Y) → i < length xs → x ≡ get_or xs i x → map P done ≡ map F (take i xs) → P y ≡ F x → next ≡ done ++ y ∷ [] → map P next ≡ map F (take (i + 1) xs)
one_more_part F P xs i x done next y below at so_far is more =
    one_more F xs i x (map P done) (map P next) (P y) below at so_far is (ap (map P) more ∙ map-append P done (y ∷ []))

pub loop-given-preserved : goal.loop-given-preserved
loop-given-preserved g c =
    let inv = c.loop-given.invariant in
    let next = c.in_ok-resolve_import.ensures in
    record {
      referrers = one_more_part (λ i. i.referrer) (λ i. i.0) c.args.imports.now c.loop-given.given-index c.given-item.result c.loop-given.resolved c.push.new.self c.in_ok-resolve_import.field-0 c.loop-given-test.true c.given-item.is inv.referrers next.referrer c.in_ok-push.ensures.ok;
      told = λ m told. one_more (resolved_import m) c.args.imports.now c.loop-given.given-index c.given-item.result c.loop-given.resolved c.push.new.self c.in_ok-resolve_import.field-0 c.loop-given-test.true c.given-item.is (inv.told m told) (next.told m told) c.in_ok-push.ensures.ok;
    }
