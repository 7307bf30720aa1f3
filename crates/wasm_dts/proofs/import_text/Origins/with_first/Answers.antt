use Rattle.std.proofs.Common.{◌≡◌, ℕ, List, ◌++◌, ◌∷◌, [], length, arith, sym, ap, ◌∙◌, string_bytes}
use Rattle.wasm_dts.specs.Origins.{places_from}
use Rattle.wasm_dts.proofs.Origins.{put_first}
use Rattle.wasm_dts.proofs.import_text.Origins.with_first.Goals as goal

pub invariant_of-result : goal.invariant_of-result
invariant_of-result c =
    let key = c.into_string-key.ensures ∙ c.in_ok-try_clone.ensures in
    let len : c.len.result ≡ length c.args.self.list.items = omega (arith, c.len.ensures, c.args.self.list.ok.0) in
    let names = c.in_ok-push.ensures.ok ∙ ap (λ (ns : List (List ℕ)). ns ++ c.in_ok-try_clone-2.field-0 ∷ []) c.new-names.ensures ∙ ap (λ (n : List ℕ). n ∷ []) c.in_ok-try_clone-2.ensures in
    let put = put_first c.args.self.list.items c.args.import.now c.args.self.places (string_bytes c.into_string-key.result) c.in_ok-module.module c.push.new.self c.len.result c.requires c.args.self.in_step key len c.in_ok-module.ensures names in
    record { in_step = c.in_ok-insert.ensures.ok ∙ put.1 ∙ sym (ap (places_from 0) c.in_ok-push-2.ensures.items) }

pub returns : goal.returns
returns c =
    let key = c.into_string-key.ensures ∙ c.in_ok-try_clone.ensures in
    let len : c.len.result ≡ length c.args.self.list.items = omega (arith, c.len.ensures, c.args.self.list.ok.0) in
    let names = c.in_ok-push.ensures.ok ∙ ap (λ (ns : List (List ℕ)). ns ++ c.in_ok-try_clone-2.field-0 ∷ []) c.new-names.ensures ∙ ap (λ (n : List ℕ). n ∷ []) c.in_ok-try_clone-2.ensures in
    let put = put_first c.args.self.list.items c.args.import.now c.args.self.places (string_bytes c.into_string-key.result) c.in_ok-module.module c.push.new.self c.len.result c.requires c.args.self.in_step key len c.in_ok-module.ensures names in
    c.in_ok-push-2.ensures.items ∙ put.0
