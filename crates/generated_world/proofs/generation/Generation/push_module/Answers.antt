use Rattle.std.proofs.Common.{◌∷◌, ◌++◌, [], Ok, append_assoc}
use Rattle.source_io.specs.declared.types.Purpose.TheVariants.{LoadUse}
use Rattle.generated_world.specs.Generation.{drawing_of}
use Rattle.generated_world.specs.Modules.{info_of, module_answer, name_of, redirects_of}
use Rattle.generated_world.proofs.generation.Generation.push_module.Goals as goal

pub returns : goal.returns
returns c =
    let old = c.args.self.now in
    let number = c.args.number in
    let drawn = drawing_of c.args.count number old.state in
    rw (c.in_ok-push-2.ensures.ok, c.info_of.ensures, c.in_ok-push.ensures.ok, c.in_ok-imports.ensures, c.in_ok-answer.ensures, c.in_ok-clone-2.ensures.cases, c.in_ok-clone.ensures.cases, c.in_ok-name.ensures, c.in_ok-push_redirect.ensures)
    (λ i. record {
      answers = append_assoc old.answers (redirects_of number) ((name_of number, LoadUse, module_answer number (name_of number)) ∷ []) i;
      infos = old.infos ++ (name_of number, Ok (info_of drawn.imports)) ∷ [];
      state = drawn.state;
    })
