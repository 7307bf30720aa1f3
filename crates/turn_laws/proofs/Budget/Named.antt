-- Specifiers that wait for a pass or stand in one, by the packages that they name.
use Rattle.std.proofs.Common.{◌≡◌, ℕ, List, [], ◌∷◌, ◌++◌, Option, None, Some, Ok, inl, inr, ⊎_elim, ◌⊎◌}
use Rattle.graph_turns.specs.declared.passes.Chosen.{Chosen}
use Rattle.graph_turns.specs.declared.passes.Pass.{Pass}
use Rattle.graph_turns.specs.declared.waiting.WaitingPackage.{WaitingPackage}
use Rattle.graph_turns.specs.Promise.Packages.{jsr_named}

-- what stands beside a specifier is what it names
abbrev pub IsNamed : WaitingPackage → Type 0
IsNamed item = jsr_named item.specifier ≡ Ok (record { req = item.req; sub_path = item.sub_path })

abbrev pub AllNamed : List WaitingPackage → Type 0
AllNamed [] = Unit {0}
AllNamed (item ∷ items) = IsNamed item × AllNamed items

pub named_last : (items : List WaitingPackage) (item : WaitingPackage) → AllNamed items → IsNamed item → AllNamed (items ++ item ∷ [])
named_last [] item named new = (new, tt)
named_last (x ∷ items) item named new = (named.0, named_last items item named.1 new)

-- one of a package is among them
abbrev pub Names : List ℕ → List WaitingPackage → Type 0
Names name [] = ⊥
Names name (item ∷ items) = (name ≡ item.req.name) ⊎ Names name items

-- among those for which a version was chosen
abbrev pub NamesChosen : List ℕ → List Chosen → Type 0
NamesChosen name [] = ⊥
NamesChosen name (one ∷ others) = (name ≡ one.item.req.name) ⊎ NamesChosen name others

pub chosen_left : (name : List ℕ) (all more : List Chosen) → NamesChosen name all → NamesChosen name (all ++ more)
chosen_left name [] more h = absurd h
chosen_left name (one ∷ all) more h = ⊎_elim inl (λ r. inr (chosen_left name all more r)) h

pub chosen_last : (name : List ℕ) (all : List Chosen) (one : Chosen) → name ≡ one.item.req.name → NamesChosen name (all ++ one ∷ [])
chosen_last name [] one e = inl e
chosen_last name (x ∷ all) one e = inr (chosen_last name all one e)

-- or among those of the pass that goes on
abbrev pub PassNames : List ℕ → Option Pass → Type 0
PassNames name None = ⊥
PassNames name (Some p) = Names name p.items ⊎ NamesChosen name p.chosen
