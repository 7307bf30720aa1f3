-- A world file in version 2 means the same, and is the same in version 2.
use Rattle.std.proofs.Common.{◌≡◌, ℕ, suc, ◌≤◌, ◌==◌, ◌||◌, List, [], ◌∷◌, ◌++◌, map, Bool, true, false, true≢false, not, Option, Some, None, option_map, option_and_then, refl, sym, ap, ◌∙◌, subst, bytes_eq, arith, inl, inr, ◌⊎◌}
use Rattle.std.specs.Prelude.{codes, if◌then◌else◌}
use Rattle.std.specs.List.{list_any, list_all, AllByRecursion}
use Rattle.std.specs.Option.{option_or}
use Rattle.std.proofs.lemmas.Bool.{and_parts}
use Rattle.std.proofs.lemmas.Slice.Eq.{bytes_eq-Decides}
use Rattle.serde_json.specs.Data.{Data, number, unsigned, no_members, depth}
use Rattle.serde_json.specs.Find.{get}
use Rattle.serde_json.specs.Read.{max_depth}
use Rattle.serde_json.specs.Written.{compact_text}
use Rattle.json_forms.specs.Form.{Form, whole, list_of, given, ◌>>=◌}
use Rattle.json_forms.specs.Member.{required, or_empty, has_names}
use Rattle.json_forms.specs.Rows.{Rows, object_of, list_json}
use Rattle.json_forms.specs.Whole.{is_whole}
use Rattle.json_forms.proofs.RoundTrip.{found_in, get-members_from, required_back, default_back}
use Rattle.source_io.specs.declared.types.Answer.{Answer}
use Rattle.source_io.specs.declared.types.Purpose.{Purpose}
use Rattle.source_io.specs.declared.types.World.{World}
use Rattle.url.specs.Parts.{Parts}
use Rattle.world_answers.specs.AnswerEntries.{answer_entry}
use Rattle.world_answers.specs.AnswerOrder.{if_distinct}
use Rattle.world_answers.specs.WorldAnswers.{answers_in, entry_answers}
use Rattle.world_file.specs.WorldCache.{paths_of}
use Rattle.world_file.specs.WorldFile.{other_members, entry_members, has_members, world_by, world_in, input, whole_input, roots_of, limits_of}
use Rattle.world_file.specs.WorldImports.{kind_of, imports_of}
use Rattle.world_file.specs.WorldInfos.{infos_of}
use Rattle.world_file.specs.WorldNpm.{npm_of}
use Rattle.world_file.specs.WorldRegistry.{registry_of}
use Rattle.world_file.specs.WorldResolutions.{resolver_parts}
use Rattle.world_file.specs.WorldSettings.{settings_of}
use Rattle.world_file.specs.WorldSums.{sums_of}
use Rattle.world_file.specs.WorldTree.{tree_of}
use Rattle.world_file.specs.declared.input.Input.{Input}
use Rattle.world_upgrade.specs.EntryJson.{entry_json}
use Rattle.world_upgrade.specs.Told.{IsTold, IsEntryAgain}
use Rattle.world_upgrade.specs.Upgraded.{kept_rows, upgraded_json, upgraded_text, upgraded_value}
use Rattle.world_upgrade.proofs.EntryLemmas.{names_back, entries_back}
use Rattle.world_upgrade.proofs.SameMembers.{after_version, after_same}
use Rattle.world_upgrade.proofs.Sizes.{Fits, MaybeFits, AllFit, object_fits, get_fits, entries_fit}
use Rattle.world_upgrade.proofs.ToldLemmas.{AreAnswers, answers_are, bind_some, inside}

abbrev Answers : Type 0
Answers = List (Parts × Purpose × Answer)

-- ---- members that are kept

or_self : (o : Option Data) → option_or o o ≡ o
or_self None = refl
or_self (Some d) = refl

or_none : (o : Option Data) → option_or o None ≡ o
or_none None = refl
or_none (Some d) = refl

module _ (d : Data) (q : List ℕ) where
  stays : (names : List (List ℕ)) → found_in q (get q d) (kept_rows names d) ≡ get q d
  stays [] = refl
  stays (k ∷ names) = by (bytes_eq q k) refl (stays names)
    where
      by : (b : Bool) → bytes_eq q k ≡ b → found_in q (get q d) (kept_rows names d) ≡ get q d → found_in q (if b then option_or (get k d) (get q d) else get q d) (kept_rows names d) ≡ get q d
      by true e rest =
          let same : get k d ≡ get q d = ap (λ n. get n d) (sym ((bytes_eq-Decides q k).0 e)) in
          ap (λ o. found_in q (option_or o (get q d)) (kept_rows names d)) same ∙ ap (λ o. found_in q o (kept_rows names d)) (or_self (get q d)) ∙ rest
      by false e rest = rest

  kept : (names : List (List ℕ)) → list_any (bytes_eq q) names ≡ true → found_in q None (kept_rows names d) ≡ get q d
  kept [] known = absurd (true≢false (sym known))
  kept (k ∷ names) known = by (bytes_eq q k) refl known (λ h. kept names h)
    where
      by : (b : Bool) → bytes_eq q k ≡ b → (b || list_any (bytes_eq q) names) ≡ true → (list_any (bytes_eq q) names ≡ true → found_in q None (kept_rows names d) ≡ get q d)
          → found_in q (if b then option_or (get k d) None else None) (kept_rows names d) ≡ get q d
      by true e h rest =
          let same : get k d ≡ get q d = ap (λ n. get n d) (sym ((bytes_eq-Decides q k).0 e)) in
          ap (λ o. found_in q (option_or o None) (kept_rows names d)) same ∙ ap (λ o. found_in q o (kept_rows names d)) (or_none (get q d)) ∙ stays names
      by false e h rest = rest h

  -- a name of a list isn't one that stands outside of it
  another : (k : List ℕ) (names : List (List ℕ)) → list_any (bytes_eq q) names ≡ true → list_any (bytes_eq k) names ≡ false → bytes_eq q k ≡ false
  another k names known outside = by (bytes_eq q k) refl
    where
      by : (b : Bool) → bytes_eq q k ≡ b → b ≡ false
      by true e = absurd (true≢false (sym known ∙ ap (λ n. list_any (bytes_eq n) names) ((bytes_eq-Decides q k).0 e) ∙ outside))
      by false e = refl

module _ (d : Data) (answers : Answers) where
  abbrev rows : Rows
  rows = (codes "version", Some (number (unsigned 2))) ∷ (codes "answers", Some (list_json entry_json answers)) ∷ kept_rows other_members d

  abbrev later : Data
  later = upgraded_json d answers

  -- every other member is kept
  pub kept_member : (q : List ℕ) → list_any (bytes_eq q) other_members ≡ true → get q later ≡ get q d
  kept_member q known =
      get-members_from q no_members rows
      ∙ (λ i. found_in q (if another d q (codes "answers") other_members known refl i then option_or (Some (list_json entry_json answers)) (start i) else start i) (kept_rows other_members d))
      ∙ kept d q other_members known
    where
      start : (if bytes_eq q (codes "version") then option_or (Some (number (unsigned 2))) None else None) ≡ None
      start = ap (λ b. if b then option_or (Some (number (unsigned 2))) None else None) (another d q (codes "version") other_members known refl)

  version_back : required whole (codes "version") later ≡ Some 2
  version_back = required_back whole (codes "version") rows 2 refl

  members_back : has_members 2 later ≡ true
  members_back = names_back entry_members rows refl

  answers_back : AllByRecursion IsTold answers → AllByRecursion IsEntryAgain answers → if_distinct answers ≡ Some answers → answers_in 2 later ≡ Some answers
  answers_back told again distinct =
      ap (option_and_then if_distinct) (default_back [] (list_of answer_entry) (codes "answers") rows answers (entries_back answers told again)) ∙ distinct

  kept_fit : (names : List (List ℕ)) → is_whole d ≡ true → depth d ≤ max_depth → AllFit 126 (kept_rows names d)
  kept_fit [] whole nests = tt
  kept_fit (k ∷ names) whole nests = (get_fits 126 k d whole nests, kept_fit names whole nests)

  -- it holds whole numbers alone, and nests as deep as a text may
  pub later_fits : is_whole d ≡ true → depth d ≤ max_depth → Fits 127 later
  later_fits whole nests = object_fits 126 rows (record { whole = refl; nests = omega arith }, (entries_fit answers, kept_fit other_members whole nests))

-- what was kept is kept again
again_rows : (d e : Data) (names : List (List ℕ)) → ((q : List ℕ) → list_any (bytes_eq q) other_members ≡ true → get q e ≡ get q d)
    → list_all (λ q. list_any (bytes_eq q) other_members) names ≡ true → kept_rows names e ≡ kept_rows names d
again_rows d e [] same all = refl
again_rows d e (k ∷ names) same all =
    let both = and_parts (list_any (bytes_eq k) other_members) _ all in
    (λ i. (k, same k both.0 i) ∷ again_rows d e names same both.1 i)

-- an object in version 2 is the same in version 2
settled_json : (d : Data) (answers : Answers) → upgraded_json (upgraded_json d answers) answers ≡ upgraded_json d answers
settled_json d answers =
    ap (λ kept. object_of ((codes "version", Some (number (unsigned 2))) ∷ (codes "answers", Some (list_json entry_json answers)) ∷ kept))
    (again_rows d (upgraded_json d answers) other_members (kept_member d answers) refl)

-- ---- inputs

-- what an input is, part by part
record IsInput (d : Data) (found : Input) : Type 0 where
  numbers : is_whole d ≡ true
  version : ℕ
  members : required whole (codes "version") d ≡ Some version
  answers : answers_in version d ≡ Some found.world.answers
  rest : after_version version d ≡ Some found

given_true : {u : Unit {0}} (b : Bool) → given b ≡ Some u → b ≡ true
given_true true e = refl
given_true false e = absurd cc

-- the answers of an input
answers_of_world : (version : ℕ) (d : Data) (found : Input) → after_version version d ≡ Some found → answers_in version d ≡ Some found.world.answers
unfolding world_by
answers_of_world version d found h =
    let a = bind_some (roots_of d) _ found h in
    let b = bind_some (imports_of d) _ found a.2 in
    let c = bind_some (kind_of d) _ found b.2 in
    let l = bind_some (limits_of d) _ found c.2 in
    let s = bind_some (sums_of d) _ found l.2 in
    let t = bind_some (settings_of s.0 d) _ found s.2 in
    let r = bind_some (registry_of d) _ found t.2 in
    let n = bind_some (npm_of d) _ found r.2 in
    let w = bind_some (world_in version l.0 s.0 d) _ found n.2 in
    let tree = bind_some (tree_of d) _ w.0 w.1 in
    let answers = bind_some (answers_in version d) _ w.0 tree.2 in
    let infos = bind_some (infos_of d) _ w.0 answers.2 in
    let parts = bind_some (resolver_parts d) _ w.0 infos.2 in
    let paths = bind_some (paths_of d) _ w.0 parts.2 in
    let world : world_by answers.0 infos.0 l.0 parts.0 tree.0 s.0 paths.0 ≡ w.0 = inside _ _ paths.2 in
    let is : w.0 ≡ found.world = ap (λ (i : Input). i.world) (inside _ found w.2) in
    answers.1 ∙ ap Some (ap (λ (x : World). x.answers) (world ∙ is))

input_parts : (d : Data) (found : Input) → whole_input d ≡ Some found → IsInput d found
input_parts d found h =
    let numbers = bind_some (given (is_whole d)) _ found h in
    let version = bind_some (required whole (codes "version") d) _ found numbers.2 in
    let known = bind_some (given (has_members version.0 d)) _ found version.2 in
    record {
      numbers = given_true (is_whole d) numbers.1;
      version = version.0;
      members = version.1;
      answers = answers_of_world version.0 d found known.2;
      rest = known.2;
    }

-- ---- the laws

module _ (d : Data) (found : Input) (is : whole_input d ≡ Some found) where
  abbrev answers : Answers
  answers = found.world.answers

  are : AreAnswers answers
  are = let parts = input_parts d found is in answers_are parts.version d answers parts.answers

  -- each answer is told
  pub all_told : AllByRecursion IsTold answers
  all_told = are.told

  -- numbers are whole
  pub is_of_whole : is_whole d ≡ true
  is_of_whole = (input_parts d found is).numbers

  -- the object in version 2 is the same input
  pub same_input : depth d ≤ max_depth → AllByRecursion IsEntryAgain answers → whole_input (upgraded_json d answers) ≡ Some found
  same_input nests again =
      let parts = input_parts d found is in
      let e = upgraded_json d answers in
      let told = answers_back d answers all_told again are.distinct in
      let rest = after_same d e (kept_member d answers) parts.version 2 (told ∙ sym parts.answers) ∙ parts.rest in
      ap (λ b. option_and_then (λ numbers. input e) (given b)) (later_fits d answers parts.numbers nests).whole
      ∙ ap (λ o. option_and_then (λ version. option_and_then (λ known. after_version version e) (given (has_members version e))) o) (version_back d answers)
      ∙ ap (λ b. option_and_then (λ known. after_version 2 e) (given b)) (members_back d answers)
      ∙ rest

  -- and its text in version 2 is the same
  pub same_text : depth d ≤ max_depth → AllByRecursion IsEntryAgain answers → upgraded_value (upgraded_json d answers) ≡ Some (upgraded_text d answers)
  same_text nests again =
      ap (option_and_then (λ i. Some (upgraded_text (upgraded_json d answers) i.world.answers))) (same_input nests again)
      ∙ ap (λ x. Some (compact_text x ++ 10 ∷ [])) (settled_json d answers)
