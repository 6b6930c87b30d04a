-- The definitions that the landmarks show are those of the tree.
-- Assumes nothing.
use mathlib.Core.Path.{◌≡◌, refl, sym, ap, ◌∙◌, subst}
use mathlib.Core.Bool.{Bool, true, false, not, ◌||◌}
use mathlib.Core.List.{List, [], ◌∷◌, ◌++◌, map, map-map}
use Prim.Native.Nat.{ℕ, zero, suc, ◌+◌, ◌-◌, ◌<◌}
use native.Mathlib.Decide.{dec_lt}
use native.Mathlib.Nat.{add-zero}
use native.Mathlib.Omega.{arith}
use borrow.Author.Tests.{ltb-true, lt-ltb}
use lib.Dec.{T, ltb}
use lib.ListN.{length, get_or, length-append}
use Rattle.grammar.specs.Rule.{Tree, yield}
use Rattle.index.specs.First.{hits}
use Rattle.index.proofs.Hits.{hits_none}
use Rattle.index.proofs.Step.{entry_made}
use Rattle.grammar.specs.Grammar.{Upper}
use Rattle.terminal.specs.Terminal.{assign, BEGIN, DEFINITIONS, END}
use Rattle.definition.specs.Landmark.{begins, kind_at, has_oid, definition_end}
use Rattle.definition.specs.Landmark as landmark
use Rattle.definition.specs.Fields.{fields_of}
use Rattle.definition.specs.Members.{oid_numbers}
use Rattle.definition.specs.declared.Fields.{Fields}
use Rattle.module_table.specs.declared.Definition.{Definition}
use Rattle.module_table.specs.Definition.{entry}
use Rattle.outline.specs.Outline.{outlined, outlined_at, outline}
use Rattle.outline.proofs.Outline.{outline_counted, outline_entry}
use Rattle.module_tree.specs.Marked.{Marked, word, ◌then◌, many, mark, plain, unmarked, marks, size, parts}
use Rattle.module_tree.specs.Grammar.{definition, start, the_end, imports, identity, def, module_tree}
use Rattle.module_tree.specs.Module.{fields_of_part, definition_of_part, end_of_part, numbers_of_part}
use Rattle.module_tree.specs.OfTree.{EachNumbered}
use Rattle.module_tree.proofs.Leading.{stands_all}
use Rattle.module_tree.proofs.Starts.{start_at, starts_marked}
use Rattle.module_tree.proofs.Counted.{absent, unmarked_part}
use Rattle.module_tree.proofs.Line.{fields_are, numbers_are, has_number, lines_pass, identity_passes, def_passes}
use Rattle.module_tree.proofs.Parts.{without, no_parts}
use Rattle.module_tree.proofs.Place.{At, at_left, at_right, marks_long, none_starts, hits_skip}
use Rattle.module_tree.proofs.Nodes.{Node, Row, lines_row, many_row}

four_none : (vs : List ℕ) (i : ℕ) → i < 4 → get_or (0 ∷ 0 ∷ 0 ∷ 0 ∷ vs) i 0 ≡ 0
four_none vs zero h = refl
four_none vs (suc zero) h = refl
four_none vs (suc (suc zero)) h = refl
four_none vs (suc (suc (suc zero))) h = refl
four_none vs (suc (suc (suc (suc i)))) h = absurd (omega arith)

-- a module of such imports, identity and definitions
abbrev heading_then : Marked → Marked
heading_then m = plain Upper then word DEFINITIONS then word assign then word BEGIN then m

abbrev body : Marked → Marked → Marked
body first others = first then many others then mark start the_end (word END)

module _ (brought first others : Marked) (quiet : T (absent start brought)) (bare : T (without definition brought))
    (first-passes : T (lines_pass first)) (others-pass : T (lines_pass others))
    (cs : List ℕ) (t : Tree (unmarked (heading_then (brought then body first others))))
    (at : At cs (heading_then (brought then body first others)) 0 t) (long : length cs ≡ size (heading_then (brought then body first others)) t) where
  -- the parts, and where they stand
  abbrev u : Tree (unmarked (brought then body first others))
  u = t.1.1.1.1

  abbrev w : Tree (unmarked (body first others))
  w = u.1

  abbrev first_at : ℕ
  first_at = 4 + size brought u.0

  abbrev others_at : ℕ
  others_at = first_at + size first w.0

  abbrev end_at : ℕ
  end_at = others_at + size (many others) w.1.0

  at_brought : At cs (brought then body first others) 4 u
  at_brought =
      at_right cs (word BEGIN) (brought then body first others) 3 t.1.1.1
      (at_right cs (word assign) (word BEGIN then brought then body first others) 2 t.1.1
      (at_right cs (word DEFINITIONS) (word assign then word BEGIN then brought then body first others) 1 t.1
      (at_right cs (plain Upper) (word DEFINITIONS then word assign then word BEGIN then brought then body first others) 0 t at)))

  at_body : At cs (body first others) first_at w
  at_body = at_right cs brought (body first others) 4 u at_brought

  at_others : At cs (many others then mark start the_end (word END)) others_at w.1
  at_others = at_right cs first (many others then mark start the_end (word END)) first_at w at_body

  -- END is the last token
  ends_last : landmark.last_token cs ≡ end_at
  ends_last =
      let a = length-append (yield (unmarked brought) u.0) (yield (unmarked (body first others)) w) in
      let b = length-append (yield (unmarked first) w.0) (yield (unmarked (many others then mark start the_end (word END))) w.1) in
      let c = length-append (yield (unmarked (many others)) w.1.0) (END ∷ []) in
      omega (arith, long, a, b, c)

  end_starts : start_at cs end_at ≡ the_end
  end_starts =
      ap (start_at cs) (sym (add-zero end_at))
      ∙ (at_right cs (many others) (mark start the_end (word END)) others_at w.1 at_others).starts 0 (omega arith)

  none_before : (i : ℕ) → i < first_at → start_at cs i ≡ 0
  none_before i h = go (dec_lt i 4)
    where
      go : Dec (i < 4) → start_at cs i ≡ 0
      go (yes l) =
          let on : 0 + i ≡ i = omega arith in
          ap (start_at cs) (sym on)
          ∙ at.starts i (omega (arith, marks_long start (heading_then (brought then body first others)) t, long, ends_last))
          ∙ four_none (marks start (brought then body first others) u) i l
      go (no l) =
          let on : 4 + (i - 4) ≡ i = omega arith in
          ap (start_at cs) (sym on)
          ∙ (at_left cs brought (body first others) 4 u at_brought).starts (i - 4) (omega (arith, marks_long start brought u.0))
          ∙ unmarked_part start brought quiet u.0 (i - 4)

  module _ {X : Type 0} (f : ℕ → X) (make : ℕ → (m : Marked) → ℕ → Tree (unmarked m) → X)
      (agree : (k : ℕ) (m : Marked) (d : ℕ) (v : Tree (unmarked m)) → Node cs k m d v → f d ≡ make k m d v) where
    abbrev from : ℕ → List X
    from d = map f (hits (begins cs) d (landmark.last_token cs))

    rest_row : Row cs f make agree (many others) others_at w.1.0
    rest_row =
        many_row cs f make agree others others-pass others_at w.1.0
        (at_left cs (many others) (mark start the_end (word END)) others_at w.1 at_others)
        (omega (arith, ends_last)) (omega (arith, end_starts))

    first_row : Row cs f make agree first first_at w.0
    first_row =
        lines_row cs f make agree first first-passes first_at w.0
        (at_left cs first (many others then mark start the_end (word END)) first_at w at_body) (omega (arith, ends_last)) rest_row.opens

    pub all_definitions : map f (landmark.definitions cs) ≡ parts definition make (heading_then (brought then body first others)) 0 t
    unfolding landmark.definitions
    all_definitions =
        ap (map f) (hits_skip (begins cs) first_at 0 (landmark.last_token cs) (omega (arith, ends_last))
        (λ i l h. (none_starts cs i (none_before i (omega arith))).0))
        ∙ ap from (let on : 0 + first_at ≡ first_at = omega arith in on)
        ∙ first_row.row
        ∙ ap (λ l. parts definition make first first_at w.0 ++ l)
        (rest_row.row ∙ ap (λ l. parts definition make (many others) others_at w.1.0 ++ l)
        (ap (map f) (hits_none (begins cs) end_at (landmark.last_token cs) (omega (arith, ends_last)))))
        ∙ sym (ap (λ l. l ++ parts definition make (body first others) first_at w) (no_parts definition make brought bare 4 u.0))

  -- the first definition starts where the imports have ended
  pub opens_there : 0 < start_at cs first_at
  opens_there = (first_row {X = ℕ} (λ d. 0) (λ k m d v. 0) (λ k m d v n. refl)).opens

  -- ---- what is said of each

  module _ (k : ℕ) (m : Marked) (d : ℕ) (v : Tree (unmarked m)) (n : Node cs k m d v) where
    its_fields : fields_of cs d (definition_end cs d) ≡ fields_of_part k m d v
    its_fields = ap (fields_of cs d) n.ended ∙ fields_are k m n.passes v cs d n.classes n.kind

    its_numbers : oid_numbers cs (fields_of cs d (definition_end cs d)).oid ≡ numbers_of_part k m d v
    its_numbers = ap (λ (x : Fields). oid_numbers cs x.oid) its_fields ∙ numbers_are k m n.passes v cs d n.classes

    -- an OID has a number
    is_numbered : not (has_oid (kind_at cs d)) || ltb 0 (length (oid_numbers cs (fields_of cs d (definition_end cs d)).oid)) ≡ true
    is_numbered = go (has_oid k) refl
      where
        go : (b : Bool) → has_oid k ≡ b
            → not (has_oid (kind_at cs d)) || ltb 0 (length (oid_numbers cs (fields_of cs d (definition_end cs d)).oid)) ≡ true
        go true e =
            rw (n.kind, e)
            (lt-ltb 0 (length (oid_numbers cs (fields_of cs d (definition_end cs d)).oid))
            (omega (arith, ap length its_numbers, has_number k m n.passes v cs d n.classes e)))
        go false e = rw (n.kind, e)

  pub outline_is : outline cs ≡ parts definition definition_of_part (heading_then (brought then body first others)) 0 t
  unfolding outline
  outline_is = all_definitions (outlined_at cs) definition_of_part (λ k m d v n. ap (outlined d) (its_fields k m d v n))

  pub ends_are : map (λ (x : Definition). definition_end cs x.name.0) (outline cs) ≡ parts definition end_of_part (heading_then (brought then body first others)) 0 t
  unfolding outline
  ends_are =
      map-map (λ (x : Definition). definition_end cs x.name.0) (outlined_at cs) (landmark.definitions cs)
      ∙ all_definitions (definition_end cs) end_of_part (λ k m d v n. n.ended)

  pub numbers_of_all : map (λ (x : Definition). oid_numbers cs x.oid) (outline cs) ≡ parts definition numbers_of_part (heading_then (brought then body first others)) 0 t
  unfolding outline
  numbers_of_all =
      map-map (λ (x : Definition). oid_numbers cs x.oid) (outlined_at cs) (landmark.definitions cs)
      ∙ all_definitions (λ d. oid_numbers cs (fields_of cs d (definition_end cs d)).oid) numbers_of_part its_numbers

  pub each_numbered : EachNumbered cs
  unfolding fields_of
  each_numbered k h oid-kind =
      let l = landmark.definitions cs in
      let d = get_or l k 0 in
      let inside : k < length l = omega (arith, outline_counted cs) in
      let is : entry (outline cs) k ≡ outlined_at cs d = outline_entry cs k inside in
      let test : ℕ → Bool = λ i. not (has_oid (kind_at cs i)) || ltb 0
      (length (oid_numbers cs (fields_of cs i (definition_end cs i)).oid)) in
      let always : ℕ → Bool = λ i. true in
      let alike : map test l ≡ map always l =
      all_definitions test (λ j m i v. true) (λ j m i v n. is_numbered j m i v n)
      ∙ sym (all_definitions always (λ j m i v. true) (λ j m i v n. refl)) in
      let passed : test d ≡ true = sym (entry_made test l k 0 true inside) ∙ ap (λ x. get_or x k true) alike
      ∙ entry_made always l k 0 true inside in
      let kind-is : has_oid (kind_at cs d) ≡ true = ap (λ (x : Definition). has_oid x.kind) (sym is) ∙ oid-kind in
      let some : 0 < length (oid_numbers cs (fields_of cs d (definition_end cs d)).oid) =
      ltb-true 0 (length (oid_numbers cs (fields_of cs d (definition_end cs d)).oid)) (rw kind-is at passed) in
      subst (λ (x : Definition). 0 < length (oid_numbers cs x.oid)) (sym is) some

-- ---- the module of the grammar

-- nothing starts among the imports, and nothing is defined there
pub imports_quiet : T (absent start imports)
imports_quiet = tt

pub imports_bare : T (without definition imports)
imports_bare = tt

module _ (t : Tree (unmarked module_tree)) where
  abbrev classes : List ℕ
  classes = yield (unmarked module_tree) t

  pub whole : At classes module_tree 0 t
  whole = record {
    classes = stands_all classes;
    starts = λ i h.
        let on : 0 + i ≡ i = omega arith in
        ap (start_at classes) on ∙ starts_marked t i (omega (arith, marks_long start module_tree t));
  }

  pub module_outline : outline classes ≡ parts definition definition_of_part module_tree 0 t
  unfolding module_tree
  module_outline = outline_is imports identity def imports_quiet imports_bare identity_passes def_passes classes t whole refl

  pub module_ends : map (λ (x : Definition). definition_end classes x.name.0) (outline classes) ≡ parts definition end_of_part module_tree 0 t
  unfolding module_tree
  module_ends = ends_are imports identity def imports_quiet imports_bare identity_passes def_passes classes t whole refl

  pub module_numbers : map (λ (x : Definition). oid_numbers classes x.oid) (outline classes) ≡ parts definition numbers_of_part module_tree 0 t
  unfolding module_tree
  module_numbers = numbers_of_all imports identity def imports_quiet imports_bare identity_passes def_passes classes t whole refl

  pub module_numbered : EachNumbered classes
  unfolding module_tree
  module_numbered = each_numbered imports identity def imports_quiet imports_bare identity_passes def_passes classes t whole refl
