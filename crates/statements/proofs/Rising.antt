-- The rules from 8 on stand in the order of their ranks, and those of one rank in the order of their places; so the first that
-- is broken has the earliest rank, and its first breach the earliest place. Each place is that of a token.
-- Assumes nothing.
use mathlib.Core.Path.{◌≡◌, refl, ap, ◌∙◌}
use mathlib.Core.Bool.{Bool, true, false, cond}
use mathlib.Core.List.{List, [], ◌∷◌, ◌++◌}
use Prim.Native.Nat.{ℕ, suc, ◌+◌, ◌-◌, ◌≤◌, ◌<◌}
use native.Mathlib.Omega.{arith}
use lib.ListN.{length, get_or, length-map}
use Rattle.rule.specs.Rule.{Rule, each}
use Rattle.token.specs.Token.{Meaning}
use Rattle.definition.specs.Landmark.{begins, last_token, definitions}
use Rattle.definition.specs.declared.Span.{Span}
use Rattle.module_table.specs.declared.Definition.{Definition}
use Rattle.module_table.specs.Definition.{entry}
use Rattle.scope.specs.Token.{classes_of, spelled}
use Rattle.scope.specs.Import.{imports_end}
use Rattle.outline.specs.Outline.{outline}
use Rattle.naming.specs.Rules.{too_many, introduced_again, not_offered, is_known, unfit_use, use_rules, name_rules}
use Rattle.naming.specs.Values.{named}
use Rattle.oid_head.specs.Unreached.{unreached}
use Rattle.oid_tree.specs.Refusal.{too_long, past_room}
use Rattle.oid_holder.specs.Holder.{held_twice}
use Rattle.syntax_check.specs.Refusal.{demand_number, range_rule_of, item_rule_of, indirect_convention, rules_over}
use Rattle.syntax_check.specs.declared.Demand.{Demand}
use Rattle.syntax_check.specs.declared.Demand.TheVariants.{Places, Limits}
use Rattle.syntax_check.proofs.Places.{Inside, range_rule_inside, item_rule_inside}
use Rattle.table_check.specs.Refusal.{table_broken}
use Rattle.access_check.specs.Access.{access_broken}
use Rattle.access_check.specs.Notification.{notification_broken}
use Rattle.reader.specs.Reading.{numbered, classed, module_of, oid_rules, object_rules, later_rules, rules}
use Rattle.statements.specs.Order.{ranks, is_among, ranks_before, rank}
use Rattle.statements.proofs.Ordered.{Broken, Placed}
use Rattle.statements.proofs.RisingHits.{Confined, hits_confined, confined_wider}
use Rattle.statements.proofs.RisingRun.{Run, run_row, run_one, run_then, run_within, run_each, placed_row, placed_each}
use Rattle.scope.proofs.Imports as imports
use Rattle.outline.proofs.Outline.{outline_counted}
use Rattle.statements.proofs.RisingDefinitions.{name_of, end_of, ends_before, end_inside, syntax_at_home}
use Rattle.statements.proofs.RisingModule.{Keeps, keeps_then, oids_keep, classes_keep, parents_keep, outline_name, outline_syntax}

-- 41 and 42 have one rank
one_rank : (b : Bool) → rank (cond b 42 41) ≡ rank 41
unfolding rank ranks_before is_among
one_rank true = refl
one_rank false = refl

module _ (ms : List Meaning) where
  -- how many definitions there are
  abbrev count : ℕ
  count = length (definitions (classes_of ms))

  counted : length (classes_of ms) ≡ length ms
  counted = length-map ms (λ (m : Meaning). m.class)

  -- a rule of the rank of number n whose breaches rise and are placed at tokens
  abbrev Rising : ℕ → Rule → Type 0
  Rising n r = Confined (rank n) 0 (length ms) r

  -- a rule tested at each definition, placed at its name
  of_names : (r : Rule) → r.to ≡ count → ((k : ℕ) → r.place k ≡ get_or (definitions (classes_of ms)) k 0) → Rising r.number r
  unfolding definitions
  of_names r to at =
      confined_wider (λ p l h. (l, omega (arith, counted)))
      (hits_confined (begins (classes_of ms)) 0 (last_token (classes_of ms)) r to (λ k h. at k))

  -- the same of the definitions of a stage
  of_definitions : {ds : List Definition} → Keeps (outline (classes_of ms)) ds → (r : Rule) → r.to ≡ length ds → ((k : ℕ) → r.place k ≡ (entry ds k).name.0)
      → Rising r.number r
  of_definitions keeps r to at =
      of_names r (to ∙ keeps.counted ∙ outline_counted (classes_of ms)) (λ k. at k ∙ keeps.names k ∙ outline_name (classes_of ms) k)

  -- a rule tested at tokens up to e, each placed there
  of_tokens : (r : Rule) → r.to ≤ length ms → ((i : ℕ) → r.place i ≡ i) → Rising r.number r
  of_tokens r to at = record {
    ranked = refl;
    rises = λ i j l p q. omega (arith, at i, at j);
    inside = λ i p. (omega arith, omega (arith, at i, p.below));
  }

  -- ---- the stages keep the definitions where they are

  pub named_keeps : Keeps (outline (classes_of ms)) (named ms).definitions
  named_keeps = record { counted = refl; names = λ k. refl; syntaxes = λ k. refl }

  pub numbered_keeps : Keeps (outline (classes_of ms)) (numbered ms).definitions
  numbered_keeps = keeps_then named_keeps (oids_keep (named ms))

  pub classed_keeps : Keeps (outline (classes_of ms)) (classed ms).definitions
  classed_keeps = keeps_then numbered_keeps (classes_keep (numbered ms).classes (numbered ms).values (numbered ms).definitions)

  pub module_keeps : Keeps (outline (classes_of ms)) (module_of ms).definitions
  module_keeps = keeps_then classed_keeps (parents_keep (classed ms).numbers (classed ms).definitions)

  -- ---- the rules, one by one

  too_many_rises : Rising 8 (too_many ms)
  unfolding too_many
  too_many_rises = of_names (too_many ms) refl (λ k. refl)

  introduced_again_rises : Rising 9 (introduced_again ms)
  unfolding introduced_again
  introduced_again_rises = of_tokens (introduced_again ms) (omega arith) (λ i. refl)

  not_offered_rises : Rising 10 (not_offered ms)
  unfolding not_offered
  not_offered_rises = of_tokens (not_offered ms) (omega (arith, imports.end_inside (classes_of ms), counted)) (λ i. refl)

  -- 41 or 42, at one token
  unfit_use_rises : (i : ℕ) → i < length ms → Confined (rank 41) i (suc i) (unfit_use ms i)
  unfolding unfit_use
  unfit_use_rises i h = record {
    ranked = one_rank (is_known ms (spelled ms i));
    rises = λ j k l p q. omega arith;
    inside = λ j p. (p.from, p.below);
  }

  unreached_rises : Rising 12 (unreached (named ms))
  unfolding unreached
  unreached_rises = of_definitions named_keeps (unreached (named ms)) refl (λ k. refl)

  too_long_rises : Rising 13 (too_long (named ms))
  unfolding too_long
  too_long_rises = of_definitions named_keeps (too_long (named ms)) refl (λ k. refl)

  past_room_rises : Rising 14 (past_room (named ms))
  unfolding past_room
  past_room_rises = of_definitions named_keeps (past_room (named ms)) refl (λ k. refl)

  held_twice_rises : Rising 15 (held_twice (numbered ms).definitions (numbered ms).numbers)
  unfolding held_twice
  held_twice_rises = of_definitions numbered_keeps (held_twice (numbered ms).definitions (numbered ms).numbers) refl (λ k. refl)

  abbrev objects : List Definition
  objects = (module_of ms).definitions

  table_broken_rises : Rising 20 (table_broken objects (module_of ms).values (module_of ms).numbers)
  unfolding table_broken
  table_broken_rises = of_definitions module_keeps (table_broken objects (module_of ms).values (module_of ms).numbers) refl (λ k. refl)

  access_broken_rises : Rising 21 (access_broken objects (module_of ms).values)
  unfolding access_broken
  access_broken_rises = of_definitions module_keeps (access_broken objects (module_of ms).values) refl (λ k. refl)

  notification_broken_rises : Rising 22 (notification_broken objects (module_of ms).values (module_of ms).numbers)
  unfolding notification_broken
  notification_broken_rises =
      of_definitions module_keeps (notification_broken objects (module_of ms).values (module_of ms).numbers) refl (λ k. refl)

  -- ---- the rules on syntaxes, each inside its definition

  abbrev shapes : List Definition
  shapes = (classed ms).definitions

  shapes_counted : length shapes ≡ count
  shapes_counted = classed_keeps.counted ∙ outline_counted (classes_of ms)

  -- the syntax of definition k stands between its name and its end
  module _ (k : ℕ) (h : k < count) where
    syntax_home : (name_of (classes_of ms) k ≤ (entry shapes k).syntax.from) × ((entry shapes k).syntax.from ≤ (entry shapes k).syntax.to)
        × ((entry shapes k).syntax.to ≤ end_of (classes_of ms) k)
    syntax_home =
        let home = syntax_at_home (classes_of ms) k h in
        let same = classed_keeps.syntaxes k ∙ outline_syntax (classes_of ms) k h in
        let from = ap (λ (s : Span). s.from) same in
        let to = ap (λ (s : Span). s.to) same in
        (omega (arith, home.starts, from), omega (arith, home.ordered, from, to), omega (arith, home.ends, to))

    at_home : {n : ℕ} {r : Rule} → Inside n (entry shapes k).syntax.from (entry shapes k).syntax.to r
        → Confined (rank n) (name_of (classes_of ms) k) (end_of (classes_of ms) k) r
    at_home {r = r} p = record {
      ranked = ap rank p.numbered;
      rises = λ i j l a b. omega (arith, p.placed i, p.placed j);
      inside = λ i b.
          let within = p.between i b.from b.below in
          (omega (arith, p.placed i, within.0, syntax_home.0), omega (arith, p.placed i, within.1, syntax_home.2));
    }

  -- 19: its place is the first token of the syntax
  indirect_rises : Rising 19 (indirect_convention (classed ms).classes (classed ms).values shapes)
  indirect_rises = record {
    ranked = refl;
    rises = λ i j l p q.
        let later : j < count = omega (arith, q.below, shapes_counted) in
        omega (arith, (syntax_home i (omega arith)).1, (syntax_home i (omega arith)).2, ends_before (classes_of ms) i j l later, (syntax_home j later).0);
    inside = λ i p.
        let here : i < count = omega (arith, p.below, shapes_counted) in
        (omega arith, omega (arith, (syntax_home i here).1, (syntax_home i here).2, (end_inside (classes_of ms) i here).1, (end_inside (classes_of ms) i here).0, counted));
  }

  -- ---- in a row

  -- a rule for each definition, its places inside it
  of_each : (number : ℕ) (rule : ℕ → Rule) → ((k : ℕ) → k < count → Confined (rank number) (name_of (classes_of ms) k) (end_of (classes_of ms) k) (rule k))
      → Run (rank number) (suc (rank number)) (each rule 0 (length shapes))
  unfolding each
  of_each number rule home =
      rw shapes_counted
      (run_each rule (rank number) count (name_of (classes_of ms)) (end_of (classes_of ms)) home (ends_before (classes_of ms)) (count - 0) 0 (omega arith))

  placed_of_each : (number : ℕ) (rule : ℕ → Rule) → ((k : ℕ) → k < count → Confined (rank number) (name_of (classes_of ms) k) (end_of (classes_of ms) k) (rule k))
      → Placed (length ms) (each rule 0 (length shapes))
  unfolding each
  placed_of_each number rule home =
      rw shapes_counted
      (placed_each (length ms) count rule
      (λ k h i p. omega (arith, counted, ((home k h).inside i p).1, end_inside (classes_of ms) k h))
      (count - 0) 0 (omega arith))

  -- the imports end among the tokens
  pub uses_inside : imports_end (classes_of ms) ≤ length ms
  uses_inside = omega (arith, imports.end_inside (classes_of ms), counted)

  uses_run : Run (rank 41) (suc (rank 41)) (use_rules ms)
  unfolding each
  uses_run =
      run_each (unfit_use ms) (rank 41) (length ms) (λ k. k) suc unfit_use_rises (λ j k l h. omega arith)
      (length ms - imports_end (classes_of ms)) (imports_end (classes_of ms)) (omega (arith, uses_inside))

  names_run : Run (rank 8) (suc (rank 41)) (name_rules ms)
  unfolding rank ranks_before is_among
  names_run =
      run_then (omega arith) (omega arith) too_many_rises
      (run_then (omega arith) (omega arith) introduced_again_rises
      (run_then (omega arith) (omega arith) not_offered_rises uses_run))

  oids_run : Run (rank 12) (suc (rank 15)) (oid_rules (named ms))
  unfolding oid_rules rank ranks_before is_among
  oids_run =
      run_then (omega arith) (omega arith) unreached_rises
      (run_then (omega arith) (omega arith) too_long_rises
      (run_then (omega arith) (omega arith) past_room_rises (run_one held_twice_rises)))

  abbrev ranges : Demand → ℕ → Rule
  ranges demand = range_rule_of (classed ms).classes (classed ms).values shapes demand

  abbrev items : ℕ → Rule
  items = item_rule_of (spelled ms) (classed ms).classes (classed ms).values shapes

  ranges_home : (demand : Demand) (k : ℕ) → k < count → Confined (rank (demand_number demand)) (name_of (classes_of ms) k) (end_of (classes_of ms) k) (ranges demand k)
  ranges_home demand k h = at_home k h (range_rule_inside (classed ms).classes (classed ms).values shapes k demand)

  items_home : (k : ℕ) → k < count → Confined (rank 18) (name_of (classes_of ms) k) (end_of (classes_of ms) k) (items k)
  items_home k h = at_home k h (item_rule_inside (classed ms).classes (classed ms).values shapes k (spelled ms))

  abbrev of_syntax : List Rule
  of_syntax = rules_over (spelled ms) (classed ms).classes (classed ms).values shapes

  syntax_run : Run (rank 16) (suc (rank 19)) of_syntax
  unfolding rules_over rank ranks_before is_among
  syntax_run =
      run_row (omega arith) (omega arith) (omega arith) (of_each 16 (ranges Places) (ranges_home Places))
      (run_row (omega arith) (omega arith) (omega arith) (of_each 17 (ranges Limits) (ranges_home Limits))
      (run_row (omega arith) (omega arith) (omega arith) (of_each 18 items items_home) (run_one indirect_rises)))

  abbrev of_objects : List Rule
  of_objects = object_rules objects (module_of ms).values (module_of ms).numbers

  objects_run : Run (rank 20) (suc (rank 22)) of_objects
  unfolding object_rules rank ranks_before is_among
  objects_run =
      run_then (omega arith) (omega arith) table_broken_rises
      (run_then (omega arith) (omega arith) access_broken_rises (run_one notification_broken_rises))

  pub rules_in_order : Run (rank 8) (length ranks) (rules ms)
  unfolding rules later_rules rank ranks_before is_among
  rules_in_order =
      run_row (omega arith) (omega arith) (omega arith) names_run
      (run_row (omega arith) (omega arith) (omega arith) oids_run
      (run_row (omega arith) (omega arith) (omega arith) syntax_run (run_within (omega arith) objects_run)))

  -- ---- places

  at_tokens : {n : ℕ} {r : Rule} → Confined n 0 (length ms) r → (i : ℕ) → Broken r i → r.place i < length ms
  at_tokens c i p = (c.inside i p).1

  uses_placed : Placed (length ms) (use_rules ms)
  unfolding each
  uses_placed =
      placed_each (length ms) (length ms) (unfit_use ms) (λ k h i p. omega (arith, (unfit_use_rises k h).inside i p))
      (length ms - imports_end (classes_of ms)) (imports_end (classes_of ms)) (omega (arith, uses_inside))

  names_placed : Placed (length ms) (name_rules ms)
  names_placed = (at_tokens too_many_rises, (at_tokens introduced_again_rises, (at_tokens not_offered_rises, uses_placed)))

  oids_placed : Placed (length ms) (oid_rules (named ms))
  unfolding oid_rules
  oids_placed = (at_tokens unreached_rises, (at_tokens too_long_rises, (at_tokens past_room_rises, (at_tokens held_twice_rises, tt))))

  syntax_placed : Placed (length ms) of_syntax
  unfolding rules_over
  syntax_placed =
      placed_row (length ms) (each (ranges Places) 0 (length shapes)) _ (placed_of_each 16 (ranges Places) (ranges_home Places))
      (placed_row (length ms) (each (ranges Limits) 0 (length shapes)) _ (placed_of_each 17 (ranges Limits) (ranges_home Limits))
      (placed_row (length ms) (each items 0 (length shapes)) (indirect_convention (classed ms).classes (classed ms).values shapes ∷ []) (placed_of_each 18 items items_home)
      (at_tokens indirect_rises, tt)))

  objects_placed : Placed (length ms) of_objects
  unfolding object_rules
  objects_placed = (at_tokens table_broken_rises, (at_tokens access_broken_rises, (at_tokens notification_broken_rises, tt)))

  -- each place is that of a token
  pub rules_placed : Placed (length ms) (rules ms)
  unfolding rules later_rules
  rules_placed =
      placed_row (length ms) (name_rules ms) (oid_rules (named ms) ++ (of_syntax ++ of_objects)) names_placed
      (placed_row (length ms) (oid_rules (named ms)) (of_syntax ++ of_objects) oids_placed
      (placed_row (length ms) of_syntax of_objects syntax_placed objects_placed))
