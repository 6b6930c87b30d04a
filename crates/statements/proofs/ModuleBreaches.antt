-- The rows from 8 on are the rules of the reader: a rule of the list is broken at a token exactly where its row says so.
-- Assumes nothing.
use mathlib.Core.Path.{◌≡◌, refl, sym, subst}
use mathlib.Core.Logic.{inl, inr}
use mathlib.Core.List.{List, [], ◌∷◌, ◌++◌}
use Prim.Native.Nat.{ℕ, zero, suc, ◌+◌, ◌-◌, ◌≤◌, ◌<◌}
use native.Mathlib.Omega.{arith}
use lib.ListN.{length}
use Rattle.rule.specs.Rule.{Rule, each, each_of}
use Rattle.token.specs.Token.{Meaning}
use Rattle.module_table.specs.Module.{Module, most_definitions}
use Rattle.scope.specs.Token.{classes_of, spelled}
use Rattle.scope.specs.Import.{imports_end}
use Rattle.naming.specs.Rules.{too_many, introduced_again, not_offered, unfit_use, use_rules, name_rules}
use Rattle.naming.specs.Values.{named}
use Rattle.oid_head.specs.Unreached as rule
use Rattle.oid_tree.specs.Refusal.{too_long, past_room}
use Rattle.oid_holder.specs.Holder.{held_twice as held-rule}
use Rattle.syntax_check.specs.Refusal.{demand_number, range_rule_of, item_rule_of, indirect_convention, rules_over}
use Rattle.syntax_check.specs.declared.Demand.{Demand}
use Rattle.syntax_check.specs.declared.Demand.TheVariants.{Places, Limits}
use Rattle.syntax_check.proofs.Places.{range_rule_inside, item_rule_inside}
use Rattle.table_check.specs.Refusal.{table_broken}
use Rattle.access_check.specs.Access.{access_broken}
use Rattle.access_check.specs.Notification.{notification_broken}
use Rattle.reader.specs.Reading.{numbered, classed, module_of, oid_rules, object_rules, later_rules, rules}
use Rattle.statements.specs.Breach.{definition_count, ModuleBreach, definition_513, iso_introduced, introduced_twice, unoffered, unknown, other_kind, unreached, long_oid, many_numbers, held_twice, misplaced, misfit, misnumbered, indirect, table_rules, access_rules, notification_rules}
use Rattle.statements.proofs.Ordered.{Broken, ◌listed_in◌, BrokenIn, broken_in, listed_before, listed_after, listed_each}
use Rattle.statements.proofs.Rising.{classed_keeps, module_keeps, uses_inside}
use Rattle.statements.proofs.NameBreaches.{many_told, many_broken, again_told, iso_broken, twice_broken, offer_told, offer_broken, use_told, unknown_broken, kind_broken}
use Rattle.statements.proofs.OidBreaches.{all_there, definition_broken, definition_told, unreached_told, unreached_broken, long_told, long_broken, room_told, room_broken, held_told, held_broken}
use Rattle.statements.proofs.SyntaxBreaches.{misplaced_told, misplaced_broken, misfit_told, misfit_broken, misnumbered_told, misnumbered_broken, indirect_told, indirect_broken}
use Rattle.statements.proofs.TableBreaches.{table_told, table_clause, access_told, access_clauses, notification_told, notification_clauses}

module _ (ms : List Meaning) where
  -- ---- a rule that is broken is broken by its row

  -- each breach of the rule is told by a row
  abbrev Told : Rule → Type 0
  Told r = (i : ℕ) → Broken r i → ModuleBreach ms r.number (r.place i)

  abbrev AllTold : List Rule → Type 0
  AllTold [] = Unit {0}
  AllTold (r ∷ rs) = Told r × AllTold rs

  told_listed : (rs : List Rule) → AllTold rs → (r : Rule) → r listed_in rs → Told r
  told_listed [] all r none = elim none [ ]
  told_listed (s ∷ rs) all r (inl same) = subst Told (sym same) all.0
  told_listed (s ∷ rs) all r (inr l) = told_listed rs all.1 r l

  told_row : (rs ss : List Rule) → AllTold rs → AllTold ss → AllTold (rs ++ ss)
  told_row [] ss p q = q
  told_row (r ∷ rs) ss p q = (p.0, told_row rs ss p.1 q)

  told_each : (f : ℕ → Rule) (b c : ℕ) → ((k : ℕ) → b ≤ k → k < c → Told (f k)) → (n a : ℕ) → b ≤ a → a + n ≤ c → AllTold (each_of f a n)
  unfolding each_of
  told_each f b c p zero a l h = tt
  told_each f b c p (suc n) a l h = (p a l (omega arith), told_each f b c p n (suc a) (omega arith) (omega arith))

  abbrev shapes : Module
  shapes = classed ms

  -- a rule for each definition
  told_of_each : (f : ℕ → Rule) → ((k : ℕ) → k < definition_count ms → Told (f k)) → AllTold (each f 0 (length shapes.definitions))
  unfolding each
  told_of_each f p =
      told_each f 0 (length shapes.definitions) (λ k l h. p k (omega (arith, all_there ms (classed_keeps ms)))) (length shapes.definitions - 0) 0 (omega arith) (omega arith)

  abbrev m : Module
  m = module_of ms

  abbrev tables : Rule
  tables = table_broken m.definitions m.values m.numbers

  abbrev accesses : Rule
  accesses = access_broken m.definitions m.values

  abbrev notifications : Rule
  notifications = notification_broken m.definitions m.values m.numbers

  tables_told : (k : ℕ) → Broken tables k → ModuleBreach ms 20 (tables.place k)
  unfolding table_broken
  tables_told k b = definition_told ms (module_keeps ms) 20 _ _ _ k b (λ h e. table_rules h (table_told m k e))

  accesses_told : (k : ℕ) → Broken accesses k → ModuleBreach ms 21 (accesses.place k)
  unfolding access_broken
  accesses_told k b = definition_told ms (module_keeps ms) 21 _ _ _ k b (λ h e. access_rules h (access_told m k e))

  notifications_told : (k : ℕ) → Broken notifications k → ModuleBreach ms 22 (notifications.place k)
  unfolding notification_broken
  notifications_told k b =
      definition_told ms (module_keeps ms) 22 _ _ _ k b (λ h e. let x = notification_told m k e in notification_rules h x.0 x.1)

  -- a rule for each token after the imports
  abbrev end : ℕ
  end = imports_end (classes_of ms)

  uses_told : AllTold (use_rules ms)
  unfolding each
  uses_told =
      told_each (unfit_use ms) end (length ms) (λ k l h. use_told ms k l h) (length ms - end) end (omega arith) (omega (arith, uses_inside ms))

  names_told : AllTold (name_rules ms)
  unfolding too_many introduced_again not_offered
  names_told = (many_told ms, (again_told ms, (offer_told ms, uses_told)))

  oids_told : AllTold (oid_rules (named ms))
  unfolding oid_rules rule.unreached too_long past_room held-rule
  oids_told = (unreached_told ms, (long_told ms, (room_told ms, (held_told ms, tt))))

  abbrev ranges : Demand → ℕ → Rule
  ranges demand = range_rule_of shapes.classes shapes.values shapes.definitions demand

  abbrev items : ℕ → Rule
  items = item_rule_of (spelled ms) shapes.classes shapes.values shapes.definitions

  abbrev conventions : Rule
  conventions = indirect_convention shapes.classes shapes.values shapes.definitions

  abbrev of_syntax : List Rule
  of_syntax = rules_over (spelled ms) shapes.classes shapes.values shapes.definitions

  ranges_numbered : (demand : Demand) (k : ℕ) → (ranges demand k).number ≡ demand_number demand
  ranges_numbered demand k = (range_rule_inside shapes.classes shapes.values shapes.definitions k demand).numbered

  items_numbered : (k : ℕ) → (items k).number ≡ 18
  items_numbered k = (item_rule_inside shapes.classes shapes.values shapes.definitions k (spelled ms)).numbered

  syntax_told : AllTold of_syntax
  unfolding rules_over
  syntax_told =
      told_row (each (ranges Places) 0 (length shapes.definitions)) _ (told_of_each (ranges Places) (λ k h i b. rw (ranges_numbered Places k) (misplaced_told ms k h i b)))
      (told_row (each (ranges Limits) 0 (length shapes.definitions)) _ (told_of_each (ranges Limits) (λ k h i b. rw (ranges_numbered Limits k) (misfit_told ms k h i b)))
      (told_row (each items 0 (length shapes.definitions)) (conventions ∷ []) (told_of_each items (λ k h i b. rw (items_numbered k) (misnumbered_told ms k h i b)))
      (indirect_told ms, tt)))

  abbrev of_objects : List Rule
  of_objects = object_rules m.definitions m.values m.numbers

  objects_told : AllTold of_objects
  unfolding object_rules table_broken access_broken notification_broken
  objects_told = (tables_told, (accesses_told, (notifications_told, tt)))

  all_told : AllTold (rules ms)
  unfolding rules later_rules
  all_told =
      told_row (name_rules ms) (later_rules ms) names_told
      (told_row (oid_rules (named ms)) (of_syntax ++ of_objects) oids_told (told_row of_syntax of_objects syntax_told objects_told))

  pub row_of_rule : (number token : ℕ) → BrokenIn (rules ms) number token → ModuleBreach ms number token
  row_of_rule number token x = rw (x.numbered, x.placed) at (told_listed (rules ms) all_told x.rule x.listed x.index x.broken)

  -- ---- a row breaks its rule

  by_names : (r : Rule) → r listed_in name_rules ms → r listed_in rules ms
  unfolding rules
  by_names r l = listed_before r (name_rules ms) (later_rules ms) l

  by_uses : (i : ℕ) → imports_end (classes_of ms) ≤ i → i < length ms → unfit_use ms i listed_in rules ms
  unfolding each
  by_uses i l h = by_names _ (inr (inr (inr (listed_each (unfit_use ms) end (length ms - end) i l (omega arith)))))

  by_oids : (r : Rule) → r listed_in oid_rules (named ms) → r listed_in rules ms
  unfolding rules later_rules
  by_oids r l = listed_after r (name_rules ms) (later_rules ms) (listed_before r (oid_rules (named ms)) (of_syntax ++ of_objects) l)

  by_syntax : (r : Rule) → r listed_in of_syntax → r listed_in rules ms
  unfolding rules later_rules
  by_syntax r l =
      listed_after r (name_rules ms) (later_rules ms)
      (listed_after r (oid_rules (named ms)) (of_syntax ++ of_objects) (listed_before r of_syntax of_objects l))

  by_objects : (r : Rule) → r listed_in of_objects → r listed_in rules ms
  unfolding rules later_rules
  by_objects r l =
      listed_after r (name_rules ms) (later_rules ms)
      (listed_after r (oid_rules (named ms)) (of_syntax ++ of_objects) (listed_after r of_syntax of_objects l))

  -- one of a rule for each definition
  one_of : (f : ℕ → Rule) (k : ℕ) → k < definition_count ms → f k listed_in each f 0 (length shapes.definitions)
  unfolding each
  one_of f k h = listed_each f 0 (length shapes.definitions - 0) k (omega arith) (omega (arith, all_there ms (classed_keeps ms)))

  by_ranges : (k : ℕ) → k < definition_count ms → ranges Places k listed_in of_syntax
  unfolding rules_over
  by_ranges k h = listed_before (ranges Places k) (each (ranges Places) 0 (length shapes.definitions)) _ (one_of (ranges Places) k h)

  by_limits : (k : ℕ) → k < definition_count ms → ranges Limits k listed_in of_syntax
  unfolding rules_over
  by_limits k h =
      listed_after (ranges Limits k) (each (ranges Places) 0 (length shapes.definitions)) _
      (listed_before (ranges Limits k) (each (ranges Limits) 0 (length shapes.definitions)) _ (one_of (ranges Limits) k h))

  by_items : (k : ℕ) → k < definition_count ms → items k listed_in of_syntax
  unfolding rules_over
  by_items k h =
      listed_after (items k) (each (ranges Places) 0 (length shapes.definitions)) _
      (listed_after (items k) (each (ranges Limits) 0 (length shapes.definitions)) _
      (listed_before (items k) (each items 0 (length shapes.definitions)) (conventions ∷ []) (one_of items k h)))

  by_conventions : conventions listed_in of_syntax
  unfolding rules_over
  by_conventions =
      listed_after conventions (each (ranges Places) 0 (length shapes.definitions)) _
      (listed_after conventions (each (ranges Limits) 0 (length shapes.definitions)) _
      (listed_after conventions (each items 0 (length shapes.definitions)) (conventions ∷ []) (inl refl)))

  pub rule_of_row : (number token : ℕ) → ModuleBreach ms number token → BrokenIn (rules ms) number token
  unfolding oid_rules object_rules too_many introduced_again not_offered rule.unreached too_long past_room held-rule table_broken access_broken notification_broken
  rule_of_row number token (definition_513 {k} h is) =
      let that : k ≡ most_definitions = omega arith in
      broken_in (too_many ms) (by_names _ (inl refl)) refl (many_broken ms k h that)
  rule_of_row number token (iso_introduced h e is) = broken_in (introduced_again ms) (by_names _ (inr (inl refl))) refl (iso_broken ms token h e is)
  rule_of_row number token (introduced_twice j h e l f is) =
      broken_in (introduced_again ms) (by_names _ (inr (inl refl))) refl (twice_broken ms token j h e l f is)
  rule_of_row number token (unoffered h e f) = broken_in (not_offered ms) (by_names _ (inr (inr (inl refl)))) refl (offer_broken ms token h e f)
  rule_of_row number token (unknown l h some none) =
      let b = unknown_broken ms token l h some none in broken_in (unfit_use ms token) (by_uses token l h) b.1 b.0
  rule_of_row number token (other_kind l h known f) =
      let b = kind_broken ms token l h known f in broken_in (unfit_use ms token) (by_uses token l h) b.1 b.0
  rule_of_row number token (unreached {k} h e none) =
      broken_in (rule.unreached (named ms)) (by_oids _ (inl refl)) refl (unreached_broken ms k h e none)
  rule_of_row number token (long_oid {k} h l) = broken_in (too_long (named ms)) (by_oids _ (inr (inl refl))) refl (long_broken ms k h l)
  rule_of_row number token (many_numbers {k} h few many) =
      broken_in (past_room (named ms)) (by_oids _ (inr (inr (inl refl)))) refl (room_broken ms k h few many)
  rule_of_row number token (held_twice {k} j h l own other is) =
      broken_in (held-rule (numbered ms).definitions (numbered ms).numbers) (by_oids _ (inr (inr (inr (inl refl))))) refl (held_broken ms k j h l own other is)
  rule_of_row number token (misplaced k s h has w b u) =
      broken_in (ranges Places k) (by_syntax _ (by_ranges k h)) (ranges_numbered Places k) (misplaced_broken ms k h s token has w b u)
  rule_of_row number token (misfit k h f b mis) =
      broken_in (ranges Limits k) (by_syntax _ (by_limits k h)) (ranges_numbered Limits k) (misfit_broken ms k h token f b mis)
  rule_of_row number token (misnumbered k l s h has w n mis) =
      broken_in (items k) (by_syntax _ (by_items k h)) (items_numbered k) (misnumbered_broken ms k h l s token has w n mis)
  rule_of_row number token (indirect {k} h is name f) = broken_in conventions (by_syntax _ by_conventions) refl (indirect_broken ms k h is name f)
  rule_of_row number token (table_rules {k} h fault) =
      broken_in tables (by_objects _ (inl refl)) refl (definition_broken ms (module_keeps ms) 20 _ _ _ k h (table_clause m k fault))
  rule_of_row number token (access_rules {k} h fault) =
      broken_in accesses (by_objects _ (inr (inl refl))) refl (definition_broken ms (module_keeps ms) 21 _ _ _ k h (access_clauses m k fault))
  rule_of_row number token (notification_rules {k} h is fault) =
      broken_in notifications (by_objects _ (inr (inr (inl refl)))) refl
      (definition_broken ms (module_keeps ms) 22 _ _ _ k h (notification_clauses m k is fault))
