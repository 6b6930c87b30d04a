-- The rows 20 to 22 are the rules on tables, access and notifications.
-- Assumes nothing.
use mathlib.Core.Path.{◌≡◌}
use mathlib.Core.Logic.{◌⊎◌, inl, inr, ⊎_elim}
use mathlib.Core.Bool.{Bool, true, false, not, ◌||◌}
use mathlib.Core.List.{List}
use Prim.Native.Nat.{ℕ, ◌+◌, ◌-◌, ◌≤◌, ◌<◌}
use native.Mathlib.Omega.{arith}
use lib.Dec.{eqb, ltb}
use lib.ListN.{get_or}
use borrow.Author.Tests.{eqb-true, eqb-false, eq-eqb, ne_eqb, not-true}
use Rattle.index.proofs.Search.{any_at}
use Rattle.module_table.specs.declared.Definition.{Definition}
use Rattle.module_table.specs.Module.{Module, at, oid_of}
use Rattle.object_tree.specs.Words.{row, counter32, counter64, not_accessible, accessible_for_notify, read_only, read_write, read_create, is_object, is_notification, is_table, is_row, is_given, is_indexed, numbered, number_at}
use Rattle.sequence_list.specs.Named.{type_of, columns_of, names_object, names, lists, is_repeated, repeats, is_stranger, names_stranger}
use Rattle.clause_table.specs.Clause.{is_of, rows_of, is_first_under, has_its_row, rowless_table, is_row_in, stray_row, unindexed_row, indexed_object, repeating_row, misnaming_row, unlisted_column, is_index_row, unfounded_augments}
use Rattle.clause_table.proofs.OneRow.{exactly_one, one_is_all}
use Rattle.table_check.specs.Refusal.{clause_of}
use Rattle.access_check.specs.Access.{has_access, creates, is_written_column, clashes, open_table, created_alone, is_counter, is_counter_access, unfit_counter, access_clause}
use Rattle.access_check.specs.Notification.{is_not_zeroed, lists_hidden, notification_clause}
use Rattle.statements.specs.Breach.{OneRow, TableFault, rowless, stray, unindexed, indexed, repeating, misnaming, unlisted, unfounded, AccessFault, clashing, accessible, created, counter, defaulted, NotificationFault, not_zero, hidden, object_at, last_number}
use Rattle.statements.proofs.Tests.{both, joined, either, left, right, deny, fails, never, found, unfound, clause_told, clause_none, clause_here, clause_later, clause_kept, clause_keeping}

module _ (m : Module) (k : ℕ) where
  abbrev ds : List Definition
  ds = m.definitions

  abbrev d : Definition
  d = at m k

  abbrev above : Definition
  above = numbered ds d.parent

  -- a row or a table is an object
  row_object : is_row d ≡ true → is_object d ≡ true
  row_object e = (both (is_object d) _ e).0

  table_object : is_table d ≡ true → is_object d ≡ true
  table_object e = (both (is_object d) _ e).0

  -- ---- 20

  -- the one row of a SEQUENCE type
  pub row_of_type : (type r : ℕ) → is_of ds row type r ≡ true → (is_row (at m r) ≡ true) × (type_of (at m r) ≡ type)
  unfolding is_of
  row_of_type type r e = let x = both _ _ e in (x.0, eqb-true _ type x.1)

  pub of_type : (type r : ℕ) → is_row (at m r) ≡ true → type_of (at m r) ≡ type → is_of ds row type r ≡ true
  unfolding is_of
  of_type type r e is = joined e (eq-eqb _ type is)

  its_row : (r : ℕ) → OneRow m (type_of d) r → (at m r).parent ≡ k + 1 → last_number m r ≡ 1 → has_its_row ds m.numbers k ≡ true
  unfolding is_first_under
  its_row r one under first =
      let all = one_is_all ds (type_of d) r one.inside (of_type _ r one.is_one.0 one.is_one.1) (λ s h e. let x = row_of_type _ s e in one.only s h x.0 x.1) in
      joined all.0 (rw all.1 (joined (eq-eqb _ (k + 1) under) (eq-eqb _ 1 first)))

  row_its : has_its_row ds m.numbers k ≡ true → (r : ℕ) × OneRow m (type_of d) r × ((at m r).parent ≡ k + 1) × (last_number m r ≡ 1)
  unfolding is_first_under
  row_its e =
      let two = both _ _ e in
      let x = exactly_one ds (type_of d) two.0 in
      let y = both _ _ two.1 in (
        get_or (rows_of ds (type_of d)) 0 0,
        record { inside = x.0; is_one = row_of_type _ _ x.1; only = λ s h is of. x.2 s h (of_type _ s is of) },
        eqb-true _ (k + 1) y.0,
        eqb-true _ 1 y.1,
      )

  -- ---- 20, clause by clause

  rowless_told : rowless_table ds m.numbers k ≡ true → TableFault m k
  unfolding rowless_table
  rowless_told t =
      let x = both (is_table d) _ t in
      rowless x.0 (λ r one under first. never (not-true _ x.1) (its_row r one under first))

  rowless_clause : is_table d ≡ true → ((r : ℕ) → OneRow m (type_of d) r → (at m r).parent ≡ k + 1 → last_number m r ≡ 1 → ⊥) → rowless_table ds m.numbers k ≡ true
  unfolding rowless_table
  rowless_clause t none = joined t (deny (fails _ (λ has. let x = row_its has in none x.0 x.1 x.2 x.3)))

  stray_told : stray_row ds m.numbers k ≡ true → TableFault m k
  unfolding stray_row is_row_in
  stray_told t =
      let x = both (is_row d) _ t in
      stray x.0 (λ table type first. never (not-true _ x.1) (joined table (joined (eq-eqb _ _ type) (eq-eqb _ 1 first))))

  stray_clause : is_row d ≡ true → (is_table above ≡ true → type_of above ≡ type_of d → last_number m k ≡ 1 → ⊥) → stray_row ds m.numbers k ≡ true
  unfolding stray_row is_row_in
  stray_clause t none =
      joined t (deny (fails _ (λ has. let x = both (is_table above) _ has in let y = both _ _ x.1 in none x.0 (eqb-true _ _ y.0) (eqb-true _ 1 y.1))))

  unindexed_told : unindexed_row d ≡ true → TableFault m k
  unindexed_told t =
      let x = both (is_row d) _ t in
      let none = not-true (is_indexed d) x.1 in
      unindexed x.0 (fails _ (λ i. never none (left _ i))) (fails _ (λ i. never none (right (is_given d.index) i)))

  unindexed_clause : is_row d ≡ true → is_given d.index ≡ false → is_given d.augments ≡ false → unindexed_row d ≡ true
  unindexed_clause t f g = joined t (deny (fails (is_indexed d) (λ i. ⊎_elim (never f) (never g) (either _ _ i))))

  indexed_told : is_object d ≡ true → indexed_object d ≡ true → TableFault m k
  indexed_told o t = let x = both (not (is_row d)) _ t in indexed o (not-true _ x.0) (either _ _ x.1)

  indexed_clause : is_row d ≡ false → (is_given d.index ≡ true) ⊎ (is_given d.augments ≡ true) → indexed_object d ≡ true
  indexed_clause f given = joined (deny f) (⊎_elim (λ i. left _ i) (λ a. right (is_given d.index) a) given)

  repeating_told : repeating_row ds m.values k ≡ true → TableFault m k
  unfolding repeating_row repeats is_repeated
  repeating_told t =
      let x = both (is_row d) _ t in
      let j = found _ _ _ x.1 in
      let y = both (names_object ds m.values j.0) _ j.3 in
      let i = found _ _ _ y.1 in
      repeating i.0 j.0 x.0 i.1 i.2 j.2 (eqb-false _ 0 (not-true _ y.0)) (eqb-true _ _ i.3)

  repeating_clause : (i j : ℕ) → is_row d ≡ true → (columns_of ds (type_of d)).from ≤ i → i < j → j < (columns_of ds (type_of d)).to
      → (object_at m j ≡ 0 → ⊥) → object_at m i ≡ object_at m j → repeating_row ds m.values k ≡ true
  unfolding repeating_row repeats is_repeated
  repeating_clause i j t l h b some same =
      joined t
      (any_at (λ (i : ℕ). is_repeated ds m.values (columns_of ds (type_of d)).from i) _ _ j (omega arith) b
      (joined (deny (ne_eqb _ 0 some)) (any_at (names ds m.values (object_at m j)) _ _ i l h (eq-eqb _ _ same))))

  misnaming_told : misnaming_row ds m.values k ≡ true → TableFault m k
  unfolding misnaming_row names_stranger is_stranger
  misnaming_told t =
      let x = both (is_row d) _ t in
      let i = found _ _ _ x.1 in
      let y = both (names_object ds m.values i.0) _ i.3 in
      misnaming i.0 x.0 i.1 i.2 (eqb-false _ 0 (not-true _ y.0)) (eqb-false _ _ (not-true _ y.1))

  misnaming_clause : (i : ℕ) → is_row d ≡ true → (columns_of ds (type_of d)).from ≤ i → i < (columns_of ds (type_of d)).to
      → (object_at m i ≡ 0 → ⊥) → ((numbered ds (object_at m i)).parent ≡ k + 1 → ⊥) → misnaming_row ds m.values k ≡ true
  unfolding misnaming_row names_stranger is_stranger
  misnaming_clause i t l h some strange =
      joined t (any_at (is_stranger ds m.values (k + 1)) _ _ i l h (joined (deny (ne_eqb _ 0 some)) (deny (ne_eqb _ (k + 1) strange))))

  unlisted_told : is_object d ≡ true → unlisted_column ds m.values k ≡ true → TableFault m k
  unfolding unlisted_column lists
  unlisted_told o t =
      let x = both (is_row above) _ t in
      unlisted o x.0 (λ i l h is. never (not-true _ x.1) (any_at (names ds m.values (k + 1)) _ _ i l h (eq-eqb _ _ is)))

  unlisted_clause : is_row above ≡ true → ((i : ℕ) → (columns_of ds (type_of above)).from ≤ i → i < (columns_of ds (type_of above)).to → object_at m i ≡ k + 1 → ⊥)
      → unlisted_column ds m.values k ≡ true
  unfolding unlisted_column lists
  unlisted_clause t none = joined t (deny (unfound (names ds m.values (k + 1)) _ _ (λ i l h is. none i l h (eqb-true _ _ is))))

  abbrev base : Definition
  base = numbered ds (number_at m.values d.augments.from)

  unfounded_told : is_object d ≡ true → unfounded_augments ds m.values d ≡ true → TableFault m k
  unfolding unfounded_augments
  unfounded_told o t =
      let x = both (is_given d.augments) _ t in
      unfounded o x.0 (λ row index. never (not-true _ x.1) (joined row index))

  unfounded_clause : is_given d.augments ≡ true → (is_row base ≡ true → is_given base.index ≡ true → ⊥) → unfounded_augments ds m.values d ≡ true
  unfolding unfounded_augments
  unfounded_clause t none = joined t (deny (fails (is_index_row base) (λ e. let x = both (is_row base) _ e in none x.0 x.1)))

  -- the clauses, by what each says

  abbrev c1 : Bool
  c1 = rowless_table ds m.numbers k

  abbrev c2 : Bool
  c2 = stray_row ds m.numbers k

  abbrev c3 : Bool
  c3 = unindexed_row d

  abbrev c4 : Bool
  c4 = indexed_object d

  abbrev c5 : Bool
  c5 = repeating_row ds m.values k

  abbrev c6 : Bool
  c6 = misnaming_row ds m.values k

  abbrev c7 : Bool
  c7 = unlisted_column ds m.values k

  abbrev c8 : Bool
  c8 = unfounded_augments ds m.values d

  pub table_told : ltb 0 (clause_of ds m.values m.numbers k) ≡ true → TableFault m k
  unfolding clause_of
  table_told e =
      let o = clause_kept (is_object d) _ e in
      clause_told c1 0 _ o.1 rowless_told
      (λ e. clause_told c2 1 _ e stray_told
      (λ e. clause_told c3 2 _ e unindexed_told
      (λ e. clause_told c4 3 _ e (indexed_told o.0)
      (λ e. clause_told c5 4 _ e repeating_told
      (λ e. clause_told c6 5 _ e misnaming_told
      (λ e. clause_told c7 6 _ e (unlisted_told o.0)
      (λ e. clause_told c8 7 _ e (unfounded_told o.0) clause_none)))))))

  pub table_clause : TableFault m k → ltb 0 (clause_of ds m.values m.numbers k) ≡ true
  unfolding clause_of
  table_clause (rowless t none) = clause_keeping (is_object d) _ (table_object t) (clause_here c1 0 _ (rowless_clause t none))
  table_clause (stray t none) =
      clause_keeping (is_object d) _ (row_object t) (clause_later c1 0 _ (clause_here c2 1 _ (stray_clause t none)))
  table_clause (unindexed t f g) =
      clause_keeping (is_object d) _ (row_object t) (clause_later c1 0 _ (clause_later c2 1 _ (clause_here c3 2 _ (unindexed_clause t f g))))
  table_clause (indexed o f given) =
      clause_keeping (is_object d) _ o
      (clause_later c1 0 _ (clause_later c2 1 _ (clause_later c3 2 _ (clause_here c4 3 _ (indexed_clause f given)))))
  table_clause (repeating i j t l h b some same) =
      clause_keeping (is_object d) _ (row_object t)
      (clause_later c1 0 _ (clause_later c2 1 _ (clause_later c3 2 _ (clause_later c4 3 _ (clause_here c5 4 _ (repeating_clause i j t l h b some same))))))
  table_clause (misnaming i t l h some strange) =
      clause_keeping (is_object d) _ (row_object t)
      (clause_later c1 0 _ (clause_later c2 1 _ (clause_later c3 2 _ (clause_later c4 3 _ (clause_later c5 4 _
      (clause_here c6 5 _ (misnaming_clause i t l h some strange)))))))
  table_clause (unlisted o t none) =
      clause_keeping (is_object d) _ o
      (clause_later c1 0 _ (clause_later c2 1 _ (clause_later c3 2 _ (clause_later c4 3 _ (clause_later c5 4 _ (clause_later c6 5 _
      (clause_here c7 6 _ (unlisted_clause t none))))))))
  table_clause (unfounded o t none) =
      clause_keeping (is_object d) _ o
      (clause_later c1 0 _ (clause_later c2 1 _ (clause_later c3 2 _ (clause_later c4 3 _ (clause_later c5 4 _ (clause_later c6 5 _ (clause_later c7 6 _
      (clause_here c8 7 _ (unfounded_clause t none)))))))))

  -- ---- 21

  clashing_told : clashes ds m.values k ≡ true → AccessFault m k
  unfolding clashes creates has_access
  clashing_told t =
      let x = both (is_written_column ds d) _ t in
      let y = both _ (is_row above) x.0 in
      let z = both (is_object d) _ y.0 in
      let i = found _ _ _ x.1 in
      clashing i.0 z.0 (eqb-true _ read_write z.1) y.1 i.1 i.2 (eqb-true _ read_create i.3)

  clashing_clause : (i : ℕ) → is_object d ≡ true → d.access ≡ read_write → is_row above ≡ true → (columns_of ds (type_of above)).from ≤ i
      → i < (columns_of ds (type_of above)).to → (numbered ds (object_at m i)).access ≡ read_create → clashes ds m.values k ≡ true
  unfolding clashes creates has_access
  clashing_clause i o write t l h create =
      joined (joined (joined o (eq-eqb _ read_write write)) t)
      (any_at (has_access ds m.values read_create) _ _ i l h (eq-eqb _ read_create create))

  abbrev a2 : Bool
  a2 = open_table d

  accessible_told : a2 ≡ true → AccessFault m k
  accessible_told t =
      let x = both (is_table d || is_row d) _ t in
      accessible (either _ _ x.0) (eqb-false _ not_accessible (not-true _ x.1))

  accessible_clause : (is_table d ≡ true) ⊎ (is_row d ≡ true) → (d.access ≡ not_accessible → ⊥) → a2 ≡ true
  accessible_clause which other =
      joined (⊎_elim (λ t. left _ t) (λ r. right (is_table d) r) which) (deny (ne_eqb _ not_accessible other))

  created_told : is_object d ≡ true → created_alone ds d ≡ true → AccessFault m k
  created_told o t = let x = both _ _ t in created o (eqb-true _ read_create x.0) (not-true _ x.1)

  created_clause : d.access ≡ read_create → is_row above ≡ false → created_alone ds d ≡ true
  created_clause create f = joined (eq-eqb _ read_create create) (deny f)

  of_counter : is_counter d ≡ true → (d.class ≡ counter32) ⊎ (d.class ≡ counter64)
  of_counter e = ⊎_elim (λ c. inl (eqb-true _ counter32 c)) (λ c. inr (eqb-true _ counter64 c)) (either _ _ e)

  is_of_counter : (d.class ≡ counter32) ⊎ (d.class ≡ counter64) → is_counter d ≡ true
  is_of_counter which = ⊎_elim (λ c. left _ (eq-eqb _ counter32 c)) (λ c. right (eqb d.class counter32) (eq-eqb _ counter64 c)) which

  counter_told : is_object d ≡ true → unfit_counter d ≡ true → AccessFault m k
  counter_told o t =
      let x = both (is_counter d) _ t in
      ⊎_elim
      (λ unfit.
      let none = not-true (is_counter_access d) unfit in
      counter o (of_counter x.0) (λ is. never none (left _ (eq-eqb _ read_only is))) (λ is. never none (right (eqb d.access read_only) (eq-eqb _ accessible_for_notify is))))
      (λ default. defaulted o (of_counter x.0) (eqb-true _ 1 default))
      (either (not (is_counter_access d)) _ x.1)

  counter_clause : (d.class ≡ counter32) ⊎ (d.class ≡ counter64) → (d.access ≡ read_only → ⊥) → (d.access ≡ accessible_for_notify → ⊥) → unfit_counter d ≡ true
  counter_clause which p q =
      joined (is_of_counter which)
      (left _ (deny (fails (is_counter_access d) (λ e. ⊎_elim (λ x. p (eqb-true _ read_only x)) (λ x. q (eqb-true _ accessible_for_notify x)) (either _ _ e)))))

  defaulted_clause : (d.class ≡ counter32) ⊎ (d.class ≡ counter64) → d.default ≡ 1 → unfit_counter d ≡ true
  defaulted_clause which default = joined (is_of_counter which) (right (not (is_counter_access d)) (eq-eqb _ 1 default))

  abbrev a1 : Bool
  a1 = clashes ds m.values k

  abbrev a3 : Bool
  a3 = created_alone ds d

  abbrev a4 : Bool
  a4 = unfit_counter d

  pub access_told : ltb 0 (access_clause ds m.values k) ≡ true → AccessFault m k
  unfolding access_clause
  access_told e =
      let o = clause_kept (is_object d) _ e in
      clause_told a1 0 _ o.1 clashing_told
      (λ e. clause_told a2 1 _ e accessible_told
      (λ e. clause_told a3 2 _ e (created_told o.0)
      (λ e. clause_told a4 3 _ e (counter_told o.0) clause_none)))

  pub access_clauses : AccessFault m k → ltb 0 (access_clause ds m.values k) ≡ true
  unfolding access_clause
  access_clauses (clashing i o write t l h create) = clause_keeping (is_object d) _ o (clause_here a1 0 _ (clashing_clause i o write t l h create))
  access_clauses (accessible which other) =
      clause_keeping (is_object d) _ (⊎_elim table_object row_object which) (clause_later a1 0 _ (clause_here a2 1 _ (accessible_clause which other)))
  access_clauses (created o create f) =
      clause_keeping (is_object d) _ o (clause_later a1 0 _ (clause_later a2 1 _ (clause_here a3 2 _ (created_clause create f))))
  access_clauses (counter o which p q) =
      clause_keeping (is_object d) _ o (clause_later a1 0 _ (clause_later a2 1 _ (clause_later a3 2 _ (clause_here a4 3 _ (counter_clause which p q)))))
  access_clauses (defaulted o which default) =
      clause_keeping (is_object d) _ o (clause_later a1 0 _ (clause_later a2 1 _ (clause_later a3 2 _ (clause_here a4 3 _ (defaulted_clause which default)))))

  -- ---- 22

  abbrev oid : List ℕ
  oid = oid_of m k

  hidden_told : lists_hidden ds m.values d ≡ true → NotificationFault m k
  unfolding lists_hidden has_access
  hidden_told t = let i = found _ _ _ t in hidden i.0 i.1 i.2 (eqb-true _ not_accessible i.3)

  hidden_clause : (i : ℕ) → d.objects.from ≤ i → i < d.objects.to → (numbered ds (object_at m i)).access ≡ not_accessible → lists_hidden ds m.values d ≡ true
  unfolding lists_hidden has_access
  hidden_clause i l h is = any_at (has_access ds m.values not_accessible) _ _ i l h (eq-eqb _ not_accessible is)

  pub notification_told : ltb 0 (notification_clause ds m.values m.numbers k) ≡ true → (is_notification d ≡ true) × NotificationFault m k
  unfolding notification_clause
  notification_told e =
      let o = clause_kept (is_notification d) _ e in (
        o.0,
        clause_told (is_not_zeroed oid) 0 _ o.1 (λ t. not_zero (eqb-false _ 0 (not-true _ t)))
            (λ e. clause_told (lists_hidden ds m.values d) 1 _ e hidden_told clause_none),
      )

  pub notification_clauses : is_notification d ≡ true → NotificationFault m k → ltb 0 (notification_clause ds m.values m.numbers k) ≡ true
  unfolding notification_clause
  notification_clauses o (not_zero other) =
      clause_keeping (is_notification d) _ o (clause_here (is_not_zeroed oid) 0 _ (deny (ne_eqb _ 0 other)))
  notification_clauses o (hidden i l h is) =
      clause_keeping (is_notification d) _ o
      (clause_later (is_not_zeroed oid) 0 _ (clause_here (lists_hidden ds m.values d) 1 _ (hidden_clause i l h is)))
