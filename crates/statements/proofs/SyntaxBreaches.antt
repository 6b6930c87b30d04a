-- The rows 16 to 19 are the rules on syntaxes.
-- Assumes nothing.
use mathlib.Core.Path.{◌≡◌, refl, ap}
use mathlib.Core.Logic.{◌⊎◌, inl, inr, ⊎_elim}
use mathlib.Core.Bool.{Bool, true, false, cond, not, ◌&&◌}
use mathlib.Core.List.{List}
use Prim.Native.Nat.{ℕ, ◌<◌}
use native.Mathlib.Omega.{arith}
use lib.Dec.{eqb, ltb}
use borrow.Author.Tests.{eqb-true, eq-eqb, not-true}
use Rattle.index.specs.First.{any}
use Rattle.index.proofs.Search.{any_at}
use Rattle.lexicon.proofs.Words.{same_equal}
use Rattle.rule.specs.Rule.{Rule}
use Rattle.token.specs.Token.{Meaning}
use Rattle.definition.specs.Landmark.{convention}
use Rattle.definition.specs.Members.{is_name}
use Rattle.definition.specs.declared.Span.{Span}
use Rattle.definition.specs.declared.Restriction.{Restriction}
use Rattle.definition.specs.declared.Restriction.TheVariants.{Free, Ranges, Sizes, Enumeration}
use Rattle.definition.specs.declared.Syntax.{Syntax}
use Rattle.definition.specs.declared.Syntax.TheVariants.{Integer, Named, Octets, ObjectIdentifier, Bits, SequenceOf}
use Rattle.module_table.specs.declared.Definition.{Definition}
use Rattle.module_table.specs.Module.{Module, at}
use Rattle.scope.specs.Token.{spelled}
use Rattle.type_class.specs.Class.{has_syntax, is_named, is_smi_lead, lead_of}
use Rattle.sub_type.specs.Number.{number_at, is_outside, range_limits, size_limits}
use Rattle.sub_type.specs.Range.{starts_range, is_pair, exceeds, limit_kind, limit_clause}
use Rattle.sub_type.specs.Refusal.{limit_rule}
use Rattle.range_list.specs.Misplaced.{is_backward, is_sharing, is_misplaced}
use Rattle.range_list.specs.Refusal.{misplaced_range}
use Rattle.range_list.proofs.Ranges.{common, sharing}
use Rattle.sub_type.specs.declared.Limits.{Limits}
use Rattle.sub_type.specs.declared.Limits.TheVariants as limits
use Rattle.enumeration.specs.Item.{item_number, has_label, has_number, item_clause}
use Rattle.enumeration.specs.Refusal.{item_rule}
use Rattle.syntax_check.specs.Refusal.{restriction_of, place_test, limit_test, enumeration_test, item_test, is_untested, range_test, items_of, range_test_rule, item_test_rule, range_rule_of, item_rule_of, indirect_convention}
use Rattle.syntax_check.specs.declared.Demand.TheVariants as demand
use Rattle.syntax_check.specs.declared.RangeTest.{RangeTest}
use Rattle.syntax_check.specs.declared.RangeTest.TheVariants.{Untested}
use Rattle.enumeration.specs.declared.Enumeration as enumeration
use Rattle.reader.specs.Reading.{classed}
use Rattle.statements.specs.Breach.{definition_count, syntax_of, Within, HasRanges, HasSizes, Misplaced, wrong_pair, shared, Outside, Misfit, range, size, HasItems, of_integer, of_bits, Misnumbered, label_twice, number_twice, outside, ModuleBreach, misplaced, misfit, misnumbered, indirect}
use Rattle.statements.proofs.Tests.{both, joined, either, left, right, deny, found, clause_told, clause_none, clause_here, clause_later, clause_passed, clause_passing}
use Rattle.statements.proofs.Ordered.{Broken, BrokenBy}
use Rattle.statements.proofs.Rising.{classed_keeps}
use Rattle.statements.proofs.NameBreaches.{spelled_same}
use Rattle.statements.proofs.OidBreaches.{all_there}
use Rattle.std.specs.Prelude.{Option, None}

module _ (m : Module) where
  abbrev cs : List ℕ
  cs = m.classes

  abbrev vs : List ℕ
  vs = m.values

  -- ---- one range

  pub place_told : (s : Span) (i : ℕ) → is_misplaced cs vs s.from i ≡ true → (starts_range cs i ≡ true) × Misplaced m s i
  unfolding is_misplaced is_backward
  place_told s i e =
      let x = both (starts_range cs i) _ e in (
        x.0,
        ⊎_elim
            (λ t. let y = both (is_pair cs i) _ t in wrong_pair y.0 (not-true _ y.1))
            (λ t.
            let f = found (is_sharing cs vs i) s.from i t in
            let y = both (starts_range cs f.0) _ f.3 in
            let z = common cs vs f.0 i y.1 in
            shared f.0 z.0 f.1 f.2 y.0 z.1 z.2)
            (either (is_backward cs vs i) _ x.1),
      )

  pub place_breach : (s : Span) (i : ℕ) → starts_range cs i ≡ true → Misplaced m s i → is_misplaced cs vs s.from i ≡ true
  unfolding is_misplaced is_backward
  place_breach s i b (wrong_pair pair not_below) = joined b (left _ (joined pair (deny not_below)))
  place_breach s i b (shared j z l h t own other) =
      joined b (right (is_backward cs vs i) (any_at (is_sharing cs vs i) s.from i j l h (joined t (sharing cs vs j i z own other))))

  -- any limits have a clause
  some_kind : (l : Limits) → ltb 0 (limit_kind l) ≡ true
  some_kind limits.Nothing = refl
  some_kind limits.Integer = refl
  some_kind limits.Unsigned = refl
  some_kind limits.Sizes = refl

  limit_told : (l : Limits) (i : ℕ) → ltb 0 (limit_clause cs vs l i) ≡ true → (starts_range cs i ≡ true) × Outside m l i
  unfolding limit_clause exceeds
  limit_told l i e =
      let o = clause_passed (starts_range cs i && exceeds cs vs l i) _ e in
      let x = both (starts_range cs i) _ o.0 in
      (x.0, either _ _ x.1)

  limit_breach : (l : Limits) (i : ℕ) → starts_range cs i ≡ true → Outside m l i → ltb 0 (limit_clause cs vs l i) ≡ true
  unfolding limit_clause exceeds
  limit_breach l i s out =
      clause_passing (starts_range cs i && exceeds cs vs l i) _
      (joined s (⊎_elim (λ low. left _ low) (λ high. right (is_outside l (number_at cs vs i)) high) out)) (some_kind l)

  -- ---- the ranges of a definition

  -- 16, by the restriction
  abbrev place_rule_by : Restriction → Rule
  place_rule_by r = range_test_rule cs vs 16 (place_test r)

  -- what is told of a range, by the brackets that it stands in
  abbrev PlaceTold : Restriction → ℕ → Type 0
  PlaceTold r i =
      (s : Span) × ((r ≡ Ranges s) ⊎ (r ≡ Sizes s)) × Within m s i × (starts_range cs i ≡ true) × Misplaced m s i

  place_of : (r : Restriction) (i : ℕ) → Broken (place_rule_by r) i → PlaceTold r ((place_rule_by r).place i)
  unfolding misplaced_range
  place_of Free i b = absurd (omega (arith, b.below))
  place_of (Ranges s) i b = let t = place_told s i b.breaks in (s, inl refl, (b.from, b.below), t.0, t.1)
  place_of (Sizes s) i b = let t = place_told s i b.breaks in (s, inr refl, (b.from, b.below), t.0, t.1)
  place_of (Enumeration s) i b = absurd (omega (arith, b.below))

  ranges_misplaced : (s : Span) (i : ℕ) → Within m s i → starts_range cs i ≡ true → Misplaced m s i → BrokenBy (place_rule_by (Ranges s)) i
  unfolding misplaced_range
  ranges_misplaced s i w b u = record {
    index = i;
    broken = record { from = w.0; below = w.1; breaks = place_breach s i b u };
    placed = refl;
  }

  sizes_misplaced : (s : Span) (i : ℕ) → Within m s i → starts_range cs i ≡ true → Misplaced m s i → BrokenBy (place_rule_by (Sizes s)) i
  sizes_misplaced s i w b u = ranges_misplaced s i w b u

  -- 17, by the class and the restriction
  abbrev limit_rule_by : ℕ → Restriction → Rule
  limit_rule_by class r = range_test_rule cs vs 17 (limit_test class r)

  abbrev LimitTold : ℕ → Restriction → ℕ → Type 0
  LimitTold class r i =
      (starts_range cs i ≡ true)
      × (((s : Span) × (r ≡ Ranges s) × Within m s i × Outside m (range_limits class) i)
      ⊎ ((s : Span) × (r ≡ Sizes s) × Within m s i × Outside m (size_limits class) i))

  limit_of : (class : ℕ) (r : Restriction) (i : ℕ) → Broken (limit_rule_by class r) i → LimitTold class r ((limit_rule_by class r).place i)
  unfolding limit_rule
  limit_of class Free i b = absurd (omega (arith, b.below))
  limit_of class (Ranges s) i b = let t = limit_told (range_limits class) i b.breaks in (t.0, inl (s, refl, (b.from, b.below), t.1))
  limit_of class (Sizes s) i b = let t = limit_told (size_limits class) i b.breaks in (t.0, inr (s, refl, (b.from, b.below), t.1))
  limit_of class (Enumeration s) i b = absurd (omega (arith, b.below))

  ranges_limited : (class : ℕ) (s : Span) (i : ℕ) → Within m s i → starts_range cs i ≡ true → Outside m (range_limits class) i
      → BrokenBy (limit_rule_by class (Ranges s)) i
  unfolding limit_rule
  ranges_limited class s i w b out = record {
    index = i;
    broken = record { from = w.0; below = w.1; breaks = limit_breach (range_limits class) i b out };
    placed = refl;
  }

  sizes_limited : (class : ℕ) (s : Span) (i : ℕ) → Within m s i → starts_range cs i ≡ true → Outside m (size_limits class) i
      → BrokenBy (limit_rule_by class (Sizes s)) i
  unfolding limit_rule
  sizes_limited class s i w b out = record {
    index = i;
    broken = record { from = w.0; below = w.1; breaks = limit_breach (size_limits class) i b out };
    placed = refl;
  }

module _ (ms : List Meaning) where
  abbrev stage : Module
  stage = classed ms

  -- ---- the items of an enumeration

  abbrev same_label : ℕ → ℕ → Bool
  same_label i = has_label (spelled ms) stage.classes i

  abbrev same_number : ℕ → ℕ → Bool
  same_number i = has_number stage.classes stage.values i

  item_told : (l : Limits) (s : Span) (i : ℕ) → ltb 0 (item_clause (spelled ms) stage.classes stage.values l s.from i) ≡ true
      → (is_name stage.classes i ≡ true) × Misnumbered ms stage l s i
  unfolding item_clause any
  item_told l s i e =
      let o = clause_passed (is_name stage.classes i) _ e in (
        o.0,
        clause_told (any (same_label i) s.from i) 0 _ o.1
            (λ t.
            let j = found (same_label i) s.from i t in
            let x = both (is_name stage.classes j.0) _ j.3 in
            label_twice j.0 j.1 j.2 x.0 (same_equal _ _ x.1))
            (λ e. clause_told (any (same_number i) s.from i) 1 _ e
            (λ t.
            let j = found (same_number i) s.from i t in
            let x = both (is_name stage.classes j.0) _ j.3 in
            number_twice j.0 j.1 j.2 x.0 x.1)
            (λ e. clause_told (is_outside l (item_number stage.classes stage.values i)) 2 _ e outside clause_none)),
      )

  item_breach : (l : Limits) (s : Span) (i : ℕ) → is_name stage.classes i ≡ true → Misnumbered ms stage l s i
      → ltb 0 (item_clause (spelled ms) stage.classes stage.values l s.from i) ≡ true
  unfolding item_clause any
  item_breach l s i n (label_twice j a b p q) =
      clause_passing (is_name stage.classes i) _ n
      (clause_here (any (same_label i) s.from i) 0 _ (any_at (same_label i) s.from i j a b (joined p (spelled_same _ _ q))))
  item_breach l s i n (number_twice j a b p q) =
      clause_passing (is_name stage.classes i) _ n
      (clause_later (any (same_label i) s.from i) 0 _
      (clause_here (any (same_number i) s.from i) 1 _ (any_at (same_number i) s.from i j a b (joined p q))))
  item_breach l s i n (outside out) =
      clause_passing (is_name stage.classes i) _ n
      (clause_later (any (same_label i) s.from i) 0 _
      (clause_later (any (same_number i) s.from i) 1 _
      (clause_here (is_outside l (item_number stage.classes stage.values i)) 2 _ out)))

  -- 18, by the syntax
  abbrev item_rule_by : Syntax → Rule
  item_rule_by x = item_test_rule (spelled ms) stage.classes stage.values (item_test x)

  abbrev ItemTold : Syntax → ℕ → Type 0
  ItemTold x i =
      (l : Limits) × (s : Span) × (((x ≡ Integer (Enumeration s)) × (l ≡ limits.Integer)) ⊎ ((x ≡ Bits (Enumeration s)) × (l ≡ limits.Unsigned)))
      × Within stage s i × (is_name stage.classes i ≡ true) × Misnumbered ms stage l s i

  abbrev items_in : Limits → Restriction → Rule
  items_in l r = item_test_rule (spelled ms) stage.classes stage.values (enumeration_test l r)

  -- an enumeration with its limits
  items_told : (l : Limits) (r : Restriction) (i : ℕ) → Broken (items_in l r) i
      → (s : Span) × (r ≡ Enumeration s) × Within stage s ((items_in l r).place i) × (is_name stage.classes ((items_in l r).place i) ≡ true)
      × Misnumbered ms stage l s ((items_in l r).place i)
  unfolding item_rule
  items_told l Free i b = absurd (omega (arith, b.below))
  items_told l (Ranges s) i b = absurd (omega (arith, b.below))
  items_told l (Sizes s) i b = absurd (omega (arith, b.below))
  items_told l (Enumeration s) i b = let t = item_told l s i b.breaks in (s, refl, (b.from, b.below), t.0, t.1)

  items_of_syntax : (x : Syntax) (i : ℕ) → Broken (item_rule_by x) i → ItemTold x ((item_rule_by x).place i)
  items_of_syntax (Integer r) i b =
      let t = items_told limits.Integer r i b in (limits.Integer, t.0, inl (ap Integer t.1, refl), t.2, t.3, t.4)
  items_of_syntax (Named t r) i b = absurd (omega (arith, b.below))
  items_of_syntax (Octets r) i b = absurd (omega (arith, b.below))
  items_of_syntax ObjectIdentifier i b = absurd (omega (arith, b.below))
  items_of_syntax (Bits r) i b =
      let t = items_told limits.Unsigned r i b in (limits.Unsigned, t.0, inr (ap Bits t.1, refl), t.2, t.3, t.4)
  items_of_syntax (SequenceOf t) i b = absurd (omega (arith, b.below))

  items_broken : (l : Limits) (s : Span) (i : ℕ) → Within stage s i → is_name stage.classes i ≡ true → Misnumbered ms stage l s i
      → BrokenBy (items_in l (Enumeration s)) i
  unfolding item_rule
  items_broken l s i w n mis = record {
    index = i;
    broken = record { from = w.0; below = w.1; breaks = item_breach l s i n mis };
    placed = refl;
  }

  -- ---- the rows, of definition k

  module _ (k : ℕ) (h : k < definition_count ms) where
    abbrev d : Definition
    d = at stage k

    abbrev r : Restriction
    r = restriction_of (syntax_of stage k)

    abbrev place_test_by : Bool → RangeTest
    place_test_by b = cond b (place_test r) Untested

    abbrev limit_test_by : Bool → RangeTest
    limit_test_by b = cond b (limit_test d.class r) Untested

    abbrev item_test_by : Bool → Option enumeration.Enumeration
    item_test_by b = cond b (item_test (syntax_of stage k)) None

    -- 16
    pub misplaced_told : (i : ℕ) → Broken (range_rule_of stage.classes stage.values stage.definitions demand.Places k) i
        → ModuleBreach ms 16 ((range_rule_of stage.classes stage.values stage.definitions demand.Places k).place i)
    unfolding range_test
    misplaced_told i = go (has_syntax d) refl
      where
        go : (b : Bool) → has_syntax d ≡ b → Broken (range_test_rule stage.classes stage.values 16 (place_test_by b)) i
            → ModuleBreach ms 16 ((range_test_rule stage.classes stage.values 16 (place_test_by b)).place i)
        go true has b =
            let t = place_of stage r i b in
            misplaced k t.0 h (⊎_elim (λ is. inl (has, is)) (λ is. inr (has, is)) t.1) t.2 t.3 t.4
        go false has b = absurd (omega (arith, b.below))

    pub misplaced_broken : (s : Span) (i : ℕ) → HasRanges stage k s ⊎ HasSizes stage k s → Within stage s i → starts_range stage.classes i ≡ true
        → Misplaced stage s i → BrokenBy (range_rule_of stage.classes stage.values stage.definitions demand.Places k) i
    unfolding range_test
    misplaced_broken s i (inl has) w b u = rw (has.0, has.1) (ranges_misplaced stage s i w b u)
    misplaced_broken s i (inr has) w b u = rw (has.0, has.1) (sizes_misplaced stage s i w b u)

    -- 17
    abbrev tested : Bool
    tested = has_syntax d && not (is_untested stage.classes stage.values stage.definitions d)

    pub misfit_told : (i : ℕ) → Broken (range_rule_of stage.classes stage.values stage.definitions demand.Limits k) i
        → ModuleBreach ms 17 ((range_rule_of stage.classes stage.values stage.definitions demand.Limits k).place i)
    unfolding range_test
    misfit_told i = go tested refl
      where
        go : (b : Bool) → tested ≡ b → Broken (range_test_rule stage.classes stage.values 17 (limit_test_by b)) i
            → ModuleBreach ms 17 ((range_test_rule stage.classes stage.values 17 (limit_test_by b)).place i)
        go true is b =
            let t = limit_of stage d.class r i b in
            let two = both (has_syntax d) _ is in
            misfit k h (not-true _ two.1) t.0
            (⊎_elim (λ x. range x.0 (two.0, x.1) x.2 x.3) (λ x. size x.0 (two.0, x.1) x.2 x.3) t.1)
        go false is b = absurd (omega (arith, b.below))

    pub misfit_broken : (i : ℕ) → is_untested stage.classes stage.values stage.definitions d ≡ false → starts_range stage.classes i ≡ true
        → Misfit stage k i → BrokenBy (range_rule_of stage.classes stage.values stage.definitions demand.Limits k) i
    unfolding range_test
    misfit_broken i f b (range s has w out) =
        rw (joined has.0 (deny f), has.1) (ranges_limited stage d.class s i w b out)
    misfit_broken i f b (size s has w out) =
        rw (joined has.0 (deny f), has.1) (sizes_limited stage d.class s i w b out)

    -- 18
    pub misnumbered_told : (i : ℕ) → Broken (item_rule_of (spelled ms) stage.classes stage.values stage.definitions k) i
        → ModuleBreach ms 18 ((item_rule_of (spelled ms) stage.classes stage.values stage.definitions k).place i)
    unfolding items_of
    misnumbered_told i = go (has_syntax d) refl
      where
        go : (b : Bool) → has_syntax d ≡ b → Broken (item_test_rule (spelled ms) stage.classes stage.values (item_test_by b)) i
            → ModuleBreach ms 18 ((item_test_rule (spelled ms) stage.classes stage.values (item_test_by b)).place i)
        go true has b =
            let t = items_of_syntax (syntax_of stage k) i b in
            misnumbered k t.0 t.1 h
            (⊎_elim
            (λ x. rw x.1 (of_integer t.1 has x.0))
            (λ x. rw x.1 (of_bits t.1 has x.0))
            t.2)
            t.3 t.4 t.5
        go false has b = absurd (omega (arith, b.below))

    pub misnumbered_broken : (l : Limits) (s : Span) (i : ℕ) → HasItems stage k l s → Within stage s i → is_name stage.classes i ≡ true
        → Misnumbered ms stage l s i → BrokenBy (item_rule_of (spelled ms) stage.classes stage.values stage.definitions k) i
    unfolding items_of
    misnumbered_broken l s i (of_integer t has is) w n mis = rw (has, is) (items_broken limits.Integer t i w n mis)
    misnumbered_broken l s i (of_bits t has is) w n mis = rw (has, is) (items_broken limits.Unsigned t i w n mis)

  -- 19
  pub indirect_told : (k : ℕ) → Broken (indirect_convention stage.classes stage.values stage.definitions) k
      → ModuleBreach ms 19 ((indirect_convention stage.classes stage.values stage.definitions).place k)
  indirect_told k b =
      let two = both (eqb (at stage k).kind convention) _ b.breaks in
      let x = both (is_named (syntax_of stage k)) _ two.1 in
      let here : k < definition_count ms = omega (arith, b.below, all_there ms (classed_keeps ms)) in
      indirect here (eqb-true _ convention two.0) x.0 (not-true _ x.1)

  pub indirect_broken : (k : ℕ) → k < definition_count ms → (at stage k).kind ≡ convention → is_named (syntax_of stage k) ≡ true
      → is_smi_lead (lead_of stage.values (syntax_of stage k)) ≡ false
      → BrokenBy (indirect_convention stage.classes stage.values stage.definitions) (at stage k).syntax.from
  indirect_broken k h is name f = record {
    index = k;
    broken = record {
      from = omega arith;
      below = omega (arith, all_there ms (classed_keeps ms));
      breaks = joined (eq-eqb _ convention is) (joined name (deny f));
    };
    placed = refl;
  }
